use Rattle.std.proofs.Common.{◌≡◌, length, rules}
use Rattle.std.proofs.lemmas.List.{take_min}
use Rattle.cost.proofs.written.Row.as_slice.Goals as goal

pub returns : goal.returns
returns c =
    let long : length c.args.self.now.numbers ≡ 19 = search rules in
    let all = take_min c.args.self.now.count c.args.self.now.numbers in
    search rules
