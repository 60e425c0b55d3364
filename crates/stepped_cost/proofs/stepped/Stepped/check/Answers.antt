use Rattle.std.proofs.Common.{◌≡◌, None, rules}
use Rattle.stepped_cost.specs.Stepped.{stepped_outside}
use Rattle.stepped_cost.specs.Pieces.{numbers_fit}
use Rattle.stepped_cost.proofs.stepped.Stepped.check.Goals as goal

pub check_length-requires : goal.check_length-requires
check_length-requires c =
    let none : stepped_outside c.args.first c.args.opening c.args.widths.now c.args.slopes.now ≡ None = search rules in
    let fit = numbers_fit c.args.first c.args.opening c.args.widths.now c.args.slopes.now none in
    search rules
