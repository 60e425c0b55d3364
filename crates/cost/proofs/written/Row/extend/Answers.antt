use Rattle.std.proofs.Common.{◌≡◌, length, get_or, pos, rules}
use Rattle.std.proofs.lemmas.List.{take_all}
use Rattle.cost.specs.Rows.{numbers_of}
use Rattle.cost.proofs.Room.{begun, full, further, pushed}
use Rattle.cost.proofs.written.Row.extend.Goals as goal
use Rattle.cost.proofs.written.Row.extend.Goals.{then-self-lt-MOST_NUMBERS, else-self-lt-MOST_NUMBERS}

pub loop-number-init : goal.loop-number-init
loop-number-init c =
    let long : length c.args.self.now.numbers ≡ 19 = search rules in
    (long, begun c.args.self.now.numbers c.args.self.now.count long)

pub loop-number-preserved : goal.loop-number-preserved
loop-number-preserved c =
    let row = c.loop-number.self in
    let number = get_or c.args.numbers.now c.loop-number.number-index (pos 0) in
    let long = c.loop-number.invariant.0 in
    let e = further (numbers_of c.args.self.now) c.args.numbers.now c.loop-number.number-index c.loop-number-test.true in
    elim c.if-self-lt-MOST_NUMBERS.branch [
      | then-self-lt-MOST_NUMBERS w ↦ (let p = pushed row.numbers row.count long number w.if-self-lt-MOST_NUMBERS.true in search rules)
      | else-self-lt-MOST_NUMBERS w ↦ (let p = full row.numbers row.count long number w.if-self-lt-MOST_NUMBERS.false in search rules)
    ]

pub returns : goal.returns
returns c =
    let all = take_all c.loop-number.number-index c.args.numbers.now c.loop-number-test.false in
    search rules
