use Rattle.std.proofs.Common.{get_or, pos, w64, SFits, rules}
use Rattle.std.proofs.lemmas.Int.{to_z-of_z}
use Rattle.quadratic_cost.specs.Squares.{quadratic_of_row}
use Rattle.quadratic_cost.proofs.quadratic.Quadratic.of_row.Goals as goal

pub returns-in-len3 : goal.returns-in-len3
returns-in-len3 c =
    let xs = c.args.numbers.now in
    let a : SFits w64 (get_or xs 0 (pos 0)) = search rules in
    let b : SFits w64 (get_or xs 1 (pos 0)) = search rules in
    let c' : SFits w64 (get_or xs 2 (pos 0)) = search rules in
    let row = quadratic_of_row xs c.new.result (search rules) (simp to_z-of_z at c.new.ensures.answer) in
    record { answer = row.0; filled = row.1 }
