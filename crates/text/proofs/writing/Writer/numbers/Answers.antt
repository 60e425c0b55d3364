use Rattle.std.proofs.Common.{◌∷◌, get_or, pos, w64, SFits, rules}
use Rattle.std.proofs.lemmas.Int.{to_z-of_z}
use Rattle.text.specs.Fields.{decimal}
use Rattle.text.specs.Writing.{Appends}
use Rattle.text.proofs.Spaces.{room_more, appends_more}
use Rattle.text.proofs.writing.Writer.numbers.Goals as goal

pub spaced-requires : goal.spaced-requires
spaced-requires c =
    let fits : SFits w64 (get_or c.args.numbers.now c.loop-number.number-index (pos 0)) = search rules in
    simp to_z-of_z (room_more c.args.numbers.now c.loop-number.number-index c.requires c.loop-number.invariant c.loop-number-test.true)

pub loop-number-preserved : goal.loop-number-preserved
loop-number-preserved c =
    let one : Appends (32 ∷ decimal (get_or c.args.numbers.now c.loop-number.number-index (pos 0))) c.loop-number.self c.spaced.new.self = search rules in
    appends_more c.args.numbers.now c.loop-number.number-index c.requires c.loop-number.invariant c.loop-number-test.true one
