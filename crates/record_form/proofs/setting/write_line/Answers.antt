use Rattle.std.proofs.Common.{[], ◌∷◌, ◌++◌}
use Rattle.text.specs.Writing.{spaced}
use Rattle.text.proofs.Overwriting.{room_front, room_then, appends_then}
use Rattle.record_form.proofs.setting.write_line.Goals as goal

pub bytes-requires : goal.bytes-requires
bytes-requires c = room_front c.args.writer.now c.args.start.now (spaced c.args.numbers.now ++ (10 ∷ [])) c.requires

pub numbers-requires : goal.numbers-requires
numbers-requires c = room_front c.bytes.new.self (spaced c.args.numbers.now) (10 ∷ []) (room_then c.args.start.now (spaced c.args.numbers.now ++ (10 ∷ [])) c.requires c.bytes.ensures)

pub byte-requires : goal.byte-requires
byte-requires c =
    let numbers = spaced c.args.numbers.now in
    room_then numbers (10 ∷ []) (room_then c.args.start.now (numbers ++ (10 ∷ [])) c.requires c.bytes.ensures) c.numbers.ensures

pub returns : goal.returns
returns c =
    let numbers = spaced c.args.numbers.now in
    let rest = room_then c.args.start.now (numbers ++ (10 ∷ [])) c.requires c.bytes.ensures in
    appends_then c.args.start.now (numbers ++ (10 ∷ [])) c.requires c.bytes.ensures
    (appends_then numbers (10 ∷ []) rest c.numbers.ensures c.byte.ensures)
