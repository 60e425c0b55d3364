use Rattle.std.proofs.Common.{◌++◌, codes, rules}
use Rattle.text.specs.Writing.{Appends}
use Rattle.text.proofs.Overwriting.{room_then, appends_then}
use Rattle.record_form.specs.Lines.{line}
use Rattle.record.proofs.outlines.Outline.write.Goals as goal

pub returns : goal.returns
returns c =
    let o = c.args.self.now in
    let first = line o.start o.counts in
    let second = line (codes "sup") o.supplies.items in
    let third = line (codes "from") o.ends.tails.items in
    let fourth = line (codes "to") o.ends.heads.items in
    let two : Appends second c.write_line.new.writer c.write_line-2.new.writer = search rules in
    let three : Appends third c.write_line-2.new.writer c.write_line-3.new.writer = search rules in
    let four : Appends fourth c.write_line-3.new.writer c.write_line-4.new.writer = search rules in
    let room₁ = room_then first (second ++ (third ++ fourth)) c.requires c.write_line.ensures in
    let room₂ = room_then second (third ++ fourth) room₁ two in
    appends_then first (second ++ (third ++ fourth)) c.requires c.write_line.ensures (appends_then second (third ++ fourth) room₁ two (appends_then third fourth room₂ three four))
