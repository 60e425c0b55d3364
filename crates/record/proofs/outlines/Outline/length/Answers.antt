use Rattle.std.proofs.Common.{List, length, ℤ, codes, ap, ◌∙◌, arith}
use Rattle.record_form.specs.Lines.{line}
use Rattle.record.proofs.Listed.{four_long}
use Rattle.record.proofs.outlines.Outline.length.Goals as goal

pub returns-clause-length : goal.returns-clause-length
returns-clause-length c =
    let o = c.args.self.now in
    let all = four_long (line o.start o.counts) (line (codes "sup") o.supplies.items) (line (codes "from") o.ends.tails.items) (line (codes "to") o.ends.heads.items) in
    let second = c.line_length-second.ensures.length ∙ ap (λ (xs : List ℤ). length (line (codes "sup") xs)) c.as_slice.ensures.value in
    let third = c.line_length-third.ensures.length ∙ ap (λ (xs : List ℤ). length (line (codes "from") xs)) c.as_slice-2.ensures.value in
    let fourth = c.line_length-fourth.ensures.length ∙ ap (λ (xs : List ℤ). length (line (codes "to") xs)) c.as_slice-3.ensures.value in
    omega (arith, all, c.line_length-first.ensures.length, second, third, fourth)
