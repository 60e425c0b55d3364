use Rattle.std.proofs.Common.{◌≡◌, Some, None, sym, refl, ◌∙◌, arith, rules}
use Rattle.std.specs.List.{slice_get}
use Rattle.text.specs.Walks.{text_of}
use Rattle.text.proofs.Calls.{makes, refuses}
use Rattle.text.proofs.Runs.{line_end_here, further_field, no_line_end}
use Rattle.text.proofs.cursor.Cursor.line_end.Goals as goal
use Rattle.text.proofs.cursor.Cursor.line_end.Goals.{in_default-via-in-Some+in_default, in_default-via-in_default}

pub returns-in-Some-eq10 : goal.returns-in-Some-eq10
returns-in-Some-eq10 c =
    let is : slice_get (text_of c.args.self.now) c.args.self.now.at ≡ Some 10 = search rules in
    makes tt (line_end_here _ _ is) refl

pub returns-in-Some-eq32 : goal.returns-in-Some-eq32
returns-in-Some-eq32 c =
    let is : slice_get (text_of c.args.self.now) c.args.self.now.at ≡ Some 32 = search rules in
    refuses _ (further_field _ _ is) refl refl

pub returns-in_default : goal.returns-in_default
returns-in_default c =
    elim c.in_default.branch [
      | in_default-via-in-Some+in_default w ↦
          (let other : w.in_default.field-0 ≡ 10 → ⊥ = search rules in
          let more : w.in_default.field-0 ≡ 32 → ⊥ = search rules in
          rw c.malformed.ensures (refuses _ (no_line_end _ _ _ (sym c.byte.ensures ∙ w.in_default.is) other more) refl refl))
      | in_default-via-in_default w ↦
          (rw c.malformed.ensures (refuses _ (no_line_end _ _ None (sym c.byte.ensures ∙ w.in_default.is) (λ e. omega arith) (λ e. omega arith)) refl refl))
    ]
