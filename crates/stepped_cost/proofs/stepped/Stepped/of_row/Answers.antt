use Rattle.std.proofs.Common.{◌≡◌, ℕ, get_or, take, drop, pos, sym, ap, ◌∙◌, w64, SFits, rules}
use Rattle.std.proofs.lemmas.List.{take_rest}
use Rattle.std.proofs.lemmas.Int.{to_z-of_z}
use Rattle.cost.specs.Meaning.{natural}
use Rattle.cost.specs.Rows.{whole_row}
use Rattle.stepped_cost.specs.StepRows.{stepped_length, row_widths, row_slopes}
use Rattle.stepped_cost.specs.StepRowsLemmas.{counted, stepped_of_row}
use Rattle.stepped_cost.proofs.stepped.Stepped.of_row.Goals as goal

pub returns : goal.returns
returns c =
    let xs = c.args.numbers.now in
    let first : SFits w64 (get_or xs 1 (pos 0)) = search rules in
    let opening : SFits w64 (get_or xs 2 (pos 0)) = search rules in
    let count = counted (whole_row stepped_length xs) c.in_ok-count.count (natural (get_or xs 0 (pos 0))) (sym c.in_ok-count.ensures.ok_part ∙ c.count_of.ensures) in
    let rest = take_rest xs 3 in
    let widths : c.split_at.result.0.now ≡ row_widths xs =
    c.split_at.ensures.front ∙ ap (take c.in_ok-count.count) rest ∙ ap (λ (n : ℕ). take n (drop 3 xs)) count.1 in
    let slopes : c.split_at.result.1.now ≡ row_slopes xs =
    c.split_at.ensures.back ∙ ap (drop c.in_ok-count.count) rest ∙ ap (λ (n : ℕ). drop n (drop 3 xs)) count.1 in
    let made = simp to_z-of_z at c.new.ensures.answer in
    let row = stepped_of_row xs c.new.result count.0 (rw (widths, slopes) at made) in
    record { answer = row.0; filled = row.1 }
