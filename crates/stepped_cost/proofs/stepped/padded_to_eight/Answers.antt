use Rattle.std.proofs.Common.{length, ◌++◌, drop, replicate, pos, ap, ◌∙◌, List, ℤ}
use Rattle.std.proofs.lemmas.List.{drop-replicate}
use Rattle.stepped_cost.proofs.stepped.padded_to_eight.Goals as goal

pub returns : goal.returns
returns c =
    let xs = c.args.numbers.now in
    let zeros = drop-replicate (length xs) 8 (pos 0) in
    ap (λ (ys : List ℤ). ys ++ drop (length xs) (replicate 8 (pos 0))) c.copy_from_slice.ensures.after ∙ ap (λ (ys : List ℤ). xs ++ ys) zeros
