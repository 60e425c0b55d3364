-- Supplies and arcs that are handed over one by one.
use Rattle.std.proofs.Common.{◌≡◌, ℕ, ◌+◌, ◌<◌, ◌≤◌, List, ◌∷◌, length, get_or, drop, ℤ, pos, Some, None, Ok, Err, Option, sym, ap, ◌∙◌, arith}
use Rattle.std.proofs.lemmas.List.{drop_all, drop_more}
use Rattle.sheet.specs.Drafts.{Sketch, feed_refusal, lay_refusal, with_arc, with_fed}
use Rattle.ledger.specs.declared.faults.DraftFault.{DraftFault}
use Rattle.cost.specs.Places.{kept_or}
use Rattle.record.specs.Faults.{spot}
use Rattle.record.specs.Readings.{fed, laid, unless_refused}
use Rattle.record.specs.declared.faults.RecordFault.TheVariants.{Draft}

-- the supplies from a place on
module _ (k : Sketch) (xs : List ℤ) (i : ℕ) where
  next_fed : i < length xs → fed k (i + 2) (drop i xs) ≡ fed k (i + 2) (get_or xs i (pos 0) ∷ drop (i + 1) xs)
  next_fed h = ap (fed k (i + 2)) (drop_more xs i (pos 0) h)

  pub fed_more : i < length xs → (after : Sketch) → feed_refusal k (get_or xs i (pos 0)) ≡ None → after ≡ kept_or k (feed_refusal k (get_or xs i (pos 0))) (with_fed k (get_or xs i (pos 0)))
      → fed k (i + 2) (drop i xs) ≡ fed after (i + 1 + 2) (drop (i + 1) xs)
  fed_more h after none is =
      let same : with_fed k (get_or xs i (pos 0)) ≡ after = sym (is ∙ ap (λ (r : Option DraftFault). kept_or k r (with_fed k (get_or xs i (pos 0)))) none) in
      next_fed h
      ∙ ap (λ (r : Option DraftFault). unless_refused r (spot 2 (i + 2)) (fed (with_fed k (get_or xs i (pos 0))) (i + 2 + 1) (drop (i + 1) xs))) none
      ∙ ap (λ (field : ℕ). fed (with_fed k (get_or xs i (pos 0))) field (drop (i + 1) xs)) (omega arith)
      ∙ ap (λ (k' : Sketch). fed k' (i + 1 + 2) (drop (i + 1) xs)) same

  pub fed_refused : i < length xs → {fault : DraftFault} → feed_refusal k (get_or xs i (pos 0)) ≡ Some fault → fed k (i + 2) (drop i xs) ≡ Err (Draft fault (spot 2 (i + 2)))
  fed_refused h some = next_fed h ∙ ap (λ (r : Option DraftFault). unless_refused r (spot 2 (i + 2)) (fed (with_fed k (get_or xs i (pos 0))) (i + 2 + 1) (drop (i + 1) xs))) some

  pub fed_all : length xs ≤ i → fed k (i + 2) (drop i xs) ≡ Ok k
  fed_all h = ap (fed k (i + 2)) (drop_all i xs h)

-- the arcs from a place on
module _ (k : Sketch) (ts hs : List ℤ) (i : ℕ) where
  module _ (t h : ℤ) (here : i < length ts) (there : i < length hs) (tail : t ≡ get_or ts i (pos 0)) (head : h ≡ get_or hs i (pos 0)) where
    next_laid : laid k (i + 2) (drop i ts) (drop i hs) ≡ laid k (i + 2) (t ∷ drop (i + 1) ts) (h ∷ drop (i + 1) hs)
    next_laid =
        ap (λ (xs : List ℤ). laid k (i + 2) xs (drop i hs)) (drop_more ts i (pos 0) here ∙ ap (λ (x : ℤ). x ∷ drop (i + 1) ts) (sym tail))
        ∙ ap (laid k (i + 2) (t ∷ drop (i + 1) ts)) (drop_more hs i (pos 0) there ∙ ap (λ (x : ℤ). x ∷ drop (i + 1) hs) (sym head))

    pub laid_more : (after : Sketch) → lay_refusal k t h ≡ None → after ≡ kept_or k (lay_refusal k t h) (with_arc k t h)
        → laid k (i + 2) (drop i ts) (drop i hs) ≡ laid after (i + 1 + 2) (drop (i + 1) ts) (drop (i + 1) hs)
    laid_more after none is =
        let same : with_arc k t h ≡ after = sym (is ∙ ap (λ (r : Option DraftFault). kept_or k r (with_arc k t h)) none) in
        next_laid
        ∙ ap (λ (r : Option DraftFault). unless_refused r (spot 4 (i + 2)) (laid (with_arc k t h) (i + 2 + 1) (drop (i + 1) ts) (drop (i + 1) hs))) none
        ∙ ap (λ (field : ℕ). laid (with_arc k t h) field (drop (i + 1) ts) (drop (i + 1) hs)) (omega arith)
        ∙ ap (λ (k' : Sketch). laid k' (i + 1 + 2) (drop (i + 1) ts) (drop (i + 1) hs)) same

    pub laid_refused : {fault : DraftFault} → lay_refusal k t h ≡ Some fault → laid k (i + 2) (drop i ts) (drop i hs) ≡ Err (Draft fault (spot 4 (i + 2)))
    laid_refused some =
        next_laid ∙ ap (λ (r : Option DraftFault). unless_refused r (spot 4 (i + 2)) (laid (with_arc k t h) (i + 2 + 1) (drop (i + 1) ts) (drop (i + 1) hs))) some

  pub laid_all : length ts ≤ i → laid k (i + 2) (drop i ts) (drop i hs) ≡ Ok k
  laid_all h = ap (λ (xs : List ℤ). laid k (i + 2) xs (drop i hs)) (drop_all i ts h)
