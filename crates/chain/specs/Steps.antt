-- What the calls of a chain do, one by one and in turn, to the book, to the costs and to what is known of the chain.
use Rattle.std.specs.Prelude.{◌≡◌, List, [], ◌∷◌, map, length, Some, None, Ok, Err, Result}
use Rattle.cost.specs.Meaning.{Meaning}
use Rattle.cost.specs.Places.{kept_or}
use Rattle.ledger.specs.Books.{Book, opened}
use Rattle.ledger.specs.Calls.{supply_refusal, supplied, swap_refusal, swapped}
use Rattle.ledger.specs.Settling.{Settles}
use Rattle.ledger.specs.declared.faults.SheetFault.{SheetFault}
use Rattle.ledger.specs.declared.settling.Amounts.{Amounts}
use Rattle.chain.specs.declared.calls.Call.{Call}
use Rattle.chain.specs.declared.calls.Call.TheVariants as call
use Rattle.chain.specs.declared.calls.Kind.{Kind}
use Rattle.chain.specs.declared.calls.Kind.TheVariants as kind
use Rattle.chain.specs.declared.calls.Progress.{Progress}

-- After an edit that was accepted nothing is known of settling.
abbrev pub after_edit : Kind → Progress
after_edit k = record { last = Some k; answer = None }

-- After a settling its answer is known, and if it was accepted it came last.
abbrev pub after_settling : Progress → Result Amounts SheetFault → Progress
after_settling p (Ok amounts) = record { last = Some kind.Settle; answer = Some (Ok amounts) }
after_settling p (Err f) = record { last = p.last; answer = Some (Err f) }

-- One call, from a book with its costs to a book with its costs.
abbrev pub Step : {C : Type 0} → (C → Meaning) → Call C → Book → List C → Book → List C → Progress → Progress → Type 0
Step meaning (call.Supply node amount) b costs b' costs' p q =
    let refusal = supply_refusal b node amount in
    (b' ≡ kept_or b refusal (supplied b node amount)) × (costs' ≡ costs) × (q ≡ kept_or p refusal (after_edit kind.Supply))
Step meaning (call.Swap arc cost) b costs b' costs' p q =
    let refusal = swap_refusal b (length costs) arc in
    (b' ≡ kept_or b refusal (opened b.nodes b.arcs)) × (costs' ≡ kept_or costs refusal (swapped costs arc cost)) × (q ≡ kept_or p refusal (after_edit kind.Swap))
Step meaning call.Settle b costs b' costs' p q =
    (r : Result Amounts SheetFault) × Settles b (map meaning costs) b' r × (costs' ≡ costs) × (q ≡ after_settling p r)

-- At the start of a chain nothing was accepted, and settle was not called.
abbrev pub at_start : Progress
at_start = record { last = None; answer = None }

-- The calls of a chain, made in turn: each is one step from where the one before it ended.
abbrev pub Made : {C : Type 0} → (C → Meaning) → List (Call C) → Book → List C → Progress → Book → List C → Progress → Type 0
Made meaning [] b costs p b' costs' q = (b' ≡ b) × (costs' ≡ costs) × (q ≡ p)
Made {C} meaning (c ∷ calls) b costs p b' costs' q =
    (b₁ : Book) × (costs₁ : List C) × (p₁ : Progress) × Step meaning c b costs b₁ costs₁ p p₁ × Made meaning calls b₁ costs₁ p₁ b' costs' q
