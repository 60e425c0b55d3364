-- Which of several conditions a call is refused by; and what is known of lists of which a check refused nothing.
use Rattle.std.proofs.Common.{◌≡◌, ℕ, zero, suc, ◌+◌, ◌&&◌, eqb, List, [], ◌∷◌, map, ℤ, Some, None, Option, sym, ap, arith}
use Rattle.std.specs.Option.{option_map}
use Rattle.std.proofs.lemmas.Int.{ints}
use Rattle.std.proofs.lemmas.Bool.Decides.{nat_tests}
use Rattle.cost.specs.Limits.{first_outside}
use Rattle.cost.specs.Meaning.{Meaning, Lawful}
use Rattle.cost.specs.Places.{or_else}
use Rattle.cost.specs.declared.numbers.NumberFault.TheVariants.{Outside}
use Rattle.cost.proofs.Lists.{empty_lawful}
use Rattle.cost.proofs.Refusing.{passed, both, all_inside}
use Rattle.network.specs.Records.{cost_of, Ranged, Within}
use Rattle.ledger.specs.Calls.{needed}
use Rattle.ledger.specs.Limits.{price_limits}
use Rattle.ledger.specs.declared.faults.SheetFault.TheVariants as fault

-- what holds where two lists have the right length
pub listed : (m n k l : ℕ) → None ≡ needed (eqb m n && eqb k l) fault.List → (m ≡ n) × (k ≡ l)
listed m n k l e =
    let yes' = passed fault.List (eqb m n && eqb k l) (sym e) in
    let parts = both (eqb m n) (eqb k l) yes' in
    (grind (arith, nat_tests), grind (arith, nat_tests))

-- lists of the right length are not refused
pub list_fits : (m n k l : ℕ) → m ≡ n → k ≡ l → needed (eqb m n && eqb k l) fault.List ≡ None
list_fits m n k l e f = grind (arith, nat_tests)

-- the first, the second or the third of three conditions, and the last of two
pub by_second : {F : Type 0} (first second third : Option F) (f : F) → first ≡ None → second ≡ Some f → or_else first (or_else second third) ≡ Some f
by_second first second third f e₁ e₂ = cc

pub by_third : {F : Type 0} (first second third other : Option F) → first ≡ None → second ≡ None → third ≡ other → or_else first (or_else second third) ≡ other
by_third first second third other e₁ e₂ e₃ = cc

pub by_last : {F : Type 0} (first second : Option F) → first ≡ None → or_else first second ≡ second
by_last first second e = cc

-- costs of a lawful kind are lawful, by place too
pub lawful_at : {C : Type 0} (meaning : C → Meaning) → ((c : C) → Lawful (meaning c)) → (costs : List C) (a : ℕ) → Lawful (cost_of (map meaning costs) a)
lawful_at meaning law [] a = empty_lawful
lawful_at meaning law (c ∷ costs) zero = law c
lawful_at meaning law (c ∷ costs) (suc a) = lawful_at meaning law costs a

-- loads in the ranges of lawful costs are small
pub small_loads : (costs : List Meaning) (loads : List ℤ) → ((a : ℕ) → Lawful (cost_of costs a)) → Ranged costs loads → Within 10000 loads
small_loads costs loads law ranged a h =
    let range = ranged a h in
    omega (arith, ints, (law a).last_limit, range.0, range.1)

-- prices of which none lies outside its limits
pub within_prices : (prices : List ℤ) → None ≡ first_outside price_limits prices → Within 100000000 prices
within_prices prices e k h = all_inside price_limits 0 prices (ap (option_map (λ n. Outside (0 + n))) (sym e)) k h
