-- What it says that no condition of several refuses, and that a number is not refused by its limits.
use Rattle.std.proofs.Common.{◌≡◌, ℕ, ◌<◌, Bool, true, false, cond, not, ◌&&◌, List, length, get_or, ℤ, pos, is_some, is_ok, IfOk, Some, None, Option, Result, sym, refl, subst, arith}
use lib.Signed.{le_z}
use Rattle.std.specs.Option.{option_map}
use Rattle.std.specs.Result.{result_err}
use Rattle.std.proofs.lemmas.Int.{ints}
use Rattle.std.proofs.lemmas.Bool.{and_parts, not-false}
use Rattle.cost.specs.Meaning.{Between}
use Rattle.cost.specs.Places.{or_else, unless, kept_or}
use Rattle.cost.specs.Limits.{within, outside, outside_each, first_outside}
use Rattle.cost.specs.declared.numbers.Limits.{Limits}
use Rattle.cost.specs.declared.numbers.NumberFault.TheVariants.{Outside}
use Rattle.cost.proofs.FirstPlace.{first_place_never}

some_none : {X : Type 0} {x : X} → ◌≡◌ {A = Option X} (Some x) None → ⊥
some_none e = let z : ◌≡◌ {A = ℕ} 0 1 = cc in omega arith

pub neither : {F : Type 0} (x y : Option F) → or_else x y ≡ None → (x ≡ None) × (y ≡ None)
neither None y e = (refl, e)
neither (Some f) y e = absurd (some_none e)

pub none_below : {X Y : Type 0} (f : X → Y) (x : Option X) → option_map f x ≡ None → x ≡ None
none_below f None e = refl
none_below f (Some x) e = absurd (some_none e)

pub passed : {F : Type 0} (f : F) (b : Bool) → cond b None (Some f) ≡ None → b ≡ true
passed f true e = refl
passed f false e = absurd (some_none e)

pub not_met : {F : Type 0} (f : F) (b : Bool) → cond b (Some f) None ≡ None → b ≡ false
not_met f true e = absurd (some_none e)
not_met f false e = refl

pub both : (a b : Bool) → a && b ≡ true → (a ≡ true) × (b ≡ true)
both true b e = (refl, e)
both false b e = absurd (let z : ◌≡◌ {A = ℕ} 0 1 = cc in omega arith)

pub between : (limits : Limits) (x : ℤ) → within limits x ≡ true → Between limits.low limits.high x
between limits x e =
    let h = and_parts (le_z limits.low x) (le_z x limits.high) e in
    (omega (arith, ints, h.0), omega (arith, ints, h.1))

pub inside : (limits : Limits) (position : ℕ) (x : ℤ) → outside limits position x ≡ None → Between limits.low limits.high x
inside limits position x e = between limits x (passed (Outside position) (within limits x) e)

pub all_inside : (limits : Limits) (before : ℕ) (xs : List ℤ) → outside_each limits before xs ≡ None → (k : ℕ) → k < length xs → Between limits.low limits.high (get_or xs k (pos 0))
all_inside limits before xs e k h =
    between limits (get_or xs k (pos 0))
    (not-false (within limits (get_or xs k (pos 0)))
    (first_place_never (λ j. not (within limits (get_or xs j (pos 0)))) (length xs) (none_below _ (first_outside limits xs) e) k h))

pub not_both : (a b : Bool) → a && b ≡ false → a ≡ true → b ≡ false
not_both true b e h = e
not_both false b e h = absurd (let z : ◌≡◌ {A = ℕ} 0 1 = cc in omega arith)

-- a call is accepted exactly where it has no refusal
pub accepts : {T F : Type 0} (r : Option F) (value : T) → is_ok (unless r value) ≡ not (is_some r)
accepts None value = refl
accepts (Some f) value = refl

pub no_refusal : {F : Type 0} (r : Option F) → true ≡ not (is_some r) → r ≡ None
no_refusal None e = refl
no_refusal (Some f) e = absurd (let z : ◌≡◌ {A = ℕ} 0 1 = cc in omega arith)

-- a content that is refused stands for the other
pub replaced : {T F : Type 0} (r : Option F) (other value : T) → false ≡ not (is_some r) → kept_or other r value ≡ other
replaced None other value e = absurd (let z : ◌≡◌ {A = ℕ} 0 1 = cc in omega arith)
replaced (Some f) other value e = refl

-- what is known of an answer: its refusal, and what holds of the value where there is none
pub answered : {T F : Type 0} (refusal : Option F) (value : T) (r : Result T F) (P : T → Type 0) → r ≡ unless refusal value → (refusal ≡ None → P value) → (result_err r ≡ refusal) × IfOk r P
answered {T} {F} None value r P e p = subst (λ (x : Result T F). (result_err x ≡ None) × IfOk x P) (sym e) (refl, p refl)
answered {T} {F} (Some f) value r P e p = subst (λ (x : Result T F). (result_err x ≡ Some f) × IfOk x P) (sym e) (refl, tt)
