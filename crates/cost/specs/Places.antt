-- The first place at which a condition holds, and the answer of a call that one of several conditions may refuse.
use Rattle.std.specs.Prelude.{◌≡◌, ℕ, zero, suc, ◌+◌, ◌<◌, Bool, true, false, cond, Some, None, Ok, Err, Option, Result, MatchOption}

-- The first of `more` indices from `k` on that passes the test, counted from 1.
abbrev pub first_place_from : (ℕ → Bool) → ℕ → ℕ → Option ℕ
first_place_from test k zero = None
first_place_from test k (suc more) = cond (test k) (Some (k + 1)) (first_place_from test (k + 1) more)

-- The first of the indices below `n` that passes the test, counted from 1.
abbrev pub first_place : (ℕ → Bool) → ℕ → Option ℕ
first_place test n = first_place_from test 0 n

-- The upper of two conditions: the first, or else the second.
abbrev pub or_else : {F : Type 0} → Option F → Option F → Option F
or_else (Some f) other = Some f
or_else None other = other

-- What a call answers: its refusal where there is one, else the value.
abbrev pub unless : {T F : Type 0} → Option F → T → Result T F
unless (Some f) value = Err f
unless None value = Ok value

-- A content that its constructor would refuse stands for something simpler in its place.
abbrev pub kept_or : {T F : Type 0} → T → Option F → T → T
kept_or other (Some f) value = other
kept_or other None value = value

-- A place that is found is one at which the test passes, and it passes at none before; where none is found it passes nowhere.
abbrev pub FirstPlaceIsFirst : Type 0
FirstPlaceIsFirst =
    (test : ℕ → Bool) (n : ℕ) →
    MatchOption (first_place test n) ((j : ℕ) → j < n → test j ≡ false)
    (λ p. (i : ℕ) × (p ≡ i + 1) × (i < n) × (test i ≡ true) × ((j : ℕ) → j < i → test j ≡ false))
