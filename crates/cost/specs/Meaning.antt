-- What a cost means, and the four laws that every cost keeps.
use Rattle.std.specs.Prelude.{ℕ, ◌+◌, ◌<◌, ◌≤◌, Bool, cond, ◌&&◌, List, [], ◌∷◌, length, take, ℤ, pos, negsuc, ◌+ℤ◌, ◌-ℤ◌, ◌≤ℤ◌, Some, None, Option, int_le, slice_index_or, unsigned_abs}
use Rattle.std.specs.List.{slice_get}

-- A cost is the lowest load that its arc may carry, what that load costs, and what each further request adds.
pub record Meaning : Type 0 where
  pub first : ℕ
  pub opening : ℤ
  pub increments : List ℤ

-- The cost of an arc that carries nothing and charges nothing.
abbrev pub empty_cost : Meaning
empty_cost = record { first = 0; opening = pos 0; increments = [] }

-- The highest load of the range.
abbrev pub last : Meaning → ℕ
last m = m.first + length m.increments

-- A whole number as a count: nothing where it is negative.
abbrev pub natural : ℤ → ℕ
natural (pos n) = n
natural (negsuc n) = 0

-- The sum of a list.
abbrev pub total : List ℤ → ℤ
total [] = pos 0
total (x ∷ xs) = x +ℤ total xs

-- How many requests a load has beyond the first load.
abbrev pub beyond : Meaning → ℤ → ℕ
beyond m x = unsigned_abs (x -ℤ pos m.first)

-- A load of the range, both ends included.
abbrev pub in_range : Meaning → ℤ → Bool
in_range m x = int_le (pos m.first) x && int_le x (pos (last m))

-- The amount at a load of the range: the opening amount and the increments up to that load.
abbrev pub amount_at : Meaning → ℤ → ℤ
amount_at m x = m.opening +ℤ total (take (beyond m x) m.increments)

-- The amount at a load; absent outside the range.
abbrev pub amount_within : Meaning → ℤ → Option ℤ
amount_within m x = cond (in_range m x) (Some (amount_at m x)) None

-- What going from a load to the next adds; absent below the first load and from the last load on.
abbrev pub increment_at : Meaning → ℤ → Option ℤ
increment_at m x = cond (int_le (pos m.first) x) (slice_get m.increments (beyond m x)) None

-- A number from `low` to `high`.
abbrev pub Between : ℤ → ℤ → ℤ → Type 0
Between low high x = (low ≤ℤ x) × (x ≤ℤ high)

-- A load of the range, as a fact.
abbrev pub InRange : Meaning → ℤ → Type 0
InRange m x = Between (pos m.first) (pos (last m)) x

-- Each number of the list lies from `low` to `high`.
abbrev pub AllBetween : ℤ → ℤ → List ℤ → Type 0
AllBetween low high xs = (k : ℕ) → k < length xs → Between low high (slice_index_or xs k (pos 0))

-- The numbers of the list never get smaller from one to the next.
abbrev pub Rising : List ℤ → Type 0
Rising xs = (k : ℕ) → k + 1 < length xs → slice_index_or xs k (pos 0) ≤ℤ slice_index_or xs (k + 1) (pos 0)

-- The four laws of a cost.
pub record Lawful (m : Meaning) : Type 0 where
  pub last_limit : last m ≤ 10000
  pub opening_limit : Between (negsuc 999999999) (pos 1000000000) m.opening
  pub increment_limit : AllBetween (negsuc 999999) (pos 1000000) m.increments
  pub convex : Rising m.increments
