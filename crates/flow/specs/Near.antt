-- The arcs at each node, in lists.
use Rattle.std.specs.Prelude.{◌≡◌, ℕ, ◌+◌, ◌≤◌, List, length, Some, None, Option, slice_index_or}
use Rattle.network.specs.declared.records.TheConstants.{MOST_NODES, MOST_ARCS}
use Rattle.flow.specs.declared.near.Lists.{Lists}
use Rattle.flow.specs.declared.near.Near.{Near}

-- The arc that stands at a place of a list, if any.
abbrev pub listed_at : List (Option ℕ) → ℕ → Option ℕ
listed_at arcs k = slice_index_or arcs k None

-- One past an arc, and 0 where there is none.
abbrev pub past : Option ℕ → ℕ
past None = 0
past (Some a) = a + 1

-- The lists have arcs below n only, and after each arc comes one of a lower place.
pub record Listed (n : ℕ) (lists : Lists) : Type 0 where
  pub firsts_long : length lists.firsts ≡ MOST_NODES
  pub nexts_long : length lists.nexts ≡ MOST_ARCS
  pub firsts_below : (v : ℕ) → past (listed_at lists.firsts v) ≤ n
  pub nexts_below : (a : ℕ) → past (listed_at lists.nexts a) ≤ a

-- Both the lists of the arcs that leave each node and those of the arcs that enter it are such lists.
pub record Nearby (n : ℕ) (near : Near) : Type 0 where
  pub leaving_listed : Listed n near.leaving.now
  pub entering_listed : Listed n near.entering.now
