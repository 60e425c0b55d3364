-- The sum of the supplies, as a loop gathers it, and the count of the marks.
use Rattle.std.proofs.Common.{◌≡◌, ℕ, zero, suc, ◌+◌, ◌<◌, ◌≤◌, Bool, true, false, cond, List, length, get_or, take, ℤ, refl, ap, ◌∙◌, add-one, arith}
use Rattle.std.specs.List.{count_by}
use Rattle.std.proofs.lemmas.Int.{ints}
use Rattle.std.proofs.lemmas.List.{take_all}
use Rattle.std.proofs.lemmas.List.Sums.{count_by_more_no, count_by_more_yes}
use Rattle.network.specs.Sums.{count, sum}
use Rattle.network.specs.Records.{no_node}
use Rattle.network.specs.declared.graph.Graph.{Graph}
use Rattle.network.proofs.Gathers.{Gathers, Moderate, gathers}
use Rattle.network.proofs.Sums.{sum_more, sum_within}

module _ (graph : Graph) where
  abbrev supply : ℕ → ℤ
  supply v = (get_or graph.nodes.now v no_node).supply

  moderate : (n : ℕ) → n ≤ length graph.nodes.now → Moderate (sum n supply)
  moderate n h = omega (arith, ints, graph.few_nodes, sum_within n 100000 supply (λ v l. graph.supplies v (omega arith)))

  pub supply_gathers : (v : ℕ) → v < length graph.nodes.now → Gathers (λ n. sum n supply) v (supply v)
  supply_gathers v h = gathers (λ n. sum n supply) v (supply v) (sum_more v supply) (moderate v (omega arith)) (moderate (v + 1) (omega arith))

-- counting the elements of a list that pass a test, by place and one after another
module _ {X : Type 0} (test : X → Bool) (d : X) (xs : List X) where
  one_more : (n seen : ℕ) → n < length xs → seen ≡ count_by test (take n xs) → (b : Bool) → test (get_or xs n d) ≡ b → seen + cond b 1 0 ≡ count_by test (take (suc n) xs)
  one_more n seen h e true is = let more = rw add-one at (count_by_more_yes test xs n d h is) in omega arith
  one_more n seen h e false is = let more = rw add-one at (count_by_more_no test xs n d h is) in omega arith

  count_front : (n : ℕ) → n ≤ length xs → count n (λ k. test (get_or xs k d)) ≡ count_by test (take n xs)
  count_front zero h = refl
  count_front (suc n) h = one_more n _ (omega arith) (count_front n (omega arith)) (test (get_or xs n d)) refl

  pub count_each : count (length xs) (λ k. test (get_or xs k d)) ≡ count_by test xs
  count_each = count_front (length xs) (omega arith) ∙ ap (count_by test) (take_all (length xs) xs (omega arith))
