-- What the answers about lists of nodes, arcs, costs, loads and prices say of the network that they stand for.
use Rattle.std.proofs.Common.{◌≡◌, ℕ, ◌<◌, true, not, List, length, ℤ, pos, nat_abs, None, ap, arith}
use Rattle.std.proofs.lemmas.Int.{ints}
use Rattle.std.proofs.lemmas.Bool.{eqb-true, not-false}
use Rattle.cost.specs.Meaning.{Meaning, in_range, Lawful}
use Rattle.cost.proofs.Amount.{range_from_test}
use Rattle.cost.proofs.FirstPlace.{first_place_never}
use Rattle.network.specs.Sums.{sum}
use Rattle.network.specs.Network.{Net, Ends, Convex, surplus, Meets, charge}
use Rattle.network.specs.Records.{numbers, cost_of, net_of, Sound, Ranged, out_of_range, is_zero, unmet, amount_of, amounts}
use Rattle.network.specs.declared.records.Node.{Node}
use Rattle.network.specs.declared.records.Arc.{Arc}

-- where no place is answered, every load is in range and every surplus is 0
pub ranged_if_none : (costs : List Meaning) (loads : List ℤ) → out_of_range costs loads ≡ None → Ranged costs loads
ranged_if_none costs loads none a h =
    range_from_test (cost_of costs a) (numbers loads a) (not-false _ (first_place_never (λ k. not (in_range (cost_of costs k) (numbers loads k))) (length loads) none a h))

zero_from_test : (x : ℤ) → is_zero x ≡ true → x ≡ pos 0
zero_from_test x e = let none = eqb-true (nat_abs x) 0 e in omega (arith, ints)

pub balanced_if_none : (net : Net) (load : ℕ → ℤ) → unmet net load ≡ None → (v : ℕ) → v < net.nodes → surplus net load v ≡ pos 0
balanced_if_none net load none v h =
    zero_from_test (surplus net load v) (not-false _ (first_place_never (λ k. not (is_zero (surplus net load k))) net.nodes none v h))

module _ (nodes : List Node) (arcs : List Arc) (costs : List Meaning) where
  pub sound_ends : Sound nodes arcs → Ends (net_of nodes arcs costs)
  sound_ends sound = record { tails = sound.tails; heads = sound.heads }

  -- a network of lawful costs is convex
  pub lawful_convex : ((a : ℕ) → a < length arcs → Lawful (cost_of costs a)) → Convex (net_of nodes arcs costs)
  lawful_convex lawful a h = (lawful a h).convex

  pub charge_is : (loads : List ℤ) → length loads ≡ length arcs → amounts costs loads ≡ charge (net_of nodes arcs costs) (numbers loads)
  charge_is loads loaded = ap (λ n. sum n (amount_of costs loads)) loaded

  pub meets_if_none : (loads : List ℤ) → length loads ≡ length arcs → out_of_range costs loads ≡ None → unmet (net_of nodes arcs costs) (numbers loads) ≡ None → Meets (net_of nodes arcs costs) (numbers loads)
  meets_if_none loads loaded ranged met = record {
    routing = λ a h. ranged_if_none costs loads ranged a (omega arith);
    balanced = balanced_if_none (net_of nodes arcs costs) (numbers loads) met;
  }
