-- Loads, prices and marks are no part of the network: books that agree but for them have the same network.
use Rattle.std.proofs.Common.{◌≡◌, ℕ, zero, suc, List, [], ◌∷◌, map, length, get_or, ℤ, sym, refl, ap, ◌∙◌}
use mathlib.Core.Path.{fun_ext}
use Rattle.std.proofs.lemmas.List.{length-map}
use Rattle.cost.specs.Meaning.{Meaning}
use Rattle.network.specs.Records.{no_node, no_arc, net_of}
use Rattle.network.specs.declared.records.Node.{Node}
use Rattle.network.specs.declared.records.Arc.{Arc}
use Rattle.ledger.specs.Books.{Book, network_of, opened, reset_node, reset_arc}
use Rattle.ledger.specs.Settling.{SameNetwork}

-- what is past the end of a mapped list, too
pub get_or_mapped : {X : Type 0} (f : X → X) (d : X) → f d ≡ d → (xs : List X) (k : ℕ) → get_or (map f xs) k d ≡ f (get_or xs k d)
get_or_mapped f d e [] k = sym e
get_or_mapped f d e (x ∷ xs) zero = refl
get_or_mapped f d e (x ∷ xs) (suc k) = get_or_mapped f d e xs k

-- the network of a book is that of the book opened again
pub bare : (nodes : List Node) (arcs : List Arc) (costs : List Meaning) → net_of (map reset_node nodes) (map reset_arc arcs) costs ≡ net_of nodes arcs costs
bare nodes arcs costs =
    let many : length (map reset_node nodes) ≡ length nodes = length-map nodes reset_node in
    let arcs_many : length (map reset_arc arcs) ≡ length arcs = length-map arcs reset_arc in
    let supplies : ◌≡◌ {A = ℕ → ℤ} (λ v. (get_or (map reset_node nodes) v no_node).supply) (λ v. (get_or nodes v no_node).supply) = fun_ext (λ v. ap (λ (x : Node). x.supply) (get_or_mapped reset_node no_node refl nodes v)) in
    let tails : ◌≡◌ {A = ℕ → ℕ} (λ a. (get_or (map reset_arc arcs) a no_arc).tail) (λ a. (get_or arcs a no_arc).tail) = fun_ext (λ a. ap (λ (x : Arc). x.tail) (get_or_mapped reset_arc no_arc refl arcs a)) in
    let heads : ◌≡◌ {A = ℕ → ℕ} (λ a. (get_or (map reset_arc arcs) a no_arc).head) (λ a. (get_or arcs a no_arc).head) = fun_ext (λ a. ap (λ (x : Arc). x.head) (get_or_mapped reset_arc no_arc refl arcs a)) in
    cc

-- books that are the same when opened again have the same network
pub same_bare : (nodes nodes' : List Node) (arcs arcs' : List Arc) (costs : List Meaning) → opened nodes' arcs' ≡ opened nodes arcs → net_of nodes' arcs' costs ≡ net_of nodes arcs costs
same_bare nodes nodes' arcs arcs' costs same =
    sym (bare nodes' arcs' costs) ∙ ap (λ (b : Book). network_of b costs) same ∙ bare nodes arcs costs

-- and as many nodes and arcs
module _ (b b' : Book) (same : SameNetwork b b') where
  pub same_nodes : map reset_node b'.nodes ≡ map reset_node b.nodes
  same_nodes = ap (λ (x : Book). x.nodes) same

  pub same_arcs : map reset_arc b'.arcs ≡ map reset_arc b.arcs
  same_arcs = ap (λ (x : Book). x.arcs) same

  pub node_count : length b'.nodes ≡ length b.nodes
  node_count = sym (length-map b'.nodes reset_node) ∙ ap length same_nodes ∙ length-map b.nodes reset_node

  pub arc_count : length b'.arcs ≡ length b.arcs
  arc_count = sym (length-map b'.arcs reset_arc) ∙ ap length same_arcs ∙ length-map b.arcs reset_arc
