-- Worked cases of the definitions, each with what it comes to.
use Rattle.std.specs.Prelude.{◌≡◌, ℕ, Bool, false, List, [], ◌∷◌, ℤ, pos, negsuc, ◌==◌}
use Rattle.cost.specs.Meaning.{Meaning, amount_at}
use Rattle.stepped_cost.specs.Stepped.{stepped_content, stepped_of}
use Rattle.quadratic_cost.specs.Quadratic.{quadratic_content}
use Rattle.layered_cost.specs.Layers.{capped, ceiled}
use Rattle.network.specs.Network.{Net, charge, floor, OverFull}
use Rattle.network.specs.Records.{net_of, numbers}
use Rattle.network.specs.declared.records.Node.{Node}
use Rattle.network.specs.declared.records.Arc.{Arc}
use Rattle.ledger.specs.Books.{blank_book, network_of}

-- A case says what numbers come to, or that a set of nodes is over full, or that it is not.
pub data Case : Type 0 where
  comes_to : List ℤ → List ℤ → Case
  over_full : Net → (ℕ → Bool) → Case
  not_over_full : Net → (ℕ → Bool) → Case

-- What a case claims.
abbrev pub Holds : Case → Type 0
Holds (comes_to defined expected) = defined ≡ expected
Holds (over_full net marked) = OverFull net marked
Holds (not_over_full net marked) = OverFull net marked → ⊥

-- ---- costs

-- First load 2, opening amount 7, and three requests at −1 each.
abbrev falling_off : Meaning
falling_off = stepped_content (stepped_of (pos 2) (pos 7) (pos 3 ∷ []) (negsuc 0 ∷ []))

-- 4·x + 3·x² up to load 2.
abbrev squares : Meaning
squares = quadratic_content (record { a = pos 4; b = pos 3; c = pos 2 })

-- ---- networks

-- A node with a supply.
abbrev node : ℤ → Node
node supply = record { supply = supply; price = pos 0; marked = false }

-- An arc between two nodes, counted from 0.
abbrev arc : ℕ → ℕ → Arc
arc tail head = record { tail = tail; head = head; load = pos 0 }

-- A stepped cost with opening amount 0.
abbrev steps : ℤ → List ℤ → List ℤ → Meaning
steps first widths slopes = stepped_content (stepped_of first (pos 0) widths slopes)

-- Supplies 4 0 −4; four requests at 1 from node 1 to 2, four at 2 from 2 to 3, two at 2 and two at 5 from 1 to 3.
abbrev three_arcs : Net
three_arcs =
    net_of (node (pos 4) ∷ node (pos 0) ∷ node (negsuc 3) ∷ []) (arc 0 1 ∷ arc 1 2 ∷ arc 0 2 ∷ [])
    (steps (pos 0) (pos 4 ∷ []) (pos 1 ∷ []) ∷ steps (pos 0) (pos 4 ∷ []) (pos 2 ∷ []) ∷ steps (pos 0) (pos 2 ∷ pos 2 ∷ []) (pos 2 ∷ pos 5 ∷ []) ∷ [])

-- The charge of three loads.
abbrev charge_of : ℤ → ℤ → ℤ → List ℤ
charge_of x y z = charge three_arcs (numbers (x ∷ y ∷ z ∷ [])) ∷ []

-- The floor of three prices.
abbrev floor_of : ℤ → ℤ → ℤ → List ℤ
floor_of p q r = floor three_arcs (numbers (p ∷ q ∷ r ∷ [])) ∷ []

-- Supplies 5 −5, and one arc from node 1 to 2 with this last load.
abbrev one_arc : ℤ → Net
one_arc last = net_of (node (pos 5) ∷ node (negsuc 4) ∷ []) (arc 0 1 ∷ []) (steps (pos 0) (last ∷ []) (pos 1 ∷ []) ∷ [])

-- Supplies 0 0, and an arc from node 2 to 1 that carries exactly 2.
abbrev forced_arc : Net
forced_arc = net_of (node (pos 0) ∷ node (pos 0) ∷ []) (arc 1 0 ∷ []) (steps (pos 2) [] [] ∷ [])

-- The set of node 1 alone.
abbrev node_1 : ℕ → Bool
node_1 v = v == 0

-- All cases.
abbrev pub worked_cases : List Case
worked_cases =
    comes_to (amount_at falling_off (pos 4) ∷ []) (pos 5 ∷ [])
    ∷ comes_to squares.increments (pos 4 ∷ pos 10 ∷ [])
    ∷ comes_to (capped (pos 1) squares).increments (pos 4 ∷ [])
    ∷ comes_to (ceiled (pos 5) squares).increments (pos 4 ∷ pos 5 ∷ [])
    ∷ comes_to (charge_of (pos 2) (pos 2) (pos 2)) (pos 10 ∷ [])
    ∷ comes_to (charge_of (pos 4) (pos 4) (pos 0)) (pos 12 ∷ [])
    ∷ comes_to (charge_of (pos 0) (pos 0) (pos 4)) (pos 14 ∷ [])
    ∷ comes_to (floor_of (pos 3) (pos 2) (pos 0)) (pos 10 ∷ [])
    ∷ comes_to (floor_of (pos 0) (pos 0) (pos 0)) (pos 0 ∷ [])
    ∷ over_full (one_arc (pos 3)) node_1
    ∷ not_over_full (one_arc (pos 5)) node_1
    ∷ over_full forced_arc node_1
    ∷ comes_to (charge (network_of blank_book []) (numbers []) ∷ []) (pos 0 ∷ [])
    ∷ []
