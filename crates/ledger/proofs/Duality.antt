-- What a charge and a floor that were answered say: the loads meet the network, and the floor is at most the charge.
use Rattle.std.proofs.Common.{◌≡◌, ℕ, true, ◌&&◌, eqb, List, length, ℤ, ◌≤ℤ◌, Some, None, Ok, Option, sym, refl, ap, ◌∙◌, arith, w64, SFits, to_z, of_z}
use Rattle.std.specs.Option.{option_map}
use Rattle.std.proofs.lemmas.Int.{to_z-of_z}
use Rattle.std.proofs.lemmas.Bool.{eqb-true}
use Rattle.std.proofs.lemmas.Bool.Decides.{nat_tests}
use Rattle.cost.specs.Meaning.{Meaning}
use Rattle.cost.specs.Places.{unless}
use Rattle.cost.proofs.Refusing.{neither, none_below}
use Rattle.network.specs.Network.{Meets, Cheapest, Highest, charge, floor}
use Rattle.network.specs.Records.{net_of, numbers, Sound, out_of_range, unmet}
use Rattle.network.specs.declared.records.Node.{Node}
use Rattle.network.specs.declared.records.Arc.{Arc}
use Rattle.network.proofs.Duality.{weak_duality, equal_is_best}
use Rattle.network.proofs.Nets.{meets_if_none, sound_ends}
use Rattle.ledger.specs.Books.{Book, network_of}
use Rattle.ledger.specs.Calls.{needed, charge_refusal, floor_refusal, charge_answer, floor_answer}
use Rattle.ledger.specs.declared.faults.SheetFault.TheVariants as fault
use Rattle.ledger.proofs.Orders.{listed}

-- a call that answered has no refusal, and answered the value
pub answers : {T F : Type 0} (refusal : Option F) (value x : T) → Ok x ≡ unless refusal value → (refusal ≡ None) × (x ≡ value)
answers None value x e = (refl, cc)
answers (Some f) value x e = absurd (let z : ◌≡◌ {A = ℕ} 0 1 = cc in omega arith)

-- loads that are charged meet the network
pub charged_meets : (nodes : List Node) (arcs : List Arc) (costs : List Meaning) (loads : List ℤ) → charge_refusal nodes arcs costs loads ≡ None → Meets (net_of nodes arcs costs) (numbers loads)
charged_meets nodes arcs costs loads e =
    let one = neither (needed (eqb (length costs) (length arcs) && eqb (length loads) (length arcs)) fault.List) _ e in
    let two = neither (option_map fault.Range (out_of_range costs loads)) (option_map fault.Surplus (unmet (net_of nodes arcs costs) (numbers loads))) one.1 in
    let long = listed (length costs) (length arcs) (length loads) (length arcs) (sym one.0) in
    meets_if_none nodes arcs costs loads long.1 (none_below fault.Range (out_of_range costs loads) two.0) (none_below fault.Surplus (unmet (net_of nodes arcs costs) (numbers loads)) two.1)

pub floor_under_charge : (b : Book) → Sound b.nodes b.arcs → (costs : List Meaning) (loads prices : List ℤ) (x y : ℤ) → Ok x ≡ charge_answer b costs loads → Ok y ≡ floor_answer b costs prices → y ≤ℤ x
floor_under_charge b sound costs loads prices x y e f =
    let charged = answers (charge_refusal b.nodes b.arcs costs loads) (charge (network_of b costs) (numbers loads)) x e in
    let floored = answers (floor_refusal b.nodes b.arcs costs prices) (floor (network_of b costs) (numbers prices)) y f in
    let meets = charged_meets b.nodes b.arcs costs loads charged.0 in
    let under = weak_duality (network_of b costs) (numbers loads) (numbers prices) (sound_ends b.nodes b.arcs costs sound) meets in
    rw (charged.1, floored.1) under

-- what it says that the floor equals the charge, where both are answered
module _ (b : Book) (sound : Sound b.nodes b.arcs) (costs : List Meaning) (loads prices : List ℤ) (x y : ℤ) (charged : Ok x ≡ charge_answer b costs loads) (floored : Ok y ≡ floor_answer b costs prices) where
  pub charge_value : x ≡ charge (network_of b costs) (numbers loads)
  charge_value = (answers (charge_refusal b.nodes b.arcs costs loads) (charge (network_of b costs) (numbers loads)) x charged).1

  pub floor_value : y ≡ floor (network_of b costs) (numbers prices)
  floor_value = (answers (floor_refusal b.nodes b.arcs costs prices) (floor (network_of b costs) (numbers prices)) y floored).1

  pub equal_best : y ≡ x → Cheapest (network_of b costs) (numbers loads) × Highest (network_of b costs) (numbers prices)
  equal_best same =
      equal_is_best (network_of b costs) (numbers loads) (numbers prices) (sound_ends b.nodes b.arcs costs sound)
      (charged_meets b.nodes b.arcs costs loads (answers (charge_refusal b.nodes b.arcs costs loads) (charge (network_of b costs) (numbers loads)) x charged).0)
      (sym charge_value ∙ sym same ∙ floor_value)

-- two numbers of 64 bits are equal exactly where their bits are
pub same_from_bits : (y x : ℤ) → SFits w64 y → SFits w64 x → eqb (of_z w64 y) (of_z w64 x) ≡ true → y ≡ x
same_from_bits y x f g e = sym (to_z-of_z w64 y f) ∙ ap (to_z w64) (eqb-true (of_z w64 y) (of_z w64 x) e) ∙ to_z-of_z w64 x g

pub bits_from_same : (y x : ℤ) → y ≡ x → eqb (of_z w64 y) (of_z w64 x) ≡ true
bits_from_same y x e = let same = ap (of_z w64) e in grind (arith, nat_tests)
