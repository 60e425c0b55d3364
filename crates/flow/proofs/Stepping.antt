-- A single step over an arc, along it or against it, keeps the labels sound.
use Rattle.std.proofs.Common.{◌≡◌, ℕ, ◌<◌, Bool, true, false, cond, List, [], length, set, Option, is_some, IfSome, ap, ℤ, ◌-ℤ◌, sym, arith, w64, SFits}
use Rattle.std.specs.Bool.{then_some}
use Rattle.std.proofs.lemmas.Int.{ints}
use Rattle.network.specs.Network.{Net}
use Rattle.network.specs.Graphs.{net_in}
use Rattle.network.specs.Records.{numbers}
use Rattle.network.proofs.Graphs.{graph_sound}
use Rattle.flow.specs.declared.loaded.Loaded.{Loaded}
use Rattle.flow.specs.declared.reach.Label.{Label}
use Rattle.flow.specs.declared.ways.Way.{Way}
use Rattle.flow.specs.Spans.{low_of, high_of}
use Rattle.flow.specs.Labels.{is_along, label_of, extends, onward_from, end_of, start_of, room_on, LabelledOn}
use Rattle.flow.proofs.Marks.{Extended, extend_by}
use Rattle.flow.proofs.Listing.{either}

-- what holds of the rise and of the fall of a load holds of its room in either direction
by_way : (P : ℤ → Type 0) (forward : Bool) (low high load : ℤ) → P (high -ℤ load) → P (load -ℤ low) → P (room_on forward low high load)
by_way P true low high load rise fall = rise
by_way P false low high load rise fall = fall

-- a value that is there on a condition
pub is_there : (b : Bool) (x : ℕ) (o : Option ℕ) → o ≡ then_some b x → is_some o ≡ b
is_there true x o is = ap is_some is
is_there false x o is = ap is_some is

pub where_there : (P : ℕ → Type 0) (b : Bool) (x : ℕ) (o : Option ℕ) → o ≡ then_some b x → P x → IfSome o P
where_there P true x o is holds = rw is holds
where_there P false x o is holds = rw is _

module _ (loaded : Loaded) (a : ℕ) (within : a < length loaded.graph.arcs.now) (way : Way) where
  abbrev net : Net
  net = net_in loaded.graph []

  abbrev low : ℕ → ℤ
  low = low_of loaded.spans.now

  abbrev high : ℕ → ℤ
  high = high_of loaded.spans.now

  abbrev load : ℕ → ℤ
  load = numbers loaded.loads.now

  -- both ends of the step are nodes
  pub start_in : start_of net (is_along way) a < length loaded.graph.nodes.now
  start_in = either (is_along way) (net.tail a) (net.head a) (length loaded.graph.nodes.now) ((graph_sound loaded.graph).tails a within) ((graph_sound loaded.graph).heads a within)

  pub end_in : end_of net (is_along way) a < length loaded.graph.nodes.now
  end_in = either (is_along way) (net.head a) (net.tail a) (length loaded.graph.nodes.now) ((graph_sound loaded.graph).heads a within) ((graph_sound loaded.graph).tails a within)

  pub limits_fit : SFits w64 (low a) × SFits w64 (high a) × SFits w64 (load a)
  limits_fit = omega (arith, ints, loaded.low_limit a within, loaded.high_limit a within, loaded.above_low a within, loaded.under_high a within)

  pub room_fits : SFits w64 (room_on (is_along way) (low a) (high a) (load a))
  room_fits =
      let low_here = loaded.low_limit a within in
      let high_here = loaded.high_limit a within in
      let above = loaded.above_low a within in
      let under = loaded.under_high a within in
      by_way (SFits w64) (is_along way) (low a) (high a) (load a) (omega (arith, ints)) (omega (arith, ints))

  pub stepped_over : (labels next : List (Option Label)) (from to : ℕ) (room : ℤ) (r : Bool) → LabelledOn loaded labels
      → from ≡ start_of net (is_along way) a → to ≡ end_of net (is_along way) a → room ≡ room_on (is_along way) (low a) (high a) (load a)
      → r ≡ extends labels from to room → next ≡ cond r (set labels to (onward_from (label_of labels from) (record { arc = a; from = from; way = way }) room)) labels
      → Extended net low high load labels r next from to room
  stepped_over labels next from to room r labelled starts ends rooms test is =
      extend_by net low high load labels next labelled
      (record { arc = a; from = from; way = way }) to room within (omega (arith, start_in, starts)) (omega (arith, end_in, ends)) (sym starts) (sym ends) rooms r test is
