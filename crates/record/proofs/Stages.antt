-- Parts of a reading that were made or refused one after another.
use Rattle.std.proofs.Common.{◌≡◌, ℕ, ◌<◌, ◌≤◌, true, false, leb, List, length, take, replicate, ℤ, pos, negsuc, nat_abs, ◌≤ℤ◌, Some, None, Ok, Err, codes, Option, Result, sym, refl, ap, ◌∙◌, arith}
use Rattle.std.specs.Option.{option_map}
use Rattle.std.proofs.lemmas.List.{length-replicate, length-take-le}
use Rattle.std.proofs.lemmas.Int.{ints}
use Rattle.std.proofs.lemmas.Bool.Decides.{nat_tests}
use Rattle.cost.specs.Limits.{outside}
use Rattle.cost.specs.Meaning.{natural}
use Rattle.cost.specs.declared.refusals.CostFault.{CostFault}
use Rattle.network.specs.Records.{no_node}
use Rattle.sheet.specs.Drafts.{Sketch, begun}
use Rattle.ledger.specs.Limits.{size_limits}
use Rattle.ledger.specs.declared.faults.DraftFault.{DraftFault}
use Rattle.ledger.specs.declared.faults.DraftFault.TheVariants.{Number}
use Rattle.record_form.specs.Lines.{first_line_at, list_at, row_at}
use Rattle.record_form.specs.declared.lines.Counts.{Counts}
use Rattle.text.specs.Walks.{text_of}
use Rattle.text.specs.declared.cursor.Cursor.{Cursor}
use Rattle.record.specs.Faults.{line_spot, spot}
use Rattle.record.specs.Outcomes.{Takes, shown_by}
use Rattle.record.specs.Readings.{Kind, Stage, up_to, fed, laid, begun_by, accepted_row, net_stage, supply_stage, arc_stage, network_stage, row_stage}
use Rattle.record.specs.declared.faults.RecordFault.{RecordFault}
use Rattle.record.specs.declared.faults.RecordFault.TheVariants.{Form, Space, Draft, Cost}

-- what a call that took lines tells
module _ {T U : Type 0} {show : T → U} {stage : List ℕ → ℕ → Stage U} {before after : Cursor} where
  pub taken : {text : List ℕ} {x : T} → text_of before ≡ text → Takes show stage before after (Ok x) → stage text before.at ≡ Ok (show x, after.at)
  taken of call = sym (call.answer ∙ ap (λ (t : List ℕ). stage t before.at) of)

  pub not_taken : {text : List ℕ} {f : RecordFault} → text_of before ≡ text → Takes show stage before after (Err f) → stage text before.at ≡ Err f
  not_taken of call = sym (call.answer ∙ ap (λ (t : List ℕ). stage t before.at) of)

pub shown_up_to : {T U : Type 0} (show : T → U) (next : ℕ) (r : Result T RecordFault) → shown_by (λ value. (show value, next)) r ≡ up_to next (shown_by show r)
shown_up_to show next (Ok value) = refl
shown_up_to show next (Err fault) = refl

module _ (text : List ℕ) (letter places : ℕ) where
  module _ {sign at : ℕ} (is : sign ≡ letter) (start : at ≡ 0) where
    first_line : first_line_at text at sign ≡ first_line_at text 0 letter
    first_line = ap (λ (n : ℕ). first_line_at text n sign) start ∙ ap (first_line_at text 0) is

    pub net_form : {o : ℕ} → first_line_at text at sign ≡ Err o → net_stage text letter places ≡ Err (Form o)
    unfolding net_stage
    net_form e = rw (sym first_line ∙ e)

    pub net_read : {counts : Counts} {next : ℕ} {r : Result (Sketch × ℕ) RecordFault} → first_line_at text at sign ≡ Ok (counts, next)
        → begun_by places counts ≡ r → net_stage text letter places ≡ up_to next r
    unfolding net_stage
    net_read {next = next} e begins = rw (sym first_line ∙ e) (ap (up_to next) begins)

  pub network_net : {f : RecordFault} → net_stage text letter places ≡ Err f → network_stage text letter places ≡ Err f
  unfolding network_stage
  network_net e = rw e

  module _ {k : Sketch} {arcs a : ℕ} (e₁ : net_stage text letter places ≡ Ok ((k, arcs), a)) where
    pub network_supply : {f : RecordFault} → supply_stage text a k ≡ Err f → network_stage text letter places ≡ Err f
    unfolding network_stage
    network_supply e = rw (e₁, e)

    module _ {k' : Sketch} {b : ℕ} (e₂ : supply_stage text a k ≡ Ok (k', b)) where
      pub network_arcs : {n : ℕ} {f : RecordFault} → n ≡ arcs → arc_stage text b k' n ≡ Err f → network_stage text letter places ≡ Err f
      unfolding network_stage
      network_arcs many e = rw (e₁, e₂, sym (ap (arc_stage text b k') many) ∙ e)

      pub network_made : {n : ℕ} {whole : Sketch} {c : ℕ} → n ≡ arcs → arc_stage text b k' n ≡ Ok (whole, c) → network_stage text letter places ≡ Ok ((whole, arcs), c)
      unfolding network_stage
      network_made many e = rw (e₁, e₂, sym (ap (arc_stage text b k') many) ∙ e)

module _ (places : ℕ) (counts : Counts) where
  pub no_room : leb (natural counts.arcs) places ≡ false → begun_by places counts ≡ Err (Space (natural counts.arcs))
  no_room e = rw e

  pub no_size : leb (natural counts.arcs) places ≡ true → {f : DraftFault} → option_map Number (outside size_limits 1 counts.nodes) ≡ Some f → begun_by places counts ≡ Err (Draft f (spot 1 3))
  no_size room some = rw (room, some)

  pub begins : leb (natural counts.arcs) places ≡ true → option_map Number (outside size_limits 1 counts.nodes) ≡ None
      → begun_by places counts ≡ Ok (begun (natural counts.nodes), natural counts.arcs)
  begins room none = rw (room, none)

module _ (text : List ℕ) (at : ℕ) (k : Sketch) where
  pub supply_form : {n o : ℕ} → n ≡ length k.nodes → list_at text at (codes "sup") n ≡ Err o → supply_stage text at k ≡ Err (Form o)
  unfolding supply_stage
  supply_form each e = rw (sym (ap (list_at text at (codes "sup")) each) ∙ e)

  pub supply_read : {n : ℕ} {xs : List ℤ} {next : ℕ} {r : Result Sketch RecordFault} → n ≡ length k.nodes → list_at text at (codes "sup") n ≡ Ok (xs, next) → fed k 2 xs ≡ r
      → supply_stage text at k ≡ up_to next r
  unfolding supply_stage
  supply_read {next = next} each e feeds = rw (sym (ap (list_at text at (codes "sup")) each) ∙ e) (ap (up_to next) feeds)

  module _ (arcs : ℕ) where
    pub arc_tails : {o : ℕ} → list_at text at (codes "from") arcs ≡ Err o → arc_stage text at k arcs ≡ Err (Form o)
    unfolding arc_stage
    arc_tails e = rw e

    pub arc_heads : {ts : List ℤ} {a n o : ℕ} → list_at text at (codes "from") arcs ≡ Ok (ts, a) → arcs ≡ n → list_at text a (codes "to") n ≡ Err o → arc_stage text at k arcs ≡ Err (Form o)
    unfolding arc_stage
    arc_heads {a = a} e₁ each e₂ = rw (e₁, ap (list_at text a (codes "to")) each ∙ e₂)

    pub arc_read : {ts hs : List ℤ} {a n next : ℕ} {r : Result Sketch RecordFault} → list_at text at (codes "from") arcs ≡ Ok (ts, a) → arcs ≡ n → list_at text a (codes "to") n ≡ Ok (hs, next)
        → laid k 2 ts hs ≡ r → arc_stage text at k arcs ≡ up_to next r
    unfolding arc_stage
    arc_read {a = a} {next = next} e₁ each e₂ lays = rw (e₁, ap (list_at text a (codes "to")) each ∙ e₂) (ap (up_to next) lays)

module _ (kind : Kind) (text : List ℕ) (at line : ℕ) where
  pub row_form : {o : ℕ} → row_at text at kind.long ≡ Err o → row_stage kind text at line ≡ Err (Form o)
  unfolding row_stage
  row_form e = rw e

  pub row_refused : {row : List ℤ} {next : ℕ} {f : CostFault} → row_at text at kind.long ≡ Ok (row, next) → kind.refuses row ≡ Some f → row_stage kind text at line ≡ Err (Cost f (line_spot line))
  unfolding row_stage
  row_refused {row = row} {next = next} e some = rw e (ap (λ (r : Option CostFault). up_to next (accepted_row r line row)) some)

  pub row_read : {row : List ℤ} {next : ℕ} → row_at text at kind.long ≡ Ok (row, next) → kind.refuses row ≡ None → row_stage kind text at line ≡ Ok (row, next)
  unfolding row_stage
  row_read {row = row} {next = next} e none = rw e (ap (λ (r : Option CostFault). up_to next (accepted_row r line row)) none)

-- a draft that has begun has as many nodes as it was begun for
pub begun_long : {k : Sketch} {count : ℕ} → k ≡ begun count → length k.nodes ≡ count
begun_long {count = count} e = ap (λ (s : Sketch). length s.nodes) e ∙ length-replicate count no_node

-- a count that is not negative, as code and definitions have it
pub counted : (x : ℤ) → pos 0 ≤ℤ x → nat_abs x ≡ natural x
counted (pos n) h = refl
counted (negsuc n) h = absurd (omega (arith, ints))

pub few_enough : (x : ℤ) (places : ℕ) → pos 0 ≤ℤ x → nat_abs x ≤ places → leb (natural x) places ≡ true
few_enough (pos n) places h few = grind (arith, nat_tests)
few_enough (negsuc n) places h few = absurd (omega (arith, ints))

pub too_many : (x : ℤ) (places : ℕ) → pos 0 ≤ℤ x → places < nat_abs x → leb (natural x) places ≡ false
too_many (pos n) places h many = grind (arith, nat_tests)
too_many (negsuc n) places h many = absurd (omega (arith, ints))

pub same_start : {k k' : Sketch} {arcs arcs' at : ℕ} → k ≡ k' → arcs ≡ arcs' → ◌≡◌ {A = Stage (Sketch × ℕ)} (Ok ((k, arcs), at)) (Ok ((k', arcs'), at))
same_start {k' = k'} {arcs = arcs} {at = at} one two = ap (λ (s : Sketch). Ok ((s, arcs), at)) one ∙ ap (λ (n : ℕ). Ok ((k', n), at)) two

-- as many places of a list of 256 as there are arcs
pub arcs_long : (arcs : ℕ) → arcs ≤ 256 → length (take arcs (replicate 256 (pos 0))) ≡ arcs
arcs_long arcs few = length-take-le arcs (replicate 256 (pos 0)) (omega arith)
