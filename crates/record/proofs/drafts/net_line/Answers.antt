use Rattle.std.proofs.Common.{◌≡◌, ℕ, true, false, leb, ℤ, pos, Err, sym, refl, ap, ◌∙◌, arith, w64, SFits, rules}
use Rattle.std.specs.Result.{result_err}
use Rattle.std.proofs.lemmas.Result.{err_from_is_err_and, IfOk-at_ok}
use Rattle.std.proofs.lemmas.Int.{ints, to_z-of_z}
use Rattle.cost.specs.Meaning.{natural}
use Rattle.sheet.specs.declared.sheets.drafting.Size.{Size}
use Rattle.sheet.specs.Drafts.{sketch_of, begun}
use Rattle.text.proofs.Calls.{call_made, call_refused}
use Rattle.record.specs.Faults.{spot}
use Rattle.record.specs.declared.faults.RecordFault.TheVariants.{Draft, Space}
use Rattle.record.proofs.Below.{met_by, met_value, met_refused}
use Rattle.record.proofs.Stages.{net_form, net_read, no_room, no_size, begins, begun_long, counted, few_enough, same_start, too_many}
use Rattle.record.proofs.drafts.net_line.Goals as goal

pub returns-in_err-counts : goal.returns-in_err-counts
returns-in_err-counts g c =
    let p = err_from_is_err_and c.from_residual.result c.from_residual.ensures.1 in
    let step = c.in_err-counts.ensures.step in
    rw (p.1, p.2) (record { shown = record { answer = sym (net_form _ _ _ c.LETTER.ensures c.requires (call_refused refl step)); keeps = step.keeps }; nodes = tt; arcs = tt })

pub returns-then-places-arcs : goal.returns-then-places-arcs
returns-then-places-arcs g c =
    let counts = c.in_ok-counts.counts in
    let told = c.in_ok-counts.ensures in
    let more : SFits w64 counts.arcs = search rules in
    let arcs = counted counts.arcs told.arcs.0 in
    let beyond = simp to_z-of_z at c.if-places-arcs.true in
    let full : leb (natural counts.arcs) c.args.places ≡ false = too_many counts.arcs c.args.places told.arcs.0 beyond in
    simp to_z-of_z (record {
      shown = record {
        answer = ap (λ (needed : ℕ). Err (Space needed)) arcs ∙ sym (net_read _ _ _ c.LETTER.ensures c.requires (call_made refl told.step) (no_room c.args.places counts full));
        keeps = told.step.keeps;
      };
      nodes = tt;
      arcs = tt;
    })

pub returns-in_err-size : goal.returns-in_err-size
returns-in_err-size g c =
    let p = err_from_is_err_and c.from_residual-in_err-size.result c.from_residual-in_err-size.ensures.1 in
    let met = met_by (λ fault. Draft fault (spot 1 3)) c.size.result c.map_err.result _ c.map_err.ensures.cases (λ below f gives. search rules) in
    let refused = met_refused _ c.size.result (sym c.in_err-size.was ∙ met) in
    let counts = c.in_ok-counts.counts in
    let told = c.in_ok-counts.ensures in
    let some : SFits w64 counts.nodes = search rules in
    let more : SFits w64 counts.arcs = search rules in
    let answer = simp to_z-of_z at c.size.ensures.answer in
    let within = simp to_z-of_z at c.if-places-arcs.false in
    let room : leb (natural counts.arcs) c.args.places ≡ true = few_enough counts.arcs c.args.places told.arcs.0 within in
    rw (p.1, p.2, refused.2) (record {
      shown = record {
        answer = sym (net_read _ _ _ c.LETTER.ensures c.requires (call_made refl told.step) (no_size c.args.places counts room (sym answer ∙ ap result_err refused.1)));
        keeps = told.step.keeps;
      };
      nodes = tt;
      arcs = tt;
    })

pub returns : goal.returns
returns g c =
    let counts = c.in_ok-counts.counts in
    let told = c.in_ok-counts.ensures in
    let some : SFits w64 counts.nodes = search rules in
    let more : SFits w64 counts.arcs = search rules in
    let arcs = counted counts.arcs told.arcs.0 in
    let nodes = counted counts.nodes told.nodes.0 in
    let answer = simp to_z-of_z at c.size.ensures.answer in
    let within = simp to_z-of_z at c.if-places-arcs.false in
    let room : leb (natural counts.arcs) c.args.places ≡ true = few_enough counts.arcs c.args.places told.arcs.0 within in
    let met = met_by (λ fault. Draft fault (spot 1 3)) c.size.result c.map_err.result _ c.map_err.ensures.cases (λ below f gives. search rules) in
    let done = met_value _ c.size.result (sym c.in_ok-size.was ∙ met) in
    let counted_size = simp to_z-of_z at c.size.ensures.count in
    let is = IfOk-at_ok (λ (s : Size). pos s.count ≡ counts.nodes) done counted_size in
    let begins_here = begins c.args.places counts room (sym answer ∙ ap result_err done) in
    let drawn : sketch_of c.new.result ≡ begun (natural counts.nodes) = c.new.ensures ∙ ap (λ (x : ℤ). begun (natural x)) is in
    let whole = net_read _ _ _ c.LETTER.ensures c.requires (call_made refl told.step) begins_here in
    simp to_z-of_z (record {
      shown = record { answer = sym (whole ∙ same_start (sym drawn) (sym arcs)); keeps = told.step.keeps };
      nodes = (nodes ∙ sym (begun_long drawn), omega (arith, ints, told.nodes.1));
      arcs = (omega (arith, ints, told.arcs.1), within);
    })
