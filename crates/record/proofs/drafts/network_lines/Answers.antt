use Rattle.std.proofs.Common.{refl, sym, ◌∙◌}
use Rattle.std.proofs.lemmas.Result.{err_from_is_err_and}
use Rattle.record.proofs.Stages.{network_net, network_supply, network_arcs, network_made, arcs_long, taken, not_taken}
use Rattle.record.proofs.drafts.network_lines.Goals as goal

pub returns-in_err-draft : goal.returns-in_err-draft
returns-in_err-draft g c =
    let p = err_from_is_err_and c.from_residual.result c.from_residual.ensures.1 in
    let net = c.in_err-draft.ensures.shown in
    rw (p.1, p.2) (record { shown = record { answer = sym (network_net _ _ _ (not_taken refl net)); keeps = net.keeps }; arcs = tt })

pub returns-in_err-draft-2 : goal.returns-in_err-draft-2
returns-in_err-draft-2 g c =
    let p = err_from_is_err_and c.from_residual-in_err-draft-2.result c.from_residual-in_err-draft-2.ensures.1 in
    let net = c.in_ok-draft.ensures.shown in
    let supply = c.in_err-draft-2.ensures in
    rw (p.1, p.2) (record {
      shown = record { answer = sym (network_supply _ _ _ (taken refl net) (not_taken net.keeps supply)); keeps = supply.keeps ∙ net.keeps };
      arcs = tt;
    })

pub returns-in_err-draft-3 : goal.returns-in_err-draft-3
returns-in_err-draft-3 g c =
    let p = err_from_is_err_and c.from_residual-in_err-draft-3.result c.from_residual-in_err-draft-3.ensures.1 in
    let net = c.in_ok-draft.ensures.shown in
    let supply = c.in_ok-draft-2.ensures in
    let arcs = c.in_err-draft-3.ensures in
    let many = arcs_long c.in_ok-draft.field-0.arcs c.in_ok-draft.ensures.arcs.0 in
    let refused = not_taken (supply.keeps ∙ net.keeps) arcs in
    rw (p.1, p.2) (record {
      shown = record {
        answer = sym (network_arcs _ _ _ (taken refl net) (taken net.keeps supply) many refused);
        keeps = arcs.keeps ∙ supply.keeps ∙ net.keeps;
      };
      arcs = tt;
    })

pub returns : goal.returns
returns g c =
    let net = c.in_ok-draft.ensures.shown in
    let supply = c.in_ok-draft-2.ensures in
    let arcs = c.in_ok-draft-3.ensures in
    let many = arcs_long c.in_ok-draft.field-0.arcs c.in_ok-draft.ensures.arcs.0 in
    let whole = taken (supply.keeps ∙ net.keeps) arcs in
    record {
      shown = record {
        answer = sym (network_made _ _ _ (taken refl net) (taken net.keeps supply) many whole);
        keeps = arcs.keeps ∙ supply.keeps ∙ net.keeps;
      };
      arcs = c.in_ok-draft.ensures.arcs;
    }
