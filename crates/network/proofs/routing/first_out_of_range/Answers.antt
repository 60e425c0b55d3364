-- The loads before are in range, so the first that is not is the answer.
use Rattle.std.proofs.Common.{◌≡◌, ◌+◌, true, false, option_map, sym, ap, ◌∙◌, rules}
use Rattle.std.proofs.lemmas.Iterator.{YieldsList-from_slice, YieldsList-from_zip, IsFirst-from_position}
use borrow.Author.Tests.{tests}
use Rattle.cost.specs.Meaning.{in_range}
use Rattle.network.proofs.Costs.{first_pair}
use Rattle.network.proofs.routing.first_out_of_range.Goals as goal

pub returns-in_err-arc : goal.returns-in_err-arc
returns-in_err-arc g c =
    let first = IsFirst-from_position c.position.new.self _ c.position.result (λ p. in_range (g.C.Cost.meaning p.0) p.1 ≡ false) (λ p. in_range (g.C.Cost.meaning p.0) p.1 ≡ true) c.position.ensures.ran
    (YieldsList-from_zip (YieldsList-from_slice c.args.costs.now cc) (YieldsList-from_slice c.args.loads.now cc)) (λ x q k. search (rules, tests)) (λ x q k. search (rules, tests)) in
    c.from_residual.ensures ∙ ap (option_map (λ i. i + 1)) (sym c.in_err-arc.was) ∙ first_pair g.C.Cost.meaning c.args.costs.now c.args.loads.now c.requires c.position.result first

pub returns : goal.returns
returns g c =
    let first = IsFirst-from_position c.position.new.self _ c.position.result (λ p. in_range (g.C.Cost.meaning p.0) p.1 ≡ false) (λ p. in_range (g.C.Cost.meaning p.0) p.1 ≡ true) c.position.ensures.ran
    (YieldsList-from_zip (YieldsList-from_slice c.args.costs.now cc) (YieldsList-from_slice c.args.loads.now cc)) (λ x q k. search (rules, tests)) (λ x q k. search (rules, tests)) in
    ap (option_map (λ i. i + 1)) (sym c.in_ok-arc.was) ∙ first_pair g.C.Cost.meaning c.args.costs.now c.args.loads.now c.requires c.position.result first
