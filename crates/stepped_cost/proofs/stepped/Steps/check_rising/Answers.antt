use Rattle.std.proofs.Common.{◌+◌, sym, ap, ◌∙◌, rules}
use Rattle.std.specs.Option.{option_map}
use Rattle.cost.specs.declared.refusals.CostFault.TheVariants.{Falls}
use Rattle.stepped_cost.proofs.Falling.{first_fall, fall_within}
use Rattle.stepped_cost.proofs.stepped.Steps.check_rising.Goals as goal

pub overflow_add-result : goal.overflow_add-result
overflow_add-result c = let within' = fall_within c.args.self.slopes.now c.in-Some.index (sym c.in-Some.ensures) in search rules

pub returns-in-Some : goal.returns-in-Some
returns-in-Some c = ap (λ o. option_map Falls (option_map (λ n. n + 2) o)) c.in-Some.ensures ∙ ap (option_map Falls) (first_fall c.args.self.slopes.now)

pub returns-in-None : goal.returns-in-None
returns-in-None c = ap (λ o. option_map Falls (option_map (λ n. n + 2) o)) c.in-None.ensures ∙ ap (option_map Falls) (first_fall c.args.self.slopes.now)
