use Rattle.std.proofs.Common.{sym, ap, ◌∙◌, arith, rules}
use Rattle.std.proofs.lemmas.Int.{ints}
use Rattle.cost.specs.Meaning.{Meaning, increment_at}
use Rattle.cost.proofs.Lists.{increment_empty}
use Rattle.quadratic_cost.specs.Squares.{made_fits, made_within, made_increment, made_past, never_below_0, unmade}
use Rattle.quadratic_cost.proofs.quadratic.QuadraticCost.increment_at.Goals as goal
use Rattle.quadratic_cost.proofs.quadratic.QuadraticCost.increment_at.Goals.{else-is_made-via-then-is_made+then-load-ge0+else-load-self, else-is_made-via-then-is_made+else-load-ge0, else-is_made-via-else-is_made}

pub increment-requires : goal.increment-requires
increment-requires c =
    let fit = made_fits c.args.self.now c.if-is_made.ensures in
    record { numbers = made_within c.args.self.now c.if-is_made.ensures; load = omega (arith, ints, fit.c_limit) }

pub returns-then-load-self : goal.returns-then-load-self
returns-then-load-self c =
    let e = made_increment c.args.self.now c.if-is_made.ensures c.args.load (omega (arith, ints)) (omega (arith, ints)) in
    search rules

pub returns-else-is_made : goal.returns-else-is_made
returns-else-is_made c =
    elim c.else-is_made.branch [
      | else-is_made-via-then-is_made+then-load-ge0+else-load-self w ↦
          sym (made_past c.args.self.now w.if-is_made.ensures c.args.load (omega (arith, ints, w.if-load-self.false)))
      | else-is_made-via-then-is_made+else-load-ge0 w ↦
          sym (never_below_0 c.args.self.now c.args.load (omega (arith, ints, w.if-load-ge0.false)))
      | else-is_made-via-else-is_made w ↦
          sym (ap (λ (m : Meaning). increment_at m c.args.load) (unmade c.args.self.now w.if-is_made.ensures) ∙ increment_empty c.args.load)
    ]
