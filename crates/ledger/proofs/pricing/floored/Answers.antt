-- Prices of which none was refused lie within their limits.
use Rattle.ledger.proofs.Orders.{within_prices}
use Rattle.ledger.proofs.pricing.floored.Goals as goal

pub floor_of-requires-clause-limits : goal.floor_of-requires-clause-limits
floor_of-requires-clause-limits g c = within_prices c.args.prices.now c.in_default.ensures
