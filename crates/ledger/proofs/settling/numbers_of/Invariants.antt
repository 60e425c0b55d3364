use Rattle.std.proofs.Common.{◌≡◌, ℕ, ◌<◌, length, get_or}
use Rattle.std.specs.Fn.{FnReturnsAt}
use Rattle.network.specs.Records.{numbers}
use Rattle.ledger.proofs.settling.numbers_of.Given as goal

abbrev pub invariant-loop-item : goal.invariant-loop-item
invariant-loop-item g l = record {
  many : length l.numbers.items ≡ l.item-index;
  numbers : (k : ℕ) (other : _) → k < l.item-index → FnReturnsAt g.F.Fn l.number (get_or l.items k other) (numbers l.numbers.items k);
}
