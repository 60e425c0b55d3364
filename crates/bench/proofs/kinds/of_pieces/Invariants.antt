-- Each piece so far has its width and its slope.
use Rattle.std.proofs.Common.{◌≡◌}
use Rattle.arrayvec.specs.ArrayVec.{array_vec_len}
use Rattle.bench.proofs.kinds.of_pieces.Given as goal

abbrev pub invariant-loop-k : goal.invariant-loop-k
invariant-loop-k g l = (array_vec_len l.widths ≡ l.k) × (array_vec_len l.slopes ≡ l.k)
