-- Lists of arcs, empty at first, and the ends of a step.
use Rattle.std.proofs.Common.{ℕ, zero, suc, ◌<◌, ◌≤◌, Bool, true, false, cond, replicate, None, arith}
use Rattle.flow.specs.Near.{listed_at, past}

-- either of two places lies below a limit
pub either : (b : Bool) (x y limit : ℕ) → x < limit → y < limit → cond b x y < limit
either true x y limit first second = first
either false x y limit first second = second

-- a list without arcs
pub no_arcs : (n k limit : ℕ) → past (listed_at (replicate n None) k) ≤ limit
no_arcs zero k limit = omega arith
no_arcs (suc n) zero limit = omega arith
no_arcs (suc n) (suc k) limit = no_arcs n k limit
