-- How a state advances, and which number is drawn from it.
use Rattle.std.specs.Prelude.{ℕ, ◌+◌, ◌*◌, ◌/◌, ◌%◌, ◌^◌, ℤ, pos, ◌+ℤ◌, ◌-ℤ◌, unsigned_abs}

-- The state after a draw.
abbrev pub advanced : ℕ → ℕ
advanced state = ((state * 6364136223846793005) % 2 ^ 64 + 1442695040888963407) % 2 ^ 64

-- The number below a limit that a state gives.
abbrev pub drawn : ℕ → ℕ → ℕ
drawn state limit = (state / 2 ^ 33) % limit

-- The number from one to another that a state gives.
abbrev pub drawn_between : ℕ → ℤ → ℤ → ℤ
drawn_between state low high = low +ℤ pos (drawn state (unsigned_abs (high -ℤ low +ℤ pos 1)))
