-- The limits of the numbers that a sheet is handed.
use Rattle.std.specs.Prelude.{pos, negsuc}
use Rattle.cost.specs.declared.numbers.Limits.{Limits}

-- A supply.
abbrev pub supply_limits : Limits
supply_limits = record { low = negsuc 99999; high = pos 100000 }

-- A price.
abbrev pub price_limits : Limits
price_limits = record { low = negsuc 99999999; high = pos 100000000 }

-- How many nodes a draft is for.
abbrev pub size_limits : Limits
size_limits = record { low = pos 0; high = pos 64 }
