-- Sets of nodes.
use Rattle.std.specs.Prelude.{ℕ, Bool, false, slice_index_or}
use Rattle.flow.specs.declared.sets.NodeSet.{NodeSet}

-- Whether a node is in the set; none past the last place is.
abbrev pub member : NodeSet → ℕ → Bool
member set v = slice_index_or set.members v false
