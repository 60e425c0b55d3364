-- The laws of counts, which stand beside the sums of a network.
pub use Rattle.network.proofs.Counts.{count_limit, count_order, count_more, count_under}
