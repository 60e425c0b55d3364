-- The least of the prices that pass the filter.
use Rattle.std.proofs.Common.{int_lt, rules, tests}
use Rattle.std.proofs.lemmas.Iterator.{YieldsList-from_slice}
use Rattle.std.proofs.lemmas.Iterator.Consumers.{YieldsList-at, YieldsList-from_copied, YieldsList-from_filter, reduce_from_yields_List}
use Rattle.search.proofs.Lowest.{lesser, lowest_above}
use Rattle.search.proofs.draw.next_above.Goals as goal

pub returns : goal.returns
returns c =
    let least = reduce_from_yields_List lesser c.filter.result c.min.result c.min.ensures.ran
    (YieldsList-from_filter _ (int_lt c.args.bar) (YieldsList-at c.filter.ensures.source (YieldsList-from_copied (YieldsList-at c.copied.ensures.source (YieldsList-from_slice c.args.prices.now (cc)))))
    c.filter.ensures.closure (λ x b q k. search (rules, tests))) in
    rw least (lowest_above c.args.bar c.args.prices.now)
