-- Each turn lists one arc more.
use Rattle.std.proofs.Common.{refl}
use Rattle.flow.proofs.Listing.{no_arcs}
use Rattle.flow.proofs.near.lists_of.Goals as goal

pub loop-a-init : goal.loop-a-init
loop-a-init c = record { firsts_long = refl; nexts_long = refl; firsts_below = λ v. no_arcs 64 v 0; nexts_below = λ a. no_arcs 256 a a }
