-- The step is one of those that keep the labels sound.
use Rattle.std.proofs.Common.{◌≡◌, ◌<◌, [], length, sym, ◌∙◌, arith, w64, SFits}
use Rattle.std.proofs.lemmas.Int.{to_z-of_z}
use Rattle.network.specs.Graphs.{net_in}
use Rattle.network.specs.Records.{numbers}
use Rattle.flow.specs.Spans.{low_of, high_of}
use Rattle.flow.specs.Labels.{is_along, end_of, room_on}
use Rattle.flow.proofs.Stepping.{start_in, end_in, is_there, where_there, limits_fit, room_fits, stepped_over}
use Rattle.flow.proofs.loaded.Loaded.step_over.Goals as goal

pub extend-requires-clause-orders : goal.extend-requires-clause-orders
extend-requires-clause-orders c =
    λ label is.
    let from : c.start-from.result < length c.args.self.now.graph.nodes.now = omega (arith, c.start-from.ensures, start_in c.args.self.now c.args.arc c.requires.place c.args.way) in
    omega (arith, (c.requires.labels.justified c.start-from.result from label is).ordered, c.args.self.now.graph.few_nodes)

pub returns : goal.returns
returns c =
    let loaded = c.args.self.now in
    let a = c.args.arc in
    let fits = limits_fit loaded a c.requires.place c.args.way in
    let low = fits.0 in
    let high = fits.1 in
    let load = fits.2 in
    let is : c.room-room.result ≡ room_on (is_along c.args.way) (low_of loaded.spans.now a) (high_of loaded.spans.now a) (numbers loaded.loads.now a) = simp to_z-of_z at c.room-room.ensures in
    let room : SFits w64 c.room-room.result = rw is (room_fits loaded a c.requires.place c.args.way) in
    let step = stepped_over loaded a c.requires.place c.args.way
    c.args.labels.now c.extend.new.labels c.start-from.result c.end-to.result c.room-room.result c.extend.result c.requires.labels
    c.start-from.ensures c.end-to.ensures is (simp to_z-of_z at c.extend.ensures.answer) (simp to_z-of_z at c.extend.ensures.labelled) in
    let more = is_there c.extend.result c.end-to.result c.then_some.result c.then_some.ensures in
    record { labelled = step.grown.labelled; node = where_there (λ v. (v < length loaded.graph.nodes.now) × (v ≡ end_of (net_in loaded.graph []) (is_along c.args.way) a)) c.extend.result c.end-to.result c.then_some.result c.then_some.ensures (rw c.end-to.ensures (end_in loaded a c.requires.place c.args.way), c.end-to.ensures); further = λ e. step.grown.fewer (sym more ∙ e); same = λ e. step.grown.same (sym more ∙ e); shut = λ e. rw (← is, ← c.start-from.ensures, ← c.end-to.ensures) (step.shut (sym more ∙ e)) }
