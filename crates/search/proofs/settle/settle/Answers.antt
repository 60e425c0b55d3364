-- What was found is written into the records.
use Rattle.std.proofs.Common.{◌≡◌, ℕ, ◌<◌, map, pos, subst, ◌∙◌, arith, rules}
use Rattle.std.proofs.lemmas.List.{get_or-replicate}
use Rattle.cost.specs.Meaning.{Between}
use Rattle.network.specs.Network.{Net, Meets, charge, floor, OverFull}
use Rattle.network.specs.Records.{net_of, numbers}
use Rattle.network.proofs.Nets.{sound_ends}
use Rattle.flow.specs.Sets.{member}
use Rattle.search.specs.Networks.{network_of}
use Rattle.search.proofs.Whole.{settled_if, barred_if}
use Rattle.search.proofs.settle.settle.Goals as goal

pub returns-in-Ok-clause-settled : goal.returns-in-Ok-clause-settled
returns-in-Ok-clause-settled g c =
    let net = net_of c.args.nodes.now c.args.arcs.now (map g.C.Cost.meaning c.args.costs.now) in
    let ends = sound_ends c.args.nodes.now c.args.arcs.now (map g.C.Cost.meaning c.args.costs.now) c.requires.sound in
    let same : network_of g.C.Cost.meaning c.of-network.result ≡ net = search rules in
    let load = numbers c.solve.new.loads in
    let price = numbers c.in-Ok.prices in
    let meets = subst (λ (n : Net). Meets n load) same c.in-Ok.ensures.meets in
    let equal = subst (λ (n : Net). charge n load ≡ floor n price) same c.in-Ok.ensures.equal in
    let limits = subst (λ (n : Net). (v : ℕ) → v < n.nodes → Between (pos 0) (pos 64000000) (price v)) same c.in-Ok.ensures.limits in
    settled_if net ends c.tag.new.nodes c.carry.new.arcs load price meets equal limits c.carry.ensures.loads c.tag.ensures.prices (λ v h. c.tag.ensures.marks v h ∙ c.empty.ensures v)

pub returns-in-Err-clause-barred : goal.returns-in-Err-clause-barred
returns-in-Err-clause-barred g c =
    let net = net_of c.args.nodes.now c.args.arcs.now (map g.C.Cost.meaning c.args.costs.now) in
    let ends = sound_ends c.args.nodes.now c.args.arcs.now (map g.C.Cost.meaning c.args.costs.now) c.requires.sound in
    let same : network_of g.C.Cost.meaning c.of-network.result ≡ net = search rules in
    let full = subst (λ (n : Net). OverFull n (member c.in-Err.set)) same c.in-Err.ensures.barred in
    barred_if net ends c.tag-in-Err.new.nodes c.carry-in-Err.new.arcs (member c.in-Err.set) full
    (λ a h. c.carry-in-Err.ensures.loads a h ∙ get_or-replicate 256 a (pos 0) (pos 0) (omega (arith, c.requires.sound.arc_limit)))
    (λ v h. c.tag-in-Err.ensures.prices v h ∙ get_or-replicate 64 v (pos 0) (pos 0) (omega (arith, c.requires.sound.node_limit)))
    c.tag-in-Err.ensures.marks
