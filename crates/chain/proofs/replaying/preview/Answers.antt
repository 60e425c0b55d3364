-- A copy of the book is settled in its place.
use Rattle.std.proofs.Common.{ℕ, map, subst}
use Rattle.std.proofs.lemmas.List.{length-map}
use Rattle.sheet.specs.Sheets.{book_of}
use Rattle.ledger.specs.Books.{network_of}
use Rattle.ledger.specs.Settling.{settle_refusal, Answers}
use Rattle.ledger.proofs.Outcomes.{answers_of}
use Rattle.chain.proofs.replaying.preview.Goals as goal

pub returns : goal.returns
returns g c =
    let b = book_of c.args.sheet.now in
    let costs = map g.C.Cost.meaning c.args.costs.now in
    subst (λ (n : ℕ). Answers (settle_refusal b.nodes b.arcs n) (network_of b costs) c.settle.result) (length-map c.args.costs.now g.C.Cost.meaning)
    (answers_of b (book_of c.settle.new.self) costs c.settle.result c.settle.ensures.outcome)
