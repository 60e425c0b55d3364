use Rattle.std.proofs.Common.{[], ◌∷◌, rules}
use Rattle.text.specs.Fields.{decimal}
use Rattle.text.specs.Writing.{Appends}
use Rattle.text.proofs.Overwriting.{appends_then}
use Rattle.text.proofs.writing.Writer.spaced.Goals as goal

pub returns : goal.returns
returns c =
    let number : Appends (decimal c.args.number) c.byte.new.self c.decimal.new.self = search rules in
    appends_then (32 ∷ []) (decimal c.args.number) c.requires c.byte.ensures number
