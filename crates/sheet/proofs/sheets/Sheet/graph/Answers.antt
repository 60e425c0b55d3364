use Rattle.sheet.proofs.Fronts.{lent_sound}
use Rattle.sheet.proofs.sheets.Sheet.graph.Goals as goal

pub of-requires : goal.of-requires
of-requires c = lent_sound c.args.self.now
