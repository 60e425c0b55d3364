use Rattle.std.proofs.Common.{map, rules}
use Rattle.sheet.specs.Sheets.{book_of}
use Rattle.ledger.proofs.Duality.{floor_under_charge}
use Rattle.sheet.proofs.Tables.{sheet_sound}
use Rattle.sheet.proofs.sheets.Sheet.floor_and_charge.Goals as goal

pub returns-clause-duality : goal.returns-clause-duality
returns-clause-duality g c =
    let s = c.args.self.now in
    let under = floor_under_charge (book_of s) (sheet_sound s) (map g.C.Cost.meaning c.args.costs.now) c.args.loads.now c.args.prices.now c.in_ok-charge.charge c.in_ok-floor.floor c.in_ok-charge.ensures c.in_ok-floor.ensures in
    search rules
