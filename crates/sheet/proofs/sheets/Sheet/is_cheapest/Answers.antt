use Rattle.std.proofs.Common.{map, sym, ◌∙◌, w64, SFits, rules}
use Rattle.sheet.specs.Sheets.{book_of}
use Rattle.ledger.proofs.Duality.{charge_value, floor_value, equal_best, same_from_bits, bits_from_same}
use Rattle.sheet.proofs.Tables.{sheet_sound}
use Rattle.sheet.proofs.sheets.Sheet.is_cheapest.Goals as goal

pub returns-clause-equal : goal.returns-clause-equal
returns-clause-equal g c =
    let s = c.args.self.now in
    let costs = map g.C.Cost.meaning c.args.costs.now in
    let x = c.in_ok-floor.charge in
    let y = c.in_ok-floor.floor in
    let told = c.in_ok-floor.ensures in
    let fx : SFits w64 x = search rules in
    let fy : SFits w64 y = search rules in
    let is_charge = charge_value (book_of s) (sheet_sound s) costs c.args.loads.now c.args.prices.now x y told.charge told.floor in
    let is_floor = floor_value (book_of s) (sheet_sound s) costs c.args.loads.now c.args.prices.now x y told.charge told.floor in
    (λ e. sym is_floor ∙ same_from_bits y x fy fx e ∙ is_charge, λ e. bits_from_same y x (is_floor ∙ e ∙ sym is_charge))

pub returns-clause-best : goal.returns-clause-best
returns-clause-best g c e =
    let s = c.args.self.now in
    let x = c.in_ok-floor.charge in
    let y = c.in_ok-floor.floor in
    let told = c.in_ok-floor.ensures in
    let fx : SFits w64 x = search rules in
    let fy : SFits w64 y = search rules in
    equal_best (book_of s) (sheet_sound s) (map g.C.Cost.meaning c.args.costs.now) c.args.loads.now c.args.prices.now x y told.charge told.floor (same_from_bits y x fy fx e)
