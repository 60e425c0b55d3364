use Rattle.std.proofs.Common.{◌≡◌, ℤ, pos, neg_ℤ, ◌-ℤ◌, Some, to_z, of_z, sym, ap, ◌∙◌, w64, SFits, arith, rules}
use Rattle.std.proofs.lemmas.Int.{ints}
use Rattle.text.proofs.Digits.{made_digits, minus_by_prefix, read_plain, read_refused, read_zero, read_minus}
use Rattle.text.proofs.numerals.number_in.Goals as goal

pub returns-in_default : goal.returns-in_default
returns-in_default c =
    c.natural_in.ensures ∙ read_plain c.args.field.now (sym (minus_by_prefix c.args.field.now) ∙ c.in_default.ensures.cases)

pub returns-in_err-magnitude : goal.returns-in_err-magnitude
returns-in_err-magnitude c =
    let minus = sym (minus_by_prefix c.args.field.now) ∙ c.in-Some.ensures.cases.0 in
    rw c.from_residual.ensures (read_refused c.args.field.now minus c.in-Some.ensures.cases.1 (sym c.natural_in-2.ensures ∙ c.in_err-magnitude.was))

pub returns-then-magnitude-eq0 : goal.returns-then-magnitude-eq0
returns-then-magnitude-eq0 c =
    let minus = sym (minus_by_prefix c.args.field.now) ∙ c.in-Some.ensures.cases.0 in
    let fits : SFits w64 c.in_ok-magnitude.magnitude = search rules in
    let none : c.in_ok-magnitude.magnitude ≡ pos 0 = search rules in
    read_zero c.args.field.now minus c.in-Some.ensures.cases.1 (sym c.natural_in-2.ensures ∙ c.in_ok-magnitude.was) none

pub returns : goal.returns
returns c =
    let minus = sym (minus_by_prefix c.args.field.now) ∙ c.in-Some.ensures.cases.0 in
    let m = c.in_ok-magnitude.magnitude in
    let made = sym c.natural_in-2.ensures ∙ c.in_ok-magnitude.was in
    let fits : SFits w64 m = search rules in
    let some : m ≡ pos 0 → ⊥ = search rules in
    let natural = (made_digits _ _ m made).1 in
    let negative : to_z w64 (of_z w64 (pos 0 -ℤ to_z w64 (of_z w64 m))) ≡ neg_ℤ m = omega (arith, ints, natural, fits.sfits) in
    ap (λ (x : ℤ). Some x) negative ∙ read_minus c.args.field.now minus c.in-Some.ensures.cases.1 made some
