use Rattle.std.proofs.Common.{refl}
use Rattle.std.specs.Fmt.{digits}
use Rattle.text.specs.Fields.{is_number}
use Rattle.text.specs.Steps.{number_at, word_at, space_at, line_end_at, text_end_at, numbers_at}
use Rattle.text.proofs.theorems.cases_hold.Goals as goal

pub returns : goal.returns
unfolding digits is_number number_at word_at space_at line_end_at text_end_at numbers_at
returns c = record {
  numbers = (refl, refl, refl, refl, refl, refl, refl, refl, refl, refl, refl, refl, refl);
  ends = (refl, refl, refl, refl, refl, refl, refl, refl, refl, refl, refl);
  lists = (refl, refl, refl, refl);
}
