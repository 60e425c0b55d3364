use Rattle.text.proofs.Returning.{word_is_written, number_is_written, ends_are_written}
use Rattle.text.proofs.ReturningLists.{numbers_are_written}
use Rattle.text.proofs.theorems.only_what_is_written_is_read.Goals as goal

pub returns : goal.returns
returns c = record { word = word_is_written; number = number_is_written; numbers = numbers_are_written; ends = ends_are_written }
