use Rattle.text.proofs.Returning.{word_reads_back, number_reads_back, ends_read_back}
use Rattle.text.proofs.ReturningLists.{numbers_read_back}
use Rattle.text.proofs.theorems.what_is_written_reads_back.Goals as goal

pub returns : goal.returns
returns c = record { word = word_reads_back; number = number_reads_back; numbers = numbers_read_back; ends = ends_read_back }
