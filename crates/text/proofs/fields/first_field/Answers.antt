use Rattle.std.proofs.Common.{rules}
use Rattle.text.proofs.Runs.{field_by_position}
use Rattle.text.proofs.fields.first_field.Goals as goal

pub returns : goal.returns
returns c = let front = field_by_position c.args.text.now in search rules
