-- The definition is that of the text at the field's place. Assumes nothing.
use Rattle.std.proofs.Common.{rules}
use Rattle.fields.proofs.FieldLaws.{laws}
use Rattle.fields.proofs.field.field.Goals as goal

pub returns : goal.returns
returns c = search (rules, laws)
