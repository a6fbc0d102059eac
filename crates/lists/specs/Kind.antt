-- In what filters and ALT entries differ: the separator, and the number of an invalid entry (docs/RULES.md, "Filters and
-- ALT"). Assumes nothing.
use Rattle.std.specs.Prelude.{ℕ}
use Rattle.lists.specs.declared.write.Kind.{Kind}
use Rattle.lists.specs.declared.write.Kind.TheVariants as K

-- `;` and `,`
abbrev pub separator_of : Kind → ℕ
separator_of K.Filters = 59
separator_of K.Alts = 44

abbrev pub invalid_of : Kind → ℕ
invalid_of K.Filters = 14
invalid_of K.Alts = 15
