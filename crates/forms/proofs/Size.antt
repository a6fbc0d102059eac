-- The old form of a record takes 168 bytes, as the language lays a struct out in memory: computed. Assumes nothing.
use mathlib.Core.Path.{◌≡◌, refl}
use denote.Memory.{mem}
use Rattle.forms.specs.contracts.wide.Wide.{the_row}

pub wide_size : (mem the_row).size ≡ 168
wide_size = refl
