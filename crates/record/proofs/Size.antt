-- A record takes 96 bytes, as the language lays a struct out in memory: computed. Assumes nothing.
use mathlib.Core.Path.{◌≡◌, refl}
use denote.Memory.{mem}
use Rattle.record.specs.contracts.place.Record.{the_row}

pub record_size : (mem the_row).size ≡ 96
record_size = refl
