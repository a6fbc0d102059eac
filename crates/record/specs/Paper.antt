-- The values on paper of an ending and of a record (docs/RULES.md, "Numbers answered"). Assumes nothing.
use Rattle.std.specs.Prelude.{ℕ, List, [], ◌∷◌, ◌++◌, get_or}
use Rattle.text.specs.Range.{range_places}
use Rattle.record.specs.Ending.{Ending, nothing, feed, return_feed, ending_number}
use Rattle.record.specs.Place.{range_of}
use Rattle.record.specs.declared.ending.Ending.{Ending as DeclaredEnding}
use Rattle.record.specs.declared.ending.Ending.TheVariants as E
use Rattle.record.specs.declared.place.Record.{Record}
use Rattle.record.specs.declared.place.Name.TheVariants as N

-- how a line ended, in the words of the definition
abbrev pub ending_of : DeclaredEnding → Ending
ending_of E.Nothing = nothing
ending_of E.Feed = feed
ending_of E.ReturnFeed = return_feed

-- the starts and lengths of the ten fields
unfoldable pub record_places : Record → List ℕ
record_places r =
    range_places (range_of r N.Chrom)
    ++ range_places (range_of r N.Pos)
    ++ range_places (range_of r N.Id)
    ++ range_places (range_of r N.Reference)
    ++ range_places (range_of r N.Alt)
    ++ range_places (range_of r N.Qual)
    ++ range_places (range_of r N.Filter)
    ++ range_places (range_of r N.Info)
    ++ range_places (range_of r N.Format)
    ++ range_places (range_of r N.Samples)

-- how its line ended, and those
unfoldable pub record_values : Record → List ℕ
record_values r = ending_number (ending_of r.ending) ∷ record_places r

-- the numbers that a record has
unfoldable pub record_numbers : Record → List ℕ
record_numbers r = r.start ∷ r.chrom ∷ r.pos ∷ r.id ∷ r.reference ∷ r.alt ∷ r.qual ∷ r.filter ∷ r.info ∷ r.format ∷ r.end ∷ []

-- the record with an ending and these numbers
unfoldable pub record_with : DeclaredEnding → List ℕ → Record
record_with ending numbers =
    record {
      ending = ending;
      start = get_or numbers 0 0;
      chrom = get_or numbers 1 0;
      pos = get_or numbers 2 0;
      id = get_or numbers 3 0;
      reference = get_or numbers 4 0;
      alt = get_or numbers 5 0;
      qual = get_or numbers 6 0;
      filter = get_or numbers 7 0;
      info = get_or numbers 8 0;
      format = get_or numbers 9 0;
      end = get_or numbers 10 0;
    }
