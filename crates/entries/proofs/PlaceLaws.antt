-- The part that an entry is: the place that `entry_at` answers, or the empty place at the text's end; where the ends rise, the list's entry. Assumes nothing.
use Prim.Native.Nat.{ℕ, ◌+◌, ◌^◌, ◌<◌, ◌≤◌}
use mathlib.Core.Path.{◌≡◌, refl, ◌∙◌}
use mathlib.Core.Bool.{true}
use mathlib.Core.Logic.{◌⊎◌, inl, inr}
use mathlib.Core.List.{List, []}
use native.Mathlib.Omega.{arith}
use denote.Ref.{Bor}
use mir.Syntax.{w64}
use mir.Val.{Fits}
use lib.ListN.{length, get_or}
use borrow.Author.Tests.{le-ltb}
use borrow.Rule.Slice.PartAt.{sl_partˢ}
use Rattle.std.specs.Prelude.{Result, Ok, Err}
use Rattle.std.specs.Result.{result_unwrap_or}
use Rattle.std.proofs.lemmas.Bool.{cases_lt}
use Rattle.std.proofs.lemmas.List.{get_or_past}
use Rattle.text.specs.Range.{range_at, cut}
use Rattle.text.specs.declared.range.Range.{Range}
use Rattle.text.proofs.Lists.{cut_is}
use Rattle.text.proofs.PartLaws.{lent_part}
use Rattle.entries.specs.Entries.{rising, entry_list}
use Rattle.entries.specs.Inner.{entry_answer, entry_range, PlacesEntry}
use Rattle.entries.specs.Paper.{entry_paper}
use Rattle.entries.specs.Promises.{ShowsEntry}
use Rattle.entries.specs.declared.entries.NoEntry.{NoEntry}
use Rattle.entries.specs.declared.entries.NoEntry.TheVariants as N
use Rattle.entries.proofs.EntryLaws.{entry_rising, entry_cut, entry_within, entries_length}

-- ---- the place

pub place_told : (t ends : List ℕ) (i : ℕ) (x : Result Range NoEntry) {r : Range} → entry_paper x ≡ entry_answer t ends i → r ≡ result_unwrap_or x (range_at (length t) 0)
    → PlacesEntry t ends i r
unfolding entry_range entry_paper
place_told t ends i (Ok r) e q = rw q (record { is = rw (← e); within = entry_within t ends i r e })
place_told t ends i (Err N.Nothing) e q = rw q (record { is = rw (← e); within = omega arith })
place_told t ends i (Err N.Wrong) e q = rw q (record { is = rw (← e); within = omega arith })

-- ---- the part that is lent there

module _ {t ends : List ℕ} {i : ℕ} {r : Range} (p : PlacesEntry t ends i r) where
  pub part_within : r.start + r.len ≤ length t
  part_within = p.within

  pub part_fits : length t < 2 ^ 64 → Fits w64 (r.start + r.len)
  part_fits m = let w = p.within in omega arith

pub part_shows : (text : Bor (List ℕ)) (ends : List ℕ) (i : ℕ) (r : Range) → PlacesEntry text.now ends i r
    → ShowsEntry text ends i (sl_partˢ text (r.start + text.ref_ptr.1) r.start (r.start + r.len))
part_shows text ends i r p = rw (← p.is) (lent_part text r)

-- ---- for callers

-- where the ends rise, it cuts out the list's entry
pub range_entry : (t ends : List ℕ) (i : ℕ) → rising 0 ends (length t) ≡ true → i < length ends → cut (entry_range t ends i) t ≡ get_or (entry_list t ends) i []
unfolding entry_range
range_entry t ends i r h = rw (entry_rising t ends i r h, cut_is) (entry_cut t ends i h)

pub entry_shown : (text : Bor (List ℕ)) (ends : List ℕ) (i : ℕ) {r : Bor (List ℕ)} → ShowsEntry text ends i r → rising 0 ends (length text.now) ≡ true → i < length ends
    → r.now ≡ get_or (entry_list text.now ends) i []
entry_shown text ends i s r h = s.bytes ∙ range_entry text.now ends i r h

-- behind the last entry it cuts out nothing
range_past : (t ends : List ℕ) (i : ℕ) → length ends ≤ i → cut (entry_range t ends i) t ≡ get_or (entry_list t ends) i []
unfolding entry_range entry_answer
range_past t ends i h =
    let n = entries_length t ends in
    rw (le-ltb _ _ h, get_or_past (entry_list t ends) i [] (omega arith), cut_is) refl

-- so for every number it is what the list has there, or the empty text
pub entry_or_none : (text : Bor (List ℕ)) (ends : List ℕ) (i : ℕ) {r : Bor (List ℕ)} → ShowsEntry text ends i r → rising 0 ends (length text.now) ≡ true
    → r.now ≡ get_or (entry_list text.now ends) i []
entry_or_none text ends i {r} s rise = by (cases_lt i (length ends))
  where
    by : (i < length ends) ⊎ (length ends ≤ i) → r.now ≡ get_or (entry_list text.now ends) i []
    by (inl h) = entry_shown text ends i s rise h
    by (inr h) = s.bytes ∙ range_past text.now ends i h

pub ruleset laws = (place_told, part_within, part_fits, part_shows)
