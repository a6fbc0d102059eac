-- What the private functions of this crate promise each other. Assumes nothing.
use Rattle.std.specs.Prelude.{ℕ, ◌+◌, ◌-◌, ◌<◌, ◌≤◌, ◌≡◌, Bool, true, false, List, length, get_or, take, drop, Option, Some, None}
use Rattle.text.specs.Range.{range_at}
use Rattle.pieces.specs.Inner.{quiet_length}
use Rattle.info.specs.Info.{pair_of, places_of}
use Rattle.info.specs.Paper.{entry_places}
use Rattle.text.specs.declared.range.Range.{Range}
use Rattle.info.specs.declared.step.Entry.{Entry}

-- ---- an entry that is read

-- up to its end neither `=` (61) nor `;` (59) stands in the key: from there on the first of each is the first from the place `at` on
pub record Reading (t : List ℕ) (at end : ℕ) : Type 0 where
  pub after : at ≤ end
  pub within : end ≤ length t
  pub equals : end + quiet_length 61 61 (drop end t) ≡ at + quiet_length 61 61 (drop at t)
  pub semicolon : end + quiet_length 59 59 (drop end t) ≡ at + quiet_length 59 59 (drop at t)

-- and there stands `=`
pub record KeyRead (t : List ℕ) (at equals : ℕ) : Type 0 where
  pub read : Reading t at equals
  pub within : equals < length t
  pub is : get_or t equals 0 ≡ 61

-- a key without a value
abbrev pub bare_at : ℕ → ℕ → Entry
bare_at at end = record { key = range_at at (end - at); value = None }

-- the text from a place up to the first `;`, or to the end
unfoldable pub entry_text : List ℕ → ℕ → List ℕ
entry_text t at = take (quiet_length 59 59 (drop at t)) (drop at t)

-- where an entry ends: its value, or its key where it has none
unfoldable pub end_by : Option Range → Entry → ℕ
end_by None e = e.key.start + e.key.len
end_by (Some r) e = r.start + r.len

unfoldable pub end_of : Entry → ℕ
end_of e = end_by e.value e

-- the entry that starts at the place
pub record ReadsEntry (t : List ℕ) (at : ℕ) (e : Entry) : Type 0 where
  pub end : end_of e ≡ at + quiet_length 59 59 (drop at t)
  pub places : entry_places e ≡ places_of at (pair_of (entry_text t at))

-- ---- an entry that is judged

-- it is a key alone, and one byte is left behind it
pub record Drops (e : Entry) (left : ℕ) (r : Bool) : Type 0 where
  pub yes : r ≡ true → (left ≡ 1) × (e.value ≡ None)
  pub no : r ≡ false → left ≡ 1 → e.value ≡ None → ⊥

-- one byte further, where one is left
pub record Passes (end left r : ℕ) : Type 0 where
  pub none : left ≡ 0 → r ≡ end
  pub some : (left ≡ 0 → ⊥) → r ≡ end + 1
