-- What an answer of a step tells: what stands at the place has some answer's paper, and no two answers have one paper. Assumes nothing.
use Rattle.std.specs.Prelude.{Ok, Err, Option, Some, None}
use Prim.Native.Nat.{ℕ, ◌+◌, ◌<◌, ◌≤◌}
use mathlib.Core.Path.{◌≡◌, refl, ◌∙◌}
use mathlib.Core.List.{List, [], ◌∷◌}
use native.Mathlib.Omega.{arith}
use lib.ListN.{length, length-append}
use Rattle.text.specs.Answer.{Answer, says}
use Rattle.info.specs.Info.{Pair, alone, paired, key_of, places_of, step_answer}
use Rattle.info.specs.Paper.{Step, value_places, entry_places, step_paper}
use Rattle.info.specs.Demands.{spelled}
use Rattle.text.specs.declared.range.Range.{Range}
use Rattle.info.specs.declared.step.Entry.{Entry}
use Rattle.info.specs.declared.step.NoEntry.TheVariants as N
use Rattle.info.proofs.PaperLaws.{step_paper_injective}
use Rattle.info.proofs.EntryLaws.{spelled_some, stands_length}
use Rattle.info.proofs.Steps.{Stands, outside, nothing_left, last_entry, one_entry, last_key, keyless, last_value, step_stands}

-- ---- what an answer can tell

-- a value's place ends within the text
abbrev pub ValueWithin : List ℕ → Option Range → Type 0
ValueWithin t None = Unit {0}
ValueWithin t (Some r) = r.start + r.len ≤ length t

-- an entry: its places lie in the text, and the next place is further on
pub record FoundAt (t : List ℕ) (at : ℕ) (e : Entry) (next : ℕ) : Type 0 where
  pub start : e.key.start ≡ at
  pub some : 0 < e.key.len
  pub key_within : e.key.start + e.key.len ≤ length t
  pub value_within : ValueWithin t e.value
  pub on : at < next
  pub within : next ≤ length t

-- a place beyond the text
pub record BeyondAt (t : List ℕ) (at next : ℕ) : Type 0 where
  pub same : next ≡ at
  pub beyond : length t < at

-- an entry whose `;` is the last byte
pub record DanglesAt (t : List ℕ) (at next : ℕ) : Type 0 where
  pub inside : at < length t
  pub past : next ≡ length t

-- an entry without a key
pub record KeylessAt (t : List ℕ) (at next : ℕ) : Type 0 where
  pub inside : at < length t
  pub past : next ≡ at + 1

-- the text's end
pub record EndAt (t : List ℕ) (at next : ℕ) : Type 0 where
  pub same : next ≡ at
  pub end : at ≡ length t

-- what each answer of a step tells
abbrev pub InfoTells : List ℕ → ℕ → Step → Type 0
InfoTells t at (Ok (e, next)) = FoundAt t at e next
InfoTells t at (Err (N.Beyond next)) = BeyondAt t at next
InfoTells t at (Err (N.AfterKey next)) = DanglesAt t at next
InfoTells t at (Err (N.NoKey next)) = KeylessAt t at next
InfoTells t at (Err (N.AfterValue next)) = DanglesAt t at next
InfoTells t at (Err (N.Nothing next)) = EndAt t at next

-- ---- the entry of a pair whose text stands at a place

value_at : ℕ → Pair → Option Range
value_at at (alone k) = None
value_at at (paired k v) = Some (record { start = at + length k + 1; len = length v })

entry_at : ℕ → Pair → Entry
entry_at at p = record { key = record { start = at; len = length (key_of p) }; value = value_at at p }

found_paper : (at : ℕ) (p : Pair) (next : ℕ) → says 0 (next ∷ places_of at p) ≡ step_paper (Ok (entry_at at p, next))
unfolding entry_at value_at step_paper entry_places value_places places_of
found_paper at (alone k) next = refl
found_paper at (paired k v) next = refl

found_tells : (t : List ℕ) (at : ℕ) (p : Pair) (next : ℕ) → 0 < length (key_of p) → at + length (spelled p) ≤ length t → at < next → next ≤ length t
    → FoundAt t at (entry_at at p) next
unfolding entry_at value_at spelled
found_tells t at (alone k) next n w on h = record { start = refl; some = n; key_within = w; value_within = tt; on = on; within = h }
found_tells t at (paired k v) next n w on h =
    let l = length-append k (61 ∷ v) in
    record { start = refl; some = n; key_within = omega arith; value_within = omega arith; on = on; within = h }

-- ---- an answer tells what stands at the place whose paper it has

pub info_tells : (t : List ℕ) (at : ℕ) (x : Step) → step_paper x ≡ step_answer t at → InfoTells t at x
unfolding step_paper
info_tells t at x e = by (step_stands t at) e
  where
    -- x is y, where y has that paper too
    is : (y : Step) → step_paper x ≡ step_paper y → InfoTells t at y → InfoTells t at x
    is y f d = rw (step_paper_injective x y f) d

    by : {a : Answer} → Stands t at a → step_paper x ≡ a → InfoTells t at x
    by (outside h) e = is (Err (N.Beyond at)) e (record { same = refl; beyond = h })
    by (nothing_left h) e = is (Err (N.Nothing at)) e (record { same = refl; end = h })
    by (last_entry p g d) e =
        let n = spelled_some p g in
        let l = stands_length t at [] p g d in
        is (Ok (entry_at at p, length t)) (e ∙ found_paper at p (length t)) (found_tells t at p (length t) g.key.some (omega arith) (omega arith) (omega arith))
    by (one_entry p g s h d) e =
        let next : ℕ = at + length (spelled p) + 1 in
        let l = stands_length t at (59 ∷ s) p g d in
        is (Ok (entry_at at p, next)) (e ∙ found_paper at p next) (found_tells t at p next g.key.some (omega arith) (omega arith) (omega arith))
    by (last_key h) e = is (Err (N.AfterKey (length t))) e (record { inside = h; past = refl })
    by (keyless h) e = is (Err (N.NoKey (at + 1))) e (record { inside = h; past = refl })
    by (last_value h) e = is (Err (N.AfterValue (length t))) e (record { inside = h; past = refl })
