-- An entry is spelled as it was cut, and cut as it is spelled; so what stands at a place tells the step's answer, by cases of the definition. Assumes nothing.
use Prim.Native.Nat.{ℕ, ◌+◌, ◌<◌}
use mathlib.Core.Path.{◌≡◌, refl, sym, ap, ◌∙◌}
use mathlib.Core.List.{List, [], ◌∷◌, ◌++◌, append-nil, append_assoc}
use native.Mathlib.Omega.{arith}
use native.Mathlib.Nat.{add_assoc}
use lib.ListN.{length, take, drop, length-append, length-drop}
use lib.Seq.{take-append_seam, drop-append-add, drop-drop}
use Rattle.text.specs.Answer.{says}
use Rattle.text.proofs.ByteLaws.{some_empty}
use Rattle.text.proofs.PlaceLaws.{place_beyond, place_end, place_inside}
use Rattle.pieces.specs.Pieces.{split, joined}
use Rattle.pieces.specs.Demands.{Free}
use Rattle.pieces.proofs.PieceLaws.{free_nil, free_cons, free_tail, free_append, free_left, free_right, first_free, split_nil, split_joined, split_whole, split_append, one_text_lem, more_text}
use Rattle.info.specs.Info.{Pair, alone, paired, key_of, pair_in, pair_of, places_of, entry_answer, dangling_answer, ended_answer, first_answer, step_answer}
use Rattle.info.specs.Demands.{spelled, value_free, Good}

-- ---- an entry and its text

-- one piece: the whole is the key
pub pair_alone : (e : List ℕ) {k : List ℕ} → split 61 e ≡ k ∷ [] → pair_of e ≡ alone e
unfolding pair_of pair_in
pair_alone e q = rw q (ap alone (sym (one_text_lem 61 q)))

-- a first piece, and the rest behind the `=`
pub pair_paired : (e rest : List ℕ) {k : List ℕ} → split 61 e ≡ k ∷ split 61 rest → pair_of e ≡ paired k rest
unfolding pair_of pair_in
pair_paired e rest {k} q = by (split 61 rest) refl
  where
    by : (ps : List (List ℕ)) → split 61 rest ≡ ps → pair_of e ≡ paired k rest
    by [] z = absurd (split_nil 61 rest z)
    by (v ∷ vs) z = rw (q, z) (ap (paired k) (ap (joined 61) (sym z) ∙ split_joined 61 rest))

-- the text of an entry is what it was cut from
pub spelled_pair : (e : List ℕ) → spelled (pair_of e) ≡ e
unfolding spelled pair_of pair_in
spelled_pair e = by (split 61 e) refl
  where
    by : (ps : List (List ℕ)) → split 61 e ≡ ps → spelled (pair_in ps) ≡ e
    by [] q = absurd (split_nil 61 e q)
    by (k ∷ []) q = sym (one_text_lem 61 q)
    by (k ∷ v ∷ vs) q = sym (more_text 61 e q)

-- and an entry is cut from its text, where its key holds no `=`
pub pair_spelled : (p : Pair) → Free 61 (key_of p) → pair_of (spelled p) ≡ p
unfolding spelled
pair_spelled (alone k) f = pair_alone k (split_whole k f)
pair_spelled (paired k v) f = pair_paired (k ++ 61 ∷ v) v (split_append k v f)

key_free : (e : List ℕ) → Free 61 (key_of (pair_of e))
unfolding pair_of pair_in
key_free e = by (split 61 e) refl
  where
    by : (ps : List (List ℕ)) → split 61 e ≡ ps → Free 61 (key_of (pair_in ps))
    by [] q = absurd (split_nil 61 e q)
    by (k ∷ []) q = first_free 61 e q
    by (k ∷ v ∷ vs) q = first_free 61 e q

-- an entry as it is cut from a text free of `;`: its key may be empty
pub record Parted (p : Pair) : Type 0 where
  pub no_equals : Free 61 (key_of p)
  pub no_semicolon : Free 59 (spelled p)

pub pair_parted : (e : List ℕ) → Free 59 e → Parted (pair_of e)
pair_parted e f = record { no_equals = key_free e; no_semicolon = rw (spelled_pair e) f }

-- where it is not, the entry is good
pub parted_good : (p : Pair) → Parted p → 0 < length (key_of p) → Good p
unfolding spelled value_free
parted_good (alone k) c n = record { key = record { some = n; no_equals = c.no_equals; no_semicolon = c.no_semicolon }; value = tt }
parted_good (paired k v) c n =
    record {
      key = record { some = n; no_equals = c.no_equals; no_semicolon = free_left k _ c.no_semicolon };
      value = free_tail (free_right k _ c.no_semicolon);
    }

-- and the text of a good entry is free of `;`
pub spelled_free : (p : Pair) → Good p → Free 59 (spelled p)
unfolding spelled value_free
spelled_free (alone k) g = g.key.no_semicolon
spelled_free (paired k v) g = free_append k g.key.no_semicolon (free_cons (λ z. omega arith) g.value)

pub spelled_some : (p : Pair) → Good p → 0 < length (spelled p)
unfolding spelled
spelled_some (alone k) g = g.key.some
spelled_some (paired k v) g = let n = g.key.some in simp length-append (omega arith)

-- a byte that is neither `=` nor `;` is a good entry
pub byte_good : (b : ℕ) → (b ≡ 61 → ⊥) → (b ≡ 59 → ⊥) → Good (alone (b ∷ []))
unfolding value_free
byte_good b e s = record { key = record { some = omega arith; no_equals = free_cons e free_nil; no_semicolon = free_cons s free_nil }; value = tt }

-- ---- an entry that stands at a place, before a rest

module _ (t : List ℕ) (at : ℕ) (r : List ℕ) where
  pub key_taken : (p : Pair) → drop at t ≡ spelled p ++ r → take (length (key_of p)) (drop at t) ≡ key_of p
  unfolding spelled
  key_taken (alone k) e = rw e (take-append_seam k r)
  key_taken (paired k v) e = rw (e, append_assoc) (take-append_seam k _)

  pub value_taken : (k v : List ℕ) → drop at t ≡ spelled (paired k v) ++ r → take (length v) (drop (at + length k + 1) t) ≡ v
  unfolding spelled
  value_taken k v e = rw (add_assoc, ← drop-drop (length k + 1) at t, e, append_assoc, drop-append-add k _ 1) (take-append_seam v r)

  pub stands_length : (p : Pair) → Good p → drop at t ≡ spelled p ++ r → at + length (spelled p) + length r ≡ length t
  stands_length p g e =
      let n = spelled_some p g in
      let l = length-drop at t in
      omega (arith, simp length-append at (ap length e))

-- what stands behind its `;`
pub after_entry : (t : List ℕ) (at : ℕ) (p : Pair) (s : List ℕ) → drop at t ≡ spelled p ++ 59 ∷ s → drop (at + length (spelled p) + 1) t ≡ s
after_entry t at p s e = rw (add_assoc, ← drop-drop (length (spelled p) + 1) at t, e) (drop-append-add (spelled p) (59 ∷ s) 1)

-- ---- the answer of a step

module _ (t : List ℕ) (at : ℕ) where
  pub step_beyond : length t < at → step_answer t at ≡ says 6 (at ∷ [])
  unfolding step_answer
  step_beyond h = place_beyond at t 10 (first_answer at (split 59 (drop at t))) h

  pub step_end : at ≡ length t → step_answer t at ≡ says 10 (at ∷ [])
  unfolding step_answer
  step_end e = place_end at t 10 (first_answer at (split 59 (drop at t))) e

  pub step_inside : at < length t → step_answer t at ≡ first_answer at (split 59 (drop at t))
  unfolding step_answer
  step_inside h = place_inside at t 10 (first_answer at (split 59 (drop at t))) h

pub first_last : (at : ℕ) (e : List ℕ) → first_answer at (e ∷ []) ≡ entry_answer at (pair_of e) (at + length e)
unfolding first_answer
first_last at e = refl

pub first_ended : (at : ℕ) (e rest : List ℕ) → first_answer at (e ∷ split 59 rest) ≡ ended_answer at (pair_of e) (at + length e + 1) rest
unfolding first_answer
first_ended at e rest = by (split 59 rest) refl
  where
    by : (ps : List (List ℕ)) → split 59 rest ≡ ps → first_answer at (e ∷ ps) ≡ ended_answer at (pair_of e) (at + length e + 1) rest
    by [] z = absurd (split_nil 59 rest z)
    by (f ∷ fs) z = ap (ended_answer at (pair_of e) (at + length e + 1)) (ap (joined 59) (sym z) ∙ split_joined 59 rest)

module _ (at : ℕ) (p : Pair) (next : ℕ) where
  pub ended_none : (s : List ℕ) → length s ≡ 0 → ended_answer at p next s ≡ dangling_answer at p next
  unfolding ended_answer
  ended_none [] h = refl
  ended_none (b ∷ s) h = absurd (omega arith)

  pub ended_some : (s : List ℕ) → 0 < length s → ended_answer at p next s ≡ entry_answer at p next
  unfolding ended_answer
  ended_some [] h = absurd (omega arith)
  ended_some (b ∷ s) h = refl

kept : (at : ℕ) (p : Pair) (next : ℕ) → 0 < length (key_of p) → entry_answer at p next ≡ says 0 (next ∷ places_of at p)
unfolding entry_answer
kept at p next n = rw (some_empty (key_of p) n)

module _ (t : List ℕ) (at : ℕ) (p : Pair) (g : Good p) where
  -- a good entry that the column's end ends
  pub step_last : drop at t ≡ spelled p ++ [] → step_answer t at ≡ says 0 (length t ∷ places_of at p)
  step_last e =
      let n = spelled_some p g in
      let l = stands_length t at [] p g e in
      let m : at + length (spelled p) ≡ length t = omega arith in
      step_inside t at (omega arith)
      ∙ rw (e, append-nil, split_whole (spelled p) (spelled_free p g), first_last, pair_spelled p g.key.no_equals, m) (kept at p (length t) g.key.some)

  -- one that a `;` ends, before a text
  pub step_more : (s : List ℕ) → 0 < length s → drop at t ≡ spelled p ++ 59 ∷ s
      → step_answer t at ≡ says 0 ((at + length (spelled p) + 1) ∷ places_of at p)
  step_more s h e =
      let n = spelled_some p g in
      let l = stands_length t at (59 ∷ s) p g e in
      step_inside t at (omega arith)
      ∙ rw (e, split_append (spelled p) s (spelled_free p g), first_ended, pair_spelled p g.key.no_equals, ended_some at p _ s h) (kept at p _ g.key.some)
