-- Our writer over the definitions writes exactly the lists that have a vector, at the smallest width, and what is asked leaves one writer: a
-- list has a vector of a length, or the first test that it fails says why not. Assumes nothing.
use Prim.Native.Nat.{ℕ, ◌+◌, ◌*◌, ◌≤◌, ◌<◌}
use mathlib.Core.Path.{◌≡◌, refl, sym, ap, ◌∙◌}
use mathlib.Core.List.{List, [], ◌∷◌}
use mathlib.Core.Option.{Option, some, none}
use native.Mathlib.Omega.{arith}
use native.Mathlib.Decide.{ℕ_discrete, dec_le}
use lib.ListN.{length, drop, length-drop}
use borrow.Author.Tests.{ne_eqb, le-ltb, lt-ltb, le-leb, lt-leb}
use Rattle.text.specs.Answer.{Answer, says, number_of}
use Rattle.text.specs.Over.{over_at}
use Rattle.text.proofs.CopyLaws.{laid_at_refused}
use Rattle.text.proofs.OutcomeLaws.{same_outcome, RefusedWhen, one_outcome}
use Rattle.allele.specs.Row.{first_unsound}
use Rattle.allele.specs.declared.allele.Allele.{Allele}
use Rattle.allele.proofs.RowLaws.{unsound_first, first_unsound_lem, none_unsound, sound_first}
use Rattle.genotype.specs.Demands.{AtMost}
use Rattle.spelling.specs.Demands.{Unsound}
use Rattle.bcf.specs.Layout.{size, largest, Lays}
use Rattle.bcf.specs.declared.width.Width.{Width}
use Rattle.bcf.specs.declared.width.Width.TheVariants.{W32}
use Rattle.bcf.specs.Writing.{vector_of, most_of, smallest, sound_answer, room_in, entries_answer, sized_answer, list_answer, placed_answer}
use Rattle.bcf.specs.Demands as D
use Rattle.bcf.specs.Demands.{HasVector, Least, Writer, writer, WasWritten, NoVector, NotWritten, MeetsWriting, OneWriter}
use Rattle.bcf.proofs.LayoutLaws.{lays_length}
use Rattle.bcf.proofs.MostLaws.{at_most, most_at}
use Rattle.bcf.proofs.VectorLaws.{vector_lays, lays_has}
use Rattle.bcf.proofs.SmallestLaws.{smallest_holds, smallest_least, has_most, smallest_lays, one_least}

-- ---- a list that has a vector, or not

-- in any width
pub no_vector : {w : Width} {n : ℕ} {as' : List Allele} {a : Answer} → NoVector n as' a → HasVector w as' n → ⊥
no_vector D.empty h = let s = h.some in omega arith
no_vector (D.bad u) h = h.sound _ u
no_vector (D.large {as'} s l) h = l (at_most (largest W32) as' (has_most h))
no_vector (D.long s l f) h = let g = h.few in omega arith

no_done : {n : ℕ} {as' : List Allele} {a : Answer} → NoVector n as' a → number_of a ≡ 0 → ⊥
no_done D.empty e = omega arith
no_done (D.bad u) e = omega arith
no_done (D.large s l) e = omega arith
no_done (D.long s l f) e = omega arith

not_done : {n : ℕ} {as' : List Allele} {out : List ℕ} {at : ℕ} {a : Answer} → NotWritten n as' out at a → number_of a ≡ 0 → ⊥
not_done (D.beyond h) e = omega arith
not_done (D.none h u) e = no_done u e
not_done (D.short h l s f) e = omega arith

data Judged (n : ℕ) (as' : List Allele) : Type 0 where
  has : HasVector (smallest as') as' n → Judged n as'
  hasn't : {a : Answer} → NoVector n as' a → Judged n as'

judged : (n : ℕ) (as' : List Allele) → Judged n as'
judged n [] = hasn't D.empty
judged n (a ∷ as') = unsound_by (first_unsound 0 (a ∷ as')) refl
  where
    sized_by : ((k : ℕ) → Unsound (a ∷ as') k → ⊥) → Dec (most_of (a ∷ as') ≤ largest W32) → Dec (length (a ∷ as') ≤ n) → Judged n (a ∷ as')
    sized_by s (yes h) (yes f) = has (record { some = omega arith; sound = s; small = at_most _ (a ∷ as') (smallest_holds (a ∷ as') h); few = f })
    sized_by s (yes h) (no f) = hasn't (D.long s (at_most (largest W32) (a ∷ as') h) (omega arith))
    sized_by s (no h) f = hasn't (D.large s (λ g. h (most_at (largest W32) (a ∷ as') g)))

    unsound_by : (o : Option ℕ) → first_unsound 0 (a ∷ as') ≡ o → Judged n (a ∷ as')
    unsound_by (some k) e = hasn't (D.bad (first_unsound_lem (a ∷ as') e))
    unsound_by none e = sized_by (none_unsound (a ∷ as') e) (dec_le (most_of (a ∷ as')) (largest W32)) (dec_le (length (a ∷ as')) n)

-- ---- and what it is answered

module _ (n : ℕ) (room : ℕ) where
  some_list : (as' : List Allele) → 0 < length as' → list_answer n as' room ≡ sound_answer (first_unsound 0 as') (sized_answer n as' room)
  unfolding list_answer
  some_list as' h = rw (ne_eqb (length as') 0 (λ e. omega arith))

  sound_list : (as' : List Allele) → 0 < length as' → ((k : ℕ) → Unsound as' k → ⊥) → list_answer n as' room ≡ sized_answer n as' room
  unfolding sound_answer
  sound_list as' h s = some_list as' h ∙ rw (sound_first as' s)

  held_list : (as' : List Allele) → 0 < length as' → ((k : ℕ) → Unsound as' k → ⊥) → most_of as' ≤ largest W32 → list_answer n as' room ≡ entries_answer (smallest as') n as' room
  unfolding sized_answer
  held_list as' h s l = sound_list as' h s ∙ rw (le-ltb (largest W32) (most_of as') l)

  large_list : (as' : List Allele) → (AtMost (largest W32) as' → ⊥) → 0 < length as'
  large_list [] n = absurd (n (record { each = λ i h. absurd (omega arith) }))
  large_list (a ∷ as') n = omega arith

  unsound_list : (as' : List Allele) {k : ℕ} → Unsound as' k → 0 < length as'
  unsound_list [] u = absurd (elim u [ ])
  unsound_list (a ∷ as') u = omega arith

  none_answer : {as' : List Allele} {a : Answer} → NoVector n as' a → list_answer n as' room ≡ a
  unfolding list_answer sound_answer sized_answer entries_answer
  none_answer D.empty = refl
  none_answer (D.bad {as'} u) = some_list as' (unsound_list as' u) ∙ rw (unsound_first as' u)
  none_answer (D.large {as'} s l) =
      let h : largest W32 < most_of as' = elim (dec_le (most_of as') (largest W32)) [ yes h ↦ absurd (l (at_most (largest W32) as' h)) | no h ↦ omega arith ] in
      sound_list as' (large_list as' l) s ∙ rw (lt-ltb (largest W32) (most_of as') h)
  none_answer (D.long {as'} s l f) = held_list as' (omega arith) s (most_at (largest W32) as' l) ∙ rw (lt-ltb n (length as') f)

  has_answer : (as' : List Allele) → HasVector (smallest as') as' n → list_answer n as' room ≡ room_in (smallest as') n room
  unfolding entries_answer
  has_answer as' h = held_list as' h.some h.sound (has_most h) ∙ rw (le-ltb n (length as') h.few)

-- ---- from a place on

module _ (n : ℕ) (as' : List Allele) (out : List ℕ) (at : ℕ) where
  inside : at ≤ length out → placed_answer n as' out at ≡ list_answer n as' (length (drop at out))
  unfolding placed_answer
  inside h = rw (le-leb at (length out) h)

  outside : length out < at → placed_answer n as' out at ≡ says 6 []
  unfolding placed_answer
  outside h = rw (lt-leb at (length out) h)

  module _ (h : at ≤ length out) (g : HasVector (smallest as') as' n) where
    fitting : at + n * size (smallest as') ≤ length out → placed_answer n as' out at ≡ says 0 (size (smallest as') ∷ n * size (smallest as') ∷ [])
    unfolding room_in
    fitting f = let d = length-drop at out in inside h ∙ has_answer n _ as' g ∙ rw (le-leb (n * size (smallest as')) (length (drop at out)) (omega arith))

    lacking : length out < at + n * size (smallest as') → placed_answer n as' out at ≡ says 17 []
    unfolding room_in
    lacking f = let d = length-drop at out in inside h ∙ has_answer n _ as' g ∙ rw (lt-leb (n * size (smallest as')) (length (drop at out)) (omega arith))

  -- the answers
  data Answered : Answer → Type 0 where
    is_done : HasVector (smallest as') as' n → at + n * size (smallest as') ≤ length out
        → Answered (says 0 (size (smallest as') ∷ n * size (smallest as') ∷ []))
    is_not : {a : Answer} → NotWritten n as' out at a → Answered a

  answered : Answered (placed_answer n as' out at)
  answered = by (dec_le at (length out)) (judged n as') (dec_le (at + n * size (smallest as')) (length out))
    where
      by : Dec (at ≤ length out) → Judged n as' → Dec (at + n * size (smallest as') ≤ length out) → Answered (placed_answer n as' out at)
      by (no h) j d = rw (outside (omega arith)) (is_not (D.beyond (omega arith)))
      by (yes h) (hasn't u) d = rw (inside h, none_answer n _ u) (is_not (D.none h u))
      by (yes h) (has g) (yes f) = rw (fitting h g f) (is_done g f)
      by (yes h) (has g) (no f) =
          let l = vector_lays (smallest as') as' n g in
          let e = lays_length l in
          rw (lacking h g (omega arith)) (is_not (D.short h l (smallest_least as' n) (omega arith)))

  due : {a : Answer} → NotWritten n as' out at a → placed_answer n as' out at ≡ a
  due (D.beyond h) = outside h
  due (D.none h u) = inside h ∙ none_answer n _ u
  due (D.short h l s f) =
      let k = smallest_lays l in
      let e = lays_length k in
      let i = ap length (one_least l s k (smallest_least as' n)).1 in
      lacking h (lays_has k) (omega arith)

  was_written : number_of (writer n as' out at).answer ≡ 0 → WasWritten n as' out at (writer n as' out at)
  unfolding writer
  was_written z = by answered refl
    where
      by : {a : Answer} → Answered a → placed_answer n as' out at ≡ a → WasWritten n as' out at (writer n as' out at)
      by (is_done g f) e =
          let l = vector_lays (smallest as') as' n g in
          let k = lays_length l in
          record {
            width = smallest as';
            vector = vector_of (smallest as') n as';
            lays = l;
            least = smallest_least as' n;
            count = rw k e;
            fits = omega arith;
            bytes = rw e;
          }
      by (is_not u) e = absurd (not_done u (rw e at z))

  given : {a b : Answer} → Answered b → (number_of a ≡ 0 → ⊥) → b ≡ a → NotWritten n as' out at a
  given (is_done g f) n e = absurd (n (ap number_of (sym e)))
  given (is_not u) n e = rw (← e) u

pub meets_writing : MeetsWriting writer
unfolding writer
meets_writing =
    record {
      writes = was_written;
      refusals = λ n as' out at a z. (given n as' out at (answered n as' out at) z, due n as' out at);
      untouched = λ n as' out at z. laid_at_refused (placed_answer n as' out at) at (vector_of (smallest as') n as') out z;
    }

-- ---- any writer that is so

module _ {w : Width} {write : Writer} (m : MeetsWriting write) {as' : List Allele} {n : ℕ} {v : List ℕ} (l : Lays w as' n v) (s : Least w as' n) (out : List ℕ) (at : ℕ)
    (h : at + length v ≤ length out) where
  -- writes the vector of the smallest width that lays out the list
  pub writes_vector : write n as' out at ≡ record { answer = says 0 (size w ∷ length v ∷ []); output = over_at at v out }
  writes_vector = by (ℕ_discrete (number_of (write n as' out at).answer) 0)
    where
      not : {a : Answer} → NotWritten n as' out at a → ⊥
      not (D.beyond o) = omega arith
      not (D.none o u) = no_vector u (lays_has l)
      not (D.short o k t f) = let e = ap length (one_least k t l s).1 in omega arith

      by : Dec (number_of (write n as' out at).answer ≡ 0) → write n as' out at ≡ record { answer = says 0 (size w ∷ length v ∷ []); output = over_at at v out }
      by (yes z) =
          let r = m.writes n as' out at z in
          let e = one_least r.lays r.least l s in
          same_outcome (rw (e.0, e.1) at r.count) (rw e.1 at r.bytes)
      by (no z) = absurd (not ((m.refusals n as' out at _ z).0 refl))

pub one_writer : OneWriter
unfolding OneWriter
one_writer write other m m' n as' out at = one_outcome (refused write m) (refused other m') both
  where
    refused : (f : Writer) → MeetsWriting f → RefusedWhen (NotWritten n as' out at) out (f n as' out at)
    refused f g = record { given = g.refusals n as' out at; left = g.untouched n as' out at }

    both : number_of (write n as' out at).answer ≡ 0 → number_of (other n as' out at).answer ≡ 0 → write n as' out at ≡ other n as' out at
    both z z' =
        let r = m.writes n as' out at z in
        let o = m'.writes n as' out at z' in
        let e = one_least r.lays r.least o.lays o.least in
        same_outcome (r.count ∙ rw (e.0, e.1) (sym o.count)) (r.bytes ∙ rw e.1 (sym o.bytes))
