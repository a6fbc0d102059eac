-- One step: each way through its functions is a law of the cut; and what an answer tells, by cases of the definition. Assumes nothing.
use Prim.Native.Nat.{ℕ, suc, ◌+◌, ◌-◌, ◌^◌, ◌≤◌, ◌<◌}
use mathlib.Core.Path.{◌≡◌, refl, sym, ap, ◌∙◌}
use mathlib.Core.List.{List, [], ◌∷◌}
use mathlib.Core.Bool.{Bool, true, false}
use mathlib.Core.Option.{Option, some, none}
use native.Mathlib.Omega.{arith}
use native.Mathlib.Decide.{ℕ_discrete}
use mir.Syntax.{w64}
use mir.Val.{Fits}
use lib.ListN.{length, get_or, take, drop, drop_of_length-le, length-drop}
use lib.Dec.{ltb}
use borrow.Author.Tests.{ltb-true, ltb-false, le-leb, lt-leb}
use Rattle.std.specs.Prelude.{nat_eq, Result, Ok, Err}
use Rattle.std.specs.Cmp.Lexicographic.{pointwise, same_text, other_text}
use Rattle.text.specs.Answer.{says}
use Rattle.text.specs.Same.{same}
use Rattle.text.proofs.Lists.{here}
use Rattle.text.proofs.SameLaws.{same_self, same_not}
use Rattle.decimal.specs.Decimal.{fault_of, decimal_answer}
use Rattle.decimal.specs.Paper.{number_paper}
use Rattle.decimal.specs.declared.read.BadDecimal.{BadDecimal}
use Rattle.decimal.proofs.Value.{told_value, told_bad}
use Rattle.decimal.proofs.FirstFault.{decimal_fault}
use Rattle.allele.specs.Reading.{is_mark, head_of, numbered, bodied, allele_in, implied_by, parts_of, piece_fault, fault_at, found_answer, allele_answer, first_answer, from_answer, step_answer}
use Rattle.allele.specs.Paper.{Step, step_paper}
use Rattle.allele.specs.declared.allele.Allele.{Allele}
use Rattle.allele.specs.declared.step.NoAllele.TheVariants as S
use Rattle.allele.proofs.PaperLaws.{step_paper_injective}
use Rattle.allele.proofs.FaultLaws.{piece_marked, piece_plain, fault_here, fault_past}
use Rattle.allele.proofs.PieceLaws.{mark_bar, mark_slash, mark_none, in_bar, in_slash, in_plain, head_none, head_mark, head_more, head_le, head_take, parts_at, parts_end}

-- ---- the next mark

-- the first mark from i on is the first from `from` on
pub record Seeking (s : List ℕ) (from i : ℕ) : Type 0 where
  pub within : i ≤ length s
  pub same : i + length (head_of (drop i s)) ≡ from + length (head_of (drop from s))

pub seek_first : {s : List ℕ} {from : ℕ} → from ≤ length s → Seeking s from from
seek_first h = record { within = h; same = refl }

module _ {s : List ℕ} {from i : ℕ} (g : Seeking s from i) where
  pub seek_mark : i < length s → is_mark (get_or s i 0) ≡ true → i ≡ from + length (head_of (drop from s))
  seek_mark h m = let e = rw (here s i h, head_mark _ (drop (i + 1) s) m) at g.same in omega arith

  pub seek_turn : i < length s → is_mark (get_or s i 0) ≡ false → Seeking s from (i + 1)
  seek_turn h m =
      let e = rw (here s i h, head_more _ (drop (i + 1) s) m) at g.same in
      record { within = omega arith; same = omega arith }

  pub seek_past : length s ≤ i → i ≡ from + length (head_of (drop from s))
  seek_past h = omega (arith, rw (drop_of_length-le s h, head_none) at g.same)

-- ---- a piece without its mark

-- `==` on two texts tells whether they are the same
pub same_by : (s t : List ℕ) (x : Bool) → x ≡ pointwise nat_eq s t → x ≡ same s t
same_by s t true e = sym (rw (same_text s t e) (same_self t))
same_by s t false e = sym (same_not s t (other_text s t e))

module _ (s : List ℕ) (phased : Bool) (next : ℕ) {t : Bool} (d : t ≡ same s (46 ∷ [])) where
  pub body_dot : t ≡ true
      → step_paper (Ok (record { number = 0; missing = true; phased = phased }, next)) ≡ allele_answer next (next - length s + fault_of s) (bodied phased s)
  unfolding bodied step_paper allele_answer
  body_dot e = rw (← d, e)

  module _ (x : Result ℕ BadDecimal) (f : number_paper x ≡ decimal_answer s) where
    pub body_value : {n : ℕ} → t ≡ false → x ≡ Ok n
        → step_paper (Ok (record { number = n; missing = false; phased = phased }, next)) ≡ allele_answer next (next - length s + fault_of s) (bodied phased s)
    unfolding bodied numbered step_paper allele_answer
    body_value {n} e g = rw (← d, e, told_value n s (rw g at f))

    pub body_bad : {bad : BadDecimal} → t ≡ false → x ≡ Err bad
        → step_paper (Err (S.Bad (next - length s + bad.at))) ≡ allele_answer next (next - length s + fault_of s) (bodied phased s)
    unfolding bodied numbered step_paper allele_answer
    body_bad {bad} e g = let b = told_bad bad s (rw g at f) in rw (← d, e, b.0, b.1)

-- a fault lies within the piece, or at its end
pub body_fits : (s : List ℕ) (next : ℕ) (x : Result ℕ BadDecimal) {bad : BadDecimal} → number_paper x ≡ decimal_answer s → x ≡ Err bad → length s ≤ next → next < 2 ^ 64
    → Fits w64 (next - length s + bad.at)
body_fits s next x {bad} f g h l = let b = (told_bad bad s (rw g at f)).1 in let w = (decimal_fault s).within in omega arith

-- ---- what a step answers

-- the first allele from a place of the text on, and the place past it
abbrev pub first_at : List ℕ → ℕ → Option Allele
first_at t at = allele_in (implied_by (drop (at + 1) t)) (get_or t at 0 ∷ head_of (drop (at + 1) t))

abbrev pub past_at : List ℕ → ℕ → ℕ
past_at t at = at + 1 + length (head_of (drop (at + 1) t))

-- and the place of its fault, where it is none
abbrev fault_from : List ℕ → ℕ → ℕ
fault_from t at = at + piece_fault (get_or t at 0 ∷ head_of (drop (at + 1) t))

inside : (t : List ℕ) (at : ℕ) → (length t ≡ 0 → ⊥) → at ≤ length t → step_answer t at ≡ first_answer at (drop at t)
unfolding step_answer from_answer
inside [] at n h = absurd (n refl)
inside (b ∷ s) at n h = rw (le-leb at (length (b ∷ s)) h)

pub step_beyond : (t : List ℕ) (at : ℕ) → length t < at → step_paper (Err S.Beyond) ≡ step_answer t at
unfolding step_paper step_answer
step_beyond t at h = rw (lt-leb _ _ h)

pub step_empty : (t : List ℕ) (at : ℕ) → at ≤ length t → length t ≡ 0 → step_paper (Err S.Empty) ≡ step_answer t at
unfolding step_paper step_answer from_answer
step_empty [] at h e = rw (le-leb at 0 h)
step_empty (b ∷ s) at h e = absurd (omega arith)

pub step_nothing : (t : List ℕ) (at : ℕ) → (length t ≡ 0 → ⊥) → at ≡ length t → step_paper (Err S.Nothing) ≡ step_answer t at
unfolding step_paper first_answer
step_nothing t at n e = sym (inside t at n (omega arith) ∙ rw (drop_of_length-le t {i = at} (omega arith)))

step_here : (t : List ℕ) (at : ℕ) → at < length t → step_answer t at ≡ allele_answer (past_at t at) (fault_from t at) (first_at t at)
unfolding first_answer
step_here t at h = inside t at (λ z. omega arith) (omega arith) ∙ rw (here t at h)

module _ (t : List ℕ) (at : ℕ) {end : ℕ} (x : Step) (w : at ≤ length t) (n : at ≡ length t → ⊥) (e : end ≡ past_at t at) where
  -- the bytes up to the next mark
  part : take (end - (at + 1)) (drop (at + 1) t) ≡ head_of (drop (at + 1) t)
  part =
      let l : end - (at + 1) ≡ length (head_of (drop (at + 1) t)) = omega arith in
      rw l (head_take (drop (at + 1) t))

  whole : take (end - at) (drop at t) ≡ get_or t at 0 ∷ head_of (drop (at + 1) t)
  whole =
      let l : end - at ≡ suc (end - (at + 1)) = omega arith in
      rw (l, here t at (omega arith)) (ap (λ (z : List ℕ). get_or t at 0 ∷ z) part)

  -- the bytes lent to `read_body`
  pub part_within : length (take (end - (at + 1)) (drop (at + 1) t)) ≤ end
  part_within = rw part (omega arith)

  pub whole_within : length (take (end - at) (drop at t)) ≤ end
  whole_within = rw whole (omega arith)

  finds : {o : Option Allele} {f : ℕ} → first_at t at ≡ o → f ≡ fault_from t at → step_paper x ≡ allele_answer end f o → step_paper x ≡ step_answer t at
  finds q z f = f ∙ rw (e, ← q, z) (sym (step_here t at (omega arith)))

  -- a fault is counted from the piece's start, past its mark
  marked_fault : is_mark (get_or t at 0) ≡ true → end - length (head_of (drop (at + 1) t)) + fault_of (head_of (drop (at + 1) t)) ≡ fault_from t at
  marked_fault m = let z = piece_marked (get_or t at 0) (head_of (drop (at + 1) t)) m in omega arith

  pub step_bar : get_or t at 0 ≡ 124
      → step_paper x
      ≡ allele_answer end (end - length (take (end - (at + 1)) (drop (at + 1) t)) + fault_of (take (end - (at + 1)) (drop (at + 1) t))) (bodied true (take (end - (at + 1)) (drop (at + 1) t)))
      → step_paper x ≡ step_answer t at
  step_bar b f = finds (in_bar _ _ _ b) (marked_fault (mark_bar _ b)) (rw part at f)

  pub step_slash : get_or t at 0 ≡ 47
      → step_paper x
      ≡ allele_answer end (end - length (take (end - (at + 1)) (drop (at + 1) t)) + fault_of (take (end - (at + 1)) (drop (at + 1) t))) (bodied false (take (end - (at + 1)) (drop (at + 1) t)))
      → step_paper x ≡ step_answer t at
  step_slash b f = finds (in_slash _ _ _ b) (marked_fault (mark_slash _ b)) (rw part at f)

  plain_fault : is_mark (get_or t at 0) ≡ false
      → end - length (get_or t at 0 ∷ head_of (drop (at + 1) t)) + fault_of (get_or t at 0 ∷ head_of (drop (at + 1) t)) ≡ fault_from t at
  plain_fault m = let z = piece_plain (get_or t at 0) (head_of (drop (at + 1) t)) m in omega arith

  pub step_plain : {i : Bool} → (get_or t at 0 ≡ 124 → ⊥) → (get_or t at 0 ≡ 47 → ⊥) → i ≡ implied_by (drop (at + 1) t)
      → step_paper x ≡ allele_answer end (end - length (take (end - at) (drop at t)) + fault_of (take (end - at) (drop at t))) (bodied i (take (end - at) (drop at t)))
      → step_paper x ≡ step_answer t at
  step_plain b c i f = finds (in_plain _ _ _ b c) (plain_fault (mark_none _ b c)) (rw (i, whole) at f)

-- ---- what an answer tells

-- an allele, and the place past it
pub record Further (t : List ℕ) (at : ℕ) (a : Allele) (next : ℕ) : Type 0 where
  pub first : first_at t at ≡ some a
  pub ends : next ≡ past_at t at
  pub past : at < next
  pub within : next ≤ length t
  pub parts : parts_of (drop at t) ≡ some a ∷ parts_of (drop next t)

-- a piece that is no allele, and the place of its fault
pub record Wrong (t : List ℕ) (at fault : ℕ) : Type 0 where
  pub first : first_at t at ≡ none
  pub there : fault ≡ at + fault_at (drop at t) 0
  pub before : at < length t
  pub others : List (Option Allele)
  pub parts : parts_of (drop at t) ≡ none ∷ others

-- the end of a text that is not empty
pub record AtEnd (t : List ℕ) (at : ℕ) : Type 0 where
  pub is : at ≡ length t
  pub some : length t ≡ 0 → ⊥

-- the empty text
pub record NoText (t : List ℕ) (at : ℕ) : Type 0 where
  pub none : length t ≡ 0
  pub start : at ≡ 0

-- what each answer of a step tells
abbrev pub StepTells : List ℕ → ℕ → Step → Type 0
StepTells t at (Ok (a, next)) = Further t at a next
StepTells t at (Err S.Beyond) = length t < at
StepTells t at (Err S.Nothing) = AtEnd t at
StepTells t at (Err S.Empty) = NoText t at
StepTells t at (Err (S.Bad fault)) = Wrong t at fault

module _ (t : List ℕ) (at : ℕ) (h : at < length t) where
  pub further_at : (a : Allele) → first_at t at ≡ some a → Further t at a (past_at t at)
  further_at a q =
      let l = head_le (drop (at + 1) t) in
      let d = length-drop (at + 1) t in
      record { first = q; ends = refl; past = omega arith; within = omega arith; parts = rw q at (parts_at t at h) }

  from_rest : fault_from t at ≡ at + fault_at (drop at t) 0
  from_rest = rw (fault_here t at h)

  pub wrong_at : first_at t at ≡ none → Wrong t at (at + fault_at (drop at t) 0)
  wrong_at q = record { first = q; there = refl; before = h; others = _; parts = rw q at (parts_at t at h) }

module _ {t : List ℕ} {at : ℕ} where
  pub further_says : {a : Allele} {next : ℕ} → Further t at a next → step_answer t at ≡ found_answer next a
  unfolding allele_answer
  further_says f = step_here t at (omega (arith, f.past, f.within)) ∙ rw (f.first, f.ends)

  pub wrong_says : {fault : ℕ} → Wrong t at fault → step_answer t at ≡ says 12 (fault ∷ [])
  unfolding allele_answer
  wrong_says f = step_here t at f.before ∙ rw (f.first, from_rest t at f.before, ← f.there)

  -- behind an allele faults are those of the rest from there on
  pub further_fault : {a : Allele} {next : ℕ} → Further t at a next → (k : ℕ) → at + fault_at (drop at t) (k + 1) ≡ next + fault_at (drop next t) k
  further_fault f k = rw f.ends (fault_past t at (omega (arith, f.past, f.within)) k)

-- where parts begin with one from a place on, it is that of the place
pub record Opens (t : List ℕ) (at : ℕ) (o : Option Allele) : Type 0 where
  pub before : at < length t
  pub first : first_at t at ≡ o

pub parts_open : (t : List ℕ) (at : ℕ) {o : Option Allele} {ps : List (Option Allele)} → parts_of (drop at t) ≡ o ∷ ps → Opens t at o
parts_open t at {o} {ps} e = by (ltb at (length t)) refl
  where
    by : (c : Bool) → ltb at (length t) ≡ c → Opens t at o
    by true h = let l = ltb-true _ _ h in record { before = l; first = let q = sym (parts_at t at l) ∙ e in cc }
    by false h = let q = sym (parts_end t at (ltb-false _ _ h)) ∙ e in let z : ◌≡◌ {A = ℕ} 0 1 = cc in absurd (omega arith)

-- every place has an answer
pub record Answered (t : List ℕ) (at : ℕ) : Type 0 where
  pub step : Step
  pub is : step_paper step ≡ step_answer t at
  pub tells : StepTells t at step

pub answered : (t : List ℕ) (at : ℕ) → Answered t at
unfolding step_paper
answered t at = placed (ltb (length t) at) refl
  where
    some_left : at < length t → (o : Option Allele) → first_at t at ≡ o → Answered t at
    some_left h (some a) q = let f = further_at t at h a q in record { step = Ok (a, past_at t at); is = sym (further_says f); tells = f }
    some_left h none q = let f = wrong_at t at h q in record { step = Err (S.Bad _); is = sym (wrong_says f); tells = f }

    ended : at ≡ length t → Dec (length t ≡ 0) → Answered t at
    ended z (yes n) = record { step = Err S.Empty; is = step_empty t at (omega arith) n; tells = record { none = n; start = omega arith } }
    ended z (no n) = record { step = Err S.Nothing; is = step_nothing t at n z; tells = record { is = z; some = n } }

    reached : at ≤ length t → (c : Bool) → ltb at (length t) ≡ c → Answered t at
    reached w true h = some_left (ltb-true _ _ h) (first_at t at) refl
    reached w false h = let l = ltb-false at (length t) h in ended (omega arith) (ℕ_discrete (length t) 0)

    placed : (c : Bool) → ltb (length t) at ≡ c → Answered t at
    placed true h = let l = ltb-true _ _ h in record { step = Err S.Beyond; is = step_beyond t at l; tells = l }
    placed false h = reached (ltb-false _ _ h) (ltb at (length t)) refl

-- an answer tells what the definition, whose paper it has, says
pub step_means : (t : List ℕ) (at : ℕ) (x : Step) → step_paper x ≡ step_answer t at → StepTells t at x
step_means t at x e = let g = answered t at in rw (step_paper_injective x g.step (e ∙ sym g.is)) g.tells

-- the same of an answer on paper
module _ (t : List ℕ) (at : ℕ) where
  pub says_found : (a : Allele) (to : ℕ) → step_answer t at ≡ found_answer to a → Further t at a to
  unfolding step_paper
  says_found a to e = step_means t at (Ok (a, to)) (sym e)

  pub says_bad : (fault : ℕ) → step_answer t at ≡ says 12 (fault ∷ []) → Wrong t at fault
  unfolding step_paper
  says_bad fault e = step_means t at (Err (S.Bad fault)) (sym e)

-- a step that finds an allele moves on
module _ (t : List ℕ) (at : ℕ) (x : Step) (e : step_paper x ≡ step_answer t at) (a : Allele) (next : ℕ) (q : x ≡ Ok (a, next)) where
  pub found : Further t at a next
  found = step_means t at (Ok (a, next)) (rw q at e)

  pub found_less : length t - next < length t - at
  found_less = let f = found in omega arith

pub ruleset laws = (same_by, seek_first, seek_mark, seek_turn, seek_past, body_dot, body_value, body_bad, body_fits, step_beyond, step_empty, step_nothing, part_within, whole_within, step_bar, step_slash, step_plain)
