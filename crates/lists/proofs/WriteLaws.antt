-- The writers: each way through each function is a law of the definitions; the entries still to judge stand for all of them. Assumes nothing.
use Prim.Native.Nat.{ℕ, ◌+◌, ◌-◌, ◌<◌, ◌≤◌, zero-le}
use mathlib.Core.Path.{◌≡◌, refl, sym, ◌∙◌}
use mathlib.Core.Bool.{Bool, true, false}
use mathlib.Core.List.{List, [], ◌∷◌}
use native.Mathlib.Omega.{arith}
use Rattle.std.specs.Prelude.{Result, Ok, Err}
use lib.ListN.{length, get_or, take, drop}
use lib.Dec.{eqb}
use borrow.Author.Tests.{le-leb, lt-leb, eqb-true, eqb-false}
use borrow.Rule.Slice.PartMut.{put_mid}
use Rattle.text.specs.Pick.{pick}
use Rattle.text.specs.Answer.{number_of}
use Rattle.text.specs.Over.{Writes}
use Rattle.text.specs.Verdict.{refused}
use Rattle.text.specs.declared.copy.NoRoom.{NoRoom}
use Rattle.text.proofs.CopyLaws.{room_fits, room_lacks, rest_laid}
use Rattle.text.proofs.WrittenLaws.{Wrote, Lacked, writes_done, writes_short}
use Rattle.text.proofs.Lists.{rest_all}
use Rattle.pieces.specs.Pieces.{joined}
use Rattle.entries.specs.Entries.{rising, entry_list}
use Rattle.entries.specs.Inner.{ends_answer, JoinsList}
use Rattle.entries.specs.Paper.{ends_paper}
use Rattle.entries.specs.declared.entries.WrongEnds.{WrongEnds}
use Rattle.entries.specs.declared.joined.JoinError.{JoinError}
use Rattle.entries.specs.declared.joined.JoinError.TheVariants as P
use Rattle.entries.proofs.EntryLaws.{entries_length, entry_here, entry_past, ends_tell}
use Rattle.entries.proofs.JoinedLaws.{joined_tells}
use Rattle.lists.specs.Kind.{separator_of, invalid_of}
use Rattle.lists.specs.Judge.{entry_answer}
use Rattle.lists.specs.Paper.{verdict_paper, write_paper}
use Rattle.lists.specs.Write.{list_text, entries_judged, entries_answer, list_answer, write_answer, WritesListAt}
use Rattle.lists.specs.Inner.{error_at, error_of, JudgesList, PutsList, WritesList}
use Rattle.lists.specs.declared.write.Kind.{Kind}
use Rattle.lists.specs.declared.write.Kind.TheVariants as K
use Rattle.lists.specs.declared.write.Fault.{Fault}
use Rattle.lists.specs.declared.write.Fault.TheVariants as F
use Rattle.lists.specs.declared.write.WriteError.{WriteError}
use Rattle.lists.specs.declared.write.WriteError.TheVariants as W

-- ---- judging the entries

-- the entries from i on are judged as all are from 0 on
pub record Judging (kind : Kind) (t ends : List ℕ) (i : ℕ) : Type 0 where
  pub within : i ≤ length ends
  pub same : entries_judged kind i (drop i (entry_list t ends)) ≡ entries_judged kind 0 (entry_list t ends)

pub judge_first : {kind : Kind} {t ends : List ℕ} → Judging kind t ends 0
judge_first = record { within = zero-le; same = refl }

invalid_not : (kind : Kind) → eqb (invalid_of kind) 0 ≡ false
invalid_not K.Filters = refl
invalid_not K.Alts = refl

module _ {kind : Kind} {t ends : List ℕ} {i : ℕ} (g : Judging kind t ends i) where
  module _ (x : Result Unit Fault) {c : List ℕ} (h : i < length ends) (p : c ≡ get_or (entry_list t ends) i []) (e : verdict_paper kind x ≡ entry_answer kind c) where
    judge_here : pick (eqb (number_of (verdict_paper kind x)) 0) (entries_judged kind (i + 1) (drop (i + 1) (entry_list t ends))) (refused (number_of (verdict_paper kind x)) i)
        ≡ entries_judged kind 0 (entry_list t ends)
    unfolding entries_judged
    judge_here = rw (e, p) (rw (entry_here t ends i h) at g.same)

    pub judge_turn : {u : Unit} → x ≡ Ok u → Judging kind t ends (i + 1)
    unfolding verdict_paper
    judge_turn q = record { within = omega arith; same = rw q at judge_here }

    judge_stop : (f : Fault) → x ≡ Err f → JudgesList kind (entry_list t ends) (Err (error_at f i))
    unfolding verdict_paper write_paper
    judge_stop F.NotUtf8 q vs l = let e = rw q at judge_here in rw (← e)
    judge_stop F.Invalid q vs l = let e = rw (q, invalid_not) at judge_here in rw (← e)

    pub judge_fault : {f : Fault} {r : WriteError} → x ≡ Err f → r ≡ error_at f i → JudgesList kind (entry_list t ends) (Err r)
    judge_fault {f} q e = rw e (judge_stop f q)

  pub judge_past : {u : Unit} → length ends ≤ i → JudgesList kind (entry_list t ends) (Ok u)
  unfolding entries_judged
  judge_past h = sym (rw (entry_past t ends i h) at g.same)

-- ---- writing a list that may be written

text_none : (kind : Kind) (es : List (List ℕ)) → length es ≡ 0 → list_text kind es ≡ 46 ∷ []
unfolding list_text
text_none kind [] h = refl
text_none kind (e ∷ es) h = absurd (omega arith)

text_some : (kind : Kind) (es : List (List ℕ)) → (length es ≡ 0 → ⊥) → list_text kind es ≡ joined (separator_of kind) es
unfolding list_text
text_some kind [] h = absurd (h refl)
text_some kind (e ∷ es) h = refl

module _ {kind : Kind} {es : List (List ℕ)} {vs l l' : List ℕ} (e : list_text kind es ≡ vs) where
  puts_done : {n : ℕ} → Wrote vs l n l' → PutsList kind es l (Ok n) l'
  unfolding write_paper
  puts_done w = let m = room_fits vs l w.room in record { answer = rw (e, m, w.count); bytes = rw (e, m) w.bytes }

  puts_short : Lacked vs l l' → PutsList kind es l (Err W.Short) l'
  unfolding write_paper
  puts_short w = let m = room_lacks vs l w.room in record { answer = rw (e, m); bytes = rw (e, m) w.bytes }

-- the empty list
module _ (kind : Kind) (t ends : List ℕ) {l l' : List ℕ} {x : Result ℕ NoRoom} (w : Writes (46 ∷ []) l x l') {n : Bool} (f : n ≡ eqb (length ends) 0) (y : n ≡ true) where
  none_text : list_text kind (entry_list t ends) ≡ 46 ∷ []
  none_text = text_none kind (entry_list t ends) (entries_length t ends ∙ eqb-true (length ends) 0 (sym f ∙ y))

  pub none_done : {n : ℕ} → x ≡ Ok n → PutsList kind (entry_list t ends) l (Ok n) l'
  none_done q = puts_done none_text (writes_done w q)

  pub none_short : {e : NoRoom} → x ≡ Err e → PutsList kind (entry_list t ends) l (Err W.Short) l'
  none_short q = puts_short none_text (writes_short w q)

-- a list of some
module _ (kind : Kind) {b : ℕ} {t ends l l' : List ℕ} {x : Result ℕ JoinError} (w : JoinsList b t ends l x l') (r : rising 0 ends (length t) ≡ true)
    {n : Bool} (f : n ≡ eqb (length ends) 0) (y : n ≡ false) (s : b ≡ separator_of kind) where
  some_text : list_text kind (entry_list t ends) ≡ joined b (entry_list t ends)
  some_text = rw s (text_some kind (entry_list t ends) (λ z. eqb-false (length ends) 0 (sym f ∙ y) (sym (entries_length t ends) ∙ z)))

  pub some_done : {n : ℕ} → x ≡ Ok n → PutsList kind (entry_list t ends) l (Ok n) l'
  some_done q = puts_done some_text (rw q at (joined_tells x w r))

  -- the ends are good, so it lacks room
  pub some_short : (e : JoinError) → x ≡ Err e → PutsList kind (entry_list t ends) l (Err (error_of e)) l'
  some_short P.Wrong q = absurd (rw q at (joined_tells x w r))
  some_short P.Short q = puts_short some_text (rw q at (joined_tells x w r))

-- ---- the answer for a list

module _ (t ends : List ℕ) (x : Result Unit WrongEnds) (e : ends_paper x ≡ ends_answer t ends) where
  pub good_rising : {u : Unit} → x ≡ Ok u → rising 0 ends (length t) ≡ true
  good_rising q = rw q at (ends_tell t ends x e)

  pub list_wrong : (kind : Kind) (l : List ℕ) {w : WrongEnds} → x ≡ Err w → WritesList kind t ends l (Err W.Wrong) l
  unfolding write_paper list_answer
  list_wrong kind l q = let r = rw q at (ends_tell t ends x e) in record { answer = rw r; bytes = rw r }

refusal : (kind : Kind) (e : WriteError) → eqb (number_of (write_paper kind (Err e))) 0 ≡ false
unfolding write_paper
refusal kind (W.NotUtf8 i) = refl
refusal kind W.Beyond = refl
refusal kind (W.Invalid i) = invalid_not kind
refusal kind W.Wrong = refl
refusal kind W.Short = refl

module _ {kind : Kind} {t ends : List ℕ} (l : List ℕ) (r : rising 0 ends (length t) ≡ true) where
  pub list_refused : {e : WriteError} → JudgesList kind (entry_list t ends) (Err e) → WritesList kind t ends l (Err e) l
  unfolding list_answer entries_answer
  list_refused {e} j =
      let f = j (list_text kind (entry_list t ends)) l in
      record { answer = rw r f; bytes = rw (r, ← f, refusal kind e) }

  pub list_put : {u : Unit} {x : Result ℕ WriteError} {l' : List ℕ} → JudgesList kind (entry_list t ends) (Ok u) → PutsList kind (entry_list t ends) l x l' → WritesList kind t ends l x l'
  unfolding list_answer entries_answer
  list_put j p = record { answer = rw (r, j) p.answer; bytes = rw (r, j) p.bytes }

-- ---- from a place on

module _ {kind : Kind} {t ends out : List ℕ} {at : ℕ} where
  pub at_beyond : length out < at → WritesListAt kind t ends out at (Err W.Beyond) out
  unfolding write_paper write_answer
  at_beyond h = record { answer = rw (lt-leb _ _ h); bytes = rw (lt-leb _ _ h) }

  pub at_rest : {x : Result ℕ WriteError} {ys : List ℕ} → at ≤ length out → WritesList kind t ends (take (length out - at) (drop at out)) x ys
      → WritesListAt kind t ends out at x (put_mid at (length out - at) out ys)
  unfolding write_answer
  at_rest {x} {ys} h w =
      record {
        answer = rw (le-leb _ _ h) (rw (rest_all out at) at w.answer);
        bytes = rw (le-leb _ _ h) (rest_laid (list_answer kind t ends (drop at out)) at (list_text kind (entry_list t ends)) out ys (rw (rest_all out at) (rw (rest_all out at) at w.bytes)));
      }

pub ruleset laws = (judge_first, judge_turn, judge_fault, judge_past, none_done, none_short, some_done, some_short, good_rising, list_wrong, list_refused, list_put, at_beyond, at_rest)
