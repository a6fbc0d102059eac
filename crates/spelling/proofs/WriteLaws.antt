-- Writing a list: each plan's answer and bytes, at the start of an output and from a place on. Assumes nothing.
use Prim.Native.Nat.{ℕ, ◌-◌, ◌≤◌, ◌<◌}
use mathlib.Core.Path.{◌≡◌, refl, sym, ◌∙◌, subst}
use mathlib.Core.Bool.{Bool, true, false}
use mathlib.Core.List.{List, []}
use mathlib.Core.Logic.{◌⊎◌, inl, inr}
use native.Mathlib.Omega.{arith}
use lib.ListN.{length, take, drop}
use lib.Dec.{leb}
use borrow.Author.Tests.{le-leb, lt-leb}
use borrow.Rule.Slice.PartMut.{put_mid}
use Rattle.text.specs.Pick.{pick}
use Rattle.text.specs.Answer.{Answer, says, number_of}
use Rattle.text.specs.Over.{over, laid}
use Rattle.text.proofs.CopyLaws.{room_fits, room_lacks, rest_laid}
use Rattle.text.proofs.Lists.{rest_all}
use Rattle.genotype.specs.Answers as G
use Rattle.allele.specs.declared.allele.Allele.{Allele}
use Rattle.genotype.proofs.AnswerLaws.{row_even, row_uneven_nm, row_uneven_np, row_done_nm, row_done_np}
use Rattle.allele.specs.Row.{Parallel, row_of}
use Rattle.spelling.specs.Spelling.{Spelled, spell}
use Rattle.spelling.specs.Permitted.{from44}
use Rattle.spelling.specs.Row.{list_of}
use Rattle.spelling.specs.declared.row.Row.{Row}
use Rattle.std.specs.Borrow.{Bor}
use Rattle.spelling.specs.Inner.{tally_of, plan_of, size_of, planned_text, WritesList}
use Rattle.spelling.specs.Write.{Small, spelled_answer, text_of, list_answer, row_answer, WritesRow, SmallWhereDone}
use Rattle.spelling.specs.Paper.{write_paper}
use Rattle.spelling.specs.declared.tally.Tally.{Tally}
use Rattle.spelling.specs.declared.tally.Plan.{Plan}
use Rattle.spelling.specs.declared.tally.Plan.TheVariants as P
use Rattle.std.specs.Prelude.{Result, Ok, Err}
use Rattle.spelling.specs.declared.write.WriteError.{WriteError}
use Rattle.spelling.specs.declared.write.WriteError.TheVariants as W
use Rattle.spelling.proofs.TextLaws.{text_bare, text_marked}
use Rattle.spelling.proofs.PlanLaws.{Spells, Told, plan_told}

-- ---- at the start of an output

-- what is spelled decides
abbrev Spelt : Spelled → List ℕ → Result ℕ WriteError → List ℕ → Type 0
Spelt s l r l' = (write_paper r ≡ spelled_answer s l) × (l' ≡ laid (spelled_answer s l) (text_of s) l)

module _ {as' : List Allele} {late : Bool} (l : List ℕ) where
  writes_by : {s : Spelled} {r : Result ℕ WriteError} {l' : List ℕ} → spell late as' ≡ s → Spelt s l r l' → WritesList as' late l r l'
  writes_by e w = record { answer = rw e w.0; bytes = rw e w.1 }

  writes_text : {vs : List ℕ} {n : ℕ} → Spells as' late vs (length l) n → WritesList as' late l (Ok n) (over vs l)
  unfolding write_paper spelled_answer text_of
  writes_text {vs} g = writes_by g.is (rw (room_fits vs l g.fits, g.count), rw (room_fits vs l g.fits))

  -- what is not written, and why
  refused : (e : WriteError) → Told as' late (length l) (Err e) → WritesList as' late l (Err e) l
  unfolding write_paper spelled_answer text_of
  refused W.Beyond g = absurd g
  refused W.Empty g = writes_by g (refl, refl)
  refused (W.Bad k) g = writes_by g (refl, refl)
  refused W.Phasing g = writes_by g (refl, refl)
  refused W.Lengths g = absurd g
  refused W.Short g = writes_by g.is (rw (room_lacks g.vs l g.lacks), rw (room_lacks g.vs l g.lacks))

-- what each plan tells, answered and written
module _ (as' : List Allele) (late : Bool) (l : List ℕ) where
  told_room : (x : Plan) → Told as' late (length l) (Ok x) → length (planned_text x as') ≤ length l
  told_room (P.Bare n) g = rw (text_bare n as') g.fits
  told_room (P.Marked n) g = rw (text_marked n 0 as') g.fits

  told_writes : (x : Plan) → Told as' late (length l) (Ok x) → WritesList as' late l (Ok (size_of x)) (over (planned_text x as') l)
  unfolding size_of
  told_writes (P.Bare n) g = rw (text_bare n as') (writes_text l g)
  told_writes (P.Marked n) g = rw (text_marked n 0 as') (writes_text l g)

  module _ {t : Tally} (e : t ≡ tally_of (length l) as') where
    same : plan_of (tally_of (length l) as') (length as') late ≡ plan_of t (length as') late
    same = rw e

    module _ {x : Plan} (f : Ok x ≡ plan_of t (length as') late) where
      told : Told as' late (length l) (Ok x)
      told = subst (λ (y : Result Plan WriteError). Told as' late (length l) y) (same ∙ sym f) (plan_told as' late (length l))

      pub planned_room : length (planned_text x as') ≤ length l
      planned_room = told_room x told

      pub planned_writes : {n : ℕ} {l' : List ℕ} → n ≡ size_of x → l' ≡ over (planned_text x as') l → WritesList as' late l (Ok n) l'
      planned_writes a b = rw (a, b) (told_writes x told)

    pub planned_refused : {r : WriteError} → Err r ≡ plan_of t (length as') late → WritesList as' late l (Err r) l
    planned_refused {r} f = refused l r (subst (λ (y : Result Plan WriteError). Told as' late (length l) y) (same ∙ sym f) (plan_told as' late (length l)))

-- ---- from a place on

pub list_inside : (as' : List Allele) (late : Bool) (out : List ℕ) (at : ℕ) → at ≤ length out
    → list_answer as' late out at ≡ spelled_answer (spell late as') (drop at out)
unfolding list_answer
list_inside as' late out at h = rw (le-leb _ _ h)

pub list_beyond : (as' : List Allele) (late : Bool) (out : List ℕ) (at : ℕ) → length out < at → list_answer as' late out at ≡ says 6 []
unfolding list_answer
list_beyond as' late out at h = rw (lt-leb _ _ h)

module _ (n m p : List ℕ) (late : Bool) (out : List ℕ) (at : ℕ) where
  -- slices of one length are answered as their list is
  pub row_list : length n ≡ length m → length n ≡ length p → row_answer n m p late out at ≡ list_answer (row_of n m p) late out at
  unfolding row_answer list_answer
  row_list e f = rw (row_even n m p _ e f)

  -- and only those are answered 0
  pub row_parallel : number_of (row_answer n m p late out at) ≡ 0 → Parallel n m p
  unfolding row_answer
  row_parallel z = by (leb at (length out)) z
    where
      by : (b : Bool) → number_of (pick b (G.row_answer n m p (spelled_answer (spell late (row_of n m p)) (drop at out))) (says 6 [])) ≡ 0 → Parallel n m p
      by true z = record { missing = row_done_nm n m p _ z; phased = row_done_np n m p _ z }
      by false z = absurd (omega arith)

module _ (n m p : List ℕ) (major minor : ℕ) (out : List ℕ) (at : ℕ) where
  pub write_beyond : length out < at → WritesRow n m p major minor out at (Err W.Beyond) out
  unfolding write_paper row_answer
  write_beyond h = record { answer = rw (lt-leb _ _ h); bytes = rw (lt-leb _ _ h) }

  module _ (h : at ≤ length out) where
    -- the slices' lengths differ
    differ : ((a : Answer) → G.row_answer n m p a ≡ says 16 []) → WritesRow n m p major minor out at (Err W.Lengths) out
    unfolding write_paper row_answer
    differ e = record { answer = rw (le-leb _ _ h, e _); bytes = rw (le-leb _ _ h, e _) }

    pub write_uneven : (length n ≡ length m → ⊥) ⊎ (length n ≡ length p → ⊥) → WritesRow n m p major minor out at (Err W.Lengths) out
    write_uneven (inl e) = differ (λ a. row_uneven_nm n m p a e)
    write_uneven (inr e) = differ (λ a. row_uneven_np n m p a e)

    module _ (q : Parallel n m p) {r : Result ℕ WriteError} {ys : List ℕ}
        (w : WritesList (row_of n m p) (from44 major minor) (take (length out - at) (drop at out)) r ys) where
      spelling : Spelled
      spelling = spell (from44 major minor) (row_of n m p)

      rest : List ℕ
      rest = take (length out - at) (drop at out)

      row_answer_lem : row_answer n m p (from44 major minor) out at ≡ spelled_answer spelling rest
      unfolding spelling rest
      row_answer_lem = rw (row_list n m p (from44 major minor) out at q.missing q.phased, rest_all out at) (list_inside (row_of n m p) (from44 major minor) out at h)

      pub write_row : WritesRow n m p major minor out at r (put_mid at (length out - at) out ys)
      unfolding spelling rest
      write_row = record { answer = w.answer ∙ sym row_answer_lem; bytes = rw row_answer_lem (rest_laid (spelled_answer spelling rest) at (text_of spelling) out ys w.bytes) }

-- the same of a row made of three slices
pub write_made : (x : Row) {n m p : Bor (List ℕ)} (major minor : ℕ) (out : List ℕ) (at : ℕ) {r : Result ℕ WriteError} {ys : List ℕ}
    → at ≤ length out → (x.numbers ≡ n) × (x.missing ≡ m) × (x.phased ≡ p) → WritesList (list_of x) (from44 major minor) (take (length out - at) (drop at out)) r ys
    → WritesRow n.now m.now p.now major minor out at r (put_mid at (length out - at) out ys)
write_made x major minor out at h e w = rw (← e.0, ← e.1, ← e.2) (write_row x.numbers.now x.missing.now x.phased.now major minor out at h x.parallel w)

-- ---- the numbers of a list that is written

pub small_done : {n : List ℕ} {r : Result ℕ WriteError} → Small n → SmallWhereDone n r
small_done s = record { small = λ _. s }

module _ {n : List ℕ} where
  pub small_beyond : SmallWhereDone n (Err W.Beyond)
  unfolding write_paper
  small_beyond = record { small = λ e. absurd (omega arith) }

  pub small_lengths : SmallWhereDone n (Err W.Lengths)
  unfolding write_paper
  small_lengths = record { small = λ e. absurd (omega arith) }

pub ruleset laws = (write_beyond, write_uneven, write_row, small_done, small_beyond, small_lengths)
