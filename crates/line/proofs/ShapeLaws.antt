-- Columns that begin an input are its line's, so none is bad, and no others begin it. Assumes nothing.
use Prim.Native.Nat.{ℕ, ◌+◌, ◌<◌}
use mathlib.Core.Path.{◌≡◌, sym, ap, ◌∙◌}
use mathlib.Core.Logic.{⊎_elim}
use mathlib.Core.List.{List, [], ◌∷◌}
use native.Mathlib.Omega.{arith}
use lib.ListN.{length, get_or, drop}
use Rattle.text.specs.Answer.{says, number_of}
use Rattle.text.specs.Verdict.{fine}
use Rattle.pieces.specs.Pieces.{split, joined}
use Rattle.pieces.proofs.PieceLaws.{split_free, split_joined, split_back}
use Rattle.record.specs.Ending.{Ending, ending_bytes, ending_number}
use Rattle.line.specs.Line.{line, line_of, verdict, field_places, judged_answer, line_answer, read_answer}
use Rattle.line.specs.Demands.{MayEnd, LineCut, Shaped, Begins}
use Rattle.line.proofs.LineLaws.{read_line}
use Rattle.line.proofs.ColumnLaws.{free_joined, free_each, line_only, count_fine}

-- ---- the line's

module _ {s : List ℕ} {cs : List (List ℕ)} {e : Ending} {rest : List ℕ} (b : Shaped s cs e rest) where
  pub shaped_line : line_of s ≡ line (joined 9 cs) e rest
  shaped_line =
      line_only
      (record { whole = b.whole; unfed = free_joined cs (λ z. omega arith) (λ i l. (b.each i l).no_feed); ended = b.ended })

  pub shaped_split : split 9 (joined 9 cs) ≡ cs
  shaped_split = split_back 9 cs (⊎_elim (λ h. omega arith) (λ h. omega arith) b.count) (λ i l. (b.each i l).no_tab)

  -- none is bad, so the answer turns on UTF-8 alone
  pub shaped_fine : (from past : ℕ) → verdict 1 from cs e past ≡ fine
  shaped_fine from past = count_fine from cs e past b.count (λ i l. (b.each i l).some)

  pub shaped_answer : (from : ℕ)
      → line_answer from (line_of s) ≡ judged_answer fine from (from + length (joined 9 cs)) cs e (from + length (joined 9 cs) + length (ending_bytes e))
  unfolding line_answer
  shaped_answer from = rw (shaped_line, shaped_split, shaped_fine from (from + length (joined 9 cs) + length (ending_bytes e)))

-- a line's columns begin the input where they are so many, and none is empty
pub cut_shaped : {s t : List ℕ} {e : Ending} {rest : List ℕ} → LineCut s t e rest → MayEnd (length (split 9 t))
    → ((i : ℕ) → i < length (split 9 t) → 0 < length (get_or (split 9 t) i [])) → Shaped s (split 9 t) e rest
cut_shaped {t = t} c n full =
    let j = split_joined 9 t in
    record {
      count = n;
      each = λ i l. record { some = full i l; no_tab = split_free 9 t i l; no_feed = free_each 9 (split 9 t) (rw j c.unfed) i l };
      whole = rw j c.whole;
      ended = rw j c.ended;
    }

-- ---- the answer

-- where columns begin what is left, the answer is 0, with their places
pub begins_answer : (s : List ℕ) (at : ℕ) {cs : List (List ℕ)} {e : Ending} {rest : List ℕ} → at < length s → Begins (drop at s) cs e rest
    → read_answer s at ≡ says 0 ((at + length (joined 9 cs) + length (ending_bytes e)) ∷ ending_number e ∷ field_places at cs (at + length (joined 9 cs)))
unfolding judged_answer
begins_answer s at h b = read_line s at h ∙ shaped_answer b.shaped at ∙ rw b.utf8

pub begins_read : (s : List ℕ) (at : ℕ) {cs : List (List ℕ)} {e : Ending} {rest : List ℕ} → at < length s → Begins (drop at s) cs e rest
    → number_of (read_answer s at) ≡ 0
begins_read s at h b = rw (begins_answer s at h b)

-- no others begin it
pub begins_only : {s : List ℕ} {cs ds : List (List ℕ)} {e f : Ending} {rest r : List ℕ} → Begins s cs e rest → Begins s ds f r → (ds ≡ cs) × (f ≡ e) × (r ≡ rest)
begins_only {cs = cs} {ds = ds} {e = e} {f = f} {rest = rest} {r = r} b c =
    let l : line (joined 9 ds) f r ≡ line (joined 9 cs) e rest = sym (shaped_line c.shaped) ∙ shaped_line b.shaped in
    let x : joined 9 ds ≡ joined 9 cs = cc in
    (sym (shaped_split c.shaped) ∙ ap (split 9) x ∙ shaped_split b.shaped, (cc), (cc))
