-- What any joiner has written is the line of its columns and ending, which no others have; where it stands any reader reads it, and any joiner
-- gives it back. Ours over an entry list are such. Assumes nothing.
use Prim.Native.Nat.{ℕ, ◌+◌, ◌≤◌}
use mathlib.Core.Path.{◌≡◌, refl, sym, ap, ◌∙◌}
use mathlib.Core.Bool.{Bool, true, false}
use mathlib.Core.List.{List, []}
use native.Mathlib.Omega.{arith}
use lib.ListN.{length, take, drop, length-drop}
use lib.Seq.{take-length}
use Rattle.text.specs.Answer.{says, number_of}
use Rattle.text.specs.Outcome.{Outcome, laid_over, HasWritten}
use Rattle.text.proofs.PlaceLaws.{placed_refuses}
use Rattle.text.proofs.OutcomeLaws.{was_written, written_is, written_length, written_taken}
use Rattle.entries.specs.Entries.{rising, entry_list}
use Rattle.record.specs.Ending.{Ending}
use Rattle.line.specs.Demands as Line
use Rattle.line.specs.Demands.{Reader}
use Rattle.line.proofs.ShapeLaws.{begins_read, begins_only}
use Rattle.line.proofs.RecordLaws.{begins_some}
use Rattle.join.specs.Paper.{joined_paper}
use Rattle.join.specs.Demands.{Joiner, joiner, IsLine, WritesLine, Meets, OneSpelling, Settles, Spellings, Wrote, ReadsJoined, JoinedTwice}
use Rattle.join.proofs.FaultLaws.{line_is}
use Rattle.join.proofs.Demands.{writes_line, meets, as_written}
use Rattle.join.proofs.BackForth.{line_begins, begun_read, begun_joined, entries_joiner}

-- ---- any joiner and any reader

module _ (join : Joiner) (m : Meets join) where
  written_line : (cs : List (List ℕ)) (e : Ending) (out : List ℕ) (at : ℕ) {t : List ℕ} → HasWritten (join cs e out at) at t → IsLine cs e t
  unfolding WritesLine
  written_line cs e out at h =
      written_is (as_written (m.writes_line cs e out at (ap number_of h.count))) h

  one_spelling : OneSpelling join
  unfolding OneSpelling
  one_spelling cs e out at t ds f out₂ at₂ u h g =
      let x = written_line cs e out at h in
      let y = written_line ds f out₂ at₂ g in
      (λ q. let o = begins_only y (rw q at x) in (o.0, o.1), λ q. line_is x ∙ rw (q.0, q.1) (sym (line_is y)))

  -- with room the line is joined
  pub joined_again : {cs : List (List ℕ)} {e : Ending} {t : List ℕ} → IsLine cs e t → (out : List ℕ) (p : ℕ) → p + length t ≤ length out → join cs e out p ≡ laid_over t out p
  joined_again {t = t} l out p h = begun_joined join m l out p (length t) (ap length (sym (line_is l))) h ∙ rw (take-length t)

  settles : (read : Reader) → Line.Meets read → Settles read join
  unfolding Settles
  settles read g s at z a out p t h s₂ at₂ rest d r =
      let l = written_line a.columns a.ending out p h in
      let k = begun_read read g s₂ at₂ (line_begins l d r) in
      record { read_again = k; joined_again = λ out p h. rw (k.columns, k.ending) (joined_again l out p h) }

pub spellings : Spellings
unfolding Spellings
spellings join m = (one_spelling join m, settles join m)

-- ---- the joiner over an entry list

module _ {t ends : List ℕ} {e : Ending} {at : ℕ} {out : List ℕ} {n : ℕ} {out' : List ℕ} (w : Wrote t ends e at out n out') where
  -- an answer of 0 is for ends in order
  in_order : rising 0 ends (length t) ≡ true
  in_order = by (rising 0 ends (length t)) refl
    where
      by : (b : Bool) → rising 0 ends (length t) ≡ b → b ≡ true
      by true q = refl
      by false q =
          absurd (placed_refuses at out (says 16 []) (λ z. omega arith) (ap number_of (sym (entries_joiner.falls t ends e at out _ out' q w.joins).0 ∙ w.done)))

  -- so it is the joiner's
  as_list : (joined_paper w.answer ≡ (joiner (entry_list t ends) e out at).answer) × (out' ≡ (joiner (entry_list t ends) e out at).output)
  as_list = entries_joiner.rises t ends e at out w.answer out' in_order w.joins

  has_line : HasWritten (joiner (entry_list t ends) e out at) at (take n (drop at out'))
  unfolding WritesLine
  has_line =
      let a = sym as_list.0 ∙ w.done in
      written_taken (was_written (as_written (writes_line (entry_list t ends) e out at (ap number_of a)))) a as_list.1

  line_length : length (take n (drop at out')) ≡ n
  line_length = written_length has_line (sym as_list.0 ∙ w.done)

  wrote_line : IsLine (entry_list t ends) e (take n (drop at out'))
  wrote_line = written_line joiner meets (entry_list t ends) e out at has_line

pub reads_joined : ReadsJoined
unfolding ReadsJoined
reads_joined t ends e at out n out' w s q rest d r y read =
    let b = line_begins (wrote_line w) d r in
    ap number_of read ∙ begins_read s q (omega (arith, begins_some b, length-drop q s)) b

pub joined_twice : JoinedTwice
unfolding JoinedTwice
joined_twice t ends e at out n out' w s q rest d r x next read t₂ ends₂ rest₂ h b out₂ p room y out₂' j =
    let l = wrote_line w in
    let o = begins_only b (line_begins l d r) in
    let g = entries_joiner.rises t₂ ends₂ _ p out₂ y out₂' h j in
    let f = joined_again joiner meets (rw (o.0, o.1) at l) out₂ p (rw (line_length w) room) in
    (g.0 ∙ ap (λ (x : Outcome). x.answer) f ∙ rw (line_length w), g.1 ∙ ap (λ (x : Outcome). x.output) f)
