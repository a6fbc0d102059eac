-- What is joined is a line's text, so any line reader reads it; what was read is a line, so any joiner gives it back; and ours are such.
-- Assumes nothing.
use Prim.Native.Nat.{ℕ, ◌+◌, ◌-◌, ◌<◌, ◌≤◌}
use mathlib.Core.Path.{◌≡◌, refl, sym, ap, ◌∙◌}
use mathlib.Core.List.{List, [], ◌∷◌, ◌++◌}
use native.Mathlib.Omega.{arith}
use native.Mathlib.Decide.{ℕ_discrete}
use lib.ListN.{length, drop, take, length-append, length-drop}
use lib.Seq.{take_at}
use Rattle.text.specs.Answer.{Answer, says, number_of, values_of}
use Rattle.text.specs.Over.{over_at}
use Rattle.text.specs.Outcome.{Outcome}
use Rattle.text.specs.Place.{placed}
use Rattle.text.proofs.CopyLaws.{laid_at_refused}
use Rattle.text.proofs.PlaceLaws.{placed_refuses}
use Rattle.text.proofs.OutcomeLaws.{same_outcome, was_written, written_is, written_taken}
use Rattle.pieces.specs.Pieces.{joined}
use Rattle.entries.specs.Entries.{entry_list}
use Rattle.record.specs.Ending.{Ending, nothing, ending_bytes}
use Rattle.record.specs.Paper.{ending_of, record_values}
use Rattle.line.specs.Line.{read_answer}
use Rattle.line.specs.Demands as Line
use Rattle.line.specs.Demands.{Begins, Reader, Stands, One, OneReader}
use Rattle.line.proofs.ShapeLaws.{begins_read}
use Rattle.line.proofs.RecordLaws.{begins_some}
use Rattle.line.proofs.CaseLaws.{read_record}
use Rattle.line.proofs.One.{one}
use Rattle.line.proofs.Meets as LineMeets
use Rattle.join.specs.Join.{line_text, list_answer, join_answer}
use Rattle.join.specs.Demands.{Joiner, joiner, IsLine, WritesLine, Refused, beyond, few, fault, short, Refusals, Meets, Exact, HasRead, Back, Forth, Follow, EntriesJoiner, Rejoins}
use Rattle.join.proofs.FaultLaws.{line_whole, line_faultless, line_again, line_is}
use Rattle.join.proofs.Demands.{meets, as_written}

-- ---- refused exactly when there is no line

exactly : (join : Joiner) → Meets join → Exact join
unfolding Exact WritesLine Refusals
exactly join m cs e out at h room = (only_then, then)
  where
    only_then : (number_of (join cs e out at).answer ≡ 0 → ⊥) → (s rest : List ℕ) → Begins s cs e rest → ⊥
    only_then n s rest b = by ((m.refusals cs e out at _ n).0 refl)
      where
        by : {a : Answer} → Refused cs e out at a → ⊥
        by (beyond l) = omega arith
        by (few l f) = f b.shaped.count
        by (fault l c f) = line_faultless b _ _ f.within f.here
        by (short {t} l i o) = let r = room t i in omega arith

    then : ((s rest : List ℕ) → Begins s cs e rest → ⊥) → number_of (join cs e out at).answer ≡ 0 → ⊥
    then n z = let w = m.writes_line cs e out at z in n w.text [] w.line

-- ---- what is joined is read

-- a line, and what may follow it
pub line_begins : {cs : List (List ℕ)} {e : Ending} {t s rest : List ℕ} → IsLine cs e t → s ≡ t ++ rest → (e ≡ nothing → rest ≡ []) → Begins s cs e rest
line_begins l d r = rw (d, line_is l) (line_again l r)

module _ (read : Reader) (g : Line.Meets read) where
  read_same : (s : List ℕ) (at : ℕ) → read s at ≡ read_answer s at
  unfolding OneReader
  read_same = LineMeets.one_reader read read_answer g LineMeets.meets

  -- any reader reads columns that begin what is left
  pub begun_read : (s : List ℕ) (p : ℕ) {cs : List (List ℕ)} {e : Ending} {rest : List ℕ} → Begins (drop p s) cs e rest → HasRead s p (read s p) cs e rest
  unfolding One
  begun_read s p {cs} {e} {rest} b =
      let h : p < length s = omega (arith, begins_some b, length-drop p s) in
      let z : number_of (read s p) ≡ 0 = ap number_of (read_same s p) ∙ begins_read s p h b in
      let a = g.one s p z in
      let o = a.only cs e rest b in
      record { accepted = z; stands = a; columns = sym o.0; ending = sym o.1; left = sym o.2 }

  back : (join : Joiner) → Meets join → Back read join
  unfolding Back WritesLine
  back join m cs e out at n q s p rest d r =
      let w = as_written (m.writes_line cs e out at (ap number_of q)) in
      begun_read s p (line_begins (written_is w (written_taken (was_written w) q refl)) d r)

-- ---- what was read is given back

-- the line of columns that begin an input is as long as they and their ending are, and is what the input begins with
module _ {s : List ℕ} {cs : List (List ℕ)} {e : Ending} {rest : List ℕ} (b : Begins s cs e rest) where
  line_size : length (line_text cs e) ≡ length (joined 9 cs) + length (ending_bytes e)
  unfolding line_text
  line_size = length-append (joined 9 cs) (ending_bytes e)

  line_taken : (n : ℕ) → length (line_text cs e) ≡ n → take n s ≡ line_text cs e
  line_taken n l = rw (← b.shaped.whole, line_whole cs e rest) (take_at (line_text cs e) rest n l)

-- any joiner, with room, gives it back
module _ (join : Joiner) (m : Meets join) where
  pub begun_joined : {s : List ℕ} {cs : List (List ℕ)} {e : Ending} {rest : List ℕ} → Begins s cs e rest → (out : List ℕ) (p n : ℕ) → length (line_text cs e) ≡ n → p + n ≤ length out
      → join cs e out p ≡ record { answer = says 0 (n ∷ []); output = over_at p (take n s) out }
  unfolding WritesLine Exact
  begun_joined {s} {cs} {e} {rest} b out p n l h = by (ℕ_discrete (number_of (join cs e out p).answer) 0)
    where
      by : Dec (number_of (join cs e out p).answer ≡ 0) → join cs e out p ≡ record { answer = says 0 (n ∷ []); output = over_at p (take n s) out }
      by (yes z) =
          let w = m.writes_line cs e out p z in
          let t = line_is w.line in
          same_outcome (w.count ∙ rw (t, l)) (w.bytes ∙ rw (t, line_taken b n l))
      by (no z) =
          let room : (t : List ℕ) → IsLine cs e t → p + length t ≤ length out = λ t i. rw (line_is i, l) h in
          absurd ((exactly join m cs e out p (omega arith) room).0 z s rest b)

  forth : (read : Reader) → Line.Meets read → Forth read join
  unfolding Forth
  forth read g s at z a next others v out p h =
      let e = a.values in
      let k : next ≡ at + length (joined 9 a.columns) + length (ending_bytes a.ending) = cc in
      begun_joined a.begin out p (next - at) (omega (arith, line_size a.begin)) h

pub follow : Follow
unfolding Follow
follow read join g m = (exactly join m, back read g join m, forth join m read g)

-- ---- the joiner over an entry list

pub entries_joiner : EntriesJoiner
unfolding join_answer list_answer joiner
entries_joiner =
    record {
      rises = λ t ends e at out r out' h w. (w.answer ∙ rw h, w.bytes ∙ rw h);
      falls = λ t ends e at out r out' h w. (w.answer ∙ rw h, w.bytes ∙ rw h (laid_at_refused (placed at out (says 16 [])) at (line_text (entry_list t ends) e) out (placed_refuses at out (says 16 []) (λ z. omega arith))));
    }

-- ---- read and joined by ours

pub rejoins : Rejoins
unfolding Rejoins Forth One
rejoins s at next r read t ends rest h b out p room x out' j =
    let q : read_answer s at ≡ says 0 (next ∷ record_values r) = sym read ∙ read_record refl in
    let a : Stands s at (read_answer s at) = one s at (ap number_of q) in
    let o = a.only (entry_list t ends) (ending_of r.ending) rest b in
    let f = forth joiner meets read_answer LineMeets.meets s at (ap number_of q) a next (record_values r) (ap values_of q) out p room in
    let g : joiner (entry_list t ends) (ending_of r.ending) out p ≡ record { answer = says 0 ((next - at) ∷ []); output = over_at p (take (next - at) (drop at s)) out } = rw (o.0, o.1) f in
    let w = entries_joiner.rises t ends (ending_of r.ending) p out x out' h j in
    (w.0 ∙ ap (λ (y : Outcome). y.answer) g, w.1 ∙ ap (λ (y : Outcome). y.output) g)
