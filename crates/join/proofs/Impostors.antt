-- Joiners that the demands refuse, each on eight columns "1" and the endings LF and CR LF. Assumes nothing.
use Prim.Native.Nat.{ℕ, ◌<◌}
use mathlib.Core.Path.{◌≡◌, refl, sym, ◌∙◌}
use mathlib.Core.Bool.{false, false≢true}
use mathlib.Core.Logic.{inl}
use mathlib.Core.List.{List, [], ◌∷◌, append-nil}
use native.Mathlib.Omega.{arith}
use lib.ListN.{length}
use Rattle.text.specs.Bytes.{ends_in}
use Rattle.text.specs.Outcome.{HasWritten}
use Rattle.text.proofs.ByteLaws.{ends_none, ends_behind}
use Rattle.text.proofs.Demands.{byte_text}
use Rattle.text.proofs.OutcomeLaws.{laid_written}
use Rattle.pieces.proofs.PieceLaws.{free_nil, free_cons}
use Rattle.record.specs.Ending.{Ending, nothing, feed, return_feed}
use Rattle.line.specs.Demands as Line
use Rattle.line.specs.Demands.{Reader}
use Rattle.line.proofs.Impostors.{ones, ones_eight, ones_each}
use Rattle.line.proofs.ShapeLaws.{begins_only}
use Rattle.join.specs.Join.{line_text}
use Rattle.join.specs.Demands.{Joiner, IsLine, no_column, lost, Fault, bad, broken, Meets, OneSpelling, Settles}
use Rattle.join.proofs.FaultLaws.{faultless_line}
use Rattle.join.proofs.BackForth.{begun_read}
use Rattle.join.proofs.Spellings.{joined_again}

-- ---- the input

-- such a column has no fault, whatever the ending
ones_faultless : {e : Ending} (k n : ℕ) → k < length ones → Fault ones e k n → ⊥
ones_faultless k n l (bad (no_column f)) = f (rw (ones_each k l) (record { some = omega arith; no_tab = free_cons (λ z. omega arith) free_nil; no_feed = free_cons (λ z. omega arith) free_nil }))
ones_faultless k n l (bad (lost q r z)) =
    let b : ends_in 13 (49 ∷ []) ≡ false = ends_behind (λ z. omega arith) [] [] ∙ ends_none 13 [] refl in
    false≢true (sym b ∙ (rw (ones_each k l) at r))
ones_faultless k n l (broken c u) = false≢true (sym (rw (ones_each k l) at u) ∙ byte_text 49 (omega arith))

ones_line : (e : Ending) → IsLine ones e (line_text ones e)
ones_line e = rw (append-nil (line_text ones e)) at (faultless_line {e = e} (inl ones_eight) ones_faultless {rest = []} (λ z. refl))

differ : feed ≡ return_feed → ⊥
differ e = let z : ◌≡◌ {A = ℕ} 0 1 = cc in omega arith

-- ---- LF for both

abbrev pub feeding : Joiner → Joiner
feeding join cs e out at = join cs feed out at

-- ---- each for the other

pub turned : Ending → Ending
turned nothing = nothing
turned feed = return_feed
turned return_feed = feed

abbrev pub turning : Joiner → Joiner
turning join cs e out at = join cs (turned e) out at

module _ (join : Joiner) (m : Meets join) where
  -- with as much room as it needs
  ones_joined : (e : Ending) → HasWritten (join ones e (line_text ones e) 0) 0 (line_text ones e)
  ones_joined e =
      let t : List ℕ = line_text ones e in
      laid_written t t 0 (joined_again join m (ones_line e) t 0 (omega arith)) (omega arith)

  -- a joiner that ends each line in LF gives two endings the same bytes
  pub feeds_one : OneSpelling (feeding join) → ⊥
  unfolding OneSpelling
  feeds_one one = differ ((one ones feed _ 0 _ ones return_feed _ 0 _ (ones_joined feed) (ones_joined feed)).0 refl).1

  -- and with one that takes each of LF and CR LF for the other what was read as LF is read as CR LF the second time
  pub turns_settle : (read : Reader) → Line.Meets read → Settles read (turning join) → ⊥
  unfolding Settles turned
  turns_settle read g settles =
      let t : List ℕ = line_text ones return_feed in
      let a = begun_read read g (line_text ones feed) 0 (ones_line feed) in
      let h : HasWritten (turning join a.stands.columns a.stands.ending t 0) 0 t = rw (a.columns, a.ending) (ones_joined return_feed) in
      let c = settles (line_text ones feed) 0 a.accepted a.stands t 0 t h t 0 [] (sym (append-nil t)) (λ z. refl) in
      let o = begins_only (ones_line return_feed) c.read_again.stands.begin in
      differ (sym a.ending ∙ sym c.read_again.ending ∙ o.1)
