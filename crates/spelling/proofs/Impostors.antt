-- Writers that the demands refuse, each on one small input: one phased 0, in the format 4.4, and an output of one byte that is not `0`;
-- or an empty list; or one unphased 0. Assumes nothing.
use Prim.Native.Nat.{ℕ, ◌+◌}
use mathlib.Core.Path.{◌≡◌, refl, sym, ap, ◌∙◌}
use mathlib.Core.Bool.{Bool, true, false, false≢true}
use mathlib.Core.List.{List, [], ◌∷◌}
use native.Mathlib.Omega.{arith}
use lib.ListN.{length, get_or, take}
use lib.Seq.{take_at}
use Rattle.text.specs.Answer.{Answer, says, number_of}
use Rattle.text.specs.Over.{over, over_at}
use Rattle.text.specs.Outcome.{HasWritten}
use Rattle.text.proofs.Lists.{over_is, take_over_at}
use Rattle.text.proofs.OutcomeLaws.{laid_written}
use Rattle.decimal.proofs.Shortest.{shortest_one}
use Rattle.allele.specs.Means as M
use Rattle.allele.specs.Means.{all_phased, Means}
use Rattle.allele.specs.declared.allele.Allele.{Allele}
use Rattle.allele.proofs.BodyLaws.{digit_body}
use Rattle.allele.proofs.PhasedLaws.{phased_none}
use Rattle.genotype.specs.Demands as Genotype
use Rattle.genotype.specs.Demands.{Reader}
use Rattle.spelling.specs.Spelling.{shaped}
use Rattle.spelling.specs.Permitted.{Permitted, TheShortest}
use Rattle.spelling.specs.Demands.{Writer, WritesShortest, empty, beyond, unspelled, Refusals, Meets, Exact, RoundTrip, OneSpelling, Settles}
use Rattle.allele.proofs.RowLaws.{sound_there, unsound_none, unsound_more}
use Rattle.spelling.proofs.SpellLaws.{body_number, list_none, list_bare, spell_sound}
use Rattle.spelling.proofs.Shortest.{one_text_lem, spelled_shortest}
use Rattle.spelling.proofs.Spellings.{written_again, read_again}

-- ---- the input

abbrev lone : Allele
lone = record { number = 0; missing = false; phased = true }

abbrev phased_zero : List Allele
phased_zero = lone ∷ []

blank : List ℕ
blank = 0 ∷ []

zero_shortest : (late : Bool) → TheShortest (Permitted late phased_zero) (48 ∷ [])
unfolding shaped
zero_shortest late =
    let sound = unsound_more 0 lone [] (sym (sound_there lone refl)) ∙ unsound_none 1 in
    spelled_shortest late phased_zero (48 ∷ [])
    (spell_sound late lone [] sound ∙ rw (phased_none, list_bare lone [], body_number lone refl, list_none, shortest_one 0 (omega arith)))

-- an exact writer writes it
must_write : (write : Writer) → Exact write → (number_of (write 4 4 phased_zero blank 0).answer ≡ 0 → ⊥) → ⊥
unfolding Exact blank
must_write write e refused =
    (e 4 4 phased_zero blank 0 (omega arith) (λ t p. let l = ap length (one_text_lem p (zero_shortest _)) in omega arith)).0 refused (48 ∷ []) (zero_shortest _).has

-- ---- refusing all

-- a writer that refuses every list is not exact
pub refuses_all_writer : (write : Writer) → ((major minor : ℕ) (as' : List Allele) (out : List ℕ) (at : ℕ) → number_of (write major minor as' out at).answer ≡ 0 → ⊥)
    → Exact write → ⊥
refuses_all_writer write refuses e = must_write write e (refuses 4 4 phased_zero blank 0)

-- the round trip alone lets it in, since it speaks only of what was written
pub refuses_all_trips : (write : Writer) → ((major minor : ℕ) (as' : List Allele) (out : List ℕ) (at : ℕ) → number_of (write major minor as' out at).answer ≡ 0 → ⊥)
    → RoundTrip write
unfolding RoundTrip
refuses_all_trips write refuses major minor as' out at n f e = absurd (refuses major minor as' out at (ap number_of e))

-- ---- one number for all refusals

-- a writer that refuses always alike does not meet the refusals: an empty list, beyond an output and at its start
pub one_number : (write : Writer) (a : Answer)
    → ((major minor : ℕ) (as' : List Allele) (out : List ℕ) (at : ℕ) → (number_of (write major minor as' out at).answer ≡ 0 → ⊥) → (write major minor as' out at).answer ≡ a)
    → Refusals write → ⊥
unfolding Refusals
one_number write a alike r =
    let x = (r 4 4 [] [] 1 (says 6 []) (λ z. omega arith)).1 (beyond (omega arith)) in
    let y = (r 4 4 [] [] 0 (says 11 []) (λ z. omega arith)).1 (unspelled (omega arith) empty) in
    let p = alike 4 4 [] [] 1 (λ z. let n = ap number_of x in omega arith) in
    let q = alike 4 4 [] [] 0 (λ z. let n = ap number_of y in omega arith) in
    let z : ◌≡◌ {A = ℕ} 6 11 = ap number_of (sym x ∙ p ∙ sym q ∙ y) in
    omega arith

-- ---- writing nothing

-- the spelling changes the output
changes : (t : List ℕ) → t ≡ 48 ∷ [] → over_at 0 t blank ≡ blank → ⊥
unfolding blank
changes t f e =
    let l : take 1 blank ≡ t = rw e at (take_over_at 0 t blank 1 (omega arith) (ap length (sym f))) in
    let b : ◌≡◌ {A = ℕ} 0 48 = cc in
    omega arith

-- a writer that leaves every output as it was is not exact, or doesn't write the spelling
pub touches_nothing : (write : Writer) → ((major minor : ℕ) (as' : List Allele) (out : List ℕ) (at : ℕ) → (write major minor as' out at).output ≡ out)
    → WritesShortest write → Exact write → ⊥
unfolding WritesShortest
touches_nothing write same claim e = must_write write e by
  where
    by : number_of (write 4 4 phased_zero blank 0).answer ≡ 0 → ⊥
    by z =
        let w = claim 4 4 phased_zero blank 0 z in
        changes w.text (one_text_lem w.shortest (zero_shortest _)) (sym w.bytes ∙ same 4 4 phased_zero blank 0)

-- ---- a count that is not the text's

-- the same answer, with one byte more
pub one_more : Answer → Answer
one_more (says n []) = says n []
one_more (says n (k ∷ vs)) = says n ((k + 1) ∷ vs)

same_number : (a : Answer) → number_of (one_more a) ≡ number_of a
unfolding one_more
same_number (says n []) = refl
same_number (says n (k ∷ vs)) = refl

abbrev pub overcounting : Writer → Writer
overcounting write major minor as' out at = record { answer = one_more (write major minor as' out at).answer; output = (write major minor as' out at).output }

-- a writer that counts a byte more than one that writes the spelling doesn't write it
pub invented_count : (write : Writer) → Exact write → WritesShortest write → WritesShortest (overcounting write) → ⊥
unfolding WritesShortest one_more
invented_count write e writes claim = must_write write e by
  where
    by : number_of (write 4 4 phased_zero blank 0).answer ≡ 0 → ⊥
    by z =
        let w = writes 4 4 phased_zero blank 0 z in
        let v = claim 4 4 phased_zero blank 0 (same_number (write 4 4 phased_zero blank 0).answer ∙ z) in
        let m : one_more (write 4 4 phased_zero blank 0).answer ≡ says 0 ((length w.text + 1) ∷ []) = ap one_more w.count in
        let k : length w.text + 1 ≡ length v.text = cc (m, v.count) in
        let l = ap length (one_text_lem v.shortest w.shortest) in
        omega arith

-- ---- dropping the first phasing

-- with the implied phasing for the first, whatever it was
pub implied_first : List Allele → List Allele
implied_first [] = []
implied_first (a ∷ as') = record { number = a.number; missing = a.missing; phased = all_phased as' } ∷ as'

abbrev pub dropping : Writer → Writer
dropping write major minor as' out at = write major minor (implied_first as') out at

abbrev unphased_zero : List Allele
unphased_zero = record { number = 0; missing = false; phased = false } ∷ []

differ : phased_zero ≡ unphased_zero → ⊥
differ e = false≢true (ap (λ (l : List Allele). (get_or l 0 lone).phased) (sym e))

zero_means : Means (48 ∷ []) phased_zero
zero_means = M.bare (sym phased_none) (digit_body 0 true (omega arith)) M.none

slash_means : Means (47 ∷ 48 ∷ []) unphased_zero
slash_means = M.marked refl (digit_body 0 false (omega arith)) M.none

-- one allele laid over a row of one
first_over : (as' : List Allele) → length as' ≡ 1 → take 1 (over as' phased_zero) ≡ as'
first_over as' h = rw (over_is as' phased_zero) (take_at as' _ 1 h)

module _ (write : Writer) (m : Meets write) where
  -- of both it writes `0`
  drops : (as' : List Allele) → implied_first as' ≡ phased_zero → HasWritten (dropping write 4 4 as' blank 0) 0 (48 ∷ [])
  unfolding blank
  drops as' e =
      let w = written_again write m 4 4 phased_zero (zero_shortest _) blank 0 (omega arith) in
      rw e (laid_written (48 ∷ []) blank 0 w (omega arith))

  phased_drops : HasWritten (dropping write 4 4 phased_zero blank 0) 0 (48 ∷ [])
  unfolding implied_first
  phased_drops = drops phased_zero (rw phased_none)

  unphased_drops : HasWritten (dropping write 4 4 unphased_zero blank 0) 0 (48 ∷ [])
  unfolding implied_first
  unphased_drops = drops unphased_zero (rw phased_none)

  -- so two lists have one text
  pub drops_first : OneSpelling (dropping write) → ⊥
  unfolding OneSpelling
  drops_first one = differ ((one 4 4 phased_zero blank 0 (48 ∷ []) 4 4 unphased_zero blank 0 (48 ∷ []) phased_drops unphased_drops).0 refl)

  -- and what was read of `/0` is read as another list the second time
  pub drops_settle : (read : Reader) → Genotype.Meets read → Settles read (dropping write) → ⊥
  unfolding Settles
  drops_settle read g settles =
      let a = read_again read g slash_means phased_zero (omega arith) in
      let l : take 1 (read (47 ∷ 48 ∷ []) phased_zero).row ≡ unphased_zero = ap (λ (o : Genotype.Outcome). take 1 o.row) a ∙ first_over unphased_zero refl in
      let s = settles (47 ∷ 48 ∷ []) phased_zero 1 (ap (λ (o : Genotype.Outcome). o.answer) a) 4 4 blank 0 (48 ∷ []) (rw l unphased_drops) in
      let b = rw l at (s.read_again phased_zero (rw l (omega arith))) in
      let c = read_again read g zero_means phased_zero (omega arith) in
      let d = ap (λ (o : Genotype.Outcome). take 1 o.row) (sym c ∙ b) in
      differ (sym (first_over phased_zero refl) ∙ d ∙ first_over unphased_zero refl)

-- ---- marking the first always

-- a writer that marks the first allele where it need not be does not write the shortest text
pub marks_always : (read : Reader) → Genotype.Meets read → (write : Writer) (out : List ℕ) (at : ℕ) → HasWritten (write 4 4 phased_zero out at) at (124 ∷ 48 ∷ [])
    → Settles read write → ⊥
unfolding Settles
marks_always read g write out at h settles =
    let a = read_again read g zero_means phased_zero (omega arith) in
    let l : take 1 (read (48 ∷ []) phased_zero).row ≡ phased_zero = ap (λ (o : Genotype.Outcome). take 1 o.row) a ∙ first_over phased_zero refl in
    let s = settles (48 ∷ []) phased_zero 1 (ap (λ (o : Genotype.Outcome). o.answer) a) 4 4 out at (124 ∷ 48 ∷ []) (rw l h) in
    let n = s.least (48 ∷ []) (rw l (zero_shortest _).has) in
    omega arith
