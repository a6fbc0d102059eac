-- A text reads as a list exactly when it means that list: a body holds no mark, so the cut finds each allele. Assumes nothing.
use Prim.Native.Nat.{ℕ, ◌+◌, ◌<◌}
use mathlib.Core.Path.{◌≡◌, refl, sym, ap, ◌∙◌}
use mathlib.Core.Bool.{Bool, true, false, ◌&&◌, false≢true}
use mathlib.Core.List.{List, [], ◌∷◌, ◌++◌, map}
use mathlib.Core.Option.{Option, some, none}
use native.Mathlib.Omega.{arith}
use lib.ListN.{length}
use Rattle.text.specs.Pick.{pick}
use Rattle.pieces.specs.Pieces.{lacks}
use Rattle.pieces.proofs.CountLaws.{lacks_none, lacks_here, lacks_other}
use Rattle.allele.specs.Reading.{is_mark, head_of, marked_pieces, allele_in, implied_by, parts_of, list, with, gathered, reading_of, list_of}
use Rattle.allele.specs.Means.{mark_byte, Body, Later, all_phased, Means, marked}
use Rattle.allele.specs.Means as M
use Rattle.allele.specs.Demands.{ReadsMeans, MeansOne}
use Rattle.allele.specs.declared.allele.Allele.{Allele}
use Rattle.allele.proofs.PieceLaws.{head_none, head_mark, head_more, parts_first}
use Rattle.allele.proofs.ReadingLaws.{reading_some, reading_none, with_list, with_cons}
use Rattle.allele.proofs.PhasedLaws.{phased_none, phased_more}
use Rattle.allele.proofs.BodyLaws.{body_quiet, body_some, body_bodied, mark_is, marked_allele, quiet_allele, Piece, with_mark, plain, allele_piece}
use Rattle.allele.proofs.CutLaws as C
use Rattle.allele.proofs.CutLaws.{Quiet, head_quiet, pieces_quiet, lacks_quiet, quiet_head}

-- ---- the alleles after the first

later_head : {t : List ℕ} {as' : List Allele} → Later t as' → head_of t ≡ []
later_head M.none = head_none
later_head (M.more {b} {a = a} m c l) = head_mark b _ (mark_is a.phased m)

-- the phasing that their text implies is the one that they imply
later_implied : {t : List ℕ} {as' : List Allele} → Later t as' → implied_by t ≡ all_phased as'
unfolding implied_by
later_implied M.none = rw (lacks_none 47, phased_none)
later_implied (M.more {b} {t} {rest} {a} {as'} m c l) = rw (phased_more a as') (by a.phased m (later_implied l))
  where
    by : (p : Bool) → b ≡ mark_byte p → lacks 47 rest ≡ all_phased as' → lacks 47 (b ∷ t ++ rest) ≡ (p && all_phased as')
    by true m e = rw (lacks_other 47 (t ++ rest) {a = b} (λ z. absurd (omega arith)), lacks_quiet rest (body_quiet c)) e
    by false m e = lacks_here 47 (t ++ rest) {a = b} m

pub quiet_implied : (t : List ℕ) {s : List ℕ} → Quiet s → implied_by (s ++ t) ≡ implied_by t
unfolding implied_by
quiet_implied t q = lacks_quiet t q

later_pieces : (i : Bool) {t : List ℕ} {as' : List Allele} → Later t as' → map (allele_in i) (marked_pieces t) ≡ map some as'
unfolding marked_pieces
later_pieces i M.none = refl
later_pieces i (M.more {b} {t} {rest} {a} m c l) =
    rw (mark_is a.phased m, head_quiet rest (body_quiet c) (later_head l), pieces_quiet rest (body_quiet c), marked_allele i m c)
    (ap (λ (ps : List (Option Allele)). some a ∷ ps) (later_pieces i l))

-- ---- the text

-- pieces that are all alleles read as their list
pub some_gathered : (k : ℕ) (as' : List Allele) → gathered k (map some as') ≡ list as'
unfolding gathered with
some_gathered k [] = refl
some_gathered k (a ∷ as') = rw (some_gathered (k + 1) as')

pub gathered_some : (k : ℕ) (ps : List (Option Allele)) (as' : List Allele) → gathered k ps ≡ list as' → ps ≡ map some as'
unfolding gathered list_of
gathered_some k [] as' e = let q : [] ≡ as' = cc in rw (← q)
gathered_some k (none ∷ ps) as' e = let z : ◌≡◌ {A = ℕ} 0 1 = cc in absurd (omega arith)
gathered_some k (some a ∷ ps) as' e =
    let bs : List Allele = list_of (gathered (k + 1) ps) in
    let q : as' ≡ a ∷ bs = sym (ap list_of e) ∙ with_cons a (gathered (k + 1) ps) e in
    rw q (ap (λ (os : List (Option Allele)). some a ∷ os) (gathered_some (k + 1) ps bs (with_list a (gathered (k + 1) ps) e)))

-- a text whose pieces are these alleles
parts_read : (b : ℕ) (s : List ℕ) (as' : List Allele) → parts_of (b ∷ s) ≡ map some as' → reading_of (b ∷ s) ≡ list as'
parts_read b s as' e = rw (reading_some (b ∷ s) (λ z. omega arith), e) (some_gathered 0 as')

-- a byte, bytes that are no marks, and alleles with marks: one piece, and one for each of these
parts_cut : (b : ℕ) {s t : List ℕ} {as' : List Allele} → Quiet s → Later t as' → (i : Bool) → i ≡ implied_by (s ++ t)
    → parts_of (b ∷ s ++ t) ≡ allele_in i (b ∷ s) ∷ map some as'
parts_cut b {s} {t} q l i e =
    rw (parts_first b (s ++ t), ← e, head_quiet t q (later_head l), pieces_quiet t q)
    (ap (λ (ps : List (Option Allele)). allele_in i (b ∷ s) ∷ ps) (later_pieces i l))

means_read : {t : List ℕ} {as' : List Allele} → Means t as' → reading_of t ≡ list as'
means_read (marked {b} {t} {rest} {a} {as'} m c l) =
    let i : Bool = implied_by (t ++ rest) in
    parts_read b (t ++ rest) (a ∷ as') (parts_cut b (body_quiet c) l i refl ∙ rw (marked_allele i m c))
means_read (M.bare {t} {rest} {a} {as'} p c l) = by t (body_quiet c) (body_some c) c
  where
    by : (t : List ℕ) → Quiet t → 0 < length t → Body t a → reading_of (t ++ rest) ≡ list (a ∷ as')
    by [] q h c = absurd (omega arith)
    by (b ∷ s) (C.more m q) h c =
        parts_read b (s ++ rest) (a ∷ as')
        (parts_cut b q l a.phased (p ∙ sym (quiet_implied rest q ∙ later_implied l)) ∙ rw (quiet_allele a.phased (C.more m q) h, body_bodied c))

-- a text that is cut: what is before the first mark, and alleles with marks
record Parted (s : List ℕ) (as' : List Allele) : Type 0 where
  rest : List ℕ
  whole : head_of s ++ rest ≡ s
  later : Later rest as'

parted : (i : Bool) (s : List ℕ) (as' : List Allele) → map (allele_in i) (marked_pieces s) ≡ map some as' → Parted s as'
unfolding marked_pieces
parted i [] [] e = record { rest = []; whole = rw head_none; later = M.none }
parted i [] (a ∷ as') e = let z : ◌≡◌ {A = ℕ} 0 1 = cc in absurd (omega arith)
parted i (b ∷ s) as' e = by (is_mark b) refl as' e (parted i s)
  where
    first : {a : Allele} {bs : List Allele} → is_mark b ≡ true → Piece i b (head_of s) a → Parted s bs → Parted (b ∷ s) (a ∷ bs)
    first k (with_mark m c) g =
        record { rest = b ∷ head_of s ++ g.rest; whole = rw (head_mark b s k, g.whole); later = M.more m c g.later }
    first k (plain m p c) g = absurd (false≢true (sym m ∙ k))

    by : (x : Bool) → is_mark b ≡ x → (as' : List Allele) → map (allele_in i) (pick x ((b ∷ head_of s) ∷ marked_pieces s) (marked_pieces s)) ≡ map some as'
        → ((bs : List Allele) → map (allele_in i) (marked_pieces s) ≡ map some bs → Parted s bs) → Parted (b ∷ s) as'
    by true m [] e ih = let z : ◌≡◌ {A = ℕ} 0 1 = cc in absurd (omega arith)
    by true m (a ∷ bs) e ih = first m (allele_piece i b (head_of s) a (cc)) (ih bs (cc))
    by false m as' e ih =
        let g = ih as' e in
        record { rest = g.rest; whole = rw (head_more b s m) (ap (λ (l : List ℕ). b ∷ l) g.whole); later = g.later }

read_means : (t : List ℕ) (as' : List Allele) → reading_of t ≡ list as' → Means t as'
read_means [] as' e =
    let n = reading_none [] refl in
    let z : ◌≡◌ {A = ℕ} 0 1 = cc in
    absurd (omega arith)
read_means (b ∷ s) as' e = by as' (sym (parts_first b s) ∙ gathered_some 0 (parts_of (b ∷ s)) as' (sym (reading_some (b ∷ s) (λ z. omega arith)) ∙ e))
  where
    i : Bool
    i = implied_by s

    first : {a : Allele} {bs : List Allele} → Piece i b (head_of s) a → Parted s bs → Means (b ∷ s) (a ∷ bs)
    first (with_mark m c) g = rw g.whole at (marked m c g.later)
    first (plain m p c) g =
        let h : implied_by (head_of s ++ g.rest) ≡ all_phased _ = quiet_implied g.rest (quiet_head s) ∙ later_implied g.later in
        rw g.whole at (M.bare (p ∙ (rw g.whole at h)) c g.later)

    by : (as' : List Allele) → allele_in i (b ∷ head_of s) ∷ map (allele_in i) (marked_pieces s) ≡ map some as' → Means (b ∷ s) as'
    by [] e = let z : ◌≡◌ {A = ℕ} 0 1 = cc in absurd (omega arith)
    by (a ∷ bs) e = first (allele_piece i b (head_of s) a (cc)) (parted i s bs (cc))

-- a text reads as a list exactly when it means that list
pub reads_means : ReadsMeans reading_of
reads_means t as' = (read_means t as', means_read)

-- so it means one list at most
pub means_one : MeansOne
means_one t as' bs m n = let e = means_read m in let f = means_read n in cc
