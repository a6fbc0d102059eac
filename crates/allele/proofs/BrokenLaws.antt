-- A text reads as bad at k, with its fault at o, exactly when the piece with index k is the first that is no allele and has its fault
-- there: both say that part k is the first that is none, and a decimal has one first fault. Assumes nothing.
use Prim.Native.Nat.{ℕ, ◌+◌, ◌<◌}
use mathlib.Core.Path.{◌≡◌, refl, sym, ap, ◌∙◌}
use mathlib.Core.Bool.{Bool, true, false, false≢true}
use mathlib.Core.Logic.{◌↔◌}
use mathlib.Core.List.{List, [], ◌∷◌, ◌++◌, map}
use mathlib.Core.Option.{Option, some, none}
use native.Mathlib.Omega.{arith}
use lib.ListN.{length, drop, take-append-drop}
use Rattle.text.specs.Pick.{pick}
use Rattle.pieces.specs.Demands.{Free}
use Rattle.pieces.proofs.PieceLaws.{free_nil, free_cons, free_head, free_tail}
use Rattle.decimal.specs.Decimal.{fault_of}
use Rattle.decimal.proofs.Blame.{fault_one}
use Rattle.decimal.proofs.FirstFault.{decimal_fault}
use Rattle.allele.specs.Reading.{is_mark, head_of, marked_pieces, pieces_of, bodied, allele_in, implied_by, implied_of, parts_of, Reading, list, bad, empty, with, gathered, reading_of, piece_fault, fault_in, fault_at}
use Rattle.allele.specs.Means.{Ends, at_end, at_mark, Bad, BrokenLater, bad_here, bad_later, Broken, bad_marked, bad_bare, bad_after}
use Rattle.allele.specs.Demands.{ReadsBroken}
use Rattle.allele.specs.declared.allele.Allele.{Allele}
use Rattle.allele.proofs.PieceLaws.{mark_none, head_none, head_mark, head_more, head_take, pieces_marked, parts_none, parts_first, parts_marked}
use Rattle.allele.proofs.FaultLaws.{piece_marked, piece_plain, fault_first, fault_later}
use Rattle.allele.proofs.ReadingLaws.{reading_some, reading_none}
use Rattle.allele.proofs.BodyLaws.{body_quiet, body_some, phased_body, none_body, body_none, mark_is, mark_of, marked_in, marked_allele, quiet_allele, Piece, with_mark, plain, allele_piece}
use Rattle.allele.proofs.CutLaws as C
use Rattle.allele.proofs.CutLaws.{Quiet, no_bar, no_slash, head_quiet, pieces_quiet, quiet_head}

-- ---- the first part that is none

pub data NoneAt : List (Option Allele) → ℕ → Type 0 where
  here : {ps : List (Option Allele)} → NoneAt (none ∷ ps) 0
  later : {a : Allele} {ps : List (Option Allele)} {k : ℕ} → NoneAt ps k → NoneAt (some a ∷ ps) (k + 1)

none_gathered : (j : ℕ) {ps : List (Option Allele)} {k : ℕ} → NoneAt ps k → gathered j ps ≡ bad (j + k)
unfolding gathered with
none_gathered j here = let z : j + 0 ≡ j = omega arith in rw z
none_gathered j (later {k = k} n) = let z : j + (k + 1) ≡ j + 1 + k = omega arith in rw (z, none_gathered (j + 1) n)

with_bad : (a : Allele) (r : Reading) {k : ℕ} → with a r ≡ bad k → r ≡ bad k
unfolding with
with_bad a (list as') e = cc
with_bad a (bad j) e = e
with_bad a empty e = cc

-- it has this index, the first part having index j
record Counted (j : ℕ) (ps : List (Option Allele)) (m : ℕ) : Type 0 where
  index : ℕ
  is : m ≡ j + index
  first : NoneAt ps index

gathered_none : (j : ℕ) (ps : List (Option Allele)) (m : ℕ) → gathered j ps ≡ bad m → Counted j ps m
unfolding gathered
gathered_none j [] m e = let z : ◌≡◌ {A = ℕ} 0 1 = cc in absurd (omega arith)
gathered_none j (none ∷ ps) m e = let q : j ≡ m = cc in record { index = 0; is = omega arith; first = here }
gathered_none j (some a ∷ ps) m e =
    let g = gathered_none (j + 1) ps m (with_bad a (gathered (j + 1) ps) e) in
    record { index = g.index + 1; is = omega arith; first = later g.first }

none_some : {ps : List (Option Allele)} {k : ℕ} → NoneAt ps k → 0 < length ps
none_some here = omega arith
none_some (later n) = omega arith

read_none : (t : List ℕ) (k : ℕ) → reading_of t ≡ bad k → NoneAt (parts_of t) k
read_none [] k e = let n = reading_none [] refl in let z : ◌≡◌ {A = ℕ} 0 1 = cc in absurd (omega arith)
read_none (b ∷ s) k e =
    let g = gathered_none 0 (parts_of (b ∷ s)) k (sym (reading_some (b ∷ s) (λ z. omega arith)) ∙ e) in
    let z : g.index ≡ k = omega arith in
    rw z at g.first

none_read : (t : List ℕ) (k : ℕ) → NoneAt (parts_of t) k → reading_of t ≡ bad k
none_read [] k n = absurd (omega (arith, rw parts_none at (none_some n)))
none_read (b ∷ s) k n = let z : 0 + k ≡ k = omega arith in reading_some (b ∷ s) (λ z. omega arith) ∙ none_gathered 0 n ∙ rw z

-- ---- where a piece ends

pub ends_head : {s : List ℕ} → Ends s → head_of s ≡ []
ends_head at_end = head_none
ends_head (at_mark {b} {rest} p m) = head_mark b rest (mark_is p m)

broken_head : {t : List ℕ} {k o : ℕ} → BrokenLater t k o → head_of t ≡ []
broken_head (bad_here {b} {t} {rest} p m g) = head_mark b (t ++ rest) (mark_is p m)
broken_head (bad_later {b} {t} {rest} {a} m c l) = head_mark b (t ++ rest) (mark_is a.phased m)

-- behind the bytes before the first mark
abbrev pub behind : List ℕ → List ℕ
behind s = drop (length (head_of s)) s

pub head_ends : (s : List ℕ) → Ends (behind s)
head_ends [] = rw head_none at_end
head_ends (b ∷ s) = by (is_mark b) refl (head_ends s)
  where
    by : (x : Bool) → is_mark b ≡ x → Ends (behind s) → Ends (behind (b ∷ s))
    by true m h = let k = mark_of b m in rw (head_mark b s m) (at_mark k.phasing k.is)
    by false m h = rw (head_more b s m) h

pub head_whole : (s : List ℕ) → head_of s ++ behind s ≡ s
head_whole s = rw (head_take s) at (take-append-drop (length (head_of s)) s)

free_quiet : (t : List ℕ) → Free 124 t → Free 47 t → Quiet t
free_quiet [] f g = C.none
free_quiet (b ∷ t) f g = C.more (mark_none b (free_head f) (free_head g)) (free_quiet t (free_tail f) (free_tail g))

quiet_bar : {t : List ℕ} → Quiet t → Free 124 t
quiet_bar C.none = free_nil
quiet_bar (C.more {b} m q) = free_cons (no_bar b m) (quiet_bar q)

quiet_slash : {t : List ℕ} → Quiet t → Free 47 t
quiet_slash C.none = free_nil
quiet_slash (C.more {b} m q) = free_cons (no_slash b m) (quiet_slash q)

pub bad_quiet : {t rest : List ℕ} {o : ℕ} → Bad t rest o → Quiet t
bad_quiet {t} g = free_quiet t g.no_bar g.no_slash

-- bytes before a mark or the end that do not read as an allele
pub quiet_bad : (p : Bool) (t : List ℕ) {rest : List ℕ} → Quiet t → Ends rest → bodied p t ≡ none → Bad t rest (fault_of t)
quiet_bad p t q h e = record { no_bar = quiet_bar q; no_slash = quiet_slash q; ends = h; no_body = none_body p t e; fault = decimal_fault t }

-- and the place of their fault
bad_fault : {t rest : List ℕ} {o : ℕ} → Bad t rest o → fault_of t ≡ o
bad_fault {t} g = fault_one (decimal_fault t) g.fault

quiet_fault : {t : List ℕ} → Quiet t → 0 < length t → piece_fault t ≡ fault_of t
quiet_fault C.none h = absurd (omega arith)
quiet_fault (C.more {b} {s} m q) h = piece_plain b s m

-- ---- a text that is broken

later_none : (i : Bool) {t : List ℕ} {k o : ℕ} → BrokenLater t k o → NoneAt (map (allele_in i) (marked_pieces t)) k
unfolding marked_pieces
later_none i (bad_here {b} {t} {rest} p m g) =
    rw (mark_is p m, head_quiet rest (bad_quiet g) (ends_head g.ends), marked_in i p t m, body_none p t g.no_body) here
later_none i (bad_later {b} {t} {rest} {a} m c l) =
    rw (mark_is a.phased m, head_quiet rest (body_quiet c) (broken_head l), pieces_quiet rest (body_quiet c), marked_allele i m c) (later (later_none i l))

later_fault : {t : List ℕ} {k o : ℕ} → BrokenLater t k o → fault_in k (marked_pieces t) ≡ o
unfolding marked_pieces
later_fault (bad_here {b} {t} {rest} p m g) =
    rw (mark_is p m, head_quiet rest (bad_quiet g) (ends_head g.ends)) (fault_first _ _ ∙ piece_marked b t (mark_is p m) ∙ rw (bad_fault g))
later_fault (bad_later {b} {t} {rest} {a} {k} m c l) =
    rw (mark_is a.phased m, head_quiet rest (body_quiet c) (broken_head l), pieces_quiet rest (body_quiet c)) (fault_later _ _ k ∙ rw (later_fault l))

-- a first piece without its mark, and what is behind it
bare_pieces : (t rest : List ℕ) → Quiet t → 0 < length t → head_of rest ≡ [] → pieces_of (t ++ rest) ≡ t ∷ marked_pieces rest
unfolding pieces_of
bare_pieces [] rest q h e = absurd (omega arith)
bare_pieces (b ∷ s) rest (C.more m q) h e = rw (head_quiet rest q e, pieces_quiet rest q)

pub bare_parts : (t rest : List ℕ) → Quiet t → 0 < length t → head_of rest ≡ []
    → parts_of (t ++ rest) ≡ bodied (implied_of (t ++ rest)) t ∷ map (allele_in (implied_of (t ++ rest))) (marked_pieces rest)
unfolding implied_of
bare_parts [] rest q h e = absurd (omega arith)
bare_parts (b ∷ s) rest (C.more m q) h e =
    rw (parts_first b (s ++ rest), head_quiet rest q e, pieces_quiet rest q, quiet_allele (implied_by (s ++ rest)) (C.more m q) h)

broken_none : {t : List ℕ} {k o : ℕ} → Broken t k o → NoneAt (parts_of t) k
broken_none (bad_marked {t} l) = rw (parts_marked t (broken_head l)) (later_none (implied_of t) l)
broken_none (bad_bare {t} {rest} h g) = rw (bare_parts t rest (bad_quiet g) h (ends_head g.ends), body_none _ t g.no_body) here
broken_none (bad_after {t} {rest} c l) =
    let i : Bool = implied_of (t ++ rest) in
    rw (bare_parts t rest (body_quiet c) (body_some c) (broken_head l), (phased_body i c).reads) (later (later_none i l))

broken_fault : {t : List ℕ} {k o : ℕ} → Broken t k o → fault_at t k ≡ o
unfolding fault_at
broken_fault (bad_marked {t} l) = rw (pieces_marked t (broken_head l)) (later_fault l)
broken_fault (bad_bare {t} {rest} h g) =
    rw (bare_pieces t rest (bad_quiet g) h (ends_head g.ends)) (fault_first t _ ∙ quiet_fault (bad_quiet g) h ∙ bad_fault g)
broken_fault (bad_after {t} {rest} {k = k} c l) =
    rw (bare_pieces t rest (body_quiet c) (body_some c) (broken_head l)) (fault_later t _ k ∙ rw (later_fault l))

-- ---- and back

-- what is before the first mark, and pieces of which one is broken
record Parted (s : List ℕ) (k o : ℕ) : Type 0 where
  rest : List ℕ
  whole : head_of s ++ rest ≡ s
  broken : BrokenLater rest k o

parted : (i : Bool) (s : List ℕ) (k : ℕ) → NoneAt (map (allele_in i) (marked_pieces s)) k → Parted s k (fault_in k (marked_pieces s))
unfolding marked_pieces
parted i [] k n = absurd (omega (arith, none_some n))
parted i (b ∷ s) k n = by (is_mark b) refl k n (parted i s)
  where
    -- a piece that is an allele, and pieces behind it
    past : {a : Allele} {k o : ℕ} → is_mark b ≡ true → Piece i b (head_of s) a → Parted s k o → Parted (b ∷ s) (k + 1) (length (b ∷ head_of s) + o)
    past x (with_mark m c) g = record { rest = b ∷ head_of s ++ g.rest; whole = rw (head_mark b s x, g.whole); broken = bad_later m c g.broken }
    past x (plain m p c) g = absurd (false≢true (sym m ∙ x))

    first : is_mark b ≡ true → (o : Option Allele) → allele_in i (b ∷ head_of s) ≡ o → (k : ℕ) → NoneAt (o ∷ map (allele_in i) (marked_pieces s)) k
        → ((j : ℕ) → NoneAt (map (allele_in i) (marked_pieces s)) j → Parted s j (fault_in j (marked_pieces s)))
        → Parted (b ∷ s) k (fault_in k ((b ∷ head_of s) ∷ marked_pieces s))
    first x none e k here ih =
        let m = mark_of b x in
        rw (fault_first (b ∷ head_of s) (marked_pieces s), piece_marked b (head_of s) x)
        (record {
          rest = b ∷ head_of s ++ behind s;
          whole = rw (head_mark b s x, head_whole s);
          broken = bad_here m.phasing m.is (quiet_bad m.phasing (head_of s) (quiet_head s) (head_ends s) (sym (marked_in i m.phasing (head_of s) m.is) ∙ e));
        })
    first x (some a) e k (later {k = j} n) ih =
        rw (fault_later (b ∷ head_of s) (marked_pieces s) j) (past x (allele_piece i b (head_of s) a e) (ih j n))

    by : (x : Bool) → is_mark b ≡ x → (k : ℕ) → NoneAt (map (allele_in i) (pick x ((b ∷ head_of s) ∷ marked_pieces s) (marked_pieces s))) k
        → ((j : ℕ) → NoneAt (map (allele_in i) (marked_pieces s)) j → Parted s j (fault_in j (marked_pieces s)))
        → Parted (b ∷ s) k (fault_in k (pick x ((b ∷ head_of s) ∷ marked_pieces s) (marked_pieces s)))
    by true x k n ih = first x (allele_in i (b ∷ head_of s)) refl k n ih
    by false x k n ih =
        let g = ih k n in
        record { rest = g.rest; whole = rw (head_more b s x) (ap (λ (l : List ℕ). b ∷ l) g.whole); broken = g.broken }

none_broken : (t : List ℕ) (k : ℕ) → NoneAt (parts_of t) k → Broken t k (fault_at t k)
unfolding fault_at pieces_of
none_broken [] k n = absurd (omega (arith, rw parts_none at (none_some n)))
none_broken (b ∷ s) k n = by (is_mark b) refl
  where
    i : Bool
    i = implied_by s

    first : is_mark b ≡ false → (o : Option Allele) → allele_in i (b ∷ head_of s) ≡ o → (k : ℕ) → NoneAt (o ∷ map (allele_in i) (marked_pieces s)) k
        → Broken (b ∷ s) k (fault_in k ((b ∷ head_of s) ∷ marked_pieces s))
    first x none e k here =
        let q = C.more x (quiet_head s) in
        let g = quiet_bad i (b ∷ head_of s) q (head_ends s) (sym (quiet_allele i q (omega arith)) ∙ e) in
        rw (fault_first (b ∷ head_of s) (marked_pieces s), piece_plain b (head_of s) x) (rw (head_whole s) at (bad_bare {t = b ∷ head_of s} (omega arith) g))
    first x (some a) e k (later {k = j} n) =
        rw (fault_later (b ∷ head_of s) (marked_pieces s) j) (past (allele_piece i b (head_of s) a e) (parted i s j n))
      where
        past : {o : ℕ} → Piece i b (head_of s) a → Parted s j o → Broken (b ∷ s) (j + 1) (length (b ∷ head_of s) + o)
        past (with_mark m c) g = absurd (false≢true (sym x ∙ mark_is a.phased m))
        past (plain m p c) g = rw g.whole at (bad_after c g.broken)

    by : (x : Bool) → is_mark b ≡ x → Broken (b ∷ s) k (fault_at (b ∷ s) k)
    by true x =
        let g = parted (implied_of (b ∷ s)) (b ∷ s) k (rw (parts_marked (b ∷ s) (head_mark b s x)) at n) in
        let w : g.rest ≡ b ∷ s = rw (head_mark b s x) at g.whole in
        rw (pieces_marked (b ∷ s) (head_mark b s x)) (bad_marked (rw w at g.broken))
    by false x = first x (allele_in i (b ∷ head_of s)) refl k (rw (parts_first b s) at n)

pub parts_broken : (t : List ℕ) (k o : ℕ) → (NoneAt (parts_of t) k × (fault_at t k ≡ o)) ↔ Broken t k o
parts_broken t k o = (λ g. rw g.1 at (none_broken t k g.0), λ g. (broken_none g, broken_fault g))

-- a text reads as bad at k, with that fault, exactly when it is broken there
pub reads_broken : ReadsBroken reading_of fault_at
reads_broken t k o = (λ g. (parts_broken t k o).0 (read_none t k g.0, g.1), λ g. (none_read t k (broken_none g), broken_fault g))
