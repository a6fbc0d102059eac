-- A line put into the output piece by piece, where there is room for all of it. Assumes nothing.
use Prim.Native.Nat.{ℕ, zero, suc, ◌+◌, ◌-◌, ◌^◌, ◌<◌, ◌≤◌, min}
use mathlib.Core.Path.{◌≡◌, refl, sym, ap, ◌∙◌}
use mathlib.Core.List.{List, [], ◌∷◌, ◌++◌, append_assoc, append-nil}
use native.Mathlib.Omega.{arith}
use native.Mathlib.Decide.{ℕ_discrete}
use lib.ListN.{length, take, drop, set, length-append}
use lib.Seq.{take_at, length-take-le, drop-drop}
use mir.Syntax.{w64}
use mir.Val.{Fits}
use borrow.Author.Tests.{le-leb, lt-leb}
use borrow.Rule.Slice.PartMut.{put_mid}
use Rattle.text.specs.Answer.{says}
use Rattle.text.specs.Over.{over, over_at, Writes}
use Rattle.std.specs.Prelude.{Result, Ok, Err, IsOk}
use Rattle.std.proofs.lemmas.Slice.{put_mid-paste}
use Rattle.std.proofs.lemmas.List.Edits.{paste_all}
use Rattle.text.specs.declared.copy.NoRoom.{NoRoom}
use Rattle.text.proofs.Lists.{length_over_at, over_at_append}
use Rattle.text.proofs.WrittenLaws.{follows_short, follows_done}
use Rattle.decimal.specs.Shortest.{shortest}
use Rattle.decimal.proofs.Shortest.{length_20}
use Rattle.listing.specs.Inner.{spaced, Sizes, Put, Lays, has_room, no_room, Counts}
use Rattle.listing.specs.Output.{numbers, row_bytes, total_bytes, one_more, read_after, refused_after}
use Rattle.listing.specs.Paper.{refusal_number, row_paper}
use Rattle.listing.specs.declared.turn.Refusal.{Refusal}
use Rattle.listing.specs.declared.turn.Refusal.TheVariants as F
use Rattle.listing.specs.declared.turn.ReadRow.{ReadRow}
use Rattle.listing.specs.declared.print.Totals.{Totals}

-- ---- bytes laid behind the first ones

pub take_laid : (at : ℕ) (vs l : List ℕ) (n : ℕ) → at ≤ length l → n ≡ at + length vs → take n (over_at at vs l) ≡ take at l ++ vs
unfolding over_at over
take_laid at vs l n h e =
    ap (take n) (sym (append_assoc (take at l) vs _))
    ∙ take_at (take at l ++ vs) _ n (simp (length-append, length-take-le at l h) (omega arith))

-- ---- bytes put from a place on

pub put_all : (at : ℕ) {s ys : List ℕ} (l : List ℕ) → ys ≡ s → at + length s ≤ length l → Put at s l (at + length s) (put_mid at (at + length s - at) l ys)
unfolding over_at over
put_all at {s} {ys} l e h =
    record {
      count = refl;
      within = h;
      bytes =
          put_mid-paste at (at + length s - at) l ys s (length s) e (omega arith) refl
          ∙ paste_all l at s (length s) refl
          ∙ rw (drop-drop (length s) at l);
    }

-- the digits, and then the space before them
module _ (n at : ℕ) (l : List ℕ) {ys : List ℕ} {r : Result ℕ NoRoom} (w : Writes (shortest n) (take (length l - (at + 1)) (drop (at + 1) l)) r ys) (h : at + length (spaced n) ≤ length l) where
  number_none : {no : NoRoom} → r ≡ Err no → ⊥
  number_none = follows_short 32 at (shortest n) l w h

  pub number_there : IsOk r
  number_there = by r refl
    where
      by : (x : Result ℕ NoRoom) → r ≡ x → IsOk x
      by (Ok k) e = refl
      by (Err x) e = absurd (number_none e)

  module _ {len : ℕ} (e : r ≡ Ok len) where
    pub number_fits : length l < 2 ^ 64 → Fits w64 (at + 1 + len)
    number_fits f = let d = (follows_done 32 at (shortest n) l w h e).within in record { fits = omega arith }

    pub number_put : Put at (spaced n) l (at + 1 + len) (set (put_mid (at + 1) (length l - (at + 1)) l ys) at 32)
    number_put = let d = follows_done 32 at (shortest n) l w h e in record { count = d.count; within = d.within; bytes = d.bytes }

module _ (n : ℕ) {k : ℕ} (h : n < 2 ^ 64) (e : k ≡ length (shortest n)) where
  pub number_sized : Sizes n (1 + k)
  number_sized = let f = length_20 n h in record { size = omega arith; few = omega arith }

  pub sized_fits : Fits w64 (1 + k)
  sized_fits = let f = length_20 n h in record { fits = omega arith }

-- one piece and then another
put_append : {at m n : ℕ} {s u l l₁ l₂ : List ℕ} → Put at s l m l₁ → Put m u l₁ n l₂ → Put at (s ++ u) l n l₂
put_append {at} {m} {n} {s} {u} {l} {l₁} p q =
    let b : at + length s ≤ length l = omega (arith, p.count, p.within) in
    let k : length l₁ ≡ length l = ap length p.bytes ∙ length_over_at at s l b in
    record {
      count = rw length-append (omega (arith, p.count, q.count));
      within = omega (arith, q.within);
      bytes = q.bytes ∙ rw (p.bytes, p.count) (sym (over_at_append at s u l b));
    }

-- ---- a line

numbers_one : (n : ℕ) → numbers (n ∷ []) ≡ spaced n
unfolding numbers
numbers_one n = ap (λ (s : List ℕ). 32 ∷ s) (append-nil (shortest n))

numbers_more : (n : ℕ) (ns : List ℕ) → numbers (n ∷ ns) ≡ spaced n ++ numbers ns
unfolding numbers
numbers_more n ns = refl

-- all its pieces are put
line_put : {at n : ℕ} {vs l l' : List ℕ} → Put at vs l n l' → Lays at vs l (Ok n) l'
line_put p = has_room p.count p.within p.bytes

pub read_line : (row : ReadRow) {a b c d n at : ℕ} {l l₁ l₂ l₃ l₄ l₅ : List ℕ} → Put at (111 ∷ 107 ∷ []) l a l₁ → Put a (spaced row.columns) l₁ b l₂
    → Put b (spaced row.infos) l₂ c l₃ → Put c (spaced row.samples) l₃ d l₄ → Put d (10 ∷ []) l₄ n l₅ → Lays at (row_bytes (row_paper (Ok row))) l (Ok n) l₅
unfolding row_bytes row_paper
read_line row p q s t u =
    rw (numbers_more row.columns, numbers_more row.infos, numbers_one row.samples) (line_put (put_append (put_append p (put_append q (put_append s t))) u))

put_refused : (number : ℕ) {a b n at : ℕ} {l l₁ l₂ l₃ : List ℕ} → 1 ≤ number → Put at (114 ∷ 101 ∷ 102 ∷ 117 ∷ 115 ∷ 101 ∷ 100 ∷ []) l a l₁
    → Put a (spaced number) l₁ b l₂ → Put b (10 ∷ []) l₂ n l₃ → Lays at (row_bytes (says number [])) l (Ok n) l₃
unfolding row_bytes
put_refused zero h p q s = absurd (omega arith)
put_refused (suc number) h p q s = rw (numbers_one (suc number)) (line_put (put_append (put_append p q) s))

pub total_line : (read refused : ℕ) {a b c d n at : ℕ} {l l₁ l₂ l₃ l₄ l₅ : List ℕ} → Put at (114 ∷ 101 ∷ 97 ∷ 100 ∷ []) l a l₁ → Put a (spaced read) l₁ b l₂
    → Put b (32 ∷ 114 ∷ 101 ∷ 102 ∷ 117 ∷ 115 ∷ 101 ∷ 100 ∷ []) l₂ c l₃ → Put c (spaced refused) l₃ d l₄ → Put d (10 ∷ []) l₄ n l₅
    → Lays at (total_bytes read refused) l (Ok n) l₅
unfolding total_bytes
total_line read refused p q s t u =
    rw (numbers_one read, numbers_one refused) (line_put (put_append (put_append (put_append p q) (put_append s t)) u))

-- ---- how many bytes it has

pub read_size : (columns infos samples : ℕ)
    → length (row_bytes (says 0 (columns ∷ infos ∷ samples ∷ []))) ≡ 3 + length (spaced columns) + length (spaced infos) + length (spaced samples)
unfolding row_bytes
read_size columns infos samples =
    let a = length-append (numbers (columns ∷ infos ∷ samples ∷ [])) (10 ∷ []) in
    let b = ap length (numbers_more columns (infos ∷ samples ∷ [])) ∙ length-append (spaced columns) _ in
    let c = ap length (numbers_more infos (samples ∷ [])) ∙ length-append (spaced infos) _ in
    let d = ap length (numbers_one samples) in
    omega arith

pub refused_size : (n : ℕ) (vs : List ℕ) → length (row_bytes (says (suc n) vs)) ≡ 8 + length (spaced (suc n))
unfolding row_bytes
refused_size n vs =
    let a = length-append (numbers (suc n ∷ [])) (10 ∷ []) in
    let b = ap length (numbers_one (suc n)) in
    omega arith

pub total_size : (read refused : ℕ) → length (total_bytes read refused) ≡ 13 + length (spaced read) + length (spaced refused)
unfolding total_bytes numbers
total_size read refused = simp length-append (omega arith)

-- no room for it
pub read_lacks : (row : ReadRow) {no : NoRoom} {at i j k room : ℕ} {l : List ℕ} → Sizes row.columns i → Sizes row.infos j → Sizes row.samples k → room ≡ length l - at
    → room < 3 + i + j + k → Lays at (row_bytes (row_paper (Ok row))) l (Err no) l
unfolding row_paper
read_lacks row x y z e h = no_room (omega (arith, read_size row.columns row.infos row.samples)) refl

lacks_refused : (number : ℕ) {no : NoRoom} {at k room : ℕ} {l : List ℕ} → 1 ≤ number → Sizes number k → room ≡ length l - at → room < 8 + k
    → Lays at (row_bytes (says number [])) l (Err no) l
lacks_refused zero h x e g = absurd (omega arith)
lacks_refused (suc number) h x e g = no_room (omega (arith, refused_size number [])) refl

pub total_lacks : (read refused : ℕ) {no : NoRoom} {at i j room : ℕ} {l : List ℕ} → Sizes read i → Sizes refused j → room ≡ length l - at → room < 13 + i + j
    → Lays at (total_bytes read refused) l (Err no) l
total_lacks read refused x y e h = no_room (omega (arith, total_size read refused)) refl

-- ---- a refusal's number

-- it is not 0
number_some : (w : Refusal) → 1 ≤ refusal_number w
unfolding refusal_number
number_some F.Empty = omega arith
number_some F.Fed = omega arith
number_some F.Cut = omega arith
number_some F.NotUtf8 = omega arith
number_some F.Long = omega arith

module _ (why : Refusal) {number : ℕ} (e : number ≡ refusal_number why) where
  pub refused_line : {a b n at : ℕ} {l l₁ l₂ l₃ : List ℕ} → Put at (114 ∷ 101 ∷ 102 ∷ 117 ∷ 115 ∷ 101 ∷ 100 ∷ []) l a l₁
      → Put a (spaced number) l₁ b l₂ → Put b (10 ∷ []) l₂ n l₃ → Lays at (row_bytes (row_paper (Err why))) l (Ok n) l₃
  unfolding row_paper
  refused_line p q s = put_refused (refusal_number why) (number_some why) p (rw e at q) s

  pub refused_lacks : {no : NoRoom} {at k room : ℕ} {l : List ℕ} → Sizes number k → room ≡ length l - at → room < 8 + k
      → Lays at (row_bytes (row_paper (Err why))) l (Err no) l
  unfolding row_paper
  refused_lacks x h g = lacks_refused (refusal_number why) (number_some why) (rw e at x) h g

-- ---- a row

pub row_laid : {row other : Result ReadRow Refusal} {at : ℕ} {out out' : List ℕ} {r : Result ℕ NoRoom} → row ≡ other
    → Lays at (row_bytes (row_paper other)) out r out' → Lays at (row_bytes (row_paper row)) out r out'
row_laid e w = rw e w

-- ---- the totals

pub more_counted : {n x : ℕ} → x ≡ min (n + 1) (2 ^ 64 - 1) → n < 2 ^ 64 → x ≡ one_more n
unfolding one_more
more_counted {n} e h =
    elim (ℕ_discrete n 18446744073709551615) [
      | yes z ↦ rw (le-leb 18446744073709551615 n (omega arith)) (omega arith)
      | no z ↦ rw (lt-leb 18446744073709551615 n (omega arith)) (omega arith)
    ]

pub count_read : {t : Totals} {row : Result ReadRow Refusal} {read : ReadRow} {x : ℕ} → row ≡ Ok read → x ≡ one_more t.read
    → Counts t (row_paper row) (record { read = x; refused = t.refused })
unfolding row_paper read_after refused_after
count_read e h = rw e (record { read = h; refused = refl })

after_refused : (t : Totals) (number x : ℕ) → 1 ≤ number → x ≡ one_more t.refused → Counts t (says number []) (record { read = t.read; refused = x })
unfolding read_after refused_after
after_refused t zero x s h = absurd (omega arith)
after_refused t (suc number) x s h = record { read = refl; refused = h }

pub count_refused : {t : Totals} {row : Result ReadRow Refusal} {why : Refusal} {x : ℕ} → row ≡ Err why → x ≡ one_more t.refused
    → Counts t (row_paper row) (record { read = t.read; refused = x })
unfolding row_paper
count_refused {t} {row} {why} {x} e h = rw e (after_refused t (refusal_number why) x (number_some why) h)

pub ruleset laws = (
  row_laid,
  more_counted,
  count_read,
  count_refused,
)
