-- Two alleles of one byte each with a mark between: the text means these two, both with the phasing of the mark. Assumes nothing.
use Prim.Native.Nat.{ℕ, ◌+◌, ◌-◌, ◌≤◌}
use mathlib.Core.Path.{◌≡◌, refl, sym, ◌∙◌}
use mathlib.Core.Bool.{Bool, true, false, ◌&&◌, and-true, false≢true, and-eq-true_iff}
use mathlib.Core.List.{List, [], ◌∷◌}
use native.Mathlib.Omega.{arith}
use lib.ListN.{length, get_or, set}
use lib.Dec.{eqb, leb}
use borrow.Author.Tests.{eqb-true, ne_eqb, leb-true, le-ltb}
use Rattle.text.specs.Pick.{pick, one_if}
use Rattle.text.proofs.Lists.{sets_over}
use Rattle.text.proofs.FirstLaws.{where_none, where_later}
use Rattle.lists.specs.AlternateBases.{alt_count}
use Rattle.allele.specs.Reading.{is_mark, list, reading_of}
use Rattle.allele.specs.Row.{numbers_of, missing_of, phased_of}
use Rattle.allele.specs.Means.{mark_byte, Body, dot, Means, all_phased}
use Rattle.allele.specs.Means as M
use Rattle.allele.proofs.BodyLaws.{digit_body, mark_of}
use Rattle.allele.proofs.MeansLaws.{reads_means}
use Rattle.genotype.specs.Answers.{first_above}
use Rattle.genotype.specs.Inner.{NoneAbove, Room, Laid, is_body, Pair, FindsPair, KnowsPair, byte_worth, byte_allele, pair_of}

-- ---- one byte

body_digit : (b : ℕ) → is_body b ≡ true → eqb b 46 ≡ false → (48 ≤ b) × (b ≤ 57)
unfolding is_body
body_digit b h e =
    let g = (and-eq-true_iff (leb 48 b) (leb b 57)).0 (rw e at h) in
    (leb-true 48 b g.0, leb-true b 57 g.1)

byte_body : (p : Bool) (b : ℕ) → is_body b ≡ true → Body (b ∷ []) (byte_allele p b)
unfolding byte_worth
byte_body p b h = by (eqb b 46) refl
  where
    by : (x : Bool) → eqb b 46 ≡ x → Body (b ∷ []) (record { number = pick x 0 (b - 48); missing = x; phased = p })
    by true e = rw (eqb-true b 46 e) dot
    by false e =
        let r = body_digit b h e in
        let z : 48 + (b - 48) ≡ b = omega arith in
        rw z at (digit_body (b - 48) p (omega arith))

-- ---- the three

mark_byte_lem : (b : ℕ) → is_mark b ≡ true → b ≡ mark_byte (eqb b 124)
mark_byte_lem b h = let g = mark_of b h in by g.phasing g.is
  where
    by : (p : Bool) → b ≡ mark_byte p → b ≡ mark_byte (eqb b 124)
    by true e = rw e
    by false e = rw e

pair_means : (t : List ℕ) → Pair t → Means t (pair_of t)
unfolding pair_of all_phased
pair_means [] g = absurd (omega (arith, g.three))
pair_means (a ∷ []) g = absurd (omega (arith, g.three))
pair_means (a ∷ m ∷ []) g = absurd (omega (arith, g.three))
pair_means (a ∷ m ∷ b ∷ []) g =
    M.bare {t = a ∷ []} {rest = m ∷ b ∷ []} (sym (and-true _)) (byte_body _ a g.first) (M.more {t = b ∷ []} (mark_byte_lem m g.mark) (byte_body _ b g.second) M.none)
pair_means (a ∷ m ∷ b ∷ c ∷ t) g = absurd (omega (arith, g.three))

pub pair_reads : {t : List ℕ} → Pair t → reading_of t ≡ list (pair_of t)
pair_reads {t} g = (reads_means t (pair_of t)).1 (pair_means t g)

pub pair_length : (t : List ℕ) → length (pair_of t) ≡ 2
unfolding pair_of
pair_length t = refl

-- ---- as it is found

pub pair_not : {t : List ℕ} {room : ℕ} → FindsPair t room false
pair_not = record { pair = λ e. absurd (false≢true e); fits = λ e. absurd (false≢true e) }

pub pair_found : {t : List ℕ} {room : ℕ} {x y z : Bool} → 2 ≤ room → length t ≡ 3 → x ≡ is_body (get_or t 0 0) → y ≡ is_mark (get_or t 1 0) → z ≡ is_body (get_or t 2 0)
    → FindsPair t room (x && y && z)
pair_found {x = x} {y} {z} h l a m b =
    record {
      pair = λ e. (let f = (and-eq-true_iff (x && y) z).0 e in
          let g = (and-eq-true_iff x y).0 f.0 in
          record { three = l; first = sym a ∙ g.0; mark = sym m ∙ g.1; second = sym b ∙ f.1 });
      fits = λ e. h;
    }

-- ---- its numbers

module _ {b : ℕ} where
  pub worth_dot : b ≡ 46 → 0 ≡ byte_worth b
  unfolding byte_worth
  worth_dot e = rw e

  pub worth_low : is_body b ≡ true → (b ≡ 46 → ⊥) → 48 ≤ b
  worth_low h n = (body_digit b h (ne_eqb b 46 n)).0

  pub worth_digit : (b ≡ 46 → ⊥) → b - 48 ≡ byte_worth b
  unfolding byte_worth
  worth_digit n = rw (ne_eqb b 46 n)

pub pair_most : (t : List ℕ) {x y r : ℕ} → x ≡ byte_worth (get_or t 0 0) → y ≡ byte_worth (get_or t 2 0) → x ≤ r → y ≤ r → NoneAbove (pair_of t) r
unfolding pair_of first_above
pair_most t p q g h =
    record {
      is = λ count w. where_later _ 0 _ _ (le-ltb count _ (omega arith)) ∙ where_later _ 1 _ _ (le-ltb count _ (omega arith)) ∙ where_none _ 2;
    }

pub known_not : {t alt : List ℕ} {room : ℕ} → KnowsPair t alt room false
known_not = record { found = pair_not; known = λ e. absurd (false≢true e) }

pub pair_told : {t : List ℕ} {room : ℕ} {d : Bool} → FindsPair t room d → d ≡ true → Pair t
pair_told g q = g.pair q

pub known_pair : {t : List ℕ} (alt : List ℕ) {room : ℕ} {d h : Bool} (most : ℕ) → FindsPair t room d → d ≡ true → NoneAbove (pair_of t) most
    → h ≡ leb most (alt_count alt) → KnowsPair t alt room h
known_pair alt most g q n e =
    record {
      found = record { pair = λ z. g.pair q; fits = λ z. g.fits q };
      known = λ z. n.is (alt_count alt) (leb-true _ _ (sym e ∙ z));
    }

-- ---- laid over slices

module _ (t : List ℕ) {n m p : List ℕ} (r : Room 2 n m p) where
  pub pair_laid : {x y u v w : ℕ} → x ≡ byte_worth (get_or t 0 0) → y ≡ byte_worth (get_or t 2 0) → u ≡ one_if (eqb (get_or t 0 0) 46) → v ≡ one_if (eqb (get_or t 2 0) 46)
      → w ≡ one_if (eqb (get_or t 1 0) 124) → Laid (pair_of t) n m p (set (set n 0 x) 1 y) (set (set m 0 u) 1 v) (set (set p 0 w) 1 w)
  unfolding pair_of numbers_of missing_of phased_of
  pair_laid a b c d e =
      rw (a, b, c, d, e)
      (record { numbers = sets_over (_ ∷ _ ∷ []) n r.numbers; missing = sets_over (_ ∷ _ ∷ []) m r.missing; phased = sets_over (_ ∷ _ ∷ []) p r.phased })

pub ruleset laws = (pair_not, pair_found, worth_dot, worth_low, worth_digit, pair_most, known_not, pair_told, known_pair, pair_laid)
