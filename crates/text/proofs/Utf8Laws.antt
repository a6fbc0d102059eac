-- One character by its bytes: what its first asks for, and what those after it answer. Assumes nothing.
use Prim.Native.Nat.{ℕ, zero, suc, ◌-◌, ◌≤◌, ◌<◌}
use mathlib.Core.Path.{◌≡◌, refl, sym, ◌∙◌}
use mathlib.Core.Bool.{Bool, true, false, not, and-false}
use mathlib.Core.List.{List, [], ◌∷◌}
use native.Mathlib.Omega.{arith}
use native.Mathlib.Decide.{dec_le}
use native.Mathlib.Numerals.{unary_clauses}
use lib.ListN.{length, take, length-take}
use borrow.Author.Tests.{le-leb, lt-leb, ne_eqb, not-true, not-false}
use Rattle.text.specs.Pick.{within}
use Rattle.text.specs.Utf8.{Row, row, table, Lead, lead, lead_in, lead_of, further, second, follows, size_by, char_size}
use Rattle.text.specs.Inner.{Second}

-- ---- within

pub inside : (low high b : ℕ) → low ≤ b → b ≤ high → within low high b ≡ true
inside low high b p q = simp (le-leb _ _ p, le-leb _ _ q)

pub under : (low high b : ℕ) → b < low → within low high b ≡ false
under low high b p = simp (lt-leb _ _ p)

pub above : (low high b : ℕ) → high < b → within low high b ≡ false
above low high b p = simp (lt-leb _ _ p, and-false)

pub within_inside : (low high b : ℕ) → low ≤ b → b ≤ high → true ≡ within low high b
within_inside low high b p q = sym (inside low high b p q)

pub within_under : (low high b : ℕ) → b < low → false ≡ within low high b
within_under low high b p = sym (under low high b p)

pub within_above : (low high b : ℕ) → high < b → false ≡ within low high b
within_above low high b p = sym (above low high b p)

-- ---- the row that a first byte falls in

-- the way down the table to the row that the byte a falls in
data Falls (a : ℕ) : List Row → Lead → Type 0 where
  nowhere : Falls a [] (lead 0 0 0)
  past : {low high l h n : ℕ} {rows : List Row} {r : Lead} → high < a → Falls a rows r → Falls a (row low high l h n ∷ rows) r
  short : {low high l h n : ℕ} {rows : List Row} {r : Lead} → a < low → Falls a rows r → Falls a (row low high l h n ∷ rows) r
  into : {low high l h n : ℕ} {rows : List Row} → low ≤ a → a ≤ high → Falls a (row low high l h n ∷ rows) (lead n l h)

falls : {a : ℕ} {rows : List Row} {r : Lead} → Falls a rows r → lead_in a rows ≡ r
unfolding lead_in
falls nowhere = refl
falls {a} (past {low} {high} p f) = rw (above low high a p) (falls f)
falls {a} (short {low} {high} p f) = rw (under low high a p) (falls f)
falls {a} (into {low} {high} p q) = rw (inside low high a p q)

-- a byte below 80 hex asks for itself alone
pub alone : {a : ℕ} → a < 0x80 → lead_of a ≡ lead 1 0 0
unfolding lead_of table
alone p = falls (into (omega arith) (omega arith))

lead_low : {a : ℕ} → 0x80 ≤ a → a < 0xc2 → lead_of a ≡ lead 0 0 0
unfolding lead_of table
lead_low p q =
    falls (past (omega arith) (short (omega arith) (short (omega arith) (short (omega arith) (short (omega arith) (short (omega arith) (short (omega arith) (short (omega arith) (short (omega arith) nowhere)))))))))

lead_two : {a : ℕ} → 0xc2 ≤ a → a < 0xe0 → lead_of a ≡ lead 2 0x80 0xbf
unfolding lead_of table
lead_two p q = falls (past (omega arith) (into (omega arith) (omega arith)))

lead_high : {a : ℕ} → 0xf4 < a → lead_of a ≡ lead 0 0 0
unfolding lead_of table
lead_high p =
    falls (past (omega arith) (past (omega arith) (past (omega arith) (past (omega arith) (past (omega arith) (past (omega arith) (past (omega arith) (past (omega arith) (past (omega arith) nowhere)))))))))

-- ---- the second byte of three and of four

module _ {a b : ℕ} {r : Bool} where
  asking : {n low high : ℕ} → Falls a table (lead n low high) → r ≡ within low high b → Second n a b r
  unfolding lead_of
  asking {low = low} {high = high} f e = record { low = low; high = high; asks = falls f; tells = e }

  pub three_first : a ≡ 0xe0 → r ≡ within 0xa0 0xbf b → Second 3 a b r
  unfolding table
  three_first p e = asking (past (omega arith) (past (omega arith) (into (omega arith) (omega arith)))) e

  pub three_surrogate : a ≡ 0xed → r ≡ within 0x80 0x9f b → Second 3 a b r
  unfolding table
  three_surrogate p e = asking (past (omega arith) (past (omega arith) (past (omega arith) (past (omega arith) (into (omega arith) (omega arith)))))) e

  pub three_other : (0xe0 ≤ a) × (a ≤ 0xef) → (a ≡ 0xe0 → ⊥) → (a ≡ 0xed → ⊥) → r ≡ within 0x80 0xbf b → Second 3 a b r
  unfolding table
  three_other p m n e = by (dec_le 0xed a)
    where
      by : Dec (0xed ≤ a) → Second 3 a b r
      by (yes l) = asking (past (omega arith) (past (omega arith) (past (omega arith) (past (omega arith) (past (omega arith) (into (omega arith) (omega arith))))))) e
      by (no l) = asking (past (omega arith) (past (omega arith) (past (omega arith) (into (omega arith) (omega arith))))) e

  pub four_first : a ≡ 0xf0 → r ≡ within 0x90 0xbf b → Second 4 a b r
  unfolding table
  four_first p e = asking (past (omega arith) (past (omega arith) (past (omega arith) (past (omega arith) (past (omega arith) (past (omega arith) (into (omega arith) (omega arith)))))))) e

  pub four_last : a ≡ 0xf4 → r ≡ within 0x80 0x8f b → Second 4 a b r
  unfolding table
  four_last p e =
      asking (past (omega arith) (past (omega arith) (past (omega arith) (past (omega arith) (past (omega arith) (past (omega arith) (past (omega arith) (past (omega arith) (into (omega arith) (omega arith)))))))))) e

  pub four_other : (0xf0 ≤ a) × (a ≤ 0xf4) → (a ≡ 0xf0 → ⊥) → (a ≡ 0xf4 → ⊥) → r ≡ within 0x80 0xbf b → Second 4 a b r
  unfolding table
  four_other p m n e =
      asking (past (omega arith) (past (omega arith) (past (omega arith) (past (omega arith) (past (omega arith) (past (omega arith) (past (omega arith) (into (omega arith) (omega arith))))))))) e

-- ---- the size by four bytes

size_small : (n l h : ℕ) (s : List ℕ) → n < 2 → size_by (lead n l h) s ≡ n
unfolding size_by follows second
size_small zero l h s p = refl
size_small (suc zero) l h s p = refl
size_small (suc (suc n)) l h s p = absurd (omega arith)

-- too few bytes
pub size_cut : (n l h : ℕ) (s : List ℕ) → suc (length s) < n → size_by (lead n l h) s ≡ 0
unfolding size_by follows
size_cut n l h s p =
    let k : suc (length (take (n - 1) s)) ≡ n → ⊥ = λ e. (let t = length-take (n - 1) s in omega arith) in
    simp (ne_eqb _ _ k)

-- the second byte is out of its bounds
pub size_second : (n l h b : ℕ) (s : List ℕ) → 2 ≤ n → within l h b ≡ false → size_by (lead n l h) (b ∷ s) ≡ 0
unfolding size_by follows second
size_second zero l h b s q p = absurd (omega arith)
size_second (suc zero) l h b s q p = absurd (omega arith)
size_second (suc (suc n)) l h b s q p = simp (unary_clauses, p, and-false)

size_two : (l h b : ℕ) (s : List ℕ) → within l h b ≡ true → size_by (lead 2 l h) (b ∷ s) ≡ 2
unfolding size_by follows second further
size_two l h b s p = simp p

-- the third byte is no further one
pub size_third : (n l h b d : ℕ) (s : List ℕ) → 3 ≤ n → within 128 191 d ≡ false → size_by (lead n l h) (b ∷ d ∷ s) ≡ 0
unfolding size_by follows second further
size_third zero l h b d s q p = absurd (omega arith)
size_third (suc zero) l h b d s q p = absurd (omega arith)
size_third (suc (suc zero)) l h b d s q p = absurd (omega arith)
size_third (suc (suc (suc n))) l h b d s q p = simp (unary_clauses, p, and-false)

size_three : (l h b d : ℕ) (s : List ℕ) → within l h b ≡ true → within 128 191 d ≡ true → size_by (lead 3 l h) (b ∷ d ∷ s) ≡ 3
unfolding size_by follows second further
size_three l h b d s p q = simp (p, q)

-- the fourth byte is no further one
pub size_fourth : (l h b d e : ℕ) (s : List ℕ) → within 128 191 e ≡ false → size_by (lead 4 l h) (b ∷ d ∷ e ∷ s) ≡ 0
unfolding size_by follows second further
size_fourth l h b d e s p = simp (p, and-false)

size_four : (l h b d e : ℕ) (s : List ℕ) → within l h b ≡ true → within 128 191 d ≡ true → within 128 191 e ≡ true → size_by (lead 4 l h) (b ∷ d ∷ e ∷ s) ≡ 4
unfolding size_by follows second further
size_four l h b d e s p q r = simp (p, q, r)

-- ---- the same in the code's own words

module _ (a b c d : ℕ) where
  size_of : {n l h : ℕ} → lead_of a ≡ lead n l h → char_size (a ∷ b ∷ c ∷ d ∷ []) ≡ size_by (lead n l h) (b ∷ c ∷ d ∷ [])
  unfolding char_size
  size_of e = rw e

  pub one_byte : a < 0x80 → 1 ≡ char_size (a ∷ b ∷ c ∷ d ∷ [])
  one_byte p = sym (size_of (alone p) ∙ size_small _ _ _ _ (omega arith))

  pub none_low : 0x80 ≤ a → a < 0xc2 → 0 ≡ char_size (a ∷ b ∷ c ∷ d ∷ [])
  none_low p q = sym (size_of (lead_low p q) ∙ size_small _ _ _ _ (omega arith))

  pub none_high : 0xf4 < a → 0 ≡ char_size (a ∷ b ∷ c ∷ d ∷ [])
  none_high p = sym (size_of (lead_high p) ∙ size_small _ _ _ _ (omega arith))

  module _ {r : Bool} (p : 0xc2 ≤ a) (q : a < 0xe0) (e : r ≡ within 0x80 0xbf b) where
    pub two_bytes : r ≡ true → 2 ≡ char_size (a ∷ b ∷ c ∷ d ∷ [])
    two_bytes t = sym (size_of (lead_two p q) ∙ size_two _ _ _ _ (sym e ∙ t))

    pub two_none : r ≡ false → 0 ≡ char_size (a ∷ b ∷ c ∷ d ∷ [])
    two_none t = sym (size_of (lead_two p q) ∙ size_second _ _ _ _ _ (omega arith) (sym e ∙ t))

  module _ {n : ℕ} {r : Bool} (g : Second n a b r) where
    pub second_none : 2 ≤ n → not r ≡ true → 0 ≡ char_size (a ∷ b ∷ c ∷ d ∷ [])
    second_none m t = sym (size_of g.asks ∙ size_second _ _ _ _ _ m (sym g.tells ∙ not-true r t))

    third_none : {q : Bool} → 3 ≤ n → q ≡ within 0x80 0xbf c → q ≡ false → 0 ≡ char_size (a ∷ b ∷ c ∷ d ∷ [])
    third_none m e t = sym (size_of g.asks ∙ size_third _ _ _ _ _ _ m (sym e ∙ t))

  module _ {r q : Bool} (e : q ≡ within 0x80 0xbf c) where
    pub three_none : Second 3 a b r → q ≡ false → 0 ≡ char_size (a ∷ b ∷ c ∷ d ∷ [])
    three_none g t = third_none g (omega arith) e t

    pub three_bytes : Second 3 a b r → not r ≡ false → q ≡ true → 3 ≡ char_size (a ∷ b ∷ c ∷ d ∷ [])
    three_bytes g f t = sym (size_of g.asks ∙ size_three _ _ _ _ _ (sym g.tells ∙ not-false r f) (sym e ∙ t))

    pub four_third : Second 4 a b r → not q ≡ true → 0 ≡ char_size (a ∷ b ∷ c ∷ d ∷ [])
    four_third g t = third_none g (omega arith) e (not-true q t)

    module _ {p : Bool} (g : Second 4 a b r) (i : p ≡ within 0x80 0xbf d) where
      pub four_none : p ≡ false → 0 ≡ char_size (a ∷ b ∷ c ∷ d ∷ [])
      four_none t = sym (size_of g.asks ∙ size_fourth _ _ _ _ _ _ (sym i ∙ t))

      pub four_bytes : not r ≡ false → not q ≡ false → p ≡ true → 4 ≡ char_size (a ∷ b ∷ c ∷ d ∷ [])
      four_bytes f h t =
          sym (size_of g.asks ∙ size_four _ _ _ _ _ _ (sym g.tells ∙ not-false r f) (sym e ∙ not-false q h) (sym i ∙ t))

pub ruleset laws =
    (within_inside, within_under, within_above, three_first, three_surrogate, three_other, four_first, four_last, four_other, one_byte, none_low, none_high, two_bytes, two_none, second_none, three_none, three_bytes, four_third, four_none, four_bytes)
