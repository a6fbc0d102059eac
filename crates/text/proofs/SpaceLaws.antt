-- White space: the code point of a character at a place, the spans that hold it, and the search from character to character.
-- Assumes nothing.
use Prim.Native.Nat.{ℕ, ◌+◌, ◌-◌, ◌*◌, ◌%◌, ◌≤◌, ◌<◌}
use mathlib.Core.Path.{◌≡◌, refl, sym, ap, ◌∙◌}
use mathlib.Core.Bool.{Bool, true, false, or-true}
use mathlib.Core.Logic.{inl, inr, ⊎_elim}
use mathlib.Core.List.{List, [], ◌∷◌}
use mathlib.Core.Option.{Option, some, none}
use native.Mathlib.Omega.{arith}
use native.Mathlib.Decide.{dec_lt}
use lib.ListN.{length, get_or, take, drop, drop_of_length-le}
use types.Run.{OneOf}
use Rattle.std.specs.Prelude.{Ok, Err}
use Rattle.text.specs.Answer.{says}
use Rattle.text.specs.Pick.{within}
use Rattle.text.specs.Utf8.{before, chars_of, chars_from, is_utf8, there, utf8_answer}
use Rattle.text.specs.Space.{code_point, Span, span, in_any, spaces, is_space, any_space, spaced_answer, space_answer}
use Rattle.text.specs.Inner.{CharAt}
use Rattle.text.specs.Paper.{utf8_paper, space_paper}
use Rattle.text.specs.declared.utf8.NotUtf8.{NotUtf8}
use Rattle.text.proofs.Lists.{onward, rest_all}
use Rattle.text.proofs.Utf8Laws.{inside, under, above}
use Rattle.text.proofs.CharLaws.{char_next, char_none, told_text, told_broken}

-- ---- the code point, in the code's own words

here_2 : (s : List ℕ) (at : ℕ) → at + 1 < length s → drop (at + 1) s ≡ get_or s (at + 1) 0 ∷ drop (at + 2) s
here_2 s at h = onward s (at + 1) (at + 2) h (omega arith)

here_3 : (s : List ℕ) (at : ℕ) → at + 2 < length s → drop (at + 1) s ≡ get_or s (at + 1) 0 ∷ get_or s (at + 2) 0 ∷ drop (at + 3) s
here_3 s at h = here_2 s at (omega arith) ∙ ap (λ (t : List ℕ). get_or s (at + 1) 0 ∷ t) (onward s (at + 2) (at + 3) h (omega arith))

here_4 : (s : List ℕ) (at : ℕ) → at + 3 < length s → drop (at + 1) s ≡ get_or s (at + 1) 0 ∷ get_or s (at + 2) 0 ∷ get_or s (at + 3) 0 ∷ drop (at + 4) s
here_4 s at h = here_3 s at (omega arith) ∙ ap (λ (t : List ℕ). get_or s (at + 1) 0 ∷ get_or s (at + 2) 0 ∷ t) (onward s (at + 3) (at + 4) h (omega arith))

module _ (s : List ℕ) (at : ℕ) {size a : ℕ} (h : at + size ≤ length s) (e : a ≡ get_or s at 0) where
  first : 1 ≤ size → drop at s ≡ get_or s at 0 ∷ drop (at + 1) s
  first n = onward s at (at + 1) (omega arith) refl

  pub point_1 : size ≡ 1 → a ≡ code_point (take size (drop at s))
  unfolding code_point
  point_1 n = rw (n, first (omega arith)) e

  pub point_2 : {b : ℕ} → b ≡ get_or s (at + 1) 0 → size ≡ 2 → a % 32 * 64 + b % 64 ≡ code_point (take size (drop at s))
  unfolding code_point
  point_2 f n = rw (n, first (omega arith), here_2 s at (omega arith), e, f)

  pub point_3 : {b c : ℕ} → b ≡ get_or s (at + 1) 0 → c ≡ get_or s (at + 2) 0 → size ≡ 3 → (a % 16 * 64 + b % 64) * 64 + c % 64 ≡ code_point (take size (drop at s))
  unfolding code_point
  point_3 f g n = rw (n, first (omega arith), here_3 s at (omega arith), e, f, g)

  pub point_4 : {b c d : ℕ} → b ≡ get_or s (at + 1) 0 → c ≡ get_or s (at + 2) 0 → d ≡ get_or s (at + 3) 0 → (1 ≤ size) × (size ≤ 4) → (size ≡ 1 → ⊥)
      → (size ≡ 2 → ⊥) → (size ≡ 3 → ⊥) → ((a % 8 * 64 + b % 64) * 64 + c % 64) * 64 + d % 64 ≡ code_point (take size (drop at s))
  unfolding code_point
  point_4 f g i r n₁ n₂ n₃ =
      let n : size ≡ 4 = omega arith in
      rw (n, first (omega arith), here_4 s at (omega arith), e, f, g, i)

-- ---- spans

-- the way along the spans past a code point that none holds
data Outside (p : ℕ) : List Span → Type 0 where
  last : Outside p []
  over : {low high : ℕ} {spans : List Span} → high < p → Outside p spans → Outside p (span low high ∷ spans)
  below : {low high : ℕ} {spans : List Span} → p < low → Outside p spans → Outside p (span low high ∷ spans)

outside : {p : ℕ} {spans : List Span} → Outside p spans → in_any p spans ≡ false
unfolding in_any
outside last = refl
outside {p} (over {low} {high} h o) = rw (above low high p h) (outside o)
outside {p} (below {low} {high} h o) = rw (under low high p h) (outside o)

-- past a span of one code point
apart : {p k : ℕ} {spans : List Span} → (p ≡ k → ⊥) → Outside p spans → Outside p (span k k ∷ spans)
apart {p} {k} n o = elim (dec_lt p k) [ yes h ↦ below h o | no h ↦ over {high = k} (omega arith) o ]

-- the way along the spans to one that holds a code point
data Inside (p : ℕ) : List Span → Type 0 where
  into : {low high : ℕ} {spans : List Span} → low ≤ p → p ≤ high → Inside p (span low high ∷ spans)
  later : {low high : ℕ} {spans : List Span} → Inside p spans → Inside p (span low high ∷ spans)

held : {p : ℕ} {spans : List Span} → Inside p spans → in_any p spans ≡ true
unfolding in_any
held {p} (into {low} {high} h k) = rw (inside low high p h k)
held {p} (later {low} {high} i) = rw (held i) (or-true (within low high p))

module _ {p : ℕ} where
  -- the code points that the code tests one by one
  pub space_alone : OneOf (0x20 ∷ 0x85 ∷ 0xa0 ∷ 0x1680 ∷ 0x202f ∷ 0x205f ∷ 0x3000 ∷ []) p → true ≡ is_space p
  unfolding is_space spaces in_any
  space_alone =
      ⊎_elim (λ e. rw e) (⊎_elim (λ e. rw e) (⊎_elim (λ e. rw e) (⊎_elim (λ e. rw e) (⊎_elim (λ e. rw e) (⊎_elim (λ e. rw e) (λ e. rw e))))))

  pub space_low : p < 9 → false ≡ is_space p
  unfolding is_space spaces
  space_low h = sym (outside (below (omega arith) (below (omega arith) (below (omega arith) (below (omega arith) (below (omega arith) (below (omega arith) (below (omega arith) (below (omega arith) (below (omega arith) (below (omega arith) last)))))))))))

  pub space_tab : 9 ≤ p → p < 14 → true ≡ is_space p
  unfolding is_space spaces
  space_tab h k = sym (held (into h (omega arith)))

  pub space_mid : 0x2000 ≤ p → p < 0x200b → true ≡ is_space p
  unfolding is_space spaces
  space_mid h k = sym (held (later (later (later (later (later (into h (omega arith))))))))

  pub space_line : 0x2028 ≤ p → p < 0x202a → true ≡ is_space p
  unfolding is_space spaces
  space_line h k = sym (held (later (later (later (later (later (later (into h (omega arith)))))))))

  pub space_gap : 0x200b ≤ p → p < 0x2028 → false ≡ is_space p
  unfolding is_space spaces
  space_gap h k = sym (outside (over (omega arith) (over (omega arith) (over (omega arith) (over (omega arith) (over (omega arith) (over (omega arith) (below (omega arith) (below (omega arith) (below (omega arith) (below (omega arith) last)))))))))))

  -- between the spans, none of those code points
  pub space_apart : 14 ≤ p → p < 0x2000 → (OneOf (0x20 ∷ 0x85 ∷ 0xa0 ∷ 0x1680 ∷ 0x202f ∷ 0x205f ∷ 0x3000 ∷ []) p → ⊥) → false ≡ is_space p
  unfolding is_space spaces
  space_apart h k n =
      sym (outside (over (omega arith) (apart (λ e. n (inl e)) (apart (λ e. n (inr (inl e))) (apart (λ e. n (inr (inr (inl e)))) (apart (λ e. n (inr (inr (inr (inl e))))) (below (omega arith) (below (omega arith) (below (omega arith) (below (omega arith) (below (omega arith) last)))))))))))

  pub space_high : 0x202a ≤ p → (OneOf (0x20 ∷ 0x85 ∷ 0xa0 ∷ 0x1680 ∷ 0x202f ∷ 0x205f ∷ 0x3000 ∷ []) p → ⊥) → false ≡ is_space p
  unfolding is_space spaces
  space_high h n =
      sym (outside (over (omega arith) (over (omega arith) (over (omega arith) (over (omega arith) (over (omega arith) (over (omega arith) (over (omega arith) (apart (λ e. n (inr (inr (inr (inr (inl e)))))) (apart (λ e. n (inr (inr (inr (inr (inr (inl e))))))) (apart (λ e. n (inr (inr (inr (inr (inr (inr e))))))) last)))))))))))

-- ---- the search's loop

-- the answer for what is left from i on is the answer for the whole
pub record Seeking (s : List ℕ) (i : ℕ) : Type 0 where
  pub reached : i ≤ length s
  pub same : space_answer (drop i s) ≡ space_answer s

pub seek_first : (s : List ℕ) → Seeking s 0
seek_first s = record { reached = omega arith; same = refl }

-- a character that is no white space changes nothing
free_before : (c : List ℕ) (o : Option (List (List ℕ))) → is_space (code_point c) ≡ false → spaced_answer (before c o) ≡ spaced_answer o
unfolding spaced_answer before any_space
free_before c none e = refl
free_before c (some cs) e = rw e

-- after white space, all that matters is whether the rest is UTF-8
held_before : (c : List ℕ) (o : Option (List (List ℕ))) → is_space (code_point c) ≡ true → there (before c o) ≡ true → spaced_answer (before c o) ≡ says 0 (1 ∷ [])
unfolding spaced_answer before any_space there
held_before c none e t = cc
held_before c (some cs) e t = rw e

broken : (o : Option (List (List ℕ))) → there o ≡ false → spaced_answer o ≡ says 5 []
unfolding spaced_answer there
broken none t = refl
broken (some cs) t = cc

module _ {s : List ℕ} {i n : ℕ} (k : Seeking s i) (h : i < length s) (g : CharAt s i n) where
  pub seek_stop : {no : NotUtf8} → n ≡ 0 → space_paper (Err no) ≡ space_answer s
  unfolding space_paper space_answer spaced_answer
  seek_stop z = sym (ap spaced_answer (char_none h g z)) ∙ k.same

  module _ {p : ℕ} {t : Bool} (z : n ≡ 0 → ⊥) (e : p ≡ code_point (take n (drop i s))) (f : t ≡ is_space p) where
    code_is : is_space (code_point (take n (drop i s))) ≡ t
    code_is = ap is_space (sym e) ∙ sym f

    pub seek_turn : t ≡ false → Seeking s (i + n)
    unfolding space_answer
    seek_turn w =
        record {
          reached = g.fits;
          same = sym (free_before (take n (drop i s)) _ (code_is ∙ w)) ∙ ap spaced_answer (sym (char_next h g z)) ∙ k.same;
        }

    pub seek_held : {u : Unit} → t ≡ true → utf8_paper (Ok u) ≡ utf8_answer (take (length s - i) (drop i s)) → space_paper (Ok true) ≡ space_answer s
    unfolding space_paper space_answer is_utf8
    seek_held w j =
        let v : there (before (take n (drop i s)) (chars_of (drop (i + n) s))) ≡ true =
        ap there (sym (char_next h g z)) ∙ told_text (drop i s) (rw (rest_all s i) at j) in
        sym (ap spaced_answer (char_next h g z) ∙ held_before (take n (drop i s)) _ (code_is ∙ w) v) ∙ k.same

pub seek_broken : {s : List ℕ} {i : ℕ} {no : NotUtf8} → Seeking s i → utf8_paper (Err no) ≡ utf8_answer (take (length s - i) (drop i s))
    → space_paper (Err no) ≡ space_answer s
unfolding space_paper space_answer is_utf8
seek_broken {s} {i} k e = sym (broken (chars_of (drop i s)) (told_broken (drop i s) (rw (rest_all s i) at e))) ∙ k.same

pub seek_past : {s : List ℕ} {i : ℕ} → Seeking s i → length s ≤ i → space_paper (Ok false) ≡ space_answer s
unfolding space_paper space_answer spaced_answer chars_of chars_from any_space
seek_past {s} k h = (rw (drop_of_length-le s h) at k.same)

pub ruleset laws = (point_1, point_2, point_3, point_4, space_alone, space_low, space_tab, space_mid, space_line, space_gap, space_apart, space_high, seek_first, seek_stop, seek_turn, seek_held, seek_broken, seek_past)
