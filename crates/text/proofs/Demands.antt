-- A text is UTF-8 exactly when it is a list of characters, and there is one such list; it may be cut at any byte below 80 hex.
-- Assumes nothing.
use Prim.Native.Nat.{ℕ, zero, suc, ◌≤◌, ◌<◌}
use mathlib.Core.Path.{◌≡◌, refl, sym, ap, ◌∙◌}
use mathlib.Core.Bool.{true, and-eq-true_iff}
use mathlib.Core.List.{List, [], ◌∷◌, ◌++◌, flatten}
use mathlib.Core.Option.{Option, some, none}
use native.Mathlib.Omega.{arith}
use native.Mathlib.Decide.{ℕ_discrete}
use native.Mathlib.Nat.{le_refl}
use lib.ListN.{length, take, drop, length-drop, length-append, take-append-drop}
use lib.Seq.{take_at, drop_at}
use Rattle.text.specs.Utf8.{is_char, all_chars, char_size, before, chars_from, chars_of, there, is_utf8}
use Rattle.text.specs.Demands.{Characters, Cuts, Parted}
use Rattle.text.proofs.TextLaws.{no_characters, both_are}
use Rattle.text.proofs.CharLaws.{size_fits, size_char, char_size_lem, chars_stop, chars_next, alone_char, char_alone, High, more, tail_high}

-- ---- what is cut is a list of characters

none_some : {cs : List (List ℕ)} → ◌≡◌ {A = Option (List (List ℕ))} none (some cs) → ⊥
none_some e = let z : ◌≡◌ {A = ℕ} 0 1 = cc in omega arith

one_more : (c : List ℕ) {s : List ℕ} {cs : List (List ℕ)} → is_char c ≡ true → Characters s cs → Characters (c ++ s) (c ∷ cs)
unfolding all_chars flatten
one_more c h k = record { each = rw (h, k.each); whole = ap (λ (t : List ℕ). c ++ t) k.whole }

-- the empty text has no character; any other its first, and then those of the rest
first_is : (t : List ℕ) (cs : List (List ℕ)) → chars_of t ≡ some cs
    → ((ds : List (List ℕ)) → (char_size t ≡ 0 → ⊥) → chars_of (drop (char_size t) t) ≡ some ds → Characters (drop (char_size t) t) ds) → Characters t cs
unfolding chars_of chars_from all_chars flatten before
first_is [] cs e rest = let q : [] ≡ cs = cc in rw (← q) no_characters
first_is (a ∷ s) cs e rest = by (ℕ_discrete (char_size (a ∷ s)) 0)
  where
    t : List ℕ
    t = a ∷ s

    more : (o : Option (List (List ℕ))) → (char_size t ≡ 0 → ⊥) → chars_of (drop (char_size t) t) ≡ o → before (take (char_size t) t) o ≡ some cs → Characters t cs
    more none z q r = absurd (none_some r)
    more (some ds) z q r =
        let l : take (char_size t) t ∷ ds ≡ cs = cc in
        rw (← l) (rw (take-append-drop (char_size t) t) at (one_more (take (char_size t) t) (size_char t z) (rest ds z q)))

    by : Dec (char_size t ≡ 0) → Characters t cs
    by (yes z) = absurd (none_some (sym (chars_stop t (omega arith) z) ∙ e))
    by (no z) = more (chars_of (drop (char_size t) t)) z refl (sym (chars_next t (char_size t) refl z) ∙ e)

cut_is : (f : ℕ) (t : List ℕ) (cs : List (List ℕ)) → length t ≤ f → chars_of t ≡ some cs → Characters t cs
cut_is zero t cs h e = first_is t cs e (λ ds z q. absurd (let k = size_fits t in omega arith))
cut_is (suc f) t cs h e = first_is t cs e (λ ds z q. cut_is f (drop (char_size t) t) ds (let d = length-drop (char_size t) t in omega arith) q)

-- ---- each list of characters is cut

char_some : (c : List ℕ) → is_char c ≡ true → length c ≡ 0 → ⊥
unfolding is_char
char_some [] e z = let z : ◌≡◌ {A = ℕ} 0 1 = cc in omega arith
char_some (a ∷ s) e z = omega arith

cut_before : (c s : List ℕ) → is_char c ≡ true → chars_of (c ++ s) ≡ before c (chars_of s)
cut_before c s h =
    chars_next (c ++ s) (length c) (char_size_lem c s h) (char_some c h)
    ∙ rw (take_at c s (length c) refl, drop_at c s (length c) refl)

cut_only : (t : List ℕ) (cs : List (List ℕ)) → Characters t cs → chars_of t ≡ some cs
unfolding chars_of chars_from all_chars flatten before
cut_only t [] k = rw (← k.whole)
cut_only t (c ∷ cs) k =
    let b = (and-eq-true_iff (is_char c) (all_chars cs)).0 k.each in
    let i = cut_only (flatten cs) cs (record { each = b.1; whole = refl }) in
    rw (← k.whole) (cut_before c (flatten cs) b.0 ∙ ap (before c) i)

pub cuts : Cuts chars_of
cuts = record { is = λ t cs e. cut_is (length t) t cs (le_refl _) e; only = cut_only }

-- ---- a byte below 80 hex stands alone

-- a text that is UTF-8, with its characters
pub record Text (t : List ℕ) : Type 0 where
  pub chars : List (List ℕ)
  pub are : Characters t chars

pub text_is : (t : List ℕ) → is_utf8 t ≡ true → Text t
unfolding is_utf8 there
text_is t e = by (chars_of t) refl e
  where
    by : (o : Option (List (List ℕ))) → chars_of t ≡ o → there o ≡ true → Text t
    by none q e = absurd (let z : ◌≡◌ {A = ℕ} 0 1 = cc in omega arith)
    by (some cs) q e = record { chars = cs; are = cuts.is t cs q }

pub is_text : (t : List ℕ) → Text t → is_utf8 t ≡ true
unfolding is_utf8 there
is_text t k = rw (cuts.only t k.chars k.are)

-- the empty text is one
pub nil_text : is_utf8 [] ≡ true
nil_text = is_text [] (record { chars = []; are = no_characters })

-- so is a byte below 80 hex
pub byte_text : (b : ℕ) → b < 0x80 → is_utf8 (b ∷ []) ≡ true
unfolding all_chars flatten
byte_text b h = is_text (b ∷ []) (record { chars = (b ∷ []) ∷ []; are = record { each = rw (alone_char b h); whole = refl } })

text_more : (d : List ℕ) {o : List ℕ} → is_char d ≡ true → Text o → Text (d ++ o)
text_more d x t = record { chars = d ∷ t.chars; are = one_more d x t.are }

text_append : {a c : List ℕ} → Text a → Text c → Text (a ++ c)
text_append x y = record { chars = x.chars ++ y.chars; are = both_are x.are y.are }

-- two texts are one, one after the other
pub append_text : (a c : List ℕ) → is_utf8 a ≡ true → is_utf8 c ≡ true → is_utf8 (a ++ c) ≡ true
append_text a c p q = is_text (a ++ c) (text_append (text_is a p) (text_is c q))

-- the two sides of the byte
record Sides (a c : List ℕ) : Type 0 where
  left : Text a
  right : Text c

-- bytes of 80 hex and more, before the rest of a text, all stand before the byte below
record Carried (r a rest : List ℕ) (b : ℕ) (c : List ℕ) : Type 0 where
  others : List ℕ
  here : a ≡ r ++ others
  rests : rest ≡ others ++ b ∷ c

carried_more : {y z : ℕ} {r a rest : List ℕ} {b : ℕ} {c : List ℕ} → y ≡ z → Carried r a rest b c → Carried (y ∷ r) (z ∷ a) rest b c
carried_more q i = record { others = i.others; here = cc; rests = i.rests }

carried : (r a rest : List ℕ) (b : ℕ) (c : List ℕ) → b < 0x80 → High r → r ++ rest ≡ a ++ b ∷ c → Carried r a rest b c
carried [] a rest b c h k e = record { others = a; here = refl; rests = e }
carried (y ∷ r) [] rest b c h (more p k) e = absurd (let q : y ≡ b = cc in omega arith)
carried (y ∷ r) (z ∷ a) rest b c h (more p k) e = carried_more (cc) (carried r a rest b c h k (cc))

-- the first character is the byte, or stands before it
first_side : (e : List ℕ) (es : List (List ℕ)) (a : List ℕ) (b : ℕ) (c : List ℕ) → b < 0x80 → is_char e ≡ true → all_chars es ≡ true
    → e ++ flatten es ≡ a ++ b ∷ c → ((o : List ℕ) → Characters (o ++ b ∷ c) es → Sides o c) → Sides a c
unfolding is_char all_chars flatten
first_side [] es a b c h x y w rest = absurd (let z : ◌≡◌ {A = ℕ} 0 1 = cc in omega arith)
first_side (z ∷ r) es [] b c h x y w rest =
    let q : z ≡ b = cc in
    let n : r ≡ [] = char_alone b r h (rw q at x) in
    let t : r ++ flatten es ≡ c = cc in
    record {
      left = record { chars = []; are = no_characters };
      right = record { chars = es; are = record { each = y; whole = rw n at t } };
    }
first_side (z ∷ r) es (u ∷ a) b c h x y w rest =
    let q : z ≡ u = cc in
    let k = carried r a (flatten es) b c h (tail_high z r x) (cc) in
    let s = rest k.others (record { each = y; whole = k.rests }) in
    let v : (z ∷ r) ++ k.others ≡ u ∷ a = cc k.here in
    record { left = rw v at (text_more (z ∷ r) x s.left); right = s.right }

parted_at : (es : List (List ℕ)) (a : List ℕ) (b : ℕ) (c : List ℕ) → b < 0x80 → Characters (a ++ b ∷ c) es → Sides a c
unfolding all_chars flatten
parted_at [] a b c h k = absurd (let l = ap length k.whole in let m = length-append a (b ∷ c) in omega arith)
parted_at (e ∷ es) a b c h k =
    let p = (and-eq-true_iff (is_char e) (all_chars es)).0 k.each in
    first_side e es a b c h p.0 p.1 k.whole (λ o x. parted_at es o b c h x)

pub parted : Parted is_utf8
parted a c b h = (
  λ e. (let s = text_is (a ++ b ∷ c) e in let p = parted_at s.chars a b c h s.are in (is_text a p.left, is_text c p.right)),
  λ e. is_text (a ++ b ∷ c) (text_append (text_is a e.0) (text_more (b ∷ []) (alone_char b h) (text_is c e.1))),
)
