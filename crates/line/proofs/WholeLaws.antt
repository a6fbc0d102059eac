-- What a line before an LF is doesn't turn on what follows the LF; so a buffer that holds a text and its LF is a window for it, and answers alike.
-- Assumes nothing.
use Prim.Native.Nat.{ℕ, ◌+◌, ◌-◌}
use mathlib.Core.Path.{◌≡◌, refl, sym, ap, ◌∙◌}
use mathlib.Core.Bool.{Bool, true, false}
use mathlib.Core.List.{List, [], ◌∷◌, ◌++◌, drop_last}
use native.Mathlib.Omega.{arith}
use lib.ListN.{length, get_or, take, drop, length-append, length-drop}
use lib.Seq.{take_at, append_snoc}
use Rattle.text.specs.Answer.{Answer, says, number_of, values_of}
use Rattle.text.specs.Bytes.{ends_in}
use Rattle.text.proofs.ByteLaws.{ends_is}
use Rattle.pieces.specs.Demands.{Free}
use Rattle.record.specs.Ending.{Ending, nothing, feed, return_feed, ending_bytes}
use Rattle.line.specs.Line.{line, fed}
use Rattle.line.specs.Demands.{moved, Window, through_feed}
use Rattle.record.proofs.EndingLaws.{feed_bytes, return_feed_bytes}
use Rattle.line.proofs.MovesOn.{first_fed}

-- ---- the line before an LF

-- its text and ending, whatever follows, which together are the bytes through the LF
pub record FedLine (t : List ℕ) : Type 0 where
  pub text : List ℕ
  pub ending : Ending
  pub is : (rest : List ℕ) → fed t rest ≡ line text ending rest
  pub long : length text + length (ending_bytes ending) ≡ length t + 1
  pub some : ending ≡ nothing → ⊥

pub fed_line : (t : List ℕ) → FedLine t
unfolding fed
fed_line t = by (ends_in 13 t) refl
  where
    by : (c : Bool) → ends_in 13 t ≡ c → FedLine t
    by true e =
        record {
          text = drop_last t;
          ending = return_feed;
          is = λ rest. rw e;
          long = let l = simp length-append at (ap length (ends_is 13 t e)) in rw return_feed_bytes (omega arith);
          some = λ z. (let q : ◌≡◌ {A = ℕ} 0 1 = cc in omega arith);
        }
    by false e =
        record { text = t; ending = feed; is = λ rest. rw e; long = rw feed_bytes; some = λ z. (let q : ◌≡◌ {A = ℕ} 0 1 = cc in omega arith) }

-- ---- a buffer that holds it

pub window_fed : (s : List ℕ) (at : ℕ) (w : List ℕ) (p : ℕ) (t x y : List ℕ) → Free 10 t → drop p w ≡ t ++ 10 ∷ x → drop at s ≡ t ++ 10 ∷ y
    → Window s at w p
window_fed s at w p t x y f d e =
    let n : at + length t + 1 - at ≡ length t + 1 = omega arith in
    through_feed (first_fed s at t y f e) (omega (arith, length-drop p w, simp length-append at (ap length d)))
    (rw n (begun x d ∙ sym (begun y e)))
  where
    begun : {l : List ℕ} (r : List ℕ) → l ≡ t ++ 10 ∷ r → take (length t + 1) l ≡ t ++ 10 ∷ []
    begun r q = rw (q, ← append_snoc t 10 r) (take_at (t ++ 10 ∷ []) r (length t + 1) (simp length-append))

-- ---- answers that are one when moved

-- an answer that is moved keeps its number
moved_says : (d : ℕ) (a : Answer) → number_of (moved d a) ≡ number_of a
unfolding moved
moved_says d (says n []) = refl
moved_says d (says n (x ∷ [])) = refl
moved_says d (says n (x ∷ y ∷ ys)) = refl

-- and its next place is moved
moved_first : (d : ℕ) (a : Answer) {x : ℕ} {xs : List ℕ} → values_of a ≡ x ∷ xs → get_or (values_of (moved d a)) 0 0 ≡ x + d
unfolding moved
moved_first d (says n []) e = absurd (let z = ap length e in omega arith)
moved_first d (says n (y ∷ [])) e = let z = ap (λ (l : List ℕ). get_or l 0 0) e in omega arith
moved_first d (says n (y ∷ w ∷ ws)) e = let z = ap (λ (l : List ℕ). get_or l 0 0) e in omega arith

-- so such answers have one number
pub moved_number : (d e : ℕ) (a b : Answer) → moved d a ≡ moved e b → number_of a ≡ number_of b
moved_number d e a b q = sym (moved_says d a) ∙ ap number_of q ∙ moved_says e b

-- and their next places differ as they were moved
pub moved_next : (d e : ℕ) (a b : Answer) {x y : ℕ} {xs ys : List ℕ} → values_of a ≡ x ∷ xs → values_of b ≡ y ∷ ys → moved d a ≡ moved e b → x + d ≡ y + e
moved_next d e a b p q r = sym (moved_first d a p) ∙ ap (λ (c : Answer). get_or (values_of c) 0 0) r ∙ moved_first e b q
