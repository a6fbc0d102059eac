-- Our judge and our written text meet what is asked of any: the verdict by whether the text has characters, the text by
-- splitting it again. Assumes nothing.
use Prim.Native.Nat.{ℕ, ◌<◌}
use mathlib.Core.Path.{◌≡◌, refl, sym, ap, ◌∙◌}
use mathlib.Core.Bool.{Bool, true, false, not, ◌&&◌, false≢true, and-eq-true_iff}
use mathlib.Core.List.{List, [], ◌∷◌}
use mathlib.Core.Option.{Option, some, none}
use native.Mathlib.Omega.{arith}
use lib.ListN.{length, get_or}
use borrow.Author.Tests.{not-true}
use Rattle.text.specs.Pick.{pick}
use Rattle.text.specs.Answer.{says, number_of}
use Rattle.text.specs.Utf8.{chars_of}
use Rattle.text.specs.Space.{any_space}
use Rattle.text.specs.Demands.{Characters}
use Rattle.text.proofs.SameLaws.{same_self, same_not}
use Rattle.text.proofs.FoundLaws.{each_free, free_each}
use Rattle.text.proofs.Demands.{cuts}
use Rattle.pieces.specs.Pieces.{split, joined}
use Rattle.pieces.specs.Demands.{Free}
use Rattle.pieces.proofs.PieceLaws.{free_nil, free_cons, split_whole, split_back}
use Rattle.lists.specs.Kind.{separator_of, invalid_of}
use Rattle.lists.specs.Judge.{fine, chars_answer, entry_answer}
use Rattle.lists.specs.Write.{list_text}
use Rattle.lists.specs.Demands.{Unspaced, FilterValid, JudgedAs, Judges, entries_of, GivesBack}
use Rattle.lists.specs.declared.write.Kind.{Kind}
use Rattle.lists.specs.declared.write.Kind.TheVariants as K
use Rattle.lists.proofs.ValidLaws.{fine_valid, valid_fine}

-- ---- the judge

-- the number of an invalid entry is neither of the others
pub invalid_high : (kind : Kind) → 5 < invalid_of kind
invalid_high K.Filters = omega arith
invalid_high K.Alts = omega arith

module _ (kind : Kind) (t : List ℕ) where
  judged_broken : chars_of t ≡ none → JudgedAs kind t (says 5 [])
  judged_broken q =
      record {
        broken = (λ e cs k. no cs k, λ n. refl);
        fine = (λ e. absurd (let z = ap number_of e in omega arith), λ v. absurd (no v.1.0 v.1.1.are));
        other = λ n m. absurd (n refl);
      }
    where
      no : (cs : List (List ℕ)) → Characters t cs → ⊥
      no cs k = let e = sym q ∙ cuts.only t cs k in let z : ◌≡◌ {A = ℕ} 0 1 = cc in omega arith

  -- the text's characters are these and no others
  module _ (cs : List (List ℕ)) (q : chars_of t ≡ some cs) where
    unspaced : any_space cs ≡ false → Unspaced t cs
    unspaced e = record { are = cuts.is t cs q; none = each_free cs e }

    spaceless : (ds : List (List ℕ)) → Unspaced t ds → any_space cs ≡ false
    spaceless ds u =
        let e = sym q ∙ cuts.only t ds u.are in
        let f : ds ≡ cs = cc in
        rw f at (free_each ds u.none)

    judged_chars : (b : Bool) → (not (any_space cs) && fine kind t) ≡ b → JudgedAs kind t (pick b (says 0 []) (says (invalid_of kind) []))
    judged_chars true e =
        let p = (and-eq-true_iff (not (any_space cs)) (fine kind t)).0 e in
        record {
          broken = (λ f. absurd (let z = ap number_of f in omega arith), λ n. absurd (n cs (cuts.is t cs q)));
          fine = (λ f. (fine_valid kind t p.1, (cs, unspaced (not-true _ p.0))), λ v. refl);
          other = λ n m. absurd (m refl);
        }
    judged_chars false e =
        let h = invalid_high kind in
        record {
          broken = (λ f. absurd (let z = ap number_of f in omega arith), λ n. absurd (n cs (cuts.is t cs q)));
          fine = (λ f. absurd (let z = ap number_of f in omega arith), λ v. absurd (false≢true (sym e ∙ rw (spaceless v.1.0 v.1.1) (valid_fine kind t v.0))));
          other = λ n m. refl;
        }

judged : (kind : Kind) (t : List ℕ) (o : Option (List (List ℕ))) → chars_of t ≡ o → JudgedAs kind t (chars_answer kind t o)
unfolding chars_answer
judged kind t none q = judged_broken kind t q
judged kind t (some cs) q = judged_chars kind t cs q (not (any_space cs) && fine kind t) refl

pub judges : Judges entry_answer
unfolding Judges entry_answer
judges kind t = judged kind t (chars_of t) refl

-- ---- the written text

pub dot_free : (kind : Kind) → Free (separator_of kind) (46 ∷ [])
dot_free K.Filters = free_cons (λ e. omega arith) free_nil
dot_free K.Alts = free_cons (λ e. omega arith) free_nil

-- entries free of the separator, that are not a single `.`, joined are none
pub joined_not_dot : (kind : Kind) (es : List (List ℕ)) → split (separator_of kind) (joined (separator_of kind) es) ≡ es → (es ≡ (46 ∷ []) ∷ [] → ⊥)
    → joined (separator_of kind) es ≡ 46 ∷ [] → ⊥
joined_not_dot kind es s n e = n (sym s ∙ ap (split (separator_of kind)) e ∙ split_whole (46 ∷ []) (dot_free kind))

-- they come back
comes_back : (kind : Kind) (es : List (List ℕ)) → ((i : ℕ) → i < length es → Free (separator_of kind) (get_or es i [])) → (es ≡ (46 ∷ []) ∷ [] → ⊥)
    → entries_of kind (list_text kind es) ≡ es
unfolding entries_of list_text
comes_back kind [] h n = rw (same_self (46 ∷ []))
comes_back kind (e ∷ es) h n =
    let s = split_back (separator_of kind) (e ∷ es) (omega arith) h in
    rw (same_not _ (46 ∷ []) (joined_not_dot kind (e ∷ es) s n)) s

-- valid filters are not a single `.`
pub no_dot : (es : List (List ℕ)) → ((i : ℕ) → i < length es → FilterValid (get_or es i [])) → es ≡ (46 ∷ []) ∷ [] → ⊥
no_dot es h e = (h 0 (let z = ap length e in omega arith)).not_dot (ap (λ (l : List (List ℕ)). get_or l 0 []) e)

pub gives_back : GivesBack list_text
gives_back =
    record {
      filters = λ es h. comes_back K.Filters es (λ i l. (h i l).no_semicolon) (no_dot es h);
      alts = λ es h n. comes_back K.Alts es (λ i l. (h i l).no_comma) n;
    }
