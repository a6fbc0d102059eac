-- Which lists have a vector: what passes the writer's tests is coded, and what is coded passes them. Assumes nothing.
use Prim.Native.Nat.{ℕ, zero, suc, ◌+◌, ◌-◌, ◌≤◌, zero-le}
use mathlib.Core.Path.{◌≡◌, refl, sym, ◌∙◌}
use mathlib.Core.Bool.{Bool, true, false}
use mathlib.Core.List.{List, [], ◌∷◌, ◌++◌, map}
use mathlib.Core.Option.{none}
use native.Mathlib.Omega.{arith}
use lib.ListN.{length, replicate, length-append, length-map, length-replicate}
use borrow.Author.Tests.{eq-eqb, eqb-true}
use Rattle.allele.specs.Row.{is_sound, first_unsound}
use Rattle.allele.specs.declared.allele.Allele.{Allele}
use Rattle.allele.proofs.RowLaws.{sound_missing, sound_there, unsound_none, unsound_more, sound_parts, none_unsound, sound_first}
use Rattle.bcf.specs.Layout.{padding, largest, code_of, Coded, end, pad, code, Lays}
use Rattle.bcf.specs.declared.width.Width.{Width}
use Rattle.bcf.specs.Writing.{entries_for, vector_of, most_of}
use Rattle.bcf.specs.Demands.{HasVector, Vectors, Wider}
use Rattle.bcf.proofs.CodeLaws.{wider_holds}
use Rattle.bcf.proofs.MostLaws.{most_first, most_rest, at_most, most_at}

-- ---- what passes is coded

sound_of : (a : Allele) → is_sound a ≡ true → a.missing ≡ true → a.number ≡ 0
sound_of a h e = eqb-true a.number 0 (sound_missing a e ∙ h)

of_sound : (a : Allele) → (a.missing ≡ true → a.number ≡ 0) → is_sound a ≡ true
of_sound a s = by a.missing refl
  where
    by : (t : Bool) → a.missing ≡ t → is_sound a ≡ true
    by true e = sym (sound_missing a e) ∙ eq-eqb a.number 0 (s e)
    by false e = sym (sound_there a e)

module _ (w : Width) where
  pads_coded : (d : ℕ) → Coded w [] (replicate d (padding w))
  pads_coded zero = end
  pads_coded (suc d) = pad (pads_coded d)

  passes_coded : (k d : ℕ) (as' : List Allele) → first_unsound k as' ≡ none → most_of as' ≤ largest w → Coded w as' (map code_of as' ++ replicate d (padding w))
  passes_coded k d [] e h = pads_coded d
  passes_coded k d (a ∷ as') e h =
      let s = sound_parts k a as' e in
      let f = most_first a as' in
      let r = most_rest a as' in
      code (record { sound = sound_of a s.0; small = omega arith }) (passes_coded (k + 1) d as' s.1 (omega arith))

  pub vector_lays : (as' : List Allele) (n : ℕ) → HasVector w as' n → Lays w as' n (vector_of w n as')
  unfolding vector_of entries_for
  vector_lays as' n h =
      let pads : List ℕ = replicate (n - length as') (padding w) in
      let f = h.few in
      let x : length (map code_of as') ≡ length as' = length-map as' code_of in
      let y : length pads ≡ n - length as' = length-replicate (n - length as') (padding w) in
      record {
        some = h.some;
        entries = entries_for w n as';
        count = length-append (map code_of as') pads ∙ omega arith;
        coded = passes_coded 0 (n - length as') as' (sound_first as' h.sound) (most_at (largest w) as' h.small);
        bytes = refl;
      }

-- ---- and what is coded passes

coded_sound : {w : Width} {as' : List Allele} {es : List ℕ} (k : ℕ) → Coded w as' es → first_unsound k as' ≡ none
coded_sound k end = unsound_none k
coded_sound k (pad c) = unsound_none k
coded_sound k (code {a = a} {as' = as'} g c) = unsound_more k a as' (of_sound a g.sound) ∙ coded_sound (k + 1) c

coded_most : {w : Width} {as' : List Allele} {es : List ℕ} → Coded w as' es → most_of as' ≤ largest w
unfolding most_of
coded_most end = zero-le
coded_most (pad c) = zero-le
coded_most (code g c) = let f = g.small in let r = coded_most c in omega arith

pub coded_few : {w : Width} {as' : List Allele} {es : List ℕ} → Coded w as' es → length as' ≤ length es
coded_few end = zero-le
coded_few (pad c) = zero-le
coded_few (code g c) = let h = coded_few c in omega arith

pub lays_has : {w : Width} {as' : List Allele} {n : ℕ} {v : List ℕ} → Lays w as' n v → HasVector w as' n
lays_has {w} {as'} {n} l =
    record {
      some = l.some;
      sound = none_unsound as' (coded_sound 0 l.coded);
      small = at_most (largest w) as' (coded_most l.coded);
      few = let f = coded_few l.coded in let c = l.count in omega arith;
    }

pub vectors : Vectors
unfolding Vectors
vectors w as' n = (λ r. lays_has r.1, λ h. (vector_of w n as', vector_lays w as' n h))

pub wider : Wider
unfolding Wider Vectors
wider u w as' n v h l =
    let g = lays_has l in
    let m = wider_holds u w h in
    let s = most_at (largest u) as' g.small in
    (vectors w as' n).1 (record { some = g.some; sound = g.sound; small = at_most (largest w) as' (omega arith); few = g.few })
