-- ALT as it stands and as `field` gives it counts the same: they are one text, or `.` and empty, which both count none. Assumes nothing.
use Prim.Native.Nat.{ℕ}
use mathlib.Core.Path.{◌≡◌, refl, sym, ◌∙◌}
use mathlib.Core.Bool.{Bool, true, false}
use mathlib.Core.List.{List, [], ◌∷◌}
use mathlib.Core.Option.{Option, some, none}
use native.Mathlib.Omega.{arith}
use Rattle.std.specs.Prelude.{Result}
use Rattle.std.specs.Prelude as O
use Rattle.text.specs.declared.range.Range.{Range}
use Rattle.text.specs.Pick.{pick}
use Rattle.text.specs.Same.{same}
use Rattle.text.proofs.SameLaws.{same_is}
use Rattle.record.specs.declared.place.Name.TheVariants as N
use Rattle.lists.specs.AlternateBases.{alt_count}
use Rattle.lists.proofs.Counts.{counts}
use Rattle.fields.specs.Fields.{read_text}
use Rattle.fields.specs.Demands.{HasCount, AltCounted}
use Rattle.fields.specs.declared.field.Beyond.{Beyond}
use Rattle.fields.proofs.RecordLaws.{Tells, tells_at, tells_absent, field_tells}
use Rattle.fields.proofs.Demands.{read_recorded}

-- what ALT reads as, which is never nothing
counts_read : (c : List ℕ) (o : Option (List ℕ)) → read_text N.Alt c ≡ o → (t : List ℕ) × ((o ≡ some t) × (alt_count t ≡ alt_count c))
counts_read c o e = by (same c (46 ∷ [])) refl e
  where
    by : (d : Bool) → same c (46 ∷ []) ≡ d → pick d (some []) (some c) ≡ o → (t : List ℕ) × ((o ≡ some t) × (alt_count t ≡ alt_count c))
    by true d q = ([], (sym q, counts.empty ∙ sym counts.dot ∙ rw (same_is c (46 ∷ []) d)))
    by false d q = (c, (sym q, refl))

tells_count : {s c : List ℕ} (x : Result (O.Option Range) Beyond) → Tells s N.Alt c x → HasCount s x (alt_count c)
tells_count {s} {c} x (tells_at {x = range} {t = t} q l) =
    let r = counts_read c (some t) q in
    let e : t ≡ r.0 = cc in
    record { range = range; at = refl; same = rw (l.text, e) r.1.1 }
tells_count {s} {c} x (tells_absent q) = let r = (counts_read c none q).1.0 in absurd (let z : ◌≡◌ {A = ℕ} 0 1 = cc in omega arith)

pub alt_counted : AltCounted
unfolding AltCounted
alt_counted s at r cs m x h =
    let g = read_recorded s at m.next r m.read in
    rw (g.only cs m.ending m.rest m.begin) (tells_count x (field_tells g N.Alt x h))
