-- What is written means the list: a permitted spelling of numbers that fit means its list, and what was laid over the output is
-- found there. Assumes nothing.
use Prim.Native.Nat.{ℕ, ◌≤◌}
use mathlib.Core.Path.{◌≡◌, refl, ap}
use mathlib.Core.Bool.{Bool, true, false}
use mathlib.Core.List.{List, [], ◌∷◌}
use Rattle.text.specs.Answer.{number_of}
use Rattle.text.proofs.OutcomeLaws.{was_written, written_is, written_taken}
use Rattle.decimal.specs.Demands as D
use Rattle.decimal.specs.Demands.{Plain}
use Rattle.allele.specs.Means as M
use Rattle.allele.specs.Means.{Body, Later, Means}
use Rattle.allele.specs.declared.allele.Allele.{Allele}
use Rattle.genotype.proofs.MostLaws.{most_first, most_rest}
use Rattle.spelling.specs.Permitted.{Plainly, dot, number, Following, none, more, Permitted, bare, marked}
use Rattle.spelling.specs.Demands.{Writer, writer, WritesShortest, Meets, Fitting, RoundTrip, Follow}
use Rattle.spelling.proofs.Exact.{meets, exactly}
use Rattle.spelling.proofs.Shortest.{as_written}

-- ---- a permitted spelling means its list

dot_body : (n : ℕ) (m p : Bool) → m ≡ true → n ≡ 0 → Body (46 ∷ []) (record { number = n; missing = m; phased = p })
dot_body n m p e z = rw (e, z) M.dot

number_body : (n : ℕ) (m p : Bool) {s : List ℕ} → m ≡ false → n ≤ 18446744073709551615 → Plain s n → Body s (record { number = n; missing = m; phased = p })
number_body n m p e h g = rw e (M.number (D.bare g.spelled h))

plainly_body : {a : Allele} {s : List ℕ} → a.number ≤ 18446744073709551615 → Plainly a s → Body s a
plainly_body {a} h (dot m n) = dot_body a.number a.missing a.phased m n
plainly_body {a} h (number m p) = number_body a.number a.missing a.phased m h p

following_later : {as' : List Allele} {t : List ℕ} → Fitting as' → Following as' t → Later t as'
following_later f none = M.none
following_later f (more m p l) = M.more m (plainly_body (most_first f) p) (following_later (most_rest f) l)

pub permitted_means : {late : Bool} {as' : List Allele} {t : List ℕ} → Fitting as' → Permitted late as' t → Means t as'
permitted_means f (bare e p l) = M.bare e (plainly_body (most_first f) p) (following_later (most_rest f) l)
permitted_means f (marked e m p l) = M.marked m (plainly_body (most_first f) p) (following_later (most_rest f) l)

-- ---- what is written means the list

-- of any writer
trips : (write : Writer) → Meets write → RoundTrip write
unfolding RoundTrip WritesShortest
trips write m major minor as' out at n f e =
    let w = as_written (m.writes_shortest major minor as' out at (ap number_of e)) in
    permitted_means f (written_is w (written_taken (was_written w) e refl)).has

pub round_trip : RoundTrip writer
round_trip = trips writer meets

pub follow : Follow
unfolding Follow
follow write m = (exactly write m, trips write m)
