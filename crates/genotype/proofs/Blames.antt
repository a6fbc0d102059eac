-- A text with a byte at fault: the bytes before it go on as the decimal that they begin, and mean a list; with it, whatever follows,
-- the same piece is still no allele. Assumes nothing.
use Prim.Native.Nat.{ℕ, suc, ◌+◌, ◌≤◌, ◌<◌}
use mathlib.Core.Path.{◌≡◌, refl, sym, ap, ◌∙◌}
use mathlib.Core.Bool.{Bool, true, false}
use mathlib.Core.List.{List, [], ◌∷◌, ◌++◌, append_assoc, append-nil}
use native.Mathlib.Omega.{arith}
use native.Mathlib.Decide.{dec_lt}
use lib.ListN.{length, get_or, take, length-append, get_or-append}
use lib.Seq.{length-take-le, take-append-le, take-append-add, get_or-append-add}
use Rattle.decimal.specs.Demands.{Begun, FaultAt}
use Rattle.allele.specs.Reading.{head_of}
use Rattle.allele.specs.Means.{mark_byte, Body, dot, number, Later, none, more, all_phased, marked, bare, Ends, at_end, at_mark, Bad, BrokenLater, bad_here, bad_later, Broken, bad_marked, bad_bare, bad_after}
use Rattle.allele.specs.declared.allele.Allele.{Allele}
use Rattle.allele.proofs.BodyLaws.{bodied_body, phased_body, body_none}
use Rattle.allele.proofs.CutLaws.{quiet_append, quiet_take, quiet_head}
use Rattle.allele.proofs.BrokenLaws.{behind, head_ends, head_whole, bad_quiet, quiet_bad}
use Rattle.allele.proofs.MeansOrBroken.{means_or_broken}
use Rattle.genotype.specs.Demands.{reader, Refusals, Meant, Blames}
use Rattle.genotype.proofs.Refusals.{refusals}

-- ---- up to the byte at fault

-- the decimal that the bytes before the fault begin, as an allele
record BodyBegun (p : Bool) (x : List ℕ) : Type 0 where
  rest : List ℕ
  allele : Allele
  body : Body (x ++ rest) allele
  phasing : allele.phased ≡ p

bad_begun : (p : Bool) {t rest : List ℕ} {o : ℕ} → Bad t rest o → BodyBegun p (take o (t ++ rest))
bad_begun p {t} {rest} {o} g =
    let b = g.fault.before in
    rw (take-append-le o t rest g.fault.within)
    (record { rest = b.rest; allele = record { number = b.read.value; missing = false; phased = p }; body = number b.read.is; phasing = refl })

-- these bytes, at least one, begin alleles with their marks
record LaterBegun (x : List ℕ) : Type 0 where
  some : 0 < length x
  rest : List ℕ
  list : List Allele
  is : Later (x ++ rest) list

later_begun : {t : List ℕ} {k o : ℕ} → BrokenLater t k o → LaterBegun (take o t)
later_begun (bad_here {b} {t} {rest} {o} p m g) =
    let c = bad_begun p g in
    let q : b ≡ mark_byte c.allele.phased = rw c.phasing m in
    let z : 1 + o ≡ suc o = omega arith in
    rw z (record { some = omega arith; rest = c.rest; list = c.allele ∷ []; is = rw append-nil at (more q c.body none) })
later_begun (bad_later {b} {t} {rest} {a} {k} {o} m c l) =
    let g = later_begun l in
    rw (take-append-add (b ∷ t) rest o)
    (record { some = omega arith; rest = g.rest; list = a ∷ g.list; is = rw (append_assoc (b ∷ t) (take o rest) g.rest) (more m c g.is) })

later_means : {x : List ℕ} {as' : List Allele} → Later x as' → 0 < length x → Meant x
later_means none h = absurd (omega arith)
later_means (more m c l) h = record { list = _; means = marked m c l }

broken_begun : {t : List ℕ} {k o : ℕ} → Broken t k o → Begun Meant (take o t)
broken_begun (bad_marked l) =
    let g = later_begun l in
    let s = g.some in
    record { rest = g.rest; read = later_means g.is (rw length-append (omega arith)) }
broken_begun (bad_bare h g) =
    let c = bad_begun (all_phased []) g in
    record { rest = c.rest; read = record { list = c.allele ∷ []; means = rw append-nil at (bare c.phasing c.body none) } }
broken_begun (bad_after {t} {rest} {k = k} {o} c l) =
    let g = later_begun l in
    let f = phased_body (all_phased g.list) c in
    let p = bodied_body (all_phased g.list) t f.allele f.reads in
    rw (take-append-add t rest o)
    (record { rest = g.rest; read = record { list = f.allele ∷ g.list; means = rw (append_assoc t (take o rest) g.rest) (bare p.phasing p.body g.is) } })

-- ---- with the byte at fault

-- a piece cut behind its byte at fault, with u behind it, is still no allele
record Cut (t rest : List ℕ) (o : ℕ) (u : List ℕ) : Type 0 where
  body : List ℕ
  left : List ℕ
  fault : ℕ
  same : take (o + 1) (t ++ rest) ++ u ≡ body ++ left
  bad : Bad body left fault
  some : 0 < length t → 0 < length body

-- a body that begins with bytes of which one is at fault could only be a `.`
no_body : {t rest : List ℕ} {o : ℕ} → Bad t rest o → o < length t → (get_or t o 0 ≡ 46 → ⊥) → (v : List ℕ) (x : List ℕ) (a : Allele) → Body x a
    → x ≡ take (o + 1) t ++ v → ⊥
no_body {t} {rest} {o} g h n v x a dot e =
    let l = ap length e in
    let w = length-append (take (o + 1) t) v in
    let k = length-take-le (o + 1) t (omega arith) in
    first t o (omega arith) h n e
  where
    first : (t : List ℕ) (o : ℕ) → o ≡ 0 → o < length t → (get_or t o 0 ≡ 46 → ⊥) → 46 ∷ [] ≡ take (o + 1) t ++ v → ⊥
    first [] o z h n e = absurd (omega arith)
    first (b ∷ t) o z h n e = let f = rw z at e in n (rw z (sym cc))
no_body {t} {rest} {o} g h n v x a (number {n = m} d) e = g.fault.there h (record { rest = v; read = record { value = m; is = rw e at d } })

-- in the piece, and the piece then goes on in u
cut_in : {t rest : List ℕ} {o : ℕ} → Bad t rest o → o < length t → (get_or t o 0 ≡ 46 → ⊥) → (u : List ℕ) → Cut t rest o u
cut_in {t} {rest} {o} g h n u =
    let b : List ℕ = take (o + 1) t ++ head_of u in
    let k = length-take-le (o + 1) t (omega arith) in
    let w = length-append (take (o + 1) t) (head_of u) in
    record {
      body = b;
      left = behind u;
      fault = _;
      same = rw (take-append-le (o + 1) t rest (omega arith), append_assoc (take (o + 1) t) (head_of u) (behind u), head_whole u);
      bad = quiet_bad true b (quiet_append (quiet_take (o + 1) (bad_quiet g)) (quiet_head u)) (head_ends u) (body_none true b (λ a c. no_body g h n (head_of u) b a c refl));
      some = λ l. omega arith;
    }

-- or the mark behind it, and the piece is the same
cut_end : (t : List ℕ) {rest : List ℕ} {o : ℕ} → Bad t rest o → length t ≤ o → o < length (t ++ rest) → (u : List ℕ) → Ends rest → Cut t rest o u
cut_end t g l h u at_end = let w = rw append-nil at h in absurd (omega arith)
cut_end t {o = o} g l h u (at_mark {b} {rest} p m) =
    let z : o ≡ length t = omega (arith, g.fault.within) in
    let e : take (o + 1) (t ++ b ∷ rest) ≡ t ++ b ∷ [] = rw z (take-append-add t (b ∷ rest) 1) in
    record {
      body = t;
      left = b ∷ u;
      fault = o;
      same = rw (e, append_assoc t (b ∷ []) u);
      bad = record { no_bar = g.no_bar; no_slash = g.no_slash; ends = at_mark p m; no_body = g.no_body; fault = g.fault };
      some = λ i. i;
    }

cut : {t rest : List ℕ} {o : ℕ} → Bad t rest o → o < length (t ++ rest) → (get_or (t ++ rest) o 0 ≡ 46 → ⊥) → (u : List ℕ) → Cut t rest o u
cut {t} {rest} {o} g h n u =
    elim (dec_lt o (length t)) [
      | yes l ↦ cut_in g l (λ z. n (get_or-append t rest 0 o l ∙ z)) u
      | no l ↦ cut_end t g (omega arith) h u g.ends
    ]

-- so the text cut there, with u behind it, is broken at the same piece
record StillLater (x : List ℕ) (k : ℕ) : Type 0 where
  fault : ℕ
  is : BrokenLater x k fault

later_still : {t : List ℕ} {k o : ℕ} → BrokenLater t k o → o < length t → (get_or t o 0 ≡ 46 → ⊥) → (u : List ℕ) → StillLater (take (o + 1) t ++ u) k
later_still (bad_here {b} {t} {rest} {o} p m g) h n u =
    let z : 1 + o ≡ suc o = omega arith in
    let y : suc o + 1 ≡ suc (o + 1) = omega arith in
    let c = cut g (omega arith) (rw z at n) u in
    rw (z, y, c.same) (record { fault = _; is = bad_here p m c.bad })
later_still (bad_later {b} {t} {rest} {a} {k} {o} m c l) h n u =
    let w = length-append (b ∷ t) rest in
    let z : length (b ∷ t) + o + 1 ≡ length (b ∷ t) + (o + 1) = omega arith in
    let g = later_still l (omega arith) (rw (get_or-append-add (b ∷ t) rest o 0) at n) u in
    rw (z, take-append-add (b ∷ t) rest (o + 1), append_assoc (b ∷ t) (take (o + 1) rest) u) (record { fault = _; is = bad_later m c g.is })

record Still (x : List ℕ) (k : ℕ) : Type 0 where
  fault : ℕ
  is : Broken x k fault

broken_still : {t : List ℕ} {k o : ℕ} → Broken t k o → o < length t → (get_or t o 0 ≡ 46 → ⊥) → (u : List ℕ) → Still (take (o + 1) t ++ u) k
broken_still (bad_marked l) h n u = let g = later_still l h n u in record { fault = _; is = bad_marked g.is }
broken_still (bad_bare {t} {rest} {o} i g) h n u = let c = cut g h n u in rw c.same (record { fault = _; is = bad_bare (c.some i) c.bad })
broken_still (bad_after {t} {rest} {a} {k} {o} c l) h n u =
    let w = length-append t rest in
    let z : length t + o + 1 ≡ length t + (o + 1) = omega arith in
    let g = later_still l (omega arith) (rw (get_or-append-add t rest o 0) at n) u in
    rw (z, take-append-add t rest (o + 1), append_assoc t (take (o + 1) rest) u) (record { fault = _; is = bad_after c g.is })

-- ---- the first fault

later_within : {t : List ℕ} {k o : ℕ} → BrokenLater t k o → o ≤ length t
later_within (bad_here {b} {t} {rest} p m g) = let w = length-append t rest in omega (arith, g.fault.within)
later_within (bad_later {b} {t} {rest} m c l) = let w = length-append t rest in omega (arith, later_within l)

broken_within : {t : List ℕ} {k o : ℕ} → Broken t k o → o ≤ length t
broken_within (bad_marked l) = later_within l
broken_within (bad_bare {t} {rest} h g) = let w = length-append t rest in omega (arith, g.fault.within)
broken_within (bad_after {t} {rest} c l) = let w = length-append t rest in omega (arith, later_within l)

broken_blames : (t : List ℕ) (k o : ℕ) → Broken t k o → (get_or t o 0 ≡ 46 → ⊥) → FaultAt Meant t o
broken_blames t k o g n =
    record {
      within = broken_within g;
      before = broken_begun g;
      there = λ h b. (let s = broken_still g h n b.rest in means_or_broken.never_both _ b.read.list k s.fault b.read.means s.is);
    }

pub blames : Blames reader
unfolding Blames Refusals
blames t row k o e n = broken_blames t k o (((refusals t row).broken k o).0 e) n
