-- One sample's genotype as a vector of integers, over the width of an entry (docs/RULES.md, "Genotypes in BCF"). Assumes nothing.
use Rattle.std.specs.Prelude.{ℕ, zero, suc, ◌+◌, ◌*◌, ◌/◌, ◌%◌, ◌≤◌, ◌<◌, ◌≡◌, true, List, [], ◌∷◌, ◌++◌, length}
use Rattle.text.specs.Pick.{pick, one_if}
use Rattle.allele.specs.declared.allele.Allele.{Allele}
use Rattle.bcf.specs.declared.width.Width.{Width}
use Rattle.bcf.specs.declared.width.Width.TheVariants.{W8, W16, W32}

-- ---- the widths

-- how many bytes an entry has
unfoldable pub size : Width → ℕ
size W8 = 1
size W16 = 2
size W32 = 4

-- 81, 8001 and 80000001 hex
unfoldable pub padding : Width → ℕ
padding W8 = 129
padding W16 = 32769
padding W32 = 2147483649

-- the largest allele
unfoldable pub largest : Width → ℕ
largest W8 = 62
largest W16 = 16382
largest W32 = 1073741822

-- ---- an entry

-- the number + 1, and 0 in its place for a missing allele; shifted left once, the low bit 1 for phased
unfoldable pub code_of : Allele → ℕ
code_of a = 2 * pick a.missing 0 (a.number + 1) + one_if a.phased

-- so many bytes of a number, the lowest first
unfoldable pub little_of : ℕ → ℕ → List ℕ
little_of zero c = []
little_of (suc k) c = c % 256 ∷ little_of k (c / 256)

-- entries, one after the other
unfoldable pub bytes_of : Width → List ℕ → List ℕ
bytes_of w [] = []
bytes_of w (e ∷ es) = little_of (size w) e ++ bytes_of w es

-- ---- a vector

-- a missing allele has the number 0, and none is above the largest
pub record Codable (w : Width) (a : Allele) : Type 0 where
  pub sound : a.missing ≡ true → a.number ≡ 0
  pub small : a.number ≤ largest w

-- entries: the codes of a list's alleles, and then padding
pub data Coded (w : Width) : List Allele → List ℕ → Type 0 where
  end : Coded w [] []
  pad : {es : List ℕ} → Coded w [] es → Coded w [] (padding w ∷ es)
  code : {a : Allele} {as' : List Allele} {es : List ℕ} → Codable w a → Coded w as' es → Coded w (a ∷ as') (code_of a ∷ es)

-- the bytes v are a vector of n entries that lays out the list, which is not empty
pub record Lays (w : Width) (as' : List Allele) (n : ℕ) (v : List ℕ) : Type 0 where
  pub some : 0 < length as'
  pub entries : List ℕ
  pub count : length entries ≡ n
  pub coded : Coded w as' entries
  pub bytes : v ≡ bytes_of w entries
