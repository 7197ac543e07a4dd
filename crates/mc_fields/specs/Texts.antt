-- Texts of a kind and numbers, as lists of bytes.
use Rattle.std.specs.Prelude.{◌≡◌, ℕ, ◌<◌, ◌≤◌, ◌&&◌, nat_le, Bool, true, List, [], ◌∷◌, length, slice_index}
use Rattle.std.specs.List.{AllPass, list_all}

-- so many bytes, each of which passes the one test, and the first of which passes the other too
pub record IsText (first other : ℕ → Bool) (least most : ℕ) (bytes : List ℕ) : Type 0 where
  pub some : least ≤ length bytes
  pub short : length bytes ≤ most
  pub begins : 0 < length bytes → first (slice_index bytes 0) ≡ true
  pub all : AllPass other bytes

abbrev pub begins : (ℕ → Bool) → List ℕ → Bool
begins first [] = true
begins first (c ∷ cs) = first c

-- the test of a text
unfoldable pub is_text : (ℕ → Bool) → (ℕ → Bool) → ℕ → ℕ → List ℕ → Bool
is_text first other least most bytes = nat_le least (length bytes) && (nat_le (length bytes) most && (begins first bytes && list_all other bytes))

-- a number from 1 to the most
pub record IsNumber (most n : ℕ) : Type 0 where
  pub some : 0 < n
  pub within : n ≤ most
