-- Which books stand together, by what was kept of them.
use Rattle.std.specs.Prelude.{◌≡◌, ℕ, Bool, true, false, not, ◌&&◌, ◌||◌, List, [], ◌∷◌, bytes_eq, Option, Some, None}
use Rattle.std.specs.List.{list_any, AllByRecursion}
use Rattle.std.specs.List.Sorted.{IsPermutation, IsSortedBy}
use Rattle.std.specs.Ordering.{nat_cmp, is_lt}
use Rattle.std.specs.Cmp.Lexicographic.{slice_cmp}
use Rattle.audit_model.specs.declared.sums.VendorSums.{VendorSums}
use Rattle.audit_model.specs.declared.sold.Sold.{Sold}
use Rattle.audit_sums.specs.declared.audit_sums.BookSums.{BookSums}
use Rattle.audit_sums.specs.Learned.{name_of}
use Rattle.audit_search.specs.Checks.{is_desk}

-- the one element of a list that has one
abbrev pub only : {X : Type 0} → List X → Option X
only (x ∷ []) = Some x
only _ = None

-- whether a vendor's book of a name stands among some
abbrev pub is_vendor_named : List ℕ → BookSums → Bool
is_vendor_named name s = not (is_desk s) && bytes_eq name (name_of s)

abbrev pub has_vendor : List BookSums → List ℕ → Bool
has_vendor books name = list_any (is_vendor_named name) books

-- whether the names of the vendors differ
abbrev pub own_names : List BookSums → Bool
own_names [] = true
own_names (s ∷ ss) = (is_desk s || not (has_vendor ss (name_of s))) && own_names ss

-- whether a name comes before another by its bytes
abbrev pub comes_before : List ℕ → List ℕ → Bool
comes_before a b = is_lt (slice_cmp nat_cmp a b)

-- the least name of a vendor that some sales are of and that is lacking
pub record IsLeast (has : List ℕ → Bool) (sales : List Sold) (name : List ℕ) : Type 0 where
  pub sold : list_any (λ s. bytes_eq s.vendor name) sales ≡ true
  pub lacking : has name ≡ false
  pub least : AllByRecursion (λ s. has s.vendor ≡ false → comes_before s.vendor name ≡ false) sales

-- no name is lacking
abbrev pub HasAll : (List ℕ → Bool) → List Sold → Type 0
HasAll has sales = AllByRecursion (λ s. has s.vendor ≡ true) sales

-- ---- the order of a report

abbrev pub by_name : VendorSums → VendorSums → Bool
by_name a b = comes_before a.name b.name

-- the sums of vendors in the order of their names
pub record AreInOrder (rows ordered : List VendorSums) : Type 0 where
  pub same : IsPermutation rows ordered
  pub order : IsSortedBy by_name ordered
