-- What functions answer, by what those that they call answered.
use Rattle.std.proofs.Common.{◌≡◌, ℕ, ◌+◌, ◌<◌, Bool, true, false, List, [], ◌∷◌, ◌++◌, length, take, drop, get_or, sum_by, Some, Result, Ok, Err, IfOk, refl, sym, ap, ap₂, ◌∙◌, subst}
use Rattle.std.proofs.lemmas.Option.{slice_get-get_or}
use Rattle.std.specs.Borrow.{Bor}
use denote.Param.Members.{Mut}
use Rattle.std.specs.Fn.{Called, ComparesAs}
use Rattle.std.specs.Cmp.{IsStrictWeakOrder}
use Rattle.std.specs.Cmp.Lexicographic.{slice_cmp, nat_list_cmp_total}
use Rattle.std.specs.Ordering.{nat_cmp, is_lt}
use Rattle.std.specs.declared.cmp.Ordering.{Ordering}
use Rattle.std.specs.List.Sorted.{IsSortedBy}
use Rattle.std.proofs.lemmas.Fn.{always_returns_same}
use Rattle.std.proofs.lemmas.List.MinMax.{ranks_by}
use Rattle.audit_model.specs.declared.sums.Report.{Report}
use Rattle.audit_model.specs.declared.sums.VendorSums.{VendorSums}
use Rattle.audit_model.specs.declared.part.Part.{Part}
use Rattle.audit_sums.specs.declared.rows.Acceptance.{Acceptance}
use Rattle.audit_sums.specs.declared.audit_sums.BookSums.{BookSums}
use Rattle.audit_sums.specs.Learned.{time_of, accepted_of, stock_rows_of, sales_of}
use Rattle.audit_search.specs.declared.shop.Shop.{Shop}
use Rattle.audit_search.specs.declared.spent.Left.{Left}
use Rattle.audit_search.specs.declared.fault.BooksFault.{BooksFault}
use Rattle.audit_search.specs.declared.fault.BooksFault.TheVariants as faults
use Rattle.audit_search.specs.declared.check.CheckFault.{CheckFault}
use Rattle.audit_search.specs.declared.check.CheckFault.TheVariants as checks
use Rattle.audit_search.specs.Known.{has_id, was_accepted, out_at, gone_at}
use Rattle.audit_search.specs.Shops.{IsShopOf}
use Rattle.audit_search.specs.Checks.{is_desk, left_at, ChecksBook, fault_at, first_over}
use Rattle.audit_search.specs.Markets.{has_vendor, HasAll, by_name}
use Rattle.audit_search.specs.Filed.{HaveStocked, HaveSold}
use Rattle.audit_search.specs.Findings.{vendors_among, AreShopsOf, FindsTotals, IsMarketOf, Finds}
use Rattle.audit_search.specs.Audit.{NamesBook}
use Rattle.audit_search.proofs.Ties.{sums_alike}
use Rattle.audit_search.proofs.TotalLaws.{vendors_same, vendors_next, shops_more, search_ends}

pub if_ok : {A E : Type 0} (P Q : A → Type 0) (r : Result A E) → ((x : A) → P x → Q x) → IfOk r P → IfOk r Q
if_ok P Q (Ok x) so said = so x said
if_ok P Q (Err e) so said = said

pub left_from : (s : BookSums) (handed : List Part) (rows : List Acceptance) (ids : List ℕ) (t : ℕ) (l : Left) → rows ≡ accepted_of s → t ≡ time_of s → ((id : ℕ) → has_id ids id ≡ was_accepted rows id)
    → (l.outstanding ≡ sum_by (out_at (has_id ids) t) handed) × (l.lapsed ≡ sum_by (gone_at (has_id ids) t) handed) → l ≡ left_at handed s
left_from s handed rows ids t l rows_are now spent is =
    ap₂ (λ (a b : ℕ). left a b)
    (is.0 ∙ sums_alike (out_at (has_id ids) t) (out_at (was_accepted (accepted_of s)) (time_of s)) (λ p. rw now (ap (λ (b : Bool). out_at (λ id. b) (time_of s) p) (same p.id))) handed)
    (is.1 ∙ sums_alike (gone_at (has_id ids) t) (gone_at (was_accepted (accepted_of s)) (time_of s)) (λ p. rw now (ap (λ (b : Bool). gone_at (λ id. b) (time_of s) p) (same p.id))) handed)
  where
    left : ℕ → ℕ → Left
    left a b = record { outstanding = a; lapsed = b }

    same : (id : ℕ) → has_id ids id ≡ was_accepted (accepted_of s) id
    same id = spent id ∙ ap (λ (r : List Acceptance). was_accepted r id) rows_are

pub shops_same : (b : BookSums) (books : List BookSums) (i : ℕ) (v : BookSums) (shops : List Shop) → i < length books → v ≡ get_or books i v → is_desk v ≡ true
    → AreShopsOf b (vendors_among (take i books)) shops → AreShopsOf b (vendors_among (take (i + 1) books)) shops
shops_same b books i v shops lt is desk of = subst (λ (vs : List BookSums). AreShopsOf b vs shops) (sym (vendors_same books i v lt is desk)) of

pub shops_next : (b : BookSums) (books : List BookSums) (i : ℕ) (v : BookSums) (shop : Shop) (old new : List Shop) → i < length books → v ≡ get_or books i v → is_desk v ≡ false
    → AreShopsOf b (vendors_among (take i books)) old → IsShopOf b v shop → new ≡ old ++ shop ∷ [] → AreShopsOf b (vendors_among (take (i + 1) books)) new
shops_next b books i v shop old new lt is vendor of one is_new =
    subst (λ (vs : List BookSums). AreShopsOf b vs new) (sym (vendors_next books i v lt is vendor))
    (subst (AreShopsOf b (vendors_among (take i books) ++ v ∷ [])) (sym is_new) (shops_more b (vendors_among (take i books)) old v shop of one))

-- ---- faults

-- the fault of the book at a place, where none before it has a stranger
pub fault_found : (shops : List Shop) (books : List BookSums) (i : ℕ) (s : BookSums) (fault : CheckFault) → i < length books → s ≡ get_or books i s
    → ChecksBook shops s (Err fault) → first_over i shops (drop i books) ≡ first_over 0 shops books → FindsTotals shops books (Err (fault_at i s fault))
fault_found shops books i s (checks.Stranger id) lt is found so_far = record {
  first = search_ends shops books i s id (first_over 0 shops books) lt is found so_far;
  of = s;
  there = slice_get-get_or books i s lt ∙ ap (λ (x : BookSums). Some x) (sym is);
  named = refl;
}
fault_found shops books i s checks.NoMemory lt is found so_far = tt

-- what is found of all books where their sums are not
pub finds_fault : (broker : BookSums) (books : List BookSums) (shops : List Shop) (fault : BooksFault) → IsMarketOf broker books → HasAll (has_vendor books) (sales_of broker) → AreShopsOf broker (vendors_among books) shops
    → HaveStocked shops (stock_rows_of broker) → HaveSold shops (sales_of broker) → FindsTotals shops books (Err fault) → Finds books (Err fault)
finds_fault broker books shops (faults.Stranger book name id) market there of stocked sold found = (broker, record { market = market; all_there = there; shops = shops; of_shops = of; stocked = stocked; sold = sold; stranger = found })
finds_fault broker books shops faults.NoMemory market there of stocked sold found = tt
finds_fault broker books shops faults.BadBooks market there of stocked sold found = absurd found
finds_fault broker books shops (faults.MissingBook name) market there of stocked sold found = absurd found

-- a stranger is told with the name of its book
pub names_book : (books : List BookSums) (r : Result Report BooksFault) → Finds books r → NamesBook books r
names_book books (Ok r) found = tt
names_book books (Err faults.BadBooks) found = tt
names_book books (Err (faults.MissingBook name)) found = tt
names_book books (Err (faults.Stranger book name id)) (broker, found) = (found.stranger.of, found.stranger.there, found.stranger.named)
names_book books (Err faults.NoMemory) found = tt

-- ---- the order of a report

-- what a sort ensures where each call compares the names
pub sorted_by_name : {F : Type 0} {g : Mut F (Bor VendorSums × (Bor VendorSums × Unit {0})) Ordering} {f : F} (xs : List VendorSums)
    → ((lt : VendorSums → VendorSums → Bool) → IsStrictWeakOrder lt → ComparesAs g lt f → IsSortedBy lt xs)
    → ((a : Bor VendorSums × (Bor VendorSums × Unit {0})) (r : Ordering) (f' : F) → Called g f a r f' → (r ≡ slice_cmp nat_cmp a.0.now.name a.1.0.now.name) × (f' ≡ f)) → IsSortedBy by_name xs
sorted_by_name {g = g} {f = f} xs up h =
    up by_name (ranks_by nat_list_cmp_total (λ (v : VendorSums). v.name))
    (always_returns_same g (λ a r. is_lt r ≡ is_lt (slice_cmp nat_cmp a.0.now.name a.1.0.now.name)) f (λ a r f' k. (ap is_lt (h a r f' k).0, (h a r f' k).1)))
