-- What an audit finds by what was kept of the books is what their histories say.
use Rattle.std.proofs.Common.{◌≡◌, ℕ, ◌+◌, Bool, true, false, cond, not, ◌||◌, eqb, eqb-true, true≢false, List, [], ◌∷◌, ◌++◌, map, filter, bytes_eq, Option, Some, None, option_map, unwrap_or, refl, sym, ap, ap₂, ◌∙◌, subst, IsTrue}
use Rattle.std.specs.Option.{option_or}
use Rattle.std.specs.List.{list_any, AllByRecursion}
use Rattle.std.proofs.lemmas.List.{map-append}
use Rattle.std.proofs.lemmas.Slice.Eq.{bytes_eq-Decides}
use Rattle.scrip_form.specs.Scrip.{Scrip}
use Rattle.mc_requests.specs.declared.limits.Limits.{Limits}
use Rattle.ledger_model.specs.declared.numbers.TheConstants.{BROKER_KIND, VENDOR_KIND}
use Rattle.ledger_model.specs.Histories.{History}
use Rattle.ledger_model.specs.Houses.{site_name, is_broker, is_vendor}
use Rattle.ledger_model.specs.Pieces.{own_out, is_spent}
use Rattle.ledger_model.specs.Stock.{Sale, sales, sold}
use Rattle.ledger_model.specs.Sums.{handed_out, outstanding, lapsed}
use Rattle.ledger_model.proofs.KindLaws.{one_house}
use Rattle.audit_model.specs.declared.sums.VendorSums.{VendorSums}
use Rattle.audit_model.specs.declared.part.Part.{Part}
use Rattle.audit_model.specs.Parts.{part_of}
use Rattle.audit_model.specs.Books.{IsBook, HaveOwnNames}
use Rattle.audit_model.specs.Strangers.{handed_of, sold_stranger, strangers, first_of, first_by, first_from}
use Rattle.audit_model.specs.Sums.{vendor_sums}
use Rattle.audit_model.proofs.Strange.{sells_nothing}
use Rattle.audit_model.proofs.Left.{same_vendor}
use Rattle.audit_sums.specs.declared.rows.Acceptance.{Acceptance}
use Rattle.audit_model.specs.declared.sold.Sold.{Sold}
use Rattle.audit_sums.specs.declared.audit_sums.BookSums.{BookSums}
use Rattle.audit_model.specs.Sales.{sale_by}
use Rattle.audit_sums.specs.Learned.{SumsRepresent, name_of, kind_of, time_of, accepted_of, stock_rows_of, sales_of}
use Rattle.audit_search.specs.declared.shop.Shop.{Shop}
use Rattle.audit_search.specs.Known.{has_part, was_accepted}
use Rattle.audit_search.specs.Filed.{HaveStocked, HaveSold}
use Rattle.audit_search.specs.Strange.{sold_at, not_in, not_minted, first_in}
use Rattle.audit_search.specs.Checks.{is_desk, handed_from, left_at, left_in, stranger_in, row_of, first_over}
use Rattle.audit_search.specs.Audit.{IsLearned, AreLearned, has_book}
use Rattle.audit_search.proofs.Ties.{is_same, parts_are, accepted_is, out_is, gone_is}
use Rattle.audit_search.proofs.StandLaws.{stock, sold_is}
use Rattle.audit_search.proofs.StrangeLaws.{AreShopsAt, sale_tells, first_is}
use Rattle.audit_search.proofs.MarketLaws.{shops_among}

-- ---- lists

none_kept : {X : Type 0} (test : X → Bool) (b : X) (ys : List X) → filter test ys ≡ [] → AllByRecursion (λ y. test y ≡ true → y ≡ b) ys
none_kept test b [] e = tt
none_kept {X = X} test b (y ∷ ys) e = go (test y) refl e (none_kept test b ys)
  where
    go : (t : Bool) → test y ≡ t → cond t (y ∷ filter test ys) (filter test ys) ≡ [] → (filter test ys ≡ [] → AllByRecursion (λ z. test z ≡ true → z ≡ b) ys) → (test y ≡ true → y ≡ b) × AllByRecursion (λ z. test z ≡ true → z ≡ b) ys
    go true g f ih = absurd cc
    go false g f ih = ((λ yes. absurd (true≢false (sym yes ∙ g))), ih f)

-- an element that a filter keeps is the only one that it keeps
pub only_one : {X : Type 0} (test : X → Bool) (xs : List X) (b : X) → filter test xs ≡ b ∷ [] → AllByRecursion (λ x. test x ≡ true → x ≡ b) xs
only_one test [] b e = tt
only_one {X = X} test (x ∷ xs) b e = go (test x) refl e (only_one test xs b)
  where
    go : (t : Bool) → test x ≡ t → cond t (x ∷ filter test xs) (filter test xs) ≡ b ∷ [] → (filter test xs ≡ b ∷ [] → AllByRecursion (λ y. test y ≡ true → y ≡ b) xs) → (test x ≡ true → x ≡ b) × AllByRecursion (λ y. test y ≡ true → y ≡ b) xs
    go true g f ih =
        let head : x ≡ b = cc in
        let tail : filter test xs ≡ [] = cc in
        ((λ yes. head), none_kept test b xs tail)
    go false g f ih = ((λ yes. absurd (true≢false (sym yes ∙ g))), ih f)

same_bytes : (name : List ℕ) → bytes_eq name name ≡ true
same_bytes name = (bytes_eq-Decides name name).1 refl

more : (a : Bool) {c : Bool} → c ≡ true → (a || c) ≡ true
more true e = refl
more false e = e

-- with one more book, those that were there are there
wider : (h : History) (d : Bool) (hs xs : List History) → AllByRecursion (λ x. is_broker x ≡ false → has_book (shops_among hs) (site_name x) ≡ true) xs
    → AllByRecursion (λ x. is_broker x ≡ false → has_book (cond (not d) (h ∷ shops_among hs) (shops_among hs)) (site_name x) ≡ true) xs
wider h true hs [] all = tt
wider h false hs [] all = tt
wider h true hs (x ∷ xs) all = (all.0, wider h true hs xs all.1)
wider h false hs (x ∷ xs) all = ((λ vendor. more (bytes_eq (site_name x) (site_name h)) (all.0 vendor)), wider h false hs xs all.1)

-- a vendor has a book: his own
pub each_has : (hs : List History) → AllByRecursion (λ h. is_broker h ≡ false → has_book (shops_among hs) (site_name h) ≡ true) hs
each_has [] = tt
each_has (h ∷ hs) = go (is_broker h) refl (each_has hs)
  where
    go : (d : Bool) → is_broker h ≡ d → AllByRecursion (λ x. is_broker x ≡ false → has_book (shops_among hs) (site_name x) ≡ true) hs
        → (is_broker h ≡ false → has_book (cond (not d) (h ∷ shops_among hs) (shops_among hs)) (site_name h) ≡ true)
        × AllByRecursion (λ x. is_broker x ≡ false → has_book (cond (not d) (h ∷ shops_among hs) (shops_among hs)) (site_name x) ≡ true) hs
    go true e all = ((λ vendor. absurd (true≢false (sym e ∙ vendor))), wider h true hs hs all)
    go false e all = ((λ vendor. ap (λ (a : Bool). a || has_book (shops_among hs) (site_name h)) (same_bytes (site_name h))), wider h false hs hs all)

-- tests that agree find the same
in_alike : {X : Type 0} (f g : Option Part → Option ℕ) (k : X → Option ℕ) → ((o : Option Part) → f o ≡ g o) → (rows : List Acceptance) (ss : List X) → first_in f k rows ss ≡ first_in g k rows ss
in_alike f g k same [] ss = refl
in_alike f g k same (a ∷ rows) ss = rw (same a.piece, in_alike f g k same rows _) refl

not_alike : (p q : ℕ → ℕ → Bool) → ((id value : ℕ) → p id value ≡ q id value) → (o : Option Part) → not_in p o ≡ not_in q o
not_alike p q same None = refl
not_alike p q same (Some x) = ap (λ (b : Bool). cond b None (Some x.id)) (same x.id x.value)

-- where two tests of what was handed out agree, they find the same first stranger
pub first_alike : {X : Type 0} (p q : ℕ → ℕ → Bool) (k : X → Option ℕ) → ((id value : ℕ) → p id value ≡ q id value) → (rows : List Acceptance) (ss : List X)
    → first_in (not_in p) k rows ss ≡ first_in (not_in q) k rows ss
first_alike p q k same rows ss = in_alike (not_in p) (not_in q) k (not_alike p q same) rows ss

-- ---- the kind of a book

module _ (limits : Limits) (s : BookSums) (h : History) (is : IsLearned limits s h) where
  kind_is : is_broker h ≡ is_desk s
  kind_is = ap (λ (o : Option ℕ). unwrap_or (option_map (λ kind. eqb kind BROKER_KIND) o) false) is.sums.kind'

  pub broker_book : is_broker h ≡ true → IsBook limits BROKER_KIND h
  broker_book e = record {
    lawful = is.lawful;
    site = is.sums.kind' ∙ ap (λ (k : ℕ). Some k) (eqb-true (kind_of s) BROKER_KIND (sym kind_is ∙ e));
    fits = is.fits;
  }

  pub vendor_book : is_broker h ≡ false → IsBook limits VENDOR_KIND h
  vendor_book e = record {
    lawful = is.lawful;
    site = is.sums.kind' ∙ ap (λ (k : ℕ). Some k) (eqb-true (kind_of s) VENDOR_KIND (sym vendor_is ∙ not_vendor (is_vendor h) (sym (one_house limits h is.lawful) ∙ e)));
    fits = is.fits;
  }
    where
      vendor_is : is_vendor h ≡ eqb (kind_of s) VENDOR_KIND
      vendor_is = ap (λ (o : Option ℕ). unwrap_or (option_map (λ kind. eqb kind VENDOR_KIND) o) false) is.sums.kind'

      not_vendor : (v : Bool) → not v ≡ false → v ≡ true
      not_vendor true f = refl
      not_vendor false f = absurd cc

-- ---- books beside the broker's

module _ (limits : Limits) (broker : BookSums) (b : History) (vs : List History) (shops : List Shop) (is_b : SumsRepresent broker b)
    (at : AreShopsAt b vs shops) (stocked : HaveStocked shops (stock_rows_of broker)) (have : HaveSold shops (sales_of broker)) (own : HaveOwnNames vs) (known : AllByRecursion (λ (s : Sale). IsTrue (has_book vs s.vendor)) (sales b)) where
  -- what was handed out of a book
  abbrev handed_parts : History → List Part
  handed_parts h = map part_of (handed_of b h)

  vendor_handed : (s : BookSums) (h : History) → IsLearned limits s h → has_book vs (site_name h) ≡ true → sold_at shops (name_of s) ≡ map part_of (sold b (site_name h))
  vendor_handed s h is any = ap (sold_at shops) (sym is.sums.name') ∙ sold_is broker b vs shops is_b at stocked own have (site_name h) any

  handed_is : (s : BookSums) (h : History) → IsLearned limits s h → (is_broker h ≡ false → has_book vs (site_name h) ≡ true) → handed_from shops s ≡ handed_parts h
  handed_is s h is any =
      ap₂ (λ (d : Bool) (own_ones : List Part). cond d [] (sold_at shops (name_of s)) ++ own_ones)
      (ap (λ (o : Option ℕ). unwrap_or (option_map (λ kind. eqb kind BROKER_KIND) o) false) (sym is.sums.kind')) is.sums.pieces'.own_out'
      ∙ go (is_broker h) refl
    where
      go : (d : Bool) → is_broker h ≡ d → cond d [] (sold_at shops (name_of s)) ++ map part_of (own_out h) ≡ map part_of (cond d (own_out h) (handed_out b h))
      go true e = refl
      go false e = ap (λ (l : List Part). l ++ map part_of (own_out h)) (vendor_handed s h is (any e)) ∙ sym (map-append part_of (sold b (site_name h)) (own_out h))

  -- what a sale of a book tells
  abbrev TellsAll : History → List Sold → Type 0
  TellsAll h ss = AllByRecursion (λ s. not_minted shops s ≡ first_of (sold_stranger vs h (Some (sale_by s)))) ss

  told : (ss : List Sold) → AllByRecursion (λ (s : Sale). IsTrue (has_book vs s.vendor)) (map sale_by ss) → TellsAll b ss
  told [] all = tt
  told (s ∷ ss) all = (sale_tells b vs shops s at (stock broker b vs shops is_b at stocked own) own all.0, told ss all.1)

  broker_tells : TellsAll b (sales_of broker)
  broker_tells = told (sales_of broker) (subst (AllByRecursion (λ (s : Sale). IsTrue (has_book vs s.vendor))) (sym is_b.market'.sales') known)

  none_sold : (h : History) (ss : List Sold) → map sale_by ss ≡ [] → TellsAll h ss
  none_sold h [] e = tt
  none_sold h (s ∷ ss) e = absurd cc

  -- the first stranger of a book
  pub stranger_is : (s : BookSums) (h : History) → IsLearned limits s h → (is_broker h ≡ false → has_book vs (site_name h) ≡ true) → (is_broker h ≡ true → h ≡ b)
      → stranger_in shops s ≡ first_of (strangers b vs h)
  stranger_is s h is any one =
      first_alike (has_part (handed_from shops s)) (λ id value. list_any (is_same id value) (handed_of b h)) (not_minted shops)
      (λ id value. ap (λ (l : List Part). has_part l id value) (handed_is s h is any) ∙ parts_are id value (handed_of b h)) (accepted_of s) (sales_of s)
      ∙ ap (λ (l : List Acceptance). first_in (not_in (λ id value. list_any (is_same id value) (handed_of b h))) (not_minted shops) l (sales_of s)) is.sums.pieces'.accepted'
      ∙ first_is b vs h (λ id value. list_any (is_same id value) (handed_of b h)) (not_minted shops) (λ p. refl) h (sales_of s) is.sums.market'.sales' (tells (is_broker h) refl)
    where
      known_here : h ≡ b → TellsAll h (sales_of s)
      known_here same =
          subst (λ (x : History). TellsAll x (sales_of s)) (sym same)
          (told (sales_of s) (subst (AllByRecursion (λ (x : Sale). IsTrue (has_book vs x.vendor))) (sym (is.sums.market'.sales' ∙ ap sales same)) known))

      tells : (d : Bool) → is_broker h ≡ d → TellsAll h (sales_of s)
      tells true e = known_here (one e)
      tells false e = none_sold h (sales_of s) (is.sums.market'.sales' ∙ sells_nothing limits h (vendor_book limits s h is e))

  -- what is left of a book's pieces
  pub left_is : (s : BookSums) (h : History) → IsLearned limits s h → (is_broker h ≡ false → has_book vs (site_name h) ≡ true)
      → ((left_in shops s).outstanding ≡ outstanding (handed_of b h) h) × ((left_in shops s).lapsed ≡ lapsed (handed_of b h) h)
  left_is s h is any = (
    ap (λ (l : List Part). (left_at l s).outstanding) (handed_is s h is any) ∙ out_is h (was_accepted (accepted_of s)) (time_of s) spent is.sums.time' (handed_of b h),
    ap (λ (l : List Part). (left_at l s).lapsed) (handed_is s h is any) ∙ gone_is h (was_accepted (accepted_of s)) (time_of s) spent is.sums.time' (handed_of b h),
  )
    where
      spent : (id : ℕ) → was_accepted (accepted_of s) id ≡ is_spent h id
      spent id = ap (λ (l : List Acceptance). was_accepted l id) is.sums.pieces'.accepted' ∙ accepted_is id h

  -- ---- all books

  first_or : (n : ℕ) (ids : List ℕ) (later : Option (ℕ × ℕ)) → option_or (option_map (λ id. (n, id)) (first_of ids)) later ≡ first_by n ids later
  first_or n [] later = refl
  first_or n (id ∷ ids) later = refl

  pub over_is : (n : ℕ) (ss : List BookSums) (hs : List History) → AreLearned limits ss hs → AllByRecursion (λ h. is_broker h ≡ false → has_book vs (site_name h) ≡ true) hs → AllByRecursion (λ h. is_broker h ≡ true → h ≡ b) hs
      → first_over n shops ss ≡ first_from n b vs hs
  over_is n [] [] all any one = refl
  over_is n (s ∷ ss) (h ∷ hs) all any one =
      ap₂ (λ (o : Option ℕ) (later : Option (ℕ × ℕ)). option_or (option_map (λ id. (n, id)) o) later) (stranger_is s h all.0 any.0 one.0) (over_is (n + 1) ss hs all.1 any.1 one.1)
      ∙ first_or n (strangers b vs h) (first_from (n + 1) b vs hs)
  over_is n [] (h ∷ hs) all any one = absurd all
  over_is n (s ∷ ss) [] all any one = absurd all

  pub rows_are : (ss : List BookSums) (hs : List History) → AreLearned limits ss hs → AllByRecursion (λ h. (is_broker h ≡ false) × (has_book vs (site_name h) ≡ true)) hs
      → map (row_of shops) ss ≡ map (vendor_sums b) hs
  rows_are [] [] all any = refl
  rows_are (s ∷ ss) (h ∷ hs) all any = ap₂ (λ (r : VendorSums) (rs : List VendorSums). r ∷ rs) (row_is all.0 any.0) (rows_are ss hs all.1 any.1)
    where
      row_is : IsLearned limits s h → (is_broker h ≡ false) × (has_book vs (site_name h) ≡ true) → row_of shops s ≡ vendor_sums b h
      row_is is at' =
          let left = left_is s h is (λ e. at'.1) in
          let handed : handed_of b h ≡ handed_out b h = ap (λ (d : Bool). cond d (own_out h) (handed_out b h)) at'.0 in
          same_vendor (row_of shops s) (vendor_sums b h) (sym is.sums.name') (sym is.sums.money.takings')
          (left.0 ∙ ap (λ (l : List Scrip). outstanding l h) handed) (left.1 ∙ ap (λ (l : List Scrip). lapsed l h) handed)
  rows_are [] (h ∷ hs) all any = absurd all
  rows_are (s ∷ ss) [] all any = absurd all
