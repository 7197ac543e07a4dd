-- The first stranger, by entry and by book.
use Rattle.std.proofs.Common.{◌≡◌, ℕ, ◌+◌, Bool, true, false, cond, eqb, not, ◌&&◌, List, [], ◌∷◌, ◌++◌, map, find, filter, flat_map, bytes_eq, Option, Some, None, option_map, refl, sym, ap, ◌∙◌}
use Rattle.std.specs.Option.{option_or}
use Rattle.std.specs.List.{list_any}
use Rattle.scrip_form.specs.Scrip.{Scrip}
use Rattle.mc_records.specs.Entry.{Entry}
use Rattle.ledger_model.specs.Histories.{History}
use Rattle.ledger_model.specs.Houses.{site_name, is_broker}
use Rattle.ledger_model.specs.Pieces.{minted}
use Rattle.ledger_model.specs.Stock.{Sale, sold_piece}
use Rattle.audit_model.specs.Meets.{is_among}
use Rattle.audit_model.specs.Strangers.{is_minted, stranger, sold_stranger, entry_strangers, first_stranger, AreOfMarket, first_of}
use Rattle.audit_model.specs.declared.part.Part.{Part}
use Rattle.audit_model.specs.Parts.{part_of}
use Rattle.slow_sums.specs.Strangers.{mints_for, vendors_of}
use Rattle.slow_sums.proofs.Lists.{any_map, any_filter}

pub first_append : (xs ys : List ℕ) → first_of (xs ++ ys) ≡ option_or (first_of xs) (first_of ys)
first_append [] ys = refl
first_append (x ∷ xs) ys = refl

-- ---- by entry

-- the first stranger of some entries of a book
abbrev pub first_in : History → List History → History → History → Option ℕ
first_in b vs h es = first_of (flat_map (entry_strangers b vs h) es)

pub first_in_cons : (b : History) (vs : List History) (h : History) (e : Entry) (es : History)
    → first_in b vs h (e ∷ es) ≡ option_or (first_of (entry_strangers b vs h e)) (first_in b vs h es)
first_in_cons b vs h e es = first_append (entry_strangers b vs h e) (flat_map (entry_strangers b vs h) es)

-- ---- vendors

pub minted_is : (books : List History) (vendor : List ℕ) (p : Scrip) → is_minted (vendors_of books) vendor p ≡ list_any (mints_for vendor (part_of p)) books
minted_is books vendor p = any_filter (λ v. bytes_eq vendor (site_name v) && is_among (minted v) p) (λ h. not (is_broker h)) books

-- a piece that is known by its part is a stranger where it fails a test
tells : (test : Scrip → Bool) (o : Option Scrip) (part : Part) (b : Bool) → Some part ≡ option_map part_of o → ((p : Scrip) → part ≡ part_of p → b ≡ test p)
    → cond b None (Some part.id) ≡ first_of (stranger test o)
tells test None part b is same = cc
tells test (Some p) part b is same = go (test p) (same p part_is)
  where
    part_is : part ≡ part_of p
    part_is = cc

    go : (t : Bool) → b ≡ t → cond b None (Some part.id) ≡ first_of (cond t [] (p.id ∷ []))
    go true e = ap (λ (x : Bool). cond x None (Some part.id)) e
    go false e = ap (λ (x : Bool). cond x None (Some part.id)) e ∙ ap (λ (x : Part). Some x.id) part_is

pub among_tells : (pieces : List Scrip) (handed : List Part) (o : Option Scrip) (part : Part) (b : Bool) → handed ≡ map part_of pieces → Some part ≡ option_map part_of o
    → b ≡ list_any (λ q. eqb q.id part.id && eqb q.value part.value) handed → cond b None (Some part.id) ≡ first_of (stranger (is_among pieces) o)
among_tells pieces handed o part b same is said =
    tells (is_among pieces) o part b is (λ p part_is.
    said ∙ ap (λ (l : List Part). list_any (λ q. eqb q.id part.id && eqb q.value part.value) l) same
    ∙ any_map (λ q. eqb q.id part.id && eqb q.value part.value) part_of pieces
    ∙ ap (λ (x : Part). list_any (λ (q : Scrip). eqb q.id x.id && eqb q.value x.value) pieces) part_is)

pub minted_tells : (books : List History) (vendor : List ℕ) (o : Option Scrip) (part : Part) (b : Bool) → Some part ≡ option_map part_of o
    → b ≡ list_any (mints_for vendor part) books → cond b None (Some part.id) ≡ first_of (stranger (is_minted (vendors_of books) vendor) o)
minted_tells books vendor o part b is said =
    tells (is_minted (vendors_of books) vendor) o part b is (λ p part_is.
    said ∙ ap (λ (x : Part). list_any (mints_for vendor x) books) part_is ∙ sym (minted_is books vendor p))

pub sale_tells : (books : List History) (h : History) (s : Sale) (part : Part) (b : Bool) → s.stock ≡ true → Some part ≡ option_map part_of (sold_piece h s)
    → b ≡ list_any (mints_for s.vendor part) books → cond b None (Some part.id) ≡ first_of (sold_stranger (vendors_of books) h (Some s))
sale_tells books h s part b is_stock is said =
    minted_tells books s.vendor (sold_piece h s) part b is said
    ∙ ap (λ (t : Bool). first_of (cond t (stranger (is_minted (vendors_of books) s.vendor) (sold_piece h s)) [])) (sym is_stock)

-- ---- books

found_first : {A : Type 0} (test : A → Bool) (xs : List A) (a : A) (more : List A) → filter test xs ≡ a ∷ more → find test xs ≡ Some a
found_first test [] a more e = cc
found_first {A = A} test (x ∷ xs) a more e = go (test x) e (λ rest. found_first test xs a more rest)
  where
    go : (b : Bool) → cond b (x ∷ filter test xs) (filter test xs) ≡ a ∷ more → (filter test xs ≡ a ∷ more → find test xs ≡ Some a) → cond b (Some x) (find test xs) ≡ Some a
    go true is by = cc
    go false is by = by is

pub the_broker : (books : List History) (b : History) → filter is_broker books ≡ b ∷ [] → find is_broker books ≡ Some b
the_broker books b e = found_first is_broker books b [] e

-- what is said beside the first broker, is said beside the only one
pub of_market : (b : History) (vs books : List History) (broker : History) (r : Option (ℕ × ℕ)) → AreOfMarket b vs books → Some broker ≡ find is_broker books
    → r ≡ first_stranger broker (vendors_of books) books → r ≡ first_stranger b vs books
of_market b vs books broker r market found is =
    let one : broker ≡ b = same_some broker b (found ∙ the_broker books b market.one_broker) in
    is ∙ ap (λ (x : History). first_stranger x (vendors_of books) books) one ∙ ap (λ (x : List History). first_stranger b x books) market.vendors_are
  where
    same_some : (x y : History) → Some x ≡ Some y → x ≡ y
    same_some x y e = cc

pub no_market : (b : History) (vs books : List History) → AreOfMarket b vs books → None ≡ find is_broker books → ⊥
no_market b vs books market found = none_some b (found ∙ the_broker books b market.one_broker)
  where
    none_some : (x : History) → None ≡ Some x → ⊥
    none_some x e = cc
