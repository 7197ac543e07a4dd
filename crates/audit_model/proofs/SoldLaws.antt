-- What a broker sold: pieces of the values of the sales, and licensed ones of issuers above 0.
use Rattle.std.proofs.Common.{◌≡◌, ℕ, ◌^◌, ◌≤◌, Bool, true, false, cond, not, ◌&&◌, List, [], ◌∷◌, ◌++◌, Option, Some, None, option_and_then, refl, sym, subst, arith, find, bytes_eq}
use Rattle.std.specs.Prelude.{sum_by, filter, filter_map}
use Rattle.std.specs.List.{cons_option, AllByRecursion}
use Rattle.std.proofs.lemmas.List.Sums.{sum_by-cons}
use Rattle.std.proofs.lemmas.Option.{same_Some}
use Rattle.scrip_form.specs.Issuing.{Issuing}
use Rattle.scrip_form.specs.Scrip.{Scrip}
use Rattle.mc_requests.specs.declared.limits.Limits.{Limits}
use Rattle.mc_records.specs.Entry.{Entry, Licence, Fits, moment_of}
use Rattle.ledger_model.specs.Histories.{History}
use Rattle.ledger_model.specs.Stock.{is_licence_of, licence_terms, licence_in, Sale, sale_of, sales, is_licensed, sold_piece, licensed_sold}
use Rattle.ledger_model.specs.Sums.{values}
use Rattle.ledger_model.specs.Lawful.{IsAllowed, AllFollow, IsLawful}
use Rattle.ledger_model.specs.Taken.{IsSupplied}
use Rattle.ledger_model.specs.Laws.{HasPiece}
use Rattle.ledger_model.proofs.ListLaws.{all_append, found_holds}
use Rattle.ledger_model.proofs.StockLaws.{supplied_sale, all_made}
use Rattle.audit_model.specs.Books.{IsBook}

-- ---- values

abbrev pub sale_value : Sale → ℕ
sale_value s = s.value

-- the pieces of some sales have the values of the sales
pub picked_values : (h : History) (test : Sale → Bool) (ss : List Sale) → AllByRecursion (HasPiece h) ss → values (filter_map (sold_piece h) (filter test ss)) ≡ sum_by sale_value (filter test ss)
picked_values h test [] made = refl
picked_values h test (s ∷ ss) made = go (test s) (picked_values h test ss made.1)
  where
    rest : List Scrip
    rest = filter_map (sold_piece h) (filter test ss)

    go : (b : Bool) → values rest ≡ sum_by sale_value (filter test ss) → values (filter_map (sold_piece h) (cond b (s ∷ filter test ss) (filter test ss))) ≡ sum_by sale_value (cond b (s ∷ filter test ss) (filter test ss))
    go false more = more
    go true more =
        let x = made.0 in
        let one = sum_by-cons (λ (q : Scrip). q.value) x.piece rest in
        let two = sum_by-cons sale_value s (filter test ss) in
        subst (λ (o : Option Scrip). values (cons_option o rest) ≡ sum_by sale_value (s ∷ filter test ss)) (sym x.is) (omega (arith, one, two, more, x.value))

-- ---- licences are of issuers above 0

issued : (e : Entry) (t : Issuing) → Fits e → licence_terms e ≡ Some t → 1 ≤ t.issuer
issued (Licence m vendor terms) t fits is = subst (λ (x : Issuing). 1 ≤ x.issuer) (same_Some terms t is) fits.terms.issuer.0
issued e t fits is = absurd cc

licence_issued : (vendor : List ℕ) (h : History) (t : Issuing) → AllByRecursion Fits h → licence_in h vendor ≡ Some t → 1 ≤ t.issuer
licence_issued vendor h t fits is = go (find (is_licence_of vendor) h) refl is
  where
    go : (o : Option Entry) → find (is_licence_of vendor) h ≡ o → option_and_then licence_terms o ≡ Some t → 1 ≤ t.issuer
    go None f some = absurd cc
    go (Some e) f some = issued e t (found_holds Fits (is_licence_of vendor) h e fits f) some

abbrev IsHigh : Sale → Type 0
IsHigh s = s.stock ≡ false → 2 ^ 56 ≤ s.id

supplied_high : (most m : ℕ) (h : History) (vendor : List ℕ) (value id : ℕ) (stock : Bool) → AllByRecursion Fits h → IsSupplied most h m vendor value stock id → stock ≡ false → 2 ^ 56 ≤ id
supplied_high most m h vendor value id true fits from none = absurd cc
supplied_high most m h vendor value id false fits made none =
    let above = licence_issued vendor h made.terms fits made.licence in
    omega (arith, above, made.next)

high_sale : (limits : Limits) (h : History) (e : Entry) → AllByRecursion Fits h → IsAllowed limits h e → (ss : List Sale) → AllByRecursion IsHigh ss → AllByRecursion IsHigh (cons_option (sale_of e) ss)
high_sale limits h e fits allowed ss rest = go (sale_of e) refl
  where
    go : (o : Option Sale) → sale_of e ≡ o → AllByRecursion IsHigh (cons_option o ss)
    go None is = rest
    go (Some s) is = (supplied_high limits.series (moment_of e) h s.vendor s.value s.id s.stock fits (supplied_sale limits h e s allowed is), rest)

high_from : (limits : Limits) (before es : History) → AllByRecursion Fits before → AllByRecursion Fits es → AllFollow limits before es → AllByRecursion IsHigh (sales es)
high_from limits before [] before_fits fits follow = tt
high_from limits before (e ∷ es) before_fits fits follow =
    high_sale limits before e before_fits follow.0.allowed (sales es)
    (high_from limits (before ++ e ∷ []) es (all_append Fits before (e ∷ []) before_fits (fits.0, tt)) fits.1 follow.1)

all_high : (limits : Limits) (h : History) → IsLawful limits h → AllByRecursion Fits h → AllByRecursion IsHigh (sales h)
all_high limits [] lawful fits = absurd lawful
all_high limits (e ∷ es) lawful fits = high_from limits [] (e ∷ es) tt fits lawful

abbrev pub IsIssued : Scrip → Type 0
IsIssued p = 2 ^ 56 ≤ p.id

high_pieces : (h : History) (vendor : List ℕ) (ss : List Sale) → AllByRecursion (HasPiece h) ss → AllByRecursion IsHigh ss → AllByRecursion IsIssued (filter_map (sold_piece h) (filter (is_licensed vendor) ss))
high_pieces h vendor [] made high = tt
high_pieces h vendor (s ∷ ss) made high = go s.stock high.0 (bytes_eq s.vendor vendor) (high_pieces h vendor ss made.1 high.1)
  where
    rest : List Sale
    rest = filter (is_licensed vendor) ss

    go : (c : Bool) → (c ≡ false → 2 ^ 56 ≤ s.id) → (b : Bool) → AllByRecursion IsIssued (filter_map (sold_piece h) rest) → AllByRecursion IsIssued (filter_map (sold_piece h) (cond (not c && b) (s ∷ rest) rest))
    go true big b more = more
    go false big false more = more
    go false big true more =
        let x = made.0 in
        let least = big refl in
        subst (λ (o : Option Scrip). AllByRecursion IsIssued (cons_option o (filter_map (sold_piece h) rest))) (sym x.is) (omega (arith, least, x.id), more)

pub licensed_high : (limits : Limits) (kind : ℕ) (h : History) (vendor : List ℕ) → IsBook limits kind h → AllByRecursion IsIssued (licensed_sold h vendor)
licensed_high limits kind h vendor book = high_pieces h vendor (sales h) (all_made limits h book.lawful) (all_high limits h book.lawful book.fits)
