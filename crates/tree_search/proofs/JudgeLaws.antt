-- What is told of a sale, and what one more sale leaves.
use Rattle.std.proofs.Common.{◌≡◌, ℕ, zero, suc, ◌+◌, ◌<◌, arith, Bool, true, false, cond, not, ◌&&◌, ◌||◌, true≢false, List, [], ◌∷◌, ◌++◌, map, filter_map, length, take, get_or, Option, Some, None, option_map, refl, sym, ap, ap₂, ◌∙◌, subst, append-nil, append_assoc, IsTrue}
use Rattle.std.specs.Prelude.{option_to_list, is_some}
use Rattle.std.specs.List.{list_any, cons_option, AllByRecursion}
use Rattle.std.proofs.lemmas.List.{map-append}
use Rattle.std.proofs.lemmas.List.Elements.{filter_map-append}
use Rattle.scrip_form.specs.Scrip.{Scrip}
use Rattle.name_places.specs.NamePlaces.{NamePlacesView, place_of}
use Rattle.ledger_model.specs.Histories.{History}
use Rattle.ledger_model.specs.Houses.{site_name}
use Rattle.ledger_model.specs.Stock.{Sale, sales, sold_piece}
use Rattle.audit_model.specs.declared.part.Part.{Part}
use Rattle.audit_model.specs.Parts.{part_of}
use Rattle.audit_model.specs.Strangers.{first_of}
use Rattle.audit_model.specs.declared.sold.Sold.{Sold as Row}
use Rattle.audit_model.specs.Sales.{sale_by}
use Rattle.audit_search.specs.declared.shops.Shops.{Shops}
use Rattle.audit_search.specs.Audit.{has_book}
use Rattle.audit_search.specs.Standing.{StandFor, piece_in, has_minted}
use Rattle.audit_search.proofs.Loops.{one_more}
use Rattle.relayed_books.specs.Tree.{Sold, sold_as, sold_over, clash, is_genuine, sold_stranger}
use Rattle.relayed_books.proofs.BesideLaws as beside
use Rattle.tree_search.specs.declared.licences.Licences.{Licences}
use Rattle.tree_search.specs.Marks.{LicencesShow, IsSale}
use Rattle.tree_search.specs.Desks.{ArePlacesOf, licensed_piece, sold_rows}
use Rattle.tree_search.specs.Verdicts.{passes, verdict_on, verdicts}
use Rattle.tree_search.proofs.LicenceLaws.{beside_is, stock_leaves}

-- ---- the piece of a sale

-- a sale with its piece
abbrev pub with_piece : History → Row → Scrip → Sold
with_piece h s p = record { broker = site_name h; vendor = s.vendor; stock = s.stock; piece = p }

pub record HasPiece (h : History) (s : Row) (part : Part) : Type 0 where
  pub piece : Scrip
  pub is : sold_piece h (sale_by s) ≡ Some piece
  pub same : part_of piece ≡ part

pub has_piece : (h : History) (vs : List History) (shops : Shops) (s : Row) (part : Part) → StandFor h vs shops → has_book vs s.vendor ≡ true → piece_in shops s ≡ Some part → HasPiece h s part
has_piece h vs shops s part stand any is = go (sold_piece h (sale_by s)) refl (sym (stand.piece' s any) ∙ is)
  where
    go : (o : Option Scrip) → sold_piece h (sale_by s) ≡ o → option_map part_of (sold_piece h (sale_by s)) ≡ Some part → HasPiece h s part
    go None e f = absurd (cc (sym (ap (option_map part_of) e) ∙ f))
    go (Some p) e f =
        let one : Some (part_of p) ≡ Some part = sym (ap (option_map part_of) e) ∙ f in
        record { piece = p; is = e; same = cc }

-- a sale that has none sold nothing
pub sold_nothing : (h : History) (vs : List History) (shops : Shops) (s : Row) → StandFor h vs shops → has_book vs s.vendor ≡ true → piece_in shops s ≡ None → sold_as h (sale_by s) ≡ None
sold_nothing h vs shops s stand any is = go (sold_piece h (sale_by s)) refl (sym (stand.piece' s any) ∙ is)
  where
    go : (o : Option Scrip) → sold_piece h (sale_by s) ≡ o → option_map part_of (sold_piece h (sale_by s)) ≡ None → sold_as h (sale_by s) ≡ None
    go None e f = ap (option_map (with_piece h s)) e
    go (Some p) e f = absurd (cc (sym (ap (option_map part_of) e) ∙ f))

pub sold_one : (h : History) (s : Row) (part : Part) (r : HasPiece h s part) → sold_as h (sale_by s) ≡ Some (with_piece h s r.piece)
sold_one h s part r = ap (option_map (with_piece h s)) r.is

pub is_sale : (h : History) (s : Row) (part : Part) (r : HasPiece h s part) → IsSale part s.stock (with_piece h s r.piece)
is_sale h s part r = record { id' = ap (λ (p : Part). p.id) r.same; value' = ap (λ (p : Part). p.value) r.same; stock' = refl }

-- a vendor that has a book has a place
pub has_place : (vs : List History) (places : NamePlacesView) (name : List ℕ) → ArePlacesOf vs places → has_book vs name ≡ true → place_of places name ≡ None → ⊥
has_place vs places name of any none = true≢false (sym any ∙ sym (of.known name) ∙ ap is_some none)

-- ---- the verdict

genuine_is : (bs vs : List History) (h : History) (shops : Shops) (l : Licences) (places : NamePlacesView) (place : ℕ) (s : Row) (part : Part) (r : HasPiece h s part) (broker : List ℕ) → site_name h ≡ broker → StandFor h vs shops
    → has_book vs s.vendor ≡ true → LicencesShow l places (sold_over bs) → place_of places s.vendor ≡ Some place → passes shops l place part broker s ≡ is_genuine bs vs (with_piece h s r.piece)
genuine_is bs vs h shops l places place s part r broker named stand any show at =
    ap₂ (λ (a b : Bool). not s.stock || (a || b))
    (ap (λ (p : Part). has_minted shops s.vendor p.id p.value) (sym r.same) ∙ stand.minted' s.vendor r.piece any)
    (beside_is l places place part s.stock (sold_over bs) (with_piece h s r.piece) broker show at (is_sale h s part r) named ∙ sym (beside.beside_is bs (with_piece h s r.piece)))

pub verdict_is : (bs vs : List History) (h : History) (earlier : List Sold) (shops : Shops) (l : Licences) (places : NamePlacesView) (place : ℕ) (s : Row) (part : Part) (r : HasPiece h s part) (broker : List ℕ) (barred : Bool)
    → site_name h ≡ broker → StandFor h vs shops → has_book vs s.vendor ≡ true → LicencesShow l places (sold_over bs) → place_of places s.vendor ≡ Some place → barred ≡ list_any (clash (with_piece h s r.piece)) earlier
    → verdict_on (passes shops l place part broker s) barred part.id ≡ first_of (sold_stranger (is_genuine bs vs) earlier (sold_as h (sale_by s)))
verdict_is bs vs h earlier shops l places place s part r broker barred named stand any show at bars =
    ap₂ (λ (a b : Bool). verdict_on a b part.id) (genuine_is bs vs h shops l places place s part r broker named stand any show at) bars
    ∙ ap (verdict_on (is_genuine bs vs x) (list_any (clash x) earlier)) (sym (ap (λ (p : Part). p.id) r.same))
    ∙ go (is_genuine bs vs x && not (list_any (clash x) earlier))
    ∙ sym (ap (λ (o : Option Sold). first_of (sold_stranger (is_genuine bs vs) earlier o)) (sold_one h s part r))
  where
    x : Sold
    x = with_piece h s r.piece

    go : (b : Bool) → cond b None (Some r.piece.id) ≡ first_of (cond b [] (r.piece.id ∷ []))
    go true = refl
    go false = refl

-- ---- some sales

pub sold_rows_more : (h : History) (rows : List Row) (i : ℕ) (s : Row) → i < length rows → s ≡ get_or rows i s → sold_rows h (take (i + 1) rows) ≡ sold_rows h (take i rows) ++ option_to_list (sold_as h (sale_by s))
sold_rows_more h rows i s lt is =
    ap (sold_rows h) (one_more rows i s lt is)
    ∙ ap (filter_map (sold_as h)) (map-append sale_by (take i rows) (s ∷ []))
    ∙ filter_map-append (sold_as h) (map sale_by (take i rows)) (sale_by s ∷ [])
    ∙ ap (λ (l : List Sold). sold_rows h (take i rows) ++ l) (one (sold_as h (sale_by s)))
  where
    one : (o : Option Sold) → cons_option o [] ≡ option_to_list o
    one None = refl
    one (Some x) = refl

verdicts_append : (genuine : Sold → Bool) (earlier : List Sold) (h : History) (xs : List Sale) (s : Sale)
    → verdicts genuine earlier h (xs ++ s ∷ []) ≡ verdicts genuine earlier h xs ++ first_of (sold_stranger genuine (earlier ++ filter_map (sold_as h) xs) (sold_as h s)) ∷ []
verdicts_append genuine earlier h [] s = ap (λ (l : List Sold). first_of (sold_stranger genuine l (sold_as h s)) ∷ []) (sym (append-nil earlier))
verdicts_append genuine earlier h (x ∷ xs) s =
    ap (λ (l : List (Option ℕ)). first_of (sold_stranger genuine earlier (sold_as h x)) ∷ l)
    (verdicts_append genuine (earlier ++ option_to_list (sold_as h x)) h xs s
    ∙ ap (λ (l : List Sold). verdicts genuine (earlier ++ option_to_list (sold_as h x)) h xs ++ first_of (sold_stranger genuine l (sold_as h s)) ∷ [])
    (append_assoc earlier (option_to_list (sold_as h x)) (filter_map (sold_as h) xs) ∙ ap (λ (l : List Sold). earlier ++ l) (joined (sold_as h x) (filter_map (sold_as h) xs))))
  where
    joined : (o : Option Sold) (l : List Sold) → option_to_list o ++ l ≡ cons_option o l
    joined None l = refl
    joined (Some y) l = refl

pub verdicts_more : (genuine : Sold → Bool) (earlier : List Sold) (h : History) (rows : List Row) (i : ℕ) (s : Row) (v : Option ℕ) (old new : List (Option ℕ)) → i < length rows → s ≡ get_or rows i s
    → old ≡ verdicts genuine earlier h (map sale_by (take i rows)) → v ≡ first_of (sold_stranger genuine (earlier ++ sold_rows h (take i rows)) (sold_as h (sale_by s))) → new ≡ old ++ v ∷ []
    → new ≡ verdicts genuine earlier h (map sale_by (take (i + 1) rows))
verdicts_more genuine earlier h rows i s v old new lt is so_far one is_new =
    is_new ∙ ap₂ (λ (l : List (Option ℕ)) (x : Option ℕ). l ++ x ∷ []) so_far one
    ∙ sym (ap (λ (l : List Row). verdicts genuine earlier h (map sale_by l)) (one_more rows i s lt is)
    ∙ ap (verdicts genuine earlier h) (map-append sale_by (take i rows) (s ∷ []))
    ∙ verdicts_append genuine earlier h (map sale_by (take i rows)) (sale_by s))

-- of all sales, that at a place
pub known_at : (vs : List History) (rows : List Row) (i : ℕ) (s : Row) → AllByRecursion (λ (x : Sale). IsTrue (has_book vs x.vendor)) (map sale_by rows) → i < length rows → s ≡ get_or rows i s → has_book vs s.vendor ≡ true
known_at vs [] i s all lt is = absurd (omega (arith, lt))
known_at vs (r ∷ rows) zero s all lt is = ap (λ (x : Row). has_book vs x.vendor) is ∙ all.0
known_at vs (r ∷ rows) (suc i) s all lt is = known_at vs rows i s all.1 (omega (arith, lt)) is

-- ---- sales under licences

module _ (h : History) (vs : List History) (shops : Shops) (l : Licences) (places : NamePlacesView) (sales : List Sold) (s : Row) (stand : StandFor h vs shops) (any : has_book vs s.vendor ≡ true) (show : LicencesShow l places sales) where
  -- a sale that sold nothing, or out of stock, leaves them
  pub none_noted : licensed_piece shops s ≡ None → LicencesShow l places (sales ++ option_to_list (sold_as h (sale_by s)))
  none_noted none = go s.stock refl none
    where
      nothing : LicencesShow l places (sales ++ [])
      nothing = subst (LicencesShow l places) (sym (append-nil sales)) show

      go : (b : Bool) → s.stock ≡ b → cond b None (piece_in shops s) ≡ None → LicencesShow l places (sales ++ option_to_list (option_map (with_piece h s) (sold_piece h (sale_by s))))
      go false e f = subst (λ (x : Option Sold). LicencesShow l places (sales ++ option_to_list x)) (sym (sold_nothing h vs shops s stand any f)) nothing
      go true e f = on (sold_piece h (sale_by s))
        where
          on : (x : Option Scrip) → LicencesShow l places (sales ++ option_to_list (option_map (with_piece h s) x))
          on None = nothing
          on (Some p) = stock_leaves l places sales (with_piece h s p) e show

pub licensed_one : (shops : Shops) (s : Row) (part : Part) → licensed_piece shops s ≡ Some part → (s.stock ≡ false) × (piece_in shops s ≡ Some part)
licensed_one shops s part is = go s.stock refl is
  where
    go : (b : Bool) → s.stock ≡ b → cond b None (piece_in shops s) ≡ Some part → (s.stock ≡ false) × (piece_in shops s ≡ Some part)
    go true e f = absurd (cc f)
    go false e f = (e, f)

-- a list with what was sold behind it
pub behind : (P : List Sold → Type 0) (h : History) (s : Row) (part : Part) (r : HasPiece h s part) (before : List Sold) → P (before ++ with_piece h s r.piece ∷ []) → P (before ++ option_to_list (sold_as h (sale_by s)))
behind P h s part r before holds = subst (λ (o : Option Sold). P (before ++ option_to_list o)) (sym (sold_one h s part r)) holds

pub behind_none : (P : List Sold → Type 0) (h : History) (vs : List History) (shops : Shops) (s : Row) (before : List Sold) → StandFor h vs shops → has_book vs s.vendor ≡ true → piece_in shops s ≡ None → P before → P (before ++ option_to_list (sold_as h (sale_by s)))
behind_none P h vs shops s before stand any none holds =
    subst (λ (o : Option Sold). P (before ++ option_to_list o)) (sym (sold_nothing h vs shops s stand any none)) (subst P (sym (append-nil before)) holds)
