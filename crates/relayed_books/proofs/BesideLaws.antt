-- A piece was sold by another broker under a licence exactly where one of all sales says so.
use Rattle.std.proofs.Common.{◌≡◌, Bool, true, false, cond, not, ◌&&◌, ◌||◌, List, [], ◌∷◌, Option, Some, None, option_map, refl, sym, ap, ◌∙◌, eqb, bytes_eq, filter, filter_map}
use Rattle.std.specs.List.{list_any, cons_option}
use Rattle.std.proofs.lemmas.List.Folds.{list_any-append}
use Rattle.scrip_form.specs.Scrip.{Scrip}
use Rattle.ledger_model.specs.Histories.{History}
use Rattle.ledger_model.specs.Houses.{site_name}
use Rattle.ledger_model.specs.Stock.{Sale, sales, is_licensed, sold_piece}
use Rattle.audit_model.specs.Meets.{is_among}
use Rattle.relayed_books.specs.Tree.{Sold, sold_as, all_sold, sold_over, is_licensed_beside}
use Rattle.relayed_books.specs.Beside.{is_beside}

and_or : (n a r : Bool) → ((true && (a && n)) || (n && r)) ≡ (n && (a || r))
and_or true true r = refl
and_or true false r = refl
and_or false true r = refl
and_or false false r = refl

and_none : (n : Bool) → false ≡ (n && false)
and_none true = refl
and_none false = refl

-- the sales of one book
module _ (b : History) (s : Sold) where
  abbrev here : Bool
  here = not (bytes_eq (site_name b) s.broker)

  abbrev row : Sale → Scrip → Sold
  row x p = record { broker = site_name b; vendor = x.vendor; stock = x.stock; piece = p }

  abbrev under : List Sale → List Scrip
  under xs = filter_map (sold_piece b) (filter (is_licensed s.vendor) xs)

  of_book : (xs : List Sale) → list_any (is_beside s) (filter_map (sold_as b) xs) ≡ (here && is_among (under xs) s.piece)
  of_book [] = and_none here
  of_book (x ∷ xs) = go (not x.stock && bytes_eq x.vendor s.vendor) refl (sold_piece b x) refl (of_book xs)
    where
      more : List Sold
      more = filter_map (sold_as b) xs

      kept : List Sale
      kept = filter (is_licensed s.vendor) xs

      same : Scrip → Bool
      same p = eqb p.id s.piece.id && eqb p.value s.piece.value

      go : (l : Bool) → (not x.stock && bytes_eq x.vendor s.vendor) ≡ l → (o : Option Scrip) → sold_piece b x ≡ o → list_any (is_beside s) more ≡ (here && is_among (filter_map (sold_piece b) kept) s.piece)
          → list_any (is_beside s) (cons_option (option_map (row x) o) more) ≡ (here && is_among (filter_map (sold_piece b) (cond l (x ∷ kept) kept)) s.piece)
      go true e None there ih = ih ∙ sym (ap (λ (o : Option Scrip). here && is_among (cons_option o (filter_map (sold_piece b) kept)) s.piece) there)
      go false e None there ih = ih
      go true e (Some p) there ih =
          ap (λ (l : Bool). (l && (same p && here)) || list_any (is_beside s) more) e
          ∙ ap (λ (r : Bool). (true && (same p && here)) || r) ih
          ∙ and_or here (same p) (is_among (filter_map (sold_piece b) kept) s.piece)
          ∙ sym (ap (λ (o : Option Scrip). here && is_among (cons_option o (filter_map (sold_piece b) kept)) s.piece) there)
      go false e (Some p) there ih = ap (λ (l : Bool). (l && (same p && here)) || list_any (is_beside s) more) e ∙ ih

-- the sales of all books
pub beside_is : (bs : List History) (s : Sold) → is_licensed_beside bs s ≡ list_any (is_beside s) (sold_over bs)
beside_is [] s = refl
beside_is (b ∷ bs) s =
    ap (λ (r : Bool). (not (bytes_eq (site_name b) s.broker) && is_among (filter_map (sold_piece b) (filter (is_licensed s.vendor) (sales b))) s.piece) || r) (beside_is bs s)
    ∙ ap (λ (l : Bool). l || list_any (is_beside s) (sold_over bs)) (sym (of_book b s (sales b)))
    ∙ sym (list_any-append (is_beside s) (all_sold b) (sold_over bs))
