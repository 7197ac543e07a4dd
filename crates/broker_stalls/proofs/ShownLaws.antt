-- What a stall tells of a vendor that it shows.
use Rattle.std.proofs.Common.{◌≡◌, ℕ, Bool, true, false, cond, eqb, ltb, ◌&&◌, not, List, [], ◌∷◌, Option, option_map, Result, Ok, Err, refl, sym, ap, ◌∙◌, find}
use Rattle.scrip_form.specs.Scrip.{Scrip}
use Rattle.scrip_form.specs.Reading.{scrip_of}
use Rattle.mc_records.specs.Entry.{Held}
use Rattle.ledger_model.specs.Histories.{History}
use Rattle.ledger_model.specs.Stock.{held_pieces, stock_in, stock_ids, is_sold, for_sale, are_stock}
use Rattle.broker_stock.specs.declared.piece.StockPiece.{StockPiece}
use Rattle.broker_stock.specs.Racks.{is_open}
use Rattle.broker_stalls.specs.Stalls.{StallView, stocked_at, has_id}
use Rattle.broker_stalls.specs.Listed.{stock_piece, listed_at}
use Rattle.broker_stalls.specs.Shown.{unsold, Shows}
use Rattle.broker_stalls.proofs.ListedLaws.{listed_more, any_turned, stock_alike}

abbrev id_of : Option Scrip → Option ℕ
id_of o = option_map (λ p. p.id) o

abbrev stock_id : Option StockPiece → Option ℕ
stock_id o = option_map (λ p. p.id) o

-- whether a piece is for sale, by which identities were sold
abbrev is_free : (ℕ → Bool) → ℕ → ℕ → Scrip → Bool
is_free sold t value p = eqb p.value value && (ltb t p.expires && not (sold p.id))

unread : (value : ℕ) (held : Held) (helds : List Held) (place : ℕ) → scrip_of held.text ≡ Err place → listed_at value (held ∷ helds) ≡ listed_at value helds
unread value held helds place is = rw is refl

first_free : (sold : ℕ → Bool) (t value : ℕ) (helds : List Held) → stock_id (find (is_open t) (unsold sold (listed_at value helds))) ≡ id_of (find (is_free sold t value) (held_pieces helds))
first_free sold t value [] = refl
first_free sold t value (held ∷ helds) = go (scrip_of held.text) refl (first_free sold t value helds)
  where
    by_parts : (x : Scrip × List ℕ) (same ends sold' : Bool) → stock_id (find (is_open t) (unsold sold (listed_at value helds))) ≡ id_of (find (is_free sold t value) (held_pieces helds))
        → eqb x.0.value value ≡ same → ltb t x.0.expires ≡ ends → sold x.0.id ≡ sold'
        → stock_id (find (is_open t) (unsold sold (cond (eqb x.0.value value) (stock_piece held.secret x ∷ listed_at value helds) (listed_at value helds))))
        ≡ id_of (find (is_free sold t value) (x.0 ∷ held_pieces helds))
    by_parts x true true true more a b c = rw (a, c, b) more
    by_parts x true true false more a b c = rw (a, c, b) refl
    by_parts x true false true more a b c = rw (a, c, b) more
    by_parts x true false false more a b c = rw (a, c, b) more
    by_parts x false ends sold' more a b c = rw a more

    go : (r : Result (Scrip × List ℕ) ℕ) → scrip_of held.text ≡ r → stock_id (find (is_open t) (unsold sold (listed_at value helds))) ≡ id_of (find (is_free sold t value) (held_pieces helds))
        → stock_id (find (is_open t) (unsold sold (listed_at value (held ∷ helds)))) ≡ id_of (find (is_free sold t value) (held_pieces (held ∷ helds)))
    go (Ok x) is more =
        ap (λ (ps : List StockPiece). stock_id (find (is_open t) (unsold sold ps))) (listed_more held helds x is value)
        ∙ by_parts x (eqb x.0.value value) (ltb t x.0.expires) (sold x.0.id) more refl refl refl
        ∙ sym (rw is refl)
    go (Err place) is more =
        ap (λ (ps : List StockPiece). stock_id (find (is_open t) (unsold sold ps))) (unread value held helds place is)
        ∙ more ∙ sym (rw is refl)

pub first_is : (h : History) (vendor : List ℕ) (s : StallView) (t value : ℕ) → Shows h vendor s
    → option_map (λ p. p.id) (find (is_open t) (stocked_at s value)) ≡ option_map (λ p. p.id) (for_sale h t vendor value)
first_is h vendor s t value shows =
    ap (λ (ps : List StockPiece). stock_id (find (is_open t) ps)) (shows.pieces value) ∙ first_free (is_sold h vendor) t value (stock_in h vendor)

pub stock_is : (h : History) (vendor : List ℕ) (s : StallView) (pieces : List Held) → Shows h vendor s → are_stock vendor s.ids.ids pieces ≡ are_stock vendor (stock_ids h vendor) pieces
unfolding has_id
stock_is h vendor s pieces shows =
    stock_alike vendor s.ids.ids (stock_ids h vendor) pieces λ q. any_turned q s.ids.ids ∙ shows.ids q ∙ sym (any_turned q (stock_ids h vendor))
