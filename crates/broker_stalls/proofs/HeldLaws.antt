-- The first open piece of a stall as the text that its sale brings.
use Rattle.std.proofs.Common.{◌≡◌, ℕ, Bool, true, false, cond, eqb, ◌||◌, not, List, [], ◌∷◌, length, Some, Result, Ok, Err, refl, sym, ap, ap₂, subst, ◌∙◌, find, bytes_eq}
use Rattle.std.specs.Prelude.{IsTrue}
use Rattle.std.specs.List.{list_any, AllByRecursion}
use Rattle.std.proofs.lemmas.Bool.{eqb-true, eq-eqb, and_parts, true≢false}
use Rattle.std.proofs.lemmas.List.{nil_from_length}
use Rattle.std.proofs.lemmas.Option.{same_Some}
use Rattle.std.proofs.lemmas.Slice.Eq.{bytes_eq-Decides}
use Rattle.scrip_form.specs.Scrip.{Scrip, IsPiece, scrip_text}
use Rattle.scrip_form.specs.Reading.{scrip_of}
use Rattle.scrip_form.specs.Told.{IsTold}
use Rattle.scrip_form.proofs.Laws.{scrip_of_tells}
use Rattle.mc_records.specs.Entry.{Held}
use Rattle.ledger_model.specs.Histories.{History}
use Rattle.ledger_model.specs.Pieces.{is_first_hand}
use Rattle.ledger_model.specs.Stock.{held_pieces, stock_in, is_sold, may_be_stock, has_id, sold_held}
use Rattle.ledger_model.specs.Laws.{AreDistinct}
use Rattle.broker_stock.specs.declared.piece.StockPiece.{StockPiece}
use Rattle.broker_stock.specs.Racks.{is_open}
use Rattle.broker_stalls.specs.Stalls.{StallView, stocked_at}
use Rattle.broker_stalls.specs.Listed.{stock_piece, listed_at, piece_in_stock, held_in_stock}
use Rattle.broker_stalls.specs.Shown.{unsold, Shows}
use Rattle.broker_stalls.proofs.ListedLaws.{listed_more}

-- ---- a piece by its parts

same_piece : (x : Scrip) (vendor : List ℕ) (value : ℕ) → x.vendor ≡ vendor → x.value ≡ value → x.cust ≡ x.id → x.props ≡ []
    → x ≡ record { version = x.version; vendor = vendor; value = value; id = x.id; cust = x.id; expires = x.expires; props = [] }
same_piece x vendor value a b c d = ap₂ named a b ∙ ap₂ handed c d
  where
    named : List ℕ → ℕ → Scrip
    named v n = record { version = x.version; vendor = v; value = n; id = x.id; cust = x.cust; expires = x.expires; props = x.props }

    handed : ℕ → List ℕ → Scrip
    handed n ps = record { version = x.version; vendor = vendor; value = value; id = x.id; cust = n; expires = x.expires; props = ps }

stock_parts : (vendor : List ℕ) (x : Scrip) → may_be_stock vendor x ≡ true → (x.vendor ≡ vendor) × (x.cust ≡ x.id) × (x.props ≡ [])
stock_parts vendor x may =
    let parts = and_parts (bytes_eq x.vendor vendor) (is_first_hand x) may in
    let first = and_parts (eqb x.cust x.id) (eqb (length x.props) 0) parts.1 in
    ((bytes_eq-Decides x.vendor vendor).0 parts.0, eqb-true x.cust x.id first.0, nil_from_length x.props (eqb-true (length x.props) 0 first.1))

-- ---- the held text of a piece in stock

-- a piece stands among some held texts: the first of its identity spells it
record Stands (vendor : List ℕ) (value : ℕ) (helds : List Held) (p : StockPiece) : Type 0 where
  found : find (has_id p.id) helds ≡ Some (held_in_stock vendor value p)
  piece : IsPiece (piece_in_stock vendor value p)
  known : list_any (λ q. eqb q.id p.id) (held_pieces helds) ≡ true

-- the first held text, where it is read as x
module _ (vendor : List ℕ) (value : ℕ) (held : Held) (helds : List Held) (x : Scrip × List ℕ) (is : scrip_of held.text ≡ Ok x) where
  pieces_are : held_pieces (held ∷ helds) ≡ x.0 ∷ held_pieces helds
  pieces_are = rw is refl

  has_is : (n : ℕ) → has_id n held ≡ eqb x.0.id n
  has_is n = rw is refl

  here : (p : StockPiece) → may_be_stock vendor x.0 ≡ true → x.0.value ≡ value → stock_piece held.secret x ≡ p → Stands vendor value (held ∷ helds) p
  here p may same is_p = subst (Stands vendor value (held ∷ helds)) is_p (record {
    found = ap (λ (b : Bool). cond b (Some held) (find (has_id x.0.id) helds)) (has_is x.0.id ∙ eq-eqb x.0.id x.0.id refl) ∙ ap (λ (t : List ℕ). Some (record { text = t; secret = held.secret })) spelled;
    piece = subst IsPiece is_so told.is_piece;
    known = ap (list_any (λ q. eqb q.id x.0.id)) pieces_are ∙ ap (λ b. b || list_any (λ q. eqb q.id x.0.id) (held_pieces helds)) (eq-eqb x.0.id x.0.id refl);
  })
    where
      told : IsTold held.text (Ok x)
      told = subst (IsTold held.text) is (scrip_of_tells held.text)

      is_so : x.0 ≡ record { version = x.0.version; vendor = vendor; value = value; id = x.0.id; cust = x.0.id; expires = x.0.expires; props = [] }
      is_so = let parts = stock_parts vendor x.0 may in same_piece x.0 vendor value parts.0 same parts.1 parts.2

      spelled : held.text ≡ scrip_text (record { version = x.0.version; vendor = vendor; value = value; id = x.0.id; cust = x.0.id; expires = x.0.expires; props = [] }) x.1
      spelled = told.spelled ∙ ap (λ (q : Scrip). scrip_text q x.1) is_so

  later : (p : StockPiece) → list_any (λ q. eqb q.id x.0.id) (held_pieces helds) ≡ false → Stands vendor value helds p → Stands vendor value (held ∷ helds) p
  later p apart stands = record {
    found = ap (λ (b : Bool). cond b (Some held) (find (has_id p.id) helds)) (has_is p.id ∙ other) ∙ stands.found;
    piece = stands.piece;
    known = ap (list_any (λ q. eqb q.id p.id)) pieces_are ∙ ap (λ b. b || list_any (λ q. eqb q.id p.id) (held_pieces helds)) other ∙ stands.known;
  }
    where
      go : (b : Bool) → eqb x.0.id p.id ≡ b → b ≡ false
      go false e = refl
      go true e = absurd (true≢false (sym stands.known ∙ ap (λ (n : ℕ). list_any (λ q. eqb q.id n) (held_pieces helds)) (sym (eqb-true x.0.id p.id e)) ∙ apart))

      other : eqb x.0.id p.id ≡ false
      other = go (eqb x.0.id p.id) refl

first_stands : (vendor : List ℕ) (value t : ℕ) (sold : ℕ → Bool) (helds : List Held) (p : StockPiece) → AllByRecursion (λ q. IsTrue (may_be_stock vendor q)) (held_pieces helds) → AreDistinct (held_pieces helds)
    → find (is_open t) (unsold sold (listed_at value helds)) ≡ Some p → Stands vendor value helds p
first_stands vendor value t sold [] p fits once first = absurd cc
first_stands vendor value t sold (held ∷ helds) p fits once first = go (scrip_of held.text) refl (first_stands vendor value t sold helds p)
  where
    Rest : Type 0
    Rest = AllByRecursion (λ q. IsTrue (may_be_stock vendor q)) (held_pieces helds) → AreDistinct (held_pieces helds) → find (is_open t) (unsold sold (listed_at value helds)) ≡ Some p → Stands vendor value helds p

    go : (r : Result (Scrip × List ℕ) ℕ) → scrip_of held.text ≡ r → Rest → Stands vendor value (held ∷ helds) p
    go (Err place) is rest =
        let pieces : held_pieces (held ∷ helds) ≡ held_pieces helds = rw is refl in
        let listed : listed_at value (held ∷ helds) ≡ listed_at value helds = rw is refl in
        let none : has_id p.id held ≡ false = rw is refl in
        let stands = rest (subst (AllByRecursion (λ q. IsTrue (may_be_stock vendor q))) pieces fits) (subst AreDistinct pieces once) (sym (ap (λ (ps : List StockPiece). find (is_open t) (unsold sold ps)) listed) ∙ first) in
        record {
          found = ap (λ (b : Bool). cond b (Some held) (find (has_id p.id) helds)) none ∙ stands.found;
          piece = stands.piece;
          known = ap (list_any (λ q. eqb q.id p.id)) pieces ∙ stands.known;
        }
    go (Ok x) is rest =
        let fit = subst (AllByRecursion (λ q. IsTrue (may_be_stock vendor q))) (pieces_are vendor value held helds x is) fits in
        let apart = subst AreDistinct (pieces_are vendor value held helds x is) once in
        by_value (eqb x.0.value value) refl fit apart (sym (ap (λ (ps : List StockPiece). find (is_open t) (unsold sold ps)) (listed_more held helds x is value)) ∙ first)
      where
        Fits : Type 0
        Fits = AllByRecursion (λ q. IsTrue (may_be_stock vendor q)) (x.0 ∷ held_pieces helds)

        by_open : (b : Bool) → x.0.value ≡ value → Fits → AreDistinct (x.0 ∷ held_pieces helds)
            → cond b (Some (stock_piece held.secret x)) (find (is_open t) (unsold sold (listed_at value helds))) ≡ Some p → Stands vendor value (held ∷ helds) p
        by_open true same fit apart e = here vendor value held helds x is p fit.0 same (same_Some (stock_piece held.secret x) p e)
        by_open false same fit apart e = later vendor value held helds x is p apart.0 (rest fit.1 apart.1 e)

        by_sold : (b : Bool) → x.0.value ≡ value → Fits → AreDistinct (x.0 ∷ held_pieces helds)
            → find (is_open t) (cond b (stock_piece held.secret x ∷ unsold sold (listed_at value helds)) (unsold sold (listed_at value helds))) ≡ Some p → Stands vendor value (held ∷ helds) p
        by_sold true same fit apart e = by_open (is_open t (stock_piece held.secret x)) same fit apart e
        by_sold false same fit apart e = later vendor value held helds x is p apart.0 (rest fit.1 apart.1 e)

        by_value : (b : Bool) → eqb x.0.value value ≡ b → Fits → AreDistinct (x.0 ∷ held_pieces helds)
            → find (is_open t) (unsold sold (cond b (stock_piece held.secret x ∷ listed_at value helds) (listed_at value helds))) ≡ Some p → Stands vendor value (held ∷ helds) p
        by_value true same fit apart e = by_sold (not (sold x.0.id)) (eqb-true x.0.value value same) fit apart e
        by_value false same fit apart e = later vendor value held helds x is p apart.0 (rest fit.1 apart.1 e)

stands_in : (h : History) (vendor : List ℕ) (s : StallView) (t value : ℕ) (p : StockPiece) → Shows h vendor s → find (is_open t) (stocked_at s value) ≡ Some p → Stands vendor value (stock_in h vendor) p
stands_in h vendor s t value p shows first =
    first_stands vendor value t (is_sold h vendor) (stock_in h vendor) p shows.fits shows.once (sym (ap (find (is_open t)) (shows.pieces value)) ∙ first)

pub piece_fits : (h : History) (vendor : List ℕ) (s : StallView) (t value : ℕ) (p : StockPiece) → Shows h vendor s → find (is_open t) (stocked_at s value) ≡ Some p → IsPiece (piece_in_stock vendor value p)
piece_fits h vendor s t value p shows first = (stands_in h vendor s t value p shows first).piece

pub held_is : (h : History) (vendor : List ℕ) (s : StallView) (t value : ℕ) (p : StockPiece) → Shows h vendor s → find (is_open t) (stocked_at s value) ≡ Some p
    → sold_held h (record { vendor = vendor; value = value; stock = true; id = p.id }) ≡ Some (held_in_stock vendor value p)
held_is h vendor s t value p shows first = (stands_in h vendor s t value p shows first).found
