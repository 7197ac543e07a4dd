-- A shop, and what the histories of the broker and the vendor say.
use Rattle.std.proofs.Common.{◌≡◌, ℕ, Bool, true, false, cond, eqb, ◌&&◌, List, [], ◌∷◌, ◌++◌, map, find, filter, filter_map, flat_map, bytes_eq, Option, Some, None, option_map, refl, sym, ap, ap₂, ◌∙◌}
use Rattle.std.specs.Prelude.{option_and_then}
use Rattle.std.specs.Option.{option_or}
use Rattle.std.specs.List.{list_any, cons_option}
use Rattle.std.proofs.lemmas.List.Folds.{find-append}
use Rattle.std.proofs.lemmas.List.Elements.{filter_map-append}
use Rattle.std.proofs.lemmas.Slice.Eq.{bytes_eq-Decides}
use Rattle.scrip_form.specs.Identities.{series_of}
use Rattle.scrip_form.specs.Issuing.{Issuing}
use Rattle.scrip_form.specs.Scrip.{Scrip}
use Rattle.mc_records.specs.Entry.{Held, Licence, Stock}
use Rattle.ledger_model.specs.Histories.{History}
use Rattle.ledger_model.specs.Houses.{site_name, version}
use Rattle.ledger_model.specs.Pieces.{piece_of, minted}
use Rattle.ledger_model.specs.Stock.{licence_terms, is_licence_of, licence_in, stock_of, held_piece, held_pieces, stock_pieces, Sale, is_of_vendor, licensed_piece, sold_piece}
use Rattle.audit_model.specs.declared.part.Part.{Part}
use Rattle.audit_model.specs.Parts.{part_of}
use Rattle.audit_model.specs.declared.sold.Sold.{Sold}
use Rattle.audit_sums.specs.declared.rows.Stocked.{Stocked}
use Rattle.audit_sums.specs.declared.audit_sums.BookSums.{BookSums}
use Rattle.audit_sums.specs.Rows.{licence_of, stocked_of, stocked_held}
use Rattle.audit_model.specs.Sales.{sale_by}
use Rattle.audit_sums.specs.Learned.{SumsRepresent}
use Rattle.audit_search.specs.Known.{knows, is_in_run}
use Rattle.audit_search.specs.Shops.{licensed, is_stocked, stocked_row, licensed_part, in_stock, part_sold, parts_sold, IsShopOf}
use Rattle.audit_search.specs.declared.shop.Shop.{Shop}
use Rattle.audit_search.proofs.Ties.{turned, is_same, minted_are}

-- ---- licences

licensed_is : (name : List ℕ) (h : History) → licensed (filter_map licence_of h) name ≡ licence_in h name
licensed_is name [] = refl
licensed_is name (Licence m vendor terms ∷ es) = go (bytes_eq vendor name) (licensed_is name es)
  where
    go : (b : Bool) → licensed (filter_map licence_of es) name ≡ licence_in es name
        → option_map (λ r. r.terms) (cond b (Some (record { vendor = vendor; terms = terms })) (find (λ r. bytes_eq r.vendor name) (filter_map licence_of es)))
        ≡ option_and_then licence_terms (cond b (Some (Licence m vendor terms)) (find (is_licence_of name) es))
    go true ih = refl
    go false ih = ih
licensed_is name (e ∷ es) = licensed_is name es

-- ---- stock

-- the piece of an identity among some held texts
abbrev found : ℕ → List Held → Option Part
found id helds = option_map part_of (find (λ p. eqb p.id id) (held_pieces helds))

or_map : (a b : Option Scrip) → option_map part_of (option_or a b) ≡ option_or (option_map part_of a) (option_map part_of b)
or_map None b = refl
or_map (Some x) b = refl

or_part : (a b : Option Stocked) → option_map (λ (r : Stocked). r.part) (option_or a b) ≡ option_or (option_map (λ (r : Stocked). r.part) a) (option_map (λ (r : Stocked). r.part) b)
or_part None b = refl
or_part (Some x) b = refl

found_append : (id : ℕ) (xs ys : List Held) → found id (xs ++ ys) ≡ option_or (found id xs) (found id ys)
found_append id xs ys =
    ap (λ (ps : List Scrip). option_map part_of (find (λ p. eqb p.id id) ps)) (filter_map-append held_piece xs ys)
    ∙ ap (option_map part_of) (find-append (λ p. eqb p.id id) (held_pieces xs) (held_pieces ys))
    ∙ or_map (find (λ p. eqb p.id id) (held_pieces xs)) (find (λ p. eqb p.id id) (held_pieces ys))

pub row_append : (name : List ℕ) (id : ℕ) (xs ys : List Stocked) → stocked_row (xs ++ ys) name id ≡ option_or (stocked_row xs name id) (stocked_row ys name id)
row_append name id xs ys =
    ap (option_map (λ (r : Stocked). r.part)) (find-append (is_stocked name id) xs ys) ∙ or_part (find (is_stocked name id) xs) (find (is_stocked name id) ys)

-- of the pieces of one entry
held_row : (name vendor : List ℕ) (id : ℕ) (helds : List Held) → stocked_row (filter_map (stocked_held vendor) helds) name id ≡ found id (cond (bytes_eq vendor name) helds [])
held_row name vendor id helds = go (bytes_eq vendor name) refl helds
  where
    one : (b : Bool) → bytes_eq vendor name ≡ b → (o : Option Scrip) (rows : List Stocked) (ps : List Scrip)
        → stocked_row rows name id ≡ option_map part_of (find (λ p. eqb p.id id) (cond b ps []))
        → stocked_row (cons_option (option_map (λ (p : Scrip). record { vendor = vendor; part = part_of p }) o) rows) name id ≡ option_map part_of (find (λ p. eqb p.id id) (cond b (cons_option o ps) []))
    one b e None rows ps ih = ih
    one true e (Some p) rows ps ih = here (eqb id p.id) refl
      where
        here : (t : Bool) → eqb id p.id ≡ t
            → option_map (λ (r : Stocked). r.part) (cond (bytes_eq vendor name && eqb id p.id) (Some (record { vendor = vendor; part = part_of p })) (find (is_stocked name id) rows))
            ≡ option_map part_of (cond (eqb p.id id) (Some p) (find (λ q. eqb q.id id) ps))
        here true f = rw (e, f) (rw (sym (turned id p.id) ∙ f) refl)
        here false f = rw (e, f) (rw (sym (turned id p.id) ∙ f) ih)
    one false e (Some p) rows ps ih = rw e ih

    go : (b : Bool) → bytes_eq vendor name ≡ b → (hs : List Held) → stocked_row (filter_map (stocked_held vendor) hs) name id ≡ found id (cond b hs [])
    go true e [] = refl
    go false e [] = refl
    go true e (x ∷ hs) = one true e (piece_of x.text) (filter_map (stocked_held vendor) hs) (held_pieces hs) (go true e hs)
    go false e (x ∷ hs) = one false e (piece_of x.text) (filter_map (stocked_held vendor) hs) (held_pieces hs) (go false e hs)

pub stocked_is : (name : List ℕ) (id : ℕ) (h : History) → stocked_row (flat_map stocked_of h) name id ≡ option_map part_of (find (λ p. eqb p.id id) (stock_pieces h name))
stocked_is name id [] = refl
stocked_is name id (Stock m vendor pieces ∷ es) =
    row_append name id (filter_map (stocked_held vendor) pieces) (flat_map stocked_of es)
    ∙ ap₂ (λ (a b : Option Part). option_or a b) (held_row name vendor id pieces) (stocked_is name id es)
    ∙ sym (found_append id (cond (bytes_eq vendor name) pieces []) (flat_map (stock_of name) es))
stocked_is name id (e ∷ es) = stocked_is name id es

-- ---- a shop

-- a shop has the licence that the history of the broker says, and what that of the vendor says
pub record IsShopOn (b v : History) (s : Shop) : Type 0 where
  pub name' : s.name ≡ site_name v
  pub licence' : s.licence ≡ licence_in b (site_name v)
  pub minted' : (id value : ℕ) → knows s.minted id value ≡ list_any (is_same id value) (minted v)

-- and the stock
pub record IsShopAt (b v : History) (s : Shop) : Type 0 where
  pub on : IsShopOn b v s
  pub stock' : (id : ℕ) → in_stock s id ≡ option_map part_of (find (λ p. eqb p.id id) (stock_pieces b (site_name v)))

pub shop_on : (broker vendor : BookSums) (b v : History) (s : Shop) → SumsRepresent broker b → SumsRepresent vendor v → IsShopOf broker vendor s → IsShopOn b v s
shop_on broker vendor b v s is_b is_v of = record {
  name' = of.name' ∙ sym is_v.name';
  licence' = of.licence' ∙ ap₂ (λ rows (name : List ℕ). licensed rows name) is_b.market'.licences' (sym is_v.name') ∙ licensed_is (site_name v) b;
  minted' = λ id value. of.minted' id value ∙ ap (λ rows. list_any (λ r. is_in_run id value r) rows) is_v.pieces'.minted' ∙ minted_are id value [] v;
}

-- ---- what was sold

name_is : (s : Sold) (name : List ℕ) → bytes_eq s.vendor name ≡ true → s.vendor ≡ name
name_is s name same = (bytes_eq-Decides s.vendor name).0 same

piece_is : (b v : History) (shop : Shop) (s : Sold) → IsShopAt b v shop → s.vendor ≡ site_name v → part_sold shop s ≡ option_map part_of (sold_piece b (sale_by s))
piece_is b v shop s is same = go s.stock
  where
    in_version : ℕ
    in_version = version b s.vendor (series_of s.id)

    licence : (o : Option Issuing) → option_map (licensed_part s) o ≡ option_map part_of (option_map (λ terms. licensed_piece in_version terms s.vendor s.value s.id) o)
    licence None = refl
    licence (Some terms) = refl

    go : (t : Bool) → cond t (in_stock shop s.id) (option_map (licensed_part s) shop.licence)
        ≡ option_map part_of (cond t (find (λ p. eqb p.id s.id) (stock_pieces b s.vendor)) (option_map (λ terms. licensed_piece in_version terms s.vendor s.value s.id) (licence_in b s.vendor)))
    go true = is.stock' s.id ∙ ap (λ (name : List ℕ). option_map part_of (find (λ p. eqb p.id s.id) (stock_pieces b name))) (sym same)
    go false = ap (option_map (licensed_part s)) (is.on.licence' ∙ ap (licence_in b) (sym same)) ∙ licence (licence_in b s.vendor)

pub part_is : (b v : History) (shop : Shop) (s : Sold) → IsShopAt b v shop → bytes_eq s.vendor shop.name ≡ true → part_sold shop s ≡ option_map part_of (sold_piece b (sale_by s))
part_is b v shop s is same = piece_is b v shop s is (name_is s shop.name same ∙ is.on.name')

mapped_cons : (o : Option Scrip) (ps : List Scrip) → cons_option (option_map part_of o) (map part_of ps) ≡ map part_of (cons_option o ps)
mapped_cons None ps = refl
mapped_cons (Some p) ps = refl

pub sold_are : (b v : History) (shop : Shop) (rows : List Sold) → IsShopAt b v shop
    → parts_sold shop rows ≡ map part_of (filter_map (sold_piece b) (filter (is_of_vendor (site_name v)) (map sale_by rows)))
sold_are b v shop [] is = refl
sold_are b v shop (s ∷ rows) is =
    go (bytes_eq s.vendor shop.name) refl (sold_are b v shop rows is)
    ∙ ap (λ (name : List ℕ). map part_of (filter_map (sold_piece b) (cond (bytes_eq s.vendor name) (sale_by s ∷ filter (is_of_vendor (site_name v)) (map sale_by rows)) (filter (is_of_vendor (site_name v)) (map sale_by rows))))) is.on.name'
  where
    rest : List Sale
    rest = filter (is_of_vendor (site_name v)) (map sale_by rows)

    go : (t : Bool) → bytes_eq s.vendor shop.name ≡ t → parts_sold shop rows ≡ map part_of (filter_map (sold_piece b) rest)
        → filter_map (part_sold shop) (cond t (s ∷ filter (λ x. bytes_eq x.vendor shop.name) rows) (filter (λ x. bytes_eq x.vendor shop.name) rows))
        ≡ map part_of (filter_map (sold_piece b) (cond t (sale_by s ∷ rest) rest))
    go true e ih =
        ap₂ (λ (o : Option Part) (ps : List Part). cons_option o ps) (part_is b v shop s is e) ih
        ∙ mapped_cons (sold_piece b (sale_by s)) (filter_map (sold_piece b) rest)
    go false e ih = ih
