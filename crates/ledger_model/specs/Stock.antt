-- What a broker sells: scrip of vendors, made under a licence or kept in stock.
use Rattle.std.specs.Prelude.{ℕ, ◌==◌, ◌&&◌, ◌||◌, not, Bool, true, false, if◌then◌else◌, nat_lt, bytes_eq, List, [], ◌∷◌, Option, Some, None, option_map, option_and_then, unwrap_or, find, filter, filter_map, flat_map, count_by}
use Rattle.std.specs.List.{list_any, list_all}
use Rattle.scrip_form.specs.Identities.{epoch_of, series_of}
use Rattle.scrip_form.specs.Issuing.{Issuing, series_end}
use Rattle.scrip_form.specs.Scrip.{Scrip, scrip_body, scrip_text}
use Rattle.scrip_certs.specs.Digests.{certificate, customer_secret}
use Rattle.mc_requests.specs.Errands.{Errand, buy, errand_of}
use Rattle.mc_records.specs.Entry.{sale, Held, Entry, Accept, Licence, Stock}
use Rattle.ledger_model.specs.Histories.{History}
use Rattle.ledger_model.specs.Houses.{site_name, is_vendor, is_broker, terms_in, version}
use Rattle.ledger_model.specs.Pieces.{piece_of, is_first_hand}

-- ---- licences

-- whether an entry is the licence for a vendor
abbrev pub is_licence_of : List ℕ → Entry → Bool
is_licence_of vendor (Licence m v terms) = bytes_eq v vendor
is_licence_of vendor _ = false

abbrev pub licence_terms : Entry → Option Issuing
licence_terms (Licence m vendor terms) = Some terms
licence_terms _ = None

-- the terms of the licence for a vendor
abbrev pub licence_in : History → List ℕ → Option Issuing
licence_in h vendor = option_and_then licence_terms (find (is_licence_of vendor) h)

-- those terms, where they are of an issuer
abbrev pub of_issuer : ℕ → Issuing → Option Issuing
of_issuer issuer terms = if terms.issuer == issuer then Some terms else None

-- The terms by which a house may move an issuer of a vendor to version 2: its own issuers, of which a broker has issuer
-- 0 alone, under its own name; and at a broker the issuer of a vendor's licence, which is above 0.
unfoldable pub upgrade_terms : History → List ℕ → ℕ → Option Issuing
upgrade_terms h vendor issuer =
    if is_vendor h || issuer == 0 then (if bytes_eq vendor (site_name h) then terms_in h issuer else None)
    else if is_broker h then option_and_then (of_issuer issuer) (licence_in h vendor)
    else None

-- ---- stock

-- the pieces of a vendor that an entry puts into stock, as their texts and secrets
abbrev pub stock_of : List ℕ → Entry → List Held
stock_of vendor (Stock m v pieces) = if bytes_eq v vendor then pieces else []
stock_of vendor _ = []

-- those that were put into stock, in order
abbrev pub stock_in : History → List ℕ → List Held
stock_in h vendor = flat_map (stock_of vendor) h

-- the piece of a held text
abbrev pub held_piece : Held → Option Scrip
held_piece held = piece_of held.text

abbrev pub held_pieces : List Held → List Scrip
held_pieces helds = filter_map held_piece helds

-- the pieces of a vendor that were put into stock, in order
abbrev pub stock_pieces : History → List ℕ → List Scrip
stock_pieces h vendor = held_pieces (stock_in h vendor)

-- whether an entry is a Licence or Stock entry of a vendor
abbrev pub names_vendor : List ℕ → Entry → Bool
names_vendor vendor (Licence m v terms) = bytes_eq v vendor
names_vendor vendor (Stock m v pieces) = bytes_eq v vendor
names_vendor vendor _ = false

-- whether a broker has heard of a vendor
abbrev pub knows_vendor : History → List ℕ → Bool
knows_vendor h vendor = list_any (names_vendor vendor) h

-- ---- what stock is taken

-- the identities of some pieces, in order
abbrev pub ids_of : List Held → List ℕ
ids_of helds = filter_map (λ held. option_map (λ p. p.id) (held_piece held)) helds

-- the identities of a vendor's stock
abbrev pub stock_ids : History → List ℕ → List ℕ
stock_ids h vendor = ids_of (stock_in h vendor)

-- whether a piece may be put into stock for a vendor: it is the vendor's, of any issuer, and first-hand
abbrev pub may_be_stock : List ℕ → Scrip → Bool
may_be_stock vendor p = bytes_eq p.vendor vendor && is_first_hand p

-- whether none of some identities is known, or stands twice
abbrev pub are_new : List ℕ → List ℕ → Bool
are_new known [] = true
are_new known (id ∷ ids) = not (list_any (λ k. k == id) known) && are_new (id ∷ known) ids

-- whether some pieces may be put into stock for a vendor of which these identities are known
abbrev pub are_stock : List ℕ → List ℕ → List Held → Bool
are_stock vendor known helds =
    list_all (λ held. unwrap_or (option_map (may_be_stock vendor) (held_piece held)) false) helds && are_new known (ids_of helds)

-- ---- sales

-- what was sold: of which vendor, of what value, out of stock or not, and under which identity
pub record Sale : Type 0 where
  pub vendor : List ℕ
  pub value : ℕ
  pub stock : Bool
  pub id : ℕ

abbrev pub sale_at : Bool → ℕ → Option Errand → Option Sale
sale_at stock id (Some (buy vendor amount)) = Some (record { vendor = vendor; value = amount; stock = stock; id = id })
sale_at stock id _ = None

-- the sale of an Accept entry
abbrev pub sale_of : Entry → Option Sale
sale_of (Accept m scrip target sign price change (sale stock id)) = sale_at stock id (errand_of target)
sale_of _ = None

-- the sales of a history, in order
abbrev pub sales : History → List Sale
sales h = filter_map sale_of h

-- whether a sale is of a vendor; out of his stock; and under his licence
abbrev pub is_of_vendor : List ℕ → Sale → Bool
is_of_vendor vendor s = bytes_eq s.vendor vendor

abbrev pub is_of_stock : List ℕ → Sale → Bool
is_of_stock vendor s = s.stock && is_of_vendor vendor s

abbrev pub is_licensed : List ℕ → Sale → Bool
is_licensed vendor s = not s.stock && is_of_vendor vendor s

-- whether a piece of a vendor's in stock was sold
abbrev pub is_sold : History → List ℕ → ℕ → Bool
is_sold h vendor id = list_any (λ s. is_of_stock vendor s && s.id == id) (sales h)

-- how many pieces of a series were sold under a vendor's licence: the next serial of it
abbrev pub licensed_count : History → List ℕ → ℕ → ℕ
licensed_count h vendor series = count_by (λ s. is_licensed vendor s && series_of s.id == series) (sales h)

-- whether a piece is for sale at a time, at a value
abbrev pub is_for_sale : History → ℕ → List ℕ → ℕ → Scrip → Bool
is_for_sale h t vendor value p = p.value == value && (nat_lt t p.expires && not (is_sold h vendor p.id))

-- the first piece of a vendor in stock that is for sale
abbrev pub for_sale : History → ℕ → List ℕ → ℕ → Option Scrip
for_sale h t vendor value = find (is_for_sale h t vendor value) (stock_pieces h vendor)

-- ---- the pieces that were sold

-- a piece that is made under a licence in a version: first-hand, of this vendor, and good to the end of its series
abbrev pub licensed_piece : ℕ → Issuing → List ℕ → ℕ → ℕ → Scrip
licensed_piece version terms vendor value id =
    record { version = version; vendor = vendor; value = value; id = id; cust = id; expires = series_end terms (epoch_of id); props = [] }

-- The piece of a sale: out of stock the one of the identity, else made under the licence, in the version of its series.
-- Licences and stock stay once they stand, and the version of a series that was sold of does, so in a lawful history
-- this is the same after any later entries.
abbrev pub sold_piece : History → Sale → Option Scrip
sold_piece h s =
    if s.stock then find (λ p. p.id == s.id) (stock_pieces h s.vendor)
    else option_map (λ terms. licensed_piece (version h s.vendor (series_of s.id)) terms s.vendor s.value s.id) (licence_in h s.vendor)

-- the pieces of a vendor that were sold, in order; those out of his stock; and those under his licence
abbrev pub sold : History → List ℕ → List Scrip
sold h vendor = filter_map (sold_piece h) (filter (is_of_vendor vendor) (sales h))

abbrev pub stock_sold : History → List ℕ → List Scrip
stock_sold h vendor = filter_map (sold_piece h) (filter (is_of_stock vendor) (sales h))

abbrev pub licensed_sold : History → List ℕ → List Scrip
licensed_sold h vendor = filter_map (sold_piece h) (filter (is_licensed vendor) (sales h))

-- ---- their texts

-- whether a held text is of the piece with an identity
abbrev pub has_id : ℕ → Held → Bool
has_id id held = unwrap_or (option_map (λ p. p.id == id) (held_piece held)) false

-- the text of a piece that is made under a licence, with its certificate, and the secret of its customer
abbrev pub licensed_held : Issuing → Scrip → Held
licensed_held terms p = record { text = scrip_text p (certificate terms (scrip_body p) p.id); secret = customer_secret terms p.cust p.version }

-- the text and the secret of what was sold: those of the stock, or made under the licence
abbrev pub sold_held : History → Sale → Option Held
sold_held h s =
    if s.stock then find (has_id s.id) (stock_in h s.vendor)
    else option_map (λ terms. licensed_held terms (licensed_piece (version h s.vendor (series_of s.id)) terms s.vendor s.value s.id)) (licence_in h s.vendor)
