-- What a shelf represents.
use Rattle.std.specs.Prelude.{◌≡◌, ℕ, ◌<◌, ◌≤◌, IsFalse, IfSome, is_some, List, length, map, Option, Some, None, option_map, slice_get, vec_len, vec_capacity}
use Rattle.mc_records.specs.Entry.{Entry, Site, AddTerms, Goods, Mint}
use Rattle.ledger_model.specs.declared.numbers.TheConstants.{VENDOR_KIND, MOST_IN_FORCE}
use Rattle.ledger_model.specs.Histories.{History}
use Rattle.ledger_model.specs.Houses.{all_terms}
use Rattle.ledger_model.specs.Goods as goods
use Rattle.ledger_model.specs.Goods.{goods_in, goods_kind, goods_price, goods_contents, goods_targets}
use Rattle.ledger_model.specs.Pieces.{has_reference}
use Rattle.house_state.specs.declared.offer.Body.{Body}
use Rattle.house_state.specs.Trade.{TradeView}
use Rattle.name_places.specs.NamePlaces.{NamePlacesView, place_of}
use Rattle.vendor_core.specs.declared.minted.Minting.{Minting}
use Rattle.vendor_core.specs.declared.catalogue.Catalogue.{Catalogue}
use Rattle.vendor_core.specs.declared.edition.Article.{Article}
use Rattle.vendor_core.specs.declared.shelf.OnSale.{OnSale}
use Rattle.vendor_core.specs.declared.shelf.Shelf.{Shelf}
use Rattle.vendor_core.specs.Editions.{goods_entry}
use Rattle.vendor_core.specs.Catalogue.{CatalogueRepresents, HasEdition, HasRoomAt}

-- what was minted under a reference is what the entry of its number says
abbrev pub IsMintOf : History → List ℕ → Option Minting → Type 0
IsMintOf h reference None = ⊥
IsMintOf h reference (Some x) = (moment : ℕ) × (slice_get h x.number ≡ Some (Mint moment reference x.count x.value x.first))

-- Goods, issuers, mints by the places of their references, and bytes of contents are what a history says of
-- them.
pub record Shows (catalogue : Catalogue) (issuers : List ℕ) (references : NamePlacesView) (mints : List Minting) (bytes : ℕ) (h : History) : Type 0 where
  pub of_goods : CatalogueRepresents catalogue h
  pub all_issuers : map (λ t. t.issuer) (all_terms h) ≡ issuers
  pub all_references : (reference : List ℕ) → has_reference h reference ≡ is_some (place_of references reference)
  pub of_mints : (reference : List ℕ) → IfSome (place_of references reference) (λ i. IsMintOf h reference (slice_get mints i))
  pub in_force : goods.in_force h ≡ bytes
  pub most : bytes ≤ MOST_IN_FORCE

-- a shelf represents a history, of whose goods it lists the targets
abbrev pub ShelfRepresents : Shelf → History → Type 0
ShelfRepresents s h = Shows s.catalogue s.issuers.items s.references s.mints.items s.in_force h × (goods_targets h ≡ s.targets.listed)

-- a shelf has the contents of the Goods entry of this number
abbrev pub HasGoods : Shelf → ℕ → Type 0
HasGoods s number = HasEdition s.catalogue number

-- room for an edition, with the article ready
pub record HasRoomForGoods (s : Shelf) (e : Entry) (m : ℕ) (target : List ℕ) : Type 0 where
  pub place : HasRoomAt s.catalogue target
  pub listed : s.targets.next ≡ Some target
  pub ready : option_map (goods_entry m target) s.next_article ≡ Some e

-- room for a mint
pub record HasRoomForMint (s : Shelf) (reference : List ℕ) : Type 0 where
  pub place : vec_len s.mints < vec_capacity s.mints
  pub name : s.references.room ≡ Some reference

-- there is room for what an entry adds
abbrev pub HasRoom : Shelf → Entry → Type 0
HasRoom s (Site m kind name house) = vec_len s.issuers < vec_capacity s.issuers
HasRoom s (AddTerms m terms) = vec_len s.issuers < vec_capacity s.issuers
HasRoom s (Goods m target price kind contents) = HasRoomForGoods s (Goods m target price kind contents) m target
HasRoom s (Mint m reference count value first) = HasRoomForMint s reference
HasRoom s _ = Unit {0}

-- what a shelf means: the trade of a vendor
abbrev pub shelf_view : Shelf → TradeView
shelf_view s = record { represents = ShelfRepresents s; site = VENDOR_KIND; has_room = HasRoom s; holds = HasGoods s }

-- ---- what it is asked

-- what a target sells by an article, and by its Goods entry
abbrev pub on_sale_by : Article → OnSale
on_sale_by a = record { price = a.price; kind = a.kind; length = length a.contents.items }

abbrev pub on_sale_of : Entry → OnSale
on_sale_of e = record { price = goods_price e; kind = goods_kind e; length = length (goods_contents e) }

-- what a target sells, where it sells something
abbrev pub on_sale_in : History → List ℕ → Option OnSale
on_sale_in h target = option_map on_sale_of (goods_in h target)

-- what was minted under a reference, which is new where there is none
abbrev pub IsMinting : History → List ℕ → Option Minting → Type 0
IsMinting h reference None = IsFalse (has_reference h reference)
IsMinting h reference (Some x) = (moment : ℕ) × (slice_get h x.number ≡ Some (Mint moment reference x.count x.value x.first))

-- the goods in force of a target
abbrev pub AreGoods : History → List ℕ → Option Body → Type 0
AreGoods h target None = goods_in h target ≡ None
AreGoods h target (Some x) = (e : Entry) × (goods_in h target ≡ Some e) × (goods_kind e ≡ x.kind) × (goods_contents e ≡ x.bytes.now)
