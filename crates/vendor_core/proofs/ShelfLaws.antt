-- What a shelf represents at one more entry, and what it answers.
use Rattle.std.proofs.Common.{◌≡◌, ℕ, ◌+◌, ◌-◌, ◌<◌, ◌≤◌, Bool, true, false, cond, List, [], ◌∷◌, ◌++◌, length, map, filter_map, Option, Some, None, Ok, Err, option_map, unwrap_or, is_some, IsNone, refl, sym, ap, subst, ◌∙◌, slice_get, arith, append-nil}
use Rattle.std.specs.Prelude.{◌||◌, bytes_eq, ◌==◌, option_and_then, IfSome}
use Rattle.house_state.specs.Trade.{contents_in, IsInForce}
use Rattle.std.specs.List.{list_any}
use Rattle.std.proofs.lemmas.Bool.{false≢true, lt-ltb, le-ltb}
use Rattle.std.proofs.lemmas.List.{map-append}
use Rattle.std.proofs.lemmas.List.Elements.{filter_map-append}
use Rattle.std.proofs.lemmas.List.Folds.{list_any-append}
use Rattle.std.proofs.lemmas.Slice.Eq.{bytes_eq-Decides}
use Rattle.std.proofs.lemmas.Option.{slice_get_within, IfSome_then, same_Some}
use Rattle.scrip_form.specs.Issuing.{Issuing}
use Rattle.mc_requests.specs.declared.limits.Limits.{Limits}
use Rattle.mc_requests.specs.declared.refusal.Refusal.TheVariants.{TooLittle}
use Rattle.mc_records.specs.Entry.{Entry, Goods, Mint, goods_deed}
use Rattle.ledger_model.specs.declared.numbers.TheConstants.{VENDOR_KIND, MOST_IN_FORCE}
use Rattle.ledger_model.specs.Histories.{History}
use Rattle.ledger_model.specs.Houses.{site_kind, terms_of, all_terms, terms_in}
use Rattle.ledger_model.specs.Goods.{goods_in, goods_price, goods_kind, goods_contents, price_in, bytes_in, in_force}
use Rattle.ledger_model.specs.Answer.{offer, broker_offer}
use Rattle.ledger_model.specs.Lines.{Refuse}
use Rattle.ledger_model.specs.Stages.{shelf_by}
use Rattle.ledger_model.specs.Pieces.{reference_of, has_reference}
use Rattle.ledger_model.specs.Replies.{Contents, no_contents, goods_brought, brought, price_asked, sale_price}
use Rattle.ledger_model.proofs.ListLaws.{get_stays, get_end}
use Rattle.name_places.specs.NamePlaces.{NamePlacesView, place_of}
use Rattle.vendor_core.specs.declared.minted.Minting.{Minting}
use Rattle.vendor_core.specs.declared.edition.Article.{Article}
use Rattle.vendor_core.specs.declared.catalogue.Catalogue.{Catalogue}
use Rattle.vendor_core.specs.Editions.{edition_of, sold_at, goods_entry, bytes_of_edition, Sold, sold_by_entry, sold_by, IsEditionOf, IsSoldAt}
use Rattle.vendor_core.specs.Catalogue.{CatalogueRepresents, HasEdition}
use Rattle.vendor_core.specs.Shelf.{IsMintOf, Shows, IsMinting}
use Rattle.vendor_core.proofs.ListLemmas.{find_any, any_map}
use Rattle.vendor_core.proofs.GoodsLaws.{BringsNoGoods, bytes_of, in_force_quiet, in_force_goods, in_force_most, bytes_eq_turned}
use Rattle.vendor_core.proofs.CatalogueLaws.{goods_quiet}

abbrev some_entry : Entry → Option Entry
some_entry e = Some e

-- ---- mints at one more entry

-- the mint of a place is what its entry says, also once more entries and mints stand there
mint_stays : (h : History) (e : Entry) (reference : List ℕ) (mints more : List Minting) (i : ℕ) → IsMintOf h reference (slice_get mints i) → IsMintOf (h ++ e ∷ []) reference (slice_get (mints ++ more) i)
mint_stays h e reference mints more i of = go (slice_get mints i) refl of
  where
    go : (o : Option Minting) → slice_get mints i ≡ o → IsMintOf h reference o → IsMintOf (h ++ e ∷ []) reference (slice_get (mints ++ more) i)
    go None is of = absurd of
    go (Some x) is of =
        let same : slice_get (mints ++ more) i ≡ Some x = get_stays mints more i (slice_get_within mints i x is) ∙ is in
        subst (IsMintOf (h ++ e ∷ []) reference) (sym same)
        (of.0, get_stays h (e ∷ []) x.number (slice_get_within h x.number (Mint of.0 reference x.count x.value x.first) of.1) ∙ of.1)

-- the mints of the places of references are what a history says of them
abbrev pub AreMints : NamePlacesView → List Minting → History → Type 0
AreMints references mints h = (reference : List ℕ) → IfSome (place_of references reference) (λ i. IsMintOf h reference (slice_get mints i))

mints_stay : (h : History) (e : Entry) (references : NamePlacesView) (mints : List Minting) → AreMints references mints h → AreMints references mints (h ++ e ∷ [])
mints_stay h e references mints of reference = IfSome_then (place_of references reference) (of reference)
    (λ i at. subst (λ (xs : List Minting). IsMintOf (h ++ e ∷ []) reference (slice_get xs i)) (append-nil mints) (mint_stays h e reference mints [] i at))

-- whether a reference stands once an entry comes
reference_more : (h : History) (e : Entry) (reference : List ℕ)
    → has_reference (h ++ e ∷ []) reference ≡ (has_reference h reference || list_any (λ r. bytes_eq r reference) (filter_map reference_of (e ∷ [])))
reference_more h e reference =
    ap (list_any (λ r. bytes_eq r reference)) (filter_map-append reference_of h (e ∷ []))
    ∙ list_any-append (λ r. bytes_eq r reference) (filter_map reference_of h) (filter_map reference_of (e ∷ []))

or_false : (b : Bool) → (b || false) ≡ b
or_false true = refl
or_false false = refl

-- ---- one more entry

issuers_more : (h : History) (e : Entry) (issuers : List ℕ) → map (λ t. t.issuer) (all_terms h) ≡ issuers
    → map (λ t. t.issuer) (all_terms (h ++ e ∷ [])) ≡ issuers ++ map (λ t. t.issuer) (filter_map terms_of (e ∷ []))
issuers_more h e issuers is =
    ap (map (λ t. t.issuer)) (filter_map-append terms_of h (e ∷ [])) ∙ map-append (λ (t : Issuing). t.issuer) (all_terms h) (filter_map terms_of (e ∷ [])) ∙ ap (λ (xs : List ℕ). xs ++ map (λ t. t.issuer) (filter_map terms_of (e ∷ []))) is

-- an entry that brings no reference leaves them as they are
references_stay : (h : History) (e : Entry) (references : NamePlacesView) → filter_map reference_of (e ∷ []) ≡ []
    → ((reference : List ℕ) → has_reference h reference ≡ is_some (place_of references reference))
    → (reference : List ℕ) → has_reference (h ++ e ∷ []) reference ≡ is_some (place_of references reference)
references_stay h e references none same reference =
    reference_more h e reference ∙ ap (λ (xs : List (List ℕ)). has_reference h reference || list_any (λ r. bytes_eq r reference) xs) none
    ∙ or_false (has_reference h reference) ∙ same reference

-- an entry that brings no goods and no reference, of which issuers are these
pub quiet_learned : (c : Catalogue) (issuers more : List ℕ) (references : NamePlacesView) (mints : List Minting) (bytes : ℕ) (h : History) (e : Entry) → BringsNoGoods e → bytes_in [] e ≡ 0
    → issuers ++ map (λ t. t.issuer) (filter_map terms_of (e ∷ [])) ≡ more → filter_map reference_of (e ∷ []) ≡ []
    → Shows c issuers references mints bytes h → Shows c more references mints bytes (h ++ e ∷ [])
quiet_learned c issuers more references mints bytes h e quiet none same_issuers no_reference s = record {
  of_goods = goods_quiet c.editions.entries c.on_sale c.replaced.items h e quiet s.of_goods;
  all_issuers = issuers_more h e issuers s.all_issuers ∙ same_issuers;
  all_references = references_stay h e references no_reference s.all_references;
  of_mints = mints_stay h e references mints s.of_mints;
  in_force = in_force_quiet h e quiet none ∙ s.in_force;
  most = s.most;
}

pub goods_learned : (c new : Catalogue) (issuers : List ℕ) (references : NamePlacesView) (mints : List Minting) (bytes now : ℕ) (h : History) (moment : ℕ) (target : List ℕ) (a : Article)
    → CatalogueRepresents new (h ++ goods_entry moment target a ∷ []) → now ≡ in_force (h ++ goods_entry moment target a ∷ []) → now ≤ MOST_IN_FORCE
    → Shows c issuers references mints bytes h → Shows new issuers references mints now (h ++ goods_entry moment target a ∷ [])
goods_learned c new issuers references mints bytes now h moment target a goods is_now most s = record {
  of_goods = goods;
  all_issuers = issuers_more h (goods_entry moment target a) issuers s.all_issuers ∙ append-nil issuers;
  all_references = references_stay h (goods_entry moment target a) references refl s.all_references;
  of_mints = mints_stay h (goods_entry moment target a) references mints s.of_mints;
  in_force = sym is_now;
  most = most;
}

-- the entry of what is minted under a reference at a moment
abbrev pub mint_entry : ℕ → List ℕ → Minting → Entry
mint_entry m reference x = Mint m reference x.count x.value x.first

pub mint_learned : (c : Catalogue) (issuers : List ℕ) (references now : NamePlacesView) (mints : List Minting) (bytes : ℕ) (h : History) (m place : ℕ) (reference : List ℕ) (x : Minting)
    → x.number ≡ length h → place ≡ length mints → ((q : List ℕ) → place_of now q ≡ cond (bytes_eq q reference) (Some place) (place_of references q))
    → Shows c issuers references mints bytes h → Shows c issuers now (mints ++ x ∷ []) bytes (h ++ mint_entry m reference x ∷ [])
mint_learned c issuers references now mints bytes h m place reference x is_number is_place names s = record {
  of_goods = goods_quiet c.editions.entries c.on_sale c.replaced.items h e (λ target. refl) s.of_goods;
  all_issuers = issuers_more h e issuers s.all_issuers ∙ append-nil issuers;
  all_references = λ q. reference_more h e q ∙ found q (bytes_eq q reference) refl ∙ sym (ap is_some (names q));
  of_mints = λ q. subst (λ (o : Option ℕ). IfSome o (λ i. IsMintOf (h ++ e ∷ []) q (slice_get (mints ++ x ∷ []) i))) (sym (names q)) (minted q (bytes_eq q reference) refl);
  in_force = in_force_quiet h e (λ target. refl) refl ∙ s.in_force;
  most = s.most;
}
  where
    e : Entry
    e = mint_entry m reference x

    found : (q : List ℕ) (b : Bool) → bytes_eq q reference ≡ b
        → (has_reference h q || (bytes_eq reference q || false)) ≡ is_some (cond b (Some place) (place_of references q))
    found q true is = ap (λ (b : Bool). has_reference h q || (b || false)) (bytes_eq_turned reference q ∙ is) ∙ or_true (has_reference h q)
      where
        or_true : (b : Bool) → (b || true) ≡ true
        or_true true = refl
        or_true false = refl
    found q false is = ap (λ (b : Bool). has_reference h q || (b || false)) (bytes_eq_turned reference q ∙ is) ∙ or_false (has_reference h q) ∙ s.all_references q

    minted : (q : List ℕ) (b : Bool) → bytes_eq q reference ≡ b
        → IfSome (cond b (Some place) (place_of references q)) (λ i. IsMintOf (h ++ e ∷ []) q (slice_get (mints ++ x ∷ []) i))
    minted q true is =
        let same : reference ≡ q = sym ((bytes_eq-Decides q reference).0 is) in
        let there : slice_get (mints ++ x ∷ []) place ≡ Some x = ap (slice_get (mints ++ x ∷ [])) is_place ∙ get_end mints x in
        subst (IsMintOf (h ++ e ∷ []) q) (sym there)
        (m, ap (slice_get (h ++ e ∷ [])) is_number ∙ get_end h e ∙ ap (λ (r : List ℕ). some_entry (mint_entry m r x)) same)
    minted q false is = IfSome_then (place_of references q) (s.of_mints q) (λ i at. mint_stays h e q mints (x ∷ []) i at)

-- ---- nothing

pub shelf_none : (c : Catalogue) (issuers : List ℕ) (references : NamePlacesView) (mints : List Minting) → CatalogueRepresents c [] → issuers ≡ [] → ((q : List ℕ) → place_of references q ≡ None)
    → Shows c issuers references mints 0 []
shelf_none c issuers references mints goods none nowhere = record {
  of_goods = goods;
  all_issuers = sym none;
  all_references = λ q. sym (ap is_some (nowhere q));
  of_mints = λ q. subst (λ (o : Option ℕ). IfSome o (λ i. IsMintOf [] q (slice_get mints i))) (sym (nowhere q)) tt;
  in_force = refl;
  most = omega arith;
}

-- ---- the same, kept otherwise

-- only the catalogue is another one, and represents the same goods
pub goods_only : (c new : Catalogue) (issuers : List ℕ) (references : NamePlacesView) (mints : List Minting) (bytes : ℕ) (h : History)
    → CatalogueRepresents new h → Shows c issuers references mints bytes h → Shows new issuers references mints bytes h
goods_only c new issuers references mints bytes h goods s = record {
  of_goods = goods;
  all_issuers = s.all_issuers;
  all_references = s.all_references;
  of_mints = s.of_mints;
  in_force = s.in_force;
  most = s.most;
}

-- only the references are kept otherwise, and have the same places
pub references_only : (c : Catalogue) (issuers : List ℕ) (references now : NamePlacesView) (mints : List Minting) (bytes : ℕ) (h : History)
    → ((q : List ℕ) → place_of now q ≡ place_of references q) → Shows c issuers references mints bytes h → Shows c issuers now mints bytes h
references_only c issuers references now mints bytes h same s = record {
  of_goods = s.of_goods;
  all_issuers = s.all_issuers;
  all_references = λ q. s.all_references q ∙ sym (ap is_some (same q));
  of_mints = λ q. subst (λ (o : Option ℕ). IfSome o (λ i. IsMintOf h q (slice_get mints i))) (sym (same q)) (s.of_mints q);
  in_force = s.in_force;
  most = s.most;
}

-- ---- the trade's half

pub issuer_is_new : (c : Catalogue) (issuers : List ℕ) (references : NamePlacesView) (mints : List Minting) (bytes : ℕ) (h : History) (issuer : ℕ) → Shows c issuers references mints bytes h
    → is_some (terms_in h issuer) ≡ list_any (λ i. i == issuer) issuers
issuer_is_new c issuers references mints bytes h issuer s =
    find_any (λ (t : Issuing). t.issuer == issuer) (all_terms h) ∙ sym (any_map (λ (t : Issuing). t.issuer) (λ i. i == issuer) (all_terms h)) ∙ ap (list_any (λ i. i == issuer)) s.all_issuers

-- what was minted under a reference is what its entry says, and it is new where nothing was
pub reference_is_minted : (c : Catalogue) (issuers : List ℕ) (references : NamePlacesView) (mints : List Minting) (bytes : ℕ) (h : History) (reference : List ℕ) (i : ℕ) (o : Option Minting)
    → Shows c issuers references mints bytes h → place_of references reference ≡ Some i → o ≡ slice_get mints i → IsMinting h reference o
reference_is_minted c issuers references mints bytes h reference i o s place is =
    go o (subst (IsMintOf h reference) (sym is) (subst (λ (p : Option ℕ). IfSome p (λ i. IsMintOf h reference (slice_get mints i))) place (s.of_mints reference)))
  where
    go : (o : Option Minting) → IsMintOf h reference o → IsMinting h reference o
    go None of = absurd of
    go (Some x) of = of

pub issuer_is_taken : (c : Catalogue) (issuers : List ℕ) (references : NamePlacesView) (mints : List Minting) (bytes : ℕ) (h : History) (issuer : ℕ) → Shows c issuers references mints bytes h
    → list_any (λ i. i == issuer) issuers ≡ true → IsNone (terms_in h issuer) → ⊥
issuer_is_taken c issuers references mints bytes h issuer s taken none = false≢true (sym none ∙ issuer_is_new c issuers references mints bytes h issuer s ∙ taken)

pub issuer_is_free : (c : Catalogue) (issuers : List ℕ) (references : NamePlacesView) (mints : List Minting) (bytes : ℕ) (h : History) (issuer : ℕ) → Shows c issuers references mints bytes h
    → list_any (λ i. i == issuer) issuers ≡ false → IsNone (terms_in h issuer)
issuer_is_free c issuers references mints bytes h issuer s free = issuer_is_new c issuers references mints bytes h issuer s ∙ free

-- ---- what is on sale

sold_brings : (o : Option Entry) (s : Sold) → option_map sold_by_entry o ≡ Some s → unwrap_or (option_map goods_brought o) no_contents ≡ s.brings
sold_brings None s e = absurd cc
sold_brings (Some x) s e = let same : sold_by_entry x ≡ s = cc in ap (λ (y : Sold). y.brings) same

-- goods of which an article is sold are there, of its kind and contents
pub goods_sold : (o : Option Entry) (a : Article) (kind : ℕ) (bytes : List ℕ) → ◌≡◌ {A = Contents} (record { kind = kind; bytes = bytes }) (sold_by a).brings → option_map sold_by_entry o ≡ Some (sold_by a)
    → (e : Entry) × (o ≡ Some e) × (goods_kind e ≡ kind) × (goods_contents e ≡ bytes)
goods_sold None a kind bytes brings e = absurd cc
goods_sold (Some x) a kind bytes brings e =
    let same : sold_by_entry x ≡ sold_by a = same_Some (sold_by_entry x) (sold_by a) e in
    let both : (sold_by_entry x).brings ≡ record { kind = kind; bytes = bytes } = ap (λ (s : Sold). s.brings) same ∙ sym brings in
    (x, refl, ap (λ (b : Contents). b.kind) both, ap (λ (b : Contents). b.bytes) both)

-- where nothing is sold there are none
pub no_goods : (o : Option Entry) → option_map sold_by_entry o ≡ None → o ≡ None
no_goods None e = refl
no_goods (Some x) e = absurd cc

abbrev pub some_number : ℕ → Option ℕ
some_number n = Some n

price_is : (x : Option Entry) (o : Option Article) → option_map sold_by_entry x ≡ option_map sold_by o → option_map goods_price x ≡ option_map (λ a. a.price) o
price_is None None e = refl
price_is None (Some a) e = absurd cc
price_is (Some x) None e = absurd cc
price_is (Some x) (Some a) e = ap (λ (s : Sold). some_number s.price) (same_Some (sold_by_entry x) (sold_by a) e)

-- the price of what a vendor sells at a target
pub price_sold : (h : History) (target : List ℕ) (o : Option Article) → site_kind h ≡ Some VENDOR_KIND → option_map sold_by_entry (goods_in h target) ≡ option_map sold_by o
    → option_map (λ a. a.price) o ≡ price_asked h target
price_sold h target o kind sells =
    sym (price_is (goods_in h target) o sells)
    ∙ sym (ap (λ (k : Option ℕ). cond (unwrap_or (option_map (λ kind. kind == 0) k) false) (price_in h target) (sale_price h target)) kind)

-- what a vendor offers at a target
pub offer_is : (h : History) (t : ℕ) (limits : Limits) (target : List ℕ) (value : ℕ) (o : Option Article) → site_kind h ≡ Some VENDOR_KIND → option_map sold_by_entry (goods_in h target) ≡ option_map sold_by o
    → offer h t limits target value ≡ shelf_by (option_map (λ a. a.price) o) value
offer_is h t limits target value o kind sells =
    ap (λ (k : Option ℕ). cond (unwrap_or (option_map (λ kind. kind == 0) k) false) (shelf_by (price_in h target) value) (broker_offer h t limits target value)) kind
    ∙ ap (λ (p : Option ℕ). shelf_by p value) (price_is (goods_in h target) o sells)

pub shelf_low : (price value : ℕ) → value < price → shelf_by (Some price) value ≡ Err (Refuse (TooLittle price))
shelf_low price value low = rw (lt-ltb value price low) refl

pub shelf_high : (price value : ℕ) → price ≤ value → shelf_by (Some price) value ≡ Ok (record { price = price; deed = goods_deed })
shelf_high price value high = rw (le-ltb value price high) refl

abbrev some_contents : Contents → Option Contents
some_contents c = Some c

-- what the goods of the edition of a number bring
edition_brings : (h : History) (number : ℕ) (w : Article) → IsEditionOf h number w → option_and_then contents_in (slice_get h number) ≡ Some (sold_by w).brings
edition_brings h number w of = ap (option_and_then contents_in) of.entry

-- what the edition of a number brings
pub edition_is_brought : (c : Catalogue) (h : History) (number : ℕ) (w : Article) → CatalogueRepresents c h → edition_of c.editions.entries number ≡ Some w
    → option_and_then contents_in (slice_get h number) ≡ Some (sold_by w).brings
edition_is_brought c h number w s found = edition_brings h number w (subst (λ (o : Option Article). IfSome o (IsEditionOf h number)) found (s.of_entries number))

pub none_is_held : (c : Catalogue) (number : ℕ) → edition_of c.editions.entries number ≡ None → HasEdition c number → ⊥
none_is_held c number none has = false≢true (sym (ap is_some none) ∙ has)

-- what a target sells is the edition of the number that it names
pub sold_is_there : (c : Catalogue) (target : List ℕ) (n : ℕ) (a : Article) → place_of c.on_sale target ≡ Some n → sold_at c.editions.entries c.on_sale target ≡ Some a
    → edition_of c.editions.entries n ≡ Some a
sold_is_there c target n a place sold = sym (ap (option_and_then (edition_of c.editions.entries)) place) ∙ sold

-- and so it is held
pub sold_is_held : (c : Catalogue) (target : List ℕ) (n : ℕ) (a : Article) → place_of c.on_sale target ≡ Some n → sold_at c.editions.entries c.on_sale target ≡ Some a → HasEdition c n
sold_is_held c target n a place sold = ap is_some (sold_is_there c target n a place sold)

-- it is what the target's goods bring
pub sold_is_brought : (c : Catalogue) (h : History) (target : List ℕ) (n : ℕ) (a : Article) → CatalogueRepresents c h → place_of c.on_sale target ≡ Some n
    → sold_at c.editions.entries c.on_sale target ≡ Some a → option_and_then contents_in (slice_get h n) ≡ Some (brought h target goods_deed)
sold_is_brought c h target n a s place sold =
    edition_is_brought c h n a s (sold_is_there c target n a place sold)
    ∙ ap some_contents (sym (sold_brings (goods_in h target) (sold_by a) (s.sells target ∙ ap (option_map sold_by) sold)))

-- and it is in force
pub sold_is_in_force : (c : Catalogue) (h : History) (target : List ℕ) (n : ℕ) → CatalogueRepresents c h → place_of c.on_sale target ≡ Some n → IsInForce h n
sold_is_in_force c h target n s place = (subst (λ (o : Option ℕ). IfSome o (IsSoldAt h c.editions.entries target)) place (s.of_targets target)).in_force

-- ---- bytes on sale

sold_bytes : Option Sold → ℕ
sold_bytes o = length (unwrap_or (option_map (λ s. s.brings.bytes) o) [])

by_entry : (o : Option Entry) → sold_bytes (option_map sold_by_entry o) ≡ bytes_of o
unfolding sold_bytes
by_entry None = refl
by_entry (Some x) = refl

by_edition : (o : Option Article) → sold_bytes (option_map sold_by o) ≡ bytes_of_edition o
unfolding sold_bytes
by_edition None = refl
by_edition (Some x) = refl

-- what is on sale once a Goods entry comes
pub in_force_now : (c : Catalogue) (issuers : List ℕ) (references : NamePlacesView) (mints : List Minting) (bytes old : ℕ) (h : History) (m price kind : ℕ) (target contents : List ℕ) → Shows c issuers references mints bytes h
    → old ≡ bytes_of_edition (sold_at c.editions.entries c.on_sale target) → in_force (h ++ Goods m target price kind contents ∷ []) ≡ (bytes - old) + length contents
in_force_now c issuers references mints bytes old h m price kind target contents s is =
    let same : bytes_of (goods_in h target) ≡ old = sym (by_entry (goods_in h target)) ∙ ap sold_bytes (s.of_goods.sells target) ∙ by_edition (sold_at c.editions.entries c.on_sale target) ∙ sym is in
    let most : bytes_of (goods_in h target) ≤ in_force h = in_force_most h target in
    omega (arith, in_force_goods h m price kind target contents, same, s.in_force, most)

-- the article that is ready is that of the entry
pub article_is : (m : ℕ) (target : List ℕ) (o : Option Article) (e : Entry) (a : Article) → o ≡ Some a → option_map (goods_entry m target) o ≡ Some e → goods_entry m target a ≡ e
article_is m target None e a is ready = absurd cc
article_is m target (Some b) e a is ready = let same : b ≡ a = cc in let same_entry : goods_entry m target b ≡ e = cc in ap (goods_entry m target) (sym same) ∙ same_entry
