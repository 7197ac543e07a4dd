-- A stall that shows a vendor after one more entry.
use Rattle.std.proofs.Common.{◌≡◌, ℕ, ◌+◌, Bool, true, false, cond, eqb, ◌&&◌, ◌||◌, not, List, [], ◌∷◌, ◌++◌, Option, Some, None, refl, sym, ap, ap₂, subst, ◌∙◌, append-nil, append_assoc, find, count_by, bytes_eq, ltb, length, Result, Ok, Err, arith}
use Rattle.std.specs.Prelude.{IsTrue, option_and_then, option_map, unwrap_or, is_some, if◌then◌else◌}
use Rattle.std.specs.Option.{option_or}
use Rattle.std.specs.List.{list_any, cons_option, AllByRecursion}
use Rattle.std.proofs.lemmas.Bool.{false≢true, true≢false, and_parts, eqb-true, eq-eqb}
use Rattle.std.proofs.lemmas.List.Elements.{filter-append, filter_map-append}
use Rattle.std.proofs.lemmas.List.Folds.{list_any-append}
use Rattle.std.proofs.lemmas.Option.{same_Some}
use Rattle.std.proofs.lemmas.Slice.Eq.{bytes_eq-Decides}
use Rattle.scrip_form.specs.Identities.{series_of}
use Rattle.scrip_form.specs.Issuing.{Issuing}
use Rattle.scrip_form.specs.Scrip.{Scrip}
use Rattle.scrip_form.specs.Reading.{scrip_of}
use Rattle.mc_records.specs.Entry.{Held, Entry, Licence, Stock}
use Rattle.ledger_model.specs.Histories.{History}
use Rattle.ledger_model.specs.Stock.{is_licence_of, licence_terms, licence_in, stock_of, stock_in, names_vendor, knows_vendor, held_piece, held_pieces, ids_of, stock_ids, for_sale, may_be_stock, are_new, are_stock, Sale, sale_of, sales, is_of_vendor, is_of_stock, is_licensed, is_sold, licensed_count}
use Rattle.ledger_model.specs.Laws.{AreDistinct}
use Rattle.ledger_model.proofs.ListLaws.{counts_append, counts_cons}
use Rattle.change_issue.specs.Registers.{Register, count_in}
use Rattle.broker_stock.specs.Racks.{RackView, sold_first}
use Rattle.broker_stock.specs.Shelves.{pieces_at}
use Rattle.broker_stock.specs.declared.piece.StockPiece.{StockPiece}
use Rattle.broker_stalls.specs.Stalls.{StockIdsView, has_id, StallView, terms_of, sold_count, was_stocked, stocked_at, is_known}
use Rattle.broker_stalls.specs.Listed.{stock_piece, listed_at, listed_piece}
use Rattle.broker_stalls.proofs.StockedLaws.{fits_more, once_more}
use Rattle.broker_stalls.proofs.ListedLaws.{listed_more, ids_more, any_turned, eqb_turned}
use Rattle.broker_stalls.specs.Shown.{unsold, IsOfOther, Shows}

-- ---- one entry more

sales_snoc : (h : History) (e : Entry) → sales (h ++ e ∷ []) ≡ sales h ++ cons_option (sale_of e) []
sales_snoc h e = filter_map-append sale_of h (e ∷ [])

stock_snoc : (h : History) (e : Entry) (vendor : List ℕ) → stock_in (h ++ e ∷ []) vendor ≡ stock_in h vendor ++ stock_of vendor e
stock_snoc [] e vendor = append-nil (stock_of vendor e)
stock_snoc (x ∷ xs) e vendor = ap (λ (ps : List Held). stock_of vendor x ++ ps) (stock_snoc xs e vendor) ∙ sym (append_assoc (stock_of vendor x) (stock_in xs vendor) (stock_of vendor e))

knows_snoc : (h : History) (e : Entry) (vendor : List ℕ) → knows_vendor (h ++ e ∷ []) vendor ≡ (knows_vendor h vendor || names_vendor vendor e)
knows_snoc h e vendor = list_any-append (names_vendor vendor) h (e ∷ []) ∙ ap (λ b. knows_vendor h vendor || b) (or_false (names_vendor vendor e))
  where
    or_false : (b : Bool) → (b || false) ≡ b
    or_false true = refl
    or_false false = refl

found_snoc : (test : Entry → Bool) (h : History) (e : Entry) → test e ≡ false → find test (h ++ e ∷ []) ≡ find test h
found_snoc test [] e no_test = ap (λ b. cond b (Some e) None) no_test
found_snoc test (x ∷ xs) e no_test = ap (λ (o : Option Entry). cond (test x) (Some x) o) (found_snoc test xs e no_test)

-- ---- what an entry that names no vendor has of him

not_licence : (vendor : List ℕ) (e : Entry) → names_vendor vendor e ≡ false → is_licence_of vendor e ≡ false
not_licence vendor (Licence m v terms) none = none
not_licence vendor e none = refl

not_stock : (vendor : List ℕ) (e : Entry) → names_vendor vendor e ≡ false → stock_of vendor e ≡ []
not_stock vendor (Stock m v pieces) none = ap (λ b. cond b pieces []) none
not_stock vendor e none = refl

and_false : (a b : Bool) → b ≡ false → (a && b) ≡ false
and_false true b e = e
and_false false b e = refl

not_sold : (vendor : List ℕ) (id : ℕ) (o : Option Sale) → IsOfOther vendor o → list_any (λ s. is_of_stock vendor s && eqb s.id id) (cons_option o []) ≡ false
not_sold vendor id None other = refl
not_sold vendor id (Some s) other = rw (and_false s.stock (is_of_vendor vendor s) other) refl

not_counted : (vendor : List ℕ) (series : ℕ) (o : Option Sale) → IsOfOther vendor o → count_by (λ s. is_licensed vendor s && eqb (series_of s.id) series) (cons_option o []) ≡ 0
not_counted vendor series None other = refl
not_counted vendor series (Some s) other = rw (and_false (not s.stock) (is_of_vendor vendor s) other) refl

or_false : (a b : Bool) → b ≡ false → (a || b) ≡ a
or_false true b e = refl
or_false false b e = e

sold_same : (h : History) (vendor : List ℕ) (e : Entry) → IsOfOther vendor (sale_of e) → (id : ℕ) → is_sold (h ++ e ∷ []) vendor id ≡ is_sold h vendor id
sold_same h vendor e other id =
    ap (λ (ss : List Sale). list_any (λ s. is_of_stock vendor s && eqb s.id id) ss) (sales_snoc h e)
    ∙ list_any-append (λ s. is_of_stock vendor s && eqb s.id id) (sales h) (cons_option (sale_of e) [])
    ∙ or_false (is_sold h vendor id) _ (not_sold vendor id (sale_of e) other)

count_same : (h : History) (vendor : List ℕ) (e : Entry) → IsOfOther vendor (sale_of e) → (series : ℕ) → licensed_count (h ++ e ∷ []) vendor series ≡ licensed_count h vendor series
count_same h vendor e other series =
    let snoc = ap (λ (ss : List Sale). count_by (λ s. is_licensed vendor s && eqb (series_of s.id) series) ss) (sales_snoc h e)
    ∙ counts_append (λ s. is_licensed vendor s && eqb (series_of s.id) series) (sales h) (cons_option (sale_of e) []) in
    omega (arith, snoc, not_counted vendor series (sale_of e) other)

unsold_alike : (f g : ℕ → Bool) → ((id : ℕ) → f id ≡ g id) → (ps : List StockPiece) → unsold f ps ≡ unsold g ps
unsold_alike f g alike [] = refl
unsold_alike f g alike (p ∷ ps) = ap₂ (λ (b : Bool) (qs : List StockPiece). cond (not b) (p ∷ qs) qs) (alike p.id) (unsold_alike f g alike ps)

or_true : (a b : Bool) → b ≡ true → (a || b) ≡ true
or_true true b e = refl
or_true false b e = e

-- the identity of a held text
abbrev one_id : Held → Option ℕ
one_id held = option_map (λ p. p.id) (held_piece held)

-- the same stock fits as before, and stands once
fits_same : (vendor : List ℕ) {new old : List Held} → new ≡ old → AllByRecursion (λ p. IsTrue (may_be_stock vendor p)) (held_pieces old) → AllByRecursion (λ p. IsTrue (may_be_stock vendor p)) (held_pieces new)
fits_same vendor same fits = subst (λ (helds : List Held). AllByRecursion (λ p. IsTrue (may_be_stock vendor p)) (held_pieces helds)) (sym same) fits

once_same : {new old : List Held} → new ≡ old → AreDistinct (held_pieces old) → AreDistinct (held_pieces new)
once_same same once = subst (λ (helds : List Held). AreDistinct (held_pieces helds)) (sym same) once

-- ---- entries of others

-- an entry that neither names a vendor nor sells his scrip leaves his stall
pub stall_stays : (h : History) (vendor : List ℕ) (s : StallView) (e : Entry) → names_vendor vendor e ≡ false → IsOfOther vendor (sale_of e) → Shows h vendor s → Shows (h ++ e ∷ []) vendor s
stall_stays h vendor s e none other shows =
    let stock : stock_in (h ++ e ∷ []) vendor ≡ stock_in h vendor = stock_snoc h e vendor ∙ ap (λ (ps : List Held). stock_in h vendor ++ ps) (not_stock vendor e none) ∙ append-nil (stock_in h vendor) in
    let ids = ap ids_of stock in
    record {
      terms = shows.terms ∙ sym (ap (λ (o : Option Entry). option_and_then licence_terms o) (found_snoc (is_licence_of vendor) h e (not_licence vendor e none)));
      counts = λ series. shows.counts series ∙ sym (count_same h vendor e other series);
      ids = λ id. shows.ids id ∙ ap (λ (known : List ℕ). list_any (λ k. eqb id k) known) (sym ids);
      pieces = λ value. shows.pieces value ∙ unsold_alike (is_sold h vendor) (is_sold (h ++ e ∷ []) vendor) (λ id. sym (sold_same h vendor e other id)) (listed_at value (stock_in h vendor))
          ∙ ap (λ (helds : List Held). unsold (is_sold (h ++ e ∷ []) vendor) (listed_at value helds)) (sym stock);
      known = shows.known ∙ sym (knows_snoc h e vendor ∙ or_false (knows_vendor h vendor) (names_vendor vendor e) none);
      sold = λ id is. ap (λ (known : List ℕ). list_any (λ k. eqb id k) known) ids ∙ shows.sold id (sym (sold_same h vendor e other id) ∙ is);
      fits = fits_same vendor stock shows.fits;
      once = once_same stock shows.once;
    }

-- ---- a licence

licensed_now : (vendor : List ℕ) (h : History) (e : Entry) → licence_in h vendor ≡ None → is_licence_of vendor e ≡ true → licence_in (h ++ e ∷ []) vendor ≡ licence_terms e
licensed_now vendor [] e none is = ap (λ b. option_and_then licence_terms (cond b (Some e) None)) is
licensed_now vendor (x ∷ xs) e none is = go (is_licence_of vendor x) refl none (licensed_now vendor xs e)
  where
    has_terms : (y : Entry) → is_licence_of vendor y ≡ true → licence_terms y ≡ None → ⊥
    has_terms (Licence m v terms) licence empty = absurd cc
    has_terms y licence empty = absurd (false≢true licence)

    go : (b : Bool) → is_licence_of vendor x ≡ b → option_and_then licence_terms (cond b (Some x) (find (is_licence_of vendor) xs)) ≡ None
        → (licence_in xs vendor ≡ None → is_licence_of vendor e ≡ true → licence_in (xs ++ e ∷ []) vendor ≡ licence_terms e)
        → option_and_then licence_terms (cond (is_licence_of vendor x) (Some x) (find (is_licence_of vendor) (xs ++ e ∷ []))) ≡ licence_terms e
    go true t empty more = absurd (has_terms x t empty)
    go false t empty more = ap (λ b. option_and_then licence_terms (cond b (Some x) (find (is_licence_of vendor) (xs ++ e ∷ [])))) t ∙ more empty is

same_name : (vendor : List ℕ) → bytes_eq vendor vendor ≡ true
same_name vendor = (bytes_eq-Decides vendor vendor).1 refl

known_by_terms : (s : StallView) (terms : Issuing) → terms_of s ≡ Some terms → is_known s ≡ true
known_by_terms s terms is = go s.licence is
  where
    go : (o : Option Register) → option_map (λ r. r.terms) o ≡ Some terms → (is_some o || not (eqb (length s.ids.ids) 0)) ≡ true
    go None e = absurd cc
    go (Some r) e = refl

pub licence_shown : (h : History) (vendor : List ℕ) (s s' : StallView) (m : ℕ) (terms : Issuing) → licence_in h vendor ≡ None → terms_of s' ≡ option_or (terms_of s) (Some terms)
    → ((series : ℕ) → sold_count s' series ≡ sold_count s series) → s'.ids ≡ s.ids → s'.racks ≡ s.racks → Shows h vendor s → Shows (h ++ Licence m vendor terms ∷ []) vendor s'
licence_shown h vendor s s' m terms none taken counts ids racks shows =
    let e = Licence m vendor terms in
    let has : terms_of s' ≡ Some terms = taken ∙ ap (λ (o : Option Issuing). option_or o (Some terms)) (shows.terms ∙ none) in
    let stock : stock_in (h ++ e ∷ []) vendor ≡ stock_in h vendor = stock_snoc h e vendor ∙ append-nil (stock_in h vendor) in
    record {
      terms = has ∙ sym (licensed_now vendor h e none (same_name vendor));
      counts = λ series. counts series ∙ shows.counts series ∙ sym (count_same h vendor e tt series);
      ids = λ id. ap (λ (k : StockIdsView). has_id k id) ids ∙ shows.ids id ∙ ap (λ (helds : List Held). list_any (λ k. eqb id k) (ids_of helds)) (sym stock);
      pieces = λ value. ap (λ (r : List (ℕ × RackView)). pieces_at r value) racks ∙ shows.pieces value
          ∙ unsold_alike (is_sold h vendor) (is_sold (h ++ e ∷ []) vendor) (λ id. sym (sold_same h vendor e tt id)) (listed_at value (stock_in h vendor))
          ∙ ap (λ (helds : List Held). unsold (is_sold (h ++ e ∷ []) vendor) (listed_at value helds)) (sym stock);
      known = known_by_terms s' terms has ∙ sym (knows_snoc h e vendor ∙ or_true (knows_vendor h vendor) (names_vendor vendor e) (same_name vendor));
      sold = λ id is. ap (λ (helds : List Held). list_any (λ k. eqb id k) (ids_of helds)) stock ∙ shows.sold id (sym (sold_same h vendor e tt id) ∙ is);
      fits = fits_same vendor stock shows.fits;
      once = once_same stock shows.once;
    }

-- ---- stock

not_from : {b : Bool} → not b ≡ true → b ≡ false
not_from {b = true} e = absurd (false≢true e)
not_from {b = false} e = refl

-- pieces that are new are none of those that were sold
none_sold : (sold : ℕ → Bool) (known : List ℕ) (value : ℕ) (helds : List Held) → are_new known (ids_of helds) ≡ true → ((id : ℕ) → sold id ≡ true → list_any (λ k. eqb k id) known ≡ true)
    → unsold sold (listed_at value helds) ≡ listed_at value helds
none_sold sold known value [] new all = refl
none_sold sold known value (held ∷ helds) new all = go (scrip_of held.text) refl (λ k n a. none_sold sold k value helds n a)
  where
    go : (r : Result (Scrip × List ℕ) ℕ) → scrip_of held.text ≡ r
        → ((known' : List ℕ) → are_new known' (ids_of helds) ≡ true → ((id : ℕ) → sold id ≡ true → list_any (λ k. eqb k id) known' ≡ true) → unsold sold (listed_at value helds) ≡ listed_at value helds)
        → unsold sold (listed_at value (held ∷ helds)) ≡ listed_at value (held ∷ helds)
    go (Err place) is more =
        let same : listed_at value (held ∷ helds) ≡ listed_at value helds = rw is refl in
        let ids : ids_of (held ∷ helds) ≡ ids_of helds = rw is refl in
        ap (unsold sold) same ∙ more known (sym (ap (are_new known) ids) ∙ new) all ∙ sym same
    go (Ok x) is more =
        let parts = and_parts _ _ (sym (ap (are_new known) (ids_more held helds x is)) ∙ new) in
        let rest = more (x.0.id ∷ known) parts.1 (λ id e. ap (λ b. eqb x.0.id id || b) (all id e) ∙ any_true (eqb x.0.id id)) in
        let free : sold x.0.id ≡ false = not_true (sold x.0.id) (λ e. true≢false (sym (all x.0.id e) ∙ not_from parts.0)) in
        ap (unsold sold) (listed_more held helds x is value) ∙ here (eqb x.0.value value) free rest ∙ sym (listed_more held helds x is value)
      where
        any_true : (b : Bool) → (b || true) ≡ true
        any_true true = refl
        any_true false = refl

        not_true : (b : Bool) → (b ≡ true → ⊥) → b ≡ false
        not_true true never = absurd (never refl)
        not_true false never = refl

        here : (b : Bool) → sold x.0.id ≡ false → unsold sold (listed_at value helds) ≡ listed_at value helds
            → unsold sold (cond b (stock_piece held.secret x ∷ listed_at value helds) (listed_at value helds)) ≡ cond b (stock_piece held.secret x ∷ listed_at value helds) (listed_at value helds)
        here true f rest = ap₂ (λ (y : Bool) (ps : List StockPiece). cond (not y) (stock_piece held.secret x ∷ ps) ps) f rest
        here false f rest = rest

pub stock_shown : (h : History) (vendor : List ℕ) (s s' : StallView) (m : ℕ) (pieces : List Held) → are_stock vendor (stock_ids h vendor) pieces ≡ true → s'.licence ≡ s.licence
    → ((id : ℕ) → was_stocked s' id ≡ (was_stocked s id || list_any (λ k. eqb id k) (ids_of pieces)))
    → ((value : ℕ) → stocked_at s' value ≡ stocked_at s value ++ listed_at value pieces) → is_known s' ≡ true → Shows h vendor s → Shows (h ++ Stock m vendor pieces ∷ []) vendor s'
stock_shown h vendor s s' m pieces may licence ids stocked known shows =
    let e = Stock m vendor pieces in
    let f = is_sold h vendor in
    let stock : stock_in (h ++ e ∷ []) vendor ≡ stock_in h vendor ++ pieces = stock_snoc h e vendor ∙ ap (λ b. stock_in h vendor ++ cond b pieces []) (same_name vendor) in
    let any : (id : ℕ) → list_any (λ k. eqb id k) (stock_ids (h ++ e ∷ []) vendor) ≡ (list_any (λ k. eqb id k) (stock_ids h vendor) || list_any (λ k. eqb id k) (ids_of pieces)) =
    λ id. ap (λ (helds : List Held). list_any (λ k. eqb id k) (ids_of helds)) stock ∙ ap (λ (known : List ℕ). list_any (λ k. eqb id k) known) (filter_map-append one_id (stock_in h vendor) pieces)
    ∙ list_any-append (λ k. eqb id k) (stock_ids h vendor) (ids_of pieces) in
    let free = λ (value : ℕ). none_sold f (stock_ids h vendor) value pieces ((and_parts _ _ may).1) (λ id is. any_turned id (stock_ids h vendor) ∙ shows.sold id is) in
    record {
      terms = ap (λ (o : Option Register). option_map (λ r. r.terms) o) licence ∙ shows.terms ∙ sym (ap (λ (o : Option Entry). option_and_then licence_terms o) (found_snoc (is_licence_of vendor) h e refl));
      counts = λ series. ap (λ (o : Option Register). unwrap_or (option_map (λ r. count_in r series) o) 0) licence ∙ shows.counts series ∙ sym (count_same h vendor e tt series);
      ids = λ id. ids id ∙ ap (λ b. b || list_any (λ k. eqb id k) (ids_of pieces)) (shows.ids id) ∙ sym (any id);
      pieces = λ value. stocked value ∙ ap (λ (ps : List StockPiece). ps ++ listed_at value pieces) (shows.pieces value)
          ∙ ap (λ (ps : List StockPiece). unsold f (listed_at value (stock_in h vendor)) ++ ps) (sym (free value))
          ∙ sym (filter-append (λ (p : StockPiece). not (f p.id)) (listed_at value (stock_in h vendor)) (listed_at value pieces))
          ∙ ap (unsold f) (sym (filter_map-append (listed_piece value) (stock_in h vendor) pieces))
          ∙ unsold_alike f (is_sold (h ++ e ∷ []) vendor) (λ id. sym (sold_same h vendor e tt id)) (listed_at value (stock_in h vendor ++ pieces))
          ∙ ap (λ (helds : List Held). unsold (is_sold (h ++ e ∷ []) vendor) (listed_at value helds)) (sym stock);
      known = known ∙ sym (knows_snoc h e vendor ∙ or_true (knows_vendor h vendor) (names_vendor vendor e) (same_name vendor));
      sold = λ id is. any id ∙ ap (λ b. b || list_any (λ k. eqb id k) (ids_of pieces)) (shows.sold id (sym (sold_same h vendor e tt id) ∙ is));
      fits = fits_same vendor stock (fits_more vendor (stock_in h vendor) pieces (and_parts _ _ may).0 shows.fits);
      once = once_same stock (once_more (stock_in h vendor) pieces (and_parts _ _ may).1 shows.once);
    }

-- ---- a sale under the licence

sold_with : (h : History) (vendor : List ℕ) (e : Entry) (x : Sale) → sale_of e ≡ Some x → (id : ℕ) → is_sold (h ++ e ∷ []) vendor id ≡ (is_sold h vendor id || ((is_of_stock vendor x && eqb x.id id) || false))
sold_with h vendor e x is id =
    ap (λ (ss : List Sale). list_any (λ s. is_of_stock vendor s && eqb s.id id) ss) (sales_snoc h e)
    ∙ list_any-append (λ s. is_of_stock vendor s && eqb s.id id) (sales h) (cons_option (sale_of e) [])
    ∙ ap (λ (o : Option Sale). is_sold h vendor id || list_any (λ s. is_of_stock vendor s && eqb s.id id) (cons_option o [])) is

count_with : (h : History) (vendor : List ℕ) (e : Entry) (x : Sale) → sale_of e ≡ Some x → (series : ℕ)
    → licensed_count (h ++ e ∷ []) vendor series ≡ licensed_count h vendor series + cond (is_licensed vendor x && eqb (series_of x.id) series) 1 0
count_with h vendor e x is series =
    let test = λ (s : Sale). is_licensed vendor s && eqb (series_of s.id) series in
    let snoc : licensed_count (h ++ e ∷ []) vendor series ≡ licensed_count h vendor series + count_by test (x ∷ []) =
    ap (λ (ss : List Sale). count_by test ss) (sales_snoc h e) ∙ counts_append test (sales h) (cons_option (sale_of e) [])
    ∙ ap (λ (o : Option Sale). licensed_count h vendor series + count_by test (cons_option o [])) is in
    let one : count_by test (x ∷ []) ≡ cond (test x) 1 0 + 0 = counts_cons test x [] in
    omega (arith, snoc, one)

pub known_alike : (s s' : StallView) → terms_of s' ≡ terms_of s → s'.ids ≡ s.ids → is_known s' ≡ is_known s
known_alike s s' terms ids =
    ap₂ (λ (b : Bool) (k : StockIdsView). b || not (eqb (length k.ids) 0)) (some_of s'.licence ∙ ap is_some terms ∙ sym (some_of s.licence)) ids
  where
    some_of : (o : Option Register) → is_some o ≡ is_some (option_map (λ r. r.terms) o)
    some_of None = refl
    some_of (Some r) = refl

pub sale_shown : (h : History) (vendor : List ℕ) (s s' : StallView) (e : Entry) (value id : ℕ) → sale_of e ≡ Some (record { vendor = vendor; value = value; stock = false; id = id }) → names_vendor vendor e ≡ false
    → terms_of s' ≡ terms_of s → ((series : ℕ) → sold_count s' series ≡ sold_count s series + (if eqb (series_of id) series then 1 else 0)) → s'.ids ≡ s.ids → s'.racks ≡ s.racks
    → Shows h vendor s → Shows (h ++ e ∷ []) vendor s'
sale_shown h vendor s s' e value id is none terms counts ids racks shows =
    let x : Sale = record { vendor = vendor; value = value; stock = false; id = id } in
    let sold : (k : ℕ) → is_sold (h ++ e ∷ []) vendor k ≡ is_sold h vendor k = λ k. sold_with h vendor e x is k ∙ or_false (is_sold h vendor k) false refl in
    let stock : stock_in (h ++ e ∷ []) vendor ≡ stock_in h vendor = stock_snoc h e vendor ∙ ap (λ (ps : List Held). stock_in h vendor ++ ps) (not_stock vendor e none) ∙ append-nil (stock_in h vendor) in
    record {
      terms = terms ∙ shows.terms ∙ sym (ap (λ (o : Option Entry). option_and_then licence_terms o) (found_snoc (is_licence_of vendor) h e (not_licence vendor e none)));
      counts = λ series. counts series ∙ ap (λ (n : ℕ). n + cond (eqb (series_of id) series) 1 0) (shows.counts series)
          ∙ sym (count_with h vendor e x is series ∙ ap (λ b. licensed_count h vendor series + cond (b && eqb (series_of id) series) 1 0) (same_name vendor));
      ids = λ k. ap (λ (v : StockIdsView). has_id v k) ids ∙ shows.ids k ∙ ap (λ (helds : List Held). list_any (λ j. eqb k j) (ids_of helds)) (sym stock);
      pieces = λ u. ap (λ (r : List (ℕ × RackView)). pieces_at r u) racks ∙ shows.pieces u
          ∙ unsold_alike (is_sold h vendor) (is_sold (h ++ e ∷ []) vendor) (λ k. sym (sold k)) (listed_at u (stock_in h vendor))
          ∙ ap (λ (helds : List Held). unsold (is_sold (h ++ e ∷ []) vendor) (listed_at u helds)) (sym stock);
      known = known_alike s s' terms ids ∙ shows.known ∙ sym (knows_snoc h e vendor ∙ or_false (knows_vendor h vendor) (names_vendor vendor e) none);
      sold = λ k was. ap (λ (helds : List Held). list_any (λ j. eqb k j) (ids_of helds)) stock ∙ shows.sold k (sym (sold k) ∙ was);
      fits = fits_same vendor stock shows.fits;
      once = once_same stock shows.once;
    }

-- ---- a sale out of stock

abbrev is_free : (ℕ → Bool) → ℕ → ℕ → Scrip → Bool
is_free sold t value p = eqb p.value value && (ltb t p.expires && not (sold p.id))

neither : (a b : Bool) → (a || b) ≡ false → (a ≡ false) × (b ≡ false)
neither true b e = absurd (true≢false e)
neither false b e = (refl, e)

-- where none has an identity, its sale changes nothing
sold_other : (sold : ℕ → Bool) (id value : ℕ) (helds : List Held) → list_any (λ p. eqb p.id id) (held_pieces helds) ≡ false
    → unsold (λ k. sold k || eqb id k) (listed_at value helds) ≡ unsold sold (listed_at value helds)
sold_other sold id value [] none = refl
sold_other sold id value (held ∷ helds) none = go (scrip_of held.text) refl (sold_other sold id value helds)
  where
    go : (r : Result (Scrip × List ℕ) ℕ) → scrip_of held.text ≡ r
        → (list_any (λ p. eqb p.id id) (held_pieces helds) ≡ false → unsold (λ k. sold k || eqb id k) (listed_at value helds) ≡ unsold sold (listed_at value helds))
        → unsold (λ k. sold k || eqb id k) (listed_at value (held ∷ helds)) ≡ unsold sold (listed_at value (held ∷ helds))
    go (Err place) is more =
        let same : listed_at value (held ∷ helds) ≡ listed_at value helds = rw is refl in
        let pieces : held_pieces (held ∷ helds) ≡ held_pieces helds = rw is refl in
        ap (unsold (λ k. sold k || eqb id k)) same ∙ more (sym (ap (λ (ps : List Scrip). list_any (λ p. eqb p.id id) ps) pieces) ∙ none) ∙ sym (ap (unsold sold) same)
    go (Ok x) is more =
        let pieces : held_pieces (held ∷ helds) ≡ x.0 ∷ held_pieces helds = rw is refl in
        let parts = neither (eqb x.0.id id) _ (sym (ap (λ (ps : List Scrip). list_any (λ p. eqb p.id id) ps) pieces) ∙ none) in
        ap (unsold (λ k. sold k || eqb id k)) (listed_more held helds x is value) ∙ here (eqb x.0.value value) (eqb_turned id x.0.id ∙ parts.0) (more parts.1)
        ∙ sym (ap (unsold sold) (listed_more held helds x is value))
      where
        here : (b : Bool) → eqb id x.0.id ≡ false → unsold (λ k. sold k || eqb id k) (listed_at value helds) ≡ unsold sold (listed_at value helds)
            → unsold (λ k. sold k || eqb id k) (cond b (stock_piece held.secret x ∷ listed_at value helds) (listed_at value helds)) ≡ unsold sold (cond b (stock_piece held.secret x ∷ listed_at value helds) (listed_at value helds))
        here true other rest = ap₂ (λ (y : Bool) (ps : List StockPiece). cond (not y) (stock_piece held.secret x ∷ ps) ps) (or_false (sold x.0.id) (eqb id x.0.id) other) rest
        here false other rest = rest

-- the first that is free goes
hit : (sold : ℕ → Bool) (t value u id v : ℕ) (q : StockPiece) (others : List StockPiece) → v ≡ value → q.id ≡ id → ltb t q.expires ≡ true → sold q.id ≡ false
    → unsold (λ k. sold k || eqb id k) others ≡ unsold sold others
    → cond (eqb value u) (sold_first t (unsold sold (cond (eqb v u) (q ∷ others) others))) (unsold sold (cond (eqb v u) (q ∷ others) others)) ≡ unsold (λ k. sold k || eqb id k) (cond (eqb v u) (q ∷ others) others)
hit sold t value u id v q others same is open' free rest =
    subst (λ (w : ℕ). cond (eqb value u) (sold_first t (unsold sold (cond (eqb w u) (q ∷ others) others))) (unsold sold (cond (eqb w u) (q ∷ others) others)) ≡ unsold (λ k. sold k || eqb id k) (cond (eqb w u) (q ∷ others) others))
    (sym same) (go (eqb value u))
  where
    go : (b : Bool) → cond b (sold_first t (unsold sold (cond b (q ∷ others) others))) (unsold sold (cond b (q ∷ others) others)) ≡ unsold (λ k. sold k || eqb id k) (cond b (q ∷ others) others)
    go false = sym rest
    go true =
        ap (λ (a : Bool). sold_first t (cond (not a) (q ∷ unsold sold others) (unsold sold others))) free
        ∙ ap (λ (b : Bool). cond b (unsold sold others) (q ∷ sold_first t (unsold sold others))) open'
        ∙ sym rest
        ∙ sym (ap (λ (y : Bool). cond (not y) (q ∷ unsold (λ k. sold k || eqb id k) others) (unsold (λ k. sold k || eqb id k) others)) (or_true (sold q.id) (eqb id q.id) (eq-eqb id q.id (sym is))))

-- one before it is left
miss : (sold : ℕ → Bool) (t value u id v : ℕ) (q : StockPiece) (others : List StockPiece) → (eqb v value && (ltb t q.expires && not (sold q.id))) ≡ false → eqb id q.id ≡ false
    → cond (eqb value u) (sold_first t (unsold sold others)) (unsold sold others) ≡ unsold (λ k. sold k || eqb id k) others
    → cond (eqb value u) (sold_first t (unsold sold (cond (eqb v u) (q ∷ others) others))) (unsold sold (cond (eqb v u) (q ∷ others) others)) ≡ unsold (λ k. sold k || eqb id k) (cond (eqb v u) (q ∷ others) others)
miss sold t value u id v q others shut other rest = go (eqb v u) refl (eqb value u) refl rest
  where
    has_ended : (b : Bool) → (b && true) ≡ false → b ≡ false
    has_ended true e = e
    has_ended false e = refl

    at : (y : Bool) → (ltb t q.expires && not y) ≡ false → sold_first t (unsold sold others) ≡ unsold (λ k. sold k || eqb id k) others
        → sold_first t (cond (not y) (q ∷ unsold sold others) (unsold sold others)) ≡ cond (not y) (q ∷ unsold (λ k. sold k || eqb id k) others) (unsold (λ k. sold k || eqb id k) others)
    at true e ih = ih
    at false e ih =
        ap (λ (b : Bool). cond b (unsold sold others) (q ∷ sold_first t (unsold sold others))) (has_ended (ltb t q.expires) e) ∙ ap (λ (ps : List StockPiece). q ∷ ps) ih

    go : (c : Bool) → eqb v u ≡ c → (d : Bool) → eqb value u ≡ d → cond d (sold_first t (unsold sold others)) (unsold sold others) ≡ unsold (λ k. sold k || eqb id k) others
        → cond d (sold_first t (unsold sold (cond c (q ∷ others) others))) (unsold sold (cond c (q ∷ others) others)) ≡ unsold (λ k. sold k || eqb id k) (cond c (q ∷ others) others)
    go false cu d du ih = ih
    go true cu false du ih = ap₂ (λ (y : Bool) (ps : List StockPiece). cond (not y) (q ∷ ps) ps) (sym (or_false (sold q.id) (eqb id q.id) other)) ih
    go true cu true du ih =
        let equal : eqb v value ≡ true = eq-eqb v value (eqb-true v u cu ∙ sym (eqb-true value u du)) in
        let none = sym (ap (λ b. b && (ltb t q.expires && not (sold q.id))) equal) ∙ shut in
        at (sold q.id) none ih
        ∙ ap (λ (y : Bool). cond (not y) (q ∷ unsold (λ k. sold k || eqb id k) others) (unsold (λ k. sold k || eqb id k) others)) (sym (or_false (sold q.id) (eqb id q.id) other))

-- what is found has none of the identities that none has
found_other : (test : Scrip → Bool) (ps : List Scrip) (p : Scrip) (n : ℕ) → find test ps ≡ Some p → list_any (λ q. eqb q.id n) ps ≡ false → eqb p.id n ≡ false
found_other test [] p n found none = absurd cc
found_other test (q ∷ qs) p n found none = go (test q) found (neither (eqb q.id n) _ none) (found_other test qs p n)
  where
    go : (b : Bool) → cond b (Some q) (find test qs) ≡ Some p → (eqb q.id n ≡ false) × (list_any (λ r. eqb r.id n) qs ≡ false)
        → (find test qs ≡ Some p → list_any (λ r. eqb r.id n) qs ≡ false → eqb p.id n ≡ false) → eqb p.id n ≡ false
    go true is parts more = ap (λ (r : Scrip). eqb r.id n) (sym (same_Some q p is)) ∙ parts.0
    go false is parts more = more is parts.1

-- the first that is free goes, and no other
sells_first : (sold : ℕ → Bool) (t value u : ℕ) (helds : List Held) (p : Scrip) → AreDistinct (held_pieces helds) → find (is_free sold t value) (held_pieces helds) ≡ Some p
    → cond (eqb value u) (sold_first t (unsold sold (listed_at u helds))) (unsold sold (listed_at u helds)) ≡ unsold (λ k. sold k || eqb p.id k) (listed_at u helds)
sells_first sold t value u [] p distinct first = absurd cc
sells_first sold t value u (held ∷ helds) p distinct first = go (scrip_of held.text) refl (sells_first sold t value u helds p)
  where
    go : (r : Result (Scrip × List ℕ) ℕ) → scrip_of held.text ≡ r
        → (AreDistinct (held_pieces helds) → find (is_free sold t value) (held_pieces helds) ≡ Some p
        → cond (eqb value u) (sold_first t (unsold sold (listed_at u helds))) (unsold sold (listed_at u helds)) ≡ unsold (λ k. sold k || eqb p.id k) (listed_at u helds))
        → cond (eqb value u) (sold_first t (unsold sold (listed_at u (held ∷ helds)))) (unsold sold (listed_at u (held ∷ helds))) ≡ unsold (λ k. sold k || eqb p.id k) (listed_at u (held ∷ helds))
    go (Err place) is more =
        let same : listed_at u (held ∷ helds) ≡ listed_at u helds = rw is refl in
        let pieces : held_pieces (held ∷ helds) ≡ held_pieces helds = rw is refl in
        ap (λ (ps : List StockPiece). cond (eqb value u) (sold_first t (unsold sold ps)) (unsold sold ps)) same
        ∙ more (subst AreDistinct pieces distinct) (sym (ap (find (is_free sold t value)) pieces) ∙ first) ∙ sym (ap (unsold (λ k. sold k || eqb p.id k)) same)
    go (Ok x) is more =
        let pieces : held_pieces (held ∷ helds) ≡ x.0 ∷ held_pieces helds = rw is refl in
        let apart = subst AreDistinct pieces distinct in
        let found = sym (ap (find (is_free sold t value)) pieces) ∙ first in
        ap (λ (ps : List StockPiece). cond (eqb value u) (sold_first t (unsold sold ps)) (unsold sold ps)) (listed_more held helds x is u)
        ∙ by_first (is_free sold t value x.0) refl found apart (λ e. more apart.1 e) ∙ sym (ap (unsold (λ k. sold k || eqb p.id k)) (listed_more held helds x is u))
      where
        by_first : (b : Bool) → is_free sold t value x.0 ≡ b → cond b (Some x.0) (find (is_free sold t value) (held_pieces helds)) ≡ Some p → AreDistinct (x.0 ∷ held_pieces helds)
            → (find (is_free sold t value) (held_pieces helds) ≡ Some p
            → cond (eqb value u) (sold_first t (unsold sold (listed_at u helds))) (unsold sold (listed_at u helds)) ≡ unsold (λ k. sold k || eqb p.id k) (listed_at u helds))
            → cond (eqb value u) (sold_first t (unsold sold (cond (eqb x.0.value u) (stock_piece held.secret x ∷ listed_at u helds) (listed_at u helds)))) (unsold sold (cond (eqb x.0.value u) (stock_piece held.secret x ∷ listed_at u helds) (listed_at u helds)))
            ≡ unsold (λ k. sold k || eqb p.id k) (cond (eqb x.0.value u) (stock_piece held.secret x ∷ listed_at u helds) (listed_at u helds))
        by_first true free is' apart more =
            let p_is : x.0 ≡ p = same_Some x.0 p is' in
            let parts = and_parts _ _ free in
            let more_parts = and_parts _ _ parts.1 in
            hit sold t value u p.id x.0.value (stock_piece held.secret x) (listed_at u helds) (eqb-true x.0.value value parts.0) (ap (λ (r : Scrip). r.id) p_is) more_parts.0 (not_from more_parts.1)
            (sold_other sold p.id u helds (ap (λ (r : Scrip). list_any (λ q. eqb q.id r.id) (held_pieces helds)) (sym p_is) ∙ apart.0))
        by_first false free is' apart more =
            miss sold t value u p.id x.0.value (stock_piece held.secret x) (listed_at u helds) free (found_other (is_free sold t value) (held_pieces helds) p x.0.id is' apart.0) (more is')

-- what is found among the pieces is in stock
found_known : (test : Scrip → Bool) (helds : List Held) (p : Scrip) → find test (held_pieces helds) ≡ Some p → list_any (λ j. eqb p.id j) (ids_of helds) ≡ true
found_known test [] p found = absurd cc
found_known test (held ∷ helds) p found = go (scrip_of held.text) refl (found_known test helds p)
  where
    go : (r : Result (Scrip × List ℕ) ℕ) → scrip_of held.text ≡ r → (find test (held_pieces helds) ≡ Some p → list_any (λ j. eqb p.id j) (ids_of helds) ≡ true)
        → list_any (λ j. eqb p.id j) (ids_of (held ∷ helds)) ≡ true
    go (Err place) is more =
        let ids : ids_of (held ∷ helds) ≡ ids_of helds = rw is refl in
        let pieces : held_pieces (held ∷ helds) ≡ held_pieces helds = rw is refl in
        ap (λ (known : List ℕ). list_any (λ j. eqb p.id j) known) ids ∙ more (sym (ap (find test) pieces) ∙ found)
    go (Ok x) is more =
        let pieces : held_pieces (held ∷ helds) ≡ x.0 ∷ held_pieces helds = rw is refl in
        ap (λ (known : List ℕ). list_any (λ j. eqb p.id j) known) (ids_more held helds x is) ∙ first (test x.0) (sym (ap (find test) pieces) ∙ found)
      where
        first : (b : Bool) → cond b (Some x.0) (find test (held_pieces helds)) ≡ Some p → (eqb p.id x.0.id || list_any (λ j. eqb p.id j) (ids_of helds)) ≡ true
        first true e = ap (λ b. b || list_any (λ j. eqb p.id j) (ids_of helds)) (eq-eqb p.id x.0.id (sym (ap (λ (r : Scrip). r.id) (same_Some x.0 p e))))
        first false e = or_true (eqb p.id x.0.id) _ (more e)

pub stock_sale_shown : (h : History) (vendor : List ℕ) (s s' : StallView) (e : Entry) (t value id : ℕ) (p : Scrip) → sale_of e ≡ Some (record { vendor = vendor; value = value; stock = true; id = id })
    → names_vendor vendor e ≡ false → for_sale h t vendor value ≡ Some p → p.id ≡ id → s'.licence ≡ s.licence → s'.ids ≡ s.ids
    → ((u : ℕ) → stocked_at s' u ≡ (if eqb value u then sold_first t (stocked_at s u) else stocked_at s u)) → Shows h vendor s → Shows (h ++ e ∷ []) vendor s'
stock_sale_shown h vendor s s' e t value id p is none first same licence ids stocked shows =
    let x : Sale = record { vendor = vendor; value = value; stock = true; id = id } in
    let f = is_sold h vendor in
    let sold : (k : ℕ) → is_sold (h ++ e ∷ []) vendor k ≡ (f k || eqb p.id k) =
    λ k. sold_with h vendor e x is k ∙ ap (λ b. f k || ((b && eqb id k) || false)) (same_name vendor) ∙ ap (λ b. f k || b) (or_false (eqb id k) false refl) ∙ ap (λ (n : ℕ). f k || eqb n k) (sym same) in
    let stock : stock_in (h ++ e ∷ []) vendor ≡ stock_in h vendor = stock_snoc h e vendor ∙ ap (λ (ps : List Held). stock_in h vendor ++ ps) (not_stock vendor e none) ∙ append-nil (stock_in h vendor) in
    record {
      terms = ap (λ (o : Option Register). option_map (λ r. r.terms) o) licence ∙ shows.terms
          ∙ sym (ap (λ (o : Option Entry). option_and_then licence_terms o) (found_snoc (is_licence_of vendor) h e (not_licence vendor e none)));
      counts = λ series. ap (λ (o : Option Register). unwrap_or (option_map (λ r. count_in r series) o) 0) licence ∙ shows.counts series
          ∙ sym (let more = count_with h vendor e x is series in omega (arith, more));
      ids = λ k. ap (λ (v : StockIdsView). has_id v k) ids ∙ shows.ids k ∙ ap (λ (helds : List Held). list_any (λ j. eqb k j) (ids_of helds)) (sym stock);
      pieces = λ u. stocked u ∙ ap (λ (ps : List StockPiece). cond (eqb value u) (sold_first t ps) ps) (shows.pieces u)
          ∙ sells_first f t value u (stock_in h vendor) p shows.once first
          ∙ unsold_alike (λ k. f k || eqb p.id k) (is_sold (h ++ e ∷ []) vendor) (λ k. sym (sold k)) (listed_at u (stock_in h vendor))
          ∙ ap (λ (helds : List Held). unsold (is_sold (h ++ e ∷ []) vendor) (listed_at u helds)) (sym stock);
      known = ap₂ (λ (o : Option Register) (k : StockIdsView). is_some o || not (eqb (length k.ids) 0)) licence ids ∙ shows.known
          ∙ sym (knows_snoc h e vendor ∙ or_false (knows_vendor h vendor) (names_vendor vendor e) none);
      sold = λ k was. ap (λ (helds : List Held). list_any (λ j. eqb k j) (ids_of helds)) stock ∙ there k (f k) refl (sym (sold k) ∙ was);
      fits = fits_same vendor stock shows.fits;
      once = once_same stock shows.once;
    }
  where
    there : (k : ℕ) (b : Bool) → is_sold h vendor k ≡ b → (b || eqb p.id k) ≡ true → list_any (λ j. eqb k j) (stock_ids h vendor) ≡ true
    there k true is' any = shows.sold k is'
    there k false is' any = ap (λ (n : ℕ). list_any (λ j. eqb n j) (stock_ids h vendor)) (sym (eqb-true p.id k any)) ∙ found_known (is_free (is_sold h vendor) t value) (stock_in h vendor) p first
