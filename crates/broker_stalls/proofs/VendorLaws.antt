-- The stalls of all vendors where one of them changes, and after one more entry.
use Rattle.std.proofs.Common.{◌≡◌, ℕ, zero, suc, ◌+◌, ◌<◌, Bool, true, false, cond, List, [], ◌∷◌, ◌++◌, length, get_or, Option, Some, None, refl, sym, ap, ap₂, subst, ◌∙◌, arith, bytes_eq, length-append}
use Rattle.std.specs.Prelude.{IsSome, IfSome, option_and_then, option_map, unwrap_or, is_none, is_some, slice_get}
use Rattle.std.specs.Bool.{OnTrue}
use Rattle.std.specs.Option.{option_or}
use Rattle.std.specs.Borrow.{Bor}
use Rattle.std.proofs.Math.ListN.{set}
use Rattle.std.proofs.lemmas.Bool.{false≢true, true≢false}
use Rattle.std.proofs.lemmas.Option.{slice_get_read, same_Some}
use Rattle.std.proofs.lemmas.Slice.Eq.{bytes_eq-Decides}
use Rattle.scrip_form.specs.Issuing.{Issuing}
use Rattle.scrip_form.specs.Scrip.{Scrip}
use Rattle.mc_records.specs.Entry.{Held, Entry, Accept, Licence, Stock, moment_of}
use Rattle.mc_requests.specs.Errands.{Errand, buy, pay_in, draw, errand_of}
use Rattle.mc_requests.specs.ErrandViews.{errand}
use Rattle.mc_records.specs.Views.{deed_of, entry}
use Rattle.mc_requests.specs.declared.errand.Errand as errands
use Rattle.mc_records.specs.declared.record.Record.{Record}
use Rattle.mc_records.specs.declared.terms.RecordTerms.{RecordTerms}
use Rattle.mc_records.specs.declared.record.Record.TheVariants as records
use Rattle.mc_records.specs.declared.record.RecordDeed.{RecordDeed}
use Rattle.mc_records.specs.declared.record.RecordDeed.TheVariants as deeds
use Rattle.mc_records.specs.declared.piece_list.PieceList.{PieceList}
use Rattle.ledger_model.specs.Histories.{History}
use Rattle.ledger_model.specs.Stock.{Sale, sale_at, sale_of, licence_in, names_vendor, for_sale}
use Rattle.ledger_model.specs.Taken.{IsSupplied, IsMade, IsFromStock}
use Rattle.ledger_model.proofs.ListLaws.{get_stays, get_end}
use Rattle.name_places.specs.NamePlaces.{NamePlacesView, place_of}
use Rattle.broker_stock.specs.Racks.{RackView}
use Rattle.broker_stock.specs.Shelves.{pieces_at}
use Rattle.broker_stalls.specs.declared.target.Purchase.{Purchase}
use Rattle.broker_stalls.specs.Stalls.{StockIdsView, has_id, StallView, empty_stall, terms_of, sold_count, IsAlike}
use Rattle.broker_stalls.specs.Shown.{IsOfOther, Shows}
use Rattle.broker_stalls.specs.Vendors.{StallsView, AreFiled, stall_of, StallsRepresent, AreAlike, asked_to_buy, StallsAllow}
use Rattle.broker_stalls.proofs.ShownLaws.{first_is}
use Rattle.broker_stalls.proofs.EntryLaws.{stall_stays, known_alike}

-- ---- the stall that stands in the place of a vendor

pub record At (s : StallsView) (vendor : List ℕ) (i : ℕ) (x : StallView) : Type 0 where
  pub place : place_of s.places vendor ≡ Some i
  pub there : x ≡ get_or s.stalls i x
  pub filed : AreFiled s.places s.stalls

pub at_place : {places : NamePlacesView} {stalls : List StallView} {vendor : List ℕ} {o : Option ℕ} {i : ℕ} {x : StallView}
    → o ≡ place_of places vendor → o ≡ Some i → x ≡ get_or stalls i x → AreFiled places stalls → At (record { places = places; stalls = stalls }) vendor i x
at_place is some there filed = record { place = sym is ∙ some; there = there; filed = filed }

abbrev pub written : StallsView → ℕ → StallView → StallsView
written s i y = record { places = s.places; stalls = set s.stalls i y }

abbrev pub stood : List StallView → Option ℕ → StallView
stood stalls place = unwrap_or (option_and_then (slice_get stalls) place) empty_stall

pub at_is : {s : StallsView} {vendor : List ℕ} {i : ℕ} {x : StallView} → At s vendor i x → stall_of s vendor ≡ x
at_is {s = s} {vendor = vendor} {i = i} {x = x} at =
    ap (stood s.stalls) at.place
    ∙ ap (λ (o : Option StallView). unwrap_or o empty_stall) (slice_get_read s.stalls (length s.stalls) i x refl (at.filed.within vendor i at.place) at.there)

pub none_at : {v s : StallsView} (vendor : List ℕ) → v ≡ s → place_of v.places vendor ≡ None → stall_of s vendor ≡ empty_stall
none_at {v = v} vendor same none = ap (λ (w : StallsView). stall_of w vendor) (sym same) ∙ ap (stood v.stalls) none

get_written : (xs : List StallView) (i : ℕ) (y : StallView) → i < length xs → slice_get (set xs i y) i ≡ Some y
get_written [] i y lt = absurd (omega (arith, lt))
get_written (x ∷ xs) zero y lt = refl
get_written (x ∷ xs) (suc i) y lt = get_written xs i y (omega (arith, lt))

get_other : (xs : List StallView) (i j : ℕ) (y : StallView) → (i ≡ j → ⊥) → slice_get (set xs i y) j ≡ slice_get xs j
get_other [] i j y apart = refl
get_other (x ∷ xs) zero zero y apart = absurd (apart refl)
get_other (x ∷ xs) zero (suc j) y apart = refl
get_other (x ∷ xs) (suc i) zero y apart = refl
get_other (x ∷ xs) (suc i) (suc j) y apart = get_other xs i j y (λ e. apart (ap suc e))

pub written_is : {s : StallsView} {vendor : List ℕ} {i : ℕ} {x : StallView} → At s vendor i x → (y : StallView) → stall_of (written s i y) vendor ≡ y
written_is {s = s} {vendor = vendor} {i = i} at y =
    ap (stood (set s.stalls i y)) at.place ∙ ap (λ (o : Option StallView). unwrap_or o empty_stall) (get_written s.stalls i y (at.filed.within vendor i at.place))

written_other : {s : StallsView} {vendor : List ℕ} {i : ℕ} {x : StallView} → At s vendor i x → (y : StallView) (q : List ℕ) → bytes_eq q vendor ≡ false → stall_of (written s i y) q ≡ stall_of s q
written_other {s = s} {vendor = vendor} {i = i} at y q other = go (place_of s.places q) refl
  where
    go : (o : Option ℕ) → place_of s.places q ≡ o → stood (set s.stalls i y) o ≡ stood s.stalls o
    go None e = refl
    go (Some j) e = ap (λ (o : Option StallView). unwrap_or o empty_stall) (get_other s.stalls i j y (λ same.
        let one : q ≡ vendor = at.filed.apart q vendor i (e ∙ ap (λ (n : ℕ). Some n) (sym same)) at.place in
        false≢true (sym other ∙ (bytes_eq-Decides q vendor).1 one)))

-- by the stall of the vendor and those of others
by_vendor : {vendor : List ℕ} (P : List ℕ → Type 0) → P vendor → ((q : List ℕ) → bytes_eq q vendor ≡ false → P q) → (q : List ℕ) → P q
by_vendor {vendor = vendor} P here others q = go (bytes_eq q vendor) refl
  where
    go : (b : Bool) → bytes_eq q vendor ≡ b → P q
    go true same = subst P (sym ((bytes_eq-Decides q vendor).0 same)) here
    go false other = others q other

-- ---- stalls that tell the same

pub alike_refl : (x : StallView) → IsAlike x x
alike_refl x = record { terms = refl; counts = λ series. refl; ids = λ id. refl; pieces = λ value. refl; known = refl }

pub alike_at : {v s : StallsView} {vendor : List ℕ} {i : ℕ} {x : StallView} → v ≡ s → At v vendor i x → (y : StallView) → IsAlike x y → AreAlike s (written v i y)
alike_at {v = v} {vendor = vendor} {i = i} {x = x} same at y alike =
    subst (λ (w : StallsView). AreAlike w (written v i y)) same
    (by_vendor (λ q. IsAlike (stall_of v q) (stall_of (written v i y) q))
    (subst (λ (z : StallView). IsAlike z (stall_of (written v i y) vendor)) (sym (at_is at)) (subst (IsAlike x) (sym (written_is at y)) alike))
    (λ q other. subst (IsAlike (stall_of v q)) (sym (written_other at y q other)) (alike_refl (stall_of v q))))

shown_alike : {h : History} {vendor : List ℕ} {s s' : StallView} → IsAlike s s' → Shows h vendor s → Shows h vendor s'
shown_alike alike shows = record {
  terms = alike.terms ∙ shows.terms;
  counts = λ series. alike.counts series ∙ shows.counts series;
  ids = λ id. alike.ids id ∙ shows.ids id;
  pieces = λ value. alike.pieces value ∙ shows.pieces value;
  known = alike.known ∙ shows.known;
  sold = shows.sold;
  fits = shows.fits;
  once = shows.once;
}

pub represents_alike : (s s' : StallsView) (h : History) → AreAlike s s' → StallsRepresent s h → StallsRepresent s' h
represents_alike s s' h alike stands vendor = shown_alike (alike vendor) (stands vendor)

pub same_at : {v s : StallsView} {vendor : List ℕ} {i : ℕ} {x : StallView} → v ≡ s → At v vendor i x → (y : StallView) → IsAlike x y → (h : History) → StallsRepresent s h → StallsRepresent (written v i y) h
same_at {v = v} {s = s} {i = i} same at y alike h stands = represents_alike s (written v i y) h (alike_at same at y alike) stands

pub alike_twice : (r s t : StallsView) → AreAlike r s → AreAlike s t → AreAlike r t
alike_twice r s t f g vendor = let a = f vendor in let b = g vendor in record {
  terms = b.terms ∙ a.terms;
  counts = λ series. b.counts series ∙ a.counts series;
  ids = λ id. b.ids id ∙ a.ids id;
  pieces = λ value. b.pieces value ∙ a.pieces value;
  known = b.known ∙ a.known;
}

-- a stall of which the licence tells the same, and the stock is the same
pub same_stock : (x y : StallView) → terms_of y ≡ terms_of x → ((series : ℕ) → sold_count y series ≡ sold_count x series) → y.ids ≡ x.ids → y.racks ≡ x.racks → IsAlike x y
same_stock x y terms counts ids racks = record {
  terms = terms;
  counts = counts;
  ids = λ id. ap (λ (k : StockIdsView). has_id k id) ids;
  pieces = λ value. ap (λ (r : List (ℕ × RackView)). pieces_at r value) racks;
  known = known_alike x y terms ids;
}

-- ---- a stall that was put behind the others

module _ (old new : NamePlacesView) {xs : List StallView} {vendor : List ℕ} (filed : AreFiled old xs) (free : place_of old vendor ≡ None)
    (put : (q : List ℕ) → place_of new q ≡ cond (bytes_eq q vendor) (Some (length xs)) (place_of old q)) where
  pub put_here : place_of new vendor ≡ Some (length xs)
  put_here = put vendor ∙ ap (λ b. cond b (Some (length xs)) (place_of old vendor)) ((bytes_eq-Decides vendor vendor).1 refl)

  put_other : (q : List ℕ) → bytes_eq q vendor ≡ false → place_of new q ≡ place_of old q
  put_other q other = put q ∙ ap (λ b. cond b (Some (length xs)) (place_of old q)) other

  pub filed_push : (y : StallView) → AreFiled new (xs ++ y ∷ [])
  filed_push y = record {
    within = λ q i e. let long = length-append xs (y ∷ []) in go q i e (bytes_eq q vendor) refl long;
    apart = λ q r i e f. both q r i e f (bytes_eq q vendor) refl (bytes_eq r vendor) refl;
  }
    where
      at_end : (q : List ℕ) (i : ℕ) → place_of new q ≡ Some i → bytes_eq q vendor ≡ true → i ≡ length xs
      at_end q i e same = same_Some i (length xs) (sym e ∙ put q ∙ ap (λ b. cond b (Some (length xs)) (place_of old q)) same)

      before : (q : List ℕ) (i : ℕ) → place_of new q ≡ Some i → bytes_eq q vendor ≡ false → i < length xs
      before q i e other = filed.within q i (sym (put_other q other) ∙ e)

      go : (q : List ℕ) (i : ℕ) → place_of new q ≡ Some i → (b : Bool) → bytes_eq q vendor ≡ b → length (xs ++ y ∷ []) ≡ length xs + 1 → i < length (xs ++ y ∷ [])
      go q i e true same long = let is = at_end q i e same in omega (arith, is, long)
      go q i e false other long = let lt = before q i e other in omega (arith, lt, long)

      both : (q r : List ℕ) (i : ℕ) → place_of new q ≡ Some i → place_of new r ≡ Some i → (b : Bool) → bytes_eq q vendor ≡ b → (d : Bool) → bytes_eq r vendor ≡ d → q ≡ r
      both q r i e f true a true b = (bytes_eq-Decides q vendor).0 a ∙ sym ((bytes_eq-Decides r vendor).0 b)
      both q r i e f true a false b = let is = at_end q i e a in let lt = before r i f b in absurd (omega (arith, is, lt))
      both q r i e f false a true b = let is = at_end r i f b in let lt = before q i e a in absurd (omega (arith, is, lt))
      both q r i e f false a false b = filed.apart q r i (sym (put_other q a) ∙ e) (sym (put_other r b) ∙ f)

  pub alike_push : {s : StallsView} → record { places = old; stalls = xs } ≡ s → (y : StallView) → IsAlike empty_stall y → AreAlike s (record { places = new; stalls = xs ++ y ∷ [] })
  alike_push same y alike =
      subst (λ (w : StallsView). AreAlike w (record { places = new; stalls = xs ++ y ∷ [] })) same
      (by_vendor (λ q. IsAlike (stood xs (place_of old q)) (stood (xs ++ y ∷ []) (place_of new q)))
      (subst (λ (o : Option ℕ). IsAlike (stood xs o) (stood (xs ++ y ∷ []) (place_of new vendor))) (sym free)
      (subst (IsAlike empty_stall) (sym (ap (stood (xs ++ y ∷ [])) put_here ∙ ap (λ (o : Option StallView). unwrap_or o empty_stall) (get_end xs y))) alike))
      (λ q other. subst (IsAlike (stood xs (place_of old q))) (sym (ap (stood (xs ++ y ∷ [])) (put_other q other) ∙ stays (place_of old q) (filed.within q))) (alike_refl (stood xs (place_of old q)))))
    where
      stays : (o : Option ℕ) → ((i : ℕ) → o ≡ Some i → i < length xs) → stood (xs ++ y ∷ []) o ≡ stood xs o
      stays None within = refl
      stays (Some j) within = ap (λ (o : Option StallView). unwrap_or o empty_stall) (get_stays xs (y ∷ []) j (within j refl))

-- ---- one more entry

-- an entry is of no vendor but this one
abbrev pub IsOnlyOf : List ℕ → Entry → Type 0
IsOnlyOf vendor e = (q : List ℕ) → bytes_eq q vendor ≡ false → (names_vendor q e ≡ false) × IsOfOther q (sale_of e)

turned : (q vendor : List ℕ) → bytes_eq q vendor ≡ false → bytes_eq vendor q ≡ false
turned q vendor other = go (bytes_eq vendor q) refl
  where
    go : (b : Bool) → bytes_eq vendor q ≡ b → b ≡ false
    go true same = absurd (false≢true (sym other ∙ (bytes_eq-Decides q vendor).1 (sym ((bytes_eq-Decides vendor q).0 same))))
    go false e = refl

pub only_licence : (m : ℕ) (vendor : List ℕ) (terms : Issuing) → IsOnlyOf vendor (Licence m vendor terms)
only_licence m vendor terms q other = (turned q vendor other, tt)

pub only_stock : (m : ℕ) (vendor : List ℕ) (pieces : List Held) → IsOnlyOf vendor (Stock m vendor pieces)
only_stock m vendor pieces q other = (turned q vendor other, tt)

pub only_sale : (e : Entry) (x : Sale) → sale_of e ≡ Some x → ((q : List ℕ) → names_vendor q e ≡ false) → IsOnlyOf x.vendor e
only_sale e x is none q other = (none q, subst (IsOfOther q) (sym is) (turned q x.vendor other))

pub learned_at : {v s : StallsView} {vendor : List ℕ} {i : ℕ} {x : StallView} → v ≡ s → At v vendor i x → (y : StallView) (h : History) (e : Entry) → IsOnlyOf vendor e → StallsRepresent s h
    → (Shows h vendor x → Shows (h ++ e ∷ []) vendor y) → StallsRepresent (written v i y) (h ++ e ∷ [])
learned_at {v = v} {s = s} {vendor = vendor} {i = i} same at y h e only stands step =
    let stands' : StallsRepresent v h = subst (λ (w : StallsView). StallsRepresent w h) (sym same) stands in
    by_vendor (λ q. Shows (h ++ e ∷ []) q (stall_of (written v i y) q))
    (subst (Shows (h ++ e ∷ []) vendor) (sym (written_is at y)) (step (subst (Shows h vendor) (at_is at) (stands' vendor))))
    (λ q other. let parts = only q other in subst (Shows (h ++ e ∷ []) q) (sym (written_other at y q other)) (stall_stays h q (stall_of v q) e parts.0 parts.1 (stands' q)))

pub shown_at : {v s : StallsView} {vendor : List ℕ} {i : ℕ} {x : StallView} → v ≡ s → At v vendor i x → (h : History) → StallsRepresent s h → Shows h vendor x
shown_at {vendor = vendor} same at h stands =
    subst (Shows h vendor) (at_is at) (subst (λ (w : StallsView). StallsRepresent w h) (sym same) stands vendor)

-- an entry that is of no vendor leaves the stalls
pub none_learned : (s : StallsView) (h : History) (e : Entry) → ((q : List ℕ) → names_vendor q e ≡ false) → sale_of e ≡ None → StallsRepresent s h → StallsRepresent s (h ++ e ∷ [])
none_learned s h e none no_sale stands q = stall_stays h q (stall_of s q) e (none q) (subst (IsOfOther q) (sym no_sale) tt) (stands q)

pub nothing_shown : (vendor : List ℕ) → Shows [] vendor empty_stall
unfolding has_id pieces_at
nothing_shown vendor = record {
  terms = refl;
  counts = λ series. refl;
  ids = λ id. refl;
  pieces = λ value. refl;
  known = refl;
  sold = λ id was. absurd (false≢true was);
  fits = tt;
  once = tt;
}

-- a vendor with a stall with nothing has nothing for sale
pub none_for_sale : (h : History) (vendor : List ℕ) (t value : ℕ) (p : Scrip) → Shows h vendor empty_stall → for_sale h t vendor value ≡ Some p → ⊥
unfolding pieces_at
none_for_sale h vendor t value p shows is =
    let same : option_map (λ (q : Scrip). q.id) None ≡ option_map (λ (q : Scrip). q.id) (for_sale h t vendor value) = first_is h vendor empty_stall t value shows in
    absurd (let e = same ∙ ap (option_map (λ (q : Scrip). q.id)) is in cc)

-- a licence is taken where none stands
pub takes_licence : (taken : Bool) (had stands : Option Issuing) → taken ≡ is_none had → had ≡ stands → (taken ≡ true → is_some stands ≡ false) × (is_some stands ≡ false → taken ≡ true)
takes_licence taken had None is same = (λ e. refl, λ e. is ∙ ap is_none same)
takes_licence taken had (Some terms) is same = (λ e. absurd (false≢true (sym (is ∙ ap is_none same) ∙ e)), λ e. absurd (true≢false e))

pub none_stands : (o : Option Issuing) → is_some o ≡ false → o ≡ None
none_stands None e = refl
none_stands (Some terms) e = absurd (true≢false e)

pub terms_stay : (o : Option Issuing) (terms : Issuing) → is_none o ≡ false → option_or o (Some terms) ≡ o
terms_stay None terms e = absurd (true≢false e)
terms_stay (Some t) terms e = refl

-- ---- what is read of an entry

-- the errand that was read of a target
pub errand_is : {read e : errands.Errand} (target : List ℕ) → read ≡ e → Some (errand read) ≡ errand_of target → errand_of target ≡ Some (errand e)
errand_is target same is = sym is ∙ ap (λ (x : errands.Errand). some (errand x)) same
  where
    some : Errand → Option Errand
    some x = Some x

-- the sale of a target by a deed
pub sale_none : (stock : Bool) (id : ℕ) (o : Option Errand) → None ≡ asked_to_buy o → sale_at stock id o ≡ None
sale_none stock id (Some (buy vendor amount)) none = absurd cc
sale_none stock id (Some (pay_in account)) none = refl
sale_none stock id (Some (draw account order amount)) none = refl
sale_none stock id None none = refl

pub sale_some : (stock : Bool) (id : ℕ) (o : Option Errand) (x : Purchase) → Some x ≡ asked_to_buy o → sale_at stock id o ≡ Some (record { vendor = x.vendor; value = x.value; stock = stock; id = id })
sale_some stock id (Some (buy v amount)) x some =
    ap (λ (y : Purchase). sold y) (sym (same_Some x (record { vendor = v; value = amount }) some))
  where
    sold : Purchase → Option Sale
    sold y = Some (record { vendor = y.vendor; value = y.value; stock = stock; id = id })
sale_some stock id (Some (pay_in account)) x some = absurd cc
sale_some stock id (Some (draw account order amount)) x some = absurd cc
sale_some stock id None x some = absurd cc

-- what is of no vendor: every entry but licences, stock and what was accepted
pub record IsOfNone (e : Entry) : Type 0 where
  pub allowed : (h : History) → StallsAllow h e
  pub names : (q : List ℕ) → names_vendor q e ≡ false
  pub no_sale : sale_of e ≡ None

pub is_of_none : (r : Record)
    → ((m : ℕ) (scrip target : Bor (List ℕ)) (sign : Option (List ℕ)) (price : ℕ) (change : Option ℕ) (deed : RecordDeed) → r ≡ records.Accept m scrip target sign price change deed → ⊥)
    → ((m : ℕ) (vendor : Bor (List ℕ)) (terms : RecordTerms) → r ≡ records.Licence m vendor terms → ⊥)
    → ((m : ℕ) (vendor : Bor (List ℕ)) (pieces : PieceList) → r ≡ records.Stock m vendor pieces → ⊥)
    → IsOfNone (entry r)
is_of_none (records.Accept m scrip target sign price change deed) accept licence stock = absurd (accept m scrip target sign price change deed refl)
is_of_none (records.Licence m vendor terms) accept licence stock = absurd (licence m vendor terms refl)
is_of_none (records.Stock m vendor pieces) accept licence stock = absurd (stock m vendor pieces refl)
is_of_none r accept licence stock = record { allowed = λ h. tt; names = λ q. refl; no_sale = refl }

-- ---- what an answer told

pub name_is : (o : Option (List ℕ)) (n bytes : List ℕ) → IfSome o (λ x. x ≡ bytes) → o ≡ Some n → n ≡ bytes
name_is o n bytes told is = subst (λ (o : Option (List ℕ)). IfSome o (λ x. x ≡ bytes)) is told

pub amount_is : (o : Option ℕ) (n number : ℕ) → IfSome o (λ x. x ≡ number) → o ≡ Some n → n ≡ number
amount_is o n number told is = subst (λ (o : Option ℕ). IfSome o (λ x. x ≡ number)) is told

pub on_true : {P : Type 0} (b : Bool) → b ≡ true → OnTrue b P → P
on_true true is holds = holds
on_true false is holds = absurd (false≢true is)

pub none_from : (o : Option ℕ) → is_some o ≡ false → o ≡ None
none_from None e = refl
none_from (Some i) e = absurd (true≢false e)

-- a deed that sells nothing
pub not_sale : (d : RecordDeed) → ((stock : Bool) (id : ℕ) → d ≡ deeds.Sale stock id → ⊥)
    → (m : ℕ) (scrip target : List ℕ) (sign : Option (List ℕ)) (price : ℕ) (change : Option ℕ) → sale_of (Accept m scrip target sign price change (deed_of d)) ≡ None
not_sale deeds.Goods never m scrip target sign price change = refl
not_sale (deeds.Sale stock id) never m scrip target sign price change = absurd (never stock id refl)
not_sale (deeds.Credit balance) never m scrip target sign price change = refl

-- what a deed sells for a target that asks to buy
pub sold_is : (d : RecordDeed) (target : List ℕ) (asked : Option Purchase) (x : Purchase) (stock : Bool) (id : ℕ) → d ≡ deeds.Sale stock id → asked ≡ asked_to_buy (errand_of target) → asked ≡ Some x
    → (b : Bool) → stock ≡ b → (n : List ℕ) → n ≡ x.vendor → (m : ℕ) (scrip : List ℕ) (sign : Option (List ℕ)) (price : ℕ) (change : Option ℕ)
    → sale_of (Accept m scrip target sign price change (deed_of d)) ≡ Some (record { vendor = n; value = x.value; stock = b; id = id })
sold_is d target asked x stock id deed asks some b same n named m scrip sign price change =
    ap (λ (y : RecordDeed). sale_of (Accept m scrip target sign price change (deed_of y))) deed
    ∙ sale_some stock id (errand_of target) x (sym some ∙ asks)
    ∙ ap₂ (λ (y : Bool) (v : List ℕ). some_sale y v) same (sym named)
  where
    some_sale : Bool → List ℕ → Option Sale
    some_sale y v = Some (record { vendor = v; value = x.value; stock = y; id = id })

-- a deed for a target that asks for no scrip of a vendor
pub no_sale : (d : RecordDeed) (target : List ℕ) (asked : Option Purchase) (stock : Bool) (id : ℕ) → d ≡ deeds.Sale stock id → asked ≡ asked_to_buy (errand_of target) → asked ≡ None
    → (m : ℕ) (scrip : List ℕ) (sign : Option (List ℕ)) (price : ℕ) (change : Option ℕ) → sale_of (Accept m scrip target sign price change (deed_of d)) ≡ None
no_sale d target asked stock id deed asks none m scrip sign price change =
    ap (λ (x : RecordDeed). sale_of (Accept m scrip target sign price change (deed_of x))) deed ∙ sale_none stock id (errand_of target) (sym none ∙ asks)

-- a sale under a licence has the licence, and one out of stock its piece
pub supplied_stock : (most : ℕ) (h : History) (e : Entry) (x : Sale) → sale_of e ≡ Some x → x.stock ≡ true → IfSome (sale_of e) (λ s. IsSupplied most h (moment_of e) s.vendor s.value s.stock s.id) → IsFromStock h (moment_of e) x.vendor x.value x.id
supplied_stock most h e x is stock answer =
    subst (λ (b : Bool). IsSupplied most h (moment_of e) x.vendor x.value b x.id) stock (subst (λ (o : Option Sale). IfSome o (λ s. IsSupplied most h (moment_of e) s.vendor s.value s.stock s.id)) is answer)

pub supplied_licence : (most : ℕ) (h : History) (e : Entry) (x : Sale) → sale_of e ≡ Some x → x.stock ≡ false → IfSome (sale_of e) (λ s. IsSupplied most h (moment_of e) s.vendor s.value s.stock s.id) → IsSome (licence_in h x.vendor)
supplied_licence most h e x is stock answer =
    let made : IsMade most h (moment_of e) x.vendor x.id =
    subst (λ (b : Bool). IsSupplied most h (moment_of e) x.vendor x.value b x.id) stock (subst (λ (o : Option Sale). IfSome o (λ s. IsSupplied most h (moment_of e) s.vendor s.value s.stock s.id)) is answer) in
    ap is_some made.licence
