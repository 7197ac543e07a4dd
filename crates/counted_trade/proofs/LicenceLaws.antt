-- The licences of a history after one more entry.
use Rattle.std.proofs.Common.{◌≡◌, ℕ, zero, suc, ◌+◌, ◌<◌, Bool, true, false, cond, List, [], ◌∷◌, ◌++◌, length, Option, Some, None, refl, sym, ap, subst, ◌∙◌, bytes_eq, find, option_and_then, arith, length-append}
use Rattle.std.specs.Prelude.{IfSome, is_some, slice_get}
use Rattle.std.specs.Borrow.{Bor}
use Rattle.std.specs.Option.{option_or}
use Rattle.std.proofs.lemmas.Slice.Eq.{bytes_eq-Decides}
use Rattle.scrip_form.specs.Issuing.{Issuing}
use Rattle.mc_records.specs.declared.record.Record.{Record}
use Rattle.mc_records.specs.declared.terms.RecordTerms.{RecordTerms}
use Rattle.mc_records.specs.declared.record.Record.TheVariants as records
use Rattle.mc_records.specs.Entry.{Entry, Licence}
use Rattle.mc_records.specs.Views.{entry}
use Rattle.ledger_model.specs.Histories.{History}
use Rattle.ledger_model.specs.Stock.{is_licence_of, licence_terms, licence_in}
use Rattle.ledger_model.proofs.ListLaws.{get_stays, get_end}
use Rattle.ledger_model.proofs.AccountLaws.{turned}
use Rattle.ledger_model.proofs.StockLaws.{licence_stays}
use Rattle.name_places.specs.NamePlaces.{NamePlacesView, place_of}
use Rattle.counted_trade.specs.Licences.{TermsStand}

-- the licence that an entry brings a vendor
abbrev pub brought : List ℕ → Entry → Option Issuing
brought vendor e = cond (is_licence_of vendor e) (licence_terms e) None

-- the first licence of a vendor stands
pub licence_more : (h : History) (e : Entry) (vendor : List ℕ) → licence_in (h ++ e ∷ []) vendor ≡ option_or (licence_in h vendor) (brought vendor e)
licence_more [] e vendor = go (is_licence_of vendor e)
  where
    go : (b : Bool) → option_and_then licence_terms (cond b (Some e) None) ≡ cond b (licence_terms e) None
    go true = refl
    go false = refl
licence_more (Licence m v terms ∷ xs) e vendor = go (bytes_eq v vendor) (licence_more xs e vendor)
  where
    x : Entry
    x = Licence m v terms

    go : (b : Bool) → licence_in (xs ++ e ∷ []) vendor ≡ option_or (licence_in xs vendor) (brought vendor e)
        → option_and_then licence_terms (cond b (Some x) (find (is_licence_of vendor) (xs ++ e ∷ []))) ≡ option_or (option_and_then licence_terms (cond b (Some x) (find (is_licence_of vendor) xs))) (brought vendor e)
    go true more = refl
    go false more = more
licence_more (x ∷ xs) e vendor = licence_more xs e vendor

or_none : (o : Option Issuing) → option_or o None ≡ o
or_none None = refl
or_none (Some t) = refl

-- an entry that brings a vendor no licence changes nothing of it
pub licence_same : (h : History) (e : Entry) (vendor : List ℕ) → is_licence_of vendor e ≡ false → licence_in (h ++ e ∷ []) vendor ≡ licence_in h vendor
licence_same h e vendor other =
    licence_more h e vendor ∙ ap (λ (b : Bool). option_or (licence_in h vendor) (cond b (licence_terms e) None)) other ∙ or_none (licence_in h vendor)

-- ---- counting

-- what stands within a list is there
some_there : {X : Type 0} (xs : List X) (i : ℕ) → i < length xs → slice_get xs i ≡ None → ⊥
some_there [] i lt none = absurd (omega (arith, lt))
some_there (x ∷ xs) zero lt none = absurd cc
some_there (x ∷ xs) (suc i) lt none = some_there xs i (omega (arith, lt)) none

-- a licence of a vendor who has one changes nothing
pub licensed_again : (places : NamePlacesView) (terms : List Issuing) (h : History) (m : ℕ) (v : List ℕ) (t : Issuing) (i : ℕ) → TermsStand places terms h → place_of places v ≡ Some i → TermsStand places terms (h ++ Licence m v t ∷ [])
licensed_again places terms h m v t i stand at = record { is = λ q. stand.is q ∙ sym (same q (bytes_eq v q) refl); within = stand.within }
  where
    e : Entry
    e = Licence m v t

    has : IfSome (Some i) (λ k. k < length terms)
    has = subst (λ (o : Option ℕ). IfSome o (λ k. k < length terms)) at (stand.within v)

    there : (o : Option Issuing) → slice_get terms i ≡ o → licence_in (h ++ e ∷ []) v ≡ licence_in h v
    there None none = absurd (some_there terms i has none)
    there (Some x) some =
        let is : licence_in h v ≡ Some x = sym (stand.is v) ∙ ap (option_and_then (slice_get terms)) at ∙ some in
        licence_stays h e v x is ∙ sym is

    same : (q : List ℕ) (b : Bool) → bytes_eq v q ≡ b → licence_in (h ++ e ∷ []) q ≡ licence_in h q
    same q true is = subst (λ (w : List ℕ). licence_in (h ++ e ∷ []) w ≡ licence_in h w) ((bytes_eq-Decides v q).0 is) (there (slice_get terms i) refl)
    same q false is = licence_same h e q is

-- the first licence of a vendor stands at the end
pub licensed_first : (old new : NamePlacesView) (terms : List Issuing) (h : History) (m : ℕ) (v : List ℕ) (t : Issuing) → TermsStand old terms h → place_of old v ≡ None
    → ((q : List ℕ) → place_of new q ≡ cond (bytes_eq q v) (Some (length terms)) (place_of old q)) → TermsStand new (terms ++ t ∷ []) (h ++ Licence m v t ∷ [])
licensed_first old new terms h m v t stand none put = record {
  is = λ q. ap (option_and_then (slice_get more)) (put q) ∙ is q (bytes_eq q v) refl;
  within = λ q. subst (λ (o : Option ℕ). IfSome o (λ i. i < length more)) (sym (put q)) (within (bytes_eq q v) (place_of old q) (stand.within q));
}
  where
    more : List Issuing
    more = terms ++ t ∷ []

    e : Entry
    e = Licence m v t

    longer : length more ≡ length terms + 1
    longer = length-append terms (t ∷ [])

    within : (b : Bool) (o : Option ℕ) → IfSome o (λ i. i < length terms) → IfSome (cond b (Some (length terms)) o) (λ i. i < length more)
    within true o has = omega (arith, longer)
    within false None has = tt
    within false (Some i) has = omega (arith, longer, has)

    stays : (o : Option ℕ) → IfSome o (λ i. i < length terms) → option_and_then (slice_get more) o ≡ option_and_then (slice_get terms) o
    stays None has = refl
    stays (Some i) has = get_stays terms (t ∷ []) i has

    brings : (q : List ℕ) → q ≡ v → licence_in (h ++ e ∷ []) q ≡ Some t
    brings q same =
        licence_more h e q
        ∙ ap (λ (o : Option Issuing). option_or o (brought q e)) (sym (stand.is q) ∙ ap (λ (w : List ℕ). option_and_then (slice_get terms) (place_of old w)) same ∙ ap (option_and_then (slice_get terms)) none)
        ∙ ap (λ (b : Bool). cond b (Some t) None) ((bytes_eq-Decides v q).1 (sym same))

    is : (q : List ℕ) (b : Bool) → bytes_eq q v ≡ b → option_and_then (slice_get more) (cond b (Some (length terms)) (place_of old q)) ≡ licence_in (h ++ e ∷ []) q
    is q true same = get_end terms t ∙ sym (brings q ((bytes_eq-Decides q v).0 same))
    is q false other = stays (place_of old q) (stand.within q) ∙ stand.is q ∙ sym (licence_same h e q (turned v q ∙ other))

-- another entry changes nothing
pub not_licensed : (places : NamePlacesView) (terms : List Issuing) (h : History) (e : Entry) → ((q : List ℕ) → is_licence_of q e ≡ false) → TermsStand places terms h → TermsStand places terms (h ++ e ∷ [])
not_licensed places terms h e none stand = record { is = λ q. stand.is q ∙ sym (licence_same h e q (none q)); within = stand.within }

-- places that stay where they are
pub terms_stand_on : (old new : NamePlacesView) (terms : List Issuing) (h : History) → ((q : List ℕ) → place_of new q ≡ place_of old q) → TermsStand old terms h → TermsStand new terms h
terms_stand_on old new terms h same stand = record {
  is = λ q. ap (option_and_then (slice_get terms)) (same q) ∙ stand.is q;
  within = λ q. subst (λ (o : Option ℕ). IfSome o (λ i. i < length terms)) (sym (same q)) (stand.within q);
}

-- ---- records

abbrev pub IsNoLicence : Record → Type 0
IsNoLicence r = (m : ℕ) (v : Bor (List ℕ)) (t : RecordTerms) → r ≡ records.Licence m v t → ⊥

-- a record that is no licence brings none
pub no_licence : (r : Record) → IsNoLicence r → (q : List ℕ) → is_licence_of q (entry r) ≡ false
no_licence (records.Licence m v t) other q = absurd (other m v t refl)
no_licence r other q = refl

-- ---- places

pub none_there : (o : Option ℕ) → is_some o ≡ false → o ≡ None
none_there None e = refl
none_there (Some i) e = absurd cc

pub some_place : (o : Option ℕ) → is_some o ≡ true → (i : ℕ) × (o ≡ Some i)
some_place None e = absurd cc
some_place (Some i) e = (i, refl)
