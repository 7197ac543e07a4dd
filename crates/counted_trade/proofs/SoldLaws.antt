-- What a sale under a licence adds to the sum of its series.
use Rattle.std.proofs.Common.{◌≡◌, ℕ, suc, ◌+◌, ◌*◌, ◌/◌, ◌%◌, ◌^◌, ◌<◌, ◌≤◌, Bool, true, false, cond, not, ◌&&◌, List, [], ◌∷◌, ◌++◌, length, Option, Some, None, option_and_then, refl, sym, ap, subst, ◌∙◌, arith, bytes_eq}
use Rattle.std.specs.Prelude.{filter, sum_by, IfSome}
use Rattle.std.specs.Int.{w32, to_be_bytes}
use Rattle.std.specs.List.{cons_option}
use Rattle.std.proofs.lemmas.Option.{same_Some}
use Rattle.std.proofs.lemmas.List.Elements.{filter-append, filter_map-append}
use Rattle.std.proofs.lemmas.List.Sums.{sum_by-append, sum_by-cons}
use Rattle.scrip_form.specs.Identities.{issuer_of, epoch_of}
use Rattle.mc_records.specs.Entry.{Entry, Accept, sale}
use Rattle.mc_requests.specs.Errands.{Errand, buy, errand_of}
use Rattle.mc_requests.proofs.ErrandLaws.{errand_told}
use Rattle.ledger_model.specs.Histories.{History}
use Rattle.ledger_model.specs.Stock.{Sale, sale_at, sale_of, sales}
use Rattle.sum_table.specs.SumTable.{SumTableView, sum_of}
use Rattle.settle_core.specs.Settlement.{is_of_series, is_sold_in, sold_under}
use Rattle.audit_model.specs.declared.sold.Sold.{Sold}
use Rattle.audit_model.specs.Sales.{sale_by}
use Rattle.counted_trade.specs.Sold.{unless_stock, licensed_sale}
use Rattle.counted_trade.specs.Series.{series_key, key_of, SoldStand, HasRoomToSell}
use Rattle.counted_trade.proofs.KeyLaws.{Adds, series_parts, same_sold_key}

-- ---- one entry

-- what is sold is worth at most 2^40
sale_worth : (e : Entry) (s : Sale) → sale_of e ≡ Some s → s.value ≤ 2 ^ 40
sale_worth (Accept m scrip target sign price change (sale stock id)) s is = go (errand_of target) refl is
  where
    go : (o : Option Errand) → errand_of target ≡ o → sale_at stock id o ≡ Some s → s.value ≤ 2 ^ 40
    go (Some (buy vendor amount)) read e =
        let told = errand_told target (buy vendor amount) read in
        subst (λ (x : Sale). x.value ≤ 2 ^ 40) (same_Some (record { vendor = vendor; value = amount; stock = stock; id = id }) s e) told.0.1.within
    go o read e = absurd cc
sale_worth e s is = absurd cc

record IsLicensed (e : Entry) (s : Sale) : Type 0 where
  is : sale_of e ≡ Some s
  licensed : s.stock ≡ false

licensed_is : (e : Entry) (s : Sale) → licensed_sale e ≡ Some s → IsLicensed e s
licensed_is e s is = go (sale_of e) refl is
  where
    by : (x : Sale) → sale_of e ≡ Some x → (b : Bool) → x.stock ≡ b → cond b None (Some x) ≡ Some s → IsLicensed e s
    by x there true stock r = absurd cc
    by x there false stock r =
        let same = same_Some x s r in
        record { is = there ∙ r; licensed = subst (λ (y : Sale). y.stock ≡ false) same stock }

    go : (o : Option Sale) → sale_of e ≡ o → option_and_then unless_stock o ≡ Some s → IsLicensed e s
    go None there r = absurd cc
    go (Some x) there r = by x there x.stock refl r

-- ---- sums

more : (h : History) (e : Entry) (vendor : List ℕ) (issuer epoch : ℕ) (o : Option Sale) → sale_of e ≡ o
    → sold_under (h ++ e ∷ []) vendor issuer epoch ≡ sold_under h vendor issuer epoch + sum_by (λ (s : Sale). s.value) (filter (is_sold_in vendor issuer epoch) (cons_option o []))
more h e vendor issuer epoch o is =
    let test = is_sold_in vendor issuer epoch in
    ap (λ (ss : List Sale). sum_by (λ (s : Sale). s.value) (filter test ss)) (filter_map-append sale_of h (e ∷ []))
    ∙ ap (sum_by (λ (s : Sale). s.value)) (filter-append test (sales h) (sales (e ∷ [])))
    ∙ sum_by-append (λ (s : Sale). s.value) (filter test (sales h)) (filter test (sales (e ∷ [])))
    ∙ ap (λ (x : Option Sale). sold_under h vendor issuer epoch + sum_by (λ (s : Sale). s.value) (filter test (cons_option x []))) is

one : (n : ℕ) (s : Sale) (b : Bool) → n + sum_by (λ (x : Sale). x.value) (cond b (s ∷ []) []) ≡ cond b (n + s.value) n
one n s true = omega (arith, sum_by-cons (λ (x : Sale). x.value) s [])
one n s false = omega arith

adds_sold : (h : History) (e : Entry) (vendor : List ℕ) (issuer epoch : ℕ) (s : Sale) → IsLicensed e s
    → sold_under (h ++ e ∷ []) vendor issuer epoch ≡ cond (bytes_eq s.vendor vendor && is_of_series issuer epoch s.id) (sold_under h vendor issuer epoch + s.value) (sold_under h vendor issuer epoch)
adds_sold h e vendor issuer epoch s by =
    more h e vendor issuer epoch (Some s) by.is
    ∙ one (sold_under h vendor issuer epoch) s (is_sold_in vendor issuer epoch s)
    ∙ ap (λ (b : Bool). cond ((not b && bytes_eq s.vendor vendor) && is_of_series issuer epoch s.id) (sold_under h vendor issuer epoch + s.value) (sold_under h vendor issuer epoch)) by.licensed

adds_nothing : (h : History) (e : Entry) (vendor : List ℕ) (issuer epoch : ℕ) → licensed_sale e ≡ None → sold_under (h ++ e ∷ []) vendor issuer epoch ≡ sold_under h vendor issuer epoch
adds_nothing h e vendor issuer epoch is = go (sale_of e) refl is
  where
    nothing : (n : ℕ) → n + sum_by (λ (x : Sale). x.value) [] ≡ n
    nothing n = omega arith

    by : (x : Sale) → sale_of e ≡ Some x → (b : Bool) → x.stock ≡ b → cond b None (Some x) ≡ None → sold_under (h ++ e ∷ []) vendor issuer epoch ≡ sold_under h vendor issuer epoch
    by x there false stock r = absurd cc
    by x there true stock r =
        more h e vendor issuer epoch (Some x) there
        ∙ one (sold_under h vendor issuer epoch) x (is_sold_in vendor issuer epoch x)
        ∙ ap (λ (b : Bool). cond ((not b && bytes_eq x.vendor vendor) && is_of_series issuer epoch x.id) (sold_under h vendor issuer epoch + x.value) (sold_under h vendor issuer epoch)) stock

    go : (o : Option Sale) → sale_of e ≡ o → option_and_then unless_stock o ≡ None → sold_under (h ++ e ∷ []) vendor issuer epoch ≡ sold_under h vendor issuer epoch
    go None there r = more h e vendor issuer epoch None there ∙ nothing (sold_under h vendor issuer epoch)
    go (Some x) there r = by x there x.stock refl r

sold_small : (h : History) (vendor : List ℕ) (issuer epoch : ℕ) → sold_under h vendor issuer epoch ≤ 2 ^ 40 * length h
sold_small [] vendor issuer epoch = omega arith
sold_small (e ∷ es) vendor issuer epoch = go (sale_of e) (sale_worth e) (sold_small es vendor issuer epoch)
  where
    test : Sale → Bool
    test = is_sold_in vendor issuer epoch

    kept : (s : Sale) (b : Bool) → s.value ≤ 2 ^ 40 → sold_under es vendor issuer epoch ≤ 2 ^ 40 * length es → sum_by (λ (x : Sale). x.value) (cond b (s ∷ filter test (sales es)) (filter test (sales es))) ≤ 2 ^ 40 * suc (length es)
    kept s true most ih = let is = sum_by-cons (λ (x : Sale). x.value) s (filter test (sales es)) in omega (arith, is, most, ih)
    kept s false most ih = omega (arith, ih)

    go : (o : Option Sale) → ((s : Sale) → o ≡ Some s → s.value ≤ 2 ^ 40) → sold_under es vendor issuer epoch ≤ 2 ^ 40 * length es → sum_by (λ (x : Sale). x.value) (filter test (cons_option o (sales es))) ≤ 2 ^ 40 * suc (length es)
    go None most ih = omega (arith, ih)
    go (Some s) most ih = kept s (test s) (most s refl) ih

-- ---- counting

pub counted_sale : (old new : SumTableView) (h : History) (e : Entry) (x : Sold) (number : ℕ) → number < 2 ^ 64 → x.id < 2 ^ 64 → number ≡ length h → SoldStand old h
    → licensed_sale e ≡ Some (sale_by x) → HasRoomToSell old e → Adds old new x.value → SoldStand new (h ++ e ∷ [])
counted_sale old new h e x number short fits long counts is room adding =
    let by = licensed_is e (sale_by x) is in
    let ready : old.room ≡ Some (key_of x.id ++ x.vendor) = subst (λ (o : Option Sale). IfSome o (λ s. old.room ≡ Some (key_of s.id ++ s.vendor))) is room in
    let i : x.id / 2 ^ 56 < 2 ^ 8 = omega (arith, fits) in
    let k : x.id / 2 ^ 32 % 2 ^ 24 < 2 ^ 24 = omega arith in
    let had : sum_of old (key_of x.id ++ x.vendor) ≡ sold_under h x.vendor (issuer_of x.id) (epoch_of x.id) =
    ap (λ (n : ℕ). sum_of old (to_be_bytes w32 n ++ x.vendor)) (sym (series_parts x.id)) ∙ counts.is x.vendor (issuer_of x.id) (epoch_of x.id) i k in
    let small = sold_small h x.vendor (issuer_of x.id) (epoch_of x.id) in
    let most : x.value ≤ 2 ^ 40 = sale_worth e (sale_by x) by.is in
    let below : sum_of old (key_of x.id ++ x.vendor) + x.value < 2 ^ 128 = omega (arith, had, small, most, long, short) in
    record {
      is = λ vendor issuer epoch byte three.
          adding (key_of x.id ++ x.vendor) ready below (series_key issuer epoch ++ vendor)
          ∙ ap (λ (b : Bool). cond b (sum_of old (series_key issuer epoch ++ vendor) + x.value) (sum_of old (series_key issuer epoch ++ vendor))) (same_sold_key vendor x.vendor issuer epoch x.id byte three fits)
          ∙ ap (λ (n : ℕ). cond (bytes_eq x.vendor vendor && is_of_series issuer epoch x.id) (n + x.value) n) (counts.is vendor issuer epoch byte three)
          ∙ sym (adds_sold h e vendor issuer epoch (sale_by x) by);
    }

pub counted_no_sale : (old : SumTableView) (h : History) (e : Entry) → SoldStand old h → licensed_sale e ≡ None → SoldStand old (h ++ e ∷ [])
counted_no_sale old h e counts is = record { is = λ vendor issuer epoch byte three. counts.is vendor issuer epoch byte three ∙ sym (adds_nothing h e vendor issuer epoch is) }
