-- What a broker's entries say that an answer took.
use Rattle.std.proofs.Common.{◌≡◌, ℕ, ◌+◌, ◌≤◌, Bool, true, false, cond, not, List, [], Option, Some, None, Result, Ok, refl, sym, ap, subst, ◌∙◌, arith, option_map, ltb, IsSome}
use Rattle.std.specs.Prelude.{codes}
use Rattle.std.proofs.lemmas.Bool.{leb-false, ltb-false, le-ltb}
use Rattle.scrip_form.specs.Issuing.{Issuing, series_at}
use Rattle.scrip_form.specs.Scrip.{Scrip}
use Rattle.scrip_certs.specs.Digests.{request_signature}
use Rattle.mc_records.specs.declared.ranges.TheConstants.{MOST_IN_ACCOUNT}
use Rattle.mc_requests.specs.declared.limits.Limits.{Limits}
use Rattle.mc_requests.specs.declared.refusal.Refusal.TheVariants.{TooLittle, NoSuchGoods, NoAccount, AccountFull, NoVendor, NoStock}
use Rattle.mc_requests.specs.Requests.{Asked}
use Rattle.mc_requests.specs.Errands.{Errand, buy, pay_in, draw, errand_of}
use Rattle.mc_records.specs.Entry.{Deed, goods_deed, sale, credit, Entry, Accept, Draw}
use Rattle.ledger_model.specs.Histories.{History}
use Rattle.ledger_model.specs.Houses.{is_vendor, fee, own_series}
use Rattle.ledger_model.specs.Goods.{price_in}
use Rattle.ledger_model.specs.Pieces.{piece_of, own_count}
use Rattle.ledger_model.specs.Accounts.{account_in, balance, last_order}
use Rattle.ledger_model.specs.Stock.{licence_in, licensed_count, for_sale}
use Rattle.ledger_model.specs.Sums.{price_paid}
use Rattle.ledger_model.specs.Lines.{Stop, ◌>>=◌, given, refused_if}
use Rattle.ledger_model.specs.Stages.{Offer, shelf_by, next_by, supplied, needed}
use Rattle.ledger_model.specs.Answer.{offer, supply_of, errand_offer, broker_offer, Take, answer}
use Rattle.ledger_model.specs.Taken.{IsSupplied, IsBought, IsSale, IsCredit, IsDraw}
use Rattle.ledger_model.proofs.TableLaws.{line_ok, refused_ok, given_ok, ok_is, accept_answer, draw_answer}
use Rattle.ledger_model.proofs.AcceptLaws.{some, some_is, accept_change, piece_read}
use Rattle.ledger_model.proofs.SerialLaws.{next_is}

-- ---- the parts of an Accept entry

abbrev text_in : Entry → List ℕ
text_in (Accept m scrip target sign price change deed) = scrip
text_in _ = []

abbrev target_in : Entry → List ℕ
target_in (Accept m scrip target sign price change deed) = target
target_in (Draw m target sign drawn) = target
target_in _ = []

abbrev deed_in : Entry → Deed
deed_in (Accept m scrip target sign price change deed) = deed
deed_in _ = goods_deed

abbrev sign_in : Entry → List ℕ
sign_in (Draw m target sign drawn) = sign
sign_in _ = []

abbrev id_in : Entry → ℕ
id_in (Draw m target sign drawn) = drawn
id_in _ = 0

-- ---- which deed a deed is

abbrev is_stock_deed : Deed → Bool
is_stock_deed (sale stock id) = stock
is_stock_deed _ = false

abbrev deed_id : Deed → ℕ
deed_id (sale stock id) = id
deed_id _ = 0

abbrev deed_balance : Deed → ℕ
deed_balance (credit after) = after
deed_balance _ = 0

no_goods : (stock : Bool) (id : ℕ) → goods_deed ≡ sale stock id → ⊥
no_goods stock id e = absurd cc

no_goods_credit : (after : ℕ) → goods_deed ≡ credit after → ⊥
no_goods_credit after e = absurd cc

no_credit : (after : ℕ) (stock : Bool) (id : ℕ) → credit after ≡ sale stock id → ⊥
no_credit after stock id e = absurd cc

-- ---- what is supplied

abbrev Supplies : ℕ → History → ℕ → List ℕ → ℕ → Deed → Type 0
Supplies most h t vendor asked deed = (deed ≡ sale (is_stock_deed deed) (deed_id deed)) × IsSupplied most h t vendor asked (is_stock_deed deed) (deed_id deed)

supplied_is : (most : ℕ) (h : History) (t : ℕ) (vendor : List ℕ) (asked : ℕ) (known : Bool) (licence : Option Issuing) (deed : Deed) → licence_in h vendor ≡ licence
    → supplied most t asked licence (licensed_count h vendor) known (for_sale h t vendor asked) ≡ Ok deed → Supplies most h t vendor asked deed
supplied_is most h t vendor asked known (Some terms) deed is r =
    let s = series_at terms t in
    let a = line_ok (next_by most s (licensed_count h vendor s)) (λ n. Ok (sale false n)) deed r in
    let next = next_is most s (licensed_count h vendor s) a.0 a.1 in
    subst (Supplies most h t vendor asked) (ok_is (sale false a.0) deed a.2) (refl, record { terms = terms; licence = is; next = next.1; room = next.0 })
supplied_is most h t vendor asked known None deed is r =
    let a = line_ok (refused_if (not known) NoVendor) (λ _. given (for_sale h t vendor asked) (NoStock asked) >>= λ p. Ok (sale true p.id)) deed r in
    let b = line_ok (given (for_sale h t vendor asked) (NoStock asked)) (λ p. Ok (sale true p.id)) deed a.2 in
    subst (Supplies most h t vendor asked) (ok_is (sale true b.0.id) deed b.2) (refl, record { no_licence = is; piece = b.0; first = given_ok (for_sale h t vendor asked) (NoStock asked) b.0 b.1; is = refl })

-- ---- what is offered

record Sells (most : ℕ) (h : History) (t : ℕ) (target : List ℕ) (o : Offer) : Type 0 where
  vendor : List ℕ
  value : ℕ
  no_vendor : is_vendor h ≡ false
  asks : errand_of target ≡ Some (buy vendor value)
  price_is : o.price ≡ value + fee h
  supplies : Supplies most h t vendor value o.deed

record Credits (h : History) (target : List ℕ) (value : ℕ) (o : Offer) : Type 0 where
  account : List ℕ
  no_vendor : is_vendor h ≡ false
  asks : errand_of target ≡ Some (pay_in account)
  stands : IsSome (account_in h account)
  price_is : o.price ≡ value
  deed_is : o.deed ≡ credit (balance h account + value)
  fits : balance h account + value ≤ MOST_IN_ACCOUNT

data Offers (most : ℕ) (h : History) (t : ℕ) (target : List ℕ) (value : ℕ) (o : Offer) : Type 0 where
  goods : o.deed ≡ goods_deed → IsBought h target o.price → Offers most h t target value o
  sells : Sells most h t target o → Offers most h t target value o
  credits : Credits h target value o → Offers most h t target value o

mapped : {X Y : Type 0} (f : X → Y) (o : Option X) (y : Y) → option_map f o ≡ Some y → IsSome o
mapped f None y e = absurd cc
mapped f (Some x) y e = refl

balance_is : (h : History) (account : List ℕ) (o : Option Entry) (b : ℕ) → option_map (λ _. balance h account) o ≡ Some b → balance h account ≡ b
balance_is h account None b e = absurd cc
balance_is h account (Some a) b e = some_is (balance h account) b e

sold_is : (limits : Limits) (h : History) (t : ℕ) (target vendor : List ℕ) (asked value : ℕ) (o : Offer) → is_vendor h ≡ false → errand_of target ≡ Some (buy vendor asked)
    → errand_offer h t limits value (Some (buy vendor asked)) ≡ Ok o → Sells limits.series h t target o
sold_is limits h t target vendor asked value o kind asks r =
    let supply = supply_of h t vendor asked in
    let stocked = supplied limits.series t asked supply.licence supply.count supply.known supply.piece in
    let a = line_ok (refused_if (ltb value (asked + fee h)) (TooLittle (asked + fee h))) (λ _. stocked >>= λ deed. Ok (record { price = asked + fee h; deed = deed })) o r in
    let b = line_ok stocked (λ deed. Ok (record { price = asked + fee h; deed = deed })) o a.2 in
    subst (Sells limits.series h t target) (ok_is (record { price = asked + fee h; deed = b.0 }) o b.2) (record {
      vendor = vendor;
      value = asked;
      no_vendor = kind;
      asks = asks;
      price_is = refl;
      supplies = supplied_is limits.series h t vendor asked supply.known (licence_in h vendor) b.0 refl b.1;
    })

credited_is : (limits : Limits) (h : History) (t : ℕ) (target account : List ℕ) (value : ℕ) (o : Offer) → is_vendor h ≡ false → errand_of target ≡ Some (pay_in account)
    → errand_offer h t limits value (Some (pay_in account)) ≡ Ok o → Credits h target value o
credited_is limits h t target account value o kind asks r =
    let there = option_map (λ _. balance h account) (account_in h account) in
    let a = line_ok (given there NoAccount) (λ b. refused_if (ltb MOST_IN_ACCOUNT (b + value)) (AccountFull b) >>= λ _. Ok (record { price = value; deed = credit (b + value) })) o r in
    let b = line_ok (refused_if (ltb MOST_IN_ACCOUNT (a.0 + value)) (AccountFull a.0)) (λ _. Ok (record { price = value; deed = credit (a.0 + value) })) o a.2 in
    let known : there ≡ Some a.0 = given_ok there NoAccount a.0 a.1 in
    let is : balance h account ≡ a.0 = balance_is h account (account_in h account) a.0 known in
    let below : a.0 + value ≤ MOST_IN_ACCOUNT = ltb-false MOST_IN_ACCOUNT (a.0 + value) (refused_ok _ _ b.0 b.1) in
    subst (Credits h target value) (ok_is (record { price = value; deed = credit (a.0 + value) }) o b.2) (record {
      account = account;
      no_vendor = kind;
      asks = asks;
      stands = mapped (λ _. balance h account) (account_in h account) a.0 known;
      price_is = refl;
      deed_is = ap (λ (n : ℕ). credit (n + value)) (sym is);
      fits = omega (arith, below, is);
    })

offers : (limits : Limits) (h : History) (t : ℕ) (target : List ℕ) (value : ℕ) (o : Offer) → offer h t limits target value ≡ Ok o → Offers limits.series h t target value o
unfolding broker_offer
offers limits h t target value o ran = by_kind (is_vendor h) refl ran
  where
    on_shelf : is_vendor h ≡ true → shelf_by (price_in h target) value ≡ Ok o → Offers limits.series h t target value o
    on_shelf kind r =
        let a = line_ok (given (price_in h target) NoSuchGoods) (λ price. refused_if (ltb value price) (TooLittle price) >>= λ _. Ok (record { price = price; deed = goods_deed })) o r in
        let b = line_ok (refused_if (ltb value a.0) (TooLittle a.0)) (λ _. Ok (record { price = a.0; deed = goods_deed })) o a.2 in
        let is = ok_is (record { price = a.0; deed = goods_deed }) o b.2 in
        goods (ap (λ (x : Offer). x.deed) (sym is)) (record { at_vendor = kind; price_is = given_ok (price_in h target) NoSuchGoods a.0 a.1 ∙ ap (λ (x : Offer). some x.price) is })

    at_desk : is_vendor h ≡ false → (e : Option Errand) → errand_of target ≡ e → errand_offer h t limits value e ≡ Ok o → Offers limits.series h t target value o
    at_desk kind (Some (buy vendor asked)) asks r = sells (sold_is limits h t target vendor asked value o kind asks r)
    at_desk kind (Some (pay_in account)) asks r = credits (credited_is limits h t target account value o kind asks r)
    at_desk kind (Some (draw account order amount)) asks r = absurd cc
    at_desk kind None asks r = absurd cc

    by_kind : (b : Bool) → is_vendor h ≡ b → cond b (shelf_by (price_in h target) value) (broker_offer h t limits target value) ≡ Ok o → Offers limits.series h t target value o
    by_kind true kind r = on_shelf kind r
    by_kind false kind r = at_desk kind (errand_of target) refl r

-- ---- the laws

pub taken_goods : (h : History) (t : ℕ) (limits : Limits) (q : Asked) (m : ℕ) (scrip target : List ℕ) (sign : Option (List ℕ)) (price : ℕ) (change : Option ℕ)
    → answer h t limits q ≡ Take (Accept m scrip target sign price change goods_deed) → IsBought h target price
taken_goods h t limits q m scrip target sign price change r =
    let x = accept_answer h t limits q m scrip target sign price change goods_deed r in
    let deed : x.offered.deed ≡ goods_deed = ap deed_in x.is in
    subst (λ (at : List ℕ). IsBought h at price) (ap target_in x.is)
    (subst (λ (n : ℕ). IsBought h q.target n) (ap price_paid x.is) (go x.offered deed (offers limits h t q.target x.scrip.piece.value x.offered x.is_offered)))
  where
    go : (o : Offer) {value : ℕ} → o.deed ≡ goods_deed → Offers limits.series h t q.target value o → IsBought h q.target o.price
    go o deed (goods is b) = b
    go o deed (sells s) = absurd (no_goods _ _ (sym deed ∙ s.supplies.0))
    go o deed (credits c) = absurd (no_goods_credit _ (sym deed ∙ c.deed_is))

pub taken_sale : (h : History) (t : ℕ) (limits : Limits) (q : Asked) (m : ℕ) (scrip target : List ℕ) (sign : Option (List ℕ)) (price : ℕ) (change : Option ℕ) (stock : Bool) (id : ℕ)
    → answer h t limits q ≡ Take (Accept m scrip target sign price change (sale stock id)) → IsSale limits.series h t target price stock id
taken_sale h t limits q m scrip target sign price change stock id r =
    let x = accept_answer h t limits q m scrip target sign price change (sale stock id) r in
    let deed : x.offered.deed ≡ sale stock id = ap deed_in x.is in
    subst (λ (at : List ℕ). IsSale limits.series h t at price stock id) (ap target_in x.is)
    (subst (λ (n : ℕ). IsSale limits.series h t q.target n stock id) (ap price_paid x.is) (go x.offered deed (offers limits h t q.target x.scrip.piece.value x.offered x.is_offered)))
  where
    go : (o : Offer) {value : ℕ} → o.deed ≡ sale stock id → Offers limits.series h t q.target value o → IsSale limits.series h t q.target o.price stock id
    go o deed (goods is b) = absurd (no_goods stock id (sym is ∙ deed))
    go o deed (credits c) = absurd (no_credit _ stock id (sym c.deed_is ∙ deed))
    go o deed (sells s) = record {
      vendor = s.vendor;
      value = s.value;
      no_vendor = s.no_vendor;
      asks = s.asks;
      price_is = s.price_is;
      supplied = subst (λ (n : ℕ). IsSupplied limits.series h t s.vendor s.value stock n) (ap deed_id deed) (subst (λ (b : Bool). IsSupplied limits.series h t s.vendor s.value b (deed_id o.deed)) (ap is_stock_deed deed) s.supplies.1);
    }

no_more : (value price : ℕ) (next : Result ℕ Stop) (change : Option ℕ) → price ≡ value → needed (ltb price value) next ≡ Ok change → change ≡ None
no_more value price next change is r = go (ltb price value) (le-ltb price value (omega (arith, is))) r
  where
    go : (b : Bool) → b ≡ false → needed b next ≡ Ok change → change ≡ None
    go true e f = absurd cc
    go false e f = sym (ok_is None change f)

pub taken_credit : (h : History) (t : ℕ) (limits : Limits) (q : Asked) (m : ℕ) (scrip target : List ℕ) (sign : Option (List ℕ)) (price : ℕ) (change : Option ℕ) (after : ℕ)
    → answer h t limits q ≡ Take (Accept m scrip target sign price change (credit after)) → IsCredit h scrip target price change after
taken_credit h t limits q m scrip target sign price change after r =
    let x = accept_answer h t limits q m scrip target sign price change (credit after) r in
    let deed : x.offered.deed ≡ credit after = ap deed_in x.is in
    let read : piece_of scrip ≡ Some x.scrip.piece = ap piece_of (sym (ap text_in x.is)) ∙ ap piece_read x.is_scrip in
    subst (λ (at : List ℕ). IsCredit h scrip at price change after) (ap target_in x.is)
    (subst (λ (n : ℕ). IsCredit h scrip q.target n change after) (ap price_paid x.is)
    (subst (λ (c : Option ℕ). IsCredit h scrip q.target x.offered.price c after) (ap accept_change x.is)
    (go x.offered x.scrip.piece x.change _ deed read x.is_change (offers limits h t q.target x.scrip.piece.value x.offered x.is_offered))))
  where
    go : (o : Offer) (p : Scrip) (c : Option ℕ) (next : Result ℕ Stop) → o.deed ≡ credit after → piece_of scrip ≡ Some p → needed (ltb o.price p.value) next ≡ Ok c → Offers limits.series h t q.target p.value o → IsCredit h scrip q.target o.price c after
    go o p c next deed read rest (goods is b) = absurd (no_goods_credit after (sym is ∙ deed))
    go o p c next deed read rest (sells s) = absurd (no_credit after _ _ (sym deed ∙ s.supplies.0))
    go o p c next deed read rest (credits k) =
        let is : balance h k.account + p.value ≡ after = ap deed_balance (sym k.deed_is ∙ deed) in
        record {
          account = k.account;
          piece = p;
          no_vendor = k.no_vendor;
          asks = k.asks;
          stands = k.stands;
          is_piece = read;
          price_is = k.price_is;
          change_is = no_more p.value o.price next c k.price_is rest;
          after_is = omega (arith, is, k.price_is);
          fits = omega (arith, is, k.fits);
        }

pub taken_draw : (h : History) (t : ℕ) (limits : Limits) (q : Asked) (m : ℕ) (target sign : List ℕ) (id : ℕ)
    → answer h t limits q ≡ Take (Draw m target sign id) → IsDraw limits.series h t target sign id
taken_draw h t limits q m target sign id r =
    let d = draw_answer h t limits q m target sign id r in
    let x = d.through in
    let next = next_is limits.series (own_series h t) (own_count h (own_series h t)) x.id x.is_next in
    let own : IsDraw limits.series h t q.target (request_signature (codes "-") q.target x.key) x.id = record {
      order = d.order;
      key = x.key;
      at_broker = d.at_broker;
      asks = d.asks;
      stands = x.is_known;
      signed = refl;
      rises = leb-false d.order.order (last_order h d.order.account) x.is_rising;
      covered = ltb-false (balance h d.order.account) d.order.amount x.is_covered;
      next = next.1;
      room = next.0;
    } in
    subst (λ (n : ℕ). IsDraw limits.series h t target sign n) (ap id_in x.is)
    (subst (λ (g : List ℕ). IsDraw limits.series h t target g x.id) (ap sign_in x.is)
    (subst (λ (at : List ℕ). IsDraw limits.series h t at (request_signature (codes "-") q.target x.key) x.id) (ap target_in x.is) own))
