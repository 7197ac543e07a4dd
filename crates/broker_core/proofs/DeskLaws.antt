-- What a desk represents at one more entry, and what it answers.
use Rattle.std.proofs.Common.{◌≡◌, ℕ, ◌<◌, false, ◌||◌, List, [], ◌∷◌, ◌++◌, Option, Some, None, Err, option_map, unwrap_or, refl, sym, ap, ◌∙◌, arith, rules}
use Rattle.std.specs.Borrow.{Bor}
use Rattle.std.specs.Prelude.{is_some, ◌==◌, ◌↔◌}
use Rattle.std.proofs.lemmas.Option.{same_Some}
use Rattle.std.specs.List.{list_any}
use Rattle.std.proofs.lemmas.Bool.{eq-eqb, false≢true}
use Rattle.mc_requests.specs.declared.limits.Limits.{Limits}
use Rattle.mc_requests.specs.declared.refusal.Refusal.TheVariants.{NoSuchGoods}
use Rattle.mc_records.specs.Views.{entry}
use Rattle.mc_records.specs.declared.piece_list.PieceList.{PieceList}
use Rattle.mc_records.specs.declared.record.Record.{Record}
use Rattle.mc_records.specs.declared.terms.RecordTerms.{RecordTerms}
use Rattle.mc_records.specs.declared.record.Record.TheVariants as records
use Rattle.mc_requests.specs.Errands.{Errand, buy, pay_in, draw, errand_of}
use Rattle.mc_requests.proofs.ErrandLaws.{errand_told}
use Rattle.mc_records.specs.Entry.{Deed, Entry, Site, AddTerms, Goods, Accept, Mint, Account, Deposit, Withdraw, Draw, Licence, Stock, Upgrade}
use Rattle.ledger_model.specs.declared.numbers.TheConstants.{BROKER_KIND}
use Rattle.ledger_model.specs.Histories.{History}
use Rattle.ledger_model.specs.Houses.{site_kind, is_vendor, fee}
use Rattle.ledger_model.specs.Orders.{Order, as_order, order_of}
use Rattle.ledger_model.specs.Stock.{stock_ids}
use Rattle.ledger_model.specs.Lines.{Refuse}
use Rattle.ledger_model.specs.Answer.{errand_offer, broker_offer, offer}
use Rattle.ledger_model.specs.Lawful.{MayFollow}
use Rattle.ledger_model.specs.Replies.{errand_price, sale_price, price_asked}
use Rattle.broker_ledger.specs.Ledger.{AccountsAnswer}
use Rattle.broker_stalls.specs.declared.target.Purchase.{Purchase}
use Rattle.broker_stalls.specs.Stalls.{StallView, has_id, empty_stall}
use Rattle.broker_stalls.specs.Shown.{Shows}
use Rattle.broker_stalls.specs.Vendors.{found_stall, asked_to_buy, StallsAllow, StallsAnswer}
use Rattle.house_state.specs.Learning.{Test, untested, ByHouse, ByTrade, MayLearn}
use Rattle.broker_core.specs.Desk.{IsOfBroker, DeskAllows, HasNothingOf, account_credited, credit_offer, fee_by}

-- ---- a broker

vendor_by : (h : History) → site_kind h ≡ Some BROKER_KIND → is_vendor h ≡ false
vendor_by h is = ap (λ (k : Option ℕ). unwrap_or (option_map (λ n. n == 0) k) false) is

pub price_is : (h : History) (target : List ℕ) → site_kind h ≡ Some BROKER_KIND → errand_price (fee h) (errand_of target) ≡ price_asked h target
unfolding sale_price
price_is h target is = rw (vendor_by h is) refl

pub offer_is : (h : History) (t : ℕ) (limits : Limits) (target : List ℕ) (value : ℕ) → site_kind h ≡ Some BROKER_KIND → errand_offer h t limits value (errand_of target) ≡ offer h t limits target value
unfolding broker_offer
offer_is h t limits target value is = rw (vendor_by h is) refl

-- ---- what is offered for an errand

pub buy_asked : (o : Option Errand) (x : Purchase) → Some x ≡ asked_to_buy o → o ≡ Some (buy x.vendor x.value)
buy_asked (Some (buy vendor amount)) x is = ap (λ (y : Purchase). to_buy y) (sym (same_Some x (record { vendor = vendor; value = amount }) is))
  where
    to_buy : Purchase → Option Errand
    to_buy y = Some (buy y.vendor y.value)
buy_asked (Some (pay_in account)) x is = absurd cc
buy_asked (Some (draw account order amount)) x is = absurd cc
buy_asked None x is = absurd cc

pub no_price : (fee : ℕ) (o : Option Errand) → None ≡ asked_to_buy o → None ≡ errand_price fee o
no_price fee (Some (buy vendor amount)) none = absurd cc
no_price fee (Some (pay_in account)) none = refl
no_price fee (Some (draw account order amount)) none = refl
no_price fee None none = refl

pub credits : (h : History) (t : ℕ) (limits : Limits) (value : ℕ) (o : Option Errand) (account : List ℕ) → Some account ≡ account_credited o → errand_offer h t limits value o ≡ credit_offer h account value
credits h t limits value (Some (buy vendor asked)) account is = absurd cc
credits h t limits value (Some (pay_in a)) account is = ap (λ (n : List ℕ). credit_offer h n value) (sym (same_Some account a is))
credits h t limits value (Some (draw a order amount)) account is = absurd cc
credits h t limits value None account is = absurd cc

pub offers_nothing : (h : History) (t : ℕ) (limits : Limits) (value : ℕ) (o : Option Errand) → None ≡ asked_to_buy o → None ≡ account_credited o → errand_offer h t limits value o ≡ Err (Refuse NoSuchGoods)
offers_nothing h t limits value (Some (buy vendor asked)) no_cost no_account = absurd cc
offers_nothing h t limits value (Some (pay_in a)) no_cost no_account = absurd cc
offers_nothing h t limits value (Some (draw a order amount)) no_cost no_account = refl
offers_nothing h t limits value None no_cost no_account = refl

-- ---- one more entry

pub fee_more : (h : History) (e : Entry) (limits : Limits) → ByHouse limits BROKER_KIND h e → fee (h ++ e ∷ []) ≡ fee_by (fee h) e
fee_more [] e limits told = first e
  where
    first : (x : Entry) → fee (x ∷ []) ≡ fee_by 0 x
    first (Site m kind name house) = refl
    first x = refl
fee_more (x ∷ xs) (Site m kind name house) limits told = absurd (no_cons told.0)
  where
    no_cons : x ∷ xs ≡ [] → ⊥
    no_cons is = absurd cc
fee_more (x ∷ xs) e limits told = after x e
  where
    after : (y z : Entry) → fee (y ∷ (xs ++ z ∷ [])) ≡ fee (y ∷ xs)
    after (Site m kind name house) z = refl
    after y z = refl

-- what a draw asks for is more than nothing
pub order_some : (target : List ℕ) (o : Order) → Some o ≡ order_of target → 0 < o.amount
order_some target o is = go (errand_of target) refl is
  where
    go : (e : Option Errand) → errand_of target ≡ e → Some o ≡ as_order e → 0 < o.amount
    go (Some (draw account order amount)) asks same =
        let some = (errand_told target (draw account order amount) asks).0.2.some in
        let amounts : o.amount ≡ amount = ap (λ (x : Order). x.amount) (same_Some o (record { account = account; order = order; amount = amount }) same) in
        omega (arith, some, amounts)
    go (Some (buy vendor asked)) asks same = absurd cc
    go (Some (pay_in account)) asks same = absurd cc
    go None asks same = absurd cc

-- The house answers credits and draws by the accounts, and sales by the stalls: what holds of each entry that may
-- follow holds of those that it answered.
module _ (P : Limits → History → Entry → Type 0) (law : (limits : Limits) (h : History) (e : Entry) → MayFollow limits h e → P limits h e) where
  pub accepted_by : (limits : Limits) (h : History) (m number : ℕ) (scrip target : List ℕ) (sign : Option (List ℕ)) (price : ℕ) (change : Option ℕ) (deed : Deed)
      → MayLearn limits BROKER_KIND number h (Accept m scrip target sign price change deed) → P limits h (Accept m scrip target sign price change deed)
  accepted_by limits h m number scrip target sign price change deed may = law limits h (Accept m scrip target sign price change deed) (record { in_order = may.in_order; allowed = may.by_house })

  pub drawn_by : (limits : Limits) (h : History) (m number : ℕ) (target sign : List ℕ) (drawn : ℕ) → MayLearn limits BROKER_KIND number h (Draw m target sign drawn) → P limits h (Draw m target sign drawn)
  drawn_by limits h m number target sign drawn may = law limits h (Draw m target sign drawn) (record { in_order = may.in_order; allowed = may.by_house })

pub answered_by : ((limits : Limits) (h : History) (e : Entry) → MayFollow limits h e → AccountsAnswer h e)
    → (limits : Limits) (number : ℕ) (h : History) (e : Entry) → MayLearn limits BROKER_KIND number h e → AccountsAnswer h e
answered_by law limits number h (Accept m scrip target sign price change deed) may = accepted_by (λ l g x. AccountsAnswer g x) law limits h m number scrip target sign price change deed may
answered_by law limits number h (Draw m target sign drawn) may = drawn_by (λ l g x. AccountsAnswer g x) law limits h m number target sign drawn may
answered_by law limits number h e may = tt

pub sold_by : ((limits : Limits) (h : History) (e : Entry) → MayFollow limits h e → StallsAnswer limits.series h e)
    → (limits : Limits) (number : ℕ) (h : History) (e : Entry) → MayLearn limits BROKER_KIND number h e → StallsAnswer limits.series h e
sold_by law limits number h (Accept m scrip target sign price change deed) may = accepted_by (λ l g x. StallsAnswer l.series g x) law limits h m number scrip target sign price change deed may
sold_by law limits number h e may = tt

-- The trade's half is what accounts, stalls and moved issuers allow. Every note passes.
pub by_trade : (h : History) (e : Entry) → IsOfBroker e → DeskAllows h e ↔ ByTrade untested BROKER_KIND h e
by_trade h (Account m name key) is = (λ a. (refl, a.0.0), λ b. ((b.1, tt), tt))
by_trade h (Deposit m name amount reference) is = (λ a. (refl, a.0.0.0, a.0.0.1, a.0.0.2), λ b. (((b.1, b.2, b.3), tt), tt))
by_trade h (Withdraw m name amount reference) is = (λ a. (refl, a.0.0.0, a.0.0.1, a.0.0.2), λ b. (((b.1, b.2, b.3), tt), tt))
by_trade h (Licence m vendor terms) is = (λ a. (refl, a.0.1), λ b. ((tt, b.1), tt))
by_trade h (Stock m vendor pieces) is = (λ a. (refl, a.0.1), λ b. ((tt, b.1), tt))
by_trade h (Upgrade m vendor issuer from) is = (λ a other. (refl, a.1 other), λ b. ((tt, tt), λ other. (b other).1))
by_trade h e is = (λ a. search rules, λ b. search rules)

no_other : (kind : ℕ) → kind ≡ 0 → kind ≡ 1 → ⊥
no_other kind a b = absurd (omega (arith, a, b))

-- entries of other kinds are none of a broker's
pub not_by_trade : (passes : Test) (h : History) (e : Entry) → (IsOfBroker e → ⊥) → ByTrade passes BROKER_KIND h e → ⊥
not_by_trade passes h (AddTerms m terms) is b = no_other BROKER_KIND b.0 refl
not_by_trade passes h (Goods m target price k contents) is b = no_other BROKER_KIND b.0 refl
not_by_trade passes h (Mint m reference count value first) is b = no_other BROKER_KIND b.0 refl
not_by_trade passes h e is b = search rules

-- ---- a vendor of whom nothing is there

no_ids : (ids : List ℕ) → ((id : ℕ) → false ≡ list_any (λ k. id == k) ids) → ids ≡ []
no_ids [] none = refl
no_ids (id ∷ ids) none = absurd (false≢true (none id ∙ ap (λ b. b || list_any (λ k. id == k) ids) (eq-eqb id id refl)))

pub nothing_of : (h : History) (vendor : List ℕ) → Shows h vendor empty_stall → HasNothingOf h vendor
unfolding has_id
nothing_of h vendor shows = record { licence = sym shows.terms; stock = no_ids (stock_ids h vendor) shows.ids; known = sym shows.known }

pub none_found : (h : History) (vendor : List ℕ) (o : Option (Bor StallView)) → is_some o ≡ false → Shows h vendor (found_stall o) → Shows h vendor empty_stall
none_found h vendor None none shows = shows
none_found h vendor (Some s) none shows = absurd (false≢true (sym none))

-- the stalls allow every entry but licences and stock
pub stalls_free : (r : Record) → ((m : ℕ) (vendor : Bor (List ℕ)) (terms : RecordTerms) → r ≡ records.Licence m vendor terms → ⊥)
    → ((m : ℕ) (vendor : Bor (List ℕ)) (pieces : PieceList) → r ≡ records.Stock m vendor pieces → ⊥) → (h : History) → StallsAllow h (entry r)
stalls_free (records.Licence m vendor terms) licence stock h = absurd (licence m vendor terms refl)
stalls_free (records.Stock m vendor pieces) licence stock h = absurd (stock m vendor pieces refl)
stalls_free r licence stock h = tt
