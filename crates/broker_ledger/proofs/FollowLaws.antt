-- What may follow at a broker, as the accounts answer it.
use Rattle.std.proofs.Common.{◌≡◌, ℕ, ◌+◌, ◌<◌, ◌≤◌, true, false, unwrap_or, List, Option, Some, None, Result, Ok, Err, option_map, IsSome, refl, sym, ap, subst, arith}
use Rattle.std.specs.Prelude.{◌==◌, IfSome}
use Rattle.std.specs.Result.{result_ok}
use Rattle.std.proofs.lemmas.Bool.{eqb-true}
use Rattle.std.proofs.lemmas.Option.{same_Some}
use Rattle.mc_base.specs.declared.amount.TheConstants.Amount.{MOST}
use Rattle.scrip_form.specs.Scrip.{Scrip}
use Rattle.scrip_form.specs.Reading.{scrip_of}
use Rattle.scrip_form.specs.Told.{IsTold}
use Rattle.scrip_form.proofs.Laws.{scrip_of_tells}
use Rattle.mc_records.specs.declared.ranges.TheConstants.{MOST_IN_ACCOUNT}
use Rattle.mc_requests.specs.declared.limits.Limits.{Limits}
use Rattle.mc_requests.specs.Errands.{Errand, errand_of}
use Rattle.mc_records.specs.Entry.{goods_deed, sale, credit, Entry, Accept, Mint, Account, Deposit, Withdraw, Draw}
use Rattle.ledger_model.specs.Histories.{History}
use Rattle.ledger_model.specs.Houses.{site_kind, is_vendor, is_broker}
use Rattle.ledger_model.specs.declared.numbers.TheConstants.{VENDOR_KIND, BROKER_KIND}
use Rattle.ledger_model.specs.Pieces.{piece_of}
use Rattle.ledger_model.specs.Orders.{Order}
use Rattle.ledger_model.specs.Accounts.{account_in, account_key, Movement, movement, credited_for, balance, last_order}
use Rattle.ledger_model.specs.Lawful.{unbounded, request_of, draw_request, MayFollow}
use Rattle.ledger_model.proofs.TakenLaws.{taken_credit, taken_draw}
use Rattle.broker_ledger.specs.Ledger.{AccountsAllow, AccountsAnswer}

-- ---- the value of a piece that is read

piece_fits : (text : List ℕ) (p : Scrip) → piece_of text ≡ Some p → p.value ≤ MOST
piece_fits text p is = go (scrip_of text) (scrip_of_tells text) is
  where
    go : (r : Result (Scrip × List ℕ) ℕ) → IsTold text r → option_map (λ x. x.0) (result_ok r) ≡ Some p → p.value ≤ MOST
    go (Ok x) told is = subst (λ (q : Scrip). q.value ≤ MOST) (same_Some x.0 p is) told.is_piece.most
    go (Err n) told is = absurd cc

-- ---- what the accounts answered

stands_there : (h : History) (name key : List ℕ) (o : Option Entry) → option_map account_key o ≡ Some key → IsSome o
stands_there h name key None is = absurd cc
stands_there h name key (Some e) is = refl

pub answered : (limits : Limits) (h : History) (e : Entry) → MayFollow limits h e → AccountsAnswer h e
answered limits h (Accept m scrip target sign price change (credit after)) may =
    let c = taken_credit h m (unbounded limits) (request_of scrip target sign) m scrip target sign price change after may.allowed in
    let asks : credited_for (errand_of target) price ≡ Some (movement c.account price) = ap (λ (o : Option Errand). credited_for o price) c.asks in
    let value : price ≤ MOST = subst (λ (n : ℕ). n ≤ MOST) (sym c.price_is) (piece_fits scrip c.piece c.is_piece) in
    let fits : balance h c.account + price ≤ MOST_IN_ACCOUNT = omega (arith, c.after_is, c.fits) in
    subst (λ (o : Option Movement). IfSome o (λ x. IsSome (account_in h x.account) × (balance h x.account + x.amount ≤ MOST_IN_ACCOUNT) × (x.amount ≤ MOST))) (sym asks) (c.stands, fits, value)
answered limits h (Accept m scrip target sign price change goods_deed) may = tt
answered limits h (Accept m scrip target sign price change (sale stock id)) may = tt
answered limits h (Draw m target sign drawn) may =
    let d = taken_draw h m (unbounded limits) (draw_request target sign) m target sign drawn may.allowed in
    subst (λ (o : Option Order). IfSome o (λ o. IsSome (account_in h o.account) × (last_order h o.account < o.order) × (o.amount ≤ balance h o.account))) (sym d.asks)
    (stands_there h d.order.account d.key (account_in h d.order.account) d.stands, d.rises, d.covered)
answered limits h e may = tt

-- ---- what the accounts allow

no_vendor : (h : History) → is_broker h ≡ true → is_vendor h ≡ true → ⊥
no_vendor h broker vendor = go (site_kind h) broker vendor
  where
    go : (o : Option ℕ) → unwrap_or (option_map (λ kind. kind == BROKER_KIND) o) false ≡ true → unwrap_or (option_map (λ kind. kind == VENDOR_KIND) o) false ≡ true → ⊥
    go None broker vendor = absurd cc
    go (Some kind) broker vendor = absurd (omega (arith, eqb-true kind BROKER_KIND broker, eqb-true kind VENDOR_KIND vendor))

pub allowed : (limits : Limits) (h : History) (e : Entry) → is_broker h ≡ true → MayFollow limits h e → AccountsAllow h e
allowed limits h (Account m name key) broker may = may.allowed.1
allowed limits h (Deposit m name amount reference) broker may = (may.allowed.1, may.allowed.2, may.allowed.3)
allowed limits h (Withdraw m name amount reference) broker may = (may.allowed.1, may.allowed.2, may.allowed.3)
allowed limits h (Mint m reference count value first) broker may = absurd (no_vendor h broker may.allowed.0)
allowed limits h e broker may = tt
