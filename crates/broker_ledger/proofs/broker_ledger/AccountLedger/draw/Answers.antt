use Rattle.std.proofs.Common.{◌≡◌, Option, Some, None, List, [], ◌∷◌, ◌++◌, sym, subst, ◌∙◌, refl}
use Rattle.std.specs.Prelude.{◌<◌, ◌≤◌, IfSome, IsSome}
use Rattle.mc_records.specs.Entry.{Draw}
use Rattle.ledger_model.specs.Orders.{Order, order_of}
use Rattle.ledger_model.specs.Accounts.{account_in, last_order, balance}
use Rattle.mc_requests.specs.declared.refusal.Refusal.{Refusal}
use Rattle.broker_accounts.specs.Accounts.{AccountView}
use Rattle.broker_ledger.specs.Ledger.{ShowsAccounts, order_view}
use Rattle.broker_ledger.proofs.LedgerLaws.{draw_more, payments_stay}
use Rattle.broker_ledger.proofs.LearnLaws.{no_draw_more, draw_is_allowed}
use Rattle.broker_ledger.proofs.broker_ledger.AccountLedger.draw.Goals as goal

pub returns-in_default : goal.returns-in_default
returns-in_default c h m drawn_id sign stands answer = record {
  of_accounts = no_draw_more stands.of_accounts m c.args.target.now sign drawn_id (sym c.in_default.ensures);
  payments' = payments_stay stands.payments' _ refl;
}

pub returns-in-Ok : goal.returns-in-Ok
returns-in-Ok c h m drawn_id sign stands answer =
    let asks : order_of c.args.target.now ≡ Some (order_view c.in-Some.order) = sym c.in-Some.ensures in
    let known = subst (λ (o : Option Order). IfSome o (λ o. IsSome (account_in h o.account) × (last_order h o.account < o.order) × (o.amount ≤ balance h o.account))) asks answer in
    record {
      of_accounts = subst (λ (as' : List AccountView). ShowsAccounts as' (h ++ Draw m c.args.target.now sign drawn_id ∷ [])) (sym c.in-Ok.ensures.taken) (draw_more stands.of_accounts m drawn_id c.args.target.now sign (order_view c.in-Some.order) asks known.0 known.2);
      payments' = payments_stay stands.payments' _ refl;
    }

pub returns-in-Err : goal.returns-in-Err
returns-in-Err c h m drawn_id sign stands answer =
    let asks : order_of c.args.target.now ≡ Some (order_view c.in-Some.order) = sym c.in-Some.ensures in
    let known = subst (λ (o : Option Order). IfSome o (λ o. IsSome (account_in h o.account) × (last_order h o.account < o.order) × (o.amount ≤ balance h o.account))) asks answer in
    let refused : ◌≡◌ {A = Option Refusal} (Some c.in-Err.field-0) None =
    c.in-Err.ensures.refusal ∙ draw_is_allowed stands.of_accounts c.in-Some.order.account c.in-Some.order.order c.in-Some.order.amount known.0 known.1 known.2 in
    absurd cc
