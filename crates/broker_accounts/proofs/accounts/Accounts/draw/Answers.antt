use Rattle.std.proofs.Common.{◌≡◌, Some, true, false, leb, ap, refl, ◌∙◌, arith}
use Rattle.std.proofs.lemmas.Bool.{lt-ltb, le-leb, lt-leb}
use Rattle.mc_requests.specs.declared.refusal.Refusal.TheVariants as refusals
use Rattle.broker_accounts.specs.Accounts.{AccountView, AccountsView, changed, drawn}
use Rattle.broker_accounts.proofs.AccountLaws.{at_place, found_in, none_in, set_is_changed, stored_set, covered}
use Rattle.broker_accounts.proofs.accounts.Accounts.draw.Goals as goal

pub returns-in-None-clause-refusal : goal.returns-in-None-clause-refusal
returns-in-None-clause-refusal c = rw (none_in c.args.self.now.accounts c.bytes.ensures.value c.place.ensures c.in-None.is) refl

pub returns-then-order-last-clause-refusal : goal.returns-then-order-last-clause-refusal
returns-then-order-last-clause-refusal c =
    let same = ap (λ (v : AccountsView). v.accounts) c.self.view_is in
    let at = at_place same c.bytes.ensures.value c.place.ensures c.in-Some.is c.index_mut-account.ensures.value in
    let stale : leb c.args.order c.index_mut-account.result.now.last ≡ true = le-leb _ _ (omega (arith, c.if-order-last.true, c.last-last.ensures)) in
    rw (found_in same at, stale) (ap (λ n. Some (refusals.StaleOrder n)) c.last-last.ensures)

pub returns-in-None-draw-clause-refusal : goal.returns-in-None-draw-clause-refusal
returns-in-None-draw-clause-refusal c =
    let same = ap (λ (v : AccountsView). v.accounts) c.self.view_is in
    let at = at_place same c.bytes.ensures.value c.place.ensures c.in-Some.is c.index_mut-account.ensures.value in
    let rising : leb c.args.order c.index_mut-account.result.now.last ≡ false = lt-leb _ _ (omega (arith, c.if-order-last.false, c.last-last.ensures)) in
    rw (found_in same at, rising, lt-ltb c.index_mut-account.result.now.balance c.args.a (c.in-None-draw.ensures.none.0 refl)) (ap (λ n. Some (refusals.PoorAccount n)) c.balance-balance.ensures.value)

pub returns-clause-refusal : goal.returns-clause-refusal
returns-clause-refusal c =
    let same = ap (λ (v : AccountsView). v.accounts) c.self.view_is in
    let at = at_place same c.bytes.ensures.value c.place.ensures c.in-Some.is c.index_mut-account.ensures.value in
    let rising : leb c.args.order c.index_mut-account.result.now.last ≡ false = lt-leb _ _ (omega (arith, c.if-order-last.false, c.last-last.ensures)) in
    rw (found_in same at, rising, covered c.index_mut-account.result.now.balance c.args.a c.in-Some-draw.ensures.none.1) refl

pub invariant_of-self-2 : goal.invariant_of-self-2
invariant_of-self-2 c =
    let same = ap (λ (v : AccountsView). v.accounts) c.self.view_is in
    let at = at_place same c.bytes.ensures.value c.place.ensures c.in-Some.is c.index_mut-account.ensures.value in
    stored_set c.self.invariant at c.draw.new.self (ap (λ (a : AccountView). a.name) c.in-Some-draw.ensures.taken)

pub returns-clause-taken : goal.returns-clause-taken
returns-clause-taken c =
    let same = ap (λ (v : AccountsView). v.accounts) c.self.view_is in
    let at = at_place same c.bytes.ensures.value c.place.ensures c.in-Some.is c.index_mut-account.ensures.value in
    set_is_changed at c.self.invariant.apart (drawn c.args.order c.args.a) c.draw.new.self c.in-Some-draw.ensures.taken ∙ ap (changed c.args.name.now (drawn c.args.order c.args.a)) same

pub returns-clause-apart : goal.returns-clause-apart
returns-clause-apart c =
    let same = ap (λ (v : AccountsView). v.accounts) c.self.view_is in
    let at = at_place same c.bytes.ensures.value c.place.ensures c.in-Some.is c.index_mut-account.ensures.value in
    (stored_set c.self.invariant at c.draw.new.self (ap (λ (a : AccountView). a.name) c.in-Some-draw.ensures.taken)).apart
