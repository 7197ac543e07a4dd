use Rattle.std.proofs.Common.{◌+◌, ◌^◌, ◌<◌, ◌≤◌, Some, ap, refl, ◌∙◌, arith}
use Rattle.std.proofs.lemmas.Bool.{lt-ltb, le-ltb}
use Rattle.mc_requests.specs.declared.refusal.Refusal.TheVariants as refusals
use Rattle.broker_accounts.specs.Accounts.{AccountView, AccountsView, changed, credited}
use Rattle.broker_accounts.proofs.AccountLaws.{at_place, found_in, none_in, set_is_changed, stored_set}
use Rattle.broker_accounts.proofs.accounts.Accounts.put.Goals as goal

pub returns-in-None-clause-refusal : goal.returns-in-None-clause-refusal
returns-in-None-clause-refusal c = rw (none_in c.args.self.now.accounts c.bytes.ensures.value c.place.ensures c.in-None.is) refl

pub returns-then-balance-get-clause-refusal : goal.returns-then-balance-get-clause-refusal
returns-then-balance-get-clause-refusal c =
    let same = ap (λ (v : AccountsView). v.accounts) c.self.view_is in
    let at = at_place same c.bytes.ensures.value c.place.ensures c.in-Some.is c.index_mut-account.ensures.value in
    let full : 2 ^ 60 < c.index_mut-account.result.now.balance + c.args.c = omega (arith, c.if-balance-get.true, c.balance-balance.ensures.value, c.balance-balance.ensures.most, c.get.ensures.units, c.amount.ensures) in
    rw (found_in same at, lt-ltb (2 ^ 60) (c.index_mut-account.result.now.balance + c.args.c) full) (ap (λ n. Some (refusals.AccountFull n)) c.balance-balance.ensures.value)

pub returns-clause-refusal : goal.returns-clause-refusal
returns-clause-refusal c =
    let same = ap (λ (v : AccountsView). v.accounts) c.self.view_is in
    let at = at_place same c.bytes.ensures.value c.place.ensures c.in-Some.is c.index_mut-account.ensures.value in
    let room : c.index_mut-account.result.now.balance + c.args.c ≤ 2 ^ 60 = omega (arith, c.if-balance-get.false, c.balance-balance.ensures.value, c.balance-balance.ensures.most, c.get.ensures.units, c.amount.ensures) in
    rw (found_in same at, le-ltb (2 ^ 60) (c.index_mut-account.result.now.balance + c.args.c) room) refl

pub invariant_of-self-2 : goal.invariant_of-self-2
invariant_of-self-2 c =
    let same = ap (λ (v : AccountsView). v.accounts) c.self.view_is in
    let at = at_place same c.bytes.ensures.value c.place.ensures c.in-Some.is c.index_mut-account.ensures.value in
    stored_set c.self.invariant at c.put.new.self (ap (λ (a : AccountView). a.name) c.put.ensures)

pub returns-clause-put : goal.returns-clause-put
returns-clause-put c =
    let same = ap (λ (v : AccountsView). v.accounts) c.self.view_is in
    let at = at_place same c.bytes.ensures.value c.place.ensures c.in-Some.is c.index_mut-account.ensures.value in
    set_is_changed at c.self.invariant.apart (credited c.args.c) c.put.new.self c.put.ensures ∙ ap (changed c.args.name.now (credited c.args.c)) same

pub returns-clause-apart : goal.returns-clause-apart
returns-clause-apart c =
    let same = ap (λ (v : AccountsView). v.accounts) c.self.view_is in
    let at = at_place same c.bytes.ensures.value c.place.ensures c.in-Some.is c.index_mut-account.ensures.value in
    (stored_set c.self.invariant at c.put.new.self (ap (λ (a : AccountView). a.name) c.put.ensures)).apart
