use Rattle.std.proofs.Common.{Some, ap, refl, ◌∙◌}
use Rattle.std.proofs.lemmas.Bool.{lt-ltb}
use Rattle.mc_requests.specs.declared.refusal.Refusal.TheVariants as refusals
use Rattle.broker_accounts.specs.Accounts.{AccountView, AccountsView, changed, debited}
use Rattle.broker_accounts.proofs.AccountLaws.{at_place, found_in, none_in, set_is_changed, stored_set, covered}
use Rattle.broker_accounts.proofs.accounts.Accounts.withdraw.Goals as goal

pub returns-in-None-clause-refusal : goal.returns-in-None-clause-refusal
returns-in-None-clause-refusal c = rw (none_in c.args.self.now.accounts c.bytes.ensures.value c.place.ensures c.in-None.is) refl

pub returns-in-None-take-clause-refusal : goal.returns-in-None-take-clause-refusal
returns-in-None-take-clause-refusal c =
    let same = ap (λ (v : AccountsView). v.accounts) c.self.view_is in
    let at = at_place same c.bytes.ensures.value c.place.ensures c.in-Some.is c.index_mut-account.ensures.value in
    rw (found_in same at, lt-ltb c.index_mut-account.result.now.balance c.args.a (c.in-None-take.ensures.none.0 refl)) (ap (λ n. Some (refusals.PoorAccount n)) c.balance-balance.ensures.value)

pub returns-clause-refusal : goal.returns-clause-refusal
returns-clause-refusal c =
    let same = ap (λ (v : AccountsView). v.accounts) c.self.view_is in
    let at = at_place same c.bytes.ensures.value c.place.ensures c.in-Some.is c.index_mut-account.ensures.value in
    rw (found_in same at, covered c.index_mut-account.result.now.balance c.args.a c.in-Some-take.ensures.none.1) refl

pub invariant_of-self-2 : goal.invariant_of-self-2
invariant_of-self-2 c =
    let same = ap (λ (v : AccountsView). v.accounts) c.self.view_is in
    let at = at_place same c.bytes.ensures.value c.place.ensures c.in-Some.is c.index_mut-account.ensures.value in
    stored_set c.self.invariant at c.take.new.self (ap (λ (a : AccountView). a.name) c.in-Some-take.ensures.taken)

pub returns-clause-taken : goal.returns-clause-taken
returns-clause-taken c =
    let same = ap (λ (v : AccountsView). v.accounts) c.self.view_is in
    let at = at_place same c.bytes.ensures.value c.place.ensures c.in-Some.is c.index_mut-account.ensures.value in
    set_is_changed at c.self.invariant.apart (debited c.args.a) c.take.new.self c.in-Some-take.ensures.taken ∙ ap (changed c.args.name.now (debited c.args.a)) same

pub returns-clause-apart : goal.returns-clause-apart
returns-clause-apart c =
    let same = ap (λ (v : AccountsView). v.accounts) c.self.view_is in
    let at = at_place same c.bytes.ensures.value c.place.ensures c.in-Some.is c.index_mut-account.ensures.value in
    (stored_set c.self.invariant at c.take.new.self (ap (λ (a : AccountView). a.name) c.in-Some-take.ensures.taken)).apart
