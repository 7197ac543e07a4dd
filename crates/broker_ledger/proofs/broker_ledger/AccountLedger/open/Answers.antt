use Rattle.std.proofs.Common.{List, ℕ, ap, sym, subst, ◌∙◌, refl, ◌++◌, ◌∷◌, [], is_some}
use Rattle.std.proofs.lemmas.Bool.{false≢true}
use Rattle.mc_records.specs.Entry.{Account}
use Rattle.broker_accounts.specs.Accounts.{AccountView, new_account}
use Rattle.broker_ledger.specs.Ledger.{ShowsAccounts}
use Rattle.broker_ledger.proofs.LedgerLaws.{open_more, payments_stay}
use Rattle.broker_ledger.proofs.LearnLaws.{is_new, is_there, name_is}
use Rattle.broker_ledger.proofs.broker_ledger.AccountLedger.open.Goals as goal

pub returns-in-Ok-clause-exact : goal.returns-in-Ok-clause-exact
returns-in-Ok-clause-exact c h stands =
    let name = name_is _ _ c.args.name.now c.new.ensures.value c.unwrap-name.ensures in
    (λ ok. ap is_some (is_new stands.of_accounts _ c.args.name.now name c.in-Ok.ensures.taken.1), λ new. refl)

pub returns-in-Ok-clause-learned : goal.returns-in-Ok-clause-learned
returns-in-Ok-clause-learned c h m stands ok =
    let name = name_is _ _ c.args.name.now c.new.ensures.value c.unwrap-name.ensures in
    let new = is_new stands.of_accounts _ c.args.name.now name c.in-Ok.ensures.taken.1 in
    let added = c.in-Ok.ensures.added ∙ ap (λ (n : List ℕ). c.args.self.now.accounts.accounts ++ new_account n c.args.key ∷ []) name in
    record {
      of_accounts = subst (λ (as' : List AccountView). ShowsAccounts as' (h ++ Account m c.args.name.now c.args.key ∷ [])) (sym added) (open_more stands.of_accounts m c.args.name.now c.args.key new);
      payments' = payments_stay stands.payments' _ refl;
    }

pub returns-in-Err-clause-exact : goal.returns-in-Err-clause-exact
returns-in-Err-clause-exact c h stands =
    let name = name_is _ _ c.args.name.now c.new.ensures.value c.unwrap-name.ensures in
    let there = is_there stands.of_accounts _ c.args.name.now name (c.in-Err.ensures.taken.0 refl) in
    (λ ok. absurd (false≢true ok), λ new. absurd (false≢true (sym new ∙ there)))
