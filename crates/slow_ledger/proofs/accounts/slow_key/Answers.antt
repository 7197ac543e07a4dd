use Rattle.std.proofs.Common.{arith, ◌∙◌, Some, None}
use Rattle.std.specs.Option.{option_or}
use Rattle.ledger_model.specs.Accounts.{is_account_of, account_key, key_in}
use Rattle.slow_ledger.proofs.SlowLaws.{from_next}
use Rattle.slow_ledger.proofs.Found.{found_cons}
use Rattle.slow_ledger.proofs.accounts.slow_key.Goals as goal

pub returns-in-Some : goal.returns-in-Some
returns-in-Some c =
    let name = c.args.name.now in
    from_next option_or _ (λ h. key_in h name) (found_cons (is_account_of name) account_key) c.args.h.now c.loop-n.n (Some c.in-Some.key) (omega arith) c.in-Some.ensures ∙ c.loop-n.invariant

pub loop-n-preserved : goal.loop-n-preserved
loop-n-preserved c =
    let name = c.args.name.now in
    from_next option_or _ (λ h. key_in h name) (found_cons (is_account_of name) account_key) c.args.h.now c.loop-n.n None (omega arith) c.in-None.ensures ∙ c.loop-n.invariant
