use Rattle.std.proofs.Common.{◌≡◌, refl}
use Rattle.mc_records.specs.Views.{entry}
use Rattle.wallet_core.specs.Answers.{TellsNumber}
use Rattle.wallet_core.proofs.OutcomeLaws.{done_so, refused_so, wanting_so, halted_so}
use Rattle.wallet_core.proofs.wallet.Wallet.enter.Goals as goal

pub returns-in-Done-clause-exact : goal.returns-in-Done-clause-exact
returns-in-Done-clause-exact g c = λ h st.
    done_so g.D.Disk.disk c.args.self h (entry c.args.r.now) (TellsNumber h) (λ e a. a ≡ c.args.answer) c.in-Done.wallet c.in-Done._receipt c.args.answer refl (c.in-Done.ensures.exact h st)

pub returns-in-Refused-clause-exact : goal.returns-in-Refused-clause-exact
returns-in-Refused-clause-exact g c = λ h st.
    refused_so g.D.Disk.disk c.args.self h (entry c.args.r.now) (TellsNumber h) (λ e a. a ≡ c.args.answer) c.in-Refused.wallet c.in-Refused.full (c.in-Refused.ensures.exact h st)

pub returns-in-NoMemory-clause-exact : goal.returns-in-NoMemory-clause-exact
returns-in-NoMemory-clause-exact g c = λ h st.
    wanting_so g.D.Disk.disk c.args.self h (entry c.args.r.now) (TellsNumber h) (λ e a. a ≡ c.args.answer) c.in-NoMemory.wallet (c.in-NoMemory.ensures.exact h st)

pub returns-in-Halted-clause-exact : goal.returns-in-Halted-clause-exact
returns-in-Halted-clause-exact g c = λ h st.
    halted_so g.D.Disk.disk c.args.self h (entry c.args.r.now) (TellsNumber h) (λ e a. a ≡ c.args.answer) c.in-Halted.halted (c.in-Halted.ensures.exact h st)
