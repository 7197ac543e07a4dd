use Rattle.std.proofs.Common.{◌∙◌, sym}
use Rattle.command_table.proofs.NamingLemmas.{no_secret_read, secret_read}
use Rattle.command_table.proofs.secrets.reads_secrets.Goals as goal

pub returns-in-Some : goal.returns-in-Some
returns-in-Some c = secret_read _ c.in-Some.name c.form.result.parameters.now _ (sym c.in-Some.is ∙ c.named.ensures) c.form.ensures.parameters c.have_secrets.ensures

pub returns-in-None : goal.returns-in-None
returns-in-None c = (λ t. absurd (cc t), λ reads. absurd (no_secret_read _ (sym c.in-None.is ∙ c.named.ensures) reads))
