use Rattle.mc_records.proofs.GroupLaws.{secrets_length}
use Rattle.mc_records.proofs.sizes.secrets_len.Goals as goal

pub returns : goal.returns
returns c = secrets_length c.args.secrets.now c.told-secrets
