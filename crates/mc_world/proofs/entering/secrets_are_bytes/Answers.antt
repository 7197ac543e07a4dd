use Rattle.std.proofs.Common.{arith}
use Rattle.mc_world.proofs.Secrets.{has_bytes}
use Rattle.mc_world.proofs.entering.secrets_are_bytes.Goals as goal

pub returns : goal.returns
returns c e is = has_bytes c.args.bytes.now e (λ i. omega (arith, c.type_inv.bytes i)) is
