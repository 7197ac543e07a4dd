use Rattle.std.proofs.Common.{refl, ℕ, length, replicate}
use Rattle.std.proofs.lemmas.List.{drop-replicate}
use Rattle.scrip_form.proofs.secrets.with_no_secrets.Goals as goal

pub returns : goal.returns
returns g c = rw (drop-replicate (length c.args.list.now) g.row.N (replicate {A = ℕ} 16 0), c.copy_from_slice.ensures.after) refl
