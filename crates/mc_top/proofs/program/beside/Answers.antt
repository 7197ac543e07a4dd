use Rattle.mc_top.proofs.ReadLemmas.{all_read}
use Rattle.mc_top.proofs.program.beside.Goals as goal

pub returns-clause-read : goal.returns-clause-read
returns-clause-read g c = all_read g.D.Disk.disk (λ d. g.met.D.Disk.is_disk d) c.args.books.items
