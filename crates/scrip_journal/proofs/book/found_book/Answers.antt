use Rattle.mc_records.specs.Views.{entry}
use Rattle.scrip_journal.specs.Founds.{book_disk}
use Rattle.scrip_journal.proofs.FoundLemmas.{found_quiet, founded, wrote}
use Rattle.scrip_journal.proofs.Uncut.{uncut_then}
use Rattle.scrip_journal.proofs.book.found_book.Goals as goal

pub returns-in-Ok-clause-exact : goal.returns-in-Ok-clause-exact
returns-in-Ok-clause-exact g c x told =
    let clear = c.in-Ok.ensures.exact x told in
    founded g.D.Disk.disk (entry c.args.first.now) x c.enter_first.result clear.1 (c.enter_first.ensures.exact clear.0)

pub returns-in-Ok-clause-ran : goal.returns-in-Ok-clause-ran
returns-in-Ok-clause-ran g c x told =
    found_quiet (g.D.Disk.disk c.args.disk) (g.D.Disk.disk c.in-Ok.journal.disk) (g.D.Disk.disk (book_disk c.enter_first.result)) (entry c.args.first.now) x told (c.in-Ok.ensures.exact x told).1 (g.met.D.Disk.disk_goes _ _ c.in-Ok.ensures.moved)
    (c.in-Ok.ensures.ran x told) (c.enter_first.ensures.ran (c.in-Ok.ensures.exact x told).0)

pub returns-in-Ok-clause-read : goal.returns-in-Ok-clause-read
returns-in-Ok-clause-read g c = wrote g.D.Disk.disk c.args.disk c.enter_first.result (λ x told. (c.in-Ok.ensures.exact x told).1) c.enter_first.ensures.wrote

pub returns-in-Ok-clause-uncut : goal.returns-in-Ok-clause-uncut
returns-in-Ok-clause-uncut g c x told stands = uncut_then _ _ _ (c.in-Ok.ensures.uncut x told stands) c.enter_first.ensures.uncut
