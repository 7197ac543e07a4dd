use Rattle.std.proofs.Common.{◌∙◌}
use Rattle.book_opening.proofs.OpeningLemmas.{read_on_then}
use Rattle.book_opening.proofs.opening.learn_book.Goals as goal

pub returns-in-Ok-learn_rest-clause-read : goal.returns-in-Ok-learn_rest-clause-read
returns-in-Ok-learn_rest-clause-read g c =
    read_on_then g.D.Disk.disk g.D.Disk.disk_moved c.args.replay.now c.learn_first.new.replay c.learn_rest.new.replay (g.met.D.Disk.disk_goes_on _ _ _ c.learn_first.ensures.read.disk_moved c.learn_rest.ensures.read.disk_moved) c.learn_first.ensures.read c.learn_rest.ensures.read

pub returns-in-Err-learn_rest-clause-read : goal.returns-in-Err-learn_rest-clause-read
returns-in-Err-learn_rest-clause-read g c =
    read_on_then g.D.Disk.disk g.D.Disk.disk_moved c.args.replay.now c.learn_first.new.replay c.learn_rest.new.replay (g.met.D.Disk.disk_goes_on _ _ _ c.learn_first.ensures.read.disk_moved c.learn_rest.ensures.read.disk_moved) c.learn_first.ensures.read c.learn_rest.ensures.read

pub returns-in-Err-learn_rest-clause-exact : goal.returns-in-Err-learn_rest-clause-exact
returns-in-Err-learn_rest-clause-exact g c x told r =
    c.in-Err-learn_rest.ensures.exact c.args.opener x (c.learn_first.ensures.read.only_read.contents ∙ told) c.in-Ok.ensures.belongs (c.in-Ok.ensures.exact x told r)
