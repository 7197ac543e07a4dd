use Rattle.std.proofs.Common.{◌∙◌}
use Rattle.mc_outside.proofs.Runs.{read_then}
use Rattle.book_opening.proofs.opening.open_book.Goals as goal

pub returns-in-Ok-learn_book-clause-read : goal.returns-in-Ok-learn_book-clause-read
returns-in-Ok-learn_book-clause-read g c =
    rw c.finish.ensures.disk.0
    (read_then (g.D.Disk.disk c.args.disk) (g.D.Disk.disk c.in-Ok.replay.disk) (g.D.Disk.disk c.learn_book.new.replay.disk) c.in-Ok.ensures.read c.learn_book.ensures.read.only_read)

pub returns-in-Ok-learn_book-clause-exact : goal.returns-in-Ok-learn_book-clause-exact
returns-in-Ok-learn_book-clause-exact g c x told =
    let learned = c.in-Ok-learn_book.ensures.exact x (c.in-Ok.ensures.read.contents ∙ told) (c.in-Ok.ensures.opened x told) in
    record {
      history = learned.0;
      of_bytes = learned.1;
      journal = c.finish.ensures.journal learned.0 learned.2;
      learned = learned.3;
    }
