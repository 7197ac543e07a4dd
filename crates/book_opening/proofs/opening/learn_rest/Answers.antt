use Rattle.std.proofs.Common.{◌∙◌}
use Rattle.book_opening.proofs.OpeningLemmas.{read_on_then}
use Rattle.book_opening.proofs.opening.learn_rest.Goals as goal

pub entries-preserved : goal.entries-preserved
entries-preserved g c =
    let further = rw c.in-Ok-true.field-0-test at c.in-Ok-true.ensures.further in
    record {
      read = read_on_then g.D.Disk.disk g.D.Disk.disk_moved c.args.replay.now c.entries.replay c.learn_next.new.replay (g.met.D.Disk.disk_goes_on _ _ _ c.entries.invariant.read.disk_moved c.learn_next.ensures.read.disk_moved) c.entries.invariant.read c.learn_next.ensures.read;
      going = further.2;
      goes_on = further.3;
      faults = c.in-Ok-true.ensures.counts ∙ c.entries.invariant.faults;
      belongs = λ o belongs. c.in-Ok-true.ensures.belongs o (c.entries.invariant.belongs o belongs);
      learned = λ o x told belongs l.
          let exact = c.in-Ok-true.ensures.exact o x (c.entries.invariant.read.only_read.contents ∙ told) (c.entries.invariant.belongs o belongs) (c.entries.invariant.learned o x told belongs l) in
          rw c.in-Ok-true.field-0-test at exact;
    }

pub returns-in-Ok-false-clause-exact : goal.returns-in-Ok-false-clause-exact
returns-in-Ok-false-clause-exact g c o x told belongs l =
    let exact = c.in-Ok-false.ensures.exact o x (c.entries.invariant.read.only_read.contents ∙ told) (c.entries.invariant.belongs o belongs) (c.entries.invariant.learned o x told belongs l) in
    rw c.in-Ok-false.field-0-test at exact

pub returns-in-Err-clause-exact : goal.returns-in-Err-clause-exact
returns-in-Err-clause-exact g c o x told belongs l =
    c.in-Err.ensures.exact o x (c.entries.invariant.read.only_read.contents ∙ told) (c.entries.invariant.belongs o belongs) (c.entries.invariant.learned o x told belongs l)
