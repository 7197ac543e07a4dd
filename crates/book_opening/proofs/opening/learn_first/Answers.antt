use Rattle.std.proofs.Common.{[], Option, Ok, ℕ, subst}
use Rattle.mc_records.specs.Views.{entry}
use Rattle.scrip_journal.specs.Replays.{ReadsOn}
use Rattle.book_opening.proofs.OpeningLemmas.{no_entries, faults_first, malformed_first, first_learned}
use Rattle.book_opening.proofs.opening.learn_first.Goals as goal

pub returns-in-Ok-None-clause-exact : goal.returns-in-Ok-None-clause-exact
returns-in-Ok-None-clause-exact g c x told r =
    no_entries g.D.Disk.disk (g.O.Opener.opener c.args.opener) x c.args.replay.now c.next_record.new.self told r
    (subst (λ (p : Option ℕ). ReadsOn g.D.Disk.disk [] r.bytes c.args.replay.now.gate (Ok p) c.next_record.new.self) c.in-Ok-None.field-0-is (c.in-Ok-None.ensures.reads [] r))

pub returns-in-Err-clause-exact : goal.returns-in-Err-clause-exact
returns-in-Err-clause-exact g c x told r =
    faults_first g.D.Disk.disk (g.O.Opener.opener c.args.opener) x c.args.replay.now c.next_record.new.self told r c.in-Err.fault (c.in-Err.ensures.reads [] r)

pub returns-in-Ok-clause-exact : goal.returns-in-Ok-clause-exact
returns-in-Ok-clause-exact g c x told r =
    let e = entry c.in-Ok.first in
    let reads = subst (λ (p : Option ℕ). ReadsOn g.D.Disk.disk [] r.bytes c.args.replay.now.gate (Ok p) c.next_record.new.self) c.in-Ok-Some.field-0-is (c.in-Ok-Some.ensures.reads [] r) in
    let read = reads.1.entry e c.in-Ok.ensures.read.0 c.in-Ok.ensures.read.1 in
    first_learned g.D.Disk.disk (g.O.Opener.opener c.args.opener) x c.args.replay.now c.next_record.new.self told c.next_record.ensures.only_read e read.0 c.begin_with.result c.begin_with.ensures.exact

pub returns-in-Err-record-clause-exact : goal.returns-in-Err-record-clause-exact
returns-in-Err-record-clause-exact g c x told r =
    let reads = subst (λ (p : Option ℕ). ReadsOn g.D.Disk.disk [] r.bytes c.args.replay.now.gate (Ok p) c.next_record.new.self) c.in-Ok-Some.field-0-is (c.in-Ok-Some.ensures.reads [] r) in
    malformed_first g.D.Disk.disk (g.O.Opener.opener c.args.opener) x c.args.replay.now c.next_record.new.self told r c.in-Err-record.fault c.in-Err-record.ensures.fault reads.1
