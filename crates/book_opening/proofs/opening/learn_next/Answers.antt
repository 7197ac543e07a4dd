use Rattle.std.proofs.Common.{◌∙◌, Option, Ok, ℕ, refl, subst}
use Rattle.mc_records.specs.Views.{entry}
use Rattle.scrip_journal.specs.Replays.{ReadsOn}
use Rattle.book_opening.proofs.OpeningLemmas.{none_left, faults_here, malformed_here, entry_fits, learned_more, breaks_here}
use Rattle.book_opening.proofs.opening.learn_next.Goals as goal

pub returns-in-Ok-None-clause-exact : goal.returns-in-Ok-None-clause-exact
returns-in-Ok-None-clause-exact g c o x told belongs l =
    none_left g.D.Disk.disk (g.O.Opener.opener o) x c.args.replay.now c.next_record.new.self c.args.learner.now told l.0 l.1 l.2
    (subst (λ (p : Option ℕ). ReadsOn g.D.Disk.disk l.0 l.1.bytes c.args.replay.now.gate (Ok p) c.next_record.new.self) c.in-Ok-None.field-0-is (c.in-Ok-None.ensures.reads l.0 l.1))

pub returns-in-Err-clause-exact : goal.returns-in-Err-clause-exact
returns-in-Err-clause-exact g c o x told belongs l =
    faults_here g.D.Disk.disk (g.O.Opener.opener o) x c.args.replay.now c.next_record.new.self c.args.learner.now told l.0 l.1 l.2 c.in-Err.fault (c.in-Err.ensures.reads l.0 l.1)

pub returns-in-Err-record-clause-exact : goal.returns-in-Err-record-clause-exact
returns-in-Err-record-clause-exact g c o x told belongs l =
    let reads = subst (λ (p : Option ℕ). ReadsOn g.D.Disk.disk l.0 l.1.bytes c.args.replay.now.gate (Ok p) c.next_record.new.self) c.in-Ok-Some.field-0-is (c.in-Ok-Some.ensures.reads l.0 l.1) in
    malformed_here g.D.Disk.disk (g.O.Opener.opener o) x c.args.replay.now c.next_record.new.self c.args.learner.now told l.0 l.1 l.2 c.in-Err-record.fault c.in-Err-record.ensures.fault reads.1

pub returns-then-not-is_told-clause-exact : goal.returns-then-not-is_told-clause-exact
returns-then-not-is_told-clause-exact g c o x told belongs l =
    let e = entry c.in-Ok.record in
    let reads = subst (λ (p : Option ℕ). ReadsOn g.D.Disk.disk l.0 l.1.bytes c.args.replay.now.gate (Ok p) c.next_record.new.self) c.in-Ok-Some.field-0-is (c.in-Ok-Some.ensures.reads l.0 l.1) in
    let read = reads.1.entry e c.in-Ok.ensures.read.0 c.in-Ok.ensures.read.1 in
    breaks_here g.D.Disk.disk (g.O.Opener.opener o) x c.args.replay.now c.next_record.new.self c.args.learner.now told l.0 l.1 l.2 c.in-Ok-Some.gate e c.next_record.ensures.only_read reads.0 read.0
    (λ may. absurd (cc ((c.if-not-is_told.ensures o l.0 (λ switch. c.chain_before.ensures ∙ read.1 switch)).1 (g.met.O.Opener.told_first o l.0 e may))))

pub returns-in-Ok-learn-clause-exact : goal.returns-in-Ok-learn-clause-exact
returns-in-Ok-learn-clause-exact g c o x told belongs l =
    let e = entry c.in-Ok.record in
    let reads = subst (λ (p : Option ℕ). ReadsOn g.D.Disk.disk l.0 l.1.bytes c.args.replay.now.gate (Ok p) c.next_record.new.self) c.in-Ok-Some.field-0-is (c.in-Ok-Some.ensures.reads l.0 l.1) in
    let read = reads.1.entry e c.in-Ok.ensures.read.0 c.in-Ok.ensures.read.1 in
    learned_more g.D.Disk.disk (g.O.Opener.opener o) x c.args.replay.now c.next_record.new.self c.args.learner.now told l.0 l.1 l.2 c.learn.new.learner e read.0
    (c.in-Ok-learn.ensures.exact o l.0 belongs l.2.holds' ((c.if-not-is_told.ensures o l.0 (λ switch. c.chain_before.ensures ∙ read.1 switch)).0 refl) (entry_fits g.D.Disk.disk l.0 c.next_record.new.self e read.0))

pub returns-in-Err-Unlawful-clause-exact : goal.returns-in-Err-Unlawful-clause-exact
returns-in-Err-Unlawful-clause-exact g c o x told belongs l =
    let e = entry c.in-Ok.record in
    let reads = subst (λ (p : Option ℕ). ReadsOn g.D.Disk.disk l.0 l.1.bytes c.args.replay.now.gate (Ok p) c.next_record.new.self) c.in-Ok-Some.field-0-is (c.in-Ok-Some.ensures.reads l.0 l.1) in
    let read = reads.1.entry e c.in-Ok.ensures.read.0 c.in-Ok.ensures.read.1 in
    let breaks = rw c.in-Err-Unlawful.field-0-is at c.in-Err-Unlawful.ensures.exact o l.0 belongs l.2.holds' ((c.if-not-is_told.ensures o l.0 (λ switch. c.chain_before.ensures ∙ read.1 switch)).0 refl) (entry_fits g.D.Disk.disk l.0 c.next_record.new.self e read.0) in
    breaks_here g.D.Disk.disk (g.O.Opener.opener o) x c.args.replay.now c.next_record.new.self c.args.learner.now told l.0 l.1 l.2 c.in-Ok-Some.gate e c.next_record.ensures.only_read reads.0 read.0 breaks
