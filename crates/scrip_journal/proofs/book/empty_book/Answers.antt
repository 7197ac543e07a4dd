use Rattle.std.proofs.Common.{[], List, ℕ, Option, Ok, inl, ap, ◌∙◌, sym, subst}
use Rattle.mc_outside.specs.DiskView.{OnlyRead}
use Rattle.mc_outside.proofs.Runs.{read_then}
use Rattle.scrip_journal.specs.Layout.{Encodes, IsSpoiled, IsUnchained}
use Rattle.scrip_journal.specs.Founds.{book_disk}
use Rattle.scrip_journal.specs.Replays.{ReadsOn}
use Rattle.scrip_journal.proofs.Unique.{not_both, chain_or_history}
use Rattle.scrip_journal.proofs.Reading.{bytes_told}
use Rattle.scrip_journal.proofs.FoundLemmas.{no_more, cleared, empty_begins, short_then, read_then_emptied, read_before}
use Rattle.scrip_journal.proofs.Uncut.{uncut_same}
use Rattle.scrip_journal.proofs.book.empty_book.Goals as goal

pub returns-in-Ok-None-clause-exact : goal.returns-in-Ok-None-clause-exact
returns-in-Ok-None-clause-exact g c x told =
    let r = c.in-Ok.ensures.opened x told in
    let here = c.in-Ok.ensures.read.contents ∙ told in
    let reads = subst (λ (o : Option ℕ). ReadsOn g.D.Disk.disk [] r.bytes c.in-Ok.replay.gate (Ok o) c.next_record.new.self) c.in-Ok-None.field-0-is (c.in-Ok-None.ensures.reads [] r) in
    (c.finish.ensures.journal [] reads.1, inl (subst (Encodes []) (bytes_told g.D.Disk.disk c.in-Ok.replay [] x r here) reads.0))

pub returns-in-Ok-Some-clause-exact : goal.returns-in-Ok-Some-clause-exact
returns-in-Ok-Some-clause-exact g c x told =
    let r = c.in-Ok.ensures.opened x told in
    let at = c.in-Ok.ensures.read.contents ∙ told in
    let reads = subst (λ (o : Option ℕ). ReadsOn g.D.Disk.disk [] r.bytes c.in-Ok.replay.gate (Ok o) c.next_record.new.self) c.in-Ok-Some.field-0-is (c.in-Ok-Some.ensures.reads [] r) in
    cleared g.D.Disk.disk x c.empty_small-in-Ok-Some.result (no_more r.bytes x reads.1.behind reads.1.opened (bytes_told g.D.Disk.disk c.in-Ok.replay [] x r at))
    (c.empty_small-in-Ok-Some.ensures.exact x (ap (λ (d : g.row.D.Denot). (g.D.Disk.disk d).contents) c.close.ensures ∙ (c.next_record.ensures.only_read.contents ∙ at)))

pub returns-in-Err-BadRecord-clause-exact : goal.returns-in-Err-BadRecord-clause-exact
returns-in-Err-BadRecord-clause-exact g c x told =
    let r = c.in-Ok.ensures.opened x told in
    let at = c.in-Ok.ensures.read.contents ∙ told in
    let here = c.next_record.ensures.only_read.contents ∙ at in
    let reads = rw c.in-Err-BadRecord.field-0-is at c.in-Err-BadRecord.ensures.reads [] r in
    let spoiled = subst (λ (bytes : List ℕ). IsSpoiled [] bytes c.in-Err-BadRecord.field-0-0) (bytes_told g.D.Disk.disk c.in-Ok.replay [] x r at) reads.0 in
    cleared g.D.Disk.disk x c.empty_small-in-Err-BadRecord.result (not_both [] [] x c.in-Err-BadRecord.field-0-0 spoiled)
    (c.empty_small-in-Err-BadRecord.ensures.exact x (ap (λ (d : g.row.D.Denot). (g.D.Disk.disk d).contents) c.close-in-Err-BadRecord.ensures ∙ here))

pub returns-in-Err-BadChain-clause-exact : goal.returns-in-Err-BadChain-clause-exact
returns-in-Err-BadChain-clause-exact g c x told =
    let r = c.in-Ok.ensures.opened x told in
    let at = c.in-Ok.ensures.read.contents ∙ told in
    let here = c.next_record.ensures.only_read.contents ∙ at in
    let reads = rw c.in-Err-BadChain.field-0-is at c.in-Err-BadChain.ensures.reads [] r in
    let unchained = subst (λ (bytes : List ℕ). IsUnchained [] bytes c.in-Err-BadChain.field-0-0 c.in-Err-BadChain.field-0-1 c.in-Err-BadChain.field-0-2) (bytes_told g.D.Disk.disk c.in-Ok.replay [] x r at) reads.0 in
    cleared g.D.Disk.disk x c.empty_small-in-Err-BadChain.result (chain_or_history [] [] x c.in-Err-BadChain.field-0-0 c.in-Err-BadChain.field-0-1 c.in-Err-BadChain.field-0-2 unchained)
    (c.empty_small-in-Err-BadChain.ensures.exact x (ap (λ (d : g.row.D.Denot). (g.D.Disk.disk d).contents) c.close-in-Err-BadChain.ensures ∙ here))

pub returns-in-Err-NotJournal-clause-ran : goal.returns-in-Err-NotJournal-clause-ran
returns-in-Err-NotJournal-clause-ran g c x told =
    let no = c.in-Err-NotJournal in
    let read = rw no.field-0-is at no.ensures.read in
    let opens = rw no.field-0-is at no.ensures.exact x told in
    let synced = rw no.field-0-is at no.ensures.synced in
    short_then _ _ _ read (c.empty_small.ensures.ran x (read.contents ∙ told) (λ stands. opens (empty_begins x stands)) synced)

pub returns-in-Ok-Some-clause-ran : goal.returns-in-Ok-Some-clause-ran
returns-in-Ok-Some-clause-ran g c x told =
    let r = c.in-Ok.ensures.opened x told in
    let at = c.in-Ok.ensures.read.contents ∙ told in
    let reads = subst (λ (o : Option ℕ). ReadsOn g.D.Disk.disk [] r.bytes c.in-Ok.replay.gate (Ok o) c.next_record.new.self) c.in-Ok-Some.field-0-is (c.in-Ok-Some.ensures.reads [] r) in
    let read = subst (λ (d : g.row.D.Denot). OnlyRead (g.D.Disk.disk c.in-Ok.replay.disk) (g.D.Disk.disk d)) (sym c.close.ensures) c.next_record.ensures.only_read in
    read_then_emptied g.D.Disk.disk (g.D.Disk.disk c.args.disk) c.in-Ok.replay c.close.result (book_disk c.empty_small-in-Ok-Some.result) x c.in-Ok.ensures.read r told read
    (no_more r.bytes x reads.1.behind reads.1.opened (bytes_told g.D.Disk.disk c.in-Ok.replay [] x r at)) c.empty_small-in-Ok-Some.ensures.ran

pub returns-in-Err-BadRecord-clause-ran : goal.returns-in-Err-BadRecord-clause-ran
returns-in-Err-BadRecord-clause-ran g c x told =
    let r = c.in-Ok.ensures.opened x told in
    let reads = rw c.in-Err-BadRecord.field-0-is at c.in-Err-BadRecord.ensures.reads [] r in
    let spoiled = subst (λ (bytes : List ℕ). IsSpoiled [] bytes c.in-Err-BadRecord.field-0-0) (bytes_told g.D.Disk.disk c.in-Ok.replay [] x r (c.in-Ok.ensures.read.contents ∙ told)) reads.0 in
    let read = subst (λ (d : g.row.D.Denot). OnlyRead (g.D.Disk.disk c.in-Ok.replay.disk) (g.D.Disk.disk d)) (sym c.close-in-Err-BadRecord.ensures) c.next_record.ensures.only_read in
    read_then_emptied g.D.Disk.disk (g.D.Disk.disk c.args.disk) c.in-Ok.replay c.close-in-Err-BadRecord.result (book_disk c.empty_small-in-Err-BadRecord.result) x c.in-Ok.ensures.read r told read
    (not_both [] [] x c.in-Err-BadRecord.field-0-0 spoiled) c.empty_small-in-Err-BadRecord.ensures.ran

pub returns-in-Err-BadChain-clause-ran : goal.returns-in-Err-BadChain-clause-ran
returns-in-Err-BadChain-clause-ran g c x told =
    let r = c.in-Ok.ensures.opened x told in
    let reads = rw c.in-Err-BadChain.field-0-is at c.in-Err-BadChain.ensures.reads [] r in
    let unchained = subst (λ (bytes : List ℕ). IsUnchained [] bytes c.in-Err-BadChain.field-0-0 c.in-Err-BadChain.field-0-1 c.in-Err-BadChain.field-0-2) (bytes_told g.D.Disk.disk c.in-Ok.replay [] x r (c.in-Ok.ensures.read.contents ∙ told)) reads.0 in
    let read = subst (λ (d : g.row.D.Denot). OnlyRead (g.D.Disk.disk c.in-Ok.replay.disk) (g.D.Disk.disk d)) (sym c.close-in-Err-BadChain.ensures) c.next_record.ensures.only_read in
    read_then_emptied g.D.Disk.disk (g.D.Disk.disk c.args.disk) c.in-Ok.replay c.close-in-Err-BadChain.result (book_disk c.empty_small-in-Err-BadChain.result) x c.in-Ok.ensures.read r told read
    (chain_or_history [] [] x c.in-Err-BadChain.field-0-0 c.in-Err-BadChain.field-0-1 c.in-Err-BadChain.field-0-2 unchained) c.empty_small-in-Err-BadChain.ensures.ran

pub returns-in-Ok-None-clause-uncut : goal.returns-in-Ok-None-clause-uncut
returns-in-Ok-None-clause-uncut g c x told stands =
    uncut_same _ _ (ap (λ (d : g.row.D.Denot). (g.D.Disk.disk d).contents) c.finish.ensures.disk.0 ∙ (c.next_record.ensures.only_read.contents ∙ c.in-Ok.ensures.read.contents))

pub returns-in-Err-Disk-clause-uncut : goal.returns-in-Err-Disk-clause-uncut
returns-in-Err-Disk-clause-uncut g c x told stands = uncut_same _ _ ((rw c.in-Err-Disk.field-0-is at c.in-Err-Disk.ensures.read).contents)

pub returns-in-Err-NotJournal-clause-uncut : goal.returns-in-Err-NotJournal-clause-uncut
returns-in-Err-NotJournal-clause-uncut g c x told stands = absurd ((rw c.in-Err-NotJournal.field-0-is at c.in-Err-NotJournal.ensures.exact x told) (empty_begins x stands))

pub returns-in-Ok-Some-clause-uncut : goal.returns-in-Ok-Some-clause-uncut
returns-in-Ok-Some-clause-uncut g c x told stands =
    let r = c.in-Ok.ensures.opened x told in
    let at = c.in-Ok.ensures.read.contents ∙ told in
    let reads = subst (λ (o : Option ℕ). ReadsOn g.D.Disk.disk [] r.bytes c.in-Ok.replay.gate (Ok o) c.next_record.new.self) c.in-Ok-Some.field-0-is (c.in-Ok-Some.ensures.reads [] r) in
    absurd (no_more r.bytes x reads.1.behind reads.1.opened (bytes_told g.D.Disk.disk c.in-Ok.replay [] x r at) stands)

pub returns-in-Err-BadRecord-clause-uncut : goal.returns-in-Err-BadRecord-clause-uncut
returns-in-Err-BadRecord-clause-uncut g c x told stands =
    let r = c.in-Ok.ensures.opened x told in
    let reads = rw c.in-Err-BadRecord.field-0-is at c.in-Err-BadRecord.ensures.reads [] r in
    let spoiled = subst (λ (bytes : List ℕ). IsSpoiled [] bytes c.in-Err-BadRecord.field-0-0) (bytes_told g.D.Disk.disk c.in-Ok.replay [] x r (c.in-Ok.ensures.read.contents ∙ told)) reads.0 in
    absurd (not_both [] [] x c.in-Err-BadRecord.field-0-0 spoiled stands)

pub returns-in-Err-BadChain-clause-uncut : goal.returns-in-Err-BadChain-clause-uncut
returns-in-Err-BadChain-clause-uncut g c x told stands =
    let r = c.in-Ok.ensures.opened x told in
    let reads = rw c.in-Err-BadChain.field-0-is at c.in-Err-BadChain.ensures.reads [] r in
    let unchained = subst (λ (bytes : List ℕ). IsUnchained [] bytes c.in-Err-BadChain.field-0-0 c.in-Err-BadChain.field-0-1 c.in-Err-BadChain.field-0-2) (bytes_told g.D.Disk.disk c.in-Ok.replay [] x r (c.in-Ok.ensures.read.contents ∙ told)) reads.0 in
    absurd (chain_or_history [] [] x c.in-Err-BadChain.field-0-0 c.in-Err-BadChain.field-0-1 c.in-Err-BadChain.field-0-2 unchained stands)

pub returns-in-Err-NotJournal-clause-read : goal.returns-in-Err-NotJournal-clause-read
returns-in-Err-NotJournal-clause-read g c =
    let read = rw c.in-Err-NotJournal.field-0-is at c.in-Err-NotJournal.ensures.read in
    read_before g.D.Disk.disk c.args.disk c.in-Err-NotJournal.disk c.empty_small.result read c.empty_small.ensures.read

pub returns-in-Ok-Some-clause-read : goal.returns-in-Ok-Some-clause-read
returns-in-Ok-Some-clause-read g c =
    let read = subst (λ (d : g.row.D.Denot). OnlyRead (g.D.Disk.disk c.in-Ok.replay.disk) (g.D.Disk.disk d)) (sym c.close.ensures) c.next_record.ensures.only_read in
    read_before g.D.Disk.disk c.args.disk c.close.result c.empty_small-in-Ok-Some.result (read_then _ _ _ c.in-Ok.ensures.read read) c.empty_small-in-Ok-Some.ensures.read

pub returns-in-Err-BadRecord-clause-read : goal.returns-in-Err-BadRecord-clause-read
returns-in-Err-BadRecord-clause-read g c =
    let read = subst (λ (d : g.row.D.Denot). OnlyRead (g.D.Disk.disk c.in-Ok.replay.disk) (g.D.Disk.disk d)) (sym c.close-in-Err-BadRecord.ensures) c.next_record.ensures.only_read in
    read_before g.D.Disk.disk c.args.disk c.close-in-Err-BadRecord.result c.empty_small-in-Err-BadRecord.result (read_then _ _ _ c.in-Ok.ensures.read read) c.empty_small-in-Err-BadRecord.ensures.read

pub returns-in-Err-BadChain-clause-read : goal.returns-in-Err-BadChain-clause-read
returns-in-Err-BadChain-clause-read g c =
    let read = subst (λ (d : g.row.D.Denot). OnlyRead (g.D.Disk.disk c.in-Ok.replay.disk) (g.D.Disk.disk d)) (sym c.close-in-Err-BadChain.ensures) c.next_record.ensures.only_read in
    read_before g.D.Disk.disk c.args.disk c.close-in-Err-BadChain.result c.empty_small-in-Err-BadChain.result (read_then _ _ _ c.in-Ok.ensures.read read) c.empty_small-in-Err-BadChain.ensures.read
