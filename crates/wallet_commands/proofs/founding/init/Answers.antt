use Rattle.std.proofs.Common.{◌≡◌, ◌∙◌, ℕ, ◌∷◌, [], refl, sym, ap, subst, Some, Err}
use Rattle.mc_outside.specs.LinkView.{LinkView}
use Rattle.scrip_journal.specs.Founds.{fault_disk, CountsBy}
use Rattle.millicent_http.specs.declared.clock.Clock.TheVariants.{OfLinks}
use Rattle.millicent_http.specs.Courses.{AreRead, with_readings}
use Rattle.command_status.specs.Faults.{fault_status}
use Rattle.command_status.specs.declared.status.Status.TheVariants as ends
use Rattle.wallet_core.specs.WalletView.{WalletView}
use Rattle.command_status.specs.Founding.{FoundAt}
use Rattle.wallet_commands.specs.Founding.{site_of}
use Rattle.wallet_commands.proofs.CauseLemmas.{founding_causes}
use Rattle.wallet_core.proofs.DiskLemmas.{on_disk}
use Rattle.wallet_commands.proofs.FoundLemmas.{first_has_room, found_pairs, unfounded_pairs, not_founded}
use Rattle.wallet_commands.proofs.founding.init.Goals as goal

pub found_wallet-requires-clause-room : goal.found_wallet-requires-clause-room
found_wallet-requires-clause-room g c = first_has_room c.args.name.now c.now-moment.result c.bytes-bytes.ensures.name c.seconds-seconds.ensures.last

pub returns-in-Ok-clause-causes : goal.returns-in-Ok-clause-causes
returns-in-Ok-clause-causes g c =
    let keeps = g.met.O.Outside.link_keeps _ _ c.now-moment.ensures.moved in
    let same : g.O.Link.link c.in-Ok.wallet.journal.disk ≡ g.O.Link.link c.now-moment.new.self = g.met.O.Outside.disk_keeps _ _ c.in-Ok.ensures.moved in
    rw c.close.ensures (record { disk' = c.in-Ok.ensures.fault ∙ keeps.faults; link' = ap (λ (v : LinkView). v.faults) (same ∙ c.now-moment.ensures.rest) })

pub returns-in-Ok-clause-founded : goal.returns-in-Ok-clause-founded
returns-in-Ok-clause-founded g c x told =
    let m = c.now-moment.new.self in
    let b = c.in-Ok.wallet.journal.disk in
    let keeps = g.met.O.Outside.link_keeps _ _ c.now-moment.ensures.moved in
    let at : (g.O.Disk.disk m).contents ≡ Some x = keeps.contents ∙ told in
    let same : g.O.Link.link b ≡ g.O.Link.link m = g.met.O.Outside.disk_keeps _ _ c.in-Ok.ensures.moved in
    let by = c.in-Ok.ensures.exact x at in
    let found : FoundAt g.O.Link.link g.O.Disk.disk (site_of c.args.name.now c.now-moment.result) c.args.out (ends.Founded c.args.name.now) b c.now-moment.result = record {
      read = subst (λ (v : LinkView). AreRead OfLinks (c.now-moment.result ∷ []) (g.O.Link.link c.args.out).readings v.readings) (sym same) c.now-moment.ensures.read;
      rest = subst (λ (v : LinkView). v ≡ with_readings v.readings (g.O.Link.link c.args.out)) (sym same) c.now-moment.ensures.rest;
      pairs = found_pairs g.O.Link.link g.O.Disk.disk c.args.out m b (site_of c.args.name.now c.now-moment.result) g.met.O.Outside.sent_aside keeps c.now-moment.ensures.rest (c.in-Ok.ensures.ran x at);
    } in
    rw c.close.ensures (c.now-moment.result, found, (refl, by.free, on_disk g.O.Disk.disk c.in-Ok.wallet (site_of c.args.name.now c.now-moment.result ∷ []) by.wallet))

pub returns-in-Err-clause-causes : goal.returns-in-Err-clause-causes
returns-in-Err-clause-causes g c =
    let keeps = g.met.O.Outside.link_keeps _ _ c.now-moment.ensures.moved in
    let same : g.O.Link.link (fault_disk c.in-Err.fault) ≡ g.O.Link.link c.now-moment.new.self = g.met.O.Outside.disk_keeps _ _ c.in-Err.ensures.moved in
    rw (c.not_opened.ensures.disk, c.not_opened.ensures.status)
    (founding_causes (WalletView g.row.O.Denot) g.O.Link.link g.O.Disk.disk c.args.out c.in-Err.fault
    (subst (λ (n : ℕ). CountsBy {D = g.row.O.Denot} {A = WalletView g.row.O.Denot} (Err c.in-Err.fault) n (g.O.Disk.disk (fault_disk c.in-Err.fault)).faults) keeps.faults c.in-Err.ensures.fault)
    (ap (λ (v : LinkView). v.faults) (same ∙ c.now-moment.ensures.rest)))

pub returns-in-Err-clause-founded : goal.returns-in-Err-clause-founded
returns-in-Err-clause-founded g c x told =
    let m = c.now-moment.new.self in
    let b = fault_disk c.in-Err.fault in
    let keeps = g.met.O.Outside.link_keeps _ _ c.now-moment.ensures.moved in
    let at : (g.O.Disk.disk m).contents ≡ Some x = keeps.contents ∙ told in
    let same : g.O.Link.link b ≡ g.O.Link.link m = g.met.O.Outside.disk_keeps _ _ c.in-Err.ensures.moved in
    let found : FoundAt g.O.Link.link g.O.Disk.disk (site_of c.args.name.now c.now-moment.result) c.args.out (fault_status c.in-Err.fault) b c.now-moment.result = record {
      read = subst (λ (v : LinkView). AreRead OfLinks (c.now-moment.result ∷ []) (g.O.Link.link c.args.out).readings v.readings) (sym same) c.now-moment.ensures.read;
      rest = subst (λ (v : LinkView). v ≡ with_readings v.readings (g.O.Link.link c.args.out)) (sym same) c.now-moment.ensures.rest;
      pairs = unfounded_pairs g.O.Link.link g.O.Disk.disk c.args.name.now c.now-moment.result x c.args.out m c.in-Err.fault g.met.O.Outside.sent_aside keeps c.now-moment.ensures.rest (c.in-Err.ensures.exact x at) c.in-Err.ensures.read (c.in-Err.ensures.ran x at);
    } in
    rw (c.not_opened.ensures.disk, c.not_opened.ensures.status)
    (c.now-moment.result, found, not_founded g.O.Disk.disk c.args.name.now c.now-moment.result x c.args.out m c.in-Err.fault told keeps (c.in-Err.ensures.exact x at) c.in-Err.ensures.read)
