use Rattle.std.proofs.Common.{inl, inr, refl, Err}
use Rattle.scrip_journal.specs.Founds.{fault_disk}
use Rattle.command_status.specs.declared.status.Status.TheVariants as ends
use Rattle.wallet_core.specs.WalletView.{WalletView}
use Rattle.held_lines.specs.declared.lines.LinesFault.TheVariants as faults
use Rattle.held_lines.specs.Resold.{resold_for, Appends}
use Rattle.wallet_commands.specs.Books.{Opened}
use Rattle.wallet_core.specs.OnDisk.{Untouched}
use Rattle.wallet_commands.specs.Listing.{SaysHeld}
use Rattle.wallet_commands.specs.Paying.{NotAsked}
use Rattle.wallet_commands.proofs.CauseLemmas.{opening_causes}
use Rattle.wallet_core.proofs.DiskLemmas.{not_opened}
use Rattle.wallet_commands.proofs.PayLemmas.{AtClock, clocked_by, not_asked}
use Rattle.wallet_commands.proofs.HeldLemmas.{said_lines}
use Rattle.wallet_commands.proofs.listing.list_held.Goals as goal

pub returns-in-Err-clause-causes : goal.returns-in-Err-clause-causes
returns-in-Err-clause-causes g c =
    rw (c.not_opened.ensures.disk, c.not_opened.ensures.status)
    (opening_causes (WalletView g.row.O.Denot) g.O.Link.link g.O.Disk.disk c.args.out c.in-Err.fault c.in-Err.ensures.fault (g.met.O.Outside.disk_keeps _ _ c.in-Err.ensures.moved))

pub returns-in-Err-clause-told : goal.returns-in-Err-clause-told
returns-in-Err-clause-told g c x told =
    let same : Untouched g.O.Link.link g.O.Disk.disk c.args.out (fault_disk c.in-Err.fault) = record { link' = g.met.O.Outside.disk_keeps _ _ c.in-Err.ensures.moved; read = c.in-Err.ensures.read } in
    rw (c.not_opened.ensures.disk, c.not_opened.ensures.status) (inl (not_opened g.O.Link.link g.O.Disk.disk x c.args.out c.in-Err.fault (c.in-Err.ensures.exact x told) same))

pub returns-in-Ok-held_lines-clause-told : goal.returns-in-Ok-held_lines-clause-told
returns-in-Ok-held_lines-clause-told g c x told =
    let w = c.in-Ok.wallet in
    let y = c.raise_by_clock-reading.new.wallet in
    let r = c.raise_by_clock-reading.ensures in
    let same : Untouched g.O.Link.link g.O.Disk.disk c.args.out w.journal.disk = record { link' = g.met.O.Outside.disk_keeps _ _ c.in-Ok.ensures.moved; read = c.in-Ok.ensures.read } in
    let at : Opened g.O.Link.link g.O.Disk.disk x c.args.out w = record { opened = c.in-Ok.ensures.exact x told; untouched = same } in
    let clock : AtClock g.O.Link.link g.O.Disk.disk x c.args.out w y c.raise_by_clock-reading.result =
    record { opened = at; keeps = g.met.O.Outside.link_keeps _ _ r.moved; stands = r.stands at.opened.history at.opened.wallet; time' = r.time; rest = r.rest; read = r.read } in
    let os = resold_for at.opened.history y.book.time c.args.vendor.now in
    let said : SaysHeld os (ends.Did c.held_lines.new.out.items) =
    said_lines os c.new-lines.result.items c.held_lines.new.out.items c.in-Ok-held_lines.field-0 c.new-lines.ensures.items (c.in-Ok-held_lines.ensures.exact at.opened.history clock.stands) in
    rw (c.close.ensures, c.of.ensures) (inr (clocked_by g.O.Link.link g.O.Disk.disk x c.args.out w y c.raise_by_clock-reading.result g.met.O.Outside.sent_aside clock
    (λ h t clocked. SaysHeld (resold_for h t c.args.vendor.now) (ends.Did c.held_lines.new.out.items) × NotAsked g.O.Link.link g.O.Disk.disk h c.args.out clocked y.journal.disk)
    (said, not_asked g.O.Link.link g.O.Disk.disk x c.args.out w y c.raise_by_clock-reading.result g.met.O.Outside.sent_aside clock y clock.stands refl)))

pub returns-in-Err-Refused-clause-told : goal.returns-in-Err-Refused-clause-told
returns-in-Err-Refused-clause-told g c x told =
    let w = c.in-Ok.wallet in
    let y = c.raise_by_clock-reading.new.wallet in
    let r = c.raise_by_clock-reading.ensures in
    let same : Untouched g.O.Link.link g.O.Disk.disk c.args.out w.journal.disk = record { link' = g.met.O.Outside.disk_keeps _ _ c.in-Ok.ensures.moved; read = c.in-Ok.ensures.read } in
    let at : Opened g.O.Link.link g.O.Disk.disk x c.args.out w = record { opened = c.in-Ok.ensures.exact x told; untouched = same } in
    let clock : AtClock g.O.Link.link g.O.Disk.disk x c.args.out w y c.raise_by_clock-reading.result =
    record { opened = at; keeps = g.met.O.Outside.link_keeps _ _ r.moved; stands = r.stands at.opened.history at.opened.wallet; time' = r.time; rest = r.rest; read = r.read } in
    let os = resold_for at.opened.history y.book.time c.args.vendor.now in
    let said : SaysHeld os (ends.Refused c.in-Err-Refused.none) =
    let refused : Appends os c.new-lines.result.items c.held_lines.new.out.items (Err (faults.Refused c.in-Err-Refused.none)) = rw c.in-Err-Refused.field-0-is at (c.in-Err-Refused.ensures.exact at.opened.history clock.stands) in (refused.0, refused.1) in
    rw c.close-in-Err-Refused.ensures (inr (clocked_by g.O.Link.link g.O.Disk.disk x c.args.out w y c.raise_by_clock-reading.result g.met.O.Outside.sent_aside clock
    (λ h t clocked. SaysHeld (resold_for h t c.args.vendor.now) (ends.Refused c.in-Err-Refused.none) × NotAsked g.O.Link.link g.O.Disk.disk h c.args.out clocked y.journal.disk)
    (said, not_asked g.O.Link.link g.O.Disk.disk x c.args.out w y c.raise_by_clock-reading.result g.met.O.Outside.sent_aside clock y clock.stands refl)))

pub returns-clause-told : goal.returns-clause-told
returns-clause-told g c x told =
    let w = c.in-Ok.wallet in
    let y = c.raise_by_clock-reading.new.wallet in
    let r = c.raise_by_clock-reading.ensures in
    let same : Untouched g.O.Link.link g.O.Disk.disk c.args.out w.journal.disk = record { link' = g.met.O.Outside.disk_keeps _ _ c.in-Ok.ensures.moved; read = c.in-Ok.ensures.read } in
    let at : Opened g.O.Link.link g.O.Disk.disk x c.args.out w = record { opened = c.in-Ok.ensures.exact x told; untouched = same } in
    let clock : AtClock g.O.Link.link g.O.Disk.disk x c.args.out w y c.raise_by_clock-reading.result =
    record { opened = at; keeps = g.met.O.Outside.link_keeps _ _ r.moved; stands = r.stands at.opened.history at.opened.wallet; time' = r.time; rest = r.rest; read = r.read } in
    let os = resold_for at.opened.history y.book.time c.args.vendor.now in
    let said : SaysHeld os (ends.NoMemory) =
    tt in
    rw c.close-in-Err-NoMemory.ensures (inr (clocked_by g.O.Link.link g.O.Disk.disk x c.args.out w y c.raise_by_clock-reading.result g.met.O.Outside.sent_aside clock
    (λ h t clocked. SaysHeld (resold_for h t c.args.vendor.now) (ends.NoMemory) × NotAsked g.O.Link.link g.O.Disk.disk h c.args.out clocked y.journal.disk)
    (said, not_asked g.O.Link.link g.O.Disk.disk x c.args.out w y c.raise_by_clock-reading.result g.met.O.Outside.sent_aside clock y clock.stands refl)))
