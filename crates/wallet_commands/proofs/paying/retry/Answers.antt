use Rattle.std.proofs.Common.{inl, inr, refl}
use Rattle.scrip_journal.specs.Founds.{fault_disk}
use Rattle.wallet_core.specs.WalletView.{WalletView}
use Rattle.wallet_commands.specs.Books.{Opened}
use Rattle.wallet_core.specs.OnDisk.{Untouched}
use Rattle.wallet_commands.proofs.CauseLemmas.{causes_opened, none_on_disk, opening_causes}
use Rattle.wallet_core.proofs.DiskLemmas.{on_disk, not_opened}
use Rattle.wallet_commands.proofs.paying.retry.Goals as goal

pub returns-in-Err-clause-causes : goal.returns-in-Err-clause-causes
returns-in-Err-clause-causes g c =
    rw (c.not_opened.ensures.disk, c.not_opened.ensures.status)
    (opening_causes (WalletView g.row.O.Denot) g.O.Link.link g.O.Disk.disk c.args.out c.in-Err.fault c.in-Err.ensures.fault (g.met.O.Outside.disk_keeps _ _ c.in-Err.ensures.moved))

pub returns-in-Err-clause-tried : goal.returns-in-Err-clause-tried
returns-in-Err-clause-tried g c x told =
    let same : Untouched g.O.Link.link g.O.Disk.disk c.args.out (fault_disk c.in-Err.fault) = record { link' = g.met.O.Outside.disk_keeps _ _ c.in-Err.ensures.moved; read = c.in-Err.ensures.read } in
    rw (c.not_opened.ensures.disk, c.not_opened.ensures.status) (inl (not_opened g.O.Link.link g.O.Disk.disk x c.args.out c.in-Err.fault (c.in-Err.ensures.exact x told) same))

pub returns-in-Ok-reply_room-clause-causes : goal.returns-in-Ok-reply_room-clause-causes
returns-in-Ok-reply_room-clause-causes g c =
    causes_opened g.O.Link.link g.O.Disk.disk c.args.out c.in-Ok.wallet.journal.disk c.retry_by_clock.result.0 c.retry_by_clock.result.1
    (none_on_disk g.O.Link.link g.O.Disk.disk c.args.out c.in-Ok.wallet.journal.disk c.in-Ok.ensures.fault (g.met.O.Outside.disk_keeps _ _ c.in-Ok.ensures.moved)) (g.met.O.Outside.disk_keeps _ _ c.in-Ok.ensures.moved) c.retry_by_clock.ensures.causes

pub returns-in-Ok-reply_room-clause-tried : goal.returns-in-Ok-reply_room-clause-tried
returns-in-Ok-reply_room-clause-tried g c x told =
    let same : Untouched g.O.Link.link g.O.Disk.disk c.args.out c.in-Ok.wallet.journal.disk = record { link' = g.met.O.Outside.disk_keeps _ _ c.in-Ok.ensures.moved; read = c.in-Ok.ensures.read } in
    let at : Opened g.O.Link.link g.O.Disk.disk x c.args.out c.in-Ok.wallet = record { opened = c.in-Ok.ensures.exact x told; untouched = same } in
    inr (inr (c.retry_by_clock.ensures.tried c.args.out x at))

pub returns-in-Err-reply_room-clause-causes : goal.returns-in-Err-reply_room-clause-causes
returns-in-Err-reply_room-clause-causes g c =
    rw c.close.ensures (none_on_disk g.O.Link.link g.O.Disk.disk c.args.out c.in-Ok.wallet.journal.disk c.in-Ok.ensures.fault (g.met.O.Outside.disk_keeps _ _ c.in-Ok.ensures.moved))

pub returns-in-Err-reply_room-clause-tried : goal.returns-in-Err-reply_room-clause-tried
returns-in-Err-reply_room-clause-tried g c x told =
    let same : Untouched g.O.Link.link g.O.Disk.disk c.args.out c.in-Ok.wallet.journal.disk = record { link' = g.met.O.Outside.disk_keeps _ _ c.in-Ok.ensures.moved; read = c.in-Ok.ensures.read } in
    let at = c.in-Ok.ensures.exact x told in
    rw c.close.ensures (inr (inl (record { history = at.history; stands = at.of_bytes; memory = refl; left = on_disk g.O.Disk.disk c.in-Ok.wallet at.history at.wallet; untouched = same })))
