use Rattle.std.proofs.Common.{inl, inr, ap}
use Rattle.mc_outside.specs.LinkView.{LinkView}
use Rattle.scrip_journal.specs.Founds.{fault_disk}
use Rattle.wallet_core.specs.WalletView.{WalletView}
use Rattle.wallet_commands.specs.Books.{Opened}
use Rattle.wallet_core.specs.OnDisk.{Untouched}
use Rattle.wallet_commands.proofs.CauseLemmas.{causes_opened, opening_causes}
use Rattle.wallet_core.proofs.DiskLemmas.{not_opened}
use Rattle.wallet_commands.proofs.taking.take.Goals as goal

pub returns-in-Ok-clause-causes : goal.returns-in-Ok-clause-causes
returns-in-Ok-clause-causes g c =
    causes_opened g.O.Link.link g.O.Disk.disk c.args.out c.in-Ok.wallet.journal.disk c.take_input.result.0 c.take_input.result.1
    (record { disk' = c.in-Ok.ensures.fault; link' = ap (λ (v : LinkView). v.faults) (g.met.O.Outside.disk_keeps _ _ c.in-Ok.ensures.moved) }) (g.met.O.Outside.disk_keeps _ _ c.in-Ok.ensures.moved) c.take_input.ensures.causes

pub returns-in-Ok-clause-took : goal.returns-in-Ok-clause-took
returns-in-Ok-clause-took g c x told =
    let same : Untouched g.O.Link.link g.O.Disk.disk c.args.out c.in-Ok.wallet.journal.disk = record { link' = g.met.O.Outside.disk_keeps _ _ c.in-Ok.ensures.moved; read = c.in-Ok.ensures.read } in
    let at : Opened g.O.Link.link g.O.Disk.disk x c.args.out c.in-Ok.wallet = record { opened = c.in-Ok.ensures.exact x told; untouched = same } in
    inr (c.take_input.ensures.took c.args.out x at)

pub returns-in-Err-clause-causes : goal.returns-in-Err-clause-causes
returns-in-Err-clause-causes g c =
    rw (c.not_opened.ensures.disk, c.not_opened.ensures.status)
    (opening_causes (WalletView g.row.O.Denot) g.O.Link.link g.O.Disk.disk c.args.out c.in-Err.fault c.in-Err.ensures.fault (g.met.O.Outside.disk_keeps _ _ c.in-Err.ensures.moved))

pub returns-in-Err-clause-took : goal.returns-in-Err-clause-took
returns-in-Err-clause-took g c x told =
    let same : Untouched g.O.Link.link g.O.Disk.disk c.args.out (fault_disk c.in-Err.fault) = record { link' = g.met.O.Outside.disk_keeps _ _ c.in-Err.ensures.moved; read = c.in-Err.ensures.read } in
    rw (c.not_opened.ensures.disk, c.not_opened.ensures.status) (inl (not_opened g.O.Link.link g.O.Disk.disk x c.args.out c.in-Err.fault (c.in-Err.ensures.exact x told) same))
