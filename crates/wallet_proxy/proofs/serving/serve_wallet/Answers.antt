use Rattle.std.proofs.Common.{inl, inr, refl}
use Rattle.scrip_journal.specs.Founds.{fault_disk}
use Rattle.wallet_core.specs.WalletView.{WalletView}
use Rattle.wallet_core.specs.OnDisk.{Untouched}
use Rattle.wallet_core.proofs.DiskLemmas.{not_opened}
use Rattle.wallet_proxy.proofs.ProxiedLemmas.{unopened_causes, proxy_causes, proxies_book}
use Rattle.wallet_proxy.proofs.serving.serve_wallet.Goals as goal

pub returns-in-Ok-clause-causes : goal.returns-in-Ok-clause-causes
returns-in-Ok-clause-causes g c =
    rw (c.ended.ensures.out, c.ended.ensures.status)
    (proxy_causes g.O.Link.link g.O.Disk.disk c.args.links c.args.out c.in-Ok.wallet.journal.disk (g.U.Link.link c.args.up.now) (g.U.Link.link c.proxy_links.new.up) c.proxy_links.result
    c.in-Ok.ensures.fault (g.met.O.Outside.disk_keeps _ _ c.in-Ok.ensures.moved) c.proxy_links.ensures.causes c.proxy_links.ensures.enough c.proxy_links.ensures.alone)

pub returns-in-Ok-clause-proxied : goal.returns-in-Ok-clause-proxied
returns-in-Ok-clause-proxied g c x told =
    rw (c.ended.ensures.out, c.ended.ensures.status)
    (inr (proxies_book g.O.Link.link g.O.Disk.disk c.args.vendor.now c.args.limit c.args.budget c.args.links x c.args.out c.in-Ok.wallet (g.U.Link.link c.args.up.now) (g.U.Link.link c.proxy_links.new.up) c.proxy_links.result
    (c.in-Ok.ensures.exact x told) c.in-Ok.ensures.read c.in-Ok.ensures.fault (g.met.O.Outside.disk_keeps _ _ c.in-Ok.ensures.moved) c.proxy_links.ensures.served))

pub returns-in-Err-clause-causes : goal.returns-in-Err-clause-causes
returns-in-Err-clause-causes g c =
    rw (c.not_opened.ensures.disk, c.not_opened.ensures.status)
    (unopened_causes (WalletView g.row.O.Denot) g.O.Link.link g.O.Disk.disk c.args.links c.args.out (g.U.Link.link c.args.up.now) c.in-Err.fault c.in-Err.ensures.fault (g.met.O.Outside.disk_keeps _ _ c.in-Err.ensures.moved))

pub returns-in-Err-clause-proxied : goal.returns-in-Err-clause-proxied
returns-in-Err-clause-proxied g c x told =
    let same : Untouched g.O.Link.link g.O.Disk.disk c.args.out (fault_disk c.in-Err.fault) = record { link' = g.met.O.Outside.disk_keeps _ _ c.in-Err.ensures.moved; read = c.in-Err.ensures.read } in
    rw (c.not_opened.ensures.disk, c.not_opened.ensures.status)
    (inl (not_opened g.O.Link.link g.O.Disk.disk x c.args.out c.in-Err.fault (c.in-Err.ensures.exact x told) same, refl))
