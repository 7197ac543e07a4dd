use Rattle.std.proofs.Common.{◌∙◌, inl, inr, ap, refl}
use Rattle.scrip_journal.specs.Founds.{fault_disk}
use Rattle.said_lines.specs.Lines.{chain_words}
use Rattle.wallet_core.specs.WalletView.{WalletView}
use Rattle.wallet_commands.specs.Books.{Opened}
use Rattle.wallet_core.specs.OnDisk.{Untouched}
use Rattle.wallet_commands.proofs.CauseLemmas.{none_on_disk, switch_opened, switch_unopened, switch_wanted}
use Rattle.wallet_core.proofs.DiskLemmas.{on_disk, not_opened}
use Rattle.wallet_commands.proofs.chaining.chain.Goals as goal

pub chain_by_clock-requires-clause-begun : goal.chain_by_clock-requires-clause-begun
chain_by_clock-requires-clause-begun g c h st = c.in-Ok-begun_line.ensures.items ∙ ap chain_words (c.name.ensures h st)

pub returns-in-Err-clause-causes : goal.returns-in-Err-clause-causes
returns-in-Err-clause-causes g c =
    rw (c.not_opened.ensures.disk, c.not_opened.ensures.status)
    (switch_unopened (WalletView g.row.O.Denot) g.O.Link.link g.O.Disk.disk c.args.out c.in-Err.fault c.in-Err.ensures.fault (g.met.O.Outside.disk_keeps _ _ c.in-Err.ensures.moved))

pub returns-in-Err-clause-chained : goal.returns-in-Err-clause-chained
returns-in-Err-clause-chained g c x told =
    let same : Untouched g.O.Link.link g.O.Disk.disk c.args.out (fault_disk c.in-Err.fault) = record { link' = g.met.O.Outside.disk_keeps _ _ c.in-Err.ensures.moved; read = c.in-Err.ensures.read } in
    rw (c.not_opened.ensures.disk, c.not_opened.ensures.status) (inl (not_opened g.O.Link.link g.O.Disk.disk x c.args.out c.in-Err.fault (c.in-Err.ensures.exact x told) same))

pub returns-in-Ok-begun_line-clause-causes : goal.returns-in-Ok-begun_line-clause-causes
returns-in-Ok-begun_line-clause-causes g c =
    switch_opened g.O.Link.link g.O.Disk.disk c.args.out c.in-Ok.wallet.journal.disk c.chain_by_clock.result.0 c.chain_by_clock.result.1
    (none_on_disk g.O.Link.link g.O.Disk.disk c.args.out c.in-Ok.wallet.journal.disk c.in-Ok.ensures.fault (g.met.O.Outside.disk_keeps _ _ c.in-Ok.ensures.moved)) (g.met.O.Outside.disk_keeps _ _ c.in-Ok.ensures.moved) c.chain_by_clock.ensures.causes

pub returns-in-Ok-begun_line-clause-chained : goal.returns-in-Ok-begun_line-clause-chained
returns-in-Ok-begun_line-clause-chained g c x told =
    let same : Untouched g.O.Link.link g.O.Disk.disk c.args.out c.in-Ok.wallet.journal.disk = record { link' = g.met.O.Outside.disk_keeps _ _ c.in-Ok.ensures.moved; read = c.in-Ok.ensures.read } in
    let at : Opened g.O.Link.link g.O.Disk.disk x c.args.out c.in-Ok.wallet = record { opened = c.in-Ok.ensures.exact x told; untouched = same } in
    inr (inr (c.chain_by_clock.ensures.chained c.args.out x at))

pub returns-in-Err-begun_line-clause-causes : goal.returns-in-Err-begun_line-clause-causes
returns-in-Err-begun_line-clause-causes g c =
    rw c.close.ensures (switch_wanted g.O.Link.link g.O.Disk.disk c.args.out c.in-Ok.wallet.journal.disk c.in-Ok.ensures.fault (g.met.O.Outside.disk_keeps _ _ c.in-Ok.ensures.moved))

pub returns-in-Err-begun_line-clause-chained : goal.returns-in-Err-begun_line-clause-chained
returns-in-Err-begun_line-clause-chained g c x told =
    let same : Untouched g.O.Link.link g.O.Disk.disk c.args.out c.in-Ok.wallet.journal.disk = record { link' = g.met.O.Outside.disk_keeps _ _ c.in-Ok.ensures.moved; read = c.in-Ok.ensures.read } in
    let at = c.in-Ok.ensures.exact x told in
    rw c.close.ensures (inr (inl (record { history = at.history; stands = at.of_bytes; memory = refl; left = on_disk g.O.Disk.disk c.in-Ok.wallet at.history at.wallet; untouched = same })))
