use Rattle.std.proofs.Common.{◌∙◌, inl, inr, ap}
use Rattle.scrip_journal.specs.Founds.{fault_disk}
use Rattle.command_status.specs.declared.status.Status.TheVariants as ends
use Rattle.wallet_core.specs.WalletView.{WalletView}
use Rattle.wallet_core.specs.OnDisk.{Untouched}
use Rattle.wallet_commands.proofs.CauseLemmas.{opening_causes}
use Rattle.wallet_core.proofs.DiskLemmas.{on_disk, not_opened}
use Rattle.wallet_commands.proofs.LineLemmas.{lines_of_holdings}
use Rattle.wallet_commands.proofs.listing.list.Goals as goal

pub returns-in-Err-clause-causes : goal.returns-in-Err-clause-causes
returns-in-Err-clause-causes g c =
    rw (c.not_opened.ensures.disk, c.not_opened.ensures.status)
    (opening_causes (WalletView g.row.O.Denot) g.O.Link.link g.O.Disk.disk c.args.out c.in-Err.fault c.in-Err.ensures.fault (g.met.O.Outside.disk_keeps _ _ c.in-Err.ensures.moved))

pub returns-in-Err-clause-listed : goal.returns-in-Err-clause-listed
returns-in-Err-clause-listed g c x told =
    let same : Untouched g.O.Link.link g.O.Disk.disk c.args.out (fault_disk c.in-Err.fault) = record { link' = g.met.O.Outside.disk_keeps _ _ c.in-Err.ensures.moved; read = c.in-Err.ensures.read } in
    rw (c.not_opened.ensures.disk, c.not_opened.ensures.status) (inl (not_opened g.O.Link.link g.O.Disk.disk x c.args.out c.in-Err.fault (c.in-Err.ensures.exact x told) same))

pub returns-in-Ok-holding_lines-clause-listed : goal.returns-in-Ok-holding_lines-clause-listed
returns-in-Ok-holding_lines-clause-listed g c x told =
    let at = c.in-Ok.ensures.exact x told in
    let same : Untouched g.O.Link.link g.O.Disk.disk c.args.out c.in-Ok.wallet.journal.disk = record { link' = g.met.O.Outside.disk_keeps _ _ c.in-Ok.ensures.moved; read = c.in-Ok.ensures.read } in
    rw (c.close.ensures, c.of.ensures) (inr (record {
      history = at.history;
      stands = at.of_bytes;
      said = inl (ap (λ l. ends.Did l) (c.in-Ok-holding_lines.ensures ∙ lines_of_holdings c.holdings.result.now _ c.holdings.ensures.spelled (c.holdings.ensures.list at.history at.wallet)));
      left = on_disk g.O.Disk.disk c.in-Ok.wallet at.history at.wallet;
      untouched = same;
    }))
