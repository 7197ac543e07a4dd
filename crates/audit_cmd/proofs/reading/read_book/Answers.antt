use Rattle.std.proofs.Common.{◌≡◌, Err, subst, ◌∙◌}
use Rattle.scrip_journal.specs.Founds.{fault_disk}
use Rattle.scrip_journal.specs.declared.fault.HouseFault.{HouseFault}
use Rattle.audit_cmd.specs.Reading.{ReadsHouse}
use Rattle.audit_cmd.proofs.WalletLaws.{wallet_fault}
use Rattle.audit_cmd.proofs.reading.read_book.Goals as goal

pub returns-in-Err-read_wallet-clause-exact : goal.returns-in-Err-read_wallet-clause-exact
returns-in-Err-read_wallet-clause-exact g c x told =
    let same = subst (λ (f : HouseFault g.row.D.Denot). (g.D.Disk.disk (fault_disk f)).contents ≡ (g.D.Disk.disk c.args.disk).contents) c.in-WrongKind.is c.in-Err.ensures.read.contents in
    let other = subst (λ (f : HouseFault g.row.D.Denot). ReadsHouse {D = g.row.D.Denot} x (Err f)) c.in-WrongKind.is (c.in-Err.ensures.exact x told) in
    wallet_fault {D = g.row.D.Denot} x c.in-Err-read_wallet.fault other (c.in-Err-read_wallet.ensures.exact x (same ∙ told))
