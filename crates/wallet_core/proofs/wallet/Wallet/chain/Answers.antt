use Rattle.std.proofs.Common.{sym, ◌∙◌}
use Rattle.scrip_journal.proofs.SwitchLaws.{chain_found}
use Rattle.wallet_core.proofs.wallet.Wallet.chain.Goals as goal

pub returns : goal.returns
returns g c = rw (← c.self.view_is) (λ h st.
    chain_found g.D.Disk.disk c.self.inside.journal h c.unwrap.result st.journal (sym c.chain.ensures ∙ c.unwrap.ensures))
