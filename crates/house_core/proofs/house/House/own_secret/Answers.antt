use Rattle.std.proofs.Common.{List, ◌∙◌, ap₂, sym}
use Rattle.scrip_form.specs.Identities.{series_of}
use Rattle.scrip_form.specs.Issuing.{Issuing}
use Rattle.scrip_certs.specs.Digests.{customer_secret}
use Rattle.ledger_model.specs.declared.upgraded.Upgraded.{Upgraded}
use Rattle.ledger_model.specs.Houses.{version_by}
use Rattle.house_state.proofs.Tabled.{own_terms_are}
use Rattle.house_core.proofs.house.House.own_secret.Goals as goal

pub returns : goal.returns
returns g c = rw (← c.self.view_is, ← c.self-inside.view_is) (λ h terms st own.
    let state = st.house.represents.state in
    c.secret_of.ensures
    ∙ ap₂ (λ (us : List Upgraded) (t : Issuing). customer_secret t c.args.cust (version_by us (series_of c.args.cust))) (sym state.upgrades) (c.own_terms.ensures ∙ own_terms_are state terms own))
