use Rattle.std.proofs.Common.{◌∙◌, ap}
use Rattle.scrip_form.specs.Issuing.{Issuing}
use Rattle.scrip_form.specs.Scrip.{scrip_body}
use Rattle.scrip_certs.specs.Digests.{certificate}
use Rattle.house_state.proofs.Tabled.{own_terms_are}
use Rattle.house_core.proofs.house.House.own_certificate.Goals as goal

pub returns : goal.returns
returns g c = rw (← c.self.view_is, ← c.self-inside.view_is) (λ h terms st own.
    let p = c.args.piece.now in
    c.own_certificate.ensures ∙ ap (λ (t : Issuing). certificate t (scrip_body p) p.id) (own_terms_are st.house.represents.state terms own))
