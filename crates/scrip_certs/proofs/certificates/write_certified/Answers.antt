use Rattle.std.proofs.Common.{◌∙◌, sym}
use Rattle.scrip_form.specs.Scrip.{scrip_body}
use Rattle.scrip_form.proofs.Laws.{text_in_parts}
use Rattle.scrip_certs.specs.Digests.{certificate}
use Rattle.scrip_certs.proofs.certificates.write_certified.Goals as goal

pub returns-clause-text : goal.returns-clause-text
returns-clause-text c =
    let p = c.args.piece.now in
    c.put.ensures.put ∙ rw (c.hex_of.ensures, c.certificate-cert.ensures, c.id.ensures.id, c.write_body-body.ensures.body)
    (sym (text_in_parts p (certificate c.args.terms.now (scrip_body p) p.id)))
