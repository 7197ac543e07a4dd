use Rattle.std.proofs.Common.{ℕ, List, ◌++◌, ap, ap₂, ◌∙◌}
use Rattle.scrip_form.specs.Identities.{series_of}
use Rattle.scrip_form.specs.Scrip.{scrip_text}
use Rattle.scrip_certs.specs.Digests.{customer_secret}
use Rattle.mc_records.specs.PieceLine.{piece_line}
use Rattle.ledger_model.specs.Houses.{site_name, version}
use Rattle.vendor_core.proofs.lines.put_line.Goals as goal

pub returns : goal.returns
returns g c h terms st own =
    c.in_ok-extend_from_slice.ensures.items
    ∙ ap (λ (bytes : List ℕ). c.args.out.now.items ++ bytes) (c.put_piece_line-len.ensures.line
    ∙ ap₂ (λ (cert secret : List ℕ). piece_line (record { text = scrip_text c.args.piece.now cert; secret = secret })) (c.own_certificate-cert.ensures h terms st own)
    (c.own_secret-secret.ensures h terms st own ∙ ap (λ (cust : ℕ). customer_secret terms cust (version h (site_name h) (series_of cust))) c.cust.ensures.cust))
