use Rattle.std.proofs.Common.{false, List, ℕ, ap₂, ◌∙◌}
use Rattle.scrip_certs.specs.Digests.{customer_secret}
use Rattle.kept_replies.specs.declared.deed.Deed.TheVariants as kept
use Rattle.broker_core.proofs.sale.licensed_sale.Goals as goal

pub returns : goal.returns
returns c =
    let secret = c.customer_secret.ensures ∙ ap₂ (λ (cust version : ℕ). customer_secret c.args.terms.now cust version) c.cust.ensures.cust c.version.ensures.version in
    ap₂ (λ (x y : List ℕ). kept.Sale c.args.piece x y false) c.certificate_of.ensures secret
