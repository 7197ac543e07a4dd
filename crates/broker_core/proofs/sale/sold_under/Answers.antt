use Rattle.std.proofs.Common.{◌≡◌, ℕ, List, sym, ap, ap₂, subst, ◌∙◌}
use Rattle.scrip_form.specs.Identities.{series_of}
use Rattle.ledger_model.specs.Houses.{version_by}
use Rattle.ledger_model.specs.Stock.{licensed_piece}
use Rattle.broker_core.specs.Moves.{moves_of}
use Rattle.broker_core.specs.Sales.{licensed_deed, IsLicensed}
use Rattle.broker_core.proofs.sale.sold_under.Goals as goal

pub returns-clause-made : goal.returns-clause-made
returns-clause-made c =
    let t = c.args.terms.now in
    let v = c.args.asked.now.vendor in
    let value = c.args.asked.now.value in
    let versions = version_by (moves_of c.args.moves.now.moved v) in
    let same : c.version-version.result ≡ versions (series_of c.of_number-id.result) =
    c.version-version.ensures.value ∙ ap₂ (λ (n : List ℕ) (s : ℕ). version_by (moves_of c.args.moves.now.moved n) s) c.bytes.ensures.value c.series.ensures in
    subst (IsLicensed t versions v value) (sym (c.licensed_sale.ensures ∙ ap (licensed_deed t) c.licensed_piece.ensures))
    (ap (λ (n : ℕ). licensed_deed t (licensed_piece n t v value c.of_number-id.result)) same)
