use Rattle.std.proofs.Common.{◌≡◌, ◌∙◌, Some, None, true, false, bytes_eq, ap, ap₂, sym}
use Rattle.ledger_model.specs.Houses.{site_name}
use Rattle.ledger_model.specs.Stock.{licence_in, upgrade_terms}
use Rattle.broker_core.proofs.MoveLaws.{own_issuer, own_terms, licensed_issuer, licensed_terms, no_terms, licence_above}
use Rattle.broker_core.proofs.operator.terms_to_move.Goals as goal

pub returns-then-eq-clause-issuer : goal.returns-then-eq-clause-issuer
returns-then-eq-clause-issuer g c h st =
    let own : bytes_eq c.args.vendor.now (site_name h) ≡ true = sym (c.if-eq.ensures ∙ ap₂ bytes_eq c.bytes.ensures.value (c.bytes-2.ensures.value ∙ c.name.ensures h st)) in
    own_issuer h c.args.vendor.now own

pub returns-then-eq-clause-terms : goal.returns-then-eq-clause-terms
returns-then-eq-clause-terms g c h st =
    let own : bytes_eq c.args.vendor.now (site_name h) ≡ true = sym (c.if-eq.ensures ∙ ap₂ bytes_eq c.bytes.ensures.value (c.bytes-2.ensures.value ∙ c.name.ensures h st)) in
    sym (c.own_terms.ensures h st) ∙ sym (own_terms h c.args.vendor.now own) ∙ ap (upgrade_terms h c.args.vendor.now) (own_issuer h c.args.vendor.now own)

pub returns-in-Some-clause-issuer : goal.returns-in-Some-clause-issuer
returns-in-Some-clause-issuer g c h st =
    let other : bytes_eq c.args.vendor.now (site_name h) ≡ false = sym (c.if-eq.ensures ∙ ap₂ bytes_eq c.bytes.ensures.value (c.bytes-2.ensures.value ∙ c.name.ensures h st)) in
    let stands : Some c.in-Some.terms.now ≡ licence_in h c.args.vendor.now = c.in-Some.ensures h (c.trade.ensures h st) ∙ ap (licence_in h) c.bytes-3.ensures.value in
    c.issuer.ensures ∙ licensed_issuer h c.args.vendor.now other (Some c.in-Some.terms.now) stands

pub returns-in-Some-clause-terms : goal.returns-in-Some-clause-terms
returns-in-Some-clause-terms g c h st =
    let other : bytes_eq c.args.vendor.now (site_name h) ≡ false = sym (c.if-eq.ensures ∙ ap₂ bytes_eq c.bytes.ensures.value (c.bytes-2.ensures.value ∙ c.name.ensures h st)) in
    let stands : Some c.in-Some.terms.now ≡ licence_in h c.args.vendor.now = c.in-Some.ensures h (c.trade.ensures h st) ∙ ap (licence_in h) c.bytes-3.ensures.value in
    let above = licence_above h st.journal.stands.fits c.args.vendor.now c.in-Some.terms.now stands in
    licensed_terms h c.args.vendor.now st.house.represents.of_kind c.in-Some.terms.now above stands
    ∙ ap (upgrade_terms h c.args.vendor.now) (licensed_issuer h c.args.vendor.now other (Some c.in-Some.terms.now) stands)

pub returns-in-None-clause-issuer : goal.returns-in-None-clause-issuer
returns-in-None-clause-issuer g c h st =
    let other : bytes_eq c.args.vendor.now (site_name h) ≡ false = sym (c.if-eq.ensures ∙ ap₂ bytes_eq c.bytes.ensures.value (c.bytes-2.ensures.value ∙ c.name.ensures h st)) in
    licensed_issuer h c.args.vendor.now other None (c.in-None.ensures h (c.trade.ensures h st) ∙ ap (licence_in h) c.bytes-3.ensures.value)

pub returns-in-None-clause-terms : goal.returns-in-None-clause-terms
returns-in-None-clause-terms g c h st =
    let other : bytes_eq c.args.vendor.now (site_name h) ≡ false = sym (c.if-eq.ensures ∙ ap₂ bytes_eq c.bytes.ensures.value (c.bytes-2.ensures.value ∙ c.name.ensures h st)) in
    let none : None ≡ licence_in h c.args.vendor.now = c.in-None.ensures h (c.trade.ensures h st) ∙ ap (licence_in h) c.bytes-3.ensures.value in
    no_terms h c.args.vendor.now st.house.represents.of_kind none ∙ ap (upgrade_terms h c.args.vendor.now) (licensed_issuer h c.args.vendor.now other None none)
