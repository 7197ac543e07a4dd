use Rattle.std.proofs.Common.{rules, ◌≡◌, ◌+◌, ◌*◌, ◌<◌, ◌^◌, ℕ, List, ◌++◌, ap, ap₂, ◌∙◌, sym, arith}
use Rattle.scrip_form.specs.Identities.{series_of}
use Rattle.scrip_form.specs.Scrip.{Scrip}
use Rattle.ledger_model.specs.Houses.{site_name, version}
use Rattle.ledger_model.specs.Pieces.{first_hand, run_from}
use Rattle.vendor_core.specs.Lines.{own_line, piece_lines}
use Rattle.vendor_core.proofs.LineLemmas.{line_added}
use Rattle.vendor_core.proofs.lines.put_lines.Goals as goal

pub loop-i-preserved : goal.loop-i-preserved
loop-i-preserved g c h terms st own fits =
    let v = version h (site_name h) in
    let id : c.of_number-id.result ≡ c.args.first + c.loop-i.i = omega (arith, c.loop-i-test.true, c.of_number-id.ensures, c.saturating_add.ensures, c.from.ensures, c.number.ensures) in
    let below : c.parts-issuer.result.1 < 2 ^ 24 = search rules in
    let series : c.parts-issuer.result.0 * 2 ^ 24 + c.parts-issuer.result.1 ≡ series_of c.of_number-id.result = search rules in
    let of_series : v (series_of c.of_number-id.result) ≡ c.version-version.result = ap v (sym series) ∙ sym (c.version-version.ensures.series h st below) in
    let piece : c.new_piece.result ≡ first_hand h c.args.value (c.args.first + c.loop-i.i) =
    c.new_piece.ensures h (sym (c.name-name.ensures h st)) (c.own_terms-terms.ensures h st) of_series ∙ ap (λ (n : ℕ). first_hand h c.args.value n) id in
    c.in-Ok.ensures h terms st own ∙ ap₂ (λ (before : List ℕ) (p : Scrip). before ++ own_line v terms p) (c.loop-i.invariant h terms st own fits) piece
    ∙ sym (line_added h v terms c.args.value c.args.first c.loop-i.i)

pub returns-clause-lines : goal.returns-clause-lines
returns-clause-lines g c h terms st own fits =
    let all : c.loop-i.i ≡ c.args.count = omega (arith, c.loop-i.auto.i-end, c.loop-i-test.false) in
    c.loop-i.invariant h terms st own fits ∙ ap (λ (n : ℕ). piece_lines (version h (site_name h)) terms (run_from h c.args.value c.args.first n)) all
