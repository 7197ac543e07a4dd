use Rattle.std.proofs.Common.{◌≡◌, ◌∙◌, ◌++◌, List, ℕ, ap, ap₂, append_assoc, length, codes, sym}
use Rattle.std.proofs.lemmas.List.{length-map}
use Rattle.ledger_model.specs.Houses.{site_name}
use Rattle.ledger_model.specs.Goods.{goods_targets, in_force}
use Rattle.said_lines.specs.Lines.{metric}
use Rattle.said_lines.proofs.LineLemmas.{three_behind}
use Rattle.vendor_commands.proofs.status.append_status.Goals as goal

pub returns : goal.returns
returns g c h st =
    let site = c.name-site.ensures h st in
    let shelf = c.trade-shelf.ensures h st in
    let count : length c.targets.result.now ≡ length (goods_targets h) = sym (length-map c.targets.result.now (λ t. t.items)) ∙ ap length (c.targets.ensures h shelf) in
    c.in_ok-append_metric-3.ensures
    ∙ ap₂ (λ (name : List ℕ) (n : ℕ). c.append_metric-2.new.lines.items ++ metric name (codes "millicent_goods_bytes") (codes "gauge") (codes "Bytes of contents on sale.") n) site (c.from.ensures ∙ c.bytes_on_sale.ensures h shelf)
    ∙ ap (λ (before : List ℕ). before ++ metric (site_name h) (codes "millicent_goods_bytes") (codes "gauge") (codes "Bytes of contents on sale.") (in_force h))
    (three_behind c.args.lines.now.items _ _ _ c.append_book.new.lines.items c.append_metric.new.lines.items c.append_metric-2.new.lines.items
    (c.in_ok-append_book.ensures h st)
    (c.in_ok-append_metric.ensures ∙ ap₂ (λ (name : List ℕ) (n : ℕ). c.append_book.new.lines.items ++ metric name (codes "millicent_takings_total") (codes "counter") (codes "Units taken in prices of accepted requests.") n) site (c.takings.ensures h st))
    (c.in_ok-append_metric-2.ensures ∙ ap₂ (λ (name : List ℕ) (n : ℕ). c.append_metric.new.lines.items ++ metric name (codes "millicent_goods") (codes "gauge") (codes "Targets on sale.") n) site count))
    ∙ append_assoc c.args.lines.now.items _ _
