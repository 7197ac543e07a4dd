use Rattle.std.proofs.Common.{◌∙◌, ◌++◌, ap, ℕ, codes}
use Rattle.said_lines.specs.Lines.{metric, site_metrics}
use Rattle.said_lines.proofs.LineLemmas.{three_behind}
use Rattle.said_lines.proofs.metric.append_site.Goals as goal

pub returns : goal.returns
unfolding site_metrics
returns c =
    three_behind c.args.lines.now.items _ _ _ c.append_metric.new.lines.items c.append_metric-2.new.lines.items c.append_metric-3.new.lines.items
    (c.in_ok-append_metric.ensures ∙ ap (λ (n : ℕ). c.args.lines.now.items ++ metric c.args.site.now (codes "millicent_entries_total") (codes "counter") (codes "Entries in the book.") n) c.from.ensures)
    (c.in_ok-append_metric-2.ensures ∙ ap (λ (n : ℕ). c.append_metric.new.lines.items ++ metric c.args.site.now (codes "millicent_book_bytes") (codes "gauge") (codes "Bytes of the book.") n) c.from-2.ensures)
    (c.in_ok-append_metric-3.ensures ∙ ap (λ (n : ℕ). c.append_metric-2.new.lines.items ++ metric c.args.site.now (codes "millicent_book_switched") (codes "gauge") (codes "Whether each entry ends with a chain of all before it: 1, else 0.") n) c.one_where.ensures)
