use Rattle.std.proofs.Common.{sym, ◌∙◌}
use Rattle.audit_search.specs.Shops.{in_stock}
use Rattle.audit_search.proofs.FiledLaws.{put_new}
use Rattle.audit_search.proofs.shop.Shop.put.Goals as goal

pub returns-in_ok-insert-clause-stock : goal.returns-in_ok-insert-clause-stock
returns-in_ok-insert-clause-stock c = λ id.
    put_new (in_stock c.args.self.now) c.args.part c.number-id.result id _ c.number-id.ensures (sym c.contains_key.ensures ∙ c.if-not-contains_key.true) (c.in_ok-insert.ensures.updates.0 id)
