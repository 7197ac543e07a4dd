use Rattle.audit_search.specs.Findings.{vendors_among}
use Rattle.audit_search.proofs.FiledLaws.{filed_by, same_shops}
use Rattle.audit_search.proofs.shops.Shops.new.Goals as goal

pub stock_all-requires-clause-filed : goal.stock_all-requires-clause-filed
stock_all-requires-clause-filed c = filed_by c.args.places c.args.broker.now (vendors_among c.args.books.now) c.in_ok-list.list.items c.requires c.in_ok-list.ensures.shops

pub sell_all-requires-clause-filed : goal.sell_all-requires-clause-filed
sell_all-requires-clause-filed c =
    let b = c.args.broker.now in
    let vs = vendors_among c.args.books.now in
    let stocked = c.stock_all.new.shops.items in
    filed_by c.args.places b vs stocked c.requires (same_shops b vs c.in_ok-list.list.items stocked c.in_ok-list.ensures.shops c.in_ok-stock_all.ensures.same)

pub invariant_of-result : goal.invariant_of-result
invariant_of-result c =
    let b = c.args.broker.now in
    let vs = vendors_among c.args.books.now in
    let stocked = c.stock_all.new.shops.items in
    let sold = c.sell_all.new.shops.items in
    record {
      filed = filed_by c.args.places b vs sold c.requires
          (same_shops b vs stocked sold (same_shops b vs c.in_ok-list.list.items stocked c.in_ok-list.ensures.shops c.in_ok-stock_all.ensures.same) c.in_ok-sell_all.ensures.same);
    }

pub returns-clause-shops : goal.returns-clause-shops
returns-clause-shops c =
    let b = c.args.broker.now in
    let vs = vendors_among c.args.books.now in
    let stocked = c.stock_all.new.shops.items in
    same_shops b vs stocked c.sell_all.new.shops.items (same_shops b vs c.in_ok-list.list.items stocked c.in_ok-list.ensures.shops c.in_ok-stock_all.ensures.same) c.in_ok-sell_all.ensures.same
