use Rattle.std.proofs.Common.{◌≡◌, List, ◌++◌, ◌+◌, map, take, sym, ap, ◌∙◌, subst, append_assoc, append-nil, IsTrue}
use Rattle.std.specs.List.{AllByRecursion}
use Rattle.std.specs.Prelude.{filter_map, option_to_list}
use Rattle.std.proofs.lemmas.List.{take_all}
use Rattle.ledger_model.specs.Stock.{Sale}
use Rattle.audit_model.specs.declared.sold.Sold.{Sold as Row}
use Rattle.audit_model.specs.Sales.{sale_by}
use Rattle.audit_search.specs.Audit.{has_book}
use Rattle.relayed_books.specs.Tree.{Sold, sold_as, is_genuine}
use Rattle.tree_search.specs.Marks.{MarksShow}
use Rattle.tree_search.specs.Desks.{sold_rows}
use Rattle.tree_search.specs.Verdicts.{verdicts}
use Rattle.tree_search.proofs.JudgeLaws.{sold_rows_more, verdicts_more, known_at}
use Rattle.tree_search.proofs.judge.judge_all.Goals as goal

pub loop-sale-init : goal.loop-sale-init
loop-sale-init c = record {
  told' = λ bs vs h earlier named stand places known lic show. c.new-told.ensures.items;
  shows' = λ vs h earlier named stand places known show. subst (MarksShow c.args.marks.now c.args.names.now) (sym (append-nil earlier)) show;
}

pub loop-sale-preserved : goal.loop-sale-preserved
loop-sale-preserved c =
    let rows = c.args.sales.now in
    let i = c.loop-sale.sale-index in
    let s = c.sale-item.result in
    record {
      told' = λ bs vs h earlier named stand places known lic show.
          verdicts_more (is_genuine bs vs) earlier h rows i s c.in_ok-verdict.verdict c.loop-sale.told.items c.push.new.self.items c.loop-sale-test.true c.sale-item.is
          (c.loop-sale.invariant.told' bs vs h earlier named stand places known lic show)
          (c.in_ok-verdict.ensures.told bs vs h (earlier ++ sold_rows h (take i rows)) named stand places (known_at vs rows i s known c.loop-sale-test.true c.sale-item.is) lic
          (c.loop-sale.invariant.shows' vs h earlier named stand places known show))
          c.in_ok-push.ensures.items;
      shows' = λ vs h earlier named stand places known show.
          let done = sold_rows h (take i rows) in
          let next : (earlier ++ done) ++ option_to_list (sold_as h (sale_by s)) ≡ earlier ++ sold_rows h (take (i + 1) rows) =
          append_assoc earlier done (option_to_list (sold_as h (sale_by s))) ∙ sym (ap (λ (l : List Sold). earlier ++ l) (sold_rows_more h rows i s c.loop-sale-test.true c.sale-item.is)) in
          subst (MarksShow c.judge.new.marks c.args.names.now) next
          (c.in_ok-verdict.ensures.shows vs h (earlier ++ done) named stand places (known_at vs rows i s known c.loop-sale-test.true c.sale-item.is) (c.loop-sale.invariant.shows' vs h earlier named stand places known show));
    }

pub returns-clause-told : goal.returns-clause-told
returns-clause-told c = λ bs vs h earlier named are stand places known lic show.
    let rows = c.args.sales.now in
    subst (λ (l : List Sale). c.loop-sale.told.items ≡ verdicts (is_genuine bs vs) earlier h l) are
    (subst (λ (l : List Row). c.loop-sale.told.items ≡ verdicts (is_genuine bs vs) earlier h (map sale_by l)) (take_all c.loop-sale.sale-index rows c.loop-sale-test.false)
    (c.loop-sale.invariant.told' bs vs h earlier named stand places (subst (AllByRecursion (λ (x : Sale). IsTrue (has_book vs x.vendor))) (sym are) known) lic show))

pub returns-clause-shows : goal.returns-clause-shows
returns-clause-shows c = λ vs h earlier named are stand places known show.
    let rows = c.args.sales.now in
    subst (λ (l : List Sale). MarksShow c.loop-sale.marks c.args.names.now (earlier ++ filter_map (sold_as h) l)) are
    (subst (λ (l : List Row). MarksShow c.loop-sale.marks c.args.names.now (earlier ++ sold_rows h l)) (take_all c.loop-sale.sale-index rows c.loop-sale-test.false)
    (c.loop-sale.invariant.shows' vs h earlier named stand places (subst (AllByRecursion (λ (x : Sale). IsTrue (has_book vs x.vendor))) (sym are) known) show))
