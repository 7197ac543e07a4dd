use Rattle.std.proofs.Common.{List, [], ap, sym, ◌∙◌, subst}
use Rattle.audit_search.specs.declared.shop.Shop.{Shop}
use Rattle.audit_search.specs.Filed.{HaveStocked, HaveSold}
use Rattle.audit_search.specs.Findings.{AreShopsOf}
use Rattle.audit_search.proofs.FiledLaws.{none_sold, none_stocked}
use Rattle.audit_search.proofs.Kept.{shops_same, shops_next}
use Rattle.audit_search.proofs.shops.shops_of.Goals as goal
use Rattle.audit_search.proofs.shops.shops_of.Goals.{then-not-is_desk+in_ok-new+in_ok-push, else-not-is_desk}

pub loop-book-preserved : goal.loop-book-preserved
loop-book-preserved c =
    let b = c.args.broker.now in
    let books = c.args.books.now in
    let i = c.loop-book.book-index in
    let v = c.book-item.result in
    elim c.if-not-is_desk.branch [
      | then-not-is_desk+in_ok-new+in_ok-push w ↦
          let more = ap (λ x. x.items) w.shops-is ∙ w.in_ok-push.ensures.items in
          record {
            shops = shops_next b books i v w.in_ok-new.field-0 c.loop-book.shops.items c.if-not-is_desk.shops.items c.loop-book-test.true c.book-item.is (sym c.is_desk.ensures ∙ w.if-not-is_desk.true)
                c.loop-book.invariant.shops w.in_ok-new.ensures.shop more;
            stocked = none_stocked c.loop-book.shops.items c.if-not-is_desk.shops.items w.in_ok-new.field-0 more w.in_ok-new.ensures.stock c.loop-book.invariant.stocked;
            sold = none_sold c.loop-book.shops.items c.if-not-is_desk.shops.items w.in_ok-new.field-0 more w.in_ok-new.ensures.sold c.loop-book.invariant.sold;
          }
      | else-not-is_desk w ↦
          let same = sym (ap (λ x. x.items) w.shops-is) in
          record {
            shops = shops_same b books i v c.if-not-is_desk.shops.items c.loop-book-test.true c.book-item.is (sym c.is_desk.ensures ∙ w.if-not-is_desk.false) (subst (AreShopsOf b _) same c.loop-book.invariant.shops);
            stocked = subst (λ (l : List Shop). HaveStocked l []) same c.loop-book.invariant.stocked;
            sold = subst (λ (l : List Shop). HaveSold l []) same c.loop-book.invariant.sold;
          }
    ]
