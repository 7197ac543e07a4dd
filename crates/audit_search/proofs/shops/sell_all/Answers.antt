use Rattle.std.proofs.Common.{◌≡◌, ◌+◌, List, Some, take, sym, ap, ◌∙◌, subst, arith}
use Rattle.std.specs.List.{AllZip}
use Rattle.std.proofs.lemmas.List.{take_all}
use Rattle.name_places.specs.NamePlaces.{place_of}
use Rattle.audit_search.specs.declared.shop.Shop.{Shop}
use Rattle.audit_search.specs.Shops.{IsAsBefore}
use Rattle.audit_search.specs.Filed.{place_in, HaveStocked, HaveSold}
use Rattle.audit_search.proofs.Loops.{one_more}
use Rattle.audit_search.proofs.FiledLaws.{shop_names, place_within, still_filed, all_same, same_set, as_sold, stock_stays, sold_next, sold_nowhere}
use Rattle.audit_search.proofs.shops.sell_all.Goals as goal
use Rattle.audit_search.proofs.shops.sell_all.Goals.{in-Some+in_ok-sell-in-Some, in-None}

pub loop-sale-init : goal.loop-sale-init
loop-sale-init c = record { same = all_same c.args.shops.now.items; stocked = λ rows have. have; sold = c.requires.none }

pub index_mut-requires : goal.index_mut-requires
index_mut-requires c =
    let shops = c.loop-sale.shops.items in
    let vendor = c.sale-item.result.vendor in
    let place : place_in (shop_names shops) vendor ≡ Some c.in-Some.place =
    sym (still_filed c.args.places.now c.args.shops.now.items shops c.requires.filed c.loop-sale.invariant.same vendor) ∙ sym (c.get.ensures ∙ ap (λ name. place_of c.args.places.now name) c.bytes.ensures.value) ∙ c.in-Some.is in
    omega (arith, place_within shops vendor c.in-Some.place place, c.loop-sale.shops.ok.0)

pub loop-sale-preserved : goal.loop-sale-preserved
loop-sale-preserved c =
    let shops = c.loop-sale.shops.items in
    let s = c.sale-item.result in
    let sales = c.args.sales.now in
    let i = c.loop-sale.sale-index in
    let next = one_more sales i s c.loop-sale-test.true c.sale-item.is in
    let at = sym (still_filed c.args.places.now c.args.shops.now.items shops c.requires.filed c.loop-sale.invariant.same s.vendor) ∙ sym (c.get.ensures ∙ ap (λ name. place_of c.args.places.now name) c.bytes.ensures.value) in
    elim c.match-get.branch [
      | in-Some+in_ok-sell-in-Some w ↦
          let n = w.in-Some.place in
          let x = w.index_mut.result.now in
          let y = w.sell.new.self in
          let place : place_in (shop_names shops) s.vendor ≡ Some n = at ∙ w.in-Some.is in
          let there = w.index_mut.ensures.value in
          let only = w.in_ok-sell-in-Some.ensures.same in
          record {
            same = subst (AllZip IsAsBefore c.args.shops.now.items) (sym (ap (λ v. v.items) w.shops-is)) (same_set c.args.shops.now.items shops n x y (place_within shops s.vendor n place) there (as_sold x y only) c.loop-sale.invariant.same);
            stocked = λ rows have. subst (λ (l : List Shop). HaveStocked l rows) (sym (ap (λ v. v.items) w.shops-is)) (stock_stays shops n x y s.vendor rows place there only (c.loop-sale.invariant.stocked rows have));
            sold = subst (λ (l : List Shop). HaveSold l (take (i + 1) sales)) (sym (ap (λ v. v.items) w.shops-is))
                (subst (HaveSold _) (sym next) (sold_next shops n x y (take i sales) s place there only w.in_ok-sell-in-Some.ensures.sold c.loop-sale.invariant.sold));
          }
      | in-None w ↦
          record {
            same = subst (AllZip IsAsBefore c.args.shops.now.items) (sym (ap (λ v. v.items) w.shops-is)) c.loop-sale.invariant.same;
            stocked = λ rows have. subst (λ (l : List Shop). HaveStocked l rows) (sym (ap (λ v. v.items) w.shops-is)) (c.loop-sale.invariant.stocked rows have);
            sold = subst (λ (l : List Shop). HaveSold l (take (i + 1) sales)) (sym (ap (λ v. v.items) w.shops-is))
                (subst (HaveSold shops) (sym next) (sold_nowhere shops (take i sales) s (at ∙ w.in-None.is) c.loop-sale.invariant.sold));
          }
    ]

pub returns-clause-sold : goal.returns-clause-sold
returns-clause-sold c = subst (HaveSold c.loop-sale.shops.items) (take_all c.loop-sale.sale-index c.args.sales.now c.loop-sale-test.false) c.loop-sale.invariant.sold
