use Rattle.std.proofs.Common.{◌≡◌, ◌+◌, [], List, Some, take, sym, ap, ◌∙◌, subst, arith}
use Rattle.std.specs.List.{AllZip}
use Rattle.std.proofs.lemmas.List.{take_all}
use Rattle.name_places.specs.NamePlaces.{place_of}
use Rattle.audit_search.specs.declared.shop.Shop.{Shop}
use Rattle.audit_search.specs.Shops.{IsAsBefore}
use Rattle.audit_search.specs.Filed.{place_in, HaveStocked, HaveSold}
use Rattle.audit_search.proofs.Loops.{one_more}
use Rattle.audit_search.proofs.FiledLaws.{shop_names, place_within, still_filed, all_same, same_set, as_stocked, stocked_next, stocked_nowhere, unsold_next}
use Rattle.audit_search.proofs.shops.stock_all.Goals as goal
use Rattle.audit_search.proofs.shops.stock_all.Goals.{in-Some+in_ok-put-in-Some, in-None}

pub loop-row-init : goal.loop-row-init
loop-row-init c = record { same = all_same c.args.shops.now.items; stocked = c.requires.none; unsold = c.requires.unsold }

pub index_mut-requires : goal.index_mut-requires
index_mut-requires c =
    let shops = c.loop-row.shops.items in
    let vendor = c.row-item.result.vendor in
    let place : place_in (shop_names shops) vendor ≡ Some c.in-Some.place =
    sym (still_filed c.args.places.now c.args.shops.now.items shops c.requires.filed c.loop-row.invariant.same vendor) ∙ sym (c.get.ensures ∙ ap (λ name. place_of c.args.places.now name) c.bytes.ensures.value) ∙ c.in-Some.is in
    omega (arith, place_within shops vendor c.in-Some.place place, c.loop-row.shops.ok.0)

pub loop-row-preserved : goal.loop-row-preserved
loop-row-preserved c =
    let shops = c.loop-row.shops.items in
    let r = c.row-item.result in
    let rows = c.args.rows.now in
    let i = c.loop-row.row-index in
    let next = one_more rows i r c.loop-row-test.true c.row-item.is in
    let at = sym (still_filed c.args.places.now c.args.shops.now.items shops c.requires.filed c.loop-row.invariant.same r.vendor) ∙ sym (c.get.ensures ∙ ap (λ name. place_of c.args.places.now name) c.bytes.ensures.value) in
    elim c.match-get.branch [
      | in-Some+in_ok-put-in-Some w ↦
          let n = w.in-Some.place in
          let x = w.index_mut.result.now in
          let y = w.put.new.self in
          let place : place_in (shop_names shops) r.vendor ≡ Some n = at ∙ w.in-Some.is in
          let there = w.index_mut.ensures.value in
          let only = w.in_ok-put-in-Some.ensures.same in
          record {
            same = subst (AllZip IsAsBefore c.args.shops.now.items) (sym (ap (λ v. v.items) w.shops-is)) (same_set c.args.shops.now.items shops n x y (place_within shops r.vendor n place) there (as_stocked x y only) c.loop-row.invariant.same);
            stocked = subst (λ (l : List Shop). HaveStocked l (take (i + 1) rows)) (sym (ap (λ v. v.items) w.shops-is))
                (subst (HaveStocked _) (sym next) (stocked_next (take i rows) r shops n x y place there only w.in_ok-put-in-Some.ensures.stock c.loop-row.invariant.stocked));
            unsold = subst (λ (l : List Shop). HaveSold l []) (sym (ap (λ v. v.items) w.shops-is)) (unsold_next shops n x y r.vendor place there only c.loop-row.invariant.unsold);
          }
      | in-None w ↦
          record {
            same = subst (AllZip IsAsBefore c.args.shops.now.items) (sym (ap (λ v. v.items) w.shops-is)) c.loop-row.invariant.same;
            stocked = subst (λ (l : List Shop). HaveStocked l (take (i + 1) rows)) (sym (ap (λ v. v.items) w.shops-is))
                (subst (HaveStocked shops) (sym next) (stocked_nowhere (take i rows) r shops (at ∙ w.in-None.is) c.loop-row.invariant.stocked));
            unsold = subst (λ (l : List Shop). HaveSold l []) (sym (ap (λ v. v.items) w.shops-is)) c.loop-row.invariant.unsold;
          }
    ]

pub returns-clause-stocked : goal.returns-clause-stocked
returns-clause-stocked c = subst (HaveStocked c.loop-row.shops.items) (take_all c.loop-row.row-index c.args.rows.now c.loop-row-test.false) c.loop-row.invariant.stocked
