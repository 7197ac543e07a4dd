use Rattle.std.proofs.Common.{◌≡◌, ℕ, List, true, Option, sym, ap, ◌∙◌, subst}
use Rattle.std.specs.Prelude.{is_some, MatchOption}
use Rattle.name_places.specs.NamePlaces.{NamePlacesView, place_of}
use Rattle.audit_model.specs.declared.sold.Sold.{Sold}
use Rattle.audit_sums.specs.Learned.{sales_of}
use Rattle.audit_search.specs.Markets.{has_vendor, own_names, IsLeast, HasAll}
use Rattle.audit_search.proofs.NameLaws.{least_by, all_by_same}
use Rattle.audit_search.proofs.Kept.{finds_fault}
use Rattle.audit_search.proofs.audit.find.Goals as goal

pub returns-in-Some-least_lacking : goal.returns-in-Some-least_lacking
returns-in-Some-least_lacking c =
    let b = c.in-Some.broker.now in
    let books = c.args.books.now in
    let own : own_names books ≡ true = sym c.in-Ok-Some.ensures.own ∙ ap is_some c.in-Ok-Some.field-0-is in
    let known : (name : List ℕ) → is_some (place_of c.in-Ok-Some.names name) ≡ has_vendor books name =
    subst (λ (o : Option NamePlacesView). MatchOption o (Unit {0}) (λ ns. (name : List ℕ) → is_some (place_of ns name) ≡ has_vendor books name)) c.in-Ok-Some.field-0-is c.in-Ok-Some.ensures.names in (
      b,
      record {
        market = record { one = sym c.in-Some.ensures; own = own };
        least = subst (λ (l : List Sold). IsLeast (has_vendor books) l c.in-Some-least_lacking.name) c.sales.ensures
            (least_by (λ name. is_some (place_of c.in-Ok-Some.names name)) (has_vendor books) known c.sales.result.now c.in-Some-least_lacking.name c.in-Some-least_lacking.ensures);
      },
    )

pub returns-in-Err-totals_of : goal.returns-in-Err-totals_of
returns-in-Err-totals_of c =
    let b = c.in-Some.broker.now in
    let books = c.args.books.now in
    let own : own_names books ≡ true = sym c.in-Ok-Some.ensures.own ∙ ap is_some c.in-Ok-Some.field-0-is in
    let known : (name : List ℕ) → is_some (place_of c.in-Ok-Some.names name) ≡ has_vendor books name =
    subst (λ (o : Option NamePlacesView). MatchOption o (Unit {0}) (λ ns. (name : List ℕ) → is_some (place_of ns name) ≡ has_vendor books name)) c.in-Ok-Some.field-0-is c.in-Ok-Some.ensures.names in
    let there : HasAll (has_vendor books) (sales_of b) =
    subst (HasAll (has_vendor books)) c.sales.ensures (all_by_same (λ name. is_some (place_of c.in-Ok-Some.names name)) (has_vendor books) known c.sales.result.now c.in-None.ensures) in
    finds_fault b books c.in-Ok.shops.list.items c.in-Err-totals_of.fault (record { one = sym c.in-Some.ensures; own = own }) there c.in-Ok.ensures.shops c.in-Ok.ensures.stocked c.in-Ok.ensures.sold c.in-Err-totals_of.ensures

pub returns-in-Ok-report : goal.returns-in-Ok-report
returns-in-Ok-report c =
    let b = c.in-Some.broker.now in
    let books = c.args.books.now in
    let own : own_names books ≡ true = sym c.in-Ok-Some.ensures.own ∙ ap is_some c.in-Ok-Some.field-0-is in
    let known : (name : List ℕ) → is_some (place_of c.in-Ok-Some.names name) ≡ has_vendor books name =
    subst (λ (o : Option NamePlacesView). MatchOption o (Unit {0}) (λ ns. (name : List ℕ) → is_some (place_of ns name) ≡ has_vendor books name)) c.in-Ok-Some.field-0-is c.in-Ok-Some.ensures.names in
    let there : HasAll (has_vendor books) (sales_of b) =
    subst (HasAll (has_vendor books)) c.sales.ensures (all_by_same (λ name. is_some (place_of c.in-Ok-Some.names name)) (has_vendor books) known c.sales.result.now c.in-None.ensures) in (
      b,
      record {
        market = record { one = sym c.in-Some.ensures; own = own };
        all_there = there;
        shops = c.in-Ok.shops.list.items;
        of_shops = c.in-Ok.ensures.shops;
        stocked = c.in-Ok.ensures.stocked;
        sold = c.in-Ok.ensures.sold;
        totals = c.in-Ok-totals_of.totals;
        has = c.in-Ok-totals_of.ensures;
        report = c.in-Ok-report.ensures;
      },
    )
