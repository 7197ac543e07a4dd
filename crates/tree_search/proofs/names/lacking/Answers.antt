use Rattle.std.proofs.Common.{◌≡◌, ℕ, ◌+◌, Bool, List, Option, true, false, cond, [], ◌++◌, take, sym, ap, ◌∙◌, subst, append-nil}
use Rattle.std.specs.Prelude.{is_some, MatchOption}
use Rattle.std.proofs.lemmas.List.{take_all}
use Rattle.name_places.specs.NamePlaces.{place_of}
use Rattle.audit_model.specs.declared.sold.Sold.{Sold}
use Rattle.audit_sums.specs.declared.audit_sums.BookSums.{BookSums}
use Rattle.audit_sums.specs.Learned.{sales_of}
use Rattle.audit_search.specs.Checks.{is_desk}
use Rattle.audit_search.specs.Markets.{IsLeast, HasAll}
use Rattle.tree_search.specs.Names.{desk_sales}
use Rattle.tree_search.proofs.NameLaws.{sales_more}
use Rattle.tree_search.proofs.names.lacking.Goals as goal
use Rattle.tree_search.proofs.names.lacking.Goals.{then-is_desk, else-is_desk}

pub loop-book-preserved : goal.loop-book-preserved
loop-book-preserved c =
    let books = c.args.books.now in
    let i = c.loop-book.book-index in
    let s = c.book-item.result in
    let has : List ℕ → Bool = λ name. is_some (place_of c.args.names.now name) in
    let done = desk_sales (take i books) in
    let more = sales_more books i s c.loop-book-test.true c.book-item.is in
    elim c.if-is_desk.branch [
      | then-is_desk w ↦
          let next : done ++ w.sales.result.now ≡ desk_sales (take (i + 1) books) =
          ap (λ (l : List Sold). done ++ l) w.sales.ensures ∙ sym (more ∙ ap (λ (b : Bool). done ++ cond b (sales_of s) []) (sym c.is_desk.ensures ∙ w.if-is_desk.true)) in
          subst (λ (o : Option (List ℕ)). MatchOption o (HasAll has (desk_sales (take (i + 1) books))) (IsLeast has (desk_sales (take (i + 1) books)))) (sym w.least-is)
          (subst (λ (l : List Sold). MatchOption w.least_beside-least.result (HasAll has l) (IsLeast has l)) next (w.least_beside-least.ensures done c.loop-book.invariant))
      | else-is_desk w ↦
          let next : done ≡ desk_sales (take (i + 1) books) =
          sym (more ∙ ap (λ (b : Bool). done ++ cond b (sales_of s) []) (sym c.is_desk.ensures ∙ w.if-is_desk.false) ∙ append-nil done) in
          subst (λ (o : Option (List ℕ)). MatchOption o (HasAll has (desk_sales (take (i + 1) books))) (IsLeast has (desk_sales (take (i + 1) books)))) (sym w.least-is)
          (subst (λ (l : List Sold). MatchOption c.loop-book.least (HasAll has l) (IsLeast has l)) next c.loop-book.invariant)
    ]

pub returns : goal.returns
returns c =
    let has : List ℕ → Bool = λ name. is_some (place_of c.args.names.now name) in
    subst (λ (l : List BookSums). MatchOption c.loop-book.least (HasAll has (desk_sales l)) (IsLeast has (desk_sales l))) (take_all c.loop-book.book-index c.args.books.now c.loop-book-test.false) c.loop-book.invariant
