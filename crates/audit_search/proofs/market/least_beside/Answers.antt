use Rattle.std.proofs.Common.{◌≡◌, ℕ, ◌+◌, Bool, not, List, ◌++◌, ◌∷◌, [], take, Option, sym, ap, ◌∙◌, subst, append-nil, append_assoc}
use Rattle.std.specs.Prelude.{is_some, MatchOption}
use Rattle.std.proofs.lemmas.List.{take_all}
use Rattle.name_places.specs.NamePlaces.{place_of}
use Rattle.audit_model.specs.declared.sold.Sold.{Sold}
use Rattle.audit_search.specs.Markets.{IsLeast, HasAll}
use Rattle.audit_search.proofs.Loops.{one_more}
use Rattle.audit_search.proofs.NameLaws.{least_same, least_more}
use Rattle.audit_search.proofs.market.least_beside.Goals as goal
use Rattle.audit_search.proofs.market.least_beside.Goals.{then-is_none, else-is_none}

pub loop-sale-init : goal.loop-sale-init
loop-sale-init c = λ rows before.
    let has : List ℕ → Bool = λ name. is_some (place_of c.args.names.now name) in
    subst (λ (l : List Sold). MatchOption c.args.earlier (HasAll has l) (IsLeast has l)) (sym (append-nil rows)) before

pub loop-sale-preserved : goal.loop-sale-preserved
loop-sale-preserved c = λ rows before.
    let sales = c.args.sales.now in
    let i = c.loop-sale.sale-index in
    let s = c.sale-item.result in
    let done = rows ++ take i sales in
    let has : List ℕ → Bool = λ name. is_some (place_of c.args.names.now name) in
    let at : has s.vendor ≡ is_some c.get.result = ap has (sym c.bytes.ensures.value) ∙ ap is_some (sym c.get.ensures) in
    let next : done ++ s ∷ [] ≡ rows ++ take (i + 1) sales = append_assoc rows (take i sales) (s ∷ []) ∙ sym (ap (λ (l : List Sold). rows ++ l) (one_more sales i s c.loop-sale-test.true c.sale-item.is)) in
    let on : (o : Option (List ℕ)) → MatchOption o (HasAll has (done ++ s ∷ [])) (IsLeast has (done ++ s ∷ [])) → MatchOption o (HasAll has (rows ++ take (i + 1) sales)) (IsLeast has (rows ++ take (i + 1) sales)) =
    λ o. subst (λ (l : List Sold). MatchOption o (HasAll has l) (IsLeast has l)) next in
    elim c.if-is_none.branch [
      | then-is_none w ↦
          on c.if-is_none.least
          (subst (λ (o : Option (List ℕ)). MatchOption o (HasAll has (done ++ s ∷ [])) (IsLeast has (done ++ s ∷ []))) (sym w.least-is)
          (least_more has done s c.loop-sale.least w.lesser.result (at ∙ c.is_none.ensures ∙ ap not w.if-is_none.true) (c.loop-sale.invariant rows before) w.lesser.ensures))
      | else-is_none w ↦
          on c.if-is_none.least
          (subst (λ (o : Option (List ℕ)). MatchOption o (HasAll has (done ++ s ∷ [])) (IsLeast has (done ++ s ∷ []))) (sym w.least-is)
          (least_same has done s c.loop-sale.least (at ∙ c.is_none.ensures ∙ ap not w.if-is_none.false) (c.loop-sale.invariant rows before)))
    ]

pub returns : goal.returns
returns c = λ rows before.
    let has : List ℕ → Bool = λ name. is_some (place_of c.args.names.now name) in
    subst (λ (l : List Sold). MatchOption c.loop-sale.least (HasAll has (rows ++ l)) (IsLeast has (rows ++ l))) (take_all c.loop-sale.sale-index c.args.sales.now c.loop-sale-test.false) (c.loop-sale.invariant rows before)
