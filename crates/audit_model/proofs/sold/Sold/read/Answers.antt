use Rattle.std.proofs.Common.{◌≡◌, List, ℕ, Option, Some, sym, ap, ◌∙◌}
use Rattle.mc_requests.specs.Errands.{Errand, buy, errand_of}
use Rattle.mc_requests.specs.declared.errand.Errand as errands
use Rattle.mc_requests.specs.ErrandViews.{errand}
use Rattle.audit_model.proofs.sold.Sold.read.Goals as goal

errand_is : {read e : errands.Errand} (target : List ℕ) → read ≡ e → Some (errand read) ≡ errand_of target → errand_of target ≡ Some (errand e)
errand_is target same is = sym is ∙ ap (λ (x : errands.Errand). some (errand x)) same
  where
    some : Errand → Option Errand
    some x = Some x

pub unwrap-vendor-requires : goal.unwrap-vendor-requires
unwrap-vendor-requires c =
    let a = c.in-Accept-default-default-default-default-default-default-Sale in
    let is = errand_is a.target.now c.in-Some-Buy.field-0-is c.in-Some-Buy.ensures in
    c.new.ensures.valid.1 (c.errands_are_texts.ensures.told a.target.now (buy c.in-Some-Buy.vendor.now c.in-Some-Buy.amount) is).0.0
