use Rattle.std.proofs.Common.{◌≡◌, take, IfSome}
use Rattle.scrip_form.specs.Texts.{IsTarget}
use Rattle.ledger_model.specs.Goods.{price_in}
use Rattle.slow_ledger.proofs.filters.slow_price.Given as goal

abbrev pub invariant-loop-n : goal.invariant-loop-n
invariant-loop-n l = record { price : l.found ≡ price_in (take l.n l.h) l.target; target : IfSome l.found (λ _. IsTarget l.target) }
