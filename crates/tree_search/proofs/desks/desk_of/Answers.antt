use Rattle.std.proofs.Common.{Option, sym, ◌∙◌, subst}
use Rattle.std.specs.Prelude.{filter, not, MatchOption}
use Rattle.ledger_model.specs.Houses.{is_broker}
use Rattle.audit_search.specs.declared.shops.Shops.{Shops}
use Rattle.audit_search.specs.Standing.{StandFor}
use Rattle.tree_search.proofs.desks.desk_of.Goals as goal

pub returns : goal.returns
returns c = (
  sym c.is_desk.ensures ∙ c.if-not-is_desk.false,
  λ limits b hs learned all. subst (λ (o : Option Shops). MatchOption o (Unit {0}) (StandFor b (filter (λ h. not (is_broker h)) hs))) c.in-Some.is (c.in_ok-shops.ensures.stand limits b hs learned all),
)
