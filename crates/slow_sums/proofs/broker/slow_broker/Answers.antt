use Rattle.std.proofs.Common.{◌≡◌, ◌∙◌, ◌++◌, ap, map, sum_by, List}
use Rattle.ledger_model.specs.Pieces.{own_out}
use Rattle.ledger_model.specs.Sums.{outstanding, lapsed}
use Rattle.audit_model.specs.declared.part.Part.{Part}
use Rattle.audit_model.specs.Parts.{part_of, still_out, gone_by}
use Rattle.slow_sums.specs.Sums.{broker_sums}
use Rattle.audit_model.proofs.Left.{outstanding_is, lapsed_is}
use Rattle.slow_sums.proofs.LeftLaws.{same_broker}
use Rattle.slow_sums.proofs.broker.slow_broker.Goals as goal

pub returns : goal.returns
returns c =
    let h = c.args.h.now in
    let own = own_out h in
    let parts : c.in_ok-parts.parts.items ≡ map part_of own = c.in_ok-parts.ensures ∙ ap (λ (l : List Part). l ++ map part_of own) c.new.ensures.items in
    let out : c.in_ok-slow_outstanding.field-0 ≡ outstanding own h = c.in_ok-slow_outstanding.ensures ∙ ap (sum_by (still_out h)) (c.deref.ensures.value ∙ parts) ∙ outstanding_is h own in
    let gone : c.in_ok-slow_lapsed.field-0 ≡ lapsed own h = c.in_ok-slow_lapsed.ensures ∙ ap (sum_by (gone_by h)) (c.deref-2.ensures.value ∙ parts) ∙ lapsed_is h own in
    same_broker _ (broker_sums h) c.in_ok-slow_paid_in.ensures c.in_ok-slow_paid_out.ensures c.in_ok-slow_accounts.ensures c.in_ok-slow_fees.ensures out gone
