use Rattle.std.proofs.Common.{sym, ◌∙◌, refl}
use Rattle.mc_stage.specs.Stage.{trace_of}
use Rattle.mc_stage.specs.Model.{link_of}
use Rattle.mc_outside.proofs.Counts.{on_ok, on_err}
use Rattle.mc_outside.proofs.Sessions.{heard_none}
use Rattle.mc_stage.proofs.LinkCalls.{heard_view, end_view, link_failed}
use Rattle.mc_stage.proofs.stage.StageLink.recv.Goals as goal

pub returns-then-is_empty-clause-heard : goal.returns-then-is_empty-clause-heard
returns-then-is_empty-clause-heard c = λ _. heard_none (link_of (trace_of c.args.self.now))

pub returns-then-n-eq0-clause-end : goal.returns-then-n-eq0-clause-end
returns-then-n-eq0-clause-end c = λ _ _. end_view (trace_of c.args.self.now) c.end.new.self (on_ok c.end.result _ (sym c.is_err.ensures.value ∙ c.if-is_err.false) c.end.ensures.ok) c.requires

pub returns-clause-heard : goal.returns-clause-heard
returns-clause-heard c = λ _. heard_view (trace_of c.args.self.now) c.hear.new.self _ _ (on_ok c.hear.result _ (sym c.is_err-2.ensures.value ∙ c.if-is_err-2.false) c.hear.ensures.ok) refl

pub returns-then-is_err-clause-moved : goal.returns-then-is_err-clause-moved
returns-then-is_err-clause-moved c = link_failed (trace_of c.args.self.now) c.end.new.self c.raise-then-is_err.new.count (on_err c.end.result _ (sym c.is_err.ensures.value ∙ c.if-is_err.true) c.end.ensures.err) c.raise-then-is_err.ensures.grows

pub returns-then-is_err-2-clause-moved : goal.returns-then-is_err-2-clause-moved
returns-then-is_err-2-clause-moved c = link_failed (trace_of c.args.self.now) c.hear.new.self c.raise-then-is_err-2.new.count (on_err c.hear.result _ (sym c.is_err-2.ensures.value ∙ c.if-is_err-2.true) c.hear.ensures.err) c.raise-then-is_err-2.ensures.grows
