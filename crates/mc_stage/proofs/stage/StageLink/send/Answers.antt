use Rattle.std.proofs.Common.{sym, ◌∙◌, length, arith}
use Rattle.std.proofs.lemmas.List.{take_all}
use Rattle.mc_stage.specs.Stage.{trace_of}
use Rattle.mc_stage.specs.Model.{Send}
use Rattle.mc_outside.proofs.Counts.{on_ok, on_err}
use Rattle.mc_stage.proofs.LinkCalls.{linked_moved, sent_view, link_failed}
use Rattle.mc_stage.proofs.stage.StageLink.send.Goals as goal

pub returns-clause-moved : goal.returns-clause-moved
returns-clause-moved c = linked_moved (trace_of c.args.self.now) c.send.new.self (Send c.args.bytes.now) tt (on_ok c.send.result _ (sym c.is_err.ensures.value ∙ c.if-is_err.false) c.send.ensures.ok) _

pub returns-clause-sent : goal.returns-clause-sent
returns-clause-sent c = sent_view (trace_of c.args.self.now) c.send.new.self c.args.bytes.now _ (on_ok c.send.result _ (sym c.is_err.ensures.value ∙ c.if-is_err.false) c.send.ensures.ok) (take_all (length c.args.bytes.now) c.args.bytes.now (omega arith))

pub returns-then-is_err-clause-moved : goal.returns-then-is_err-clause-moved
returns-then-is_err-clause-moved c = link_failed (trace_of c.args.self.now) c.send.new.self c.raise-then-is_err.new.count (on_err c.send.result _ (sym c.is_err.ensures.value ∙ c.if-is_err.true) c.send.ensures.err) c.raise-then-is_err.ensures.grows
