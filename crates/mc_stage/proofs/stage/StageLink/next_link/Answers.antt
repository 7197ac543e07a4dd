use Rattle.std.proofs.Common.{sym, ◌∙◌}
use Rattle.mc_stage.specs.Stage.{trace_of}
use Rattle.mc_outside.proofs.Counts.{on_ok}
use Rattle.mc_stage.proofs.LinkCalls.{take_view}
use Rattle.mc_stage.proofs.stage.StageLink.next_link.Goals as goal

pub returns-clause-taken : goal.returns-clause-taken
returns-clause-taken c = take_view (trace_of c.args.self.now) c.take_link.new.self (on_ok c.take_link.result _ (sym c.is_err.ensures.value ∙ c.if-is_err.false) c.take_link.ensures.ok)
