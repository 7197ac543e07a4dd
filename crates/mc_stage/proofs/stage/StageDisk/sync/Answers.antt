use Rattle.std.proofs.Common.{refl, sym, ◌∙◌}
use Rattle.mc_stage.specs.Stage.{trace_of}
use Rattle.mc_stage.specs.Model.{Sync}
use Rattle.mc_outside.proofs.Counts.{on_ok, on_err}
use Rattle.mc_stage.proofs.Calls.{failed_moved, done_moved, done_pairs, sync_same, sync_crash, sync_synced}
use Rattle.mc_stage.proofs.stage.StageDisk.sync.Goals as goal

pub returns-then-next-clause-moved : goal.returns-then-next-clause-moved
returns-then-next-clause-moved c = failed_moved (trace_of c.args.self.now) c.args.self.now.tape c.raise.new.count refl c.raise.ensures.grows

pub returns-then-is_err-clause-moved : goal.returns-then-is_err-clause-moved
returns-then-is_err-clause-moved c = failed_moved (trace_of c.args.self.now) c.sync.new.self c.raise-then-is_err.new.count (on_err c.sync.result _ (sym c.is_err.ensures.value ∙ c.if-is_err.true) c.sync.ensures.err) c.raise-then-is_err.ensures.grows

pub returns-clause-moved : goal.returns-clause-moved
returns-clause-moved c = done_moved (trace_of c.args.self.now) c.sync.new.self Sync tt (on_ok c.sync.result _ (sym c.is_err.ensures.value ∙ c.if-is_err.false) c.sync.ensures.ok)

pub returns-clause-pairs : goal.returns-clause-pairs
returns-clause-pairs c = done_pairs (trace_of c.args.self.now) c.sync.new.self Sync tt (on_ok c.sync.result _ (sym c.is_err.ensures.value ∙ c.if-is_err.false) c.sync.ensures.ok)

pub returns-clause-same : goal.returns-clause-same
returns-clause-same c = sync_same (trace_of c.args.self.now) c.sync.new.self (on_ok c.sync.result _ (sym c.is_err.ensures.value ∙ c.if-is_err.false) c.sync.ensures.ok)

pub returns-clause-crash : goal.returns-clause-crash
returns-clause-crash c = sync_crash (trace_of c.args.self.now) c.sync.new.self (on_ok c.sync.result _ (sym c.is_err.ensures.value ∙ c.if-is_err.false) c.sync.ensures.ok)

pub returns-clause-synced : goal.returns-clause-synced
returns-clause-synced c = sync_synced (trace_of c.args.self.now) c.sync.new.self (on_ok c.sync.result _ (sym c.is_err.ensures.value ∙ c.if-is_err.false) c.sync.ensures.ok)
