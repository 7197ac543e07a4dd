use Rattle.std.proofs.Common.{refl, sym, ◌∙◌, length}
use Rattle.mc_stage.specs.Stage.{trace_of}
use Rattle.mc_stage.specs.Model.{Put}
use Rattle.mc_outside.proofs.Counts.{on_ok, on_err}
use Rattle.mc_stage.proofs.Calls.{failed_moved, failed_torn, failed_torn_told, done_moved, done_pairs, put_written, put_crash}
use Rattle.mc_stage.proofs.stage.StageDisk.write_at.Goals as goal

pub returns-then-next-clause-moved : goal.returns-then-next-clause-moved
returns-then-next-clause-moved c = failed_moved (trace_of c.args.self.now) c.args.self.now.tape c.raise.new.count refl c.raise.ensures.grows

pub returns-then-next-clause-failed : goal.returns-then-next-clause-failed
returns-then-next-clause-failed c = failed_torn_told (trace_of c.args.self.now) c.args.self.now.tape c.raise.new.count refl c.args.at (length c.args.bytes.now)

pub returns-then-next-clause-crash : goal.returns-then-next-clause-crash
returns-then-next-clause-crash c = failed_torn (trace_of c.args.self.now) c.args.self.now.tape c.raise.new.count refl c.args.at (length c.args.bytes.now)

pub returns-then-is_err-clause-moved : goal.returns-then-is_err-clause-moved
returns-then-is_err-clause-moved c = failed_moved (trace_of c.args.self.now) c.write.new.self c.raise-then-is_err.new.count (on_err c.write.result _ (sym c.is_err.ensures.value ∙ c.if-is_err.true) c.write.ensures.err) c.raise-then-is_err.ensures.grows

pub returns-then-is_err-clause-failed : goal.returns-then-is_err-clause-failed
returns-then-is_err-clause-failed c = failed_torn_told (trace_of c.args.self.now) c.write.new.self c.raise-then-is_err.new.count (on_err c.write.result _ (sym c.is_err.ensures.value ∙ c.if-is_err.true) c.write.ensures.err) c.args.at (length c.args.bytes.now)

pub returns-then-is_err-clause-crash : goal.returns-then-is_err-clause-crash
returns-then-is_err-clause-crash c = failed_torn (trace_of c.args.self.now) c.write.new.self c.raise-then-is_err.new.count (on_err c.write.result _ (sym c.is_err.ensures.value ∙ c.if-is_err.true) c.write.ensures.err) c.args.at (length c.args.bytes.now)

pub returns-clause-moved : goal.returns-clause-moved
returns-clause-moved c = done_moved (trace_of c.args.self.now) c.write.new.self (Put c.args.at c.args.bytes.now) tt (on_ok c.write.result _ (sym c.is_err.ensures.value ∙ c.if-is_err.false) c.write.ensures.ok)

pub returns-clause-pairs : goal.returns-clause-pairs
returns-clause-pairs c = done_pairs (trace_of c.args.self.now) c.write.new.self (Put c.args.at c.args.bytes.now) tt (on_ok c.write.result _ (sym c.is_err.ensures.value ∙ c.if-is_err.false) c.write.ensures.ok)

pub returns-clause-written : goal.returns-clause-written
returns-clause-written c = put_written (trace_of c.args.self.now) c.write.new.self c.args.at c.args.bytes.now (on_ok c.write.result _ (sym c.is_err.ensures.value ∙ c.if-is_err.false) c.write.ensures.ok)

pub returns-clause-crash : goal.returns-clause-crash
returns-clause-crash c = put_crash (trace_of c.args.self.now) c.write.new.self c.args.at c.args.bytes.now (on_ok c.write.result _ (sym c.is_err.ensures.value ∙ c.if-is_err.false) c.write.ensures.ok)
