use Rattle.std.proofs.Common.{refl, sym, ◌∙◌}
use Rattle.mc_stage.specs.Stage.{trace_of}
use Rattle.mc_stage.specs.Model.{Cut}
use Rattle.mc_outside.proofs.Counts.{on_ok, on_err}
use Rattle.mc_stage.proofs.Calls.{failed_moved, failed_cut, failed_cut_told, done_moved, done_pairs, cut_cut, cut_crash}
use Rattle.mc_stage.proofs.stage.StageDisk.cut.Goals as goal

pub returns-then-next-clause-moved : goal.returns-then-next-clause-moved
returns-then-next-clause-moved c = failed_moved (trace_of c.args.self.now) c.args.self.now.tape c.raise.new.count refl c.raise.ensures.grows

pub returns-then-next-clause-failed : goal.returns-then-next-clause-failed
returns-then-next-clause-failed c = failed_cut_told (trace_of c.args.self.now) c.args.self.now.tape c.raise.new.count refl c.args.size

pub returns-then-next-clause-crash : goal.returns-then-next-clause-crash
returns-then-next-clause-crash c = failed_cut (trace_of c.args.self.now) c.args.self.now.tape c.raise.new.count refl c.args.size

pub returns-then-is_err-clause-moved : goal.returns-then-is_err-clause-moved
returns-then-is_err-clause-moved c = failed_moved (trace_of c.args.self.now) c.cut.new.self c.raise-then-is_err.new.count (on_err c.cut.result _ (sym c.is_err.ensures.value ∙ c.if-is_err.true) c.cut.ensures.err) c.raise-then-is_err.ensures.grows

pub returns-then-is_err-clause-failed : goal.returns-then-is_err-clause-failed
returns-then-is_err-clause-failed c = failed_cut_told (trace_of c.args.self.now) c.cut.new.self c.raise-then-is_err.new.count (on_err c.cut.result _ (sym c.is_err.ensures.value ∙ c.if-is_err.true) c.cut.ensures.err) c.args.size

pub returns-then-is_err-clause-crash : goal.returns-then-is_err-clause-crash
returns-then-is_err-clause-crash c = failed_cut (trace_of c.args.self.now) c.cut.new.self c.raise-then-is_err.new.count (on_err c.cut.result _ (sym c.is_err.ensures.value ∙ c.if-is_err.true) c.cut.ensures.err) c.args.size

pub returns-clause-moved : goal.returns-clause-moved
returns-clause-moved c = done_moved (trace_of c.args.self.now) c.cut.new.self (Cut c.args.size) tt (on_ok c.cut.result _ (sym c.is_err.ensures.value ∙ c.if-is_err.false) c.cut.ensures.ok)

pub returns-clause-pairs : goal.returns-clause-pairs
returns-clause-pairs c = done_pairs (trace_of c.args.self.now) c.cut.new.self (Cut c.args.size) tt (on_ok c.cut.result _ (sym c.is_err.ensures.value ∙ c.if-is_err.false) c.cut.ensures.ok)

pub returns-clause-cut : goal.returns-clause-cut
returns-clause-cut c = cut_cut (trace_of c.args.self.now) c.cut.new.self c.args.size (on_ok c.cut.result _ (sym c.is_err.ensures.value ∙ c.if-is_err.false) c.cut.ensures.ok)

pub returns-clause-crash : goal.returns-clause-crash
returns-clause-crash c = cut_crash (trace_of c.args.self.now) c.cut.new.self c.args.size (on_ok c.cut.result _ (sym c.is_err.ensures.value ∙ c.if-is_err.false) c.cut.ensures.ok)
