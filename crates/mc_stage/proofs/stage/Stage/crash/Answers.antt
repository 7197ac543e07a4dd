use Rattle.std.proofs.Common.{◌∙◌, ap}
use Rattle.mc_stage.specs.Stage.{trace_of}
use Rattle.mc_stage.specs.Model.{Trace, model}
use Rattle.mc_stage.proofs.Images.{chosen_image, if_ok_then}
use Rattle.mc_stage.proofs.stage.Stage.crash.Goals as goal

pub returns-clause-possible : goal.returns-clause-possible
returns-clause-possible c = if_ok_then _ _ _ c.start.ensures.trace (λ s e. chosen_image c.args.choice (trace_of c.args.self) (model (trace_of s)).contents (ap (λ (t : Trace). (model t).contents) e ∙ c.in_ok-bytes.ensures))
