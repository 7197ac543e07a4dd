use Rattle.std.proofs.Common.{◌≡◌, ℕ, ◌+◌, List, ap, ◌∙◌}
use Rattle.std.specs.Prelude.{◌==◌}
use Rattle.std.specs.List.{list_any}
use Rattle.mc_stage.specs.Stage.{trace_of}
use Rattle.mc_stage.proofs.Doors.{is_whose}
use Rattle.mc_stage.proofs.stage.StageDoors.is_operators.Goals as goal

pub returns : goal.returns
returns c = is_whose (trace_of c.args.self.now) c.links.result c.has_last.result c.links.ensures (c.has_last.ensures ∙ ap (λ (l : List ℕ). list_any (λ n. n + 1 == c.links.result) l) c.deref.ensures.value)
