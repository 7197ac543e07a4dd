use Rattle.std.proofs.Common.{◌∙◌, sym, ap, length}
use Rattle.mc_stage.specs.Model.{start}
use Rattle.mc_stage.proofs.Images.{marks-length, start-marks}
use Rattle.mc_stage.proofs.stage.Stage.image.Goals as goal

pub filled-requires : goal.filled-requires
filled-requires c = ap length c.marks.ensures ∙ marks-length c.args.self.now.tape.calls (start c.args.self.now.tape.first) (start-marks c.args.self.now.tape.first) ∙ sym (ap length c.bytes-2.ensures)
