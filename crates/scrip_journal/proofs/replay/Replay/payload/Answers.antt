use Rattle.std.proofs.Common.{◌+◌, sym, ◌∙◌, ap, arith, List, ℕ}
use Rattle.std.specs.Prelude.{slice_range}
use Rattle.scrip_journal.specs.States.{Reading}
use Rattle.scrip_journal.proofs.Windows.{part_of_held}
use Rattle.scrip_journal.proofs.replay.Replay.payload.Goals as goal

pub returns : goal.returns
returns g c =
    let held = ap (λ (v : Reading g.row.D.Denot). v.held) c.self.view_is in
    let part = part_of_held c.self.inside.buf.items c.args.self.now.held c.self.inside.start c.self.inside.end 5 c.args.bytes held (omega arith) (omega (arith, c.requires)) (omega arith) in
    let bytes = ap (λ (l : List ℕ). slice_range l (c.self.inside.start + 5) (c.self.inside.start + 5 + c.args.bytes)) c.deref.ensures.value in
    bytes ∙ sym part
