use Rattle.std.proofs.Common.{◌+◌, sym, ◌∙◌, ap, arith, List, ℕ}
use Rattle.std.specs.Prelude.{slice_range}
use Rattle.std.specs.Int.{w32, from_be_bytes}
use Rattle.scrip_journal.specs.States.{Reading}
use Rattle.scrip_journal.proofs.Windows.{part_of_held}
use Rattle.scrip_journal.proofs.replay.Replay.payload_length.Goals as goal

pub returns-clause-value : goal.returns-clause-value
returns-clause-value g c =
    let held = ap (λ (v : Reading g.row.D.Denot). v.held) c.self.view_is in
    let part = part_of_held c.self.inside.buf.items c.args.self.now.held c.self.inside.start c.self.inside.end 1 4 held (omega arith) (omega (arith, c.requires)) (omega arith) in
    let bytes = ap (λ (l : List ℕ). slice_range l (c.self.inside.start + 1) (c.self.inside.start + 1 + 4)) c.deref.ensures.value in
    c.length_at.ensures.value ∙ ap (λ (l : List ℕ). from_be_bytes w32 l) (bytes ∙ sym part)

pub returns-clause-bytes : goal.returns-clause-bytes
returns-clause-bytes g c =
    let held = ap (λ (v : Reading g.row.D.Denot). v.held) c.self.view_is in
    let part = part_of_held c.self.inside.buf.items c.args.self.now.held c.self.inside.start c.self.inside.end 1 4 held (omega arith) (omega (arith, c.requires)) (omega arith) in
    let bytes = ap (λ (l : List ℕ). slice_range l (c.self.inside.start + 1) (c.self.inside.start + 1 + 4)) c.deref.ensures.value in
    part ∙ sym bytes ∙ c.length_at.ensures.bytes
