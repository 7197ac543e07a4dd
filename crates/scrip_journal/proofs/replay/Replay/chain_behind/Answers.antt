use Rattle.std.proofs.Common.{◌≡◌, ◌+◌, sym, ◌∙◌, ap, ap₂, arith, List, ℕ}
use Rattle.std.specs.Prelude.{slice_range}
use Rattle.scrip_journal.specs.States.{Reading}
use Rattle.scrip_journal.proofs.Windows.{part_of_held}
use Rattle.scrip_journal.proofs.replay.Replay.chain_behind.Goals as goal

pub returns : goal.returns
returns g c =
    let buf = c.self.inside.buf.items in
    let start = c.self.inside.start in
    let held = ap (λ (v : Reading g.row.D.Denot). v.held) c.self.view_is in
    let part = part_of_held buf c.args.self.now.held start c.self.inside.end (c.args.bytes + 5) 32 held (omega arith) (omega (arith, c.requires)) (omega arith) in
    let from : start + 5 + c.args.bytes ≡ start + (c.args.bytes + 5) = omega arith in
    let to : start + 5 + c.args.bytes + 32 ≡ start + (c.args.bytes + 5) + 32 = omega arith in
    c.copy_from_slice.ensures.after
    ∙ ap (λ (l : List ℕ). slice_range l (start + 5 + c.args.bytes) (start + 5 + c.args.bytes + 32)) c.deref.ensures.value
    ∙ ap₂ (λ (a b : ℕ). slice_range buf a b) from to
    ∙ sym part
