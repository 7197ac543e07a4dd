use Rattle.std.proofs.Common.{◌≡◌, ◌+◌, sym, ◌∙◌, ap, subst, arith, List, ℕ, IsTrue}
use Rattle.std.specs.Prelude.{slice_range}
use Rattle.std.proofs.lemmas.Slice.Eq.{bytes_eq-Decides}
use Rattle.scrip_journal.specs.Layout.{header}
use Rattle.scrip_journal.specs.States.{Reading}
use Rattle.scrip_journal.proofs.Windows.{part_of_held}
use Rattle.scrip_journal.proofs.replay.Replay.holds_header.Goals as goal

pub returns : goal.returns
unfolding header
returns g c =
    let held = ap (λ (v : Reading g.row.D.Denot). v.held) c.self.view_is in
    let part = part_of_held c.self.inside.buf.items c.args.self.now.held c.self.inside.start c.self.inside.end 0 8 held (omega arith) (omega (arith, c.requires)) (omega arith) in
    let bytes = ap (λ (l : List ℕ). slice_range l c.self.inside.start (c.self.inside.start + 8)) c.deref.ensures.value in
    let none : c.self.inside.start + 0 ≡ c.self.inside.start = omega arith in
    let same = part ∙ ap (λ (s : ℕ). slice_range c.self.inside.buf.items s (s + 8)) none ∙ sym bytes in
    let decides = bytes_eq-Decides (slice_range c.deref.result.now c.self.inside.start (c.self.inside.start + 8)) c.as_slice.result.now in (
      (λ t. same ∙ decides.0 (subst IsTrue c.eq.ensures t) ∙ c.as_slice.ensures),
      (λ e. subst IsTrue (sym c.eq.ensures) (decides.1 (sym same ∙ e ∙ sym c.as_slice.ensures))),
    )
