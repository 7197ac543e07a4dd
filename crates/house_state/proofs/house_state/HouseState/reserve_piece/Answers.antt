use Rattle.std.proofs.Common.{◌≡◌, ℕ, ap, subst, ◌∙◌}
use Rattle.std.specs.Prelude.{OnOk}
use Rattle.scrip_form.specs.Scrip.{Scrip}
use Rattle.spent_windows.specs.Windows.{window_of}
use Rattle.house_state.specs.LiveWindows.{AreUsed, AreUsedBut}
use Rattle.house_state.proofs.house_state.HouseState.reserve_piece.Goals as goal

pub returns-clause-used : goal.returns-clause-used
returns-clause-used c =
    let same : c.id.result ≡ c.args.a.now.scrip.now.piece.id = c.id.ensures.id ∙ ap (λ (p : Scrip). p.id) c.piece-piece.ensures in
    subst (λ (id : ℕ). OnOk c.reserve.result (AreUsed c.args.self.now.spent → AreUsedBut (window_of id) c.reserve.new.self.spent)) same c.reserve.ensures.used
