use Rattle.std.proofs.Common.{◌∷◌, [], ◌<◌, sym, ◌∙◌, ap, subst, arith, length, get_or, List, ℕ}
use Rattle.std.proofs.lemmas.Bool.{eqb-true, eqb-false}
use Rattle.mc_outside.specs.Bytes.{BeginsWith}
use Rattle.scrip_journal.specs.States.{Reading}
use Rattle.scrip_journal.proofs.Windows.{first_of_window, window_long}
use Rattle.scrip_journal.proofs.replay.Replay.is_open.Goals as goal

pub returns-clause-opened : goal.returns-clause-opened
returns-clause-opened g c e =
    let held = ap (λ (v : Reading g.row.D.Denot). v.held) c.self.view_is in
    let some : c.self.inside.start < c.self.inside.end = omega (arith, c.requires, ap (λ (l : List ℕ). length l) held, window_long c.self.inside.buf.items c.self.inside.start c.self.inside.end (omega arith)) in
    let first = first_of_window c.self.inside.buf.items c.self.inside.start c.self.inside.end c.index.result.now some (omega arith) in
    subst (λ (b : ℕ). BeginsWith (b ∷ []) c.args.self.now.held) (sym c.index.ensures ∙ eqb-true c.index.result.now 1 e) (subst (λ (l : List ℕ). BeginsWith (get_or c.self.inside.buf.items c.self.inside.start c.index.result.now ∷ []) l) held first)

pub returns-clause-closed : goal.returns-clause-closed
returns-clause-closed g c e =
    let held = ap (λ (v : Reading g.row.D.Denot). v.held) c.self.view_is in
    let some : c.self.inside.start < c.self.inside.end = omega (arith, c.requires, ap (λ (l : List ℕ). length l) held, window_long c.self.inside.buf.items c.self.inside.start c.self.inside.end (omega arith)) in
    let first = first_of_window c.self.inside.buf.items c.self.inside.start c.self.inside.end c.index.result.now some (omega arith) in (
      c.index.result.now,
      subst (λ (b : ℕ). BeginsWith (b ∷ []) c.args.self.now.held) (sym c.index.ensures) (subst (λ (l : List ℕ). BeginsWith (get_or c.self.inside.buf.items c.self.inside.start c.index.result.now ∷ []) l) held first),
      eqb-false c.index.result.now 1 e,
    )
