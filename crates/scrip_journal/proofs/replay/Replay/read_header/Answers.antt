use Rattle.std.proofs.Common.{◌+◌, ◌≤◌, refl, ◌∙◌, ap, arith, length, drop, List, ℕ}
use Rattle.scrip_journal.specs.States.{Reading}
use Rattle.scrip_journal.proofs.Heading.{cut_header, other_header, found_header}
use Rattle.scrip_journal.proofs.Windows.{back_of_window, window_long}
use Rattle.scrip_journal.proofs.replay.Replay.read_header.Goals as goal

pub returns-in-Err-Spoiled-clause-other : goal.returns-in-Err-Spoiled-clause-other
returns-in-Err-Spoiled-clause-other g c e x told =
    let short = rw c.in-Err-Spoiled.field-0-is at (c.in-Err-Spoiled.ensures.short) in
    cut_header g.D.Disk.disk c.args.self.now c.hold.new.self c.requires short.0 short.2 c.hold.ensures.ahead.same.gate x told

pub returns-then-not-holds_header-clause-other : goal.returns-then-not-holds_header-clause-other
returns-then-not-holds_header-clause-other g c e x told =
    other_header g.D.Disk.disk c.args.self.now c.hold.new.self c.requires c.hold.ensures.ahead c.in-Ok.ensures.enough x told (λ same. absurd (cc (c.if-not-holds_header.ensures.1 same)))

pub returns-clause-begins : goal.returns-clause-begins
returns-clause-begins g c e x told =
    let held = ap (λ (v : Reading g.row.D.Denot). v.held) c.self.view_is in
    let long : c.self.inside.start + 8 ≤ c.self.inside.end = omega (arith, c.in-Ok.ensures.enough, ap (λ (l : List ℕ). length l) held, window_long c.self.inside.buf.items c.self.inside.start c.self.inside.end (omega arith)) in
    found_header g.D.Disk.disk c.args.self.now c.hold.new.self c.requires c.hold.ensures.ahead c.in-Ok.ensures.enough x told (c.if-not-holds_header.ensures.0 refl) _ (back_of_window c.self.inside.buf.items c.self.inside.start c.self.inside.end 8 long ∙ ap (λ (l : List ℕ). drop 8 l) held)
