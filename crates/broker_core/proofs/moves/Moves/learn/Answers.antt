use Rattle.std.proofs.Common.{◌∙◌, List, ℕ, ap}
use Rattle.mc_records.specs.Entry.{Upgrade}
use Rattle.broker_ledger.proofs.LearnLaws.{name_is}
use Rattle.broker_core.specs.Moves.{MovesView, moves_of}
use Rattle.broker_core.proofs.MoveLaws.{moves_more, moves_same}
use Rattle.broker_core.proofs.moves.Moves.learn.Goals as goal

pub returns-in_default : goal.returns-in_default
returns-in_default c h stands = moves_same c.args.self.now.moved h c.args.r.now c.in_default.not-Upgrade stands

pub returns : goal.returns
returns c h stands =
    let e = Upgrade c.in-Upgrade.moment c.in-Upgrade.vendor.now c.in-Upgrade.issuer c.in-Upgrade.from in
    let name = name_is _ _ c.in-Upgrade.vendor.now c.new.ensures.value c.unwrap-vendor.ensures in
    rw (c.in-Upgrade.is, c.push_reserved.ensures.items, name)
    (moves_more c.self.inside.list.items h e (λ (vendor : List ℕ). ap (λ (s : MovesView). moves_of s.moved vendor) c.self.view_is ∙ stands vendor))
