use Rattle.std.proofs.Common.{◌≡◌}
use Rattle.house_core.specs.Bench.{limits_of}
use Rattle.house_core.proofs.Accepting.{holds_roomed}
use Rattle.house_core.proofs.Contents.{contents_roomed}
use Rattle.house_core.proofs.bench.Bench.enter.Goals as goal

pub returns-in-Err-clause-exact : goal.returns-in-Err-clause-exact
returns-in-Err-clause-exact g c h st tells = c.in-Err.ensures.fault h st tells

pub returns-in-Err-clause-contents : goal.returns-in-Err-clause-contents
returns-in-Err-clause-contents g c h st has = contents_roomed g.T.Trade.trade _ _ h c.in-Err.ensures.same has

pub returns-in-Ok-apply_entry-clause-exact : goal.returns-in-Ok-apply_entry-clause-exact
returns-in-Ok-apply_entry-clause-exact g c h st tells =
    let same = c.in-Ok.ensures.same in
    let limits : limits_of c.make_room_for.new.self ≡ limits_of c.args.self.now = same.state.limits in
    let is = rw limits at (c.in-Ok-apply_entry.ensures.exact h (holds_roomed g.T.Trade.trade _ _ h same st) (c.requires.order h st) tells) in
    (is.0, is.1, is.2, c.in-Ok.ensures.fitted h st)

pub returns-in-Err-apply_entry-clause-exact : goal.returns-in-Err-apply_entry-clause-exact
returns-in-Err-apply_entry-clause-exact g c h st tells =
    let same = c.in-Ok.ensures.same in
    let limits : limits_of c.make_room_for.new.self ≡ limits_of c.args.self.now = same.state.limits in
    rw limits at (c.in-Err-apply_entry.ensures.exact h (holds_roomed g.T.Trade.trade _ _ h same st) (c.requires.order h st) tells)

pub returns-in-Ok-apply_entry-clause-contents : goal.returns-in-Ok-apply_entry-clause-contents
returns-in-Ok-apply_entry-clause-contents g c h st has =
    let same = c.in-Ok.ensures.same in
    c.in-Ok-apply_entry.ensures.contents h (holds_roomed g.T.Trade.trade _ _ h same st) (contents_roomed g.T.Trade.trade _ _ h same has)

pub returns-in-Err-apply_entry-clause-contents : goal.returns-in-Err-apply_entry-clause-contents
returns-in-Err-apply_entry-clause-contents g c h st has =
    let same = c.in-Ok.ensures.same in
    c.in-Err-apply_entry.ensures.contents h (holds_roomed g.T.Trade.trade _ _ h same st) (contents_roomed g.T.Trade.trade _ _ h same has)

pub returns-in-Err-clause-refusals : goal.returns-in-Err-clause-refusals
returns-in-Err-clause-refusals g c = c.in-Err.ensures.refusals
