use Rattle.std.proofs.Common.{◌≡◌, ◌≤◌, arith}
use Rattle.mc_records.specs.Entry.{moment_of}
use Rattle.mc_records.specs.Views.{entry}
use Rattle.ledger_model.specs.Histories.{time}
use Rattle.house_core.specs.Bench.{limits_of}
use Rattle.house_core.proofs.Accepting.{holds_roomed}
use Rattle.house_core.proofs.Contents.{contents_roomed}
use Rattle.house_core.proofs.bench.Bench.follow.Goals as goal

pub returns-in-Ok-apply_entry-clause-exact : goal.returns-in-Ok-apply_entry-clause-exact
returns-in-Ok-apply_entry-clause-exact g c h st tells =
    let same = c.in-Ok.ensures.same in
    let limits : limits_of c.room_for.new.self ≡ limits_of c.args.self.now = same.state.limits in
    let order : time h ≤ moment_of (entry c.args.r.now) = omega (arith, st.state.in_time, c.requires.time) in
    rw limits at (c.in-Ok-apply_entry.ensures.exact h (holds_roomed g.T.Trade.trade _ _ h same st) order tells)

pub returns-in-Err-apply_entry-clause-exact : goal.returns-in-Err-apply_entry-clause-exact
returns-in-Err-apply_entry-clause-exact g c h st tells =
    let same = c.in-Ok.ensures.same in
    let limits : limits_of c.room_for.new.self ≡ limits_of c.args.self.now = same.state.limits in
    let order : time h ≤ moment_of (entry c.args.r.now) = omega (arith, st.state.in_time, c.requires.time) in
    rw limits at (c.in-Err-apply_entry.ensures.exact h (holds_roomed g.T.Trade.trade _ _ h same st) order tells)

pub returns-in-Ok-apply_entry-clause-time : goal.returns-in-Ok-apply_entry-clause-time
returns-in-Ok-apply_entry-clause-time g c = omega (arith, c.in-Ok-apply_entry.ensures.time, c.in-Ok.ensures.same.state.time, c.requires.time)

pub returns-in-Ok-apply_entry-clause-contents : goal.returns-in-Ok-apply_entry-clause-contents
returns-in-Ok-apply_entry-clause-contents g c h st has =
    let same = c.in-Ok.ensures.same in
    c.in-Ok-apply_entry.ensures.contents h (holds_roomed g.T.Trade.trade _ _ h same st) (contents_roomed g.T.Trade.trade _ _ h same has)

pub returns-in-Err-apply_entry-clause-contents : goal.returns-in-Err-apply_entry-clause-contents
returns-in-Err-apply_entry-clause-contents g c h st has =
    let same = c.in-Ok.ensures.same in
    c.in-Err-apply_entry.ensures.contents h (holds_roomed g.T.Trade.trade _ _ h same st) (contents_roomed g.T.Trade.trade _ _ h same has)
