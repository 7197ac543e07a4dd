use Rattle.std.proofs.Common.{◌≡◌, ◌+◌, ◌<◌, List, ℕ, Option, is_some, sym, ◌∙◌, ap, subst, arith}
use Rattle.std.specs.Prelude.{IsSome}
use Rattle.mc_outside.specs.DiskView.{OnlyRead}
use Rattle.mc_outside.proofs.Runs.{read_then}
use Rattle.mc_records.specs.Sizes.{size}
use Rattle.scrip_journal.specs.States.{Reading}
use Rattle.scrip_journal.proofs.Known.{known_with}
use Rattle.scrip_journal.proofs.Passing.{IsFailed, all_passed, ends_not, passes_more}
use Rattle.scrip_journal.proofs.replay.Replay.pass_to.Goals as goal

pub entries-preserved : goal.entries-preserved
entries-preserved g c =
    let was = c.entries.invariant in
    let ahead = c.look.ensures.ahead in
    let frame = c.in-Ok.ensures.frame in
    let took = c.advance.ensures in
    let there = ap (λ (v : Reading g.row.D.Denot). v.gate) c.self.view_is in
    let disk : c.advance.new.self.disk ≡ c.look.new.self.disk = ap (λ (v : Reading g.row.D.Denot). v.disk) took.2 in
    let known : IsSome c.look.new.self.chain = ap (λ (k : Option (List ℕ)). is_some k) ahead.same.chain ∙ was.known in
    record {
      moved = subst (λ (d : g.row.D.Denot). g.D.Disk.disk_moved c.args.self.now.disk d) (sym disk) (g.met.D.Disk.disk_goes_on _ _ _ was.moved c.look.ensures.moved);
      only_read = subst (λ (d : g.row.D.Denot). OnlyRead (g.D.Disk.disk c.args.self.now.disk) (g.D.Disk.disk d)) (sym disk) (read_then _ _ _ was.only_read ahead.only_read);
      faults = ap (λ (d : g.row.D.Denot). (g.D.Disk.disk d).faults) disk ∙ c.in-Ok.ensures.cause ∙ was.faults;
      limit = ap (λ (v : Reading g.row.D.Denot). v.limit) took.2 ∙ ahead.same.limit ∙ was.limit;
      going = ap (λ (v : Reading g.row.D.Denot). v.ended) took.2 ∙ ahead.same.ended ∙ was.going;
      known = ap (λ (v : Reading g.row.D.Denot). is_some v.chain) took.2 ∙ ap (λ (k : Option (List ℕ)). is_some k) frame.chain_is ∙ known_with c.look.new.self.chain frame.bytes known;
      passes = λ h end p.
          let less : c.entries.self.gate + 1 < size h = omega (arith, c.entries-test.true, there, end) in
          passes_more g.D.Disk.disk c.entries.self h (was.passes h end p) c.look.new.self c.advance.new.self c.in-Ok.found c.advance.result less ahead was.going known frame took;
    }

pub returns-in-Err-Closed-clause-passed : goal.returns-in-Err-Closed-clause-passed
returns-in-Err-Closed-clause-passed g c h p end =
    let there = ap (λ (v : Reading g.row.D.Denot). v.gate) c.self.view_is in
    let less : c.entries.self.gate + 1 < size h = omega (arith, c.entries-test.true, there, end) in
    absurd (subst IsFailed c.in-Err-Closed.field-0-is (ends_not g.D.Disk.disk c.entries.self h (c.entries.invariant.passes h end p) c.in-Err-Closed.field-0 less c.in-Err-Closed.ensures.ends))

pub returns-in-Err-Spoiled-clause-passed : goal.returns-in-Err-Spoiled-clause-passed
returns-in-Err-Spoiled-clause-passed g c h p end =
    let there = ap (λ (v : Reading g.row.D.Denot). v.gate) c.self.view_is in
    let less : c.entries.self.gate + 1 < size h = omega (arith, c.entries-test.true, there, end) in
    absurd (subst IsFailed c.in-Err-Spoiled.field-0-is (ends_not g.D.Disk.disk c.entries.self h (c.entries.invariant.passes h end p) c.in-Err-Spoiled.field-0 less c.in-Err-Spoiled.ensures.ends))

pub returns-in-Err-Unchained-clause-passed : goal.returns-in-Err-Unchained-clause-passed
returns-in-Err-Unchained-clause-passed g c h p end =
    let there = ap (λ (v : Reading g.row.D.Denot). v.gate) c.self.view_is in
    let less : c.entries.self.gate + 1 < size h = omega (arith, c.entries-test.true, there, end) in
    absurd (subst IsFailed c.in-Err-Unchained.field-0-is (ends_not g.D.Disk.disk c.entries.self h (c.entries.invariant.passes h end p) c.in-Err-Unchained.field-0 less c.in-Err-Unchained.ensures.ends))

pub returns-clause-passed : goal.returns-clause-passed
returns-clause-passed g c h p end =
    let there = ap (λ (v : Reading g.row.D.Denot). v.gate) c.self.view_is in
    all_passed g.D.Disk.disk c.entries.self h (c.entries.invariant.passes h end p) c.entries.invariant.known (omega (arith, c.entries-test.false, there, end))
