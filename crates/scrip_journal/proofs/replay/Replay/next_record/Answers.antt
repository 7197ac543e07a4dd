use Rattle.std.proofs.Common.{◌∙◌, sym, ap, subst, List, ℕ, Some, Err}
use Rattle.std.specs.Prelude.{slice_range}
use Rattle.scrip_journal.specs.States.{Reading}
use Rattle.scrip_journal.specs.Replays.{LookedOn, FaultsBy, EndsReading}
use Rattle.scrip_journal.proofs.Advancing.{none_of, advanced_on, advanced_to_end}
use Rattle.scrip_journal.proofs.replay.Replay.next_record.Goals as goal

pub look_known-requires : goal.look_known-requires
look_known-requires g c = record { going = none_of c.self.inside.ended c.in_default.not-Some }

pub returns-in-Ok : goal.returns-in-Ok
returns-in-Ok g c =
    let last : List ℕ = slice_range c.self.inside.buf.items 0 0 in
    let old = c.self.view_is in
    let on = sym (ap (λ (v : Reading g.row.D.Denot). v.ended) old) ∙ none_of c.self.inside.ended c.in_default.not-Some in
    let disk = ap (λ (v : Reading g.row.D.Denot). v.disk) old in
    advanced_on g.D.Disk.disk g.D.Disk.disk_moved c.args.self.now c.look_known.new.self last on (subst (λ (d : g.row.D.Denot). g.D.Disk.disk_moved d c.look_known.new.self.disk) disk c.look_known.ensures.moved)
    (subst (λ (v : Reading g.row.D.Denot). LookedOn g.D.Disk.disk (record v { last = last }) c.look_known.new.self) old c.look_known.ensures.looked) c.in-Ok.found c.advance.result c.advance.new.self
    (c.in-Ok.ensures.cause ∙ ap (λ (d : g.row.D.Denot). (g.D.Disk.disk d).faults) disk) c.in-Ok.ensures.frame c.in-Ok.ensures.known c.advance.ensures

pub returns-in-Err : goal.returns-in-Err
returns-in-Err g c =
    let last : List ℕ = slice_range c.self.inside.buf.items 0 0 in
    let old = c.self.view_is in
    let on = sym (ap (λ (v : Reading g.row.D.Denot). v.ended) old) ∙ none_of c.self.inside.ended c.in_default.not-Some in
    let disk = ap (λ (v : Reading g.row.D.Denot). v.disk) old in
    advanced_to_end g.D.Disk.disk g.D.Disk.disk_moved c.args.self.now c.look_known.new.self last on (subst (λ (d : g.row.D.Denot). g.D.Disk.disk_moved d c.look_known.new.self.disk) disk c.look_known.ensures.moved)
    (subst (λ (v : Reading g.row.D.Denot). LookedOn g.D.Disk.disk (record v { last = last }) c.look_known.new.self) old c.look_known.ensures.looked) c.in-Err.ending c.answer-in-Err.result _
    (subst (λ (d : g.row.D.Denot). FaultsBy {X = ℕ} (Err c.in-Err.ending) (g.D.Disk.disk d).faults (g.D.Disk.disk c.look_known.new.self.disk).faults) disk c.in-Err.ensures.cause)
    (subst (λ (v : Reading g.row.D.Denot). EndsReading g.D.Disk.disk (record v { last = last }) c.in-Err.ending) old c.in-Err.ensures.ends)
    c.answer-in-Err.ensures (ap (λ (v : Reading g.row.D.Denot). record v { ended = Some c.in-Err.ending }) c.self-in-Err.view_is)
