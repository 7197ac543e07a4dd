use Rattle.std.proofs.Common.{sym, ◌∙◌, ap}
use Rattle.mc_outside.proofs.Counts.{on_ok}
use Rattle.scrip_journal.specs.States.{Reading}
use Rattle.scrip_journal.proofs.Heading.{opened_reading}
use Rattle.scrip_journal.proofs.open.open_journal.Goals as goal

pub returns-in-Ok-true-clause-opened : goal.returns-in-Ok-true-clause-opened
returns-in-Ok-true-clause-opened g c x told =
    let synced = on_ok c.sync.result _ (sym c.is_err.ensures.value ∙ c.if-is_err.false) c.sync.ensures.synced in
    let at = c.at_front-replay.ensures in
    opened_reading g.D.Disk.disk c.sync.new.self c.at_front-replay.result c.read_header.new.self x (ap (λ (v : Reading g.row.D.Denot). v.disk) at) (c.sync.ensures.same ∙ told) synced c.read_header.ensures.only_read
    (c.in-Ok-true.ensures.found c.in-Ok-true.field-0-test) (ap (λ (v : Reading g.row.D.Denot). v.entries) at) (ap (λ (v : Reading g.row.D.Denot). v.switched) at) (ap (λ (v : Reading g.row.D.Denot). v.chain) at) (ap (λ (v : Reading g.row.D.Denot). v.ended) at) (c.in-Ok-true.ensures.begins c.in-Ok-true.field-0-test x (ap (λ (v : Reading g.row.D.Denot). (g.D.Disk.disk v.disk).contents) at ∙ c.sync.ensures.same ∙ told))
