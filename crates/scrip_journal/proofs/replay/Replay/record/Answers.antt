use Rattle.std.proofs.Common.{◌+◌, sym, ◌∙◌, ap, ℕ, List, inr}
use Rattle.mc_records.specs.Forms.{entry_of}
use Rattle.mc_records.specs.Views.{entry}
use Rattle.scrip_journal.specs.States.{Reading}
use Rattle.scrip_journal.specs.declared.ending.ReplayFault.TheVariants.{BadRecord}
use Rattle.std.specs.Prelude.{slice_range}
use Rattle.scrip_journal.proofs.replay.Replay.record.Goals as goal

pub returns-in-Err-clause-fault : goal.returns-in-Err-clause-fault
returns-in-Err-clause-fault g c =
    let bytes = ap (λ (l : List ℕ). slice_range l c.self.inside.from c.self.inside.to) c.deref.ensures.value in
    let last = ap (λ (v : Reading g.row.D.Denot). v.last) c.self.view_is in
    (c.in-Err.fault.place, ap entry_of (sym last ∙ sym bytes) ∙ c.in-Err.ensures.exact, ap (λ (v : Reading g.row.D.Denot). BadRecord (v.at + c.in-Err.fault.place)) c.self.view_is)

pub returns-in-Ok-clause-goes_on : goal.returns-in-Ok-clause-goes_on
returns-in-Ok-clause-goes_on g c =
    let bytes = ap (λ (l : List ℕ). slice_range l c.self.inside.from c.self.inside.to) c.deref.ensures.value in
    let last = ap (λ (v : Reading g.row.D.Denot). v.last) c.self.view_is in
    record { at_entry = λ on. inr (entry c.in-Ok.record, c.in-Ok.ensures.found.0, sym last ∙ sym bytes ∙ c.in-Ok.ensures.found.1) }
