use Rattle.std.proofs.Common.{◌∙◌, ap, sym}
use Rattle.mc_requests.specs.declared.limits.Limits.{Limits}
use Rattle.mc_records.specs.Views.{entry}
use Rattle.ledger_model.specs.Stages.{fitted_by}
use Rattle.house_state.specs.HouseState.{tail_of}
use Rattle.house_state.proofs.Tabled.{fitted_stands}
use Rattle.house_core.proofs.RefusingLemmas.{full_among}
use Rattle.house_core.proofs.bench.Bench.make_room_for.Goals as goal

pub returns-in-Err-clause-fault : goal.returns-in-Err-clause-fault
returns-in-Err-clause-fault g c = rw (← c.self.view_is) (λ h st tells.
    let b = c.self.inside.state in
    let e = entry c.args.r.now in
    let refused = c.in-Err.ensures.lines e c.payload_len-bytes.ensures ∙ ap (λ (l : Limits). fitted_by l.journal b.size (tail_of b) e) c.limits.ensures.limits in
    (fitted_stands st.state (c.self.inside.state.limits) e ∙ sym refused, st))

pub returns-in-Ok-room_for-clause-fitted : goal.returns-in-Ok-room_for-clause-fitted
returns-in-Ok-room_for-clause-fitted g c = rw (← c.self.view_is) (λ h st.
    let b = c.self.inside.state in
    let e = entry c.args.r.now in
    let fits = c.in-Ok.ensures.lines e c.payload_len-bytes.ensures ∙ ap (λ (l : Limits). fitted_by l.journal b.size (tail_of b) e) c.limits.ensures.limits in
    fitted_stands st.state (c.self.inside.state.limits) e ∙ sym fits)

pub returns-in-Err-clause-refusals : goal.returns-in-Err-clause-refusals
returns-in-Err-clause-refusals g c =
    full_among _ c.self.inside.state.size (tail_of c.self.inside.state) (entry c.args.r.now) _ (c.in-Err.ensures.lines (entry c.args.r.now) c.payload_len-bytes.ensures)
