use Rattle.std.proofs.Common.{◌∙◌, ap, ℕ, Result}
use Rattle.mc_records.specs.Entry.{Draw}
use Rattle.ledger_model.specs.Lines.{Stop, ◌>>=◌}
use Rattle.ledger_model.specs.Answer.{fitted}
use Rattle.slow_ledger.proofs.draws.drawn.Goals as goal

pub returns-in-Ok-fitted : goal.returns-in-Ok-fitted
returns-in-Ok-fitted c =
    let entry = Draw c.args.time c.args.q.now.target.now c.args.sign c.in-Ok.id in (
      entry,
      ap (λ (r : Result ℕ Stop). r >>= λ id. fitted c.args.h.now c.args.limits (Draw c.args.time c.args.q.now.target.now c.args.sign id)) c.in-Ok.ensures
          ∙ c.in-Ok-fitted.ensures entry (c.deref.ensures.value ∙ c.in-Ok-draw_payload.ensures.payload),
      c.in-Ok-draw_payload.ensures.fits,
      c.in-Ok-draw_payload.ensures.payload,
    )
