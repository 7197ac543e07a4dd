-- What the slow answer shows.
use Rattle.std.specs.Prelude.{◌≡◌}
use Rattle.mc_records.specs.Entry.{Entry, Fits, payload}
use Rattle.ledger_model.specs.Answer.{Answer, Refused, Again, Take}
use Rattle.slow_ledger.specs.declared.table.ModelAnswer.{ModelAnswer}
use Rattle.slow_ledger.specs.declared.table.ModelAnswer.TheVariants as shown

-- a refusal, the number of an entry, or the payload of the entry that is taken
abbrev pub Shows : ModelAnswer → Answer → Type 0
Shows (shown.Refused refusal) a = a ≡ Refused refusal
Shows (shown.Again number) a = a ≡ Again number
Shows (shown.Take bytes) a = (e : Entry) × (a ≡ Take e) × Fits e × (bytes ≡ payload e)
