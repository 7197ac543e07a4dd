-- What was read of a request's scrip text.
use Rattle.std.specs.Prelude.{◌≡◌, List, Option, ℕ, IfErr, Result}
use Rattle.scrip_form.specs.Scrip.{Certified}
use Rattle.mc_requests.specs.declared.refusal.Refusal.{Refusal}
use Rattle.ledger_model.specs.Lines.{as_line}
use Rattle.ledger_model.specs.Stages.{read_by}
use Rattle.house_state.specs.Replying.{IsOfSite}

-- It is what reading the text gives, where there is one: the piece, or the refusal 20 or 21.
pub record IsReading (scrip : Option (List ℕ)) (read : Result Certified Refusal) : Type 0 where
  pub line : as_line (λ c. c) read ≡ read_by scrip
  pub site' : IfErr read IsOfSite
