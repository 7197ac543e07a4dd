-- A house of a world, as its bench and its history.
use Rattle.std.specs.Prelude.{◌≡◌, ℕ, [], ◌∷◌, ◌++◌, Result, Err}
use Rattle.mc_requests.specs.declared.limits.Limits.{Limits}
use Rattle.mc_requests.specs.declared.refusal.Refusal.{Refusal}
use Rattle.mc_requests.specs.declared.refusal.Refusal.TheVariants.{NoMemory}
use Rattle.mc_requests.specs.Limits.{AreInRange}
use Rattle.mc_requests.specs.Requests.{Asked}
use Rattle.ledger_model.specs.Histories.{History}
use Rattle.ledger_model.specs.Answer.{Answer, Take, answer}
use Rattle.house_state.specs.Trade.{TradeView}
use Rattle.house_core.specs.Bench.{IsHouse, house_time, limits_of}
use Rattle.house_core.specs.Session.{State, raised, Says}
use Rattle.mc_world.specs.declared.shop.Shop.{Shop}

abbrev pub shop_state : {T : Type 0} → Shop T → State
shop_state x = record { history = x.history; time = house_time x.bench }

pub record IsShop {T : Type 0} (trade : T → TradeView) (x : Shop T) : Type 0 where
  pub house : IsHouse trade x.bench x.history
  pub limits : limits_of x.bench ≡ x.limits
  pub range : AreInRange x.limits

-- What is said to a request at a reading of the clock, which is no want of memory, and the state after it
pub record IsTold (limits : Limits) (s : State) (reading : ℕ) (q : Asked) (told : Result ℕ Refusal) (t : State) : Type 0 where
  pub says : Says (answer s.history (raised s reading).time limits q) told (raised s reading) t
  pub some : told ≡ Err NoMemory → ⊥

-- the history after a request with this answer
abbrev pub history_after : History → Answer → History
history_after h (Take e) = h ++ e ∷ []
history_after h _ = h
