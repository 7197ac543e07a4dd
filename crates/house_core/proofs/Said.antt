-- What is said to a request, from what comes of it.
use Rattle.std.proofs.Common.{◌≡◌, ℕ, [], ◌∷◌, ◌++◌, Result, Ok, Err, refl, ap, ◌∙◌}
use Rattle.std.specs.Prelude.{max}
use Rattle.mc_requests.specs.declared.refusal.Refusal.{Refusal}
use Rattle.mc_requests.specs.declared.refusal.Refusal.TheVariants as refusals
use Rattle.mc_requests.specs.Requests.{Asked}
use Rattle.ledger_model.specs.Histories.{History}
use Rattle.ledger_model.specs.Answer as answers
use Rattle.ledger_model.specs.Answer.{Answer, answer}
use Rattle.house_core.specs.BenchView.{BenchView}
use Rattle.house_core.specs.declared.tally.Tally.{Tally}
use Rattle.house_core.specs.declared.fault.BenchFault.{BenchFault}
use Rattle.house_core.specs.declared.fault.BenchFault.TheVariants as faults
use Rattle.house_core.specs.Session.{State, raised, Says}
use Rattle.house_core.specs.Bench.{IsHouse, Represents, HasContents, Reaches, Refines, Accepts, KeepsContents, house_time, limits_of, state_of}
use Rattle.house_state.specs.Trade.{TradeView}

-- want of memory is a refusal too
abbrev pub said_of : Result ℕ BenchFault → Result ℕ Refusal
said_of (Ok number) = Ok number
said_of (Err (faults.Refused f)) = Err f
said_of (Err faults.NoMemory) = Err refusals.NoMemory

came : {T : Type 0} (trade : T → TradeView) (s : State) (b : BenchView T) (a : Answer) (r : Result ℕ BenchFault) → house_time b ≡ s.time
    → Accepts trade b s.history a r → KeepsContents trade b s.history a r → Reaches trade (Says a (said_of r) s) b
came trade s b (answers.Take e) (Ok n) time accepts keeps = record {
  history = s.history ++ e ∷ [];
  house = record { represents = accepts.1; contents = keeps };
  related = (accepts.0, ap (λ (t : ℕ). record s { history = s.history ++ e ∷ []; time = t }) time);
}
came trade s b (answers.Take e) (Err faults.NoMemory) time accepts keeps = record {
  history = s.history;
  house = record { represents = accepts; contents = keeps };
  related = (refl, ap (λ (t : ℕ). record s { time = t }) time);
}
came trade s b (answers.Take e) (Err (faults.Refused f)) time accepts keeps = absurd accepts
came trade s b (answers.Again m) (Ok n) time accepts keeps = record {
  history = s.history;
  house = record { represents = accepts.1; contents = keeps };
  related = (accepts.0, ap (λ (t : ℕ). record s { time = t }) time);
}
came trade s b (answers.Again m) (Err f) time accepts keeps = absurd accepts
came trade s b (answers.Refused f) (Err (faults.Refused g)) time accepts keeps = record {
  history = s.history;
  house = record { represents = accepts.1; contents = keeps };
  related = (accepts.0, ap (λ (t : ℕ). record s { time = t }) time);
}
came trade s b (answers.Refused f) (Err faults.NoMemory) time accepts keeps = absurd accepts
came trade s b (answers.Refused f) (Ok n) time accepts keeps = absurd accepts

-- the house time was raised to a reading, and then a request was accepted or not
pub says : {T : Type 0} (trade : T → TradeView) (old mid new : BenchView T) (reading : ℕ) (q : Asked) (r : Result ℕ BenchFault)
    → house_time mid ≡ max (house_time old) reading → limits_of mid ≡ limits_of old → house_time new ≡ house_time mid
    → ((h : History) → Represents trade old h → Represents trade mid h)
    → ((h : History) → Represents trade old h → HasContents trade old h → HasContents trade mid h)
    → ((h : History) → IsHouse trade mid h → Accepts trade new h (answer h (house_time mid) (limits_of mid) q) r)
    → ((h : History) → Represents trade mid h → HasContents trade mid h → KeepsContents trade new h (answer h (house_time mid) (limits_of mid) q) r)
    → Refines trade (λ s t. Says (answer (raised s reading).history (raised s reading).time (limits_of old) q) (said_of r) (raised s reading) t) old new
says trade old mid new reading q r time limits still same contents accepts keeps h house =
    let s : State = raised (state_of h old) reading in
    let st = same h house.represents in
    let has = contents h house.represents house.contents in
    let accepted : Accepts trade new h (answer h s.time (limits_of old) q) r = rw (time, limits) at (accepts h (record { represents = st; contents = has })) in
    let kept : KeepsContents trade new h (answer h s.time (limits_of old) q) r = rw (time, limits) at (keeps h st has) in
    came trade s new (answer h s.time (limits_of old) q) r (still ∙ time) accepted kept

-- what a house counts is no part of what it represents
pub counted_beside : {T : Type 0} (trade : T → TradeView) (P : State → Type 0) (b : BenchView T) (tally : Tally) → Reaches trade P b → Reaches trade P (record b { tally = tally })
counted_beside trade P b tally came = record {
  history = came.history;
  house = record {
    represents = record { state = came.house.represents.state; learned = came.house.represents.learned; of_kind = came.house.represents.of_kind };
    contents = record { keep = came.house.contents.keep; some = came.house.contents.some; in_force = came.house.contents.in_force; held = came.house.contents.held };
  };
  related = came.related;
}
