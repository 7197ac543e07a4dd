-- What comes of an entry that is read from a journal.
use Rattle.std.proofs.Common.{◌≡◌, ℕ, List, Option, Some, Result, Err, option_map, sym, ap, ◌∙◌}
use Rattle.std.specs.Result.{result_ok}
use Rattle.scrip_form.specs.Scrip.{Scrip}
use Rattle.mc_requests.specs.declared.limits.Limits.{Limits}
use Rattle.mc_records.specs.Entry.{Deed, Entry, Accept, Draw}
use Rattle.mc_requests.specs.Requests.{Asked}
use Rattle.ledger_model.specs.Histories.{History}
use Rattle.ledger_model.proofs.TableLaws.{read_ok}
use Rattle.ledger_model.specs.Lines.{Stop, Refuse, Repeat}
use Rattle.ledger_model.specs.Answer as answers
use Rattle.ledger_model.specs.Answer.{Answer, answered}
use Rattle.house_core.specs.BenchView.{BenchView}
use Rattle.house_state.specs.declared.verdict.Authorized.{Authorized}
use Rattle.house_state.specs.declared.verdict.Authorized.TheVariants as by
use Rattle.scrip_journal.specs.declared.fault.LearnFault.{LearnFault}
use Rattle.scrip_journal.specs.declared.fault.LearnFault.TheVariants as ends
use Rattle.house_core.specs.Bench.{Follows, Replays}
use Rattle.house_core.specs.Spent.{told_of, spent_by, spent_with}
use Rattle.house_state.specs.Verdicts.{accept_entry, draw_entry, authorized_entry, IsOfNew, IsSaid, SaysDraw}
use Rattle.house_state.specs.HouseState.{HouseStateView}
use Rattle.house_state.specs.Trade.{TradeView}

-- an entry that does not follow is not replayed
pub follow_fails : {T : Type 0} (trade : T → TradeView) (passes : History → Entry → Type 0) (b : BenchView T) (limits : Limits) (h : History) (e : Entry) (end : LearnFault)
    → Follows trade passes b limits h e (Err end) → Replays {X = Unit {0}} trade passes b limits h e (Err end)
follow_fails trade passes b limits h e ends.Unlawful f = f.0
follow_fails trade passes b limits h e ends.NoMemory f = tt

-- what stops takes no entry
pub stops : (s : Stop) (a : Answer) (e : Entry) → answered (Err s) ≡ a → a ≡ answers.Take e → ⊥
stops (Refuse f) a e is takes = absurd cc
stops (Repeat n) a e is takes = absurd cc

-- the entry of what was authorized, where an Accept entry says the same
pub said_entry : (b : HouseStateView) (q : Asked) (t : ℕ) (other goal : List ℕ) (a : Authorized) (sign : Option (List ℕ)) (price : ℕ) (change : Option ℕ) (deed : Deed) → IsOfNew b q a → q.scrip ≡ Some other → q.target ≡ goal
    → IsSaid a sign price change deed → authorized_entry t q.target a ≡ Accept t other goal sign price change deed
said_entry b q t other goal (by.Scrip a) sign price change deed new text at said =
    let read : q.scrip ≡ Some a.scrip.now.text = (read_ok q.scrip a.scrip.now (sym new.0)).0 in
    let same : a.scrip.now.text ≡ other = cc (read, text) in
    let s = said.sign in
    let p = said.price in
    let c = said.change in
    let d = said.deed in
    cc (same, at, s, p, c, d)
said_entry b q t other goal (by.Draw d) sign price change deed new text at said = absurd said

-- the piece that it spends is that of its text
pub spent_is : (b : HouseStateView) (q : Asked) (other : List ℕ) (a : Authorized) (sign : Option (List ℕ)) (price : ℕ) (change : Option ℕ) (deed : Deed) → IsOfNew b q a → q.scrip ≡ Some other → IsSaid a sign price change deed
    → spent_with a ≡ spent_by other
spent_is b q other (by.Scrip a) sign price change deed new text said =
    let read = read_ok q.scrip a.scrip.now (sym new.0) in
    let same : a.scrip.now.text ≡ other = cc (read.0, text) in
    sym (ap spent_by (sym same) ∙ ap (λ (r : Result (Scrip × List ℕ) ℕ). option_map told_of (option_map (λ x. x.0) (result_ok r))) read.1)
spent_is b q other (by.Draw d) sign price change deed new text said = absurd said

pub is_said : (t u : ℕ) (other target goal : List ℕ) (a : Authorized) (sign : Option (List ℕ)) (price : ℕ) (change : Option ℕ) (deed : Deed) (answer : Answer)
    → answers.Take (authorized_entry t target a) ≡ answer → answer ≡ answers.Take (Accept u other goal sign price change deed) → IsSaid a sign price change deed
is_said t u other target goal (by.Scrip a) sign price change deed answer is takes =
    let same : answers.Take (accept_entry t target a) ≡ answers.Take (Accept u other goal sign price change deed) = is ∙ takes in
    record { sign = cc same; price = cc same; change = cc same; deed = cc same }
is_said t u other target goal (by.Draw d) sign price change deed answer is takes =
    let same : answers.Take (draw_entry t target d) ≡ answers.Take (Accept u other goal sign price change deed) = is ∙ takes in
    absurd cc

-- and where a Draw entry does
pub drawn_entry : (t : ℕ) (target goal : List ℕ) (a : Authorized) (sign : List ℕ) (drawn : ℕ) → target ≡ goal → SaysDraw a sign drawn → authorized_entry t target a ≡ Draw t goal sign drawn
drawn_entry t target goal (by.Scrip a) sign drawn at said = absurd said
drawn_entry t target goal (by.Draw d) sign drawn at said = let s = said.0 in let i = said.1 in cc (at, s, i)

pub says_drawn : (t u : ℕ) (target goal : List ℕ) (a : Authorized) (sign : List ℕ) (drawn : ℕ) (answer : Answer)
    → answers.Take (authorized_entry t target a) ≡ answer → answer ≡ answers.Take (Draw u goal sign drawn) → SaysDraw a sign drawn
says_drawn t u target goal (by.Scrip a) sign drawn answer is takes =
    let same : answers.Take (accept_entry t target a) ≡ answers.Take (Draw u goal sign drawn) = is ∙ takes in
    absurd cc
says_drawn t u target goal (by.Draw d) sign drawn answer is takes =
    let same : answers.Take (draw_entry t target d) ≡ answers.Take (Draw u goal sign drawn) = is ∙ takes in
    (cc same, cc same)
