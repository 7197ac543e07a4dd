-- What is gathered of a request.
use Rattle.std.specs.Prelude.{max}
use Rattle.std.proofs.Common.{◌≡◌, ◌<◌, ℕ, List, [], ◌∷◌, ◌++◌, false, refl, subst, ap, sym, ◌∙◌, append_assoc, Result, Ok, Err}
use Rattle.mc_outside.specs.DiskView.{DiskView}
use Rattle.mc_records.specs.Entry.{Entry}
use Rattle.mc_records.specs.Chains.{is_switch}
use Rattle.mc_requests.specs.Requests.{Asked}
use Rattle.ledger_model.specs.Histories.{History}
use Rattle.ledger_model.specs.Answer as answers
use Rattle.ledger_model.specs.Answer.{Answer, answer, answered}
use Rattle.scrip_journal.specs.Batches.{InBatch, IsBatch}
use Rattle.house_state.specs.declared.verdict.Authorized.{Authorized}
use Rattle.house_state.specs.declared.verdict.Authorized.TheVariants as by
use Rattle.house_state.specs.declared.verdict.NotAuthorized.{NotAuthorized}
use Rattle.house_state.specs.declared.verdict.NotAuthorized.TheVariants as stops
use Rattle.house_state.specs.Verdicts.{authorized_entry, stop_of}
use Rattle.house_core.specs.declared.fault.BenchFault.{BenchFault}
use Rattle.house_core.specs.declared.fault.BenchFault.TheVariants as faults
use Rattle.house_core.specs.Bench.{IsHouse, Represents, HasContents, Accepts, KeepsContents, house_time, limits_of, state_of, stopped_with}
use Rattle.house_state.specs.HouseState.{HouseStateView}
use Rattle.house_core.specs.Gathering.{Gathers, IsAhead, ReachesAhead}
use Rattle.house_core.specs.BenchView.{BenchView}
use Rattle.house_core.specs.Session.{raised, Says}
use Rattle.house_core.proofs.Said.{said_of}
use Rattle.house_state.specs.Trade.{TradeView}

-- what is authorized is no Switch
pub no_switch : (t : ℕ) (target : List ℕ) (a : Authorized) → is_switch (authorized_entry t target a) ≡ false
no_switch t target (by.Scrip a) = refl
no_switch t target (by.Draw d) = refl

-- a request that makes no entry gathers none
pub gathers_none : {D : Type 0} (view : D → DiskView) (b : InBatch D) (h es : History) (a : Answer) (s : NotAuthorized) → answered (Err (stop_of s)) ≡ a → IsBatch view b h es
    → Gathers {E = BenchFault} view b h es a (stopped_with s)
gathers_none view b h es a (stops.Refused f) is st = subst (λ (x : Answer). Gathers {E = BenchFault} view b h es x (Err (faults.Refused f))) is st
gathers_none view b h es a (stops.Again n) is st = subst (λ (x : Answer). Gathers {E = BenchFault} view b h es x (Ok n)) is st

-- ---- what is said

-- of a request with this answer
pub came_ahead : {D T : Type 0} (view : D → DiskView) (trade : T → TradeView) (b : BenchView T) (batch : InBatch D) (h es : History) (t : ℕ) (a : Answer) (r : Result ℕ BenchFault) → house_time b ≡ t
    → Accepts trade b (h ++ es) a r → KeepsContents trade b (h ++ es) a r → Gathers view batch h es a r → ReachesAhead view trade (Says a (said_of r) (record { history = h ++ es; time = t })) b batch h
came_ahead {T = T} view trade b batch h es t (answers.Take e) (Ok n) time accepts keeps gathers =
    let more : (h ++ es) ++ e ∷ [] ≡ h ++ (es ++ e ∷ []) = append_assoc h es (e ∷ []) in
    record {
      gathered = es ++ e ∷ [];
      ahead = record { house = subst (λ (k : History). IsHouse trade b k) more (record { represents = accepts.1; contents = keeps }); batch' = gathers };
      related = (accepts.0, ap (λ (k : History). record { history = k; time = house_time b }) (sym more) ∙ ap (λ (m : ℕ). record { history = (h ++ es) ++ e ∷ []; time = m }) time);
    }
came_ahead view trade b batch h es t (answers.Take e) (Err faults.NoMemory) time accepts keeps gathers = record {
  gathered = es;
  ahead = record { house = record { represents = accepts; contents = keeps }; batch' = gathers };
  related = (refl, ap (λ (m : ℕ). record { history = h ++ es; time = m }) time);
}
came_ahead view trade b batch h es t (answers.Take e) (Err (faults.Refused f)) time accepts keeps gathers = absurd accepts
came_ahead view trade b batch h es t (answers.Again m) (Ok n) time accepts keeps gathers = record {
  gathered = es;
  ahead = record { house = record { represents = accepts.1; contents = keeps }; batch' = gathers };
  related = (accepts.0, ap (λ (m : ℕ). record { history = h ++ es; time = m }) time);
}
came_ahead view trade b batch h es t (answers.Again m) (Err f) time accepts keeps gathers = absurd accepts
came_ahead view trade b batch h es t (answers.Refused f) (Err (faults.Refused g)) time accepts keeps gathers = record {
  gathered = es;
  ahead = record { house = record { represents = accepts.1; contents = keeps }; batch' = gathers };
  related = (accepts.0, ap (λ (m : ℕ). record { history = h ++ es; time = m }) time);
}
came_ahead view trade b batch h es t (answers.Refused f) (Err faults.NoMemory) time accepts keeps gathers = absurd accepts
came_ahead view trade b batch h es t (answers.Refused f) (Ok n) time accepts keeps gathers = absurd accepts

-- The house time was raised to a reading, replies are kept from there on, and then a request was answered.
pub says_ahead : {D T : Type 0} (view : D → DiskView) (trade : T → TradeView) (old v mid new : BenchView T) (keeps : HouseStateView) (before after : InBatch D) (reading : ℕ) (q : Asked) (r : Result ℕ BenchFault)
    → v ≡ mid → house_time mid ≡ max (house_time old) reading → limits_of mid ≡ limits_of old
    → ((k : History) → Represents trade old k → Represents trade mid k)
    → ((k : History) → Represents trade old k → HasContents trade old k → HasContents trade mid k)
    → (0 < v.state.kept.keep → keeps ≡ v.state) → house_time new ≡ keeps.time → keeps.time ≡ v.state.time
    → ((k : History) → IsHouse trade (record v { state = keeps }) k → Accepts trade new k (answer k keeps.time keeps.limits q) r)
    → ((k : History) → Represents trade (record v { state = keeps }) k → HasContents trade (record v { state = keeps }) k → KeepsContents trade new k (answer k keeps.time keeps.limits q) r)
    → ((h es : History) → IsHouse trade (record v { state = keeps }) (h ++ es) → IsBatch view before h es → Gathers view after h es (answer (h ++ es) keeps.time keeps.limits q) r)
    → (h es : History) → IsAhead view trade old before h es
    → ReachesAhead view trade (Says (answer (h ++ es) (max (house_time old) reading) (limits_of old) q) (said_of r) (raised (state_of (h ++ es) old) reading)) new after h
says_ahead {T = T} view trade old v mid new keeps before after reading q r is raised_is limits same contents stays time rest accepts keeps_contents gathers h es ahead =
    let k : History = h ++ es in
    let st = same k ahead.house.represents in
    let has = contents k ahead.house.represents ahead.house.contents in
    let some : 0 < v.state.kept.keep = subst (λ (b : BenchView T). 0 < b.state.kept.keep) (sym is) has.some in
    let there : mid ≡ record v { state = keeps } = sym (ap (λ (s : HouseStateView). record v { state = s }) (stays some) ∙ is) in
    let house : IsHouse trade (record v { state = keeps }) k = subst (λ (b : BenchView T). IsHouse trade b k) there (record { represents = st; contents = has }) in
    let at : keeps.time ≡ max (house_time old) reading = rest ∙ ap (λ (b : BenchView T). house_time b) is ∙ raised_is in
    let within : keeps.limits ≡ limits_of old = ap (λ (s : HouseStateView). s.limits) (stays some) ∙ ap (λ (b : BenchView T). limits_of b) is ∙ limits in
    let accepted = rw (at, within) at (accepts k house) in
    let kept = rw (at, within) at (keeps_contents k house.represents house.contents) in
    let gathered = rw (at, within) at (gathers h es house ahead.batch') in
    came_ahead view trade new after h es (max (house_time old) reading) (answer k (max (house_time old) reading) (limits_of old) q) r (time ∙ at) accepted kept gathered
