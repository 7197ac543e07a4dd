-- What is said to a request, and the history after it.
use Rattle.std.proofs.Common.{◌≡◌, ℕ, Result, Ok, Err, sym, ap, subst, ◌∙◌, arith}
use Rattle.std.specs.Prelude.{max}
use Rattle.mc_requests.specs.declared.limits.Limits.{Limits}
use Rattle.mc_requests.specs.declared.refusal.Refusal.{Refusal}
use Rattle.mc_requests.specs.declared.refusal.Refusal.TheVariants.{NoMemory}
use Rattle.mc_requests.specs.Requests.{Asked}
use Rattle.ledger_model.specs.Histories.{History}
use Rattle.ledger_model.specs.Answer as answers
use Rattle.ledger_model.specs.Answer.{Answer, answer}
use Rattle.house_state.specs.Trade.{TradeView}
use Rattle.house_core.specs.BenchView.{BenchView}
use Rattle.house_core.specs.Bench.{IsHouse, Represents, HasContents, Refines, state_of, house_time, limits_of}
use Rattle.house_core.specs.Session.{State, raised, Says}
use Rattle.mc_world.specs.Shops.{history_after, IsTold}

says_after : (a : Answer) (told : Result ℕ Refusal) (s t : State) → Says a told s t → (told ≡ Err NoMemory → ⊥) → t.history ≡ history_after s.history a
says_after (answers.Take e) (Ok number) s t says some = ap (λ (x : State). x.history) says.1
says_after (answers.Take e) (Err f) s t says some = absurd (some (ap err says.0))
  where
    err : Refusal → Result ℕ Refusal
    err x = Err x
says_after (answers.Again m) (Ok number) s t says some = ap (λ (x : State). x.history) says.1
says_after (answers.Again m) (Err f) s t says some = absurd says
says_after (answers.Refused g) (Err f) s t says some = ap (λ (x : State). x.history) says.1
says_after (answers.Refused g) (Ok number) s t says some = absurd says

twice : (t u reading : ℕ) → u ≡ max t reading → max u reading ≡ max t reading
twice t u reading is = grind (arith, is)

abbrev state_at : History → ℕ → State
state_at h t = record { history = h; time = t }

pub after_told : {T : Type 0} (trade : T → TradeView) (old mid new : BenchView T) (h g : History) (limits : Limits) (reading : ℕ) (q : Asked) (told : Result ℕ Refusal)
    → IsHouse trade old h → limits_of old ≡ limits
    → house_time mid ≡ max (house_time old) reading → limits_of mid ≡ limits_of old → ((h : History) → Represents trade old h → Represents trade mid h)
    → ((h : History) → Represents trade old h → HasContents trade old h → HasContents trade mid h)
    → Refines trade (λ s t. Says (answer (raised s reading).history (raised s reading).time (limits_of mid) q) told (raised s reading) t) mid new
    → (told ≡ Err NoMemory → ⊥) → g ≡ history_after h (answer h (max (house_time old) reading) limits q)
    → IsHouse trade new g × IsTold limits (state_of h old) reading q told (state_of g new)
after_told trade old mid new h g limits reading q told house bounds time kept same contents went some given =
    let at : IsHouse trade mid h = record { represents = same h house.represents; contents = contents h house.represents house.contents } in
    let r = went h at in
    let raised_is : max (house_time mid) reading ≡ max (house_time old) reading = twice (house_time old) (house_time mid) reading time in
    let limits_is : limits_of mid ≡ limits = kept ∙ bounds in
    let first : Says (answer h (max (house_time mid) reading) limits q) told (state_at h (max (house_time mid) reading)) (state_of r.history new) =
    subst (λ (l : Limits). Says (answer h (max (house_time mid) reading) l q) told (state_at h (max (house_time mid) reading)) (state_of r.history new)) limits_is r.related in
    let says : Says (answer h (max (house_time old) reading) limits q) told (state_at h (max (house_time old) reading)) (state_of r.history new) =
    subst (λ (t : ℕ). Says (answer h t limits q) told (state_at h t) (state_of r.history new)) raised_is first in
    let is : r.history ≡ g = says_after (answer h (max (house_time old) reading) limits q) told (state_at h (max (house_time old) reading)) (state_of r.history new) says some ∙ sym given in (
      subst (IsHouse trade new) is r.house,
      record { says = subst (λ (x : History). Says (answer h (max (house_time old) reading) limits q) told (state_at h (max (house_time old) reading)) (state_of x new)) is says; some = some },
    )
