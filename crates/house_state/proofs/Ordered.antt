-- The draw that a target asks for, by what the trade says of it.
use Rattle.std.proofs.Common.{◌≡◌, ℕ, List, Option, Some, None, Result, refl, sym, ap, ◌∙◌}
use Rattle.std.specs.Prelude.{option_map}
use Rattle.mc_requests.specs.declared.limits.Limits.{Limits}
use Rattle.mc_records.specs.Entry.{Entry}
use Rattle.mc_requests.specs.Requests.{Asked}
use Rattle.ledger_model.specs.Histories.{History}
use Rattle.ledger_model.specs.Lines.{Stop}
use Rattle.ledger_model.specs.Orders.{Order}
use Rattle.ledger_model.proofs.WithinLaws.{within_by_draw}
use Rattle.ledger_model.specs.Answer.{draw_in, draw_lines_within, answered, answer_within}
use Rattle.house_state.specs.declared.offer.DrawAsk.{DrawAsk}
use Rattle.house_state.specs.declared.verdict.DrawAuthorization.{DrawAuthorization}
use Rattle.house_state.specs.Trade.{asked_of_account, draw_asked}
use Rattle.house_state.specs.Verdicts.{IsOrdered}

-- none is asked for
pub none_asked : (h : History) (target : List ℕ) → None ≡ draw_asked h target → draw_in h target ≡ None
none_asked h target none = go (draw_in h target) none
  where
    go : (o : Option Order) → None ≡ option_map (asked_of_account h) o → o ≡ None
    go None e = refl
    go (Some o) e = absurd cc

-- one is asked for: its order, with what is known of the account
pub record IsAsked (h : History) (target : List ℕ) (ask : DrawAsk) : Type 0 where
  pub order : Order
  pub asks : draw_in h target ≡ Some order
  pub is : ask ≡ asked_of_account h order

pub some_asked : (h : History) (target : List ℕ) (ask : DrawAsk) → Some ask ≡ draw_asked h target → IsAsked h target ask
some_asked h target ask is = go (draw_in h target) refl is
  where
    go : (o : Option Order) → draw_in h target ≡ o → Some ask ≡ option_map (asked_of_account h) o → IsAsked h target ask
    go None same e = absurd cc
    go (Some o) same e = record { order = o; asks = same; is = cc e }

pub ordered : (h : History) (target : List ℕ) (d : DrawAuthorization) (ask : DrawAsk) → Some ask ≡ draw_asked h target → ask.key ≡ Some d.key → d.amount ≡ ask.amount → IsOrdered h target d
ordered h target d ask is key amount =
    let asked = some_asked h target ask is in
    record {
      order = asked.order;
      asks = asked.asks;
      key = ap (λ (a : DrawAsk). a.key) (sym asked.is) ∙ key;
      amount = ap (λ (a : DrawAsk). a.amount) (sym asked.is) ∙ sym amount;
    }

-- what the column of draws gives is the answer
pub draws_answer : (keep : ℕ) (h : History) (t : ℕ) (limits : Limits) (q : Asked) (ask : DrawAsk) (r : Result Entry Stop) → Some ask ≡ draw_asked h q.target
    → ((o : Order) → ask ≡ asked_of_account h o → r ≡ draw_lines_within keep h t limits q o) → answered r ≡ answer_within keep h t limits q
draws_answer keep h t limits q ask r is lines =
    let asked = some_asked h q.target ask is in
    ap answered (lines asked.order asked.is) ∙ sym (within_by_draw keep h t limits q asked.order asked.asks)
