-- How the one link of a shop went, from how links go by a clock.
use Rattle.std.proofs.Common.{◌≡◌, ℕ, zero, suc, ◌<◌, List, Result, Ok, Err, subst, arith}
use Rattle.std.specs.Prelude.{OnOk}
use Rattle.mc_outside.specs.LinkView.{LinkView}
use Rattle.mc_requests.specs.declared.limits.Limits.{Limits}
use Rattle.millicent_http.specs.declared.clock.Clock.TheVariants.{At}
use Rattle.millicent_http.specs.Steps.{Did}
use Rattle.millicent_http.specs.Courses.{HadLinks, NoLink, ServedSome}
use Rattle.house_serving.specs.declared.serving.BenchEnd.{BenchEnd}
use Rattle.ledger_model.specs.Histories.{History}
use Rattle.house_serving.specs.declared.serving.BenchEnd.TheVariants as ends
use Rattle.house_core.specs.Session.{State, Step}
use Rattle.house_serving.specs.Served.{Served}
use Rattle.site_words.specs.Words.{Shop}
use Rattle.operator_command.specs.Operations.{full}
use Rattle.vendor_commands.specs.Opening.{opened}
use Rattle.vendor_commands.specs.Course.{EndsOnce}

-- the state of a history at a time
abbrev pub state_at : History → ℕ → State
state_at h time = record { history = h; time = time }

-- what holds at some limits, a moment of the clock and a house time, holds at those of a shop
pub at_opening : (P : Limits → ℕ → State → Type 0) (h : History) (limits : Limits) (moment time : ℕ)
    → limits ≡ full → moment ≡ 0 → time ≡ 0 → P limits moment (state_at h time) → P full 0 (state_at h 0)
at_opening P h limits moment time l m t is =
    subst (λ (x : ℕ). P full 0 (state_at h x)) t (subst (λ (x : ℕ). P full x (state_at h time)) m (subst (λ (x : Limits). P x moment (state_at h time)) l is))

-- where one link was asked for and not all were taken, none was
pub none_taken : (steps : List (Did State)) (s : State) (before after : LinkView) → ServedSome (Step full) (At 0) 1 steps s before after → NoLink before after
none_taken steps s before after is = none is.n is.few is.between is.links_had is.fault
  where
    none : (n : ℕ) → n < 1 → (between : LinkView) → HadLinks (Step full) (At 0) n steps s before between → NoLink between after → NoLink before after
    none zero few between had fault = subst (λ (v : LinkView). NoLink v after) had.1 fault
    none (suc n) few between had fault = absurd (omega (arith, few))

-- where serving ended early, memory was refused before the link, or no link could be taken
pub ended_early : (end : BenchEnd) (shop : Shop) (steps : List (Did State)) (before after : LinkView) → Served (Step full) (At 0) 1 (Err end) steps (opened shop) before after → EndsOnce (Err end) shop before after
ended_early ends.NoMemory shop steps before after is = is.1
ended_early ends.Link shop steps before after is = none_taken steps (opened shop) before after is

-- what follows from what an `Ok` says
pub on_ok : {A E P Q : Type 0} → (P → Q) → (r : Result A E) → OnOk r P → OnOk r Q
on_ok f (Ok a) p = f p
on_ok f (Err e) p = p
