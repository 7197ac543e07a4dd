-- The next pieces of the house's own series.
use Rattle.std.proofs.Common.{◌≡◌, ℕ, ◌+◌, ◌<◌, ◌≤◌, Result, Ok, Err}
use Rattle.std.specs.Prelude.{MatchResult}
use Rattle.mc_requests.specs.declared.refusal.Refusal.{Refusal}
use Rattle.mc_requests.specs.declared.refusal.Refusal.TheVariants.{SeriesFull}
use Rattle.change_issue.specs.Registers.{count_in, next_in}
use Rattle.ledger_model.specs.Histories.{History}
use Rattle.house_state.specs.HouseState.{HouseStateView, series_now}
use Rattle.house_core.specs.House.{HasRun}
use Rattle.house_state.specs.Representation.{StateRepresents}
use Rattle.house_state.proofs.Tabled.{series_stands}

pub run_stands : {b : HouseStateView} {h : History} → StateRepresents b h → (count : ℕ) (r : Result ℕ Refusal)
    → MatchResult r (λ id. (id ≡ next_in b.own (series_now b)) × (count_in b.own (series_now b) + count ≤ b.own.most)) (λ f. (f ≡ SeriesFull (series_now b)) × (b.own.most < count_in b.own (series_now b) + count))
    → HasRun h b.time b.limits count r
run_stands {b = b} {h = h} st count (Ok id) m = rw (series_stands st b.time, st.issued (series_now b), ← st.most) m
run_stands {b = b} {h = h} st count (Err f) m = rw (series_stands st b.time, st.issued (series_now b), ← st.most) m
