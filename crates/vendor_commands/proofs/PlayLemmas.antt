-- The lines of a play, from the links that were served.
use Rattle.std.proofs.Common.{◌≡◌, ℕ, List, Ok, sym, ap, ap₂, ◌∙◌, subst}
use Rattle.std.specs.Prelude.{◌==◌, map}
use Rattle.std.specs.Set.{distinct_count}
use Rattle.mc_outside.specs.LinkView.{LinkView}
use Rattle.mc_requests.specs.declared.limits.Limits.{Limits}
use Rattle.ledger_model.specs.Histories.{History}
use Rattle.millicent_http.specs.declared.clock.Clock.TheVariants.{OfLinks}
use Rattle.millicent_http.specs.Steps.{Did, state_after}
use Rattle.millicent_http.specs.Runs.{IsRunOver}
use Rattle.millicent_http.proofs.RunLemmas.{served_all}
use Rattle.house_core.specs.BenchView.{BenchView}
use Rattle.house_core.specs.declared.tally.Tally.{Tally}
use Rattle.house_core.specs.Session.{State}
use Rattle.house_core.specs.Tallies.{Repeated, ToldState, ToldStep, no_tally, tallied, told_by}
use Rattle.house_state.specs.LiveWindows.{AreUsed, live_windows}
use Rattle.house_core.specs.Bench.{Represents, house_time, limits_of, tally_of, windows_of}
use Rattle.house_serving.specs.Served.{Served}
use Rattle.house_serving.specs.Counting.{Counts, told_state}
use Rattle.play_heads.specs.PlayHeads.{play_links}
use Rattle.play_heads.specs.Receiving.{IsPlay, HasPlayed, readings_of}
use Rattle.play_heads.specs.Telling.{no_links}
use Rattle.vendor_core.specs.declared.shelf.Shelf.{Shelf}
use Rattle.vendor_core.specs.Shelf.{shelf_view}
use Rattle.operator_command.specs.Operations.{full}
use Rattle.vendor_commands.specs.Opening.{IsOpen}
use Rattle.vendor_commands.specs.Play.{ArePlayLines, play_opening, play_opened, play_lines, windows_in}

-- the run over the links of the play, from the opening of its house on
run_of_play : (count links n : ℕ) (limits : Limits) (steps : List (Did ToldState)) (s : ToldState) (v w : LinkView) → limits ≡ full → s ≡ play_opened → v ≡ no_links
    → Served (ToldStep limits) OfLinks links (Ok n) steps s v w → (is : IsPlay count w) → HasPlayed count w → IsRunOver (ToldStep full) (play_links count) (readings_of is.reads) play_opened steps
run_of_play count links n limits steps s v w of_full opened empty served is played =
    let run : IsRunOver (ToldStep limits) (map (λ x. x.received) played.links) (readings_of is.reads) s steps =
    served_all (ToldStep limits) links n steps s v w (ap (λ (u : LinkView). u.sessions) empty) (ap (λ (u : LinkView). u.readings) empty) served is.faultless
    played.links (readings_of is.reads) played.told is.clock in
    subst (λ (l : Limits). IsRunOver (ToldStep l) (play_links count) (readings_of is.reads) play_opened steps) of_full
    (subst (λ (t : ToldState). IsRunOver (ToldStep limits) (play_links count) (readings_of is.reads) t steps) opened
    (subst (λ (l : List (List ℕ)). IsRunOver (ToldStep limits) l (readings_of is.reads) s steps) played.all run))

pub lines_of_play : (count links n windows : ℕ) (lines : List ℕ) (a b : BenchView Shelf) (v w : LinkView) → IsOpen a play_opening
    → Counts shelf_view (λ steps s. Served (ToldStep (limits_of a)) OfLinks links (Ok n) steps s v w) a b
    → (AreUsed (windows_of a) → AreUsed (windows_of b)) → v ≡ no_links → IsPlay count w → HasPlayed count w
    → ((h : History) → Represents shelf_view b h → AreUsed (windows_of b) → windows ≡ distinct_count (λ x y. x == y) (live_windows h (house_time b)))
    → (tally_of b).memory ≡ 0 → lines ≡ play_lines count (tally_of b) windows → ArePlayLines count lines
lines_of_play count links n windows lines a b v w is_open counts used empty is played windows_are memory said =
    let came = counts play_opening Repeated is_open.house in
    let s : ToldState = told_state Repeated play_opening a in
    let opened : s ≡ play_opened = ap (λ (t : ℕ). record { state = record { history = play_opening; time = t }; told_last = Repeated }) is_open.time in
    let tally : tally_of b ≡ tallied no_tally (told_by came.steps) = came.tally is_open.within ∙ ap (λ (t : Tally). tallied t (told_by came.steps)) is_open.tally in
    let state : State = (state_after play_opened came.steps).state in
    let last : windows ≡ windows_in state =
    windows_are came.history came.house.represents (used is_open.used) ∙ ap windows_in (sym came.state ∙ ap (λ (t : ToldState). (state_after t came.steps).state) opened) in
    record {
      reads = is.reads;
      steps = came.steps;
      run = run_of_play count links n (limits_of a) came.steps s v w is_open.limits opened empty came.did is played;
      memory = ap (λ (t : Tally). t.memory) (sym tally) ∙ memory;
      said = said ∙ ap₂ (λ (t : Tally) (m : ℕ). play_lines count t m) tally last;
    }
