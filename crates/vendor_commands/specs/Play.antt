-- What `vendor play` does: a house in memory answers the heads of a play, and what it counted is said.
use Rattle.std.specs.Prelude.{◌≡◌, ◌==◌, ℕ, true, List, [], ◌∷◌, ◌++◌, codes, decimal, replicate, Some}
use Rattle.std.specs.Set.{distinct_count}
use Rattle.scrip_form.specs.Issuing.{Issuing}
use Rattle.mc_records.specs.Entry.{Entry, Site, AddTerms, Goods}
use Rattle.ledger_model.specs.Histories.{History}
use Rattle.millicent_http.specs.Steps.{Did, state_after}
use Rattle.millicent_http.specs.Runs.{IsRunOver}
use Rattle.house_core.specs.Session.{State}
use Rattle.house_state.specs.LiveWindows.{live_windows}
use Rattle.house_core.specs.declared.tally.Tally.{Tally}
use Rattle.house_core.specs.Tallies.{Repeated, ToldState, ToldStep, no_tally, tallied, told_by}
use Rattle.play_heads.specs.PlayHeads.{issuer_terms, play_links}
use Rattle.play_heads.specs.Receiving.{readings_of}
use Rattle.operator_command.specs.Operations.{full}
use Rattle.vendor_commands.specs.declared.play.TheConstants.{KEEP, PERIOD}

-- ---- the house

-- the terms of the house itself, like those of issuer 1, with other secrets
abbrev pub house_terms : Issuing
house_terms = record {
  issuer = 0;
  period = PERIOD;
  life = 0;
  scrip = replicate 16 1 ∷ [];
  customer = replicate 16 2 ∷ [];
}

-- it is founded with the clear flag and a keeping time of 60 seconds
abbrev pub play_founding : Entry
play_founding = Site 0 0 (codes "play.example") (Some (record { keep = KEEP; fee = 0; clear = true; terms = house_terms }))

-- it takes the scrip of issuer 1
abbrev pub play_licence : Entry
play_licence = AddTerms 0 issuer_terms

-- and sells one thing
abbrev pub play_goods : Entry
play_goods = Goods 0 (codes "/p") 25 0 (codes "ok")

abbrev pub play_opening : History
play_opening = play_founding ∷ play_licence ∷ play_goods ∷ []

-- the state that it begins with, in which nothing was told; what stands there for it does not matter
abbrev pub play_opened : ToldState
play_opened = record { state = record { history = play_opening; time = 0 }; told_last = Repeated }

-- ---- the lines

-- words and a number
abbrev pub play_line : List ℕ → ℕ → List ℕ
play_line words n = words ++ codes " " ++ decimal n ++ codes "\n"

abbrev pub play_lines : ℕ → Tally → ℕ → List ℕ
play_lines count t windows =
    play_line (codes "played") count ++ play_line (codes "accepted") t.taken ++ play_line (codes "again") t.again
    ++ play_line (codes "refused 26") t.expired ++ play_line (codes "refused 27") t.spent ++ play_line (codes "refused 31") t.little
    ++ play_line (codes "takings") t.takings ++ play_line (codes "change") t.change ++ play_line (codes "windows") windows

-- ---- the run

-- how many windows hold an accepted identity whose series has not ended at the house time, which is the last reading
abbrev pub windows_in : State → ℕ
windows_in s = distinct_count (λ a b. a == b) (live_windows s.history s.time)

-- These lines are said of a play of so many heads: they are those of the run over the links of the play, whose
-- clock gives 0, 1, 2 and so on, in which memory was refused for no request.
pub record ArePlayLines (count : ℕ) (lines : List ℕ) : Type 0 where
  pub reads : ℕ
  pub steps : List (Did ToldState)
  pub run : IsRunOver (ToldStep full) (play_links count) (readings_of reads) play_opened steps
  pub memory : (tallied no_tally (told_by steps)).memory ≡ 0
  pub said : lines ≡ play_lines count (tallied no_tally (told_by steps)) (windows_in (state_after play_opened steps).state)
