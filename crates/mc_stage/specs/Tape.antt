-- What a tape shows, and what it keeps true.
use Rattle.std.specs.Prelude.{◌≡◌, ℕ, List, [], ◌∷◌, ◌++◌, map, Bool}
use Rattle.mc_stage.specs.Model.{Entry, Put, Cut, Sync, Take, Hear, End, Send, Model, run, start, last_to_end}
use Rattle.mc_outside.specs.LinkView.{Session}
use Rattle.mc_stage.specs.declared.tape.Event.{Event}
use Rattle.mc_stage.specs.declared.tape.Event.TheVariants as E

abbrev pub entry_of : Event → Entry
entry_of (E.Put place bytes) = Put place bytes.items
entry_of (E.Cut size) = Cut size
entry_of E.Sync = Sync
entry_of E.Take = Take
entry_of (E.Hear bytes) = Hear bytes.items
entry_of E.End = End
entry_of (E.Send bytes) = Send bytes.items

-- the contents at first, and the calls since
pub record Played : Type 0 where
  pub first : List ℕ
  pub calls : List Entry

-- the bytes sent on each link
abbrev pub sent_of : List Session → List (List ℕ)
sent_of ss = map (λ s. s.sent) ss

abbrev pub played : Played → Model
played p = run p.calls (start p.first)

-- the bytes kept are those that the calls come to
pub record IsPlayed (p : Played) (now last : List ℕ) (of_each : List Bool) (on_each : List (List ℕ)) (at_last : Bool) : Type 0 where
  pub contents : now ≡ (played p).contents
  pub synced : last ≡ (played p).synced
  pub marks : of_each ≡ (played p).marks
  pub sent : on_each ≡ sent_of (played p).sessions
  pub at_end : at_last ≡ last_to_end (played p).sessions

-- one call more
abbrev pub push_call : Entry → Played → Played
push_call e p = record p { calls = p.calls ++ e ∷ [] }
