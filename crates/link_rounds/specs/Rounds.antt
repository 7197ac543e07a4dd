-- What a crash leaves of whoever works by rounds over a journal: a round adds its entries all together.
use Rattle.std.specs.Prelude.{◌≡◌, ◌⊎◌, ℕ, List, [], ◌∷◌, ◌++◌}
use Rattle.mc_outside.specs.Bytes.{BeginsWith, Rose}
use Rattle.mc_outside.specs.DiskView.{DiskView, Ran}
use Rattle.mc_records.specs.Entry.{Entry}
use Rattle.ledger_model.specs.Histories.{History}
use Rattle.scrip_journal.specs.Layout.{Encodes}
use Rattle.millicent_http.specs.Steps.{Did, sent_of, state_after}

-- the steps of some rounds, joined
abbrev pub steps_of : {S : Type 0} → List (List (Did S)) → List (Did S)
steps_of [] = []
steps_of (ds ∷ rounds) = ds ++ steps_of rounds

-- A crash pair is in order by rounds: after some first of the rounds, each of them whole, the image encodes the history.
-- Where what was sent is told, by then no more was sent than the steps of those rounds sent. So of a round's replies no byte
-- was sent before all of its entries were there.
pub record InRounds {S : Type 0} (history : S → History) (tells : Type 0) (s : S) (before : List ℕ) (rounds : List (List (Did S))) (image sent : List ℕ) : Type 0 where
  pub done : List (List (Did S))
  pub rest : List (List (Did S))
  pub split : rounds ≡ done ++ rest
  pub stands : Encodes (history (state_after s (steps_of done))) image
  pub began : tells → BeginsWith before sent
  pub part : tells → BeginsWith sent (before ++ sent_of (steps_of done))

-- From one moment of the outside to another these rounds were done, and each crash pair is in order. Where what was sent
-- is told, it is what their steps sent, in their order.
pub record MovedByRounds {S : Type 0} (history : S → History) (tells : Type 0) (a b : DiskView) (s : S) (rounds : List (List (Did S))) : Type 0 where
  pub aside : tells → b.aside ≡ a.aside ++ sent_of (steps_of rounds)
  pub ran : Ran a b (InRounds history tells s a.aside rounds)

-- ---- where the disk fails

-- an image encodes the history with all of these entries or with none of them
abbrev pub IsAllOrNone : History → List Entry → List ℕ → Type 0
IsAllOrNone h es image = Encodes h image ⊎ Encodes (h ++ es) image

-- From this history on, after a round's items were answered in memory, the disk failed while their entries were committed,
-- all of which are in doubt; and so much of the refusals that tell so was sent. No reply of the round was.
pub record RoundHalts {O : Type 0} (disk : O → DiskView) (tells : Type 0) (a : O) (h : History) (es : List Entry) (said : List ℕ) (d : O) : Type 0 where
  pub rose : Rose (disk a).faults (disk d).faults
  pub since : Ran (disk a) (disk d) (λ image sent. IsAllOrNone h es image × ((tells → BeginsWith (disk a).aside sent) × (tells → BeginsWith sent ((disk a).aside ++ said))))
  pub leaves : (image : List ℕ) → (disk d).leaves image → IsAllOrNone h es image
  pub aside : tells → (disk d).aside ≡ (disk a).aside ++ said
