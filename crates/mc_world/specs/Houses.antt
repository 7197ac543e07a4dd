-- A house of a world between two links, and what an operator's entry comes to.
use Rattle.std.specs.Prelude.{◌≡◌, ◌⊎◌, ◌≤◌, ℕ, Bool, true, false, max, List, [], ◌∷◌, ◌++◌, Ok}
use Rattle.mc_requests.specs.declared.limits.Limits.{Limits}
use Rattle.mc_records.specs.Entry.{Entry, Fits, payload, moment_of}
use Rattle.ledger_model.specs.Histories.{History, time}
use Rattle.ledger_model.specs.Answer.{fitted}
use Rattle.ledger_model.specs.Lawful.{MayFollow}
use Rattle.house_state.specs.CommandEntries.{IsCommand}
use Rattle.house_state.specs.Learning.{Test, MayEnter}
use Rattle.house_core.specs.Session.{State}
use Rattle.world_model.specs.Worlds.{HasBytes}
use Rattle.world_model.specs.Agreement.{IsHouseBook}

-- its history is one that a journal can hold, and its time is not below the history's
pub record IsHouseAt (limits : Limits) (s : State) : Type 0 where
  pub book : IsHouseBook limits s.history
  pub in_time : time s.history ≤ s.time

-- an operator may enter this entry, of these bytes
pub record MayBeEntered (limits : Limits) (s : State) (bytes : List ℕ) (e : Entry) : Type 0 where
  pub fits : Fits e
  pub secrets : HasBytes e
  pub spelled : bytes ≡ payload e
  pub command : IsCommand e
  pub follows : MayFollow limits s.history e
  pub room : fitted s.history limits e ≡ Ok e

pub record HasEntered (limits : Limits) (s : State) (bytes : List ℕ) (t : State) : Type 0 where
  pub e : Entry
  pub may : MayBeEntered limits s bytes e
  pub after : t ≡ record { history = s.history ++ e ∷ []; time = max s.time (moment_of e) }

-- it was entered; or none may be, and the house stays
abbrev pub EntersBy : Limits → State → List ℕ → State → Type 0
EntersBy limits s bytes t = HasEntered limits s bytes t ⊎ (((e : Entry) → MayBeEntered limits s bytes e → ⊥) × (t ≡ s))

-- an entry that may follow, passes the trade's own test and fits was entered; or it may not be, and the history stays
abbrev pub EntersOr : Test → Limits → History → Entry → History → Bool → Type 0
EntersOr passes limits h e g true = MayEnter passes limits h e × (fitted h limits e ≡ Ok e) × (g ≡ h ++ e ∷ [])
EntersOr passes limits h e g false = (MayEnter passes limits h e → fitted h limits e ≡ Ok e → ⊥) × (g ≡ h)

-- of one entry: it was entered, or it may not be, and the house stays
abbrev pub EntersAs : Limits → State → Entry → State → Type 0
EntersAs limits s e t =
    (MayFollow limits s.history e × (fitted s.history limits e ≡ Ok e) × (t ≡ record { history = s.history ++ e ∷ []; time = max s.time (moment_of e) }))
    ⊎ ((MayFollow limits s.history e → fitted s.history limits e ≡ Ok e → ⊥) × (t ≡ s))
