-- What a house of a world says to the items of a link.
use Rattle.std.specs.Prelude.{◌≡◌, ℕ, List, ◌++◌}
use Rattle.mc_requests.specs.declared.limits.Limits.{Limits}
use Rattle.millicent_http.specs.Items.{Item, Heads}
use Rattle.millicent_http.specs.Steps.{sent_of, state_after}
use Rattle.house_core.specs.Session.{State}
use Rattle.world_model.specs.Deliveries.{did, did_all}

-- an item was answered: its reply was appended
pub record IsDid (limits : Limits) (s : State) (reading : ℕ) (item : Item) (written more : List ℕ) (t : State) : Type 0 where
  pub wrote : more ≡ written ++ (did limits s reading item).sent
  pub after : t ≡ (did limits s reading item).after

-- a link was delivered
pub record IsDelivered (limits : Limits) (s : State) (reading : ℕ) (link written more : List ℕ) (t : State) : Type 0 where
  pub items : List Item
  pub heads : Heads link items
  pub wrote : more ≡ written ++ sent_of (did_all limits s reading items)
  pub after : t ≡ state_after s (did_all limits s reading items)
