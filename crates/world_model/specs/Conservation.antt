-- That books stay lawful and balanced, after every schedule.
use Rattle.std.specs.Prelude.{◌≡◌, ℕ, ◌+◌, ◌≤◌, IsTrue, not, ◌&&◌, nat_lt, nat_le, List, [], ◌∷◌, ◌++◌, filter, Some, slice_get, bytes_eq}
use Rattle.std.specs.List.{list_any, AllByRecursion}
use Rattle.mc_requests.specs.declared.limits.Limits.{Limits}
use Rattle.scrip_form.specs.Scrip.{Scrip}
use Rattle.mc_records.specs.Entry.{Entry, Note, Switch}
use Rattle.ledger_model.specs.declared.numbers.TheConstants.{VENDOR_KIND, BROKER_KIND}
use Rattle.ledger_model.specs.Histories.{History, time}
use Rattle.ledger_model.specs.Houses.{site_kind, site_name}
use Rattle.ledger_model.specs.Laws.{AreDistinct}
use Rattle.ledger_model.specs.Accounts.{all_balances}
use Rattle.ledger_model.specs.Pieces.{accepted, own_out, is_spent}
use Rattle.ledger_model.specs.Sums.{paid_in, paid_out, takings, fees, values, outstanding, lapsed}
use Rattle.ledger_model.specs.Stock.{sales}
use Rattle.house_core.specs.Session.{State}
use Rattle.audit_model.specs.Books.{HaveOwnNames, IsHandedOut, IsBalanced}
use Rattle.world_model.specs.Worlds.{World}
use Rattle.world_model.specs.Agreement.{IsHouseBook, IsBookOfWallet}

-- a house at a point of a schedule: its history is as one of a setup, lawful and small enough for its journal, it accepts
-- no identity twice, and its house time is not below its history's
pub record IsLawfulHouse (limits : Limits) (s : State) : Type 0 where
  pub book : IsHouseBook limits s.history
  pub once : AreDistinct (accepted s.history)
  pub in_time : time s.history ≤ s.time

pub record AreLawful (limits : Limits) (v : World) : Type 0 where
  pub houses : AllByRecursion (IsLawfulHouse limits) v.houses
  pub wallets : AllByRecursion IsBookOfWallet v.wallets

-- this history is that of a house
pub record IsOfHouse (v : World) (h : History) : Type 0 where
  pub i : ℕ
  pub s : State
  pub house : slice_get v.houses i ≡ Some s
  pub is : s.history ≡ h

-- one broker and vendors among the houses: the names of the vendors differ, and each vendor of which the broker sold is
-- among them
pub record AreChosen (v : World) (b : History) (vs : List History) : Type 0 where
  pub houses : AllByRecursion (IsOfHouse v) (b ∷ vs)
  pub broker : site_kind b ≡ Some BROKER_KIND
  pub vendors : AllByRecursion (λ h. site_kind h ≡ Some VENDOR_KIND) vs
  pub names : HaveOwnNames vs
  pub sold_for : AllByRecursion (λ s. IsTrue (list_any (λ h. bytes_eq s.vendor (site_name h)) vs)) (sales b)

-- each choice of one broker and vendors of which all was handed out is balanced
abbrev pub AllBalanced : World → Type 0
AllBalanced v = (b : History) (vs : List History) → AreChosen v b vs → IsHandedOut b vs → IsBalanced b vs

-- ---- expiry

-- of some pieces, what a history has outstanding, and what has lapsed, as of a time
abbrev pub outstanding_at : List Scrip → History → ℕ → ℕ
outstanding_at handed h t = values (filter (λ p. not (is_spent h p.id) && nat_lt t p.expires) handed)

abbrev pub lapsed_at : List Scrip → History → ℕ → ℕ
lapsed_at handed h t = values (filter (λ p. not (is_spent h p.id) && nat_le p.expires t) handed)

-- Where the recorded time grows by an entry, of any pieces, what leaves outstanding by that enters lapsed.
abbrev pub ExpiryMoves : Type 0
ExpiryMoves = (h : History) (e : Entry) (handed : List Scrip)
    → (lapsed_at handed (h ++ e ∷ []) (time h) ≤ lapsed handed (h ++ e ∷ []))
    × (outstanding handed (h ++ e ∷ []) + lapsed handed (h ++ e ∷ [])
    ≡ outstanding_at handed (h ++ e ∷ []) (time h) + lapsed_at handed (h ++ e ∷ []) (time h))

-- an entry of a house that moves no money and no piece: a Note, or a Switch
abbrev pub OnlyTells : Entry → Type 0
OnlyTells (Note m tag bytes) = Unit {0}
OnlyTells (Switch m chain) = Unit {0}
OnlyTells _ = ⊥

-- two histories have the same money, and the same pieces handed out, sold and accepted
pub record HaveTheSame (h g : History) : Type 0 where
  pub paid_in : paid_in g ≡ paid_in h
  pub paid_out : paid_out g ≡ paid_out h
  pub accounts : all_balances g ≡ all_balances h
  pub fees : fees g ≡ fees h
  pub takings : takings g ≡ takings h
  pub accepted : accepted g ≡ accepted h
  pub sales : sales g ≡ sales h
  pub handed_out : own_out g ≡ own_out h

-- Where an entry only moves the time, all else is as it was.
abbrev pub TimeMovesAlone : Type 0
TimeMovesAlone = (h : History) (e : Entry) → OnlyTells e → HaveTheSame h (h ++ e ∷ [])
