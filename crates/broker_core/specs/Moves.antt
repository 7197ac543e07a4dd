-- The issuers of vendors that were moved to the second version of scrip.
use Rattle.std.specs.Prelude.{◌≡◌, ℕ, ◌<◌, ◌==◌, ◌&&◌, Bool, IsFalse, bytes_eq, if◌then◌else◌, List, Option, Some, None, option_map, unwrap_or, filter_map}
use Rattle.mc_records.specs.Entry.{Entry, Upgrade}
use Rattle.ledger_model.specs.declared.upgraded.Upgraded.{Upgraded}
use Rattle.ledger_model.specs.Histories.{History}
use Rattle.ledger_model.specs.Houses.{site_name, upgrades_of, raises}
use Rattle.ledger_model.specs.Stock.{licence_in}
use Rattle.house_state.specs.Learning.{MayRaise}
use Rattle.broker_core.specs.declared.moves.Moved.{Moved}

-- those of all vendors, in the order of entry, and for how many more there is room
pub record MovesView : Type 0 where
  pub moved : List Moved
  pub room : ℕ

-- what an entry moves
abbrev pub moved_of : Entry → Option Moved
moved_of (Upgrade m vendor issuer from) = Some (record { vendor = vendor; upgraded = record { issuer = issuer; from = from } })
moved_of _ = None

-- of what was moved, what is of a vendor
abbrev pub move_of : List ℕ → Moved → Option Upgraded
move_of vendor m = if bytes_eq m.vendor vendor then Some m.upgraded else None

abbrev pub moves_of : List Moved → List ℕ → List Upgraded
moves_of moved vendor = filter_map (move_of vendor) moved

-- whether it is of a vendor and an issuer; and whether it is of a vendor, and raises a series
abbrev pub is_move_of : List ℕ → ℕ → Moved → Bool
is_move_of vendor issuer m = bytes_eq m.vendor vendor && m.upgraded.issuer == issuer

abbrev pub raises_of : List ℕ → ℕ → Moved → Bool
raises_of vendor series m = bytes_eq m.vendor vendor && raises series m.upgraded

-- moves are what a history says of each vendor
abbrev pub MovesRepresent : MovesView → History → Type 0
MovesRepresent s h = (vendor : List ℕ) → moves_of s.moved vendor ≡ upgrades_of h vendor

-- there is room for what an entry moves
abbrev pub MovesHaveRoom : MovesView → Entry → Type 0
MovesHaveRoom s (Upgrade m vendor issuer from) = 0 < s.room
MovesHaveRoom s _ = Unit {0}

-- what has to hold of an Upgrade of an issuer that is not the broker's own, for it to come next
abbrev pub MovesAllow : History → Entry → Type 0
MovesAllow h (Upgrade m vendor issuer from) = IsFalse (issuer == 0) → MayRaise h m vendor issuer from
MovesAllow h _ = Unit {0}

-- The issuer that is moved by the name of a vendor: by the broker's own name its own, 0, also where it has a licence of
-- that name; else that of the vendor's licence. Without a licence there is none to move, and any above 0 says so.
abbrev pub moved_issuer : History → List ℕ → ℕ
moved_issuer h vendor = if bytes_eq vendor (site_name h) then 0 else unwrap_or (option_map (λ t. t.issuer) (licence_in h vendor)) 1
