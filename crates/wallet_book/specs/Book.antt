-- What a wallet keeps in place of its book.
use Rattle.std.specs.Prelude.{◌≡◌, ℕ, ◌+◌, ◌≤◌, Bool, true, false, List, [], ◌∷◌, ◌++◌, length, option_to_list}
use Rattle.mc_requests.specs.declared.limits.Limits.{Limits}
use Rattle.mc_records.specs.Entry.{Entry, Site, Got, Pend, Done}
use Rattle.mc_records.specs.Chains.{has_switch}
use Rattle.mc_records.specs.Sizes.{size}
use Rattle.ledger_model.specs.Histories.{History, time}
use Rattle.ledger_model.specs.Houses.{site_name}
use Rattle.wallet_model.specs.Follows.{WalletFollows, IsWalletBook}
use Rattle.wallet_book.specs.declared.holding.Holding.{Holding}
use Rattle.wallet_book.specs.declared.kept.Kept.{Kept}
use Rattle.wallet_book.specs.Parts.{PartsRepresent}

-- Its name; its time, and that of its last entry; its pieces, in the order in which they came, and its kept requests,
-- in the order of their numbers; how many entries there are, the bytes of their journal, and whether a Switch is among
-- them; its limits; and for how
-- many more pieces and requests there is room.
pub record BookView : Type 0 where
  pub name : List ℕ
  pub time : ℕ
  pub last : ℕ
  pub holdings : List Holding
  pub kept : List Kept
  pub count : ℕ
  pub size : ℕ
  pub switched : Bool
  pub limits : Limits
  pub room : ℕ
  pub kept_room : ℕ

-- Each part is what the definitions say of the history.
pub record WalletRepresents (b : BookView) (h : History) : Type 0 where
  pub lawful : IsWalletBook h
  pub name : site_name h ≡ b.name
  pub last : time h ≡ b.last
  pub in_time : time h ≤ b.time
  pub parts : PartsRepresent b.holdings b.kept h
  pub counted : length h ≡ b.count
  pub sized : size h ≡ b.size
  pub switched : has_switch h ≡ b.switched

-- the same, perhaps with other room
abbrev pub IsSameBook : BookView → BookView → Type 0
IsSameBook old new = new ≡ record old { room = new.room; kept_room = new.kept_room }

-- ---- the first entry

-- the entry that founds a wallet
abbrev pub FoundsWallet : Entry → Type 0
FoundsWallet (Site m kind name house) = kind ≡ 2
FoundsWallet _ = ⊥

-- ---- the other entries

-- how many pieces an entry brings at most
abbrev pub brought_count : Entry → ℕ
brought_count (Got m pieces) = length pieces
brought_count (Done m n price change got) = length (option_to_list change) + length (option_to_list got)
brought_count _ = 0

-- how many requests it makes
abbrev pub asked_count : Entry → ℕ
asked_count (Pend m ask peer target scrip secret) = 1
asked_count _ = 0

-- there is room for what an entry brings
pub record HasRoom (b : BookView) (e : Entry) : Type 0 where
  pub pieces : brought_count e ≤ b.room
  pub requests : asked_count e ≤ b.kept_room

-- The entry may follow the history, and what is kept then is that of the history with it; or it may not.
abbrev pub Learns : BookView → History → Entry → Bool → Type 0
Learns b h e true = WalletFollows h e × WalletRepresents b (h ++ e ∷ [])
Learns b h e false = WalletFollows h e → ⊥
