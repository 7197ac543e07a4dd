-- Which books of wallets are lawful.
use Rattle.std.specs.Prelude.{◌≡◌, ℕ, zero, suc, ◌≤◌, ◌==◌, ◌&&◌, Bool, true, false, not, IsTrue, List, [], ◌∷◌, ◌++◌, map, length, take, slice_get, MatchOption, Option, Some, None, option_map, option_to_list, unwrap_or, bytes_eq}
use Rattle.mc_requests.specs.Errands.{Errand, buy, draw, errand_of}
use Rattle.mc_records.specs.Entry.{Held, Entry, Site, Got, Pend, Done, Refused, Switch, Note, moment_of}
use Rattle.mc_records.specs.Chains.{chain, has_switch}
use Rattle.mc_records.specs.Following.{AllFollowBy}
use Rattle.ledger_model.specs.Histories.{History, time}
use Rattle.ledger_model.specs.Houses.{site_kind}
use Rattle.ledger_model.specs.Pieces.{piece_of}
use Rattle.wallet_model.specs.Requests.{is_kept}
use Rattle.wallet_model.specs.Holdings.{texts_came, has_held}
use Rattle.wallet_model.specs.Newness.{are_new}

-- whether the site is a wallet
abbrev pub is_wallet : History → Bool
is_wallet h = unwrap_or (option_map (λ kind. kind == 2) (site_kind h)) false

-- whether the piece of a text is a vendor's
abbrev pub is_of_vendor : List ℕ → List ℕ → Bool
is_of_vendor vendor text = unwrap_or (option_map (λ p. bytes_eq p.vendor vendor) (piece_of text)) false

abbrev pub is_buy : Option Errand → Bool
is_buy (Some (buy vendor amount)) = true
is_buy _ = false

abbrev pub is_draw : Option Errand → Bool
is_draw (Some (draw account order amount)) = true
is_draw _ = false

-- A get and a buy pay with a held piece of their peer, and a buy's target is that of a sale; a draw pays with none, and
-- its target is that of a draw.
abbrev pub asks_rightly : History → ℕ → List ℕ → List ℕ → Option (List ℕ) → Bool
asks_rightly h zero peer target (Some scrip) = has_held h scrip && is_of_vendor peer scrip
asks_rightly h (suc zero) peer target (Some scrip) = has_held h scrip && (is_of_vendor peer scrip && is_buy (errand_of target))
asks_rightly h (suc (suc ask)) peer target None = is_draw (errand_of target)
asks_rightly h _ peer target _ = false

-- the texts of the pieces that a settlement brings
abbrev pub settled_texts : Option (List ℕ) → Option Held → List (List ℕ)
settled_texts change got = option_to_list change ++ option_to_list (option_map (λ p. p.text) got)

-- What each kind of entry of a wallet asks of the entries before it: pieces that come are new, by vendor and identity,
-- and what is settled is kept. One Switch at most stands, and tells the chain of the entries before it. Other kinds are
-- a house's.
abbrev pub entry_allowed : History → Entry → Bool
entry_allowed h (Got m pieces) = are_new (texts_came h) (map (λ p. p.text) pieces)
entry_allowed h (Pend m ask peer target scrip secret) = asks_rightly h ask peer target scrip
entry_allowed h (Done m n price change got) = is_kept h n && are_new (texts_came h) (settled_texts change got)
entry_allowed h (Refused m n refusal) = is_kept h n
entry_allowed h (Switch m c) = not (has_switch h) && bytes_eq c (chain h)
entry_allowed h (Note m tag bytes) = true
entry_allowed h _ = false

-- The Site entry of a wallet is the first of its book; its other entries stand in no other book.
abbrev pub wallet_allows : History → Entry → Bool
wallet_allows h (Site m kind name house) = length h == 0 && kind == 2
wallet_allows h e = is_wallet h && entry_allowed h e

-- ---- books

-- an entry may follow a wallet's book: its moment is not below any before it, and its kind allows it
pub record WalletFollows (h : History) (e : Entry) : Type 0 where
  pub in_order : time h ≤ moment_of e
  pub allowed : IsTrue (wallet_allows h e)

-- A wallet's book is lawful where it has a first entry, which can only be the Site entry of a wallet, and each entry
-- may follow those before it.
abbrev pub IsWalletBook : History → Type 0
IsWalletBook [] = ⊥
IsWalletBook (e ∷ es) = AllFollowBy WalletFollows [] (e ∷ es)

-- the number of the first entry of an unlawful book that may not follow those before it; 0 where it has none
pub record IsFirstAgainst (h : History) (n : ℕ) : Type 0 where
  pub before : AllFollowBy WalletFollows [] (take n h)
  pub breaks : MatchOption (slice_get h n) ((h ≡ []) × (n ≡ 0)) (λ e. WalletFollows (take n h) e → ⊥)
