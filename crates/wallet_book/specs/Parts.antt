-- What a wallet keeps of its pieces and its requests, and what an entry makes of it.
use Rattle.std.specs.Prelude.{◌≡◌, ℕ, zero, suc, ◌≤◌, ◌&&◌, Bool, true, false, if◌then◌else◌, List, [], ◌∷◌, ◌++◌, map, length, slice_get, slice_set, Option, Some, None, bytes_eq}
use Rattle.std.specs.List.{list_any}
use Rattle.scrip_form.specs.Scrip.{IsScripText}
use Rattle.mc_records.specs.Entry.{Held, Entry}
use Rattle.mc_requests.specs.Errands.{errand_of}
use Rattle.ledger_model.specs.Histories.{History}
use Rattle.wallet_model.specs.Requests.{kept_requests}
use Rattle.wallet_model.specs.Holdings as model
use Rattle.wallet_model.specs.Holdings.{held, holdings, is_held}
use Rattle.wallet_model.specs.Newness.{are_new}
use Rattle.wallet_model.specs.Follows.{is_of_vendor, is_buy, is_draw, entry_allowed}
use Rattle.wallet_book.specs.declared.holding.State.{State}
use Rattle.wallet_book.specs.declared.holding.State.TheVariants as states
use Rattle.wallet_book.specs.declared.holding.Holding.{Holding}
use Rattle.wallet_book.specs.declared.kept.Kept.{Kept}
use Rattle.wallet_book.specs.Holdings.{state_of, text_of, texts_of, holding_of}
use Rattle.wallet_book.specs.Kept.{kept_of, ArePlaced}

-- the pieces and the kept requests are those of the history
pub record PartsRepresent (xs : List Holding) (ks : List Kept) (h : History) : Type 0 where
  pub pieces : holdings h ≡ map holding_of xs
  pub kept : kept_requests h ≡ map (kept_of (texts_of xs)) ks
  pub placed : ArePlaced (length xs) ks

-- ---- pieces that come

-- a piece as it comes: held
abbrev pub fresh_of : Held → model.Holding
fresh_of p = record { text = p.text; secret = p.secret; state = held }

abbrev pub held_texts : List Held → List (List ℕ)
held_texts ps = map (λ p. p.text) ps

-- its text is a scrip text
abbrev pub HasText : Held → Type 0
HasText p = IsScripText p.text

-- where each piece is new they stand behind the others, held; else one of them came before, or comes twice
abbrev pub Brings : List Holding → List Holding → List Held → Bool → Type 0
Brings old new ps true = (are_new (texts_of old) (held_texts ps) ≡ true) × (map holding_of new ≡ map holding_of old ++ map fresh_of ps)
Brings old new ps false = are_new (texts_of old) (held_texts ps) ≡ false

-- ---- a piece that pays

-- the holding of a place has this text and is held, and the text is of a piece of a vendor
pub record HeldAt (xs : List Holding) (text vendor : List ℕ) (place : ℕ) : Type 0 where
  pub holding : Holding
  pub here : slice_get xs place ≡ Some holding
  pub text' : text_of holding ≡ text
  pub held' : holding.state ≡ states.Held
  pub vendor' : is_of_vendor vendor text ≡ true

-- there is one exactly where a place is told
abbrev pub FindsHeld : List Holding → List ℕ → List ℕ → Option ℕ → Type 0
FindsHeld xs text vendor None = (list_any (λ x. bytes_eq x.text text && is_held x.state) (map holding_of xs) && is_of_vendor vendor text) ≡ false
FindsHeld xs text vendor (Some place) = HeldAt xs text vendor place

-- whether a holding that may be there is held and has this text
abbrev pub is_held_text : List ℕ → Option Holding → Bool
is_held_text text None = false
is_held_text text (Some x) = bytes_eq (text_of x) text && is_held (state_of x.state)

-- a place, where the piece that stands there is held and has this text
abbrev pub if_held : List Holding → Option ℕ → List ℕ → Option ℕ
if_held xs None text = None
if_held xs (Some place) text = if is_held_text text (slice_get xs place) then Some place else None

-- the piece of a place in another state
abbrev pub put_in : List Holding → ℕ → State → Option Holding → List Holding
put_in xs place s None = xs
put_in xs place s (Some x) = slice_set xs place (record x { state = s })

-- likewise of a place that may be there
abbrev pub in_state_at : List Holding → Option ℕ → State → List Holding
in_state_at xs None s = xs
in_state_at xs (Some place) s = put_in xs place s (slice_get xs place)

-- ---- an entry

-- The entry is one that the history allows, and what is kept then is that of the history with it; or it is not.
abbrev pub LearnsEntry : List Holding → List Kept → History → Entry → Bool → Type 0
LearnsEntry xs ks h e true = (entry_allowed h e ≡ true) × PartsRepresent xs ks (h ++ e ∷ [])
LearnsEntry xs ks h e false = entry_allowed h e ≡ false

-- ---- what a request asks of the pieces

-- what each kind of request asks of the pieces that came
abbrev pub asks_with : List model.Holding → ℕ → List ℕ → List ℕ → Option (List ℕ) → Bool
asks_with xs zero peer target (Some scrip) = list_any (λ x. bytes_eq x.text scrip && is_held x.state) xs && is_of_vendor peer scrip
asks_with xs (suc zero) peer target (Some scrip) = list_any (λ x. bytes_eq x.text scrip && is_held x.state) xs && (is_of_vendor peer scrip && is_buy (errand_of target))
asks_with xs (suc (suc ask)) peer target None = is_draw (errand_of target)
asks_with xs _ peer target _ = false

-- the place of the piece that a request may pay with; there is one exactly where it may
abbrev pub FindsPayment : List Holding → ℕ → List ℕ → List ℕ → List ℕ → Option ℕ → Type 0
FindsPayment xs ask peer target text None = asks_with (map holding_of xs) ask peer target (Some text) ≡ false
FindsPayment xs ask peer target text (Some place) = HeldAt xs text peer place × (asks_with (map holding_of xs) ask peer target (Some text) ≡ true)

-- Of some pieces the first ones were brought, and these are left, for which there is room.
pub record Bringing (all left : List Held) (old now : List Holding) (room : ℕ) : Type 0 where
  pub done : List Held
  pub both : all ≡ done ++ left
  pub brought : Brings old now done true
  pub room' : length left ≤ room
