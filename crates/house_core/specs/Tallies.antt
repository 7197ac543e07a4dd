-- How the items were answered that a house served, counted.
use Rattle.std.specs.Prelude.{◌≡◌, ℕ, ◌+◌, ◌-◌, ◌*◌, ◌^◌, ◌<◌, ◌≤◌, ◌==◌, not, nat_lt, min, Bool, true, false, List, [], ◌∷◌, length, map, count_by, sum_by, Some, option_map, unwrap_or}
use Rattle.std.specs.List.{list_any}
use Rattle.mc_requests.specs.declared.limits.Limits.{Limits}
use Rattle.mc_requests.specs.declared.refusal.Refusal.{Refusal}
use Rattle.mc_requests.specs.declared.refusal.Refusal.TheVariants.{NoMemory}
use Rattle.mc_requests.specs.Refusals.{number_of}
use Rattle.mc_records.specs.Entry.{Entry, Accept}
use Rattle.ledger_model.specs.Pieces.{piece_of}
use Rattle.ledger_model.specs.Sums.{price_paid}
use Rattle.ledger_model.specs.Answer as answers
use Rattle.ledger_model.specs.Answer.{Answer, answer}
use Rattle.millicent_http.specs.Items.{Item, request, refused}
use Rattle.millicent_http.specs.Steps.{Did}
use Rattle.house_core.specs.declared.tally.Tally.{Tally}
use Rattle.house_state.specs.declared.verdict.NotAuthorized.{NotAuthorized}
use Rattle.house_state.specs.declared.verdict.NotAuthorized.TheVariants as stops
use Rattle.house_core.specs.Session.{State, raised, Step}

-- ---- what is told

-- what is told to an item: the first reply to a new entry, a first reply once more, or a refusal
pub data Told : Type 0 where
  Taken : Entry → Told
  Repeated : Told
  RefusedBy : Refusal → Told

-- What is told to a request with this answer, whose new entry was entered or not. It was not where memory was
-- refused for it.
abbrev pub told : Answer → Bool → Told
told (answers.Take e) true = Taken e
told (answers.Take e) false = RefusedBy NoMemory
told (answers.Again number) entered = Repeated
told (answers.Refused f) entered = RefusedBy f

-- what is told to a request that makes no entry
abbrev pub told_stop : NotAuthorized → Told
told_stop (stops.Refused f) = RefusedBy f
told_stop (stops.Again number) = Repeated

-- ---- counts

-- the worth of the change that an entry gives: of its piece, what is above the price
abbrev pub change_given : Entry → ℕ
change_given (Accept m scrip target sign price (Some id) deed) = unwrap_or (option_map (λ p. p.value - price) (piece_of scrip)) 0
change_given _ = 0

abbrev pub is_taken : Told → Bool
is_taken (Taken e) = true
is_taken _ = false

abbrev pub is_repeated : Told → Bool
is_repeated Repeated = true
is_repeated _ = false

-- whether it is the refusal of this number
abbrev pub is_refusal : ℕ → Told → Bool
is_refusal number (RefusedBy f) = number_of f == number
is_refusal number _ = false

-- whether it is a refusal, and of none of these numbers
abbrev pub is_other : List ℕ → Told → Bool
is_other numbers (RefusedBy f) = not (list_any (λ number. number_of f == number) numbers)
is_other numbers _ = false

-- what was paid and given as change
abbrev pub price_told : Told → ℕ
price_told (Taken e) = price_paid e
price_told _ = 0

abbrev pub change_told : Told → ℕ
change_told (Taken e) = change_given e
change_told _ = 0

-- a count, and so many more: it stays at 2^64 - 1 once it is there
abbrev pub counted : ℕ → ℕ → ℕ
counted before more = min (before + more) (2 ^ 64 - 1)

-- a tally counted on by what was told
unfoldable pub tallied : Tally → List Told → Tally
tallied before all = record {
  taken = counted before.taken (count_by is_taken all);
  again = counted before.again (count_by is_repeated all);
  expired = counted before.expired (count_by (is_refusal 26) all);
  spent = counted before.spent (count_by (is_refusal 27) all);
  little = counted before.little (count_by (is_refusal 31) all);
  other = counted before.other (count_by (is_other (26 ∷ 27 ∷ 31 ∷ 90 ∷ [])) all);
  memory = counted before.memory (count_by (is_refusal 90) all);
  takings = before.takings + sum_by price_told all;
  change = before.change + sum_by change_told all;
}

-- nothing was served yet
abbrev pub no_tally : Tally
no_tally = record { taken = 0; again = 0; expired = 0; spent = 0; little = 0; other = 0; memory = 0; takings = 0; change = 0 }

-- each count has 64 bits
pub record AreCounts (t : Tally) : Type 0 where
  pub taken : t.taken < 2 ^ 64
  pub again : t.again < 2 ^ 64
  pub expired : t.expired < 2 ^ 64
  pub spent : t.spent < 2 ^ 64
  pub little : t.little < 2 ^ 64
  pub other : t.other < 2 ^ 64
  pub memory : t.memory < 2 ^ 64

-- and in a house with so many entries each sum is at most 2^64 for each of them
pub record IsWithin (entries : ℕ) (t : Tally) : Type 0 where
  pub counts : AreCounts t
  pub takings : t.takings ≤ entries * 2 ^ 64
  pub change : t.change ≤ entries * 2 ^ 64

-- ---- steps that tell

-- a state, and what was told to the item that led to it
pub record ToldState : Type 0 where
  pub state : State
  pub told_last : Told

-- what an item is told at the house time, which leads to this history or another
abbrev pub told_item : Limits → State → Item → State → Told
told_item limits s (request q closes) t = told (answer s.history s.time limits q) (nat_lt (length s.history) (length t.history))
told_item limits s (refused f closes) t = RefusedBy f

-- a step of a house, and what it told. What was told before it does not matter.
pub record ToldStep (limits : Limits) (s : ToldState) (reading : ℕ) (item : Item) (reply : List ℕ) (t : ToldState) : Type 0 where
  pub step : Step limits s.state reading item reply t.state
  pub told' : t.told_last ≡ told_item limits (raised s.state reading) item t.state

-- what some steps told, in order
abbrev pub told_by : List (Did ToldState) → List Told
told_by steps = map (λ step. step.after.told_last) steps
