-- What an item does at a house.
use Rattle.std.specs.Prelude.{◌≡◌, ◌⊎◌, ℕ, max, List, [], ◌∷◌, ◌++◌, length, Option, Some, None, Result, Ok, Err}
use Rattle.mc_requests.specs.declared.limits.Limits.{Limits}
use Rattle.mc_requests.specs.declared.refusal.Refusal.{Refusal}
use Rattle.mc_requests.specs.declared.refusal.Refusal.TheVariants.{NoMemory}
use Rattle.mc_records.specs.Entry.{Entry}
use Rattle.mc_requests.specs.Requests.{Asked}
use Rattle.ledger_model.specs.Histories.{History}
use Rattle.ledger_model.specs.Answer as answers
use Rattle.ledger_model.specs.Answer.{Answer, answer}
use Rattle.ledger_model.specs.Replies.{reply_of, refusal_of, head_refusal}
use Rattle.millicent_http.specs.Items.{Item, request, refused}

-- ---- states

-- a history, and the house time
pub record State : Type 0 where
  pub history : History
  pub time : ℕ

-- the house time is raised to a reading of the clock
abbrev pub raised : State → ℕ → State
raised s reading = record s { time = max s.time reading }

-- one entry more
abbrev pub entered : State → Entry → State
entered s e = record s { history = s.history ++ e ∷ [] }

-- ---- one item

-- The reply to a request with this answer, and the state after it. A new entry gets its first reply, or
-- memory is refused, which is replied to and leaves the history as it was; a request that comes again
-- gets the first reply of its entry; a refusal is replied to.
abbrev pub Gives : State → Asked → Answer → List ℕ → State → Type 0
Gives s q (answers.Take e) reply t =
    ((reply ≡ reply_of (s.history ++ e ∷ []) (length s.history)) × (t ≡ entered s e))
    ⊎ ((reply ≡ refusal_of s.history s.time q NoMemory) × (t ≡ s))
Gives s q (answers.Again number) reply t = (reply ≡ reply_of s.history number) × (t ≡ s)
Gives s q (answers.Refused f) reply t = (reply ≡ refusal_of s.history s.time q f) × (t ≡ s)

abbrev pub GivesItem : Limits → State → Item → List ℕ → State → Type 0
GivesItem limits s (request q closes) reply t = Gives s q (answer s.history s.time limits q) reply t
GivesItem limits s (refused f closes) reply t = (reply ≡ head_refusal s.time f) × (t ≡ s)

-- an item at a reading of the clock, to which the house time is raised
abbrev pub Step : Limits → State → ℕ → Item → List ℕ → State → Type 0
Step limits s reading item reply t = GivesItem limits (raised s reading) item reply t

-- ---- what is said to a request

-- Of a request with this answer: the number of the entry whose first reply is said, or the refusal, and
-- the state after it.
abbrev pub Says : Answer → Result ℕ Refusal → State → State → Type 0
Says (answers.Take e) (Ok number) s t = (number ≡ length s.history) × (t ≡ entered s e)
Says (answers.Take e) (Err f) s t = (f ≡ NoMemory) × (t ≡ s)
Says (answers.Again m) (Ok number) s t = (number ≡ m) × (t ≡ s)
Says (answers.Refused g) (Err f) s t = (f ≡ g) × (t ≡ s)
Says _ _ s t = ⊥

-- its reply, from the state after it
abbrev pub said_reply : State → Asked → Result ℕ Refusal → List ℕ
said_reply t q (Ok number) = reply_of t.history number
said_reply t q (Err f) = refusal_of t.history t.time q f

-- the reply to a refusal at a time: that of a request, or of a head that is no request
abbrev pub refused_reply : History → ℕ → Option Asked → Refusal → List ℕ
refused_reply h t (Some q) f = refusal_of h t q f
refused_reply h t None f = head_refusal t f
