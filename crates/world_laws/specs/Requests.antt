-- What a wallet's commands that get, buy, draw and try again send, and what they do to its book, as events of a schedule.
use Rattle.std.specs.Prelude.{◌≡◌, ◌⊎◌, ℕ, ◌<◌, ◌≤◌, ◌^◌, max, List, [], ◌∷◌, ◌++◌, length, take, Some, None, Result, Ok, Err, slice_get}
use Rattle.mc_outside.specs.DiskView.{DiskView}
use Rattle.mc_outside.specs.LinkView.{LinkView, next_taken, after_recv, after_send, after_eof}
use Rattle.mc_requests.specs.declared.limits.TheConstants.Limits.{FULL, MOST_JOURNAL}
use Rattle.mc_requests.specs.declared.refusal.Refusal.{Refusal}
use Rattle.mc_requests.specs.declared.refusal.Refusal.TheVariants as refusals
use Rattle.mc_records.specs.Entry.{Entry}
use Rattle.mc_records.specs.Sizes.{size}
use Rattle.ledger_model.specs.Histories.{History, time}
use Rattle.ledger_model.specs.Lines as lines
use Rattle.ledger_model.specs.Answer.{fitted}
use Rattle.scrip_journal.specs.Layout.{Encodes}
use Rattle.millicent_http.specs.Received.{Received}
use Rattle.reply_reader.specs.Replies.{IsReply}
use Rattle.command_status.specs.declared.status.Status.{Status}
use Rattle.command_status.specs.declared.status.Status.TheVariants as ends
use Rattle.wallet_model.specs.Requests.{Pending, oldest_kept}
use Rattle.wallet_model.specs.Asks.{Asking, pend_entry, request_bytes}
use Rattle.wallet_model.specs.Settling.{check_of, settlement}
use Rattle.wallet_core.specs.OnDisk.{EncodesWallet}
use Rattle.wallet_commands.specs.Paying.{ended_by, PaysBy, RetriesBy}
use Rattle.world_model.specs.Worlds.{World, CanBeAsked, Tell, Return, wallet_time, with_wallet, with_message, with_reply, Asks, SendsAgain, Plays}

-- each image that a crash may leave has this history or that one
abbrev pub LeavesEither : DiskView → History → History → Type 0
LeavesEither d h g = (image : List ℕ) → d.leaves image → Encodes h image ⊎ Encodes g image

-- ---- what was sent

-- No link was taken: none came (63), or it could not be taken (6).
pub record NoneTaken (before after : LinkView) (status : Status) : Type 0 where
  pub same : after.sessions ≡ before.sessions
  pub told : (status ≡ ends.Refused refusals.NoLink) ⊎ (status ≡ ends.LinkFault)

-- The next link failed (6) when a first part of the request was sent on it, less than all of it, and nothing had come.
pub record SentInPart (p : Pending) (before after : LinkView) (status : Status) : Type 0 where
  pub n : ℕ
  pub part : n < length (request_bytes p)
  pub sent : after.sessions ≡ (after_send (take n (request_bytes p)) (next_taken before)).sessions
  pub told : status ≡ ends.LinkFault

-- The request was sent on the next link, whole and nothing else, and then these bytes came on that link, perhaps up to its end.
abbrev pub IsExchanged : Pending → List ℕ → LinkView → LinkView → Type 0
IsExchanged p got before after =
    (after.sessions ≡ (after_recv got (after_send (request_bytes p) (next_taken before))).sessions)
    ⊎ (after.sessions ≡ (after_eof (after_recv got (after_send (request_bytes p) (next_taken before)))).sessions)

-- ---- what came

-- how it is told that a request stays kept: there was no reply (64), what came is none or is refused (65, 66), or the link
-- failed (6)
abbrev pub TellsKept : Status → Type 0
TellsKept (ends.Refused refusals.NoReply) = Unit {0}
TellsKept (ends.Refused refusals.BadReply) = Unit {0}
TellsKept (ends.Refused refusals.Unproved) = Unit {0}
TellsKept ends.LinkFault = Unit {0}
TellsKept _ = ⊥

-- What came begins with no reply that passes the check of the request.
pub record NoneSettles (p : Pending) (got : List ℕ) (status : Status) : Type 0 where
  pub none : (r : Received) → IsReply got r → check_of p r ≡ None → ⊥
  pub told : TellsKept status

-- How a command ends whose request a reply settles by an entry: as the reply says, and then the entry was added; or it is in doubt
-- (4); or it was not added, since memory was refused (5), what is said before could not be said (6), or the journal has no
-- room for it (33).
abbrev pub EndsSettled : History → Pending → Received → Entry → Status → DiskView → Type 0
EndsSettled h p r e ends.DiskFault d = LeavesEither d h (h ++ e ∷ [])
EndsSettled h p r e ends.NoMemory d = EncodesWallet d h
EndsSettled h p r e ends.LinkFault d = EncodesWallet d h
EndsSettled h p r e status d =
    ((status ≡ ended_by p r) × EncodesWallet d (h ++ e ∷ []))
    ⊎ ((f : Refusal) × (status ≡ ends.Refused f) × (fitted h FULL e ≡ Err (lines.Refuse f)) × EncodesWallet d h)

-- The entry by which these bytes, whose reply this is, settle a request: whoever told them, it is their return at the moment. A
-- journal has no more than so many bytes.
abbrev pub IsReturn : World → ℕ → History → ℕ → ℕ → List ℕ → Entry → Type 0
IsReturn w j h moment n got e =
    size (h ++ e ∷ []) ≤ MOST_JOURNAL → Plays FULL w (Tell got ∷ Return (length w.replies) j n moment ∷ []) (with_wallet (with_reply w got) j (h ++ e ∷ []))

-- What came begins with a reply that passes the check of the request, and settles it. It is so in each world where the wallet
-- has this history: whatever was delivered to houses since the request was sent.
pub record IsSettled (j : ℕ) (h : History) (moment n : ℕ) (p : Pending) (got : List ℕ) (status : Status) (d : DiskView) : Type 0 where
  pub r : Received
  pub reads : IsReply got r
  pub checked : check_of p r ≡ None
  pub returns : (w : World) → slice_get w.wallets j ≡ Some h → IsReturn w j h moment n got (settlement h (wallet_time h moment) n p r)
  pub ends' : EndsSettled h p r (settlement h (wallet_time h moment) n p r) status d

-- ---- one link for a kept request

-- It was not sent, or not whole, and the book stays; or it was sent, and what came left it kept, or settled it.
abbrev pub UsedAs : ℕ → History → ℕ → ℕ → Pending → LinkView → LinkView → Status → DiskView → Type 0
UsedAs j h moment n p before after status d =
    ((NoneTaken before after status ⊎ SentInPart p before after status) × EncodesWallet d h)
    ⊎ ((got : List ℕ) × IsExchanged p got before after × ((NoneSettles p got status × EncodesWallet d h) ⊎ IsSettled j h moment n p got status d))

-- ---- get, buy, draw

-- the world after a wallet has entered a request and sent it
abbrev pub asked_world : World → ℕ → History → Pending → World
asked_world w j h p = with_message (with_wallet w j h) (request_bytes p) (Some j)

pub record IsAsked (w : World) (j : ℕ) (h : History) (asking : Asking) (moment : ℕ) (e : Entry) (p : Pending) : Type 0 where
  pub pends : pend_entry h (wallet_time h moment) asking ≡ Ok e
  pub asks : size (h ++ e ∷ []) ≤ MOST_JOURNAL → Asks FULL w j asking moment (asked_world w j (h ++ e ∷ []) p)

-- Why nothing was asked: there is no piece for it (62), the journal has no room for the request (33), or memory was
-- refused (5).
abbrev pub IsUnasked : History → Result Entry Refusal → Status → Type 0
IsUnasked h todo status =
    (status ≡ ends.NoMemory)
    ⊎ ((f : Refusal) × (status ≡ ends.Refused f) × ((todo ≡ Err f) ⊎ ((e : Entry) × (todo ≡ Ok e) × (fitted h FULL e ≡ Err (lines.Refuse f)))))

-- Nothing was asked; or the request was entered, which is an Ask, or that is in doubt; and only then a link was used for it.
abbrev pub PaidAs : World → ℕ → History → Asking → ℕ → LinkView → LinkView → Status → DiskView → Type 0
PaidAs w j h asking moment before after status d =
    (IsUnasked h (pend_entry h (wallet_time h moment) asking) status × (after ≡ before) × EncodesWallet d h)
    ⊎ ((e : Entry) × (p : Pending) × IsAsked w j h asking moment e p
    × (((status ≡ ends.DiskFault) × (after ≡ before) × LeavesEither d h (h ++ e ∷ []))
    ⊎ ((size (h ++ e ∷ []) ≤ MOST_JOURNAL) × UsedAs j (h ++ e ∷ []) moment (length h) p before after status d)))

abbrev pub PayingIsPlayed : {O : Type 0} → (O → LinkView) → (O → DiskView) → Type 0
PayingIsPlayed {O} link disk = (w : World) (j : ℕ) (h : History) (asking : Asking) (moment : ℕ) (a : O) (clocked : LinkView) (status : Status) (b : O)
    → slice_get w.wallets j ≡ Some h → CanBeAsked asking → moment < 2 ^ 35
    → PaysBy link disk h (max (time h) moment) (pend_entry h (max (time h) moment) asking) a clocked status b → PaidAs w j h asking moment clocked (link b) status (disk b)

-- ---- trying again

-- Nothing is kept of the peer (67), and no link was taken; or its oldest request is sent once more, and one link was used for it.
abbrev pub TriedAs : World → ℕ → History → List ℕ → ℕ → LinkView → LinkView → Status → DiskView → Type 0
TriedAs w j h peer moment before after status d =
    ((oldest_kept h peer ≡ None) × (status ≡ ends.Refused refusals.Nothing) × (after ≡ before) × EncodesWallet d h)
    ⊎ ((n : ℕ) × (p : Pending) × (oldest_kept h peer ≡ Some (n, p)) × SendsAgain w j peer (with_message w (request_bytes p) (Some j)) × UsedAs j h moment n p before after status d)

abbrev pub TryingIsPlayed : {O : Type 0} → (O → LinkView) → (O → DiskView) → Type 0
TryingIsPlayed {O} link disk = (w : World) (j : ℕ) (h : History) (peer : List ℕ) (moment : ℕ) (a : O) (clocked : LinkView) (status : Status) (b : O)
    → slice_get w.wallets j ≡ Some h → moment < 2 ^ 35
    → RetriesBy link disk h (max (time h) moment) (oldest_kept h peer) a clocked status b → TriedAs w j h peer moment clocked (link b) status (disk b)
