-- Getting, buying, drawing and trying again, up to the line that is said.
use Rattle.std.specs.Prelude.{◌≡◌, ◌⊎◌, ℕ, ◌==◌, if◌then◌else◌, max, List, [], ◌∷◌, ◌++◌, length, Option, Some, None, IsSome, Result, Ok, Err, option_map, option_and_then, unwrap_or, slice_get}
use Rattle.mc_outside.specs.Bytes.{BeginsWith}
use Rattle.mc_outside.specs.DiskView.{DiskView, Ran}
use Rattle.mc_outside.specs.LinkView.{LinkView}
use Rattle.mc_requests.specs.declared.limits.TheConstants.Limits.{FULL}
use Rattle.mc_requests.specs.declared.refusal.Refusal.{Refusal}
use Rattle.mc_requests.specs.declared.refusal.Refusal.TheVariants as refusals
use Rattle.mc_records.specs.Entry.{Entry}
use Rattle.ledger_model.specs.Histories.{History, time}
use Rattle.ledger_model.specs.Lines as lines
use Rattle.ledger_model.specs.Answer.{fitted}
use Rattle.scrip_journal.specs.Layout.{Encodes}
use Rattle.millicent_http.specs.declared.clock.Clock.TheVariants.{OfLinks}
use Rattle.millicent_http.specs.Courses.{AreRead, with_readings}
use Rattle.millicent_http.specs.Received.{Received}
use Rattle.command_status.specs.declared.status.Status.{Status}
use Rattle.command_status.specs.declared.status.Status.TheVariants as ends
use Rattle.scrip_form.specs.Scrip.{Scrip}
use Rattle.ledger_model.specs.Pieces.{piece_of}
use Rattle.wallet_model.specs.Holdings.{brings}
use Rattle.wallet_model.specs.Requests.{Pending, pending_of, oldest_kept}
use Rattle.wallet_model.specs.Asks.{Asking, pend_entry, due_entry, request_bytes}
use Rattle.wallet_model.specs.Settling.{settlement, refusal_number}
use Rattle.wallet_core.specs.Settled.{bought}
use Rattle.wallet_commands.specs.declared.saying.Saying.{Saying}
use Rattle.wallet_commands.specs.declared.saying.Saying.TheVariants as sayings
use Rattle.wallet_commands.specs.Lines.{got_line, renewed_line}
use Rattle.wallet_commands.specs.Books.{EncodesEither, OldPair, EntryPair}
use Rattle.wallet_core.specs.OnDisk.{EncodesWallet, Untouched, NotOpened}
use Rattle.wallet_commands.specs.Causes.{WalletCauses}
use Rattle.wallet_commands.specs.Saying.{said_as, IsSaid, IsSaidInPart}
use Rattle.wallet_commands.specs.Payments.{Learned, Settles, Stays, Breaks, Learns}

-- ---- the settlement

-- How the command of a request ends that a reply settled: a get says no line, a buy and a draw the piece, and of a signed
-- refusal its number is told.
abbrev pub ended_by : Pending → Received → Status
ended_by p r =
    if r.status == 200 then unwrap_or (option_map (λ x. ends.Did (got_line x)) (bought p.ask r.contents)) ends.Done
    else ends.Refused (refusals.SiteRefused (refusal_number r.refusal))

-- the first piece that an entry brings, after the entries before it; the settlement of a get brings its change alone
abbrev pub first_brought : History → Entry → Option Scrip
first_brought h e = option_and_then (λ x. piece_of x.text) (slice_get (brings h e) 0)

-- How a renewal at a vendor ends that an entry settled: it says the change that came, or that none did.
abbrev pub renewed_by : List ℕ → History → Entry → Received → Status
renewed_by vendor h e r =
    if r.status == 200 then ends.Did (renewed_line vendor (first_brought h e))
    else ends.Refused (refusals.SiteRefused (refusal_number r.refusal))

-- either
abbrev pub ended_as : Saying → History → Entry → Pending → Received → Status
ended_as sayings.Contents h e p r = ended_by p r
ended_as (sayings.Renewal vendor) h e p r = renewed_by vendor h e r

-- The reply settles the request of a number, at a time: what was to be said first was said, and then the settlement was
-- written; or one of the two failed, and 33 JournalFull, or want of memory where it fits, leaves the book as it was.
abbrev pub SettlesAs : Saying → History → ℕ → ℕ → Pending → Received → LinkView → Status → DiskView → LinkView → Type 0
SettlesAs k h t n p r before ends.LinkFault d after = EncodesWallet d h × IsSaidInPart (said_as k p r) before after
SettlesAs k h t n p r before ends.NoMemory d after = EncodesWallet d h × IsSaid (said_as k p r) before after × (fitted h FULL (settlement h t n p r) ≡ Ok (settlement h t n p r))
SettlesAs k h t n p r before ends.DiskFault d after = EncodesEither d h (settlement h t n p r) × IsSaid (said_as k p r) before after
SettlesAs k h t n p r before status d after =
    IsSaid (said_as k p r) before after
    × (((status ≡ ended_as k h (settlement h t n p r) p r) × EncodesWallet d (h ++ settlement h t n p r ∷ []))
    ⊎ ((f : Refusal) × (status ≡ ends.Refused f) × (fitted h FULL (settlement h t n p r) ≡ Err (lines.Refuse f)) × EncodesWallet d h))

-- of a get, a buy or a draw
abbrev pub SettlesBy : History → ℕ → ℕ → Pending → Received → LinkView → Status → DiskView → LinkView → Type 0
SettlesBy h t n p r before status d after = SettlesAs sayings.Contents h t n p r before status d after

-- ---- one link for a kept request

-- by what was learned on the link
abbrev pub EndsAs : Saying → History → ℕ → ℕ → Pending → Learned → LinkView → Status → DiskView → LinkView → Type 0
EndsAs k h t n p (Stays f) before status d after = (status ≡ ends.Refused f) × EncodesWallet d h × (after ≡ before)
EndsAs k h t n p Breaks before status d after = (status ≡ ends.LinkFault) × EncodesWallet d h × (after ≡ before)
EndsAs k h t n p (Settles r) before status d after = SettlesAs k h t n p r before status d after

abbrev pub EndsBy : History → ℕ → ℕ → Pending → Learned → LinkView → Status → DiskView → LinkView → Type 0
EndsBy h t n p learned before status d after = EndsAs sayings.Contents h t n p learned before status d after

-- a settlement, where a command that ends so has added it or leaves it in doubt
abbrev pub entered_by : Status → Entry → List Entry
entered_by ends.Done e = e ∷ []
entered_by (ends.Did line) e = e ∷ []
entered_by (ends.Refused (refusals.SiteRefused number)) e = e ∷ []
entered_by ends.DiskFault e = e ∷ []
entered_by _ e = []

-- the entries that are added or in doubt, by what was learned and by how the command ended
abbrev pub settled_by : History → ℕ → ℕ → Pending → Learned → Status → List Entry
settled_by h t n p (Settles r) status = entered_by status (settlement h t n p r)
settled_by h t n p (Stays f) status = []
settled_by h t n p Breaks status = []

-- A crash pair while a link is used for a request that is kept in a history: the image encodes that, with the settlement
-- or without it. Where what is sent is told, a first part of the request was sent.
abbrev pub UsePair : Type 0 → List ℕ → Pending → History → List Entry → List ℕ → List ℕ → Type 0
UsePair tells aside p h settled image sent = (Encodes h image ⊎ Encodes (h ++ settled) image) × (tells → BeginsWith aside sent × BeginsWith sent (aside ++ request_bytes p))

-- From a history in which the request of a number is kept, on one link, at a time.
pub record UsesLinkAs (k : Saying) {O : Type 0} (link : O → LinkView) (disk : O → DiskView) (h : History) (t n : ℕ) (p : Pending) (a : O) (status : Status) (b : O) : Type 0 where
  pub learned : Learned
  pub middle : LinkView
  pub learns : Learns p learned (link a) middle
  pub ends' : EndsAs k h t n p learned middle status (disk b) (link b)
  pub pairs : Ran (disk a) (disk b) (UsePair (IsSome (link a).sessions) (disk a).aside p h (settled_by h t n p learned status))

-- for a get, a buy or a draw
abbrev pub UsesLink : {O : Type 0} → (O → LinkView) → (O → DiskView) → History → ℕ → ℕ → Pending → O → Status → O → Type 0
UsesLink link disk h t n p a status b = UsesLinkAs sayings.Contents link disk h t n p a status b

-- ---- get, buy, draw, renew

-- Nothing was added, and no link was taken; the links are these.
pub record NotAsked {O : Type 0} (link : O → LinkView) (disk : O → DiskView) (h : History) (a : O) (clocked : LinkView) (b : O) : Type 0 where
  pub left : EncodesWallet (disk b) h
  pub link' : link b ≡ clocked
  pub pairs : Ran (disk a) (disk b) (OldPair (IsSome (link a).sessions) (disk a) h)

-- The Pend entry is in doubt, and no link was taken.
pub record InDoubt {O : Type 0} (link : O → LinkView) (disk : O → DiskView) (h : History) (e : Entry) (a : O) (clocked : LinkView) (b : O) : Type 0 where
  pub left : EncodesEither (disk b) h e
  pub link' : link b ≡ clocked
  pub pairs : Ran (disk a) (disk b) (EntryPair (IsSome (link a).sessions) (disk a) h e)

-- The Pend entry was added, and up to that moment no link was taken; then a link was used for its request.
pub record AskedAs (k : Saying) {O : Type 0} (link : O → LinkView) (disk : O → DiskView) (h : History) (t : ℕ) (e : Entry) (a : O) (clocked : LinkView) (status : Status) (b : O) : Type 0 where
  pub p : Pending
  pub request : pending_of e ≡ Some p
  pub entered : O
  pub stands : EncodesWallet (disk entered) (h ++ e ∷ [])
  pub link' : link entered ≡ clocked
  pub until : Ran (disk a) (disk entered) (EntryPair (IsSome (link a).sessions) (disk a) h e)
  pub since : UsesLinkAs k link disk (h ++ e ∷ []) t (length h) p entered status b

-- What becomes of a Pend entry, or of the refusal in its place, which is told as it is. Memory is refused only once the entry
-- was seen to fit the journal.
abbrev pub PaysAs : Saying → {O : Type 0} → (O → LinkView) → (O → DiskView) → History → ℕ → Result Entry Refusal → O → LinkView → Status → O → Type 0
PaysAs k link disk h t (Err f) a clocked status b = (status ≡ ends.Refused f) × NotAsked link disk h a clocked b
PaysAs k link disk h t (Ok e) a clocked status b =
    ((((status ≡ ends.NoMemory) × (fitted h FULL e ≡ Ok e)) ⊎ ((f : Refusal) × (status ≡ ends.Refused f) × (fitted h FULL e ≡ Err (lines.Refuse f)))) × NotAsked link disk h a clocked b)
    ⊎ (((status ≡ ends.DiskFault) × InDoubt link disk h e a clocked b)
    ⊎ AskedAs k link disk h t e a clocked status b)

-- of a get, a buy or a draw
abbrev pub PaysBy : {O : Type 0} → (O → LinkView) → (O → DiskView) → History → ℕ → Result Entry Refusal → O → LinkView → Status → O → Type 0
PaysBy link disk h t todo a clocked status b = PaysAs sayings.Contents link disk h t todo a clocked status b

-- ---- what all have in common

-- The book encoded a history, and memory was refused before the clock was read.
pub record Wanted {O : Type 0} (link : O → LinkView) (disk : O → DiskView) (bytes : List ℕ) (a : O) (status : Status) (b : O) : Type 0 where
  pub history : History
  pub stands : Encodes history bytes
  pub memory : status ≡ ends.NoMemory
  pub left : EncodesWallet (disk b) history
  pub untouched : Untouched link disk a b

-- The book encoded a history, and the clock was read once; then this became of it at the time.
pub record Clocked {O : Type 0} (link : O → LinkView) (Does : History → ℕ → LinkView → Type 0) (bytes : List ℕ) (a : O) : Type 0 where
  pub history : History
  pub stands : Encodes history bytes
  pub moment : ℕ
  pub clocked : LinkView
  pub read : AreRead OfLinks (moment ∷ []) (link a).readings clocked.readings
  pub rest : clocked ≡ with_readings clocked.readings (link a)
  pub does : Does history (max (time history) moment) clocked

-- how a get, a buy or a draw ended, on an outside whose disk had these bytes
abbrev pub PaysBook : {O : Type 0} → (O → LinkView) → (O → DiskView) → Asking → List ℕ → O → Status → O → Type 0
PaysBook link disk asking bytes a status b =
    NotOpened link disk bytes a status b
    ⊎ (Wanted link disk bytes a status b
    ⊎ Clocked link (λ h t clocked. PaysBy link disk h t (pend_entry h t asking) a clocked status b) bytes a)

-- What the command does. Of a book it is said where the disk tells its bytes, and of causes on every outside.
abbrev pub Pays : {O : Type 0} → (O → LinkView) → (O → DiskView) → Asking → O → Status → O → Type 0
Pays link disk asking a status b = WalletCauses link disk a status b × ((bytes : List ℕ) → (disk a).contents ≡ Some bytes → PaysBook link disk asking bytes a status b)

-- ---- renewing

-- how renewing the piece of a vendor that ends first, of those that end at a moment at the latest, ended, on an outside
-- whose disk had these bytes
abbrev pub RenewsBook : {O : Type 0} → (O → LinkView) → (O → DiskView) → (vendor target : List ℕ) (before : ℕ) → List ℕ → O → Status → O → Type 0
RenewsBook link disk vendor target before bytes a status b =
    NotOpened link disk bytes a status b
    ⊎ (Wanted link disk bytes a status b
    ⊎ Clocked link (λ h t clocked. PaysAs (sayings.Renewal vendor) link disk h t (due_entry h t vendor target before) a clocked status b) bytes a)

-- What the command does. Of a book it is said where the disk tells its bytes, and of causes on every outside.
abbrev pub Renews : {O : Type 0} → (O → LinkView) → (O → DiskView) → (vendor target : List ℕ) (before : ℕ) → O → Status → O → Type 0
Renews link disk vendor target before a status b =
    WalletCauses link disk a status b × ((bytes : List ℕ) → (disk a).contents ≡ Some bytes → RenewsBook link disk vendor target before bytes a status b)

-- ---- trying again

-- A link was used for a request that was kept.
pub record Tried {O : Type 0} (link : O → LinkView) (disk : O → DiskView) (h : History) (t n : ℕ) (p : Pending) (a : O) (clocked : LinkView) (status : Status) (b : O) : Type 0 where
  pub kept : O
  pub stands : EncodesWallet (disk kept) h
  pub link' : link kept ≡ clocked
  pub until : Ran (disk a) (disk kept) (OldPair (IsSome (link a).sessions) (disk a) h)
  pub since : UsesLink link disk h t n p kept status b

-- the oldest kept request of the peer; 67 Nothing where there is none
abbrev pub RetriesBy : {O : Type 0} → (O → LinkView) → (O → DiskView) → History → ℕ → Option (ℕ × Pending) → O → LinkView → Status → O → Type 0
RetriesBy link disk h t None a clocked status b = (status ≡ ends.Refused refusals.Nothing) × NotAsked link disk h a clocked b
RetriesBy link disk h t (Some x) a clocked status b = Tried link disk h t x.0 x.1 a clocked status b

-- how trying again ended, on an outside whose disk had these bytes
abbrev pub RetriesBook : {O : Type 0} → (O → LinkView) → (O → DiskView) → List ℕ → List ℕ → O → Status → O → Type 0
RetriesBook link disk peer bytes a status b =
    NotOpened link disk bytes a status b
    ⊎ (Wanted link disk bytes a status b
    ⊎ Clocked link (λ h t clocked. RetriesBy link disk h t (oldest_kept h peer) a clocked status b) bytes a)

abbrev pub Retries : {O : Type 0} → (O → LinkView) → (O → DiskView) → List ℕ → O → Status → O → Type 0
Retries link disk peer a status b = WalletCauses link disk a status b × ((bytes : List ℕ) → (disk a).contents ≡ Some bytes → RetriesBook link disk peer bytes a status b)
