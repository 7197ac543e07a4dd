-- The table of refusals, and the text of one.
use Rattle.std.specs.Prelude.{ℕ, Bool, true, false, List, [], ◌∷◌, ◌++◌, codes, decimal}
use Rattle.scrip_form.specs.Scrip.{id_digits}
use Rattle.mc_requests.specs.declared.refusal.Refusal.{Refusal}
use Rattle.mc_requests.specs.declared.refusal.Refusal.TheVariants.{BadHead, HeadTooLarge, NoHost, BodyRefused, BadTarget, BadMethod, RepeatedField, NoScrip, BadScrip, WrongVendor, UnknownIssuer, ExpiryMismatch, BadCertificate, Expired, Spent, NeedSignature, BadSignature, NoSuchGoods, TooLittle, SeriesFull, JournalFull, WrongVersion, NoAccount, StaleOrder, PoorAccount, NoVendor, NoStock, AccountFull, NotEmpty, WrongKind, BadInput, ContentsFull, IssuerTaken, RefUsed, StockTwice, LicenceTwice, AccountTaken, TwiceHeld, NoFunds, NoLink, NoReply, BadReply, Unproved, Nothing, SiteRefused, BadBooks, MissingBook, NoTerms, VersionSet, TooEarly, SeriesOpen, BadStatement, PaidTwice, OverSold, NotPlain, OverBudget, NothingDue, UpstreamFault, NoMemory, DiskFault}

-- what the table says of a refusal: its number; its status in HTTP, 0 where a site never answers so; whether a reply
-- that tells it is signed, as those are which come after a piece was found genuine; its name; and what is kept, as texts:
-- identities in 16 hex digits, numbers in decimal
pub record Row : Type 0 where
  pub number : ℕ
  pub status : ℕ
  pub signed : Bool
  pub name : List ℕ
  pub kept : List (List ℕ)

abbrev pub row : ℕ → ℕ → Bool → List ℕ → List (List ℕ) → Row
row n s b text texts = record { number = n; status = s; signed = b; name = text; kept = texts }

-- the table of refusals
abbrev pub row_of : Refusal → Row
row_of BadHead = row 10 400 false (codes "BadHead") []
row_of HeadTooLarge = row 11 431 false (codes "HeadTooLarge") []
row_of NoHost = row 12 400 false (codes "NoHost") []
row_of BodyRefused = row 13 413 false (codes "BodyRefused") []
row_of BadTarget = row 14 400 false (codes "BadTarget") []
row_of BadMethod = row 15 405 false (codes "BadMethod") []
row_of RepeatedField = row 16 400 false (codes "RepeatedField") []
row_of NoScrip = row 20 402 false (codes "NoScrip") []
row_of (BadScrip a) = row 21 400 false (codes "BadScrip") (decimal a ∷ [])
row_of WrongVendor = row 22 403 false (codes "WrongVendor") []
row_of UnknownIssuer = row 23 403 false (codes "UnknownIssuer") []
row_of (ExpiryMismatch a b) = row 24 403 false (codes "ExpiryMismatch") (decimal a ∷ decimal b ∷ [])
row_of BadCertificate = row 25 403 false (codes "BadCertificate") []
row_of (Expired a b) = row 26 410 true (codes "Expired") (decimal a ∷ decimal b ∷ [])
row_of Spent = row 27 409 true (codes "Spent") []
row_of NeedSignature = row 28 403 true (codes "NeedSignature") []
row_of BadSignature = row 29 403 true (codes "BadSignature") []
row_of NoSuchGoods = row 30 404 true (codes "NoSuchGoods") []
row_of (TooLittle a) = row 31 402 true (codes "TooLittle") (decimal a ∷ [])
row_of (SeriesFull a) = row 32 503 true (codes "SeriesFull") (decimal a ∷ [])
row_of (JournalFull a b) = row 33 503 true (codes "JournalFull") (decimal a ∷ decimal b ∷ [])
row_of (WrongVersion a) = row 34 403 false (codes "WrongVersion") (decimal a ∷ [])
row_of NoAccount = row 40 404 true (codes "NoAccount") []
row_of (StaleOrder a) = row 41 409 true (codes "StaleOrder") (decimal a ∷ [])
row_of (PoorAccount a) = row 42 402 true (codes "PoorAccount") (decimal a ∷ [])
row_of NoVendor = row 43 404 true (codes "NoVendor") []
row_of (NoStock a) = row 44 404 true (codes "NoStock") (decimal a ∷ [])
row_of (AccountFull a) = row 45 409 true (codes "AccountFull") (decimal a ∷ [])
row_of (NotEmpty a) = row 50 0 false (codes "NotEmpty") (decimal a ∷ [])
row_of WrongKind = row 52 0 false (codes "WrongKind") []
row_of (BadInput a) = row 53 0 false (codes "BadInput") (decimal a ∷ [])
row_of (ContentsFull a) = row 54 0 false (codes "ContentsFull") (decimal a ∷ [])
row_of (IssuerTaken a) = row 55 0 false (codes "IssuerTaken") (decimal a ∷ [])
row_of (RefUsed a) = row 56 0 false (codes "RefUsed") (a ∷ [])
row_of (StockTwice a) = row 57 0 false (codes "StockTwice") (id_digits a ∷ [])
row_of (LicenceTwice a) = row 59 0 false (codes "LicenceTwice") (decimal a ∷ [])
row_of AccountTaken = row 60 0 false (codes "AccountTaken") []
row_of (TwiceHeld a) = row 61 0 false (codes "TwiceHeld") (id_digits a ∷ [])
row_of (NoFunds a) = row 62 0 false (codes "NoFunds") (decimal a ∷ [])
row_of NoLink = row 63 0 false (codes "NoLink") []
row_of NoReply = row 64 0 false (codes "NoReply") []
row_of BadReply = row 65 0 false (codes "BadReply") []
row_of Unproved = row 66 0 false (codes "Unproved") []
row_of Nothing = row 67 0 false (codes "Nothing") []
row_of (SiteRefused a) = row 68 0 false (codes "SiteRefused") (decimal a ∷ [])
row_of BadBooks = row 69 0 false (codes "BadBooks") []
row_of (MissingBook a) = row 70 0 false (codes "MissingBook") (a ∷ [])
row_of NoTerms = row 71 0 false (codes "NoTerms") []
row_of (VersionSet a) = row 72 0 false (codes "VersionSet") (decimal a ∷ [])
row_of (TooEarly a) = row 73 0 false (codes "TooEarly") (decimal a ∷ [])
row_of (SeriesOpen a b) = row 74 0 false (codes "SeriesOpen") (decimal a ∷ decimal b ∷ [])
row_of BadStatement = row 75 0 false (codes "BadStatement") []
row_of (PaidTwice a) = row 76 0 false (codes "PaidTwice") (decimal a ∷ [])
row_of (OverSold a) = row 77 0 false (codes "OverSold") (decimal a ∷ [])
row_of NotPlain = row 78 400 false (codes "NotPlain") []
row_of (OverBudget a) = row 79 402 false (codes "OverBudget") (decimal a ∷ [])
row_of NothingDue = row 80 0 false (codes "NothingDue") []
row_of UpstreamFault = row 81 503 false (codes "UpstreamFault") []
row_of NoMemory = row 90 503 false (codes "NoMemory") []
row_of DiskFault = row 91 500 false (codes "DiskFault") []

abbrev pub number_of : Refusal → ℕ
number_of r = (row_of r).number

abbrev pub status_of : Refusal → ℕ
status_of r = (row_of r).status

-- 26 to 33, and a broker's 40 to 45; those of heads and of scrip that is not genuine are not, and 90 and 91 never
abbrev pub is_signed : Refusal → Bool
is_signed r = (row_of r).signed

abbrev pub name_of : Refusal → List ℕ
name_of r = (row_of r).name

abbrev pub kept_of : Refusal → List (List ℕ)
kept_of r = (row_of r).kept

-- each text behind a space
abbrev pub spaced : List (List ℕ) → List ℕ
spaced [] = []
spaced (text ∷ texts) = codes " " ++ (text ++ spaced texts)

-- the text of a refusal: its number, its name and what is kept, with one space between
unfoldable pub refusal_text : Refusal → List ℕ
refusal_text r = decimal (number_of r) ++ spaced (name_of r ∷ kept_of r)
