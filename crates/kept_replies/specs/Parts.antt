-- How the program stores requests, and what is kept of entries, in bytes. No clause of a public call cites
-- this. Each part begins where the one before ends: the moment, the price, the secret, the change, the deed,
-- and the texts of the request.
use Rattle.std.specs.Prelude.{◌≡◌, ℕ, ◌+◌, ◌-◌, ◌*◌, ◌^◌, ◌≤◌, ◌<◌, Bool, true, false, List, [], ◌∷◌, length, Result, Ok, Err, slice_range, Option, Some, None}
use Rattle.mc_base.specs.declared.amount.TheConstants.Amount.{MOST}
use Rattle.scrip_form.specs.declared.piece.TheConstants.Piece.{LAST_END}
use Rattle.scrip_form.specs.Scrip.{Scrip, IsScripText}
use Rattle.scrip_form.specs.Reading.{scrip_of}
use Rattle.mc_requests.specs.Requests.{Asked}
use Rattle.kept_replies.specs.declared.deed.Deed.{Deed}
use Rattle.kept_replies.specs.declared.deed.Deed.TheVariants as kept
use Rattle.kept_replies.specs.declared.deed.KeptEntry.{KeptEntry}
use Rattle.kept_replies.specs.declared.change.ChangeParts.{ChangeParts}
use Rattle.kept_replies.specs.declared.change.ChangeParts.TheVariants as changes
use Rattle.kept_replies.specs.declared.parts.DeedParts.{DeedParts}
use Rattle.kept_replies.specs.declared.parts.DeedParts.TheVariants as parts
use Rattle.kept_replies.specs.declared.parts.AskedParts.{AskedParts}
use Rattle.kept_replies.specs.declared.parts.EntryParts.{EntryParts}

-- one buffer goes on where another ends, so that what stood there stands there still
pub record StaysIn (old new : List ℕ) : Type 0 where
  pub longer : length old ≤ length new
  pub parts : (i j : ℕ) → i ≤ j → j ≤ length old → slice_range new i j ≡ slice_range old i j

-- ---- numbers and texts

-- a number by its bytes, the least first
abbrev pub number_in : List ℕ → ℕ
number_in [] = 0
number_in (b ∷ bs) = b + 256 * number_in bs

-- the number, and the text, between two places
abbrev pub number_at : List ℕ → ℕ → ℕ → ℕ
number_at bytes start end = number_in (slice_range bytes start end)

abbrev pub text_if : Bool → List ℕ → ℕ → ℕ → Option (List ℕ)
text_if true bytes start end = Some (slice_range bytes start end)
text_if false bytes start end = None

abbrev pub is_there : Option (List ℕ) → Bool
is_there (Some text) = true
is_there None = false

-- ---- change

-- the piece of a text with another value, identity and expiry
abbrev pub like_read : Result (Scrip × List ℕ) ℕ → ℕ → ℕ → ℕ → Option Scrip
like_read (Ok x) value id expires =
    Some (record { version = x.0.version; vendor = x.0.vendor; value = value; id = id; cust = x.0.cust; expires = expires; props = x.0.props })
like_read (Err place) value id expires = None

abbrev pub like_text : Option (List ℕ) → ℕ → ℕ → ℕ → Option Scrip
like_text (Some text) value id expires = like_read (scrip_of text) value id expires
like_text None value id expires = None

-- the piece of a text
abbrev pub piece_read : Result (Scrip × List ℕ) ℕ → Option Scrip
piece_read (Ok x) = Some x.0
piece_read (Err place) = None

-- where the change ends
abbrev pub change_end : ℕ → ChangeParts → ℕ
change_end start changes.None = start
change_end start (changes.Like value id expires) = expires
change_end start (changes.Other end) = end

-- the change, beside the scrip text of the request
abbrev pub change_in : List ℕ → ℕ → ChangeParts → Option (List ℕ) → Option Scrip
change_in bytes start changes.None scrip = None
change_in bytes start (changes.Like value id expires) scrip = like_text scrip (number_at bytes start value) (number_at bytes value id) (number_at bytes id expires)
change_in bytes start (changes.Other end) scrip = piece_read (scrip_of (slice_range bytes start end))

-- two pieces are alike but for their values, identities and expiries
pub record AreAlike (p q : Scrip) : Type 0 where
  pub version : p.version ≡ q.version
  pub vendor : p.vendor ≡ q.vendor
  pub cust : p.cust ≡ q.cust
  pub props : p.props ≡ q.props

-- a text that is there is a scrip text
abbrev pub IsScripThere : Option (List ℕ) → Type 0
IsScripThere (Some text) = IsScripText text
IsScripThere None = ⊥

-- numbers of a value, an identity and an expiry within the bytes
pub record LikeIsWithin (bytes : List ℕ) (start value id expires : ℕ) : Type 0 where
  pub first : start ≤ value
  pub second : value ≤ id
  pub third : id ≤ expires
  pub within : expires ≤ length bytes
  pub some : 0 < number_at bytes start value
  pub most : number_at bytes start value ≤ MOST
  pub identity : number_at bytes value id < 2 ^ 64
  pub ends : 0 < number_at bytes id expires
  pub last : number_at bytes id expires ≤ LAST_END

-- the parts are the numbers of a piece
abbrev pub IsLike : List ℕ → ℕ → ChangeParts → Scrip → Type 0
IsLike bytes start (changes.Like value id expires) p = LikeIsWithin bytes start value id expires × (number_at bytes start value ≡ p.value) × (number_at bytes value id ≡ p.id) × (number_at bytes id expires ≡ p.expires)
IsLike bytes start _ p = ⊥

pub record TextIsWithin (bytes : List ℕ) (start end : ℕ) : Type 0 where
  pub order : start ≤ end
  pub within : end ≤ length bytes
  pub scrip : IsScripText (slice_range bytes start end)

abbrev pub ChangeIsWithin : List ℕ → ℕ → ChangeParts → Option (List ℕ) → Type 0
ChangeIsWithin bytes start changes.None scrip = start ≤ length bytes
ChangeIsWithin bytes start (changes.Like value id expires) scrip = LikeIsWithin bytes start value id expires × IsScripThere scrip
ChangeIsWithin bytes start (changes.Other end) scrip = TextIsWithin bytes start end

-- ---- deeds

-- what is read of a text that was sold or drawn, with its secret. No text that is kept is read in vain.
abbrev pub sale_of : Result (Scrip × List ℕ) ℕ → List ℕ → Bool → Deed
sale_of (Ok x) secret stock = kept.Sale x.0 x.1 secret stock
sale_of (Err place) secret stock = kept.Goods 0

abbrev pub draw_of : Result (Scrip × List ℕ) ℕ → List ℕ → Deed
draw_of (Ok x) secret = kept.Draw x.0 x.1 secret
draw_of (Err place) secret = kept.Goods 0

-- where the deed ends
abbrev pub deed_end : DeedParts → ℕ
deed_end (parts.Goods end) = end
deed_end (parts.Sale stock end) = end
deed_end (parts.Credit end) = end
deed_end (parts.Draw end) = end

abbrev pub deed_in : List ℕ → ℕ → DeedParts → Deed
deed_in bytes start (parts.Goods end) = kept.Goods (number_at bytes start end)
deed_in bytes start (parts.Sale stock end) = sale_of (scrip_of (slice_range bytes start (end - 16))) (slice_range bytes (end - 16) end) stock
deed_in bytes start (parts.Credit end) = kept.Credit (number_at bytes start end)
deed_in bytes start (parts.Draw end) = draw_of (scrip_of (slice_range bytes start (end - 16))) (slice_range bytes (end - 16) end)

-- the text of a piece with its certificate, and its secret behind it
pub record IsSoldIn (bytes : List ℕ) (start end : ℕ) (piece : Scrip) (cert key : List ℕ) : Type 0 where
  pub read : scrip_of (slice_range bytes start (end - 16)) ≡ Ok (piece, cert)
  pub secret : slice_range bytes (end - 16) end ≡ key

-- they lie within the bytes, and are such ones
pub record SoldIsWithin (bytes : List ℕ) (start end : ℕ) : Type 0 where
  pub order : start + 16 ≤ end
  pub within : end ≤ length bytes
  pub scrip : IsScripText (slice_range bytes start (end - 16))

pub record NumberIsWithin (bytes : List ℕ) (start end : ℕ) : Type 0 where
  pub order : start ≤ end
  pub within : end ≤ length bytes
  pub most : number_at bytes start end < 2 ^ 64

abbrev pub DeedIsWithin : List ℕ → ℕ → DeedParts → Type 0
DeedIsWithin bytes start (parts.Goods end) = NumberIsWithin bytes start end
DeedIsWithin bytes start (parts.Sale stock end) = SoldIsWithin bytes start end
DeedIsWithin bytes start (parts.Credit end) = NumberIsWithin bytes start end
DeedIsWithin bytes start (parts.Draw end) = SoldIsWithin bytes start end

-- ---- entries and requests

-- where the change begins, and the request
abbrev pub change_start : EntryParts → ℕ
change_start e = e.price + 16

abbrev pub entry_end : EntryParts → ℕ
entry_end e = deed_end e.deed

abbrev pub entry_in : ℕ → List ℕ → EntryParts → Option (List ℕ) → KeptEntry
entry_in number bytes e scrip = record {
  number = number;
  moment = number_at bytes 0 e.moment;
  price = number_at bytes e.moment e.price;
  change = change_in bytes (change_start e) e.change scrip;
  secret = slice_range bytes e.price (e.price + 16);
  deed = deed_in bytes (change_end (change_start e) e.change) e.deed;
}

pub record EntryIsWithin (bytes : List ℕ) (e : EntryParts) (scrip : Option (List ℕ)) : Type 0 where
  pub moment : number_at bytes 0 e.moment < 2 ^ 35
  pub price : NumberIsWithin bytes e.moment e.price
  pub secret : e.price + 16 ≤ length bytes
  pub change : ChangeIsWithin bytes (change_start e) e.change scrip
  pub deed : DeedIsWithin bytes (change_end (change_start e) e.change) e.deed

abbrev pub asked_in : List ℕ → ℕ → AskedParts → Asked
asked_in bytes start a = record { target = slice_range bytes start a.target; scrip = text_if a.has_scrip bytes a.target a.scrip; sign = text_if a.has_sign bytes a.scrip a.sign }

pub record AskedIsWithin (size start : ℕ) (a : AskedParts) : Type 0 where
  pub target : start ≤ a.target
  pub scrip : a.target ≤ a.scrip
  pub sign : a.scrip ≤ a.sign
  pub within : a.sign ≤ size

-- what holds of what is stored of a reply: all parts lie within the bytes
pub record AreWithin (bytes : List ℕ) (a : AskedParts) (e : EntryParts) : Type 0 where
  pub asked : AskedIsWithin (length bytes) (entry_end e) a
  pub entry : EntryIsWithin bytes e (asked_in bytes (entry_end e) a).scrip
