-- The one text of a piece with its certificate.
use Rattle.std.specs.Prelude.{◌≡◌, ℕ, ◌<◌, ◌≤◌, ◌==◌, ◌^◌, if◌then◌else◌, List, [], ◌++◌, length, take, codes, decimal}
use Rattle.std.specs.List.{AllByRecursion, starts_with}
use Rattle.mc_fields.specs.Texts.{IsNumber}
use Rattle.std.specs.Int.{w64, to_be_bytes}
use Rattle.hex.specs.Hex.{encode_lower}
use Rattle.mc_base.specs.declared.amount.TheConstants.Amount.{MOST}
use Rattle.scrip_form.specs.declared.piece.TheConstants.Piece.{LAST_END, LATEST_VERSION}
use Rattle.scrip_form.specs.Texts.{IsName, IsProps}

-- a piece of scrip, in a version
pub record Scrip : Type 0 where
  pub version : ℕ
  pub vendor : List ℕ
  pub value : ℕ
  pub id : ℕ
  pub cust : ℕ
  pub expires : ℕ
  pub props : List ℕ

-- the versions there are
abbrev pub IsVersion : ℕ → Type 0
IsVersion n = IsNumber LATEST_VERSION n

pub record IsPiece (p : Scrip) : Type 0 where
  pub version : IsVersion p.version
  pub vendor : IsName p.vendor
  pub some : 0 < p.value
  pub most : p.value ≤ MOST
  pub id : p.id < 2 ^ 64
  pub cust : p.cust < 2 ^ 64
  pub ends : 0 < p.expires
  pub last : p.expires ≤ LAST_END
  pub props : IsProps p.props

-- 16 bytes
abbrev pub IsCert : List ℕ → Type 0
IsCert cert = (length cert ≡ 16) × AllByRecursion (λ b. b < 256) cert

-- an identity as 16 hex digits
abbrev pub id_digits : ℕ → List ℕ
id_digits id = encode_lower (to_be_bytes w64 id)

-- a field and the `|` behind it
abbrev pub barred : List ℕ → List ℕ
barred field = field ++ codes "|"

-- the mark of the version that a piece is spelled in: `MS1|` or `MS2|`
abbrev pub version_mark : Scrip → List ℕ
version_mark p = codes "MS" ++ barred (decimal p.version)

-- `MS1|vendor|value|id|cust|expires|props|`, with the mark of the version, and then what follows
abbrev pub body_then : Scrip → List ℕ → List ℕ
body_then p rest = version_mark p ++ (barred p.vendor ++ (barred (decimal p.value) ++ (barred (id_digits p.id) ++ (barred (id_digits p.cust) ++ (barred (decimal p.expires) ++ (barred p.props ++ rest))))))

unfoldable pub scrip_body : Scrip → List ℕ
scrip_body p = body_then p []

unfoldable pub scrip_text : Scrip → List ℕ → List ℕ
scrip_text p cert = body_then p (encode_lower cert)

pub record IsTextOf (bytes : List ℕ) (p : Scrip) (cert : List ℕ) : Type 0 where
  pub is_piece : IsPiece p
  pub is_cert : IsCert cert
  pub spelled : bytes ≡ scrip_text p cert

-- the bytes are a scrip text
abbrev pub IsScripText : List ℕ → Type 0
IsScripText bytes = (p : Scrip) × (cert : List ℕ) × IsTextOf bytes p cert

-- the bytes are a prefix of some scrip text
abbrev pub BeginsScripText : List ℕ → Type 0
BeginsScripText front = (rest : List ℕ) × IsScripText (front ++ rest)

-- the first bytes, as many as place says, are the longest prefix that begins a scrip text
pub record IsFaultPlace (bytes : List ℕ) (place : ℕ) : Type 0 where
  pub within : place ≤ length bytes
  pub begins : BeginsScripText (take place bytes)
  pub longest : (n : ℕ) → n ≤ length bytes → BeginsScripText (take n bytes) → n ≤ place

-- the version of what a text is of: 2 where it begins with `MS2|`, else 1
unfoldable pub text_version : List ℕ → ℕ
text_version text = if starts_with (λ a b. a == b) text (codes "MS2|") then 2 else 1

-- a scrip text, and what it is the text of
pub record Certified : Type 0 where
  pub text : List ℕ
  pub piece : Scrip
  pub cert : List ℕ
