-- The ranges of the values that words spell.
use Rattle.std.specs.Prelude.{◌≡◌, ◌⊎◌, ℕ, ◌<◌, ◌≤◌, ◌&&◌, ◌||◌, ◌==◌, nat_lt, nat_le, Bool, List, ◌++◌, length, map, codes, decimal}
use Rattle.std.specs.List.{AllByRecursion, join_with_byte}
use Rattle.hex.specs.Hex.{encode_lower}
use Rattle.mc_fields.specs.Texts.{IsText}
use Rattle.scrip_form.specs.Scrip.{IsCert}
use Rattle.command_table.specs.declared.address.TheConstants.{MOST_HOST, MOST_PORT, MOST_SOCKET}
use Rattle.command_table.specs.declared.value.TheConstants.{MOST_PLACE}
use Rattle.scrip_form.specs.Issuing.{Issuing, HasPeriod}

-- a word that names a book, a place to listen at or a place to connect to has 1 to 255 bytes
pub record IsPathOrAddress (word : List ℕ) : Type 0 where
  pub some : 0 < length word
  pub short : length word ≤ MOST_PLACE

-- the test of it
abbrev pub is_path_or_address : List ℕ → Bool
is_path_or_address word = nat_lt 0 (length word) && nat_le (length word) MOST_PLACE

-- a number from the least to the most
pub record IsWithin (least most n : ℕ) : Type 0 where
  pub least' : least ≤ n
  pub most' : n ≤ most

-- ---- places to listen at and to connect to

-- what the name of a host or its address has: `a` to `z`, `A` to `Z`, `0` to `9`, `-`, `.` and `_`
abbrev pub is_host_byte : ℕ → Bool
is_host_byte c = (nat_le 97 c && nat_le c 122) || ((nat_le 65 c && nat_le c 90) || ((nat_le 48 c && nat_le c 57) || (c == 45 || (c == 46 || c == 95))))

-- what an address of version 6 has: hex digits, `:`, `.`, and `%` before a zone
abbrev pub is_address_byte : ℕ → Bool
is_address_byte c = (nat_le 97 c && nat_le c 102) || ((nat_le 65 c && nat_le c 70) || ((nat_le 48 c && nat_le c 57) || (c == 58 || (c == 46 || c == 37))))

-- a host, a colon, and a port from the least on
pub record IsHostAndPort (least : ℕ) (word : List ℕ) : Type 0 where
  pub host : List ℕ
  pub port : ℕ
  pub word' : word ≡ host ++ (codes ":" ++ decimal port)
  pub host' : IsText is_host_byte is_host_byte 1 MOST_HOST host
  pub port' : IsWithin least MOST_PORT port

-- an address of version 6 in square brackets, a colon, and a port from the least on
pub record IsBracketedAndPort (least : ℕ) (word : List ℕ) : Type 0 where
  pub host : List ℕ
  pub port : ℕ
  pub word' : word ≡ codes "[" ++ (host ++ (codes "]:" ++ decimal port))
  pub host' : IsText is_address_byte is_address_byte 1 MOST_HOST host
  pub port' : IsWithin least MOST_PORT port

abbrev pub IsAddress : ℕ → List ℕ → Type 0
IsAddress least word = IsHostAndPort least word ⊎ IsBracketedAndPort least word

-- the path of a Unix socket: a slash, and a byte or more behind it
pub record IsSocketPath (word : List ℕ) : Type 0 where
  pub behind : List ℕ
  pub word' : word ≡ codes "/" ++ behind
  pub some : 0 < length behind
  pub short : length word ≤ MOST_SOCKET

-- a place to connect to: an address, the port of which is no 0
abbrev pub IsConnect : List ℕ → Type 0
IsConnect word = IsPathOrAddress word × IsAddress 1 word

-- a place of a Unix socket
abbrev pub IsSocket : List ℕ → Type 0
IsSocket word = IsPathOrAddress word × IsSocketPath word

-- a place to listen at: an address, where port 0 has the system choose one, or the path of a Unix socket
abbrev pub IsListen : List ℕ → Type 0
IsListen word = IsPathOrAddress word × (IsSocketPath word ⊎ IsAddress 0 word)

-- ---- secrets

-- 1 to 16 secrets of sixteen bytes
pub record IsSecretList (secrets : List (List ℕ)) : Type 0 where
  pub some : 0 < length secrets
  pub few : length secrets ≤ 16
  pub secrets' : AllByRecursion IsCert secrets

-- the word of some secrets: the hex digits of each, with a comma between each two
abbrev pub joined : List (List ℕ) → List ℕ
joined secrets = join_with_byte 44 (map encode_lower secrets)

-- the ranges of an issuer's terms, whoever the issuer is
pub record AreTerms (terms : Issuing) : Type 0 where
  pub period : HasPeriod terms.period terms.life
  pub scrip : IsSecretList terms.scrip
  pub customer : IsSecretList terms.customer
