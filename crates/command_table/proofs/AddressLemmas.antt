-- Words that name a place to listen at or to connect to, read from the front.
use Rattle.std.proofs.Common.{◌≡◌, ◌∙◌, ℕ, Bool, true, false, List, [], ◌∷◌, ◌++◌, Option, Some, None, is_some, refl, sym, ap, append_assoc, arith}
use Rattle.std.specs.Prelude.{IsNone, IfSome, IsTrue, ◌↔◌, decimal}
use Rattle.mc_fields.specs.Texts.{IsText}
use Rattle.mc_fields.specs.Reading.{Read, text_at}
use Rattle.mc_fields.proofs.Formats.{Reads, done, failed, done_is, not_both}
use Rattle.mc_fields.proofs.FieldLaws.{with_stop}
use Rattle.mc_fields.proofs.TextField.{text_reads}
use Rattle.command_table.specs.Ranges.{IsBracketedAndPort, IsHostAndPort, IsWithin, is_address_byte, is_host_byte}
use Rattle.command_table.specs.declared.address.TheConstants.{MOST_HOST, MOST_PORT}

-- ---- a text and the byte behind it

abbrev IsPart : (ℕ → Bool) → List ℕ → Type 0
IsPart is text = IsText is is 1 MOST_HOST text

abbrev part_at : (ℕ → Bool) → ℕ → List ℕ → Read (List ℕ)
part_at is stop word = text_at is is 1 MOST_HOST stop word

part_reads : (is : ℕ → Bool) (stop : ℕ) → is stop ≡ false → is 97 ≡ true → Reads (with_stop stop (λ (s : List ℕ). s)) (IsPart is) (part_at is stop)
part_reads is stop bar some = text_reads is is stop (record { first_bar = bar; other_bar = bar; stronger = λ c e. e }) 97 some 1 MOST_HOST (omega arith) (omega arith)

part_found : (is : ℕ → Bool) (stop : ℕ) → is stop ≡ false → is 97 ≡ true → (word text rest : List ℕ) → part_at is stop word ≡ done (text, rest) → (word ≡ text ++ stop ∷ rest) × IsPart is text
part_found is stop bar some word text rest e =
    let found = (part_reads is stop bar some).sound word text rest e in
    (found.0 ∙ append_assoc text (stop ∷ []) rest, found.1)

part_again : (is : ℕ → Bool) (stop : ℕ) → is stop ≡ false → is 97 ≡ true → (word text rest : List ℕ) → IsPart is text → word ≡ text ++ stop ∷ rest → part_at is stop word ≡ done (text, rest)
part_again is stop bar some word text rest fits e = ap (part_at is stop) (e ∙ sym (append_assoc text (stop ∷ []) rest)) ∙ (part_reads is stop bar some).again text rest fits

same_behind : (is : ℕ → Bool) (stop : ℕ) → is stop ≡ false → is 97 ≡ true → (word text rest other more : List ℕ) → part_at is stop word ≡ done (text, rest) → IsPart is other → word ≡ other ++ stop ∷ more
    → rest ≡ more
same_behind is stop bar some word text rest other more e fits spelled =
    ap (λ (p : List ℕ × List ℕ). p.1) (done_is (text, rest) (other, more) (sym e ∙ part_again is stop bar some word other more fits spelled))

none_behind : (is : ℕ → Bool) (stop : ℕ) → is stop ≡ false → is 97 ≡ true → (word : List ℕ) (left : ℕ) (other more : List ℕ) → part_at is stop word ≡ failed left → IsPart is other → word ≡ other ++ stop ∷ more → ⊥
none_behind is stop bar some word left other more e fits spelled = not_both (other, more) left (sym (part_again is stop bar some word other more fits spelled) ∙ e)

-- ---- a port

-- what a reader of a port told of these bytes
abbrev pub IsPortTold : ℕ → List ℕ → Option ℕ → Type 0
IsPortTold least bytes r = IfSome r (λ n. IsWithin least MOST_PORT n × (bytes ≡ decimal n)) × (IsNone r → (n : ℕ) → IsWithin least MOST_PORT n → bytes ≡ decimal n → ⊥)

-- ---- a host and a port

pub host_told : (least : ℕ) (word host port : List ℕ) (r : Option ℕ) → text_at is_host_byte is_host_byte 1 MOST_HOST 58 word ≡ done (host, port) → IsPortTold least port r
    → IsTrue (is_some r) ↔ IsHostAndPort least word
host_told least word host port (Some n) e told =
    let found = part_found is_host_byte 58 refl refl word host port e in (
      λ t. record { host = host; port = n; word' = found.0 ∙ ap (λ (l : List ℕ). host ++ 58 ∷ l) told.0.1; host' = found.1; port' = told.0.0 },
      λ is. refl,
    )
host_told least word host port None e told = (
  λ t. absurd (cc t),
  λ is. absurd (told.1 refl is.port is.port' (same_behind is_host_byte 58 refl refl word host port is.host (decimal is.port) e is.host' is.word')),
)

pub no_host : (least : ℕ) (word : List ℕ) (left : ℕ) → text_at is_host_byte is_host_byte 1 MOST_HOST 58 word ≡ failed left → IsHostAndPort least word → ⊥
no_host least word left e is = none_behind is_host_byte 58 refl refl word left is.host (decimal is.port) e is.host' is.word'

-- ---- an address in brackets and a port

same_rest : (c d : ℕ) (xs ys : List ℕ) → c ∷ xs ≡ d ∷ ys → xs ≡ ys
same_rest c d xs ys e = cc

pub bracketed_told : (least : ℕ) (rest host port : List ℕ) (r : Option ℕ) → text_at is_address_byte is_address_byte 1 MOST_HOST 93 rest ≡ done (host, 58 ∷ port) → IsPortTold least port r
    → IsTrue (is_some r) ↔ IsBracketedAndPort least (91 ∷ rest)
bracketed_told least rest host port (Some n) e told =
    let found = part_found is_address_byte 93 refl refl rest host (58 ∷ port) e in (
      λ t. record { host = host; port = n; word' = ap (λ (l : List ℕ). 91 ∷ l) (found.0 ∙ ap (λ (l : List ℕ). host ++ 93 ∷ 58 ∷ l) told.0.1); host' = found.1; port' = told.0.0 },
      λ is. refl,
    )
bracketed_told least rest host port None e told = (
  λ t. absurd (cc t),
  λ is.
      let inner = same_rest 91 91 rest (is.host ++ 93 ∷ 58 ∷ decimal is.port) is.word' in
      let behind = same_behind is_address_byte 93 refl refl rest host (58 ∷ port) is.host (58 ∷ decimal is.port) e is.host' inner in
      absurd (told.1 refl is.port is.port' (same_rest 58 58 port (decimal is.port) behind)),
)

pub no_bracketed : (least : ℕ) (rest : List ℕ) (left : ℕ) → text_at is_address_byte is_address_byte 1 MOST_HOST 93 rest ≡ failed left → IsBracketedAndPort least (91 ∷ rest) → ⊥
no_bracketed least rest left e is =
    let inner = same_rest 91 91 rest (is.host ++ 93 ∷ 58 ∷ decimal is.port) is.word' in
    none_behind is_address_byte 93 refl refl rest left is.host (58 ∷ decimal is.port) e is.host' inner

pub no_colon : (least : ℕ) (rest host behind : List ℕ) → text_at is_address_byte is_address_byte 1 MOST_HOST 93 rest ≡ done (host, behind) → ((port : List ℕ) → behind ≡ 58 ∷ port → ⊥)
    → IsBracketedAndPort least (91 ∷ rest) → ⊥
no_colon least rest host behind e none is =
    let inner = same_rest 91 91 rest (is.host ++ 93 ∷ 58 ∷ decimal is.port) is.word' in
    none (decimal is.port) (same_behind is_address_byte 93 refl refl rest host behind is.host (58 ∷ decimal is.port) e is.host' inner)
