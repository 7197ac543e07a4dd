-- What the head of a reply says.
use Rattle.std.specs.Prelude.{◌≡◌, ℕ, ◌==◌, ◌≤◌, Bool, if◌then◌else◌, List, [], ◌∷◌, length, map, codes, Option, Some, None}
use Rattle.std.specs.Result.{is_ok}
use Rattle.httparse.specs.Grammar.{ResponseHead, ReadsResponse, status_code}
use Rattle.httparse.specs.Spans.{name_and_value}
use Rattle.mc_records.specs.declared.ranges.TheConstants.{MOST_CONTENTS}
use Rattle.millicent_http.specs.Fields.{values}
use Rattle.millicent_http.specs.Decimals.{decimal_of, decimal_until}

-- the status, the values of the Millicent fields, and how many bytes of contents follow the head
pub record HeadSaid : Type 0 where
  pub status : ℕ
  pub refusal : Option (List ℕ)
  pub price : List ℕ
  pub change : List ℕ
  pub sign : List ℕ
  pub length : ℕ

-- the value of a field that stands there exactly once
abbrev pub the_one : List (List ℕ) → Option (List ℕ)
the_one (value ∷ []) = Some value
the_one _ = None

-- where there is a value, what comes of it
abbrev pub given : {A B : Type 0} → Option A → (A → Option B) → Option B
given None next = None
given (Some x) next = next x

-- how many bytes of contents follow: one decimal number of at most 65,536
abbrev pub length_said : List (List ℕ) → Option ℕ
length_said lengths = given (the_one lengths) (decimal_of MOST_CONTENTS)

-- a text that begins with a decimal number of at most 65,535 and a space
abbrev pub is_refusal_text : List ℕ → Bool
is_refusal_text text = is_ok (decimal_until 65535 32 text)

-- a 200 has no refusal, and any other status has one
abbrev pub refusal_said : ℕ → List (List ℕ) → Option (Option (List ℕ))
refusal_said status [] = if status == 200 then Some None else None
refusal_said status (text ∷ []) = if status == 200 then None else if is_refusal_text text then Some (Some text) else None
refusal_said status (text ∷ other ∷ more) = None

-- a head by its status and its fields; None where one is missing, stands there twice, or is out of its form
abbrev pub said_by : ℕ → List (List ℕ × List ℕ) → Option HeadSaid
said_by status fields =
    given (length_said (values (codes "content-length") fields)) (λ len.
    given (the_one (values (codes "millicent-price") fields)) (λ price.
    given (the_one (values (codes "millicent-change") fields)) (λ change.
    given (the_one (values (codes "millicent-sign") fields)) (λ sign.
    given (refusal_said status (values (codes "millicent-refusal") fields)) (λ refusal.
    Some (record { status = status; refusal = refusal; price = price; change = change; sign = sign; length = len }))))))

abbrev pub head_said : ResponseHead → Option HeadSaid
head_said h = said_by (status_code h) (map name_and_value h.fields)

-- the grammar has the text whole as the head h, of at most 64 fields
pub record IsResponse (text : List ℕ) (h : ResponseHead) : Type 0 where
  pub whole : ReadsResponse text h []
  pub fields : length h.fields ≤ 64

-- the text is a head that says this
pub record HeadSays (text : List ℕ) (x : HeadSaid) : Type 0 where
  pub head : ResponseHead
  pub reads : IsResponse text head
  pub said : head_said head ≡ Some x

-- the text is no head of a reply
abbrev pub SaysNothing : List ℕ → Type 0
SaysNothing text = (h : ResponseHead) → IsResponse text h → head_said h ≡ None
