-- The bytes of a reply's head, and the reply text that is signed, as functions of the reply's values.
use Rattle.std.specs.Prelude.{ℕ, ◌==◌, List, [], ◌++◌, codes, decimal, if◌then◌else◌, Option, Some, None, option_map}
use Rattle.hex.specs.Hex.{encode_lower}
use Rattle.mc_requests.specs.declared.refusal.Refusal.{Refusal}
use Rattle.mc_requests.specs.Refusals.{refusal_text}
use Rattle.mc_requests.specs.Dates.{date_of}

-- The values of a reply: its status, the moment of its date, the kind and the length of its contents
-- (no kind in a refusal), the refusal, the price, the scrip text of the change, and the signature.
pub record Reply : Type 0 where
  pub status : ℕ
  pub date : ℕ
  pub kind : Option ℕ
  pub length : ℕ
  pub refusal : Option Refusal
  pub price : Option ℕ
  pub change : Option (List ℕ)
  pub sign : Option (List ℕ)

-- the reason of a status (RFC 9110, 15), of which a site has twelve
abbrev pub reason : ℕ → List ℕ
reason status =
    if status == 200 then codes "OK"
    else if status == 400 then codes "Bad Request"
    else if status == 402 then codes "Payment Required"
    else if status == 403 then codes "Forbidden"
    else if status == 404 then codes "Not Found"
    else if status == 405 then codes "Method Not Allowed"
    else if status == 409 then codes "Conflict"
    else if status == 410 then codes "Gone"
    else if status == 413 then codes "Content Too Large"
    else if status == 431 then codes "Request Header Fields Too Large"
    else if status == 500 then codes "Internal Server Error"
    else codes "Service Unavailable"

-- the media type of a kind of contents
abbrev pub media_type : ℕ → List ℕ
media_type kind =
    if kind == 0 then codes "application/octet-stream"
    else if kind == 1 then codes "text/plain; charset=utf-8"
    else codes "text/html; charset=utf-8"

-- a field line
abbrev pub field : List ℕ → List ℕ → List ℕ
field name value = name ++ codes ": " ++ value ++ codes "\r\n"

-- a field line where there is a value
abbrev pub field_if : List ℕ → Option (List ℕ) → List ℕ
field_if name None = []
field_if name (Some value) = field name value

-- a value, or `-` where there is none
abbrev pub or_dash : Option (List ℕ) → List ℕ
or_dash None = codes "-"
or_dash (Some text) = text

abbrev pub allow_line : ℕ → List ℕ
allow_line status = if status == 405 then field (codes "Allow") (codes "GET") else []

abbrev pub status_line : ℕ → List ℕ
status_line status = codes "HTTP/1.1 " ++ decimal status ++ codes " " ++ reason status ++ codes "\r\n"

-- the head of a reply, with the empty line that ends it
unfoldable pub reply_head : Reply → List ℕ
reply_head r =
    status_line r.status
    ++ field (codes "Date") (date_of r.date)
    ++ field (codes "Cache-Control") (codes "no-store")
    ++ field_if (codes "Content-Type") (option_map media_type r.kind)
    ++ allow_line r.status
    ++ field (codes "Content-Length") (decimal r.length)
    ++ field_if (codes "Millicent-Refusal") (option_map refusal_text r.refusal)
    ++ field (codes "Millicent-Price") (or_dash (option_map decimal r.price))
    ++ field (codes "Millicent-Change") (or_dash r.change)
    ++ field (codes "Millicent-Sign") (or_dash (option_map encode_lower r.sign))
    ++ codes "\r\n"

-- what a reply's signature is made of, up to and with its line feed: status, refusal, price and
-- change, each `-` where there is none; the contents follow it
unfoldable pub reply_text : Reply → List ℕ
reply_text r =
    decimal r.status
    ++ codes " " ++ or_dash (option_map refusal_text r.refusal)
    ++ codes " " ++ or_dash (option_map decimal r.price)
    ++ codes " " ++ or_dash r.change
    ++ codes "\n"
