-- Where the values of a head stand in its text.
use Rattle.std.specs.Prelude.{◌≡◌, ℕ, ◌<◌, ◌≤◌, List, [], ◌∷◌, length, Option, Some, None, option_map, ⊤}
use Rattle.httparse.specs.declared.spans.Span.{Span}
use Rattle.httparse.specs.Spans.{IsWithin, span_bytes}
use Rattle.mc_records.specs.declared.ranges.TheConstants.{MOST_CONTENTS}
use Rattle.reply_reader.specs.declared.places.Place.{Place}
use Rattle.reply_reader.specs.declared.places.Place.TheVariants.{Nowhere, Once, Again}
use Rattle.reply_reader.specs.declared.head.HeadPlaces.{HeadPlaces}
use Rattle.reply_reader.specs.Said.{HeadSaid}

-- the values of a field, which stands there
abbrev pub Stands : List ℕ → List (List ℕ) → Place → Type 0
Stands text values Nowhere = values ≡ []
Stands text values (Once s) = IsWithin (length text) s × (values ≡ span_bytes text s ∷ [])
Stands text values Again = 1 < length values

-- the span, if there is one, lies in the first n bytes
abbrev pub MayBeWithin : ℕ → Option Span → Type 0
MayBeWithin n None = ⊤
MayBeWithin n (Some s) = IsWithin n s

-- each place lies in the first n bytes, and the length is in its range
pub record AreWithin (n : ℕ) (h : HeadPlaces) : Type 0 where
  pub refusal : MayBeWithin n h.refusal
  pub price : IsWithin n h.price
  pub change : IsWithin n h.change
  pub sign : IsWithin n h.sign
  pub contents : h.length ≤ MOST_CONTENTS

-- what stands there in the text
abbrev pub said_at : List ℕ → HeadPlaces → HeadSaid
said_at text h = record {
  status = h.status;
  refusal = option_map (span_bytes text) h.refusal;
  price = span_bytes text h.price;
  change = span_bytes text h.change;
  sign = span_bytes text h.sign;
  length = h.length;
}
