-- The marks by which the program finds kept replies: a mark is the number of a reply's entry. No clause
-- of a public call cites this.
use Rattle.std.specs.Prelude.{ℕ, ◌+◌, ◌-◌, ◌*◌, ◌/◌, ◌%◌, ◌^◌, Bool, false, not, ◌&&◌, ◌||◌, ◌==◌, nat_lt, if◌then◌else◌, List, [], length, drop, sum_by, slice_index_or, Option, Some, None}
use Rattle.std.specs.Bool.{then_some}
use Rattle.std.specs.List.{list_any}
use Rattle.std.specs.Int.{from_le_bytes, w128}
use Rattle.mc_requests.specs.Requests.{Asked}
use Rattle.kept_replies.specs.declared.index.TheConstants.{TAGS, MARKS, SHORTS, SCRAMBLE}
use Rattle.kept_replies.specs.Kept.{KeptReply}

-- the slots of each bucket, the older marks, and whether there is a place for one more
pub record IndexView : Type 0 where
  pub buckets : List (List ℕ)
  pub older : List ℕ
  pub has_place : Bool

-- the last sixteen bytes of a text as a number, whose least byte is the first, modulo the number of tags; 0
-- where it is shorter
abbrev pub text_tag : List ℕ → ℕ
text_tag text = if nat_lt (length text) 16 then 0 else from_le_bytes w128 (drop (length text - 16) text) % TAGS

-- the same of the first of two texts that is there, and 0 where neither is
abbrev pub tag_if : Option (List ℕ) → Option (List ℕ) → ℕ
tag_if (Some text) other = text_tag text
tag_if None (Some other) = text_tag other
tag_if None None = 0

-- the tag of a request: that of its scrip text, or else of its signature
abbrev pub request_tag : Asked → ℕ
request_tag q = tag_if q.scrip q.sign

-- whether a mark that may be there passes a test
abbrev pub passes_if : (ℕ → Bool) → Option ℕ → Bool
passes_if p None = false
passes_if p (Some m) = p m

-- which of so many buckets is the first one of a tag with these last bits, and which its second
unfoldable pub first_place : ℕ → ℕ → ℕ
first_place short count = short * count % 2 ^ 64 / SHORTS

unfoldable pub second_place : ℕ → ℕ → ℕ
second_place short count = first_place (short * SCRAMBLE % 2 ^ 64 % SHORTS) count

-- the slots of a bucket, none where there is no such bucket
abbrev pub bucket_at : List (List ℕ) → ℕ → List ℕ
bucket_at buckets at = slice_index_or buckets at []

-- the mark in a slot, where it has the last bits of this tag; 0 is an empty slot
unfoldable pub marked_in : ℕ → ℕ → Option ℕ
marked_in tag slot = then_some (not (slot == 0) && slot / MARKS == tag % SHORTS) (slot % MARKS)

-- whether that mark passes a test
abbrev pub slot_leads : ℕ → (ℕ → Bool) → ℕ → Bool
slot_leads tag p slot = passes_if p (marked_in tag slot)

-- whether a bucket leads from a tag to a mark that passes a test
abbrev pub bucket_leads : List (List ℕ) → ℕ → ℕ → (ℕ → Bool) → Bool
bucket_leads buckets at tag p = list_any (slot_leads tag p) (bucket_at buckets at)

-- whether the marks lead from a tag to one that passes a test: one in the first or the second bucket of the
-- tag does, or an older one of any tag
abbrev pub leads_in : List (List ℕ) → List ℕ → ℕ → (ℕ → Bool) → Bool
leads_in buckets older tag p =
    bucket_leads buckets (first_place (tag % SHORTS) (length buckets)) tag p
    || bucket_leads buckets (second_place (tag % SHORTS) (length buckets)) tag p
    || list_any p older

abbrev pub leads : IndexView → ℕ → (ℕ → Bool) → Bool
leads index tag p = leads_in index.buckets index.older tag p

-- whether a mark is that of a reply
abbrev pub is_mark_of : KeptReply → ℕ → Bool
is_mark_of r m = m == r.entry.number

-- how many marks a slot has, how many some slots have, how many some buckets have with the older marks, and how many
-- there are
abbrev pub counted : ℕ → ℕ
counted slot = if slot == 0 then 0 else 1

abbrev pub taken_in : List ℕ → ℕ
taken_in slots = sum_by counted slots

abbrev pub marks_in : List (List ℕ) → List ℕ → ℕ
marks_in buckets older = sum_by taken_in buckets + length older

abbrev pub marks : IndexView → ℕ
marks index = marks_in index.buckets index.older
