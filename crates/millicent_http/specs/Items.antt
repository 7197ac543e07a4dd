-- The items on a link, over the whole list of its bytes.
use Rattle.std.specs.Prelude.{◌≡◌, ◌⊎◌, ℕ, ◌-◌, ◌<◌, ◌≤◌, Bool, true, false, not, ◌||◌, ◌&&◌, ◌==◌, List, [], ◌∷◌, length, take, drop, map, codes, slice_range, if◌then◌else◌}
use Rattle.std.specs.List.{list_any}
use Rattle.std.specs.Str.{bytes_eq}
use Rattle.httparse.specs.Grammar.{RequestHead, ReadsRequest}
use Rattle.httparse.specs.Spans.{name_and_value}
use Rattle.mc_requests.specs.Requests.{Asked}
use Rattle.mc_requests.specs.declared.refusal.Refusal.{Refusal}
use Rattle.mc_requests.specs.declared.refusal.Refusal.TheVariants.{BadHead, HeadTooLarge, NoHost, BodyRefused, BadTarget, BadMethod, RepeatedField}
use Rattle.millicent_http.specs.HeadEnds.{line_ends, HasNoEnd, IsFirstEnd}
use Rattle.millicent_http.specs.Fields.{values, host_is_fit, says_body, says_close, at_most_one, first_of}
use Rattle.scrip_form.specs.Texts.{is_target}
use Rattle.millicent_http.specs.declared.reader.TheConstants.{MAX_HEAD, MAX_ITEMS}

-- a request or a refusal, and whether the link ends after its reply
pub data Item : Type 0 where
  request : Asked → Bool → Item
  refused : Refusal → Bool → Item

abbrev pub closes : Item → Bool
closes (request a c) = c
closes (refused r c) = c

-- a head by its fields: the first of 12 to 16 that applies, or the request
unfoldable pub judged : List ℕ → List ℕ → ℕ → List (List ℕ × List ℕ) → Item
judged method target minor fields =
    let scrips = values (codes "millicent-scrip") fields in
    let signs = values (codes "millicent-sign") fields in
    let close = minor == 0 || list_any says_close fields in
    if not (host_is_fit minor (values (codes "host") fields)) then refused NoHost close
    else if list_any says_body fields then refused BodyRefused true
    else if not (is_target target) then refused BadTarget close
    else if not (bytes_eq method (codes "GET")) then refused BadMethod close
    else if at_most_one scrips && at_most_one signs then request (record { target = target; scrip = first_of scrips; sign = first_of signs }) close
    else refused RepeatedField close

abbrev pub judged_head : RequestHead → Item
judged_head h = judged h.method h.target h.minor (map name_and_value h.fields)

-- the grammar has the text whole as the head h, of at most 64 fields
pub record IsHead (text : List ℕ) (h : RequestHead) : Type 0 where
  pub whole : ReadsRequest text h []
  pub fields : length h.fields ≤ 64

-- a text up to its first empty line's end is this item
abbrev pub ReadsItem : List ℕ → Item → Type 0
ReadsItem text item =
    ((h : RequestHead) × IsHead text h × (item ≡ judged_head h))
    ⊎ (((h : RequestHead) → ¬ (IsHead text h)) × (item ≡ refused BadHead true))

-- the greatest head, with the line ends before it
unfoldable pub max_head : ℕ
max_head = MAX_HEAD

-- the bytes begin with this item, and these bytes follow it
pub record IsWhole (bytes : List ℕ) (end : ℕ) (item : Item) (rest : List ℕ) : Type 0 where
  pub first : IsFirstEnd (take max_head bytes) end
  pub reads : ReadsItem (slice_range (take max_head bytes) (line_ends (take max_head bytes)) end) item
  pub after : rest ≡ drop end bytes

pub record IsTooLarge (bytes : List ℕ) (item : Item) (rest : List ℕ) : Type 0 where
  pub none : HasNoEnd (take max_head bytes) max_head
  pub long : max_head ≤ length bytes
  pub is : item ≡ refused HeadTooLarge true
  pub after : rest ≡ drop max_head bytes

abbrev pub NextItem : List ℕ → Item → List ℕ → Type 0
NextItem bytes item rest = ((end : ℕ) × IsWhole bytes end item rest) ⊎ IsTooLarge bytes item rest

-- the bytes end no item
pub record EndsNoItem (bytes : List ℕ) : Type 0 where
  pub short : length bytes < max_head
  pub none : HasNoEnd bytes (length bytes)

-- at most so many items on these bytes, up to one that closes the link
abbrev pub AreItems : ℕ → List ℕ → List Item → Type 0
AreItems limit bytes [] = (limit ≡ 0) ⊎ EndsNoItem bytes
AreItems limit bytes (item ∷ items) =
    (0 < limit) × ((rest : List ℕ) × NextItem bytes item rest
    × (closes item ≡ true → items ≡ []) × (closes item ≡ false → AreItems (limit - 1) rest items))

-- the items on a link
abbrev pub Heads : List ℕ → List Item → Type 0
Heads bytes items = AreItems MAX_ITEMS bytes items
