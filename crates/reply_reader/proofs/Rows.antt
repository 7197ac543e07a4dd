-- What heads say, computed: each field once, twice and never, and the bounds of its numbers.
use Rattle.std.proofs.Common.{◌≡◌, ℕ, true, false, List, [], ◌∷◌, Option, Some, None, refl}
use Rattle.std.specs.Prelude.{codes}
use Rattle.mc_fields.specs.Reading.{literal_at, field_at, field_of}
use Rattle.millicent_http.specs.Fields.{values, same_name}
use Rattle.reply_reader.specs.Said.{HeadSaid, said_by, length_said, is_refusal_text}

abbrev Pair : Type 0
Pair = List ℕ × List ℕ

abbrev len : Pair
len = (codes "Content-Length", codes "12")

abbrev price : Pair
price = (codes "millicent-price", codes "25")

abbrev change : Pair
change = (codes "Millicent-Change", codes "-")

abbrev sign : Pair
sign = (codes "MILLICENT-SIGN", codes "-")

abbrev spent : Pair
spent = (codes "Millicent-Refusal", codes "27 Spent")

abbrev date : Pair
date = (codes "Date", codes "Thu, 01 Jan 1970 00:00:00 GMT")

abbrev says_nothing : Option HeadSaid
says_nothing = None

goods : said_by 200 (date ∷ len ∷ price ∷ change ∷ sign ∷ []) ≡ Some (record { status = 200; refusal = None; price = codes "25"; change = codes "-"; sign = codes "-"; length = 12 })
unfolding values same_name field_of
goods = refl

refused : said_by 409 (sign ∷ spent ∷ change ∷ len ∷ price ∷ []) ≡ Some (record { status = 409; refusal = Some (codes "27 Spent"); price = codes "25"; change = codes "-"; sign = codes "-"; length = 12 })
unfolding values same_name field_of literal_at field_at
refused = refl

-- each field twice
two_lengths : said_by 200 (len ∷ price ∷ change ∷ sign ∷ len ∷ []) ≡ says_nothing
unfolding values same_name field_of
two_lengths = refl

two_prices : said_by 200 (len ∷ price ∷ change ∷ price ∷ sign ∷ []) ≡ says_nothing
unfolding values same_name field_of
two_prices = refl

two_changes : said_by 200 (len ∷ price ∷ change ∷ change ∷ sign ∷ []) ≡ says_nothing
unfolding values same_name field_of
two_changes = refl

two_signs : said_by 200 (sign ∷ len ∷ price ∷ change ∷ sign ∷ []) ≡ says_nothing
unfolding values same_name field_of
two_signs = refl

two_refusals : said_by 409 (len ∷ spent ∷ price ∷ change ∷ sign ∷ spent ∷ []) ≡ says_nothing
unfolding values same_name field_of literal_at field_at
two_refusals = refl

-- and never
no_length : said_by 200 (price ∷ change ∷ sign ∷ []) ≡ says_nothing
unfolding values same_name field_of
no_length = refl

no_price : said_by 200 (len ∷ change ∷ sign ∷ []) ≡ says_nothing
unfolding values same_name field_of
no_price = refl

no_change : said_by 200 (len ∷ price ∷ sign ∷ []) ≡ says_nothing
unfolding values same_name field_of
no_change = refl

no_sign : said_by 200 (len ∷ price ∷ change ∷ []) ≡ says_nothing
unfolding values same_name field_of
no_sign = refl

no_refusal : said_by 409 (len ∷ price ∷ change ∷ sign ∷ []) ≡ says_nothing
unfolding values same_name field_of
no_refusal = refl

refusal_of_200 : said_by 200 (len ∷ spent ∷ price ∷ change ∷ sign ∷ []) ≡ says_nothing
unfolding values same_name field_of literal_at field_at
refusal_of_200 = refl

-- ---- the bounds of the numbers

most : length_said (codes "65536" ∷ []) ≡ Some 65536
unfolding field_of
most = refl

none_at_all : length_said (codes "0" ∷ []) ≡ Some 0
unfolding field_of
none_at_all = refl

one_more : length_said (codes "65537" ∷ []) ≡ None
unfolding field_of
one_more = refl

leading_zero : length_said (codes "012" ∷ []) ≡ None
unfolding field_of
leading_zero = refl

no_digit : length_said ([] ∷ []) ≡ None
unfolding field_of
no_digit = refl

zero_begins : is_refusal_text (codes "0 x") ≡ true
unfolding literal_at field_at
zero_begins = refl

greatest_begins : is_refusal_text (codes "65535 x") ≡ true
unfolding literal_at field_at
greatest_begins = refl

greater_begins_none : is_refusal_text (codes "65536 x") ≡ false
unfolding literal_at field_at
greater_begins_none = refl

no_space_behind : is_refusal_text (codes "27") ≡ false
unfolding literal_at field_at
no_space_behind = refl

zeros_begin_none : is_refusal_text (codes "027 Spent") ≡ false
unfolding literal_at field_at
zeros_begin_none = refl

no_number : is_refusal_text (codes "Spent 27") ≡ false
unfolding literal_at field_at
no_number = refl
