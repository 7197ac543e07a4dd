-- When two requests are the same, and how many bytes they have.
use Rattle.std.specs.Prelude.{ℕ, ◌+◌, Bool, true, false, ◌&&◌, List, length, Option, Some, None, bytes_eq}
use Rattle.mc_requests.specs.Requests.{Asked}

-- whether two texts, either of which may be absent, are the same
abbrev pub is_same_text : Option (List ℕ) → Option (List ℕ) → Bool
is_same_text None None = true
is_same_text (Some a) (Some b) = bytes_eq a b
is_same_text _ _ = false

-- whether two requests are the same: in target, scrip text and signature, or their absence
abbrev pub is_same_request : Asked → Asked → Bool
is_same_request a b = bytes_eq a.target b.target && is_same_text a.scrip b.scrip && is_same_text a.sign b.sign

-- how many bytes a text has, none where there is no text
abbrev pub size_of_text : Option (List ℕ) → ℕ
size_of_text (Some text) = length text
size_of_text None = 0

-- how many bytes the texts of a request have together
abbrev pub text_size : Asked → ℕ
text_size q = length q.target + size_of_text q.scrip + size_of_text q.sign
