-- The pieces that some bytes spell, one element after the other.
use Rattle.std.specs.Prelude.{ℕ, Bool, ◌&&◌, nat_le, nat_lt, List, [], Result, Ok, Err, is_ok, flat_map}
use Rattle.std.specs.List.{list_all}
use Rattle.mc_fields.specs.Reading.{Read, ◌>>=◌}
use Rattle.mc_fields.specs.Field.{spelled}
use Rattle.mc_fields.specs.Form.{run, repeated, all_of}
use Rattle.mc_records.specs.declared.ranges.TheConstants.{MOST_PIECES}
use Rattle.mc_records.specs.Entry.{Held, held_fields}
use Rattle.mc_records.specs.Forms.{held_form}

-- the joined bytes of the elements
abbrev pub pieces_bytes : List Held → List ℕ
pieces_bytes pieces = spelled (flat_map held_fields pieces)

abbrev pub listed : Result (List Held) ℕ → List Held
listed (Ok pieces) = pieces
listed (Err place) = []

-- the pieces that so many elements spell
abbrev pub pieces_in : ℕ → List ℕ → List Held
pieces_in count bytes = listed (all_of (repeated count held_form) bytes)

abbrev pub is_byte : ℕ → Bool
is_byte b = nat_lt b 256

-- the bytes are so many elements, of which a list has 1 to 256
unfoldable pub are_pieces : ℕ → List ℕ → Bool
are_pieces count bytes = nat_le 1 count && (nat_le count MOST_PIECES && (list_all is_byte bytes && is_ok (all_of (repeated count held_form) bytes)))

-- what stands behind a part that is read
abbrev pub after : {A : Type 0} → Read A → Read (Unit {0})
after (Ok x) = Ok (tt, x.1)
after (Err left) = Err left

-- the element behind so many others
abbrev pub element_at : ℕ → List ℕ → Read Held
element_at n bytes = after (run (repeated n held_form) bytes) >>= λ r. run held_form r.1
