-- Reading a scrip text: its fields one after the other.
use Rattle.std.specs.Prelude.{ℕ, Bool, List, length, Result, is_ok, codes}
use Rattle.std.specs.Int.{w64, from_be_bytes}
use Rattle.mc_fields.specs.Reading.{Read, pair_at, map_read, whole, literal_at, text_at, number_at, hex_at}
use Rattle.scrip_form.specs.Texts.{is_letter_or_digit, is_name_byte, is_props_byte}
use Rattle.mc_base.specs.declared.amount.TheConstants.Amount.{MOST}
use Rattle.scrip_form.specs.declared.piece.TheConstants.Piece.{LAST_END, LATEST_VERSION}
use Rattle.scrip_form.specs.Scrip.{Scrip}

-- a name and the byte that stops it
abbrev pub name_until : ℕ → List ℕ → Read (List ℕ)
name_until stop bytes = text_at is_letter_or_digit is_name_byte 1 63 stop bytes

-- a name, and so below a number, an identity and props, with the `|` behind it
abbrev pub name_at : List ℕ → Read (List ℕ)
name_at bytes = name_until 124 bytes

abbrev pub amount_at : ℕ → List ℕ → Read ℕ
amount_at most bytes = number_at most 124 bytes

unfoldable pub id_at : List ℕ → Read ℕ
id_at bytes = map_read (λ x. from_be_bytes w64 x.0) (pair_at (hex_at 8) (literal_at (codes "|")) bytes)

abbrev pub props_at : List ℕ → Read (List ℕ)
props_at bytes = text_at is_props_byte is_props_byte 0 128 124 bytes

-- the mark of the version, before its number
abbrev pub mark_at : List ℕ → Read (Unit {0})
mark_at bytes = literal_at (codes "MS") bytes

-- what is read of a text
abbrev pub AllFields : Type 0
AllFields = Unit {0} × (ℕ × (List ℕ × (ℕ × (ℕ × (ℕ × (ℕ × (List ℕ × List ℕ)))))))

abbrev pub all_fields_at : List ℕ → Read AllFields
all_fields_at bytes =
    pair_at mark_at (pair_at (amount_at LATEST_VERSION) (pair_at name_at (pair_at (amount_at MOST) (pair_at id_at (pair_at id_at (pair_at (amount_at LAST_END) (pair_at props_at (hex_at 16)))))))) bytes

-- a piece and its certificate
abbrev pub piece_of_fields : AllFields → Scrip × List ℕ
piece_of_fields x = (
  record { version = x.1.0; vendor = x.1.1.0; value = x.1.1.1.0; id = x.1.1.1.1.0; cust = x.1.1.1.1.1.0; expires = x.1.1.1.1.1.1.0; props = x.1.1.1.1.1.1.1.0 },
  x.1.1.1.1.1.1.1.1,
)

unfoldable pub scrip_at : List ℕ → Read (Scrip × List ℕ)
scrip_at bytes = map_read piece_of_fields (all_fields_at bytes)

-- all of the bytes: a piece and its certificate, or the place of the fault
unfoldable pub scrip_of : List ℕ → Result (Scrip × List ℕ) ℕ
scrip_of bytes = whole (length bytes) (scrip_at bytes)

-- the test of a scrip text
unfoldable pub is_scrip : List ℕ → Bool
is_scrip bytes = is_ok (scrip_of bytes)
