-- Pieces as they are looked up.
use Rattle.std.specs.Prelude.{ℕ, Bool, ◌==◌, ◌&&◌, ◌+◌, not, nat_lt, nat_le, false, if◌then◌else◌, List, Option, option_map, unwrap_or}
use Rattle.std.specs.List.{list_any}
use Rattle.audit_model.specs.declared.part.Part.{Part}
use Rattle.audit_sums.specs.declared.rows.Acceptance.{Acceptance}
use Rattle.audit_sums.specs.declared.rows.Run.{Run}

-- ---- identities with their values

-- whether an identity stands among pairs with a value
abbrev pub knows : List (ℕ × ℕ) → ℕ → ℕ → Bool
knows pairs id value = list_any (λ k. (id == k.0) && (value == k.1)) pairs

-- whether a piece has an identity and a value
abbrev pub is_part : ℕ → ℕ → Part → Bool
is_part id value p = (id == p.id) && (value == p.value)

abbrev pub has_part : List Part → ℕ → ℕ → Bool
has_part parts id value = list_any (is_part id value) parts

-- whether a run has a piece of an identity and a value
abbrev pub is_in_run : ℕ → ℕ → Run → Bool
is_in_run id value r = (value == r.value) && (nat_le r.first id && nat_lt id (r.first + r.count))

-- ---- identities that were accepted

abbrev pub is_piece : ℕ → Option Part → Bool
is_piece id piece = unwrap_or (option_map (λ p. id == p.id) piece) false

abbrev pub is_of : ℕ → Acceptance → Bool
is_of id a = is_piece id a.piece

abbrev pub was_accepted : List Acceptance → ℕ → Bool
was_accepted rows id = list_any (is_of id) rows

-- ---- what is left of pieces, where these identities are spent, at a time

abbrev pub out_at : (ℕ → Bool) → ℕ → Part → ℕ
out_at spent time p = if not (spent p.id) && nat_lt time p.expires then p.value else 0

abbrev pub gone_at : (ℕ → Bool) → ℕ → Part → ℕ
gone_at spent time p = if not (spent p.id) && nat_le p.expires time then p.value else 0

-- whether an identity stands among some
abbrev pub has_id : List ℕ → ℕ → Bool
has_id ids id = list_any (λ k. id == k) ids
