-- The bytes of the groups of a table are those of its fields, and each of its fields can be spelled.
use Rattle.std.proofs.Common.{◌≡◌, ℕ, suc, ◌+◌, ◌*◌, ◌^◌, ◌<◌, ◌≤◌, List, [], ◌∷◌, ◌++◌, length, get_or, take, refl, sym, ap, ap₂, ◌∙◌, arith, flat_map, ◌%◌, mod-eq_of_lt}
use Rattle.std.specs.List.{AllByRecursion}
use Rattle.std.proofs.lemmas.List.{length-append}
use Rattle.std.proofs.lemmas.List.Concat.{flat_map-append}
use Rattle.std.proofs.lemmas.List.Folds.{length-flat_map-take}
use Rattle.mc_fields.specs.Field.{Field, FieldFits, field_bytes, plain, spelled}
use Rattle.mc_records.specs.Entry.{secrets_fields}
use Rattle.mc_records.specs.Cells.{fields_of, group_fields, groups_fields, cell_bytes, group_bytes, AreShort}
use Rattle.mc_records.specs.declared.cells.Group.{Group}

spelled-append : (a b : List Field) → spelled (a ++ b) ≡ spelled a ++ spelled b
spelled-append a b = flat_map-append field_bytes a b

group_spelled : (g : Group) → group_bytes g ≡ spelled (group_fields g)
group_spelled g =
    ap (λ (t : List ℕ). cell_bytes g.0 ++ t) (sym (spelled-append (fields_of g.1) (fields_of g.2))) ∙ sym (spelled-append (fields_of g.0) (fields_of g.1 ++ fields_of g.2))

pub groups_spelled : (gs : List Group) → flat_map group_bytes gs ≡ spelled (groups_fields gs)
groups_spelled [] = refl
groups_spelled (g ∷ gs) = ap₂ (λ (a b : List ℕ). a ++ b) (group_spelled g) (groups_spelled gs) ∙ sym (spelled-append (group_fields g) (groups_fields gs))

-- a group is within the bytes of all, behind those before it
pub group_within : (gs : List Group) (i : ℕ) (g : Group) → i < length gs → g ≡ get_or gs i g
    → length (flat_map group_bytes (take i gs)) + length (group_bytes g) ≤ length (flat_map group_bytes gs)
group_within gs i g lt is = rw (ap (λ (x : Group). length (group_bytes x)) is) (length-flat_map-take group_bytes gs i g lt)

split_fits : (a b : List Field) → AllByRecursion FieldFits (a ++ b) → AllByRecursion FieldFits a × AllByRecursion FieldFits b
split_fits [] b h = (tt, h)
split_fits (x ∷ xs) b h = let s = split_fits xs b h.1 in ((h.0, s.0), s.1)

pub are_short : (gs : List Group) → AllByRecursion FieldFits (groups_fields gs) → AllByRecursion AreShort gs
are_short [] h = tt
are_short (g ∷ gs) h =
    let s = split_fits (group_fields g) (groups_fields gs) h in
    let a = split_fits (fields_of g.0) (fields_of g.1 ++ fields_of g.2) s.0 in
    let b = split_fits (fields_of g.1) (fields_of g.2) a.1 in
    ((a.0, b), are_short gs s.1)

plain_bytes : (ss : List (List ℕ)) → flat_map (λ s. s) ss ≡ spelled (flat_map (λ s. plain s ∷ []) ss)
plain_bytes [] = refl
plain_bytes (s ∷ ss) = ap (λ (t : List ℕ). s ++ t) (plain_bytes ss)

-- a count of one byte and the secrets that it counts
pub secrets_text : (ss : List (List ℕ)) → length ss < 2 ^ 8 → length ss ∷ flat_map (λ s. s) ss ≡ length ss % 256 ∷ spelled (flat_map (λ s. plain s ∷ []) ss)
secrets_text ss few =
    let small : length ss < 256 = omega (arith, few) in
    ap₂ (λ (k : ℕ) (t : List ℕ). k ∷ t) (sym (mod-eq_of_lt small)) (plain_bytes ss)

each_length : (ss : List (List ℕ)) → ((i : ℕ) → i < length ss → length (get_or ss i []) ≡ 16) → length (spelled (flat_map (λ s. plain s ∷ []) ss)) ≡ 16 * length ss
each_length [] keys = refl
each_length (s ∷ ss) keys =
    omega (arith, length-append s (spelled (flat_map (λ t. plain t ∷ []) ss)), keys 0 (omega arith), each_length ss (λ i lt. keys (suc i) (omega (arith, lt))))

-- a count of one byte and secrets of 16 bytes
pub secrets_length : (ss : List (List ℕ)) → ((i : ℕ) → i < length ss → length (get_or ss i []) ≡ 16) → 1 + 16 * length ss ≡ length (spelled (secrets_fields ss))
secrets_length ss keys = omega (arith, each_length ss keys)
