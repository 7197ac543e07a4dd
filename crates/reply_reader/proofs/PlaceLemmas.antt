-- The values of the fields up to one of them.
use Rattle.std.proofs.Common.{◌≡◌, ℕ, ◌+◌, ◌<◌, Bool, false, List, [], ◌∷◌, ◌++◌, length, map, take, get_or, ◌∙◌, ap, subst}
use Rattle.std.specs.Prelude.{if◌then◌else◌}
use Rattle.std.proofs.lemmas.List.{append-nil}
use Rattle.httparse.specs.declared.spans.HeaderSpan.{HeaderSpan}
use Rattle.httparse.specs.Spans.{header_bytes}
use Rattle.millicent_http.specs.Fields.{same_name, values}
use Rattle.millicent_http.proofs.FieldLemmas.{values_step}

-- one more field of another name
pub values_other : (text name found_name : List ℕ) (headers : List HeaderSpan) (i : ℕ) (d : HeaderSpan) → i < length headers
    → found_name ≡ (header_bytes text (get_or headers i d)).0 → same_name found_name name ≡ false
    → values name (map (header_bytes text) (take (i + 1) headers)) ≡ values name (map (header_bytes text) (take i headers))
values_other text name found_name headers i d lt is other =
    let vs : List (List ℕ) = values name (map (header_bytes text) (take i headers)) in
    let h : List ℕ × List ℕ = header_bytes text (get_or headers i d) in
    let e : same_name (header_bytes text (get_or headers i d)).0 name ≡ false = subst (λ (z : List ℕ). same_name z name ≡ false) is other in
    values_step text name headers i d lt ∙ ap (λ (b : Bool). vs ++ (if b then h.1 ∷ [] else [])) e ∙ append-nil vs
