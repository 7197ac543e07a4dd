use Rattle.std.proofs.Common.{◌≡◌, ◌∙◌, ap, map, string_bytes, sym}
use Rattle.std.proofs.lemmas.Slice.Eq.{bytes_eq-Decides}
use Rattle.command_table.proofs.beginning.is_role.Goals as goal

pub returns-in-Some-clause-one : goal.returns-in-Some-clause-one
returns-in-Some-clause-one c = λ word e.
    let first = ap (map string_bytes) c.in-Some.ensures.cases.0 in
    let same : string_bytes c.in-Some.word.now ≡ word = cc (first, e) in
    let decides = bytes_eq-Decides c.as_str.result.now c.args.role.now in
    (λ t. sym same ∙ sym c.as_str.ensures.value ∙ decides.0 (sym c.eq.ensures ∙ t), λ is. c.eq.ensures ∙ decides.1 (c.as_str.ensures.value ∙ same ∙ is))
