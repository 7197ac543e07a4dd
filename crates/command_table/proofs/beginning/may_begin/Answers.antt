use Rattle.std.proofs.Common.{◌≡◌, ◌∙◌, inl, inr, rules}
use Rattle.std.proofs.lemmas.Result.{IfOk-weaker}
use Rattle.command_table.proofs.BeginLemmas.{name_begins}
use Rattle.command_table.proofs.beginning.may_begin.Goals as goal

pub returns : goal.returns
returns c =
    let role : c.in-Some.role.now ≡ c.form-form.result.role.now = search rules in
    let command : c.in-Some.command.now ≡ c.form-form.result.name.now = search rules in
    IfOk-weaker c.lack_value.result _ _ (λ r is. name_begins _ _ _ _ _ r c.in-Some.ensures.some (role ∙ c.form-form.ensures.role) (command ∙ c.form-form.ensures.name)
    (λ t. inr (is.0 t), λ may. elim may [ inl taken ↦ absurd (cc (c.if-branch.false, c.in_ok-are_taken.ensures.1 taken)) | inr lack ↦ is.1 lack ])) c.lack_value.ensures
