use Rattle.std.proofs.Common.{◌≡◌, ◌∙◌, ◌∷◌, List, ap, map, rules, string_bytes}
use Rattle.std.proofs.lemmas.Result.{IfOk-weaker}
use Rattle.command_words.specs.Arguments.{is_exact}
use Rattle.command_table.specs.declared.parameter.Parameter.{Parameter}
use Rattle.command_table.specs.Table.{form_of}
use Rattle.command_table.specs.Values.{rules_of}
use Rattle.command_table.proofs.TableLemmas.{all_exact, read_made}
use Rattle.command_table.proofs.table.read_command.Goals as goal

pub read_words-requires : goal.read_words-requires
read_words-requires c = ap (λ (parameters : List Parameter). is_exact (rules_of parameters)) c.form-form.ensures.parameters ∙ all_exact c.args.name

pub returns : goal.returns
returns c =
    let spelled : map string_bytes c.args.words.now ≡ c.in-Some.role.now ∷ c.in-Some.command.now ∷ map string_bytes c.in-Some.behind.now = search rules in
    let role : c.in-Some.role.now ≡ (form_of c.args.name).role = search rules in
    let command : c.in-Some.command.now ≡ (form_of c.args.name).name = search rules in
    IfOk-weaker c.read_words.result _ _ (λ r is. read_made c.args.name (rules_of c.form-form.result.parameters.now) (map string_bytes c.args.words.now) (map string_bytes c.in-Some.behind.now) c.in-Some.role.now c.in-Some.command.now r
    spelled role command (ap rules_of c.form-form.ensures.parameters) is) c.read_words.ensures
