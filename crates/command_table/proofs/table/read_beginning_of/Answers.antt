use Rattle.std.proofs.Common.{◌∙◌, List, ap, map}
use Rattle.command_words.specs.Arguments.{is_exact, optional}
use Rattle.command_table.specs.declared.parameter.Parameter.{Parameter}
use Rattle.command_table.specs.Values.{rules_of}
use Rattle.command_table.proofs.TableLemmas.{optional_exact}
use Rattle.command_table.proofs.table.read_beginning_of.Goals as goal

pub read_beginning-requires : goal.read_beginning-requires
read_beginning-requires c = ap (λ (parameters : List Parameter). is_exact (map optional (rules_of parameters))) c.form.ensures.parameters ∙ optional_exact c.args.name
