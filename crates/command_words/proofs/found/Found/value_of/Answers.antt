use Rattle.std.proofs.Common.{List, ap, ◌∙◌}
use Rattle.clap.specs.Matches.{found_of}
use Rattle.clap.specs.Walk.{Row, first_of}
use Rattle.clap.proofs.WalkLemmas.{first_value-rows}
use Rattle.command_words.proofs.found.Found.value_of.Goals as goal

pub returns : goal.returns
returns c = c.get_str.ensures ∙ first_value-rows (found_of c.self.inside.matches) c.args.name.now ∙ ap (λ (rows : List Row). first_of c.args.name.now rows) c.self.view_is
