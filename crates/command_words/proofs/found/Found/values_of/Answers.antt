use Rattle.std.proofs.Common.{List, ap, ◌∙◌}
use Rattle.clap.specs.Matches.{found_of}
use Rattle.clap.specs.Walk.{Row, all_of}
use Rattle.clap.proofs.WalkLemmas.{raw_values-rows}
use Rattle.command_words.proofs.found.Found.values_of.Goals as goal

pub returns : goal.returns
returns c = c.get_strs.ensures ∙ raw_values-rows (found_of c.self.inside.matches) c.args.name.now ∙ ap (λ (rows : List Row). all_of c.args.name.now rows) c.self.view_is
