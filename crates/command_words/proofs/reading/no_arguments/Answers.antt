use Rattle.std.proofs.Common.{ap, refl, ◌∙◌, ◌≡◌, [], codes, true}
use Rattle.clap.specs.Simple.{App, app_of_fields, new_app}
use Rattle.command_words.specs.Arguments.{command}
use Rattle.command_words.proofs.reading.no_arguments.Goals as goal

-- the two settings, as clap's parse reads them
alone : App → App
alone a = record a { top = record a.top { no_binary_name = true; disable_help_flag = true } }

alone_new : alone (new_app (codes "millicent")) ≡ command []
unfolding command alone
alone_new = refl

pub returns : goal.returns
unfolding alone
returns c =
    ap app_of_fields c.disable_help_flag.ensures
    ∙ ap (λ f. app_of_fields (record f { disable_help_flag = true })) c.no_binary_name.ensures
    ∙ ap alone c.new.ensures.app ∙ alone_new
