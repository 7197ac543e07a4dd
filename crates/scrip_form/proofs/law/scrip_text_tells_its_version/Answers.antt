use Rattle.std.proofs.Common.{ap, ◌∙◌}
use Rattle.scrip_form.specs.Scrip.{text_version}
use Rattle.scrip_form.proofs.Laws.{version_of_text}
use Rattle.scrip_form.proofs.law.scrip_text_tells_its_version.Goals as goal

pub returns : goal.returns
returns c = λ text p cert is. ap text_version is.spelled ∙ version_of_text p cert is.is_piece.version
