use Rattle.mc_fields.proofs.TextTest.{is_text_by}
use Rattle.scrip_form.specs.Texts.{is_slash, is_visible}
use Rattle.millicent_http.proofs.fields.is_target.Goals as goal

pub returns : goal.returns
returns c = is_text_by is_slash is_visible 1 512 c.args.bytes.now c.is_text.result c.is_text.ensures
