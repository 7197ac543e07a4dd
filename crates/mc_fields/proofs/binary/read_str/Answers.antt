use Rattle.std.proofs.Common.{◌∙◌, sym}
use Rattle.mc_fields.specs.Texts.{is_text}
use Rattle.mc_fields.proofs.TextTest.{is_text_by}
use Rattle.mc_fields.proofs.FormLaws.{str_passes, str_fails}
use Rattle.mc_fields.proofs.binary.read_str.Goals as goal

pub returns-then-not-is_text : goal.returns-then-not-is_text
returns-then-not-is_text g c =
    let test = is_text g.T.TextRule.first g.T.TextRule.other g.T.TextRule.least g.T.TextRule.most in
    str_fails test c.args.bytes.now _ c.in_ok-text.ensures (sym (is_text_by _ _ _ _ c.in_ok-text.text.now c.is_text.result c.is_text.ensures) ∙ c.if-not-is_text.true)

pub returns : goal.returns
returns g c =
    let test = is_text g.T.TextRule.first g.T.TextRule.other g.T.TextRule.least g.T.TextRule.most in
    str_passes test c.args.bytes.now _ c.in_ok-text.ensures (sym (is_text_by _ _ _ _ c.in_ok-text.text.now c.is_text.result c.is_text.ensures) ∙ c.if-not-is_text.false)
