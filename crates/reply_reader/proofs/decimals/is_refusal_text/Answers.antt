use Rattle.std.proofs.Common.{◌∙◌, sym}
use Rattle.reply_reader.proofs.DecimalLemmas.{refusal_zero}
use Rattle.reply_reader.proofs.decimals.is_refusal_text.Goals as goal

pub returns-then-starts_with : goal.returns-then-starts_with
returns-then-starts_with c = c.starts_with-then-starts_with.ensures.value ∙ refusal_zero c.args.text.now (sym c.starts_with.ensures.value ∙ c.if-starts_with.true)
