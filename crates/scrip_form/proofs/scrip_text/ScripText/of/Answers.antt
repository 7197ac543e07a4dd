use Rattle.std.proofs.Common.{◌≡◌, arith}
use Rattle.scrip_form.proofs.Laws.{text_is_short}
use Rattle.scrip_form.proofs.scrip_text.ScripText.of.Goals as goal

pub of-requires : goal.of-requires
of-requires c =
    let short = text_is_short c.args.scrip.now.text c.args.scrip.now.piece c.args.scrip.now.cert c.text.ensures.spelled in
    let same : c.text.result.now ≡ c.args.scrip.now.text = c.text.ensures.text in
    (omega arith, rw same short)
