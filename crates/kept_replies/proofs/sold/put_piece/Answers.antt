use Rattle.std.proofs.Common.{ap, ◌∙◌}
use Rattle.scrip_form.specs.Reading.{scrip_of}
use Rattle.kept_replies.proofs.TextLaws.{read_is}
use Rattle.kept_replies.proofs.sold.put_piece.Goals as goal

pub returns-clause-read : goal.returns-clause-read
returns-clause-read c =
    ap scrip_of c.put.ensures.part ∙ read_is c.scrip_of_tells_the_text.ensures c.scrip_text_is_of_one_piece.ensures _ c.args.piece.now c.args.cert.now c.write_scrip-len.ensures.text
