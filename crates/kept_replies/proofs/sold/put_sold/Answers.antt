use Rattle.std.proofs.Common.{◌≡◌, ◌-◌, vec_len, ap, ◌∙◌, arith}
use Rattle.scrip_form.specs.Reading.{scrip_of}
use Rattle.kept_replies.proofs.TextLaws.{read_is}
use Rattle.kept_replies.proofs.sold.put_sold.Goals as goal

pub returns-clause-sold : goal.returns-clause-sold
returns-clause-sold c =
    let middle : c.put-2.result - 16 ≡ c.put.result = omega (arith, c.put.ensures.end, c.put-2.ensures.len) in
    let text = c.put-2.ensures.stays.parts (vec_len c.args.buffer.now) c.put.result (omega (arith, c.put.ensures.len)) (omega (arith, c.put.ensures.end, c.put.new.buffer.ok)) in
    record {
      read = rw middle (ap scrip_of (text ∙ c.put.ensures.part)
          ∙ read_is c.scrip_of_tells_the_text.ensures c.scrip_text_is_of_one_piece.ensures _ c.args.piece.now c.args.cert.now c.write_scrip-len.ensures.text);
      secret = rw (middle ∙ c.put.ensures.end) c.put-2.ensures.part;
    }
