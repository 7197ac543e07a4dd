use Rattle.std.proofs.Common.{◌≡◌, ◌∙◌, ap, sym, take, arith}
use Rattle.mc_records.specs.Sizes.{tail_bytes, tail_size, size}
use Rattle.mc_records.proofs.SizeLaws.{tail_size-by}
use Rattle.slow_ledger.proofs.CountLaws.{size_more, switched_more}
use Rattle.slow_ledger.proofs.counts.slow_size.Goals as goal

pub loop-n-preserved : goal.loop-n-preserved
loop-n-preserved c =
    let before = take c.loop-n.n c.args.h.now in
    let tail : c.tail_len.result ≡ tail_size before = c.tail_len.ensures.value ∙ ap tail_bytes c.loop-n.invariant.switched ∙ sym (tail_size-by before) in
    record {
      all = size_more c.args.h.now c.payload.result.now c.loop-n.n c.tail_len.result c.loop-n.all c.in_ok-sum.field-0 c.in_ok-all.all (size c.args.h.now) (omega arith) tail c.loop-n.invariant.all c.payload.ensures c.in_ok-sum.ensures c.in_ok-all.ensures;
      switched = switched_more c.args.h.now c.loop-n.n c.switched_by-switched.result c.loop-n.switched (omega arith) c.loop-n.invariant.switched c.switched_by-switched.ensures;
    }
