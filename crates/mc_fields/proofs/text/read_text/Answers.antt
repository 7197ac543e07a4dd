use Rattle.std.proofs.Common.{inl, inr, sym, ◌∙◌, arith}
use Rattle.mc_fields.proofs.FieldLoops.{text_ends, text_stops, text_goes_on, text_is_short}
use Rattle.mc_fields.proofs.TextTest.{taken_front, one_more_taken}
use Rattle.mc_fields.proofs.text.read_text.Goals as goal
use Rattle.mc_fields.proofs.text.read_text.Goals.{else-byte-stop-via-then-byte-stop+else-may_end, else-byte-stop-via-else-byte-stop}

pub returns-then-may_end-clause-gives : goal.returns-then-may_end-clause-gives
returns-then-may_end-clause-gives g c =
    text_ends _ _ _ _ c.args.stop c.args.bytes.now c.loop-len.len _ c.loop-len-test.true (sym c.may_follow.ensures ∙ c.if-not-may_follow.true) c.if-byte-stop.true (sym c.may_end.ensures ∙ c.if-may_end.true) c.loop-len.invariant.at

pub returns-else-byte-stop-clause-gives : goal.returns-else-byte-stop-clause-gives
returns-else-byte-stop-clause-gives g c =
    text_stops _ _ _ _ c.args.stop c.args.bytes.now c.loop-len.len _ c.loop-len-test.true (sym c.may_follow.ensures ∙ c.if-not-may_follow.true)
    (elim c.else-byte-stop.branch [
      | else-byte-stop-via-then-byte-stop+else-may_end w ↦ inr (sym w.may_end.ensures ∙ w.if-may_end.false)
      | else-byte-stop-via-else-byte-stop w ↦ inl w.if-byte-stop.false
    ]) c.loop-len.invariant.at

pub returns-then-may_end-clause-text : goal.returns-then-may_end-clause-text
returns-then-may_end-clause-text g c =
    taken_front _ _ _ _ c.args.bytes.now c.loop-len.len g.met.T.TextRule.begins_fit (omega arith) (sym c.may_end.ensures ∙ c.if-may_end.true) c.loop-len.invariant.taken

pub loop-len-preserved : goal.loop-len-preserved
loop-len-preserved g c =
    let may = sym c.may_follow.ensures ∙ c.if-not-may_follow.false in
    record {
      at = text_goes_on _ _ _ _ c.args.stop c.args.bytes.now c.loop-len.len _ c.loop-len-test.true may c.loop-len.invariant.at;
      taken = one_more_taken _ _ _ c.args.bytes.now c.loop-len.len c.loop-len.invariant.taken may;
    }

pub returns-clause-gives : goal.returns-clause-gives
returns-clause-gives g c = text_is_short _ _ _ _ c.args.stop c.args.bytes.now c.loop-len.len _ c.loop-len-test.false c.loop-len.invariant.at
