use Rattle.std.proofs.Common.{length, ap, arith}
use Rattle.scrip_form.proofs.Laws.{text_is_short}
use Rattle.house_state.proofs.lengths.accept_len.Goals as goal

pub overflow_add-result : goal.overflow_add-result
overflow_add-result c = omega (arith, ap length c.text.ensures.text, text_is_short c.args.scrip.now.text c.args.scrip.now.piece c.args.scrip.now.cert c.text.ensures.spelled)

pub overflow_add-result-2 : goal.overflow_add-result-2
overflow_add-result-2 c = omega (arith, ap length c.text.ensures.text, text_is_short c.args.scrip.now.text c.args.scrip.now.piece c.args.scrip.now.cert c.text.ensures.spelled, c.sign_len.ensures.short)

pub overflow_add-result-3 : goal.overflow_add-result-3
overflow_add-result-3 c =
    omega (arith, ap length c.text.ensures.text, text_is_short c.args.scrip.now.text c.args.scrip.now.piece c.args.scrip.now.cert c.text.ensures.spelled, c.sign_len.ensures.short, c.change_len.ensures.short)

pub overflow_add-result-4 : goal.overflow_add-result-4
overflow_add-result-4 c =
    omega (
      arith,
      ap length c.text.ensures.text,
      text_is_short c.args.scrip.now.text c.args.scrip.now.piece c.args.scrip.now.cert c.text.ensures.spelled,
      c.sign_len.ensures.short,
      c.change_len.ensures.short,
      c.deed_len.ensures.short,
    )
