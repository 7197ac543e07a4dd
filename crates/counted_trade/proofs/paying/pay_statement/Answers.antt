use Rattle.std.proofs.Common.{◌≡◌, ℕ, List, [], ◌∷◌, length, Ok, Err, refl, sym, ap, subst, ◌∙◌, arith}
use Rattle.std.specs.Prelude.{codes}
use Rattle.mc_records.specs.Entry.{Note}
use Rattle.ledger_model.specs.Lines as lines
use Rattle.house_core.specs.Bench.{house_time, limits_of}
use Rattle.house_core.specs.Tasks.{Add}
use Rattle.house_core.proofs.RefusingLemmas.{among_more, refused_more}
use Rattle.house_core.proofs.TaskLemmas.{refuses, stays}
use Rattle.settle_core.specs.Claims.{payment_text}
use Rattle.settle_core.specs.Settlement.{IsInOrder}
use Rattle.settle_core.proofs.NoteOrders.{payment_short}
use Rattle.counted_trade.specs.Counted.{counted_view}
use Rattle.counted_trade.specs.Tasks.{pay_task, TellsPaid}
use Rattle.counted_trade.proofs.TaskLemmas.{performs_as}
use Rattle.counted_trade.proofs.NoteLemmas.{pay_name}
use Rattle.counted_trade.proofs.PayLemmas.{broken, at_time, is_due, in_order, paid_again, refused, tells_paid}
use Rattle.counted_trade.proofs.paying.pay_statement.Goals as goal

pub returns-in-Err-clause-exact : goal.returns-in-Err-clause-exact
returns-in-Err-clause-exact g c h st =
    refuses g.D.Disk.disk (counted_view g.T.Trade.trade) _ (TellsPaid c.args.line.now) (limits_of c.args.house.bench) c.args.house h (g.met.D.Disk.is_disk _) st _
    (broken h (house_time c.args.house.bench) c.args.line.now c.in-Err.place _ c.in-Err.ensures.read c.from.ensures)

pub enter_note-requires-clause-tag : goal.enter_note-requires-clause-tag
enter_note-requires-clause-tag g c = pay_name

pub enter_note-requires-clause-short : goal.enter_note-requires-clause-short
enter_note-requires-clause-short g c =
    let short = payment_short c.in-Ok.statement.payment c.in-Ok.ensures.told.0.payment' in
    let same : length c.payment_in.result.now ≡ length (payment_text c.in-Ok.statement.payment) = ap (λ (xs : List ℕ). length xs) c.payment_in.ensures in
    omega (arith, short, same)

pub enter_note-requires-clause-order : goal.enter_note-requires-clause-order
enter_note-requires-clause-order g c h st =
    let t = house_time c.args.house.bench in
    let s = c.in-Ok.statement in
    let due = at_time h c.time.result t s (Ok c.in-Ok-Some._due) c.time.ensures (rw c.in-Ok-Some.field-0-is at (c.in-Ok-Some.ensures.exact h (c.counts.ensures h (c.trade.ensures h st)))) in
    subst (λ (text : List ℕ). IsInOrder h (Note t (codes "pay") text)) (sym c.payment_in.ensures)
    (in_order h t c.args.line.now s c.in-Ok.ensures.read c.in-Ok.ensures.told.0 c.in-Ok-Some._due due)

pub returns-in-Err-judge-clause-exact : goal.returns-in-Err-judge-clause-exact
returns-in-Err-judge-clause-exact g c h st =
    let t = house_time c.args.house.bench in
    let s = c.in-Ok.statement in
    refuses g.D.Disk.disk (counted_view g.T.Trade.trade) _ (TellsPaid c.args.line.now) (limits_of c.args.house.bench) c.args.house h (g.met.D.Disk.is_disk _) st _
    (refused h t c.args.line.now s c.in-Ok.ensures.read c.in-Err-judge.refusal (at_time h c.time.result t s (Err (lines.Refuse c.in-Err-judge.refusal)) c.time.ensures (c.in-Err-judge.ensures.exact h (c.counts.ensures h (c.trade.ensures h st)))))

pub returns-in-Ok-None-clause-exact : goal.returns-in-Ok-None-clause-exact
returns-in-Ok-None-clause-exact g c h st =
    let t = house_time c.args.house.bench in
    let s = c.in-Ok.statement in
    let amount = s.payment.claim.amount in
    stays g.D.Disk.disk (counted_view g.T.Trade.trade) _ (TellsPaid c.args.line.now) (limits_of c.args.house.bench) c.args.house h (g.met.D.Disk.is_disk _) st amount
    (paid_again h t c.args.line.now s c.in-Ok.ensures.read amount
    (at_time h c.time.result t s (Err (lines.Repeat amount)) c.time.ensures (rw c.in-Ok-None.field-0-is at (c.in-Ok-None.ensures.exact h (c.counts.ensures h (c.trade.ensures h st))))))
    (tells_paid h t c.args.line.now s c.in-Ok.ensures.read _ h amount refl)

pub returns-in-Ok-Some-clause-exact : goal.returns-in-Ok-Some-clause-exact
returns-in-Ok-Some-clause-exact g c h st =
    let t = house_time c.args.house.bench in
    let s = c.in-Ok.statement in
    let p = c.in-Ok-Some._due in
    let due = at_time h c.time.result t s (Ok p) c.time.ensures (rw c.in-Ok-Some.field-0-is at (c.in-Ok-Some.ensures.exact h (c.counts.ensures h (c.trade.ensures h st)))) in
    performs_as g.D.Disk.disk (counted_view g.T.Trade.trade) (λ task. task ≡ Add (Note t (codes "pay") c.payment_in.result.now)) (λ task. task ≡ pay_task h t c.args.line.now) (λ task k told. told ≡ s.payment.claim.amount) (TellsPaid c.args.line.now)
    (limits_of c.args.house.bench) c.args.house.journal.disk h c.enter_note.result
    (λ task is. is ∙ ap (λ (text : List ℕ). Add (Note t (codes "pay") text)) c.payment_in.ensures ∙ is_due h t c.args.line.now s c.in-Ok.ensures.read p due)
    (λ done task k told is. tells_paid h t c.args.line.now s c.in-Ok.ensures.read task k told is) (c.enter_note.ensures.exact h st)

pub returns-in-Err-judge-clause-refusals : goal.returns-in-Err-judge-clause-refusals
returns-in-Err-judge-clause-refusals g c = among_more (43 ∷ 74 ∷ 75 ∷ 76 ∷ 77 ∷ []) (33 ∷ 43 ∷ 53 ∷ 74 ∷ 75 ∷ 76 ∷ 77 ∷ []) c.in-Err-judge.refusal refl c.in-Err-judge.ensures.refusals

pub returns-in-Ok-Some-clause-refusals : goal.returns-in-Ok-Some-clause-refusals
returns-in-Ok-Some-clause-refusals g c = refused_more (33 ∷ []) (33 ∷ 43 ∷ 53 ∷ 74 ∷ 75 ∷ 76 ∷ 77 ∷ []) c.enter_note.result refl c.enter_note.ensures.refusals
