use Rattle.settle_core.proofs.NoteOrders.{paid_note, stated_note}
use Rattle.settle_core.proofs.laws.what_is_entered_is_in_order.Goals as goal

pub returns-clause-paid : goal.returns-clause-paid
returns-clause-paid c = paid_note

pub returns-clause-stated : goal.returns-clause-stated
returns-clause-stated c = stated_note
