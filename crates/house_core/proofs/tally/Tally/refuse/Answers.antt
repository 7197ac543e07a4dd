use Rattle.house_core.proofs.TallyLaws.{one_expired, one_spent, one_little, one_memory, one_other}
use Rattle.house_core.proofs.tally.Tally.refuse.Goals as goal

pub returns-in-Expired-clause-counted : goal.returns-in-Expired-clause-counted
returns-in-Expired-clause-counted c small = rw c.in-Expired.is (one_expired c.args.self.now c.in-Expired.field-0 c.in-Expired.field-1 c.one_more-self.result small c.one_more-self.ensures)

pub returns-in-Spent-clause-counted : goal.returns-in-Spent-clause-counted
returns-in-Spent-clause-counted c small = rw c.in-Spent.is (one_spent c.args.self.now c.one_more-self-in-Spent.result small c.one_more-self-in-Spent.ensures)

pub returns-in-TooLittle-clause-counted : goal.returns-in-TooLittle-clause-counted
returns-in-TooLittle-clause-counted c small = rw c.in-TooLittle.is (one_little c.args.self.now c.in-TooLittle.field-0 c.one_more-self-in-TooLittle.result small c.one_more-self-in-TooLittle.ensures)

pub returns-in-NoMemory-clause-counted : goal.returns-in-NoMemory-clause-counted
returns-in-NoMemory-clause-counted c small = rw c.in-NoMemory.is (one_memory c.args.self.now c.one_more-self-in-NoMemory.result small c.one_more-self-in-NoMemory.ensures)

pub returns-in_default-clause-counted : goal.returns-in_default-clause-counted
returns-in_default-clause-counted c small =
    one_other c.args.self.now c.args.refusal.now c.one_more-self-in_default.result small
    c.in_default.not-Expired c.in_default.not-Spent c.in_default.not-TooLittle c.in_default.not-NoMemory c.one_more-self-in_default.ensures
