use Rattle.std.proofs.Common.{◌≡◌, ℕ, List, [], inl, inr, refl, ap, ◌∙◌, sym, subst}
use Rattle.mc_outside.specs.LinkView.{LinkView}
use Rattle.command_status.specs.declared.status.Status.TheVariants as ends
use Rattle.millicent_http.specs.Inputs.{TakesInput, LosesInput}
use Rattle.millicent_http.proofs.InputLemmas.{loses_rose}
use Rattle.millicent_http.proofs.AsideLemmas.{no_more_still, not_taken_quiet}
use Rattle.house_core.specs.House.{outcome_disk}
use Rattle.site_commands.specs.Operator.{IsReady}
use Rattle.site_commands.proofs.OperatorLemmas.{all_passed, operated, operated_causes, ready_by, by_links, unread, unread_at_once}
use Rattle.site_commands.proofs.operator.operate_house.Goals as goal

pub returns-in_default-clause-causes : goal.returns-in_default-clause-causes
returns-in_default-clause-causes g c = rw c.close.ensures (refl, inl refl)

pub returns-in_default-clause-operated : goal.returns-in_default-clause-operated
returns-in_default-clause-operated g c kind a x at =
    rw c.close.ensures (inl (unread_at_once g.O.Link.link g.O.Disk.disk g.T.Trade.trade g.T.Trade.passes kind (g.C.OperatorCommand.operation c.args.command.now) x a c.args.house g.met.O.Outside.sent_aside (g.met.O.Outside.link_keeps _ _ (g.met.O.Link.link_stays c.args.house.journal.disk)) at))

pub returns-in-Err-NoMemory-clause-operated : goal.returns-in-Err-NoMemory-clause-operated
returns-in-Err-NoMemory-clause-operated g c kind a x at =
    let m = c.input_of.new.k in
    let same : g.O.Link.link m.journal.disk ≡ g.O.Link.link c.args.house.journal.disk = rw c.in-Err-NoMemory.field-0-is at c.in-Err-NoMemory.ensures.fault in
    rw c.close-in-Err-NoMemory.ensures
    (inl (unread g.O.Link.link g.O.Disk.disk g.T.Trade.trade g.T.Trade.passes kind (g.C.OperatorCommand.operation c.args.command.now) x a c.args.house m ends.NoMemory g.met.O.Outside.sent_aside at
    (by_links g.O.Link.link g.O.Disk.disk g.T.Trade.trade c.args.house m (no_more_still (g.O.Link.link c.args.house.journal.disk) (g.O.Link.link m.journal.disk) (ap (λ (v : LinkView). v.sessions) same)) (g.met.O.Outside.link_keeps _ _ c.input_of.ensures.moved.0) c.input_of.ensures.moved.1) (inr (refl, same))))

pub returns-in-Err-NoMemory-clause-causes : goal.returns-in-Err-NoMemory-clause-causes
returns-in-Err-NoMemory-clause-causes g c =
    let m = c.input_of.new.k in
    let same : g.O.Link.link m.journal.disk ≡ g.O.Link.link c.args.house.journal.disk = rw c.in-Err-NoMemory.field-0-is at c.in-Err-NoMemory.ensures.fault in
    rw c.close-in-Err-NoMemory.ensures ((g.met.O.Outside.link_keeps _ _ c.input_of.ensures.moved.0).faults, inl same)

pub returns-in-Err-Link-clause-causes : goal.returns-in-Err-Link-clause-causes
returns-in-Err-Link-clause-causes g c =
    let m = c.input_of.new.k in
    let operation = g.C.OperatorCommand.operation c.args.command.now in
    let lost : LosesInput operation.input (g.O.Link.link c.args.house.journal.disk) (g.O.Link.link m.journal.disk) = rw (c.in-Err-Link.field-0-is, c.input.ensures.input) at c.in-Err-Link.ensures.fault in
    rw c.close-in-Err-Link.ensures ((g.met.O.Outside.link_keeps _ _ c.input_of.ensures.moved.0).faults, (loses_rose operation.input _ _ lost, lost))

pub returns-in-Err-Link-clause-operated : goal.returns-in-Err-Link-clause-operated
returns-in-Err-Link-clause-operated g c kind a x at =
    let m = c.input_of.new.k in
    let operation = g.C.OperatorCommand.operation c.args.command.now in
    let lost : LosesInput operation.input (g.O.Link.link c.args.house.journal.disk) (g.O.Link.link m.journal.disk) = rw (c.in-Err-Link.field-0-is, c.input.ensures.input) at c.in-Err-Link.ensures.fault in
    rw c.close-in-Err-Link.ensures
    (inl (unread g.O.Link.link g.O.Disk.disk g.T.Trade.trade g.T.Trade.passes kind operation x a c.args.house m ends.LinkFault g.met.O.Outside.sent_aside at
    (by_links g.O.Link.link g.O.Disk.disk g.T.Trade.trade c.args.house m (not_taken_quiet operation.input _ _ lost) (g.met.O.Outside.link_keeps _ _ c.input_of.ensures.moved.0) c.input_of.ensures.moved.1) (inl (refl, lost))))

pub returns-clause-causes : goal.returns-clause-causes
returns-clause-causes g c =
    let m = c.input_of.new.k in
    let y = c.raise_by_clock-reading.new.self.journal.disk in
    let operation = g.C.OperatorCommand.operation c.args.command.now in
    let input = c.deref.result.now in
    let takes = subst (λ (l : List ℕ). TakesInput operation.input (g.O.Link.link c.args.house.journal.disk) l (g.O.Link.link m.journal.disk)) (sym c.deref.ensures.value) (rw c.input.ensures.input at c.in-Ok-input_of.ensures.read) in
    let same : g.O.Link.link (outcome_disk c.carry_out-outcome.result) ≡ g.O.Link.link y = g.met.O.Outside.disk_keeps _ _ c.carry_out-outcome.ensures.back.moved' in
    let ready : IsReady operation (g.O.Link.link c.args.house.journal.disk) (g.O.Link.link y) = (input, g.O.Link.link m.journal.disk, takes, c.raise_by_clock-reading.ensures.rest) in
    rw (c.closed_with.ensures.out, c.closed_with.ensures.status)
    (operated_causes g.O.Link.link g.O.Disk.disk operation c.args.house.journal.disk y c.carry_out-outcome.result c.of.result ((g.met.O.Outside.link_keeps _ _ c.raise_by_clock-reading.ensures.moved).faults ∙ (g.met.O.Outside.link_keeps _ _ c.input_of.ensures.moved.0).faults) c.carry_out-outcome.ensures.back.counts
    c.carry_out-outcome.ensures.refusals (subst (λ (v : LinkView). IsReady operation (g.O.Link.link c.args.house.journal.disk) v) (sym same) ready))

pub returns-clause-operated : goal.returns-clause-operated
returns-clause-operated g c kind a x at =
    let m = c.input_of.new.k in
    let y = c.raise_by_clock-reading.new.self in
    let raised = c.raise_by_clock-reading.ensures in
    let operation = g.C.OperatorCommand.operation c.args.command.now in
    let input = c.deref.result.now in
    let begun = subst (λ (name : List ℕ). g.C.OperatorCommand.begun c.args.command.now name c.in-Ok.line.items) (c.name.ensures at.house.history at.house.house) c.in-Ok.ensures in
    let takes = subst (λ (l : List ℕ). TakesInput operation.input (g.O.Link.link c.args.house.journal.disk) l (g.O.Link.link m.journal.disk)) (sym c.deref.ensures.value) (rw c.input.ensures.input at c.in-Ok-input_of.ensures.read) in
    let ready = ready_by g.O.Link.link g.O.Disk.disk g.T.Trade.trade g.T.Trade.passes kind operation x input a c.args.house m y c.raise_by_clock-reading.result g.met.O.Outside.sent_aside at takes
    (g.met.O.Outside.link_keeps _ _ c.input_of.ensures.moved.0) c.input_of.ensures.moved.1 (g.met.O.Outside.link_keeps _ _ (g.met.O.Link.link_goes_on _ _ _ c.input_of.ensures.moved.0 raised.moved)) (g.met.O.Outside.link_keeps _ _ raised.moved)
    raised.stands raised.limits raised.read raised.rest raised.time in
    rw (c.closed_with.ensures.out, c.closed_with.ensures.status, c.of.ensures)
    (inr (operated g.O.Link.link g.O.Disk.disk g.T.Trade.trade g.T.Trade.passes kind operation x input c.carry_out-outcome.new.line.items a y at.house.history c.carry_out-outcome.result (all_passed g.T.Trade.passes [] at.house.history at.house.follow) ready g.met.O.Disk.is_disk (g.met.O.Outside.disk_keeps _ _ c.carry_out-outcome.ensures.back.moved')
    c.carry_out-outcome.ensures.back.keeps (c.carry_out-outcome.ensures.exact at.house.history ready.house ready.limits' begun)))
