use Rattle.std.proofs.Common.{sym, ◌≡◌, Ok, Err}
use Rattle.mc_requests.specs.Requests.{asked_of}
use Rattle.ledger_model.specs.Lines.{Refuse}
use Rattle.house_state.proofs.Tabled.{genuine_in, spendable_in, not_genuine, not_spendable, takes}
use Rattle.house_state.proofs.evaluating.evaluate_new.Goals as goal

pub returns-in-Err-clause-lines : goal.returns-in-Err-clause-lines
returns-in-Err-clause-lines g c h st trade kind =
    let is : Err (Refuse c.in-Err.refusal) ≡ genuine_in c.args.state.now c.args.scrip.now = c.in-Err.ensures.lines in
    not_genuine st c.args.limits (asked_of c.args.q.now) c.args.scrip.now (Refuse c.in-Err.refusal) is

pub returns-in-Err-spendable-clause-lines : goal.returns-in-Err-spendable-clause-lines
returns-in-Err-spendable-clause-lines g c h st trade kind =
    let is : Ok c.in-Ok.secret ≡ genuine_in c.args.state.now c.args.scrip.now = c.in-Ok.ensures.lines in
    let refused : Err (Refuse c.in-Err-spendable.refusal) ≡ spendable_in c.args.state.now c.in-Ok.secret (asked_of c.args.q.now) c.args.scrip.now = c.in-Err-spendable.ensures.lines in
    not_spendable st c.args.limits (asked_of c.args.q.now) c.args.scrip.now c.in-Ok.secret (Refuse c.in-Err-spendable.refusal) is refused

pub returns-clause-lines : goal.returns-clause-lines
returns-clause-lines g c h st trade kind =
    let is : Ok c.in-Ok.secret ≡ genuine_in c.args.state.now c.args.scrip.now = c.in-Ok.ensures.lines in
    let may : Ok c.in-Ok-spendable.spendable.sign ≡ spendable_in c.args.state.now c.in-Ok.secret (asked_of c.args.q.now) c.args.scrip.now = c.in-Ok-spendable.ensures.lines in
    takes st c.args.limits (asked_of c.args.q.now) c.args.scrip.now c.in-Ok.secret c.in-Ok-spendable.spendable.sign _ is may (c.taken.ensures.lines h st trade kind)

pub taken-requires-clause-secret : goal.taken-requires-clause-secret
taken-requires-clause-secret g c =
    let is : Ok c.in-Ok.secret ≡ genuine_in c.args.state.now c.args.scrip.now = c.in-Ok.ensures.lines in
    sym is
