use Rattle.std.proofs.Common.{sym, subst, List, ℕ}
use Rattle.link_turns.specs.declared.turn.Turn.{Turn}
use Rattle.link_turns.specs.Turns.{Sent}
use Rattle.link_turns.proofs.ItemLemmas.{sent_so}
use Rattle.house_serving.proofs.turn.send.Goals as goal

pub returns-clause-sent : goal.returns-clause-sent
returns-clause-sent g c =
    let before = g.K.Link.link c.args.k.now in
    let after = g.K.Link.link c.send.new.k in
    subst (λ (t : Turn). (part : List ℕ) × Sent c.args.after c.args.reply.now t part before after) (sym c.turn_of.ensures.turn) (sent_so c.args.after c.args.reply.now c.send.result before after c.send.ensures.sent c.send.ensures.fault)
