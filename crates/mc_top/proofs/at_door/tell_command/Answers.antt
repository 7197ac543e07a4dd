use Rattle.std.proofs.Common.{rules, ◌≡◌, inl, inr, refl, ap, map, string_bytes}
use Rattle.std.specs.Prelude.{is_some}
use Rattle.command_status.specs.Statuses.{line_of}
use Rattle.command_status.specs.declared.status.Status.TheVariants.{LinkFault}
use Rattle.door_wire.specs.Wire.{told_of, with_dash}
use Rattle.mc_top.proofs.at_door.tell_command.Goals as goal

pub returns-in-Some-clause-told : goal.returns-in-Some-clause-told
returns-in-Some-clause-told g c =
    let put : c.deref-2.result.now ≡ told_of (with_dash (map string_bytes c.args.words.now)) c.in-Ok.input.items = search rules in
    record {
      number = c.in-Some.said.status;
      line = c.in-Some.said.line.now;
      b = c.input_of.new.k;
      told = (g.met.O.Outside.link_keeps _ _ c.input_of.ensures.moved, inr (inr (c.in-Ok.input.items, c.in-Ok.ensures.read, inl (rw put at c.in-Some.ensures.some))));
      whole = c.say_answer.ensures.said.0;
      said = c.say_answer.ensures.said.1;
      keeps = c.say_answer.ensures.keeps;
      status' = c.say_answer.ensures.said.2;
    }

pub returns-clause-told : goal.returns-clause-told
returns-clause-told g c =
    let put : c.deref-2.result.now ≡ told_of (with_dash (map string_bytes c.args.words.now)) c.in-Ok.input.items = search rules in
    let none = c.ask_door.ensures.none (ap is_some c.in-None.is) in
    record {
      number = 6;
      line = line_of LinkFault;
      b = c.input_of.new.k;
      told = (g.met.O.Outside.link_keeps _ _ c.input_of.ensures.moved, inr (inr (c.in-Ok.input.items, c.in-Ok.ensures.read, inr (refl, refl, rw put at none))));
      whole = c.answer-in-None.ensures.ends.whole;
      said = c.answer-in-None.ensures.ends.said;
      keeps = c.answer-in-None.ensures.ends.keeps;
      status' = c.answer-in-None.ensures.ends.number';
    }
