use Rattle.std.proofs.Common.{◌≡◌, ◌∙◌, ℕ, Option, Some, sym, ap, subst, map, string_bytes}
use Rattle.std.specs.Prelude.{is_some}
use Rattle.std.proofs.lemmas.Option.{same_Some}
use Rattle.mc_words.specs.declared.command.Command.{Command}
use Rattle.mc_words.proofs.WordLaws.{one_command}
use Rattle.mc_top.specs.AtDoor.{CanBeTold, EndsAtDoor, limit_of}
use Rattle.mc_top.proofs.at_door.run_at_door.Goals as goal

pub returns-in-Ok-None-clause-told : goal.returns-in-Ok-None-clause-told
returns-in-Ok-None-clause-told g c most words = absurd (c.in-Ok-None.ensures.none (ap is_some c.in-Ok-None.field-0-is) words.1.name words.1.values words.1.are)

pub returns-in-Some-clause-other_words : goal.returns-in-Some-clause-other_words
returns-in-Some-clause-other_words g c none = absurd (none c.in-Some.most (c.in-Ok-Some.command, rw c.in-Ok-Some.field-0-is at c.in-Ok-Some.ensures.command, c.in-Some.ensures.some))

pub returns-in-Some-clause-told : goal.returns-in-Some-clause-told
returns-in-Some-clause-told g c most words =
    let own : c.in-Ok-Some.command ≡ words.0 = one_command _ _ words.0 (rw c.in-Ok-Some.field-0-is at c.in-Ok-Some.ensures.command) words.1 in
    let same : Some c.in-Some.most ≡ Some most = sym c.in-Some.ensures.some.limit ∙ ap limit_of own ∙ words.2.limit in
    subst (λ (m : Option ℕ). EndsAtDoor g.O.Link.link g.O.Disk.disk (map string_bytes c.args.words.now) m c.args.out (g.U.Link.link c.args.door.now) c.tell_command.result.0 c.tell_command.result.1 (g.U.Link.link c.tell_command.new.door))
    (same_Some c.in-Some.most most same) c.tell_command.ensures.told

pub returns-clause-told : goal.returns-clause-told
returns-clause-told g c most words =
    let own : c.in-Ok-Some.command ≡ words.0 = one_command _ _ words.0 (rw c.in-Ok-Some.field-0-is at c.in-Ok-Some.ensures.command) words.1 in
    absurd (c.input_told.ensures.none (ap is_some c.in-None.is) most (subst (λ (x : Command). CanBeTold (map string_bytes c.args.words.now) x most) (sym own) words.2))
