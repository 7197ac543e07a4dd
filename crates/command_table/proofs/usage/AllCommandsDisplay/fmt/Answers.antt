use Rattle.std.proofs.Common.{◌∙◌, [], refl, rules, sym}
use Rattle.std.proofs.Output.{has_written_append, has_written_of_eq, writes_in_calls_nil}
use Rattle.command_table.specs.declared.table.TheConstants.{COMMANDS}
use Rattle.command_table.specs.Usage.{commands}
use Rattle.command_table.proofs.UsageLemmas.{ends_behind, name_behind, name_left_out}
use Rattle.command_table.proofs.usage.AllCommandsDisplay.fmt.Goals as goal
use Rattle.command_table.proofs.usage.AllCommandsDisplay.fmt.Goals.{then-has_role+in_ok-write, else-has_role}

pub loop-name-init : goal.loop-name-init
unfolding commands
loop-name-init g c = λ plain. ([], record { wrote = writes_in_calls_nil _ _; plain = plain }, refl)

pub loop-name-preserved : goal.loop-name-preserved
loop-name-preserved g c = λ plain.
    let so_far = c.loop-name.invariant plain in
    elim c.if-has_role.branch [
      | then-has_role+in_ok-write w ↦
          let next = w.in_ok-write.ensures.writes so_far.1.plain refl in
          let goes_on = name_behind _ c.loop-name.before COMMANDS c.loop-name.name-index _ so_far.0 _ c.loop-name-test.true (sym c.has_role.ensures ∙ w.if-has_role.true) so_far.2 in
          rw (w.f-is, w.before-is) (_, has_written_append _ _ _ _ _ _ so_far.1 next, goes_on)
      | else-has_role w ↦
          let goes_on = name_left_out _ c.loop-name.before COMMANDS c.loop-name.name-index _ so_far.0 _ c.loop-name-test.true (sym c.has_role.ensures ∙ w.if-has_role.false) so_far.2 in
          rw (w.f-is, w.before-is) (so_far.0, so_far.1, goes_on)
    ]

pub returns-clause-writes : goal.returns-clause-writes
returns-clause-writes g c = λ plain ok.
    let so_far = c.loop-name.invariant plain in
    has_written_of_eq _ _ _ _ _ (ends_behind _ c.loop-name.before COMMANDS c.loop-name.name-index so_far.0 _ c.loop-name-test.false so_far.2) (has_written_append _ _ _ _ _ _ so_far.1 (search rules))
