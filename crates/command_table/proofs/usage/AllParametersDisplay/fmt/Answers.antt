use Rattle.std.proofs.Common.{refl, sym, ap, ◌∙◌, flat_map, []}
use Rattle.std.proofs.Output.{has_written_append, has_written_of_eq}
use Rattle.std.proofs.lemmas.List.{flat_map_more, take_more}
use Rattle.command_table.specs.Usage.{shown}
use Rattle.command_table.proofs.usage.AllParametersDisplay.fmt.Goals as goal

pub loop-parameter-preserved : goal.loop-parameter-preserved
loop-parameter-preserved g c = λ plain.
    let so_far = c.loop-parameter.invariant plain in
    let next = c.in_ok-write.ensures.writes so_far.plain refl in
    let more = take_more c.args.self.now.parameters.now c.loop-parameter.parameter-index _ c.loop-parameter-test.true in
    has_written_of_eq _ _ _ _ _ (flat_map_more shown [] _ _ ∙ sym (ap (flat_map shown) more)) (has_written_append _ _ _ _ _ _ so_far next)
