use Rattle.std.proofs.Common.{◌∙◌, ap₂, arith, refl, string_bytes, sym}
use Rattle.std.specs.Prelude.{◌&&◌}
use Rattle.std.proofs.lemmas.List.{length-map}
use Rattle.command_table.specs.declared.table.TheConstants.{COMMANDS}
use Rattle.command_table.proofs.NamingLemmas.{alike, among_named, few_named, next_called, next_other, none_left, other_role}
use Rattle.command_table.proofs.table.named.Goals as goal
use Rattle.command_table.proofs.table.named.Goals.{else-eq-via-then-eq+else-eq-2, else-eq-via-else-eq}

pub returns-in_default : goal.returns-in_default
returns-in_default c = sym (few_named _ (omega (arith, length-map c.args.words.now string_bytes, c.parts_of.ensures.none (rw c.in_default.is refl))))

pub returns-then-eq-2 : goal.returns-then-eq-2
returns-then-eq-2 c =
    let role = alike _ _ _ _ c.eq.ensures c.form-form.ensures.role ∙ c.if-eq.true in
    let command = alike _ _ _ _ c.eq-then-eq.ensures c.form-form.ensures.name ∙ c.if-eq-2.true in
    sym (among_named _ _ _ _ c.in-Some.ensures.some ∙ c.loop-name.invariant ∙ next_called COMMANDS _ _ _ _ c.loop-name-test.true (ap₂ ◌&&◌ role command))

pub loop-name-preserved : goal.loop-name-preserved
loop-name-preserved c =
    let role = alike _ _ _ _ c.eq.ensures c.form-form.ensures.role in
    c.loop-name.invariant ∙ next_other COMMANDS _ _ _ _ c.loop-name-test.true (elim c.else-eq.branch [
      | else-eq-via-then-eq+else-eq-2 w ↦ ap₂ ◌&&◌ (role ∙ w.if-eq.true) (alike _ _ _ _ w.eq-then-eq.ensures c.form-form.ensures.name ∙ w.if-eq-2.false)
      | else-eq-via-else-eq w ↦ other_role _ _ (role ∙ w.if-eq.false)
    ])

pub returns : goal.returns
returns c = sym (among_named _ _ _ _ c.in-Some.ensures.some ∙ c.loop-name.invariant ∙ none_left COMMANDS c.loop-name.name-index _ _ (omega (arith, c.loop-name-test.false)))
