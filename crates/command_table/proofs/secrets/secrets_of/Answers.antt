use Rattle.std.proofs.Common.{◌≡◌, ℕ, ◌<◌, List, length, take, refl, sym, subst, arith}
use Rattle.std.proofs.lemmas.Option.{IfSome_then}
use Rattle.std.proofs.lemmas.List.{take_more_set, length-set}
use Rattle.command_table.specs.Ranges.{IsSecretList, joined}
use Rattle.command_table.proofs.SecretLemmas.{none_read, is_read, one_more, all_read, none_follows, no_comma}
use Rattle.command_table.proofs.secrets.secrets_of.Goals as goal

pub loop-i-init : goal.loop-i-init
loop-i-init c = record { so_far = none_read c.args.word.now; room = refl }

pub returns-in_default-clause-none : goal.returns-in_default-clause-none
returns-in_default-clause-none c = λ none. none_follows c.args.word.now _ c.loop-i.rest.now c.in_default.field-0.left c.loop-i.invariant.so_far c.in_default.ensures

pub returns-in_default-split_first-clause-range : goal.returns-in_default-split_first-clause-range
returns-in_default-split_first-clause-range c =
    let lt : c.loop-i.i < length c.loop-i.list = omega (arith, c.loop-i.invariant.room, c.loop-i-test.true) in
    let read = is_read c.loop-i.rest.now c.in-Ok.found.0 c.in-Ok.found.1.now c.in-Ok.ensures in
    let all = all_read _ c.loop-i.list c.loop-i.i _ _ _ c.loop-i-test.true lt c.loop-i.invariant.so_far read c.in_default-split_first.ensures.cases in
    IfSome_then c.new.result c.new.ensures.value (λ x is. subst IsSecretList (sym is) all.0)

pub returns-in_default-split_first-clause-spelled : goal.returns-in_default-split_first-clause-spelled
returns-in_default-split_first-clause-spelled c =
    let lt : c.loop-i.i < length c.loop-i.list = omega (arith, c.loop-i.invariant.room, c.loop-i-test.true) in
    let read = is_read c.loop-i.rest.now c.in-Ok.found.0 c.in-Ok.found.1.now c.in-Ok.ensures in
    let all = all_read _ c.loop-i.list c.loop-i.i _ _ _ c.loop-i-test.true lt c.loop-i.invariant.so_far read c.in_default-split_first.ensures.cases in
    IfSome_then c.new.result c.new.ensures.value (λ x is. subst (λ (s : List (List ℕ)). c.args.word.now ≡ joined s) (sym is) all.1)

pub returns-then-next-ne44-clause-none : goal.returns-then-next-ne44-clause-none
returns-then-next-ne44-clause-none c = λ none.
    let read = is_read c.loop-i.rest.now c.in-Ok.found.0 c.in-Ok.found.1.now c.in-Ok.ensures in
    no_comma c.args.word.now _ c.loop-i.rest.now c.in-Ok.found.0 c.in-Ok.found.1.now c.in-Some.next.now c.in-Some.more.now c.loop-i.invariant.so_far read c.in-Some.ensures.cases.0 c.if-next-ne44.true

pub loop-i-preserved : goal.loop-i-preserved
loop-i-preserved c =
    let lt : c.loop-i.i < length c.loop-i.list = omega (arith, c.loop-i.invariant.room, c.loop-i-test.true) in
    let read = is_read c.loop-i.rest.now c.in-Ok.found.0 c.in-Ok.found.1.now c.in-Ok.ensures in
    record {
      so_far = rw (take_more_set c.loop-i.list c.loop-i.i c.in-Ok.found.0 lt)
          (one_more c.args.word.now (take c.loop-i.i c.loop-i.list) c.loop-i.rest.now c.in-Ok.found.0 c.in-Ok.found.1.now c.in-Some.next.now c.in-Some.more.now c.loop-i.invariant.so_far read c.in-Some.ensures.cases.0 c.if-next-ne44.false);
      room = omega (arith, length-set c.loop-i.list c.loop-i.i c.in-Ok.found.0, c.loop-i.invariant.room);
    }
