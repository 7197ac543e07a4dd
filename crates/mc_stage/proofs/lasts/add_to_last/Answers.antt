use Rattle.std.proofs.Common.{refl, ◌-◌, ◌++◌, ℕ, List, Vec, Global, vec_len, arith}
use Rattle.mc_stage.proofs.Elements.{at_err, set_same, last_changed}
use Rattle.mc_stage.proofs.lasts.add_to_last.Goals as goal

pub returns-in_err-extend_from_slice-clause-err : goal.returns-in_err-extend_from_slice-clause-err
returns-in_err-extend_from_slice-clause-err c = at_err _ _ (set_same (λ (v : Vec ℕ Global). v.items) c.args.lists.now.items (vec_len c.args.lists.now - 1) c.in-Some.last.now c.extend_from_slice.new.self c.in-Some.ensures.value c.in_err-extend_from_slice.ensures.items)

pub returns-in_ok-extend_from_slice-clause-ok : goal.returns-in_ok-extend_from_slice-clause-ok
returns-in_ok-extend_from_slice-clause-ok c = last_changed (λ (v : Vec ℕ Global). v.items) (λ (x : List ℕ). x ++ c.args.bytes.now) c.args.lists.now.items (vec_len c.args.lists.now - 1) c.in-Some.last.now c.extend_from_slice.new.self (omega (arith, c.args.lists.now.ok, c.in-Some.ensures.variant.0 refl)) c.in-Some.ensures.value c.in_ok-extend_from_slice.ensures.items
