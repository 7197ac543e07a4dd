use Rattle.std.proofs.Common.{refl, ◌-◌, ◌∙◌, ap, take, length, ℕ, List, Vec, Global, vec_len, arith}
use Rattle.mc_stage.proofs.Elements.{last_changed}
use Rattle.mc_stage.proofs.lasts.drop_from_last.Goals as goal

pub returns-in-Some : goal.returns-in-Some
returns-in-Some c = last_changed (λ (v : Vec ℕ Global). v.items) (λ (x : List ℕ). take (length x - c.args.count) x) c.args.lists.now.items (vec_len c.args.lists.now - 1) c.in-Some.last.now c.truncate.new.self (omega (arith, c.args.lists.now.ok, c.in-Some.ensures.variant.0 refl)) c.in-Some.ensures.value
    (c.truncate.ensures.items ∙ ap (λ (n : ℕ). take n c.in-Some.last.now.items) (omega (arith, c.saturating_sub.ensures, c.len.ensures, c.in-Some.last.now.ok)))
