use Rattle.std.proofs.Common.{◌≡◌, ◌≤◌, ◌+◌, ◌-◌, ◌++◌, ◌∙◌, ℕ, List, length, take, drop, slice_range, sym, ap, arith, rules, take_all, length-take, length-drop}
use Rattle.std.proofs.lemmas.List.{take-append-le}
use Rattle.play_heads.proofs.SupplyLaws.{part_in_two}
use Rattle.play_heads.proofs.supply.give_part.Goals as goal

pub returns-clause-part : goal.returns-clause-part
returns-clause-part c =
    let b = c.args.buffer.now in
    let from = c.args.given.now in
    let n = c.min-n.result in
    let x = c.copy_from_slice.new.self in
    let copied : x ≡ slice_range b from (from + n) = c.copy_from_slice.ensures.after in
    let whole : length b ≡ 512 = search rules in
    let within : from + n ≤ c.args.end = omega (arith, c.min-n.ensures, c.requires.some) in
    let long : length x ≡ n = omega (arith, ap length copied, length-take (from + n - from) (drop from b), length-drop from b, whole, within, c.requires.within) in
    let front : take n (x ++ drop n c.args.buf.now) ≡ slice_range b from (from + n) =
    take-append-le n x (drop n c.args.buf.now) (omega (arith, long)) ∙ take_all n x (omega (arith, long)) ∙ copied in
    part_in_two b from n c.args.end within ∙ ap (λ (l : List ℕ). l ++ slice_range b (from + n) c.args.end) (sym front)
