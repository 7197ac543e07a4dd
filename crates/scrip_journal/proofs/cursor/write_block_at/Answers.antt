use Rattle.std.proofs.Common.{◌≡◌, ◌+◌, ◌++◌, ◌∷◌, [], List, ℕ, ap, ap₂, ◌∙◌, sym, take, length, arith, append_assoc}
use Rattle.std.proofs.lemmas.List.{take_at}
use Rattle.scrip_journal.proofs.Bodies.{take_front}
use Rattle.scrip_journal.proofs.cursor.write_block_at.Goals as goal

pub returns-clause-block : goal.returns-clause-block
returns-clause-block c =
    let front = c.split_at_mut-rest.result.0.now in
    let back = c.split_at_mut-rest.result.1.now in
    let cut = c.split_at_mut-rest.ensures in
    let front_is : front ≡ take c.args.at c.args.out.now ++ 1 ∷ [] = sym (take_at front back (c.args.at + 1) cut.front_len) ∙ ap (λ (l : List ℕ). take (c.args.at + 1) l) (sym cut.value) ∙ c.put_at.ensures.written in
    ap (λ (n : ℕ). take (n + c.write_block.result.0) (front ++ c.write_block.new.out)) (sym cut.front_len)
    ∙ take_front front c.write_block.new.out c.write_block.result.0
    ∙ ap₂ (λ (f l : List ℕ). f ++ l) front_is c.write_block.ensures.block
    ∙ append_assoc (take c.args.at c.args.out.now) (1 ∷ []) _
