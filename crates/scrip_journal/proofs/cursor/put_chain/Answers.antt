use Rattle.std.proofs.Common.{◌≡◌, ◌+◌, ◌++◌, ◌∷◌, [], List, ℕ, ap, sym, ◌∙◌, append_assoc, take, arith}
use Rattle.scrip_journal.proofs.cursor.put_chain.Goals as goal

with_gate : (n : ℕ) → n + 33 ≡ n + 32 + 1
with_gate n = omega arith

pub returns-clause-written : goal.returns-clause-written
returns-clause-written c =
    ap (λ (n : ℕ). take n c.put_at-2.new.out) (with_gate c.args.at)
    ∙ c.put_at-2.ensures.written ∙ ap (λ (n : ℕ). take (c.args.at + n) c.put_at.new.out ++ 0 ∷ []) (sym c.requires.long)
    ∙ ap (λ (l : List ℕ). l ++ 0 ∷ []) c.put_at.ensures.written ∙ append_assoc (take c.args.at c.args.out.now) c.args.chain.now (0 ∷ [])
