use Rattle.std.proofs.Common.{◌≡◌, ℕ, List, Some, sym, ap, ◌∙◌, arith}
use Rattle.std.proofs.lemmas.Bool.{eq-eqb, ne_eqb}
use Rattle.std.specs.Prelude.{◌==◌, slice_get}
use Rattle.wallet_book.specs.declared.kept.Kept.{Kept}
use Rattle.wallet_book.proofs.HoldingLaws.{read_at}
use Rattle.wallet_book.proofs.KeptLaws.{find_here, find_next}
use Rattle.wallet_book.proofs.parts.Parts.find.Goals as goal

pub returns-then-number-k : goal.returns-then-number-k
returns-then-number-k c =
    let xs : List Kept = c.args.self.now.kept.items in
    let i : ℕ = c.loop-k.k-index in
    let x : Kept = c.k-item.result in
    let here : slice_get xs i ≡ Some x = ap (λ (ys : List Kept). slice_get ys i) (sym c.deref-k-items.ensures.value) ∙ read_at c.deref-k-items.result.now i x c.k-item.is (omega arith) in
    sym (find_here (λ k. c.args.number == k.number) xs i x c.loop-k.invariant here (eq-eqb c.args.number x.number c.if-number-k.true))

pub loop-k-preserved : goal.loop-k-preserved
loop-k-preserved c =
    let xs : List Kept = c.args.self.now.kept.items in
    let i : ℕ = c.loop-k.k-index in
    let x : Kept = c.k-item.result in
    let here : slice_get xs i ≡ Some x = ap (λ (ys : List Kept). slice_get ys i) (sym c.deref-k-items.ensures.value) ∙ read_at c.deref-k-items.result.now i x c.k-item.is (omega arith) in
    find_next (λ k. c.args.number == k.number) xs i x c.loop-k.invariant here (ne_eqb c.args.number x.number c.if-number-k.false)
