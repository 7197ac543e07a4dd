use Rattle.std.proofs.Common.{◌≡◌, ℕ, List, Some, sym, arith}
use Rattle.std.specs.Prelude.{slice_get}
use Rattle.wallet_book.specs.declared.kept.Kept.{Kept}
use Rattle.wallet_book.specs.Kept.{is_get_of}
use Rattle.wallet_book.proofs.HoldingLaws.{read_at}
use Rattle.wallet_book.proofs.KeptLaws.{find_here, find_next}
use Rattle.wallet_book.proofs.finding.first_get.Goals as goal

pub returns-then-is_get : goal.returns-then-is_get
returns-then-is_get c =
    let xs : List Kept = c.args.kept.now in
    let i : ℕ = c.loop-k.k-index in
    let x : Kept = c.k-item.result in
    let here : slice_get xs i ≡ Some x = read_at xs i x c.k-item.is (omega arith) in
    sym (find_here (is_get_of c.args.vendor.now c.args.target.now) xs i x c.loop-k.invariant here (sym c.if-is_get.ensures))

pub loop-k-preserved : goal.loop-k-preserved
loop-k-preserved c =
    let xs : List Kept = c.args.kept.now in
    let i : ℕ = c.loop-k.k-index in
    let x : Kept = c.k-item.result in
    let here : slice_get xs i ≡ Some x = read_at xs i x c.k-item.is (omega arith) in
    find_next (is_get_of c.args.vendor.now c.args.target.now) xs i x c.loop-k.invariant here (sym c.if-is_get.ensures)
