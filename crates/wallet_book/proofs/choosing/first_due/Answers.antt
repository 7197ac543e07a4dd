use Rattle.std.proofs.Common.{◌≡◌, ℕ, ◌+◌, ◌<◌, List, length, Option, Some, take, ap₂, sym, subst, ◌∙◌, arith, nat_le}
use Rattle.std.specs.Prelude.{slice_get}
use Rattle.wallet_book.specs.declared.holding.Holding.{Holding}
use Rattle.wallet_book.specs.Choosing.{fit_among, HasFirst, least_with}
use Rattle.wallet_book.proofs.ChoosingLaws.{first_fit, first_other}
use Rattle.wallet_book.proofs.HoldingLaws.{read_at}
use Rattle.wallet_book.proofs.choosing.first_due.Goals as goal
use Rattle.wallet_book.proofs.choosing.first_due.Goals.{then-is_fit, else-is_fit}

pub loop-place-preserved : goal.loop-place-preserved
loop-place-preserved c =
    let xs : List Holding = c.args.holdings.now in
    let i : ℕ = c.loop-place.place in
    let x : Holding = c.index-holdings-place.result in
    let t : ℕ = c.args.time in
    let vendor : List ℕ = c.args.vendor.now in
    let before : ℕ = c.args.before in
    let first : Option (ℕ × ℕ) = c.loop-place.first in
    let lt : i < length xs = omega arith in
    let here : slice_get xs i ≡ Some x = read_at xs i x c.index-holdings-place.is lt in
    let seen : Option (ℕ × ℕ) → Type 0 = HasFirst xs t vendor (fit_among (take (i + 1) xs) t vendor) before in
    elim c.if-is_fit.branch [
      | then-is_fit w ↦
          let h : seen (least_with (nat_le x.piece.expires before) first i x.piece.expires) = first_fit xs i x t before vendor first c.requires here (sym (c.is_fit.ensures i) ∙ w.if-is_fit.true) c.loop-place.invariant in
          let a : least_with (nat_le x.piece.expires before) first i x.piece.expires ≡ c.if-is_fit.first = sym (w.first-is ∙ w.lesser-first.ensures ∙ ap₂ (λ (v b : ℕ). least_with (nat_le v b) first i v) c.expires-end.ensures.expires w.seconds.ensures.seconds) in
          subst seen a h
      | else-is_fit w ↦
          let h : seen first = first_other xs i x t before vendor first c.requires here (sym (c.is_fit.ensures i) ∙ w.if-is_fit.false) c.loop-place.invariant in
          subst seen (sym w.first-is) h
    ]
