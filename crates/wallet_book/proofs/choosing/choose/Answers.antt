use Rattle.std.proofs.Common.{◌≡◌, ℕ, ◌+◌, ◌<◌, List, length, Option, Some, max, take, ap, ap₂, sym, subst, ◌∙◌, arith, nat_le}
use Rattle.std.specs.Prelude.{slice_get}
use Rattle.wallet_book.specs.declared.holding.Holding.{Holding}
use Rattle.wallet_book.specs.Choosing.{fit_among, HasSeen, least_with}
use Rattle.wallet_book.proofs.ChoosingLaws.{seen_fit, seen_other}
use Rattle.wallet_book.proofs.HoldingLaws.{read_at}
use Rattle.wallet_book.proofs.choosing.choose.Goals as goal
use Rattle.wallet_book.proofs.choosing.choose.Goals.{then-is_fit, else-is_fit}

pub loop-place-preserved : goal.loop-place-preserved
loop-place-preserved c =
    let xs : List Holding = c.args.holdings.now in
    let i : ℕ = c.loop-place.place in
    let x : Holding = c.index-holdings-place.result in
    let t : ℕ = c.args.time in
    let vendor : List ℕ = c.args.vendor.now in
    let limit : ℕ = c.args.limit in
    let least : Option (ℕ × ℕ) = c.loop-place.least in
    let greatest : ℕ = c.loop-place.greatest in
    let lt : i < length xs = omega arith in
    let here : slice_get xs i ≡ Some x = read_at xs i x c.index-holdings-place.is lt in
    let value : c.get-value.result ≡ x.piece.value = c.get-value.ensures.units ∙ c.value.ensures.value in
    let seen : Option (ℕ × ℕ) → ℕ → Type 0 = HasSeen (fit_among (take (i + 1) xs) t vendor) limit in
    elim c.if-is_fit.branch [
      | then-is_fit w ↦
          let h : seen (least_with (nat_le limit x.piece.value) least i x.piece.value) (max greatest x.piece.value) = seen_fit xs i x t limit vendor least greatest c.requires here (sym (c.is_fit.ensures i) ∙ w.if-is_fit.true) c.loop-place.invariant in
          let a : least_with (nat_le limit x.piece.value) least i x.piece.value ≡ c.if-is_fit.least = sym (w.least-is ∙ w.lesser-least.ensures ∙ ap₂ (λ (l v : ℕ). least_with (nat_le l v) least i v) w.get.ensures.units value) in
          let b : max greatest x.piece.value ≡ c.if-is_fit.greatest = sym (w.greatest-is ∙ w.greater-greatest.ensures ∙ ap (λ (v : ℕ). max greatest v) value) in
          subst (λ (l : Option (ℕ × ℕ)). seen l c.if-is_fit.greatest) a (subst (seen (least_with (nat_le limit x.piece.value) least i x.piece.value)) b h)
      | else-is_fit w ↦
          let h : seen least greatest = seen_other xs i x t limit vendor least greatest c.requires here (sym (c.is_fit.ensures i) ∙ w.if-is_fit.false) c.loop-place.invariant in
          subst (λ (l : Option (ℕ × ℕ)). seen l c.if-is_fit.greatest) (sym w.least-is) (subst (seen least) (sym w.greatest-is) h)
    ]
