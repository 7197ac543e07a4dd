use Rattle.std.proofs.Common.{slice_range, ◌≤◌, ◌∙◌, sym, arith, eq-eqb, eqb-true, eq-or-lt_of_le, inl, inr}
use Rattle.play_heads.proofs.SupplyLaws.{none_come, some_come}
use Rattle.play_heads.proofs.supply.Supply.is_empty.Goals as goal

pub returns : goal.returns
returns c =
    let s = c.self.inside in
    let given : s.length ≤ s.given = omega (arith, c.if-self.false) in (
      λ t. let last : s.end ≤ s.next = omega (arith, eqb-true s.next s.end t) in sym c.self.view_is ∙ none_come s.buffer s.given s.length s.next s.end given last,
      λ e. elim (eq-or-lt_of_le c.self.invariant.0) [
        | inl same ↦ eq-eqb s.next s.end same
        | inr more ↦ absurd (some_come (slice_range s.buffer s.given s.length) s.next s.end more (c.self.view_is ∙ e))
      ],
    )
