use Rattle.std.proofs.Common.{rules, arith, subst, ◌≡◌, ◌≤◌, sym, List, ℕ, ◌-◌, length, drop}
use Rattle.std.specs.Prelude.{slice_range}
use Rattle.std.proofs.lemmas.List.{length-take}
use Rattle.millicent_http.specs.HeadEnds.{HasNoEnd, line_ends}
use Rattle.millicent_http.proofs.EndLemmas.{line_ends-fit}
use Rattle.millicent_http.proofs.BufferLemmas.{searched_buffer, no_end_max}
use Rattle.millicent_http.proofs.reader.HeadReader.find.Goals as goal

pub invariant_of-self : goal.invariant_of-self
invariant_of-self c =
    let held : List ℕ = slice_range c.deref.result.now c.self.inside.start c.self.inside.end in
    let is : held ≡ slice_range c.self.inside.buf.items c.self.inside.start c.self.inside.end = search rules in
    let none : HasNoEnd held c.max-searched.result = no_end_max held c.self.inside.searched c.skip_line_ends-skip.result c.max-searched.result (subst (λ (z : List ℕ). HasNoEnd z c.self.inside.searched) (sym is) c.self.invariant.0.none) c.skip_line_ends-skip.ensures (omega arith) in
    let fit : line_ends held ≤ length held = line_ends-fit held in (
      searched_buffer c.self.inside.buf.items held c.self.inside.start c.self.inside.end c.self.inside.skip c.self.inside.searched c.skip_line_ends-skip.result c.max-searched.result
          c.self.invariant.0 is c.skip_line_ends-skip.ensures none (omega arith) (omega (arith, c.self.invariant.0.order, fit, length-take (c.self.inside.end - c.self.inside.start) (drop c.self.inside.start c.deref.result.now))),
      omega arith,
    )

pub invariant_of-self-in-None : goal.invariant_of-self-in-None
invariant_of-self-in-None c =
    let held : List ℕ = slice_range c.deref.result.now c.self.inside.start c.self.inside.end in
    let is : held ≡ slice_range c.self.inside.buf.items c.self.inside.start c.self.inside.end = search rules in
    let fit : line_ends held ≤ length held = line_ends-fit held in (
      searched_buffer c.self.inside.buf.items held c.self.inside.start c.self.inside.end c.self.inside.skip c.self.inside.searched c.skip_line_ends-skip.result (length held)
          c.self.invariant.0 is c.skip_line_ends-skip.ensures c.in-None.ensures.none (omega arith) (omega (arith, c.self.invariant.0.order, length-take (c.self.inside.end - c.self.inside.start) (drop c.self.inside.start c.deref.result.now))),
      omega arith,
    )
