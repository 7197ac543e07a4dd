use Rattle.std.proofs.Common.{◌+◌, map, string_bytes, take, sym, subst, arith, below_more}
use Rattle.std.proofs.lemmas.List.{length-map, take-map}
use Rattle.mc_words.specs.Wrong.{GoOn}
use Rattle.mc_words.proofs.wrong.first_wrong.Goals as goal

pub returns-then-not-branch : goal.returns-then-not-branch
returns-then-not-branch c = (
  omega (arith, c.loop-place-test.true, length-map c.args.words.now string_bytes),
  λ goes. let is = c.in_ok-go_on.ensures.1 (subst GoOn (take-map string_bytes (c.loop-place.place + 1) c.args.words.now) goes) in absurd (cc (c.if-not-branch.true, is)),
  c.loop-place.invariant,
)

pub loop-place-preserved : goal.loop-place-preserved
loop-place-preserved c =
    below_more (λ m. GoOn (take (m + 1) (map string_bytes c.args.words.now))) c.loop-place.place c.loop-place.invariant
    (subst GoOn (sym (take-map string_bytes (c.loop-place.place + 1) c.args.words.now)) (c.in_ok-go_on.ensures.0 c.if-not-branch.false))
