use Rattle.std.proofs.Common.{◌≡◌, ℕ, ◌+◌, true, false, List, length, ap, sym, ◌∙◌, refl, arith, ltb}
use Rattle.mc_records.specs.Entry.{payload}
use Rattle.mc_records.specs.Sizes.{tail, tail_bytes, size}
use Rattle.mc_records.proofs.SizeLaws.{length-tail, tail_size-by}
use Rattle.slow_ledger.proofs.stages.fitted.Goals as goal

pub returns-then-pass : goal.returns-then-pass
returns-then-pass c e is =
    let long : length c.args.payload.now ≡ length (payload e) = ap (λ (l : List ℕ). length l) is in
    let behind : c.tail_len.result ≡ length (tail c.args.h.now e) =
    c.tail_len.ensures.value ∙ ap tail_bytes c.slow_has_switch.ensures ∙ sym (tail_size-by c.args.h.now) ∙ sym (length-tail c.args.h.now e) in
    let sum : size c.args.h.now + (length (payload e) + length (tail c.args.h.now e) + 5) ≡ c.in-Ok.size + (length c.args.payload.now + c.tail_len.result + 5) =
    omega (arith, long, behind, c.in-Ok.ensures) in
    let over : ltb c.args.limits.journal (size c.args.h.now + (length (payload e) + length (tail c.args.h.now e) + 5)) ≡ true =
    ap (λ (n : ℕ). ltb c.args.limits.journal n) sum ∙ sym c.pass.ensures ∙ c.if-pass.true in
    rw (over, c.in-Ok.ensures, long) refl

pub returns : goal.returns
returns c e is =
    let long : length c.args.payload.now ≡ length (payload e) = ap (λ (l : List ℕ). length l) is in
    let behind : c.tail_len.result ≡ length (tail c.args.h.now e) =
    c.tail_len.ensures.value ∙ ap tail_bytes c.slow_has_switch.ensures ∙ sym (tail_size-by c.args.h.now) ∙ sym (length-tail c.args.h.now e) in
    let sum : size c.args.h.now + (length (payload e) + length (tail c.args.h.now e) + 5) ≡ c.in-Ok.size + (length c.args.payload.now + c.tail_len.result + 5) =
    omega (arith, long, behind, c.in-Ok.ensures) in
    let room : ltb c.args.limits.journal (size c.args.h.now + (length (payload e) + length (tail c.args.h.now e) + 5)) ≡ false =
    ap (λ (n : ℕ). ltb c.args.limits.journal n) sum ∙ sym c.pass.ensures ∙ c.if-pass.false in
    rw room refl
