use Rattle.std.proofs.Common.{◌++◌, ◌∷◌, [], List, ℕ, sym, ap, ◌∙◌, append_assoc, arith}
use Rattle.vendor_commands.proofs.LineLemmas.{comma_taken, comma_first, secrets_more}
use Rattle.vendor_commands.proofs.lines.append_secrets.Goals as goal
use Rattle.vendor_commands.proofs.lines.append_secrets.Goals.{then-i-gt0+in_ok-push-2, else-i-gt0}

pub loop-i-preserved : goal.loop-i-preserved
loop-i-preserved c =
    let i : ℕ = c.loop-i.i in
    let secrets : List (List ℕ) = c.args.secrets.now in
    let line : List ℕ = c.loop-i.line.items in
    let more = c.in_ok-extend_from_slice.ensures.items in
    secrets_more (c.args.line.now.items ++ 32 ∷ []) line c.extend_from_slice.new.self.items c.hex_of.result secrets i (omega (arith, c.loop-i-test.true)) c.loop-i.invariant c.hex_of.ensures
    (elim c.if-i-gt0.branch [
      | then-i-gt0+in_ok-push-2 w ↦
          more ∙ ap (λ v. v.items ++ c.hex_of.result) w.line-is ∙ ap (λ (l : List ℕ). l ++ c.hex_of.result) w.in_ok-push-2.ensures.items ∙ append_assoc line (44 ∷ []) c.hex_of.result
          ∙ ap (λ (l : List ℕ). line ++ (l ++ c.hex_of.result)) (sym (comma_taken secrets i (omega (arith, w.if-i-gt0.true)) (omega (arith, c.loop-i-test.true))))
      | else-i-gt0 w ↦
          more ∙ ap (λ v. v.items ++ c.hex_of.result) w.line-is
          ∙ ap (λ (l : List ℕ). line ++ (l ++ c.hex_of.result)) (sym (comma_first secrets i (omega (arith, w.if-i-gt0.false))))
    ])
