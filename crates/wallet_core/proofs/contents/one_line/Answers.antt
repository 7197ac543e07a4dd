use Rattle.std.proofs.Common.{◌≡◌, ℕ, List, ◌++◌, Some, length, ◌-◌, sym, ap₂, ◌∙◌, arith}
use Rattle.std.proofs.lemmas.List.{take-append-drop}
use Rattle.mc_records.specs.Entry.{Held}
use Rattle.wallet_model.specs.Settling.{one_line}
use Rattle.wallet_core.proofs.LineLaws.{short_line, bad_text, bad_rest, right_line}
use Rattle.wallet_core.proofs.CameLaws.{piece_read, no_piece, line_held, line_piece}
use Rattle.wallet_core.proofs.contents.one_line.Goals as goal

pub returns-then-contents-lt-BEHIND_TEXT : goal.returns-then-contents-lt-BEHIND_TEXT
returns-then-contents-lt-BEHIND_TEXT c =
    let none = short_line c.args.contents.now (omega arith) in
    record { held = none; piece = no_piece (one_line c.args.contents.now) none }

pub returns-in-Err : goal.returns-in-Err
returns-in-Err c =
    let none = bad_text c.args.contents.now c.split_at.result.0.now c.split_at.result.1.now (λ is. absurd (let ok = c.in-Err.ensures.exact.1 is in cc)) c.split_at.ensures.front c.split_at.ensures.back in
    record { held = none; piece = no_piece (one_line c.args.contents.now) none }

pub returns-in-Err-read_secret : goal.returns-in-Err-read_secret
returns-in-Err-read_secret c =
    let none = bad_rest c.args.contents.now c.split_at.result.0.now c.split_at.result.1.now c.in-Err-read_secret.field-0.left c.in-Err-read_secret.ensures c.split_at.ensures.front c.split_at.ensures.back in
    record { held = none; piece = no_piece (one_line c.args.contents.now) none }

pub returns-in-Ok-read_secret : goal.returns-in-Ok-read_secret
returns-in-Ok-read_secret c =
    let contents : List ℕ = c.args.contents.now in
    let text : List ℕ = c.split_at.result.0.now in
    let n : ℕ = length contents - 34 in
    let whole : contents ≡ text ++ c.split_at.result.1.now = sym (take-append-drop n contents) ∙ ap₂ (λ (x y : List ℕ). x ++ y) (sym c.split_at.ensures.front) (sym c.split_at.ensures.back) in
    let long : length c.split_at.result.1.now ≡ 34 = omega (arith, c.split_at.ensures.back_len, c.if-contents-lt-BEHIND_TEXT.false) in
    let x : Held = record { text = text; secret = c.in-Ok-read_secret.read.0 } in
    let line : Some x ≡ one_line contents = right_line contents text c.split_at.result.1.now c.in-Ok-read_secret.read.0 c.in-Ok-read_secret.read.1.now _ _ whole long c.in-Ok.ensures.found.1 c.in-Ok-read_secret.ensures in
    record {
      held = line_held (one_line contents) c.in-Ok.scrip.text x c.in-Ok.ensures.found.0 line;
      piece = line_piece (one_line contents) x c.in-Ok.scrip.piece line (piece_read text _ c.in-Ok.ensures.same);
    }
