use Rattle.std.proofs.Common.{◌-◌, length, take, drop, arith, ap₂, ◌∙◌, ◌++◌, List, ℕ}
use Rattle.std.proofs.lemmas.List.{length-take, take-append-drop}
use Rattle.piece_lines.proofs.LineLaws.{text_front, text_whole, no_front}
use Rattle.piece_lines.proofs.line.scrip.Goals as goal

pub returns-in-Ok : goal.returns-in-Ok
returns-in-Ok c =
    let bytes = c.args.bytes.now in
    let n = length bytes in
    text_whole bytes (take (n - n) (drop n bytes)) c.in-Ok.scrip.piece c.in-Ok.scrip.cert (omega (arith, length-take (n - n) (drop n bytes))) c.in-Ok.ensures.found.1

pub returns-in-Ok-read_scrip : goal.returns-in-Ok-read_scrip
returns-in-Ok-read_scrip c =
    let bytes = c.args.bytes.now in
    let place = c.in-Err.fault.place in
    let parts = ap₂ (λ (x y : List ℕ). x ++ y) c.split_at.ensures.front c.split_at.ensures.back ∙ take-append-drop place bytes in
    text_front bytes c.split_at.result.0.now c.split_at.result.1.now c.in-Ok-read_scrip.scrip.piece c.in-Ok-read_scrip.scrip.cert parts c.in-Ok-read_scrip.ensures.found.1

pub returns-in-Err-read_scrip : goal.returns-in-Err-read_scrip
returns-in-Err-read_scrip c =
    no_front c.args.bytes.now c.split_at.result.0.now c.split_at.result.1.now c.in-Err.fault.place c.in-Err.ensures.same c.split_at.ensures.front c.split_at.ensures.back
    (λ t. let no = c.in-Err-read_scrip.ensures.exact.1 t in absurd cc)
