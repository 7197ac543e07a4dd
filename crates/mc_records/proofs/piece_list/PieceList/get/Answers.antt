use Rattle.std.proofs.Common.{sym, ap, ◌∙◌, Option, Some, List, ℕ}
use Rattle.mc_records.specs.Entry.{Held}
use Rattle.mc_records.specs.Views.{held_of}
use Rattle.mc_records.proofs.PieceLaws.{past_list, got, not_got}
use Rattle.mc_records.proofs.piece_list.PieceList.get.Goals as goal

pub returns-then-n-self : goal.returns-then-n-self
returns-then-n-self c = let s = c.args.self.now in sym (past_list s.count c.args.n s.bytes.now s.spelled c.if-n-self.true)

pub returns-in-Err : goal.returns-in-Err
returns-in-Err c = let s = c.args.self.now in absurd (not_got s.count c.args.n s.bytes.now _ s.spelled c.if-n-self.false c.in-Err.ensures)

pub returns-in-Ok-read_scrip : goal.returns-in-Ok-read_scrip
returns-in-Ok-read_scrip c =
    let s = c.args.self.now in
    let g = got s.count c.args.n s.bytes.now (held_of c.in-Ok.piece) _ s.spelled c.if-n-self.false c.in-Ok.ensures in
    ap found c.in-Ok-read_scrip.ensures.found.0 ∙ sym g.0
  where
    found : List ℕ → Option Held
    found text = Some (record { text = text; secret = c.in-Ok.piece.1 })

pub returns-in-Err-read_scrip : goal.returns-in-Err-read_scrip
returns-in-Err-read_scrip c =
    let s = c.args.self.now in
    let g = got s.count c.args.n s.bytes.now (held_of c.in-Ok.piece) _ s.spelled c.if-n-self.false c.in-Ok.ensures in
    let no = c.in-Err-read_scrip.ensures.exact.1 g.1.text in
    absurd cc
