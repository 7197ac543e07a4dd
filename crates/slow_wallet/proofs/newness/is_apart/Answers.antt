use Rattle.std.proofs.Common.{◌∙◌, sym, map, take, List, ℕ}
use Rattle.mc_records.specs.PieceViews.{pieces_of}
use Rattle.mc_records.specs.Entry.{Held}
use Rattle.wallet_model.specs.Holdings.{texts_came}
use Rattle.slow_wallet.proofs.Steps.{texts_know, text_there, text_apart}
use Rattle.slow_wallet.proofs.newness.is_apart.Goals as goal

abbrev texts : List Held → List (List ℕ)
texts ps = map (λ p. p.text) ps

pub returns-then-is_listed : goal.returns-then-is_listed
returns-then-is_listed c =
    let front = take c.args.count (pieces_of c.args.pieces.now) in
    text_there (texts_came c.args.h.now) (texts front) c.args.text.now (c.if-is_listed.ensures ∙ sym (texts_know c.args.text.now front))

pub returns : goal.returns
returns c =
    let front = take c.args.count (pieces_of c.args.pieces.now) in
    text_apart c.args.h.now (texts front) c.args.text.now c.slow_came.result (c.if-is_listed.ensures ∙ sym (texts_know c.args.text.now front)) c.slow_came.ensures
