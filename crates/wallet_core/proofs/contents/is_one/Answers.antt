use Rattle.std.proofs.Common.{Some, sym, ap₂, ◌∙◌}
use Rattle.scrip_form.specs.Scrip.{Scrip}
use Rattle.wallet_model.specs.Newness.{is_same_piece}
use Rattle.wallet_book.proofs.HoldingLaws.{read_back}
use Rattle.wallet_core.proofs.contents.is_one.Goals as goal

pub returns : goal.returns
returns c =
    let a = read_back c.args.a.now.text c.args.a.now.piece c.args.a.now.cert c.text-a.ensures.spelled in
    let b = read_back c.args.b.now.text c.args.b.now.piece c.args.b.now.cert c.text-b.ensures.spelled in
    c.is_same.ensures ∙ ap₂ (λ (p q : Scrip). is_same_piece (Some p) (Some q)) c.piece.ensures c.piece-2.ensures ∙ ap₂ is_same_piece (sym a) (sym b)
