use Rattle.reply_reader.specs.Seen.{received_of}
use Rattle.std.proofs.Common.{◌≡◌, ◌∙◌, Some, sym, subst}
use Rattle.std.proofs.lemmas.Bool.{false≢true}
use Rattle.wallet_model.specs.Requests.{Pending}
use Rattle.wallet_model.specs.Laws.{HasItsPiece}
use Rattle.wallet_core.specs.Requests.{pending_view}
use Rattle.wallet_core.proofs.CallLaws.{kept_has, checks_so}
use Rattle.wallet_core.proofs.wallet.Wallet.check_reply.Goals as goal

pub returns-then-not-has_its_piece-clause-exact : goal.returns-then-not-has_its_piece-clause-exact
returns-then-not-has_its_piece-clause-exact g c = rw (← c.self.view_is) (λ h p st kept.
    let is : Some (pending_view c.in-Some.request) ≡ Some p = c.in-Some.ensures h st.book ∙ kept in
    let same : pending_view c.in-Some.request ≡ p = cc in
    let has : HasItsPiece c.in-Some.request.ask c.in-Some.request.scrip = subst (λ (q : Pending). HasItsPiece q.ask q.scrip) (sym same) (kept_has h c.args.number p st.book.lawful kept) in
    absurd (false≢true (c.if-not-has_its_piece.ensures.1 has)))

pub returns-in-Some-check_came-clause-refused : goal.returns-in-Some-check_came-clause-refused
returns-in-Some-check_came-clause-refused g c = checks_so (pending_view c.in-Some.request) (received_of c.of-came.result.reply) c.in-Some-check_came.refusal (sym c.in-Some-check_came.ensures)
