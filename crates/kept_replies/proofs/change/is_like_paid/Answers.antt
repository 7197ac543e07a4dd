use Rattle.std.proofs.Common.{◌≡◌, ℕ, List, Some, sym, subst, ◌∙◌}
use Rattle.std.proofs.lemmas.Slice.Eq.{bytes_eq-Decides}
use Rattle.scrip_form.specs.Scrip.{IsTextOf}
use Rattle.scrip_form.specs.Reading.{scrip_of}
use Rattle.kept_replies.specs.Parts.{AreAlike, like_read}
use Rattle.kept_replies.proofs.TextLaws.{read_is, like_is}
use Rattle.kept_replies.proofs.change.is_like_paid.Goals as goal

pub returns-then-eq-clause-like : goal.returns-then-eq-clause-like
returns-then-eq-clause-like c alike =
    let text : List ℕ = c.in-Some-Some.text.now in
    let paid = c.in-Some-Some.paid.now in
    let piece = c.args.piece.now in
    let same : paid.text ≡ text = sym c.text.ensures.text ∙ (bytes_eq-Decides c.text.result.now text).0 (sym c.if-eq.ensures) in
    let read = read_is c.scrip_of_tells_the_text.ensures c.scrip_text_is_of_one_piece.ensures text paid.piece paid.cert (subst (λ (t : List ℕ). IsTextOf t paid.piece paid.cert) same c.text.ensures.spelled) in
    let whole : like_read (scrip_of text) piece.value piece.id piece.expires ≡ Some piece = like_is text piece paid.piece paid.cert read (subst (AreAlike piece) c.piece.ensures (c.is_like.ensures alike)) in
    rw c.in-Some-Some.is-0 whole
