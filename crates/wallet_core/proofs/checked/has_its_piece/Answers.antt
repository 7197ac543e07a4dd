use Rattle.std.proofs.Common.{Option, List, Bool, ℕ, refl, sym, subst}
use Rattle.std.proofs.lemmas.Bool.{false≢true}
use Rattle.std.specs.Prelude.{◌↔◌, IsTrue, IsSome}
use Rattle.ledger_model.specs.Pieces.{piece_of}
use Rattle.wallet_model.specs.Laws.{HasItsPiece}
use Rattle.wallet_core.proofs.CallLaws.{draws_have, has_text, has_none, scrip_has}
use Rattle.wallet_core.proofs.checked.has_its_piece.Goals as goal

pub returns-then-request-ge2 : goal.returns-then-request-ge2
returns-then-request-ge2 c = (λ yes'. draws_have c.args.request.now.ask c.args.request.now.scrip c.if-request-ge2.true, λ has. refl)

pub returns-in-Some : goal.returns-in-Some
returns-in-Some c =
    let ask = c.args.request.now.ask in
    let b = c.is_scrip.result in
    let has : IsTrue b ↔ IsSome (piece_of c.bytes.result.now) = subst (λ (x : Bool). IsTrue x ↔ IsSome (piece_of c.bytes.result.now)) (sym c.is_scrip.ensures) (scrip_has c.bytes.result.now) in
    subst (λ (o : Option (List ℕ)). IsTrue b ↔ HasItsPiece ask o) (sym c.in-Some.is)
    (has_text ask c.in-Some.text b c.if-request-ge2.false (subst (λ (t : List ℕ). IsTrue b ↔ IsSome (piece_of t)) c.bytes.ensures.value has))

pub returns-in-None : goal.returns-in-None
returns-in-None c =
    let ask = c.args.request.now.ask in
    (λ no'. absurd (false≢true no'), λ has. absurd (has_none ask c.if-request-ge2.false (subst (λ (o : Option (List ℕ)). HasItsPiece ask o) c.in-None.is has)))
