use Rattle.std.proofs.Common.{rules, ◌≡◌, ℕ, List, cond, Some, ap, sym, subst, ◌∙◌, length, ◌++◌, ◌∷◌, [], bytes_eq, ◌&&◌}
use Rattle.std.specs.Prelude.{◌==◌}
use Rattle.scrip_form.specs.Scrip.{Scrip, IsTextOf, scrip_text}
use Rattle.wallet_book.specs.declared.holding.Holding.{Holding}
use Rattle.wallet_book.specs.declared.holding.State.TheVariants.{Held}
use Rattle.wallet_book.specs.PieceIndex.{place_of}
use Rattle.wallet_book.specs.Holdings.{IsIndexed, AreSpelled, IsSpelled}
use Rattle.wallet_book.proofs.HoldingLaws.{not_new, indexed_more, spelled_more, spelled_itself}
use Rattle.wallet_book.proofs.holdings.Holdings.bring.Goals as goal

pub returns-in-Some-clause-answer : goal.returns-in-Some-clause-answer
returns-in-Some-clause-answer c = sym (not_new c.args.self.now.list c.args.scrip.now.text c.in-Some.field-0 c.in-Some.ensures)

pub invariant_of-self : goal.invariant_of-self
invariant_of-self c =
    let xs : List Holding = c.self.inside.list.items in
    let p : Scrip = c.piece-piece.result in
    let x : Holding = record { piece = p; cert = c.cert.result; secret = c.args.secret; state = Held } in
    let old = c.self.inside.index in
    let new = c.put.new.self in
    let by_piece : Scrip → Type 0 = λ q. IsTextOf (scrip_text q c.args.scrip.now.cert) q c.args.scrip.now.cert in
    let by_cert : List ℕ → Type 0 = λ cert. IsTextOf (scrip_text p cert) p cert in
    let spelled : IsSpelled x = subst by_cert (sym c.cert.ensures) (subst by_piece (sym c.piece-piece.ensures) (spelled_itself c.args.scrip.now.text c.args.scrip.now.piece c.args.scrip.now.cert c.text-text.ensures.spelled)) in
    let put : (other : List ℕ) (number : ℕ) → place_of new other number ≡ cond (p.id == number && bytes_eq p.vendor other) (Some (length xs)) (place_of old other number) = λ other number.
    c.put.ensures.places other number
    ∙ ap (λ (i : ℕ). cond (i == number && bytes_eq c.vendor.result other) (Some c.len.result) (place_of old other number)) c.id.ensures.id
    ∙ ap (λ (v : List ℕ). cond (p.id == number && bytes_eq v other) (Some c.len.result) (place_of old other number)) c.vendor.ensures.vendor
    ∙ ap (λ (n : ℕ). cond (p.id == number && bytes_eq p.vendor other) (Some n) (place_of old other number)) (c.len.ensures ∙ search rules) in
    let items : xs ++ x ∷ [] ≡ c.push_reserved.new.self.items = sym c.push_reserved.ensures.items in
    (subst (IsIndexed new) items (indexed_more old new xs x c.self.invariant.0 put), subst AreSpelled items (spelled_more xs x c.self.invariant.1 spelled))
