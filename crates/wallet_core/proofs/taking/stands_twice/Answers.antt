use Rattle.std.proofs.Common.{◌≡◌, ◌≤◌, ℕ, List, ◌∷◌, ◌+◌, Bool, true, false, cond, length, refl, sym, ap, ◌∙◌, arith}
use mir.Val.{bool_byte}
use Rattle.std.proofs.lemmas.List.Sums.{count_by-le-length}
use Rattle.std.specs.Prelude.{count_by}
use Rattle.mc_records.specs.Entry.{Held}
use Rattle.mc_records.specs.PieceViews.{pieces_of, piece_of, pieces_left}
use Rattle.wallet_model.specs.Newness.{are_one_piece}
use Rattle.wallet_core.proofs.TakenLaws.{count_next}
use Rattle.wallet_core.proofs.taking.stands_twice.Goals as goal

byte_is : (b : Bool) → bool_byte b ≡ cond {A = ℕ} b 1 0
byte_is true = refl
byte_is false = refl

pub loop-rest-preserved : goal.loop-rest-preserved
loop-rest-preserved c =
    let test : Held → Bool = λ q. are_one_piece q.text c.args.scrip.now.text in
    let rest : List Held = pieces_left c.split_first-piece.result.1 in
    let p : Held = piece_of c.split_first-piece.result.0 in
    let is : pieces_left c.loop-rest.rest ≡ p ∷ rest = ap pieces_left c.in-Some.is ∙ c.split_first-piece.ensures in
    let before : c.loop-rest.count + count_by test (p ∷ rest) ≡ count_by test (pieces_of c.args.pieces.now) = ap (λ (ps : List Held). c.loop-rest.count + count_by test ps) (sym is) ∙ c.loop-rest.invariant in
    let one : c.from-count.result ≡ cond {A = ℕ} (test p) 1 0 = c.from-count.ensures ∙ byte_is c.is_one.result ∙ ap (λ (b : Bool). cond {A = ℕ} b 1 0) c.is_one.ensures in
    count_next test p rest c.loop-rest.count c.from-count.result (count_by test (pieces_of c.args.pieces.now)) before one

pub overflow_add-count : goal.overflow_add-count
overflow_add-count c =
    let test : Held → Bool = λ q. are_one_piece q.text c.args.scrip.now.text in
    let rest : List Held = pieces_left c.split_first-piece.result.1 in
    let p : Held = piece_of c.split_first-piece.result.0 in
    let is : pieces_left c.loop-rest.rest ≡ p ∷ rest = ap pieces_left c.in-Some.is ∙ c.split_first-piece.ensures in
    let before : c.loop-rest.count + count_by test (p ∷ rest) ≡ count_by test (pieces_of c.args.pieces.now) = ap (λ (ps : List Held). c.loop-rest.count + count_by test ps) (sym is) ∙ c.loop-rest.invariant in
    let one : c.from-count.result ≡ cond {A = ℕ} (test p) 1 0 = c.from-count.ensures ∙ byte_is c.is_one.result ∙ ap (λ (b : Bool). cond {A = ℕ} b 1 0) c.is_one.ensures in
    let total = count_next test p rest c.loop-rest.count c.from-count.result (count_by test (pieces_of c.args.pieces.now)) before one in
    let short : count_by test (pieces_of c.args.pieces.now) ≤ length (pieces_of c.args.pieces.now) = count_by-le-length test (pieces_of c.args.pieces.now) in
    omega (arith, total, short, c.count-count.ensures.pieces.few)
