use Rattle.std.proofs.Common.{◌≡◌, List, [], ◌∷◌, length, None, slice_get, sym, ap, ◌∙◌, arith}
use Rattle.mc_records.specs.Entry.{Held}
use Rattle.mc_records.specs.PieceViews.{pieces_of, piece_of}
use Rattle.slow_wallet.proofs.SoleLine.{sole_of, text_taken, sole_is}
use Rattle.slow_wallet.proofs.replies.sole.Goals as goal

pub returns-in_default : goal.returns-in_default
returns-in_default c =
    let s = sole_of c.args.contents.now c.args.elements.now c.args.count c.requires (omega (arith, c.if-count-ne1.false)) in
    absurd (c.in_default.ensures.only (s.piece ∷ []) s.are s.spelled)

pub returns-in_default-get : goal.returns-in_default-get
returns-in_default-get c =
    let s = sole_of c.args.contents.now c.args.elements.now c.args.count c.requires (omega (arith, c.if-count-ne1.false)) in
    let list : pieces_of c.in-Some.list ≡ s.piece ∷ [] = c.in-Some.ensures.only (s.piece ∷ []) s.are s.spelled in
    let none : None ≡ slice_get (s.piece ∷ []) 0 = c.in_default-get.ensures ∙ ap (λ (ps : List Held). slice_get ps 0) list in
    absurd cc

pub slice_bounds-result-end : goal.slice_bounds-result-end
slice_bounds-result-end c =
    let s = sole_of c.args.contents.now c.args.elements.now c.args.count c.requires (omega (arith, c.if-count-ne1.false)) in
    let list : pieces_of c.in-Some.list ≡ s.piece ∷ [] = c.in-Some.ensures.only (s.piece ∷ []) s.are s.spelled in
    let is : piece_of c.in-Some-get.piece ≡ s.piece = sole_is c.args.contents.now c.args.elements.now s (piece_of c.in-Some-get.piece) (c.in-Some-get.ensures ∙ ap (λ (ps : List Held). slice_get ps 0) list) in
    let text : c.text-length.result.now ≡ s.piece.text = c.text-length.ensures.text ∙ ap (λ (p : Held). p.text) is in
    ap length (text ∙ sym (text_taken c.args.contents.now c.args.elements.now c.text-length.result.now s text))

pub returns : goal.returns
returns c =
    let s = sole_of c.args.contents.now c.args.elements.now c.args.count c.requires (omega (arith, c.if-count-ne1.false)) in
    let list : pieces_of c.in-Some.list ≡ s.piece ∷ [] = c.in-Some.ensures.only (s.piece ∷ []) s.are s.spelled in
    let is : piece_of c.in-Some-get.piece ≡ s.piece = sole_is c.args.contents.now c.args.elements.now s (piece_of c.in-Some-get.piece) (c.in-Some-get.ensures ∙ ap (λ (ps : List Held). slice_get ps 0) list) in
    let text : c.text-length.result.now ≡ s.piece.text = c.text-length.ensures.text ∙ ap (λ (p : Held). p.text) is in
    let taken = text_taken c.args.contents.now c.args.elements.now c.text-length.result.now s text in
    let secret : c.in-Some-get.piece.1 ≡ s.piece.secret = ap (λ (p : Held). p.secret) is in
    rw (taken, secret) (sym s.line)
