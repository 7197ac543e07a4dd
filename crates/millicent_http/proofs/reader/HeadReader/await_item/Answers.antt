use Rattle.std.proofs.Common.{arith, ◌≡◌, ◌<◌, ◌∙◌, ap, sym, subst, length, refl, List, ℕ}
use Rattle.millicent_http.specs.Items.{EndsNoItem}
use Rattle.millicent_http.specs.Held.{Held}
use Rattle.millicent_http.specs.Awaits.{Came}
use Rattle.millicent_http.proofs.AwaitLemmas.{came_none, came_more, no_item_came}
use Rattle.millicent_http.proofs.reader.HeadReader.await_item.Goals as goal

pub pieces-init : goal.pieces-init
pieces-init g c = record {
  given = refl;
  moved = g.met.K.Link.link_stays c.args.k.now;
  came = came_none c.args.self.now.bytes (g.K.Link.link c.args.k.now);
  quiet = λ _. refl;
}

pub returns-in-Ok-eq0-clause-quiet : goal.returns-in-Ok-eq0-clause-quiet
returns-in-Ok-eq0-clause-quiet g c busy =
    let same : c.find.new.self.bytes ≡ c.pieces.self.bytes = ap (λ (h : Held). h.bytes) c.find.ensures.same in
    let none : EndsNoItem c.pieces.self.bytes = record { short = omega (arith, c.if-is_full.ensures.room refl, ap length same); none = c.in_default.ensures.none } in
    absurd (busy (no_item_came c.args.self.now.bytes c.pieces.self.bytes (g.K.Link.link c.args.k.now) (g.K.Link.link c.pieces.k) c.pieces.invariant.came none))

pub returns-in-Err-clause-quiet : goal.returns-in-Err-clause-quiet
returns-in-Err-clause-quiet g c busy =
    let same : c.find.new.self.bytes ≡ c.pieces.self.bytes = ap (λ (h : Held). h.bytes) c.find.ensures.same in
    let none : EndsNoItem c.pieces.self.bytes = record { short = omega (arith, c.if-is_full.ensures.room refl, ap length same); none = c.in_default.ensures.none } in
    absurd (busy (no_item_came c.args.self.now.bytes c.pieces.self.bytes (g.K.Link.link c.args.k.now) (g.K.Link.link c.pieces.k) c.pieces.invariant.came none))

pub pieces-preserved : goal.pieces-preserved
pieces-preserved g c =
    let same : c.find.new.self.bytes ≡ c.pieces.self.bytes = ap (λ (h : Held). h.bytes) c.find.ensures.same in
    let none : EndsNoItem c.pieces.self.bytes = record { short = omega (arith, c.if-is_full.ensures.room refl, ap length same); none = c.in_default.ensures.none } in
    let some : 0 < c.in-Ok.field-0 = omega (arith, c.in-Ok.field-0-test.1) in
    let piece = c.in-Ok.ensures.piece some in
    let came : Came c.args.self.now.bytes (g.K.Link.link c.args.k.now) c.find.new.self.bytes (g.K.Link.link c.pieces.k) =
    subst (λ (z : List ℕ). Came c.args.self.now.bytes (g.K.Link.link c.args.k.now) z (g.K.Link.link c.pieces.k)) (sym same) c.pieces.invariant.came in
    record {
      given = c.receive.ensures.given ∙ ap (λ (h : Held). h.given) c.find.ensures.same ∙ c.pieces.invariant.given;
      moved = g.met.K.Link.link_goes_on c.args.k.now c.pieces.k c.receive.new.k c.pieces.invariant.moved c.receive.ensures.moved;
      came = came_more c.args.self.now.bytes c.find.new.self.bytes piece.0 c.receive.new.self.bytes (g.K.Link.link c.args.k.now) (g.K.Link.link c.pieces.k) (g.K.Link.link c.receive.new.k) came (subst EndsNoItem (sym same) none) piece.2 piece.3;
      quiet = λ busy. absurd (busy (no_item_came c.args.self.now.bytes c.pieces.self.bytes (g.K.Link.link c.args.k.now) (g.K.Link.link c.pieces.k) c.pieces.invariant.came none));
    }
