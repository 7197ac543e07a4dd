use Rattle.std.proofs.Common.{[], cond, eqb, ◌≡◌, ◌∙◌, ℕ, Some, sym, ap, refl, rules}
use Rattle.std.specs.Prelude.{is_some}
use Rattle.std.proofs.lemmas.Bool.{eq-eqb}
use Rattle.broker_stock.specs.Shelves.{rack_at, has_rack, pieces_at, room_at}
use Rattle.broker_stock.proofs.ShelfLaws.{added}
use Rattle.broker_stock.proofs.racks.Racks.place_rack.Goals as goal

pub returns-in_ok-insert : goal.returns-in_ok-insert
unfolding has_rack pieces_at room_at
returns-in_ok-insert c =
    let self_is : c.match-branch-2.self ≡ c.insert.new.self.entries = search rules in
    let empty = sym (ap (λ r. is_some (rack_at r c.args.value)) c.self.view_is) ∙ sym c.contains_key.ensures ∙ c.if-not-contains_key.true in
    let has = λ (v : ℕ). ap (λ r. rack_at r v) self_is ∙ c.in_ok-insert.ensures.updates.0 v ∙ ap (λ r. cond (eqb c.args.value v) (Some c.new.result) (rack_at r v)) c.self.view_is in
    record {
      placed = ap is_some (has c.args.value ∙ ap (λ b. cond b (Some c.new.result) (rack_at c.args.self.now c.args.value)) (eq-eqb c.args.value c.args.value refl));
      room = added c.args.self.now c.match-branch-2.self c.args.value c.new.result empty has (λ r. r.room) 0 c.new.ensures.room;
      pieces = added c.args.self.now c.match-branch-2.self c.args.value c.new.result empty has (λ r. r.pieces) [] c.new.ensures.pieces;
    }

pub returns-else-not-contains_key-clause-placed : goal.returns-else-not-contains_key-clause-placed
unfolding has_rack
returns-else-not-contains_key-clause-placed c =
    sym (ap (λ r. is_some (rack_at r c.args.value)) c.self.view_is) ∙ sym c.contains_key.ensures ∙ c.if-not-contains_key.false
