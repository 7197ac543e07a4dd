use Rattle.std.proofs.Common.{◌≡◌, ◌+◌, ◌&&◌, is_some, length, refl, sym, ap, ◌∙◌, arith}
use Rattle.std.specs.List.{insert}
use Rattle.std.proofs.lemmas.Bool.{eq-eqb}
use Rattle.std.proofs.lemmas.List.Edits.{length-insert}
use Rattle.mc_requests.specs.Requests.{asked_of}
use Rattle.kept_replies.specs.Requests.{text_size}
use Rattle.kept_replies.specs.Kept.{KeptReply, AreRising, inserted, entry_size}
use Rattle.kept_replies.proofs.InsertLaws.{insert_is, AreRising-inserted, own-inserted, marked-inserted, order-inserted, within_room, room_kept, with_kept}
use Rattle.kept_replies.proofs.kept.Kept.keep.Goals as goal
use Rattle.kept_replies.proofs.kept.Kept.keep.Goals.{In-Ok}

abbrev new : In-Ok → KeptReply
new c = record { asked = asked_of c.args.q.now; entry = c.args.e }

put_there : (c : In-Ok) → insert c.self.inside.replies.items c.place_of-at.result (new c) ≡ inserted (new c) c.self.inside.replies.items
put_there c = insert_is (new c) c.self.inside.replies.items c.place_of-at.result c.place_of-at.ensures.place (rw (← c.self.view_is) at c.requires.new_number)

now_kept : (c : In-Ok) → c.insert.new.self.items ≡ inserted (new c) c.self.inside.replies.items
now_kept c =
    c.in-Ok.ensures.items ∙ ap (λ (r : KeptReply). insert c.self.inside.replies.items c.place_of-at.result r) c.of.ensures ∙ put_there c

rise : (c : In-Ok) → AreRising c.insert.new.self.items
rise c = rw (now_kept c) (AreRising-inserted (new c) c.self.inside.replies.items c.self.invariant.rising)

pub of-requires-clause-room : goal.of-requires-clause-room
of-requires-clause-room c =
    let inside = c.self.inside in
    let within = within_room inside.replies.len inside.replies.cap inside.spare.cap (text_size (asked_of c.args.q.now) + entry_size c.args.e) (inside.index.has_place && is_some inside.place)
    (room_kept inside.keep _ _ c.if-self-eq0.false (rw (← c.self.view_is) at c.requires.room)) in
    rw c.replace-buffer.ensures.value (omega (arith, within))

pub invariant_of-self : goal.invariant_of-self
invariant_of-self c =
    let rs = c.self.inside.replies.items in
    record {
      rising = rise c;
      order = λ noted.
          let last = c.goes_last-self-inside.ensures noted in
          rw (now_kept c) (order-inserted (new c) rs c.place_of-at.result (put_there c) last.0 last.1 last.2);
      own = rw (now_kept c) (own-inserted (new c) rs (rw (← c.self.view_is) at c.requires.new_request) c.self.invariant.own);
      marked = rw (now_kept c) (marked-inserted (new c) rs c.tag_of.result c.args.e.number c.self.inside.index c.put.new.self c.tag_of.ensures (eq-eqb c.args.e.number c.args.e.number refl) c.put.ensures.leads c.self.invariant.marked);
      few = omega (arith, ap length (c.in-Ok.ensures.items), length-insert rs c.place_of-at.result c.of.result (omega (arith, c.place_of-at.ensures.within, c.self.inside.replies.ok)), c.put.ensures.marks, c.self.invariant.few);
      empty = rw c.replace-buffer.ensures.after c.new.ensures.items;
      short = rw c.replace-buffer.ensures.after (omega (arith, c.new.ensures.capacity));
    }

pub returns-clause-replies : goal.returns-clause-replies
returns-clause-replies c = rw (← c.self.view_is) (now_kept c ∙ sym (with_kept c.self.inside.keep (new c) c.self.inside.replies.items c.if-self-eq0.false))

pub returns-clause-rising : goal.returns-clause-rising
returns-clause-rising c = rise c
