use Rattle.std.proofs.Common.{◌+◌, ◌||◌, sym, ◌∙◌, ap, ap₂, subst, arith, length, drop, Bool, Option, List, ℕ}
use Rattle.std.specs.Prelude.{slice_range, IsSome}
use Rattle.mc_records.specs.Sizes.{tail_bytes}
use Rattle.scrip_journal.specs.States.{Reading, IsKnown, known_chain}
use Rattle.scrip_journal.specs.Replays.{frame_size}
use Rattle.scrip_journal.proofs.Windows.{part_of_held, back_of_window, window_long}
use Rattle.scrip_journal.proofs.Pieces.{payload_in, frame_long}
use Rattle.scrip_journal.proofs.Known.{known_more}
use Rattle.scrip_journal.proofs.replay.Replay.advance.Goals as goal

pub invariant_of-self : goal.invariant_of-self
invariant_of-self g c =
    let held = ap (λ (v : Reading g.row.D.Denot). length v.held) c.self.view_is in
    let gate = ap (λ (v : Reading g.row.D.Denot). v.gate) c.self.view_is in
    let switched = ap (λ (v : Reading g.row.D.Denot). tail_bytes v.switched) c.self.view_is in
    let f = c.args.found.now in
    let was : IsKnown c.args.self.now.switched c.args.self.now.chain = subst (λ (v : Reading g.row.D.Denot). IsKnown v.switched v.chain) c.self.view_is c.self.invariant.1 in
    let known = known_more c.args.self.now.switched f.switches c.args.self.now.chain c.requires.frame.bytes was c.requires.known in (
      omega (
        arith,
        held,
        gate,
        switched,
        c.tail_len.ensures.value,
        window_long c.self.inside.buf.items c.self.inside.start c.self.inside.end (omega arith),
        frame_long f c.args.self.now.switched c.args.self.now.chain c.args.self.now.gate c.args.self.now.held c.requires.frame,
        c.requires.frame.within,
      ),
      λ on. subst (λ (k : Option (List ℕ)). IsSome k) (sym c.requires.frame.chain_is) (known (ap (λ (v : Reading g.row.D.Denot). v.switched || f.switches) (sym c.self.view_is) ∙ sym c.stands_with-self-inside.ensures ∙ on)),
    )

pub returns : goal.returns
returns g c =
    let f = c.args.found.now in
    let n = f.bytes in
    let buf = c.self.inside.buf.items in
    let start = c.self.inside.start in
    let end = c.self.inside.end in
    let held = ap (λ (v : Reading g.row.D.Denot). v.held) c.self.view_is in
    let switched = ap (λ (v : Reading g.row.D.Denot). tail_bytes v.switched) c.self.view_is in
    let long = frame_long f c.args.self.now.switched c.args.self.now.chain c.args.self.now.gate c.args.self.now.held c.requires.frame in
    let part = part_of_held buf c.args.self.now.held start end 5 n held (omega arith) (omega (arith, long)) (omega arith) in
    let size = frame_size f c.self.inside.switched in
    let last : List ℕ = slice_range buf (start + 5) (start + 5 + n) in
    let back = back_of_window buf start end size (omega (arith, ap (λ (l : List ℕ). length l) held, window_long buf start end (omega arith), long, switched)) in (
      ap (λ (v : Reading g.row.D.Denot). v.gate) c.self.view_is,
      λ frame. sym part ∙ payload_in f c.args.self.now.switched c.args.self.now.chain c.args.self.now.gate c.args.self.now.held frame,
      ap₂ (λ (k : ℕ) (b : Bool). record { disk = c.self.inside.disk; gate = c.self.inside.gate + k; entries = c.self.inside.entries + 1; limit = c.self.inside.limit; switched = b; chain = f.chain; before = c.known_chain-self-inside.result; held = slice_range buf (start + k) end; last = last; at = c.self.inside.gate + 5; ended = c.self.inside.ended })
          (ap (λ (t : ℕ). n + 5 + t) c.tail_len.ensures.value) c.stands_with-self-inside.ensures
          ∙ ap₂ (λ (h before : List ℕ). record { disk = c.self.inside.disk; gate = c.self.inside.gate + size; entries = c.self.inside.entries + 1; limit = c.self.inside.limit; switched = c.self.inside.switched || f.switches; chain = f.chain; before = before; held = h; last = last; at = c.self.inside.gate + 5; ended = c.self.inside.ended }) back c.known_chain-self-inside.ensures
          ∙ ap (λ (v : Reading g.row.D.Denot). record v { gate = v.gate + frame_size f v.switched; entries = v.entries + 1; switched = v.switched || f.switches; chain = f.chain; before = known_chain v.chain; held = drop (frame_size f v.switched) v.held; last = last; at = v.gate + 5 }) c.self.view_is,
    )
