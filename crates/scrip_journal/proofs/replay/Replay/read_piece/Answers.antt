use Rattle.std.proofs.Common.{◌≡◌, ◌+◌, ◌-◌, refl, sym, ◌∙◌, ap, subst, arith, length, take, drop, List, ℕ}
use Rattle.std.specs.Prelude.{slice_range}
use Rattle.std.proofs.lemmas.List.{length-take}
use Rattle.scrip_journal.specs.States.{Reading}
use Rattle.scrip_journal.specs.Replays.{ReadAhead, AllHeld}
use Rattle.scrip_journal.proofs.Windows.{window_grows, window_long}
use Rattle.scrip_journal.proofs.Pieces.{piece_ahead, all_read}
use Rattle.scrip_journal.proofs.replay.Replay.read_piece.Goals as goal

pub invariant_of-self : goal.invariant_of-self
invariant_of-self g c = (omega (arith, c.self.invariant.0.0, c.self.invariant.0.1, c.self.invariant.0.2, c.self.invariant.0.3, c.self.invariant.0.4, c.self.invariant.0.5, c.self.invariant.0.8, c.read_behind.ensures.len, c.move_to_front.ensures.len), c.self.invariant.1)

pub invariant_of-self-2 : goal.invariant_of-self-2
invariant_of-self-2 g c = (omega (arith, c.self.invariant.0.0, c.self.invariant.0.1, c.self.invariant.0.2, c.self.invariant.0.3, c.self.invariant.0.4, c.self.invariant.0.5, c.self.invariant.0.8, c.read_behind.ensures.len, c.move_to_front.ensures.len, c.in_ok-read.ensures.within), c.self.invariant.1)

pub returns-clause-ahead : goal.returns-clause-ahead
returns-clause-ahead g c =
    let inside = c.self.inside in
    let len = inside.end - inside.start in
    let n = c.in_ok-read.read in
    let new = c.read_behind.new.buf.items in
    let held : List ℕ = slice_range inside.buf.items inside.start inside.end in
    let long : length held ≡ len = window_long inside.buf.items inside.start inside.end (omega arith) in
    let grown = window_grows new held len n (c.read_behind.ensures.front ∙ c.move_to_front.ensures.moved) in
    let a : Reading g.row.D.Denot = record { disk = inside.disk; gate = inside.gate; entries = inside.entries; limit = inside.limit; switched = inside.switched; chain = inside.chain; before = inside.before; held = held; last = slice_range inside.buf.items inside.from inside.to; at = inside.at; ended = inside.ended } in
    let b : Reading g.row.D.Denot = record { disk = c.read_behind.new.disk; gate = inside.gate; entries = inside.entries; limit = inside.limit; switched = inside.switched; chain = inside.chain; before = inside.before; held = slice_range new 0 (len + n); last = slice_range new 0 0; at = inside.at; ended = inside.ended } in
    subst (λ (v : Reading g.row.D.Denot). ReadAhead g.D.Disk.disk v b) c.self.view_is
    (piece_ahead g.D.Disk.disk a b n (slice_range new len (len + n)) refl grown c.read_behind.ensures.only_read refl refl refl refl refl
    (λ bytes told. c.in_ok-read.ensures.piece bytes told ∙ ap (λ (m : ℕ). take n (drop (inside.gate + m) bytes)) (sym long)))

pub returns-clause-end : goal.returns-clause-end
returns-clause-end g c none =
    let inside = c.self.inside in
    let len = inside.end - inside.start in
    let n = c.in_ok-read.read in
    let new = c.read_behind.new.buf.items in
    let held : List ℕ = slice_range inside.buf.items inside.start inside.end in
    let long : length held ≡ len = window_long inside.buf.items inside.start inside.end (omega arith) in
    let grown = window_grows new held len n (c.read_behind.ensures.front ∙ c.move_to_front.ensures.moved) in
    let a : Reading g.row.D.Denot = record { disk = inside.disk; gate = inside.gate; entries = inside.entries; limit = inside.limit; switched = inside.switched; chain = inside.chain; before = inside.before; held = held; last = slice_range inside.buf.items inside.from inside.to; at = inside.at; ended = inside.ended } in
    let b : Reading g.row.D.Denot = record { disk = c.read_behind.new.disk; gate = inside.gate; entries = inside.entries; limit = inside.limit; switched = inside.switched; chain = inside.chain; before = inside.before; held = slice_range new 0 (len + n); last = slice_range new 0 0; at = inside.at; ended = inside.ended } in
    let nothing : length (slice_range new len (len + n)) ≡ 0 = omega (arith, none, length-take (len + n - len) (drop len new)) in
    subst (λ (v : Reading g.row.D.Denot). AllHeld g.D.Disk.disk v b) c.self.view_is
    (all_read g.D.Disk.disk a b n (slice_range new len (len + n)) refl grown c.read_behind.ensures.only_read nothing (λ bytes told. omega (arith, long, c.in_ok-read.ensures.end none bytes told)))
