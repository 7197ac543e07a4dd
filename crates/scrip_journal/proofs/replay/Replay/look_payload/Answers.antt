use Rattle.std.proofs.Common.{◌≡◌, ◌+◌, refl, sym, ◌∙◌, ap, subst, arith, List, [], ◌∷◌, ℕ}
use Rattle.std.specs.Int.{w32, from_be_bytes}
use Rattle.mc_records.specs.Sizes.{tail_bytes}
use Rattle.scrip_journal.specs.States.{Reading}
use Rattle.scrip_journal.specs.Replays.{EndsHere}
use Rattle.scrip_journal.specs.declared.ending.Ending.TheVariants.{Spoiled}
use Rattle.scrip_journal.proofs.Looking.{ahead_then, cut_then, far_before, near_before, ends_at_length, ends_in_payload, payload_here, length_stays, begins_still, longer}
use Rattle.scrip_journal.proofs.replay.Replay.look_payload.Goals as goal

pub returns-then-is_far-clause-ahead : goal.returns-then-is_far-clause-ahead
returns-then-is_far-clause-ahead g c = ahead_then g.D.Disk.disk _ _ _ c.hold.ensures.ahead c.hold-2.ensures.ahead

pub returns-then-is_far-clause-ends : goal.returns-then-is_far-clause-ends
returns-then-is_far-clause-ends g c =
    let ahead = ahead_then g.D.Disk.disk _ _ _ c.hold.ensures.ahead c.hold-2.ensures.ahead in
    let opened = begins_still (1 ∷ []) c.hold.new.self.held c.hold-2.new.self.held (c.if-not-is_open.ensures.opened refl) c.hold-2.ensures.ahead.more in
    let there = ap (λ (v : Reading g.row.D.Denot). v.gate) c.self.view_is in
    let gate : c.args.self.now.gate ≡ c.self.inside.gate = omega (arith, there, ahead.same.gate) in
    subst (λ (k : ℕ). EndsHere g.D.Disk.disk c.args.self.now (Spoiled (k + 1))) gate
    (ends_at_length g.D.Disk.disk c.args.self.now c.hold-2.new.self ahead opened c.in_default-hold.ensures.enough c.payload_length-length.result (sym c.payload_length-length.ensures.value)
    (far_before g.D.Disk.disk c.args.self.now c.hold-2.new.self ahead c.payload_length-length.result (c.if-is_far.ensures.wrong refl)))

pub returns-in-Err-hold-2-clause-moved : goal.returns-in-Err-hold-2-clause-moved
returns-in-Err-hold-2-clause-moved g c =
    g.met.D.Disk.disk_goes_on _ _ _ (g.met.D.Disk.disk_goes_on _ _ _ c.hold.ensures.moved c.hold-2.ensures.moved) c.hold-3.ensures.moved

pub returns-in-Err-hold-2-clause-ahead : goal.returns-in-Err-hold-2-clause-ahead
returns-in-Err-hold-2-clause-ahead g c =
    ahead_then g.D.Disk.disk _ _ _ (ahead_then g.D.Disk.disk _ _ _ c.hold.ensures.ahead c.hold-2.ensures.ahead) c.hold-3.ensures.ahead

pub returns-in-Err-hold-2-clause-ends : goal.returns-in-Err-hold-2-clause-ends
returns-in-Err-hold-2-clause-ends g c =
    let ahead_to_length = ahead_then g.D.Disk.disk _ _ _ c.hold.ensures.ahead c.hold-2.ensures.ahead in
    let ahead = ahead_then g.D.Disk.disk _ _ _ ahead_to_length c.hold-3.ensures.ahead in
    let more = c.hold-3.ensures.ahead.more in
    let opened = begins_still (1 ∷ []) c.hold-2.new.self.held c.hold-3.new.self.held (begins_still (1 ∷ []) c.hold.new.self.held c.hold-2.new.self.held (c.if-not-is_open.ensures.opened refl) c.hold-2.ensures.ahead.more) more in
    let stays = length_stays c.hold-2.new.self.held c.hold-3.new.self.held more c.in_default-hold.ensures.enough in
    let n_is = ap (λ (l : List ℕ). from_be_bytes w32 l) stays ∙ sym c.payload_length-length.ensures.value in
    let five = longer c.hold-2.new.self.held c.hold-3.new.self.held more 5 c.in_default-hold.ensures.enough in
    let right = c.if-is_far.ensures.right refl in
    ends_in_payload g.D.Disk.disk c.args.self.now c.hold-3.new.self ahead opened five c.payload_length-length.result n_is right.0
    (near_before g.D.Disk.disk c.args.self.now c.hold-2.new.self ahead_to_length c.payload_length-length.result right.1) c.in-Err-hold-2.ending
    (cut_then g.D.Disk.disk c.args.self.now c.hold-2.new.self c.hold-3.new.self _ c.in-Err-hold-2.ending ahead_to_length c.in-Err-hold-2.ensures.short)

pub returns-clause-moved : goal.returns-clause-moved
returns-clause-moved g c =
    g.met.D.Disk.disk_goes_on _ _ _ (g.met.D.Disk.disk_goes_on _ _ _ c.hold.ensures.moved c.hold-2.ensures.moved) c.hold-3.ensures.moved

pub returns-clause-ahead : goal.returns-clause-ahead
returns-clause-ahead g c =
    ahead_then g.D.Disk.disk _ _ _ (ahead_then g.D.Disk.disk _ _ _ c.hold.ensures.ahead c.hold-2.ensures.ahead) c.hold-3.ensures.ahead

pub returns-clause-payload : goal.returns-clause-payload
returns-clause-payload g c =
    let ahead_to_length = ahead_then g.D.Disk.disk _ _ _ c.hold.ensures.ahead c.hold-2.ensures.ahead in
    let ahead = ahead_then g.D.Disk.disk _ _ _ ahead_to_length c.hold-3.ensures.ahead in
    let more = c.hold-3.ensures.ahead.more in
    let opened = begins_still (1 ∷ []) c.hold-2.new.self.held c.hold-3.new.self.held (begins_still (1 ∷ []) c.hold.new.self.held c.hold-2.new.self.held (c.if-not-is_open.ensures.opened refl) c.hold-2.ensures.ahead.more) more in
    let stays = length_stays c.hold-2.new.self.held c.hold-3.new.self.held more c.in_default-hold.ensures.enough in
    let n_is = ap (λ (l : List ℕ). from_be_bytes w32 l) stays ∙ sym c.payload_length-length.ensures.value in
    let five = longer c.hold-2.new.self.held c.hold-3.new.self.held more 5 c.in_default-hold.ensures.enough in
    let right = c.if-is_far.ensures.right refl in
    payload_here g.D.Disk.disk c.args.self.now c.hold-3.new.self ahead opened five c.payload_length-length.result n_is c.hold-3.new.self.switched right.0
    (omega (arith, right.1, c.hold-3.ensures.ahead.same.gate, ap tail_bytes c.hold-3.ensures.ahead.same.switched)) c.in_default-hold-2.ensures.enough (stays ∙ c.payload_length-length.ensures.bytes)
