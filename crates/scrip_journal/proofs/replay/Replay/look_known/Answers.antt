use Rattle.std.proofs.Common.{◌≡◌, ◌+◌, Err, sym, ◌∙◌, ap, subst}
use Rattle.mc_records.specs.Forms.{entry_of}
use Rattle.scrip_journal.specs.States.{Reading}
use Rattle.scrip_journal.specs.declared.ending.Ending.{Ending}
use Rattle.scrip_journal.specs.declared.ending.Ending.TheVariants.{Spoiled}
use Rattle.scrip_journal.proofs.Looking.{ends_then, malformed_here, payload_of}
use Rattle.scrip_journal.proofs.Pieces.{payload_in}
use Rattle.scrip_journal.specs.Replays.{EndsHere, EndsReading}
use Rattle.scrip_journal.proofs.Looked.{looked_ahead, looked_then, ends_reading, ends_looked, if_err}
use Rattle.scrip_journal.proofs.replay.Replay.look_known.Goals as goal

pub returns-in-Err-clause-looked : goal.returns-in-Err-clause-looked
returns-in-Err-clause-looked g c = looked_ahead g.D.Disk.disk c.args.self.now c.look.new.self c.look.ensures.ahead

pub returns-in-Err-clause-ends : goal.returns-in-Err-clause-ends
returns-in-Err-clause-ends g c = ends_reading g.D.Disk.disk c.args.self.now c.in-Err.ending c.in-Err.ensures.ends

pub returns-then-not-found-clause-looked : goal.returns-then-not-found-clause-looked
returns-then-not-found-clause-looked g c = looked_ahead g.D.Disk.disk c.args.self.now c.look.new.self c.look.ensures.ahead

pub returns-in-Err-read_record-clause-looked : goal.returns-in-Err-read_record-clause-looked
returns-in-Err-read_record-clause-looked g c = looked_ahead g.D.Disk.disk c.args.self.now c.look.new.self c.look.ensures.ahead

pub returns-in-Err-read_record-clause-ends : goal.returns-in-Err-read_record-clause-ends
returns-in-Err-read_record-clause-ends g c =
    let found = c.in-Ok.found in
    let b = c.look.new.self in
    let frame = c.in-Ok.ensures.frame in
    let place = c.in-Err-read_record.fault.place in
    let gate = ap (λ (v : Reading g.row.D.Denot). Spoiled (v.gate + 5 + place)) c.self.view_is in
    let bytes : entry_of frame.bytes ≡ Err place = ap entry_of (sym (payload_in found b.switched b.chain b.gate b.held frame) ∙ sym c.payload.ensures) ∙ c.in-Err-read_record.ensures.exact in
    subst (λ (e : Ending). EndsReading g.D.Disk.disk c.args.self.now e) (sym gate)
    (ends_reading g.D.Disk.disk c.args.self.now (Spoiled (b.gate + 5 + place)) (ends_then g.D.Disk.disk c.args.self.now b (Spoiled (b.gate + 5 + place)) c.look.ensures.ahead (malformed_here g.D.Disk.disk b found.bytes (payload_of b found frame) place bytes)))

pub returns-then-is_err-clause-looked : goal.returns-then-is_err-clause-looked
returns-then-is_err-clause-looked g c =
    looked_then g.D.Disk.disk c.args.self.now c.look.new.self c.find_chain.new.self (looked_ahead g.D.Disk.disk c.args.self.now c.look.new.self c.look.ensures.ahead) c.find_chain.ensures.looked

pub returns-clause-looked : goal.returns-clause-looked
returns-clause-looked g c =
    let found = looked_then g.D.Disk.disk c.args.self.now c.look.new.self c.find_chain.new.self (looked_ahead g.D.Disk.disk c.args.self.now c.look.new.self c.look.ensures.ahead) c.find_chain.ensures.looked in
    looked_then g.D.Disk.disk c.args.self.now c.find_chain.new.self c.look-2.new.self found (looked_ahead g.D.Disk.disk c.find_chain.new.self c.look-2.new.self c.look-2.ensures.ahead)

pub returns-clause-ends : goal.returns-clause-ends
returns-clause-ends g c =
    let found = looked_then g.D.Disk.disk c.args.self.now c.look.new.self c.find_chain.new.self (looked_ahead g.D.Disk.disk c.args.self.now c.look.new.self c.look.ensures.ahead) c.find_chain.ensures.looked in
    if_err (EndsHere g.D.Disk.disk c.find_chain.new.self) (EndsReading g.D.Disk.disk c.args.self.now) c.look-2.result
    (λ e ends. ends_looked g.D.Disk.disk c.args.self.now c.find_chain.new.self e found (ends_reading g.D.Disk.disk c.find_chain.new.self e ends)) c.look-2.ensures.ends
