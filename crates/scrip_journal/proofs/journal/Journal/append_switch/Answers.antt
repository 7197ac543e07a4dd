use Rattle.std.proofs.Common.{◌∷◌, ◌++◌, [], List, ℕ, refl, sym, ap, subst, arith}
use Rattle.mc_outside.specs.DiskView.{Ran}
use Rattle.mc_records.specs.Chains as chains
use Rattle.mc_records.specs.Entry.{Switch}
use Rattle.scrip_journal.specs.States.{IsJournal}
use Rattle.scrip_journal.specs.Exits.{EitherNoOutput}
use Rattle.scrip_journal.proofs.SwitchLaws.{switch_adds, within_limit, chain_found, ran_unwritten, ran_read, ran_read_then}
use Rattle.scrip_journal.proofs.Uncut.{uncut_same, uncut_then}
use Rattle.scrip_journal.proofs.journal.Journal.append_switch.Goals as goal

-- ---- it has no room

pub returns-then-is_full-clause-ran : goal.returns-then-is_full-clause-ran
returns-then-is_full-clause-ran g c h is = ran_unwritten g.D.Disk.disk c.args.self h (Switch c.args.moment (chains.chain h)) (g.met.D.Disk.is_disk c.args.self.disk) is

pub returns-then-is_full-clause-full : goal.returns-then-is_full-clause-full
returns-then-is_full-clause-full g c h sized switched = omega (arith, sized, switch_adds h c.args.moment c.args.self.switched switched, c.is_full.ensures.0 c.if-is_full.true)

pub returns-then-is_full-clause-uncut : goal.returns-then-is_full-clause-uncut
returns-then-is_full-clause-uncut g c = uncut_same _ _ refl

-- ---- its chain was not found

pub returns-in-Err-clause-ran : goal.returns-in-Err-clause-ran
returns-in-Err-clause-ran g c h is = ran_read g.D.Disk.disk c.args.self _ h (Switch c.args.moment (chains.chain h)) is c.in-Err.ensures.read

pub returns-in-Err-clause-full : goal.returns-in-Err-clause-full
returns-in-Err-clause-full g c h sized switched = omega (arith, sized, switch_adds h c.args.moment c.args.self.switched switched, within_limit c.is_full.result _ _ c.is_full.ensures c.if-is_full.false)

pub returns-in-Err-clause-uncut : goal.returns-in-Err-clause-uncut
returns-in-Err-clause-uncut g c = uncut_same _ _ c.in-Err.ensures.read.contents

-- ---- it was written

pub returns-in-Ok-append-clause-written : goal.returns-in-Ok-append-clause-written
returns-in-Ok-append-clause-written g c h is =
    let found = c.in-Ok.ensures in
    let journal = found.stands h is in
    let told = chain_found g.D.Disk.disk c.in-Ok.found.0 h c.in-Ok.found.1 journal found.known in
    let wrote = c.in-Ok-append.ensures.written h journal in
    (subst (λ (d : List ℕ). IsJournal g.D.Disk.disk c.in-Ok-append.journal (h ++ Switch c.args.moment d ∷ [])) told wrote.0, wrote.1, told)

pub returns-in-Ok-append-clause-ran : goal.returns-in-Ok-append-clause-ran
returns-in-Ok-append-clause-ran g c h is =
    let found = c.in-Ok.ensures in
    let journal = found.stands h is in
    let told = chain_found g.D.Disk.disk c.in-Ok.found.0 h c.in-Ok.found.1 journal found.known in
    ran_read_then g.D.Disk.disk c.args.self (g.D.Disk.disk c.in-Ok.found.0.disk) _ h (Switch c.args.moment (chains.chain h)) (Switch c.args.moment c.in-Ok.found.1) is found.read
    (ap (λ (d : List ℕ). Switch c.args.moment d) told) (c.in-Ok-append.ensures.ran h journal)

pub returns-in-Ok-append-clause-full : goal.returns-in-Ok-append-clause-full
returns-in-Ok-append-clause-full g c h sized switched = omega (arith, sized, switch_adds h c.args.moment c.args.self.switched switched, within_limit c.is_full.result _ _ c.is_full.ensures c.if-is_full.false)

pub returns-in-Ok-append-clause-uncut : goal.returns-in-Ok-append-clause-uncut
returns-in-Ok-append-clause-uncut g c = uncut_then _ _ _ (uncut_same _ _ c.in-Ok.ensures.read.contents) c.in-Ok-append.ensures.uncut

-- ---- or the disk failed

pub returns-in-Err-Disk-clause-ran : goal.returns-in-Err-Disk-clause-ran
returns-in-Err-Disk-clause-ran g c h is =
    let found = c.in-Ok.ensures in
    let journal = found.stands h is in
    let told = chain_found g.D.Disk.disk c.in-Ok.found.0 h c.in-Ok.found.1 journal found.known in
    let ran : Ran (g.D.Disk.disk c.in-Ok.found.0.disk) (g.D.Disk.disk c.in-Err-Disk.halted) (EitherNoOutput h (Switch c.args.moment c.in-Ok.found.1) (g.D.Disk.disk c.in-Ok.found.0.disk).aside)
    = rw c.in-Err-Disk.field-0-is at (c.in-Err-Disk.ensures.ran h journal) in
    subst (λ (d : g.row.D.Denot). Ran (g.D.Disk.disk c.args.self.disk) (g.D.Disk.disk d) (EitherNoOutput h (Switch c.args.moment (chains.chain h)) (g.D.Disk.disk c.args.self.disk).aside)) (sym c.in-Err-Disk.halted-is)
    (ran_read_then g.D.Disk.disk c.args.self (g.D.Disk.disk c.in-Ok.found.0.disk) (g.D.Disk.disk c.in-Err-Disk.halted) h (Switch c.args.moment (chains.chain h)) (Switch c.args.moment c.in-Ok.found.1) is found.read
    (ap (λ (d : List ℕ). Switch c.args.moment d) told) ran)

pub returns-in-Err-Disk-clause-full : goal.returns-in-Err-Disk-clause-full
returns-in-Err-Disk-clause-full g c h sized switched = omega (arith, sized, switch_adds h c.args.moment c.args.self.switched switched, within_limit c.is_full.result _ _ c.is_full.ensures c.if-is_full.false)
