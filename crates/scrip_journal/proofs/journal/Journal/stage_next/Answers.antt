use Rattle.std.proofs.Common.{◌≡◌, ◌+◌, Bool, ◌||◌, arith, refl, sym, subst, ap, ap₂, take, length, ◌∙◌, List, [], ◌∷◌, ◌++◌, ℕ, Option}
use Rattle.mc_outside.specs.DiskView.{DiskView, Ran}
use Rattle.mc_outside.proofs.Counts.{on_ok}
use Rattle.mc_records.specs.Entry.{Entry, payload}
use Rattle.mc_records.specs.Chains.{has_switch}
use Rattle.mc_records.specs.Sizes.{tail, tail_by, tail_bytes, entry_size}
use Rattle.mc_records.specs.Views.{entry}
use Rattle.mc_records.proofs.ChainLaws.{has_switch-more}
use Rattle.mc_records.proofs.SizeLaws.{length-tail, tail_size-by}
use Rattle.scrip_journal.specs.States.{AtRest, IsJournal, IsChainOf, known_chain, chain_with}
use Rattle.scrip_journal.specs.Exits.{EncodesNoOutput}
use Rattle.scrip_journal.proofs.Steps.{stage_ran, stage_sync_ran, is_staged}
use Rattle.scrip_journal.proofs.Bodies.{block_is, block_long}
use Rattle.scrip_journal.proofs.Known.{chain_goes_on, tail_of}
use Rattle.scrip_journal.proofs.Uncut.{NoFewer, uncut_same, uncut_then, uncut_write}
use Rattle.scrip_journal.proofs.journal.Journal.stage_next.Goals as goal

-- from what the parts of the journal were to what it was
of_parts : {D : Type 0} (view : D → DiskView) (b : DiskView) (h : List Entry) (v j : AtRest D) → v ≡ j → (IsJournal view v h → Ran (view v.disk) b (EncodesNoOutput h (view v.disk).aside))
    → IsJournal view j h → Ran (view j.disk) b (EncodesNoOutput h (view j.disk).aside)
of_parts {D = D} view b h v j is ran = subst (λ (k : AtRest D). IsJournal view k h → Ran (view k.disk) b (EncodesNoOutput h (view k.disk).aside)) is ran

-- the block is what the entry adds to the journal
adds : (h : List Entry) (e : Entry) (switched : Bool) (block : ℕ) → switched ≡ has_switch h → block ≡ length (payload e) + tail_bytes switched + 5 → block ≡ entry_size h e
adds h e switched block is size = omega (arith, size, ap tail_bytes is, length-tail h e, tail_size-by h)

pub returns-then-at-block-clause-room : goal.returns-then-at-block-clause-room
returns-then-at-block-clause-room g c = grind (arith, c.put_block-block.ensures.size, c.self.view_is)

pub returns-then-is_err-clause-room : goal.returns-then-is_err-clause-room
returns-then-is_err-clause-room g c = grind (arith, c.put_block-block.ensures.size, c.self.view_is)

pub returns-then-is_err-clause-ran : goal.returns-then-is_err-clause-ran
returns-then-is_err-clause-ran g c h =
    of_parts g.D.Disk.disk (g.D.Disk.disk c.write_at.new.self) h _ _ c.self.view_is (λ j.
    stage_ran g.D.Disk.disk _ h j c.self.inside.at.gate refl _ _ (g.met.D.Disk.disk_goes _ _ c.write_at.ensures.moved) c.write_at.ensures.pairs c.write_at.ensures.crash)

pub returns-then-is_err-2-clause-room : goal.returns-then-is_err-2-clause-room
returns-then-is_err-2-clause-room g c = grind (arith, c.put_block-block.ensures.size, c.self.view_is)

pub returns-then-is_err-2-clause-ran : goal.returns-then-is_err-2-clause-ran
returns-then-is_err-2-clause-ran g c h =
    of_parts g.D.Disk.disk (g.D.Disk.disk c.sync.new.self) h _ _ c.self.view_is (λ j.
    stage_sync_ran g.D.Disk.disk _ h j c.self.inside.at.gate refl _ _ _ (g.met.D.Disk.disk_goes _ _ c.write_at.ensures.moved) c.write_at.ensures.pairs c.write_at.ensures.crash
    (g.met.D.Disk.disk_goes _ _ c.sync.ensures.moved) c.sync.ensures.pairs c.sync.ensures.crash)

pub returns-clause-room : goal.returns-clause-room
returns-clause-room g c = grind (arith, c.put_block-block.ensures.size, c.self.view_is)

pub returns-clause-ran : goal.returns-clause-ran
returns-clause-ran g c h =
    of_parts g.D.Disk.disk (g.D.Disk.disk c.sync.new.self) h _ _ c.self.view_is (λ j.
    stage_sync_ran g.D.Disk.disk _ h j c.self.inside.at.gate refl _ _ _ (g.met.D.Disk.disk_goes _ _ c.write_at.ensures.moved) c.write_at.ensures.pairs c.write_at.ensures.crash
    (g.met.D.Disk.disk_goes _ _ c.sync.ensures.moved) c.sync.ensures.pairs c.sync.ensures.crash)

pub returns-clause-staged : goal.returns-clause-staged
returns-clause-staged g c h j =
    let written = on_ok c.write_at.result _ (sym c.is_err.ensures.value ∙ c.if-is_err.false) c.write_at.ensures.written in
    let synced = on_ok c.sync.result _ (sym c.is_err-2.ensures.value ∙ c.if-is_err-2.false) c.sync.ensures.synced in
    let was = c.self.view_is in
    let e = entry c.args.r.now in
    let block = ap (λ (l : List ℕ). take c.put_block-block.result.0 l) c.deref.ensures.value ∙ c.put_block-block.ensures.block in
    let switched : c.self.inside.at.switched ≡ has_switch h = ap (λ (v : AtRest g.row.D.Denot). v.switched) was ∙ j.switched_is in
    let before = ap (λ (v : AtRest g.row.D.Denot). v.chain) was in
    let with_it : IsChainOf (chain_with c.args.self.chain (payload e)) (h ++ e ∷ []) = chain_goes_on c.args.self.chain h e j.chain_is c.requires.known in
    let chain_is : IsChainOf c.put_block-block.result.1 (h ++ e ∷ []) =
    subst (λ (k : Option (List ℕ)). IsChainOf k (h ++ e ∷ [])) (sym (c.put_block-block.ensures.chain ∙ ap (λ (k : Option (List ℕ)). chain_with k (payload e)) before)) with_it in
    let end : tail_by c.self.inside.at.switched (known_chain c.put_block-block.result.1) ≡ tail h e = tail_of c.self.inside.at.switched c.put_block-block.result.1 h e switched chain_is in
    let framed = block_is h e _ _ end block in
    is_staged g.D.Disk.disk _ h (subst (λ (k : AtRest g.row.D.Denot). IsJournal g.D.Disk.disk k h) (sym was) j) c.self.inside.at.gate refl (g.D.Disk.disk c.write_at.new.self) c.sync.new.self _ c.put_block-block.result.0 e
    c.stands_with-switched.result c.put_block-block.result.1 _
    written c.sync.ensures.same synced c.requires.fits framed (block_long h e _ _ framed (omega (arith, adds h e c.self.inside.at.switched c.put_block-block.result.0 switched c.put_block-block.ensures.size))) refl
    (c.stands_with-switched.ensures ∙ ap₂ (λ (a b : Bool). a || b) switched c.is_switch.ensures ∙ sym (has_switch-more h e)) chain_is

-- likewise
uncut_parts : {D : Type 0} (view : D → DiskView) (after : Option (List ℕ)) (v j : AtRest D) → v ≡ j → NoFewer (view v.disk).contents after → NoFewer (view j.disk).contents after
uncut_parts {D = D} view after v j is uncut = subst (λ (k : AtRest D). NoFewer (view k.disk).contents after) is uncut

pub returns-then-at-block-clause-uncut : goal.returns-then-at-block-clause-uncut
returns-then-at-block-clause-uncut g c = uncut_parts g.D.Disk.disk _ _ _ c.self.view_is (uncut_same _ _ refl)

pub returns-then-is_err-clause-uncut : goal.returns-then-is_err-clause-uncut
returns-then-is_err-clause-uncut g c = uncut_parts g.D.Disk.disk _ _ _ c.self.view_is (uncut_write c.write_at.result _ _ _ _ c.write_at.ensures.written c.write_at.ensures.failed)

pub returns-then-is_err-2-clause-uncut : goal.returns-then-is_err-2-clause-uncut
returns-then-is_err-2-clause-uncut g c =
    uncut_parts g.D.Disk.disk _ _ _ c.self.view_is (uncut_then _ _ _ (uncut_write c.write_at.result _ _ _ _ c.write_at.ensures.written c.write_at.ensures.failed) (uncut_same _ _ c.sync.ensures.same))

pub returns-clause-uncut : goal.returns-clause-uncut
returns-clause-uncut g c =
    uncut_parts g.D.Disk.disk _ _ _ c.self.view_is (uncut_then _ _ _ (uncut_write c.write_at.result _ _ _ _ c.write_at.ensures.written c.write_at.ensures.failed) (uncut_same _ _ c.sync.ensures.same))
