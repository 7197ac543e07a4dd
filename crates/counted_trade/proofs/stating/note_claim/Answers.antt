use Rattle.std.proofs.Common.{◌≡◌, ℕ, List, ◌++◌, length, sym, ap, subst, ◌∙◌, arith}
use Rattle.std.specs.Prelude.{codes}
use Rattle.mc_records.specs.Entry.{Note}
use Rattle.house_core.specs.Bench.{house_time, limits_of}
use Rattle.house_core.specs.Tasks.{Add}
use Rattle.settle_core.specs.Claims.{claim_text}
use Rattle.settle_core.specs.Settlement.{IsInOrder}
use Rattle.settle_core.proofs.NoteOrders.{stated_note}
use Rattle.counted_trade.specs.Counted.{counted_view}
use Rattle.counted_trade.proofs.NoteLemmas.{stated_name, claim_text_short}
use Rattle.counted_trade.proofs.TaskLemmas.{performs_as}
use Rattle.counted_trade.proofs.stating.note_claim.Goals as goal

pub enter_note-requires-clause-tag : goal.enter_note-requires-clause-tag
enter_note-requires-clause-tag g c = stated_name

pub enter_note-requires-clause-order : goal.enter_note-requires-clause-order
enter_note-requires-clause-order g c h st =
    let bytes : c.deref.result.now ≡ claim_text c.args.claim.now = c.deref.ensures.value ∙ c.in-Ok.ensures ∙ ap (λ (xs : List ℕ). xs ++ claim_text c.args.claim.now) c.new-text.ensures.items in
    subst (λ (text : List ℕ). IsInOrder h (Note (house_time c.args.house.bench) (codes "stated") text)) (sym bytes)
    (stated_note (limits_of c.args.house.bench) h (house_time c.args.house.bench) c.args.claim.now.issuer c.args.claim.now.epoch c.args.claim.now
    st.house.represents.state.lawful (record { some = c.requires.issuer; within = omega (arith, c.requires.byte) }) c.requires.epoch (c.requires.due h st))

pub enter_note-requires-clause-short : goal.enter_note-requires-clause-short
enter_note-requires-clause-short g c =
    let bytes : c.deref.result.now ≡ claim_text c.args.claim.now = c.deref.ensures.value ∙ c.in-Ok.ensures ∙ ap (λ (xs : List ℕ). xs ++ claim_text c.args.claim.now) c.new-text.ensures.items in
    let short = claim_text_short c.args.claim.now c.requires.byte c.requires.epoch c.requires.amount in
    let same = ap (λ (xs : List ℕ). length xs) bytes in
    omega (arith, short, same)

pub returns-in-Ok-clause-exact : goal.returns-in-Ok-clause-exact
returns-in-Ok-clause-exact g c h st =
    let bytes : c.deref.result.now ≡ claim_text c.args.claim.now = c.deref.ensures.value ∙ c.in-Ok.ensures ∙ ap (λ (xs : List ℕ). xs ++ claim_text c.args.claim.now) c.new-text.ensures.items in
    let t = house_time c.args.house.bench in
    performs_as g.D.Disk.disk (counted_view g.T.Trade.trade) (λ task. task ≡ Add (Note t (codes "stated") c.deref.result.now)) (λ task. task ≡ Add (Note t (codes "stated") (claim_text c.args.claim.now)))
    (λ task k told. told ≡ c.args.claim.now.amount) (λ task k told. told ≡ c.args.claim.now.amount) (limits_of c.args.house.bench) c.args.house.journal.disk h c.enter_note.result
    (λ task is. is ∙ ap (λ (text : List ℕ). Add (Note t (codes "stated") text)) bytes) (λ done task k told is. is) (c.enter_note.ensures.exact h st)
