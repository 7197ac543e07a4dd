use Rattle.std.proofs.Common.{◌≡◌, ℕ, refl, ap, ◌∙◌}
use Rattle.mc_records.specs.Entry.{Entry, Note}
use Rattle.mc_records.specs.Views.{entry}
use Rattle.house_core.specs.Bench.{house_time, limits_of}
use Rattle.house_core.specs.declared.outcome.Outcome.TheVariants.{Done, Refused, NoMemory, Halted}
use Rattle.house_core.specs.Tasks.{Add}
use Rattle.house_core.proofs.TaskLemmas.{enters}
use Rattle.counted_trade.specs.Counted.{counted_view}
use Rattle.counted_trade.proofs.NoteLemmas.{note_follows, note_passes}
use Rattle.counted_trade.proofs.noting.enter_note.Goals as goal

pub enter-requires-clause-may : goal.enter-requires-clause-may
enter-requires-clause-may g c h st =
    let same = c.note-record.ensures.entry ∙ ap (λ (m : ℕ). Note m c.args.tag.now c.args.bytes.now) c.time.ensures in
    note_follows (limits_of c.args.house.bench) h (house_time c.args.house.bench) _ c.args.tag.now c.args.bytes.now _ same st.house.represents.state.in_time st.house.represents.of_kind

pub enter-requires-clause-passed : goal.enter-requires-clause-passed
enter-requires-clause-passed g c h st =
    let same = c.note-record.ensures.entry ∙ ap (λ (m : ℕ). Note m c.args.tag.now c.args.bytes.now) c.time.ensures in
    note_passes g.T.Trade.passes h (house_time c.args.house.bench) c.args.tag.now c.args.bytes.now _ same (c.requires.untested h _) (c.requires.order h st)

pub returns-in-Done-clause-exact : goal.returns-in-Done-clause-exact
returns-in-Done-clause-exact g c h st =
    let t = house_time c.args.house.bench in
    let e = entry c.note-record.result in
    let same : e ≡ Note t c.args.tag.now c.args.bytes.now = c.note-record.ensures.entry ∙ ap (λ (m : ℕ). Note m c.args.tag.now c.args.bytes.now) c.time.ensures in
    enters g.D.Disk.disk (counted_view g.T.Trade.trade) (λ task. task ≡ Add (Note t c.args.tag.now c.args.bytes.now)) (λ task k told. told ≡ c.args.amount) (limits_of c.args.house.bench) (λ n. c.args.amount)
    c.args.house.journal.disk h e (Done c.in-Done.house c.in-Done.field-1) (ap (λ (x : Entry). Add x) same) (λ done n is. refl) (c.in-Done.ensures.exact h st) (c.in-Done.ensures.ran h st)

pub returns-in-Refused-clause-exact : goal.returns-in-Refused-clause-exact
returns-in-Refused-clause-exact g c h st =
    let t = house_time c.args.house.bench in
    let e = entry c.note-record.result in
    let same : e ≡ Note t c.args.tag.now c.args.bytes.now = c.note-record.ensures.entry ∙ ap (λ (m : ℕ). Note m c.args.tag.now c.args.bytes.now) c.time.ensures in
    enters g.D.Disk.disk (counted_view g.T.Trade.trade) (λ task. task ≡ Add (Note t c.args.tag.now c.args.bytes.now)) (λ task k told. told ≡ c.args.amount) (limits_of c.args.house.bench) (λ n. c.args.amount)
    c.args.house.journal.disk h e (Refused c.in-Refused.house c.in-Refused.refusal) (ap (λ (x : Entry). Add x) same) (λ done. absurd done) (c.in-Refused.ensures.exact h st) (c.in-Refused.ensures.ran h st)

pub returns-in-NoMemory-clause-exact : goal.returns-in-NoMemory-clause-exact
returns-in-NoMemory-clause-exact g c h st =
    let t = house_time c.args.house.bench in
    let e = entry c.note-record.result in
    let same : e ≡ Note t c.args.tag.now c.args.bytes.now = c.note-record.ensures.entry ∙ ap (λ (m : ℕ). Note m c.args.tag.now c.args.bytes.now) c.time.ensures in
    enters g.D.Disk.disk (counted_view g.T.Trade.trade) (λ task. task ≡ Add (Note t c.args.tag.now c.args.bytes.now)) (λ task k told. told ≡ c.args.amount) (limits_of c.args.house.bench) (λ n. c.args.amount)
    c.args.house.journal.disk h e (NoMemory c.in-NoMemory.house) (ap (λ (x : Entry). Add x) same) (λ done. absurd done) (c.in-NoMemory.ensures.exact h st) (c.in-NoMemory.ensures.ran h st)

pub returns-in-Halted-clause-exact : goal.returns-in-Halted-clause-exact
returns-in-Halted-clause-exact g c h st =
    let t = house_time c.args.house.bench in
    let e = entry c.note-record.result in
    let same : e ≡ Note t c.args.tag.now c.args.bytes.now = c.note-record.ensures.entry ∙ ap (λ (m : ℕ). Note m c.args.tag.now c.args.bytes.now) c.time.ensures in
    enters g.D.Disk.disk (counted_view g.T.Trade.trade) (λ task. task ≡ Add (Note t c.args.tag.now c.args.bytes.now)) (λ task k told. told ≡ c.args.amount) (limits_of c.args.house.bench) (λ n. c.args.amount)
    c.args.house.journal.disk h e (Halted c.in-Halted.halted) (ap (λ (x : Entry). Add x) same) (λ done. absurd done) (c.in-Halted.ensures.exact h st) (c.in-Halted.ensures.ran h st)
