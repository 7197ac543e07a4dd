use Rattle.std.proofs.Common.{◌≡◌, [], ◌∷◌, ℕ, Some, sym, ap, ◌∙◌, refl, arith}
use Rattle.scrip_form.specs.Issuing.{epoch}
use Rattle.mc_records.specs.Entry.{Entry, Upgrade}
use Rattle.mc_records.specs.Views.{entry}
use Rattle.ledger_model.specs.Houses.{upgrade_in}
use Rattle.ledger_model.specs.Stock.{upgrade_terms}
use Rattle.house_core.specs.Bench.{house_time, limits_of}
use Rattle.house_core.specs.declared.outcome.Outcome.TheVariants.{Done, Refused, NoMemory, Halted}
use Rattle.house_core.specs.Tasks.{Add, TellsAdded}
use Rattle.house_core.specs.Upgrading.{upgrade_task}
use Rattle.house_core.proofs.TaskLemmas.{enters, refuses, stays, tells_last}
use Rattle.house_core.proofs.UpgradeLemmas.{no_terms, stays_set, is_set, is_early, adds}
use Rattle.house_core.proofs.RefusingLemmas.{among_more}
use Rattle.house_core.proofs.upgrading.upgrade.Goals as goal

pub returns-in_default-clause-exact : goal.returns-in_default-clause-exact
returns-in_default-clause-exact g c h st =
    refuses g.D.Disk.disk g.T.Trade.trade _ TellsAdded (limits_of c.args.house.bench) c.args.house h (g.met.D.Disk.is_disk _) st _
    (no_terms (house_time c.args.house.bench) c.args.vendor.now c.args.issuer c.args.from (upgrade_terms h c.args.vendor.now c.args.issuer) (upgrade_in h c.args.vendor.now c.args.issuer) (sym c.in_default.is ∙ c.requires.terms h st))

pub returns-then-epoch-from-clause-exact : goal.returns-then-epoch-from-clause-exact
returns-then-epoch-from-clause-exact g c h st =
    stays g.D.Disk.disk g.T.Trade.trade _ TellsAdded (limits_of c.args.house.bench) c.args.house h (g.met.D.Disk.is_disk _) st _
    (stays_set (house_time c.args.house.bench) c.args.vendor.now c.args.issuer c.args.from h c.in-Some.terms c.in-Some-standing.epoch (sym c.in-Some.is ∙ c.requires.terms h st) (sym c.in-Some-standing.is ∙ c.requires.standing h st) c.if-epoch-from.true) refl

pub returns-else-epoch-from-clause-exact : goal.returns-else-epoch-from-clause-exact
returns-else-epoch-from-clause-exact g c h st =
    refuses g.D.Disk.disk g.T.Trade.trade _ TellsAdded (limits_of c.args.house.bench) c.args.house h (g.met.D.Disk.is_disk _) st _
    (is_set (house_time c.args.house.bench) c.args.vendor.now c.args.issuer c.args.from h c.in-Some.terms c.in-Some-standing.epoch c.from.result (sym c.in-Some.is ∙ c.requires.terms h st) (sym c.in-Some-standing.is ∙ c.requires.standing h st) c.if-epoch-from.false c.from.ensures)

pub returns-then-from-now-clause-exact : goal.returns-then-from-now-clause-exact
returns-then-from-now-clause-exact g c h st =
    let now : c.epoch_of-now.result ≡ epoch c.in-Some.terms (house_time c.args.house.bench) = c.epoch_of-now.ensures.epoch ∙ ap (epoch c.in-Some.terms) c.time.ensures in
    refuses g.D.Disk.disk g.T.Trade.trade _ TellsAdded (limits_of c.args.house.bench) c.args.house h (g.met.D.Disk.is_disk _) st _
    (is_early (house_time c.args.house.bench) c.args.vendor.now c.args.issuer c.args.from h c.in-Some.terms c.epoch_of-now.result c.from-then-from-now.result (sym c.in-Some.is ∙ c.requires.terms h st) (sym c.in_default-standing.is ∙ c.requires.standing h st) now c.if-from-now.true c.from-then-from-now.ensures)

pub returns-in-Done-clause-exact : goal.returns-in-Done-clause-exact
returns-in-Done-clause-exact g c h st =
    let t = house_time c.args.house.bench in
    let e = entry c.upgrade_record-record.result in
    let same : e ≡ Upgrade t c.args.vendor.now c.args.issuer c.args.from = c.upgrade_record-record.ensures.entry ∙ ap (λ (m : ℕ). Upgrade m c.args.vendor.now c.args.issuer c.args.from) c.time-2.ensures in
    let now : c.epoch_of-now.result ≡ epoch c.in-Some.terms t = c.epoch_of-now.ensures.epoch ∙ ap (epoch c.in-Some.terms) c.time.ensures in
    let asks : Add e ≡ upgrade_task h t c.args.vendor.now c.args.issuer c.args.from = ap (λ (x : Entry). Add x) same
    ∙ adds t c.args.vendor.now c.args.issuer c.args.from h c.in-Some.terms c.epoch_of-now.result (sym c.in-Some.is ∙ c.requires.terms h st) (sym c.in_default-standing.is ∙ c.requires.standing h st) now (omega (arith, c.if-from-now.false)) in
    enters g.D.Disk.disk g.T.Trade.trade (λ task. task ≡ upgrade_task h t c.args.vendor.now c.args.issuer c.args.from) TellsAdded (limits_of c.args.house.bench) (λ n. Some n)
    c.args.house.journal.disk h e (Done c.in-Done.house c.in-Done.receipt) asks (λ done. tells_last h e) (c.in-Done.ensures.exact h st) (c.in-Done.ensures.ran h st)

pub returns-in-Halted-clause-exact : goal.returns-in-Halted-clause-exact
returns-in-Halted-clause-exact g c h st =
    let t = house_time c.args.house.bench in
    let e = entry c.upgrade_record-record.result in
    let same : e ≡ Upgrade t c.args.vendor.now c.args.issuer c.args.from = c.upgrade_record-record.ensures.entry ∙ ap (λ (m : ℕ). Upgrade m c.args.vendor.now c.args.issuer c.args.from) c.time-2.ensures in
    let now : c.epoch_of-now.result ≡ epoch c.in-Some.terms t = c.epoch_of-now.ensures.epoch ∙ ap (epoch c.in-Some.terms) c.time.ensures in
    let asks : Add e ≡ upgrade_task h t c.args.vendor.now c.args.issuer c.args.from = ap (λ (x : Entry). Add x) same
    ∙ adds t c.args.vendor.now c.args.issuer c.args.from h c.in-Some.terms c.epoch_of-now.result (sym c.in-Some.is ∙ c.requires.terms h st) (sym c.in_default-standing.is ∙ c.requires.standing h st) now (omega (arith, c.if-from-now.false)) in
    enters g.D.Disk.disk g.T.Trade.trade (λ task. task ≡ upgrade_task h t c.args.vendor.now c.args.issuer c.args.from) TellsAdded (limits_of c.args.house.bench) (λ n. Some n)
    c.args.house.journal.disk h e (Halted c.in-Halted.halted) asks (λ done. absurd done) (c.in-Halted.ensures.exact h st) (c.in-Halted.ensures.ran h st)

pub returns-in-Refused-clause-exact : goal.returns-in-Refused-clause-exact
returns-in-Refused-clause-exact g c h st =
    let t = house_time c.args.house.bench in
    let e = entry c.upgrade_record-record.result in
    let same : e ≡ Upgrade t c.args.vendor.now c.args.issuer c.args.from = c.upgrade_record-record.ensures.entry ∙ ap (λ (m : ℕ). Upgrade m c.args.vendor.now c.args.issuer c.args.from) c.time-2.ensures in
    let now : c.epoch_of-now.result ≡ epoch c.in-Some.terms t = c.epoch_of-now.ensures.epoch ∙ ap (epoch c.in-Some.terms) c.time.ensures in
    let asks : Add e ≡ upgrade_task h t c.args.vendor.now c.args.issuer c.args.from = ap (λ (x : Entry). Add x) same
    ∙ adds t c.args.vendor.now c.args.issuer c.args.from h c.in-Some.terms c.epoch_of-now.result (sym c.in-Some.is ∙ c.requires.terms h st) (sym c.in_default-standing.is ∙ c.requires.standing h st) now (omega (arith, c.if-from-now.false)) in
    enters g.D.Disk.disk g.T.Trade.trade (λ task. task ≡ upgrade_task h t c.args.vendor.now c.args.issuer c.args.from) TellsAdded (limits_of c.args.house.bench) (λ n. Some n)
    c.args.house.journal.disk h e (Refused c.in-Refused.house c.in-Refused.refusal) asks (λ done. absurd done) (c.in-Refused.ensures.exact h st) (c.in-Refused.ensures.ran h st)

pub returns-in-NoMemory-clause-exact : goal.returns-in-NoMemory-clause-exact
returns-in-NoMemory-clause-exact g c h st =
    let t = house_time c.args.house.bench in
    let e = entry c.upgrade_record-record.result in
    let same : e ≡ Upgrade t c.args.vendor.now c.args.issuer c.args.from = c.upgrade_record-record.ensures.entry ∙ ap (λ (m : ℕ). Upgrade m c.args.vendor.now c.args.issuer c.args.from) c.time-2.ensures in
    let now : c.epoch_of-now.result ≡ epoch c.in-Some.terms t = c.epoch_of-now.ensures.epoch ∙ ap (epoch c.in-Some.terms) c.time.ensures in
    let asks : Add e ≡ upgrade_task h t c.args.vendor.now c.args.issuer c.args.from = ap (λ (x : Entry). Add x) same
    ∙ adds t c.args.vendor.now c.args.issuer c.args.from h c.in-Some.terms c.epoch_of-now.result (sym c.in-Some.is ∙ c.requires.terms h st) (sym c.in_default-standing.is ∙ c.requires.standing h st) now (omega (arith, c.if-from-now.false)) in
    enters g.D.Disk.disk g.T.Trade.trade (λ task. task ≡ upgrade_task h t c.args.vendor.now c.args.issuer c.args.from) TellsAdded (limits_of c.args.house.bench) (λ n. Some n)
    c.args.house.journal.disk h e (NoMemory c.in-NoMemory.house) asks (λ done. absurd done) (c.in-NoMemory.ensures.exact h st) (c.in-NoMemory.ensures.ran h st)

pub returns-in-Refused-clause-refusals : goal.returns-in-Refused-clause-refusals
returns-in-Refused-clause-refusals g c = among_more (33 ∷ []) (33 ∷ 71 ∷ 72 ∷ 73 ∷ []) _ refl c.in-Refused.ensures.refusals
