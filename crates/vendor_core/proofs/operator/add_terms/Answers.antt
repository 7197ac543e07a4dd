use Rattle.std.proofs.Common.{◌≡◌, ℕ, None, Some, sym, ap, ◌∙◌, refl, [], ◌∷◌}
use Rattle.mc_records.specs.Entry.{Entry, AddTerms}
use Rattle.mc_records.specs.Views.{entry}
use Rattle.ledger_model.specs.Houses.{terms_in}
use Rattle.house_state.proofs.PartLaws.{every_passes}
use Rattle.house_core.specs.Bench.{house_time, limits_of}
use Rattle.house_core.specs.declared.outcome.Outcome.TheVariants.{Done, Refused, NoMemory, Halted}
use Rattle.house_core.specs.Tasks.{Add, TellsAdded}
use Rattle.house_core.proofs.TaskLemmas.{enters, refuses, stays, tells_last}
use Rattle.vendor_core.specs.Shelf.{shelf_view}
use Rattle.vendor_core.specs.Tasks.{terms_task}
use Rattle.vendor_core.proofs.OperatorLemmas.{same_licensed, other_licensed, new_licensed}
use Rattle.house_core.proofs.RefusingLemmas.{among_more}
use Rattle.vendor_core.proofs.operator.add_terms.Goals as goal

pub returns-then-are_same-clause-exact : goal.returns-then-are_same-clause-exact
returns-then-are_same-clause-exact g c h st =
    let standing : terms_in h c.args.terms.now.issuer ≡ Some c.in-Some.standing = rw c.issuer.ensures at (sym (c.in-Some.ensures h st)) in
    stays g.D.Disk.disk shelf_view _ TellsAdded (limits_of c.args.house.bench) c.args.house h (g.met.D.Disk.is_disk _) st _
    (same_licensed (house_time c.args.house.bench) c.args.terms.now c.in-Some.standing _ standing (sym c.if-are_same.ensures)) refl

pub returns-else-are_same-clause-exact : goal.returns-else-are_same-clause-exact
returns-else-are_same-clause-exact g c h st =
    let standing : terms_in h c.args.terms.now.issuer ≡ Some c.in-Some.standing = rw c.issuer.ensures at (sym (c.in-Some.ensures h st)) in
    refuses g.D.Disk.disk shelf_view _ TellsAdded (limits_of c.args.house.bench) c.args.house h (g.met.D.Disk.is_disk _) st _
    (other_licensed (house_time c.args.house.bench) c.args.terms.now c.in-Some.standing _ _ standing (sym c.if-are_same.ensures) (c.from.ensures ∙ c.issuer-else-are_same.ensures))

pub enter-requires-clause-passed : goal.enter-requires-clause-passed
enter-requires-clause-passed g c h st = every_passes h (entry c.terms_record-record.result)

pub returns-in-Done-clause-exact : goal.returns-in-Done-clause-exact
returns-in-Done-clause-exact g c h st =
    let t = house_time c.args.house.bench in
    let e = entry c.terms_record-record.result in
    let same : e ≡ AddTerms t c.args.terms.now = c.terms_record-record.ensures.entry ∙ ap (λ (m : ℕ). AddTerms m c.args.terms.now) c.time.ensures in
    let none : terms_in h c.args.terms.now.issuer ≡ None = rw c.issuer.ensures at (sym (c.in_default.ensures h st)) in
    let asks : Add e ≡ terms_task h t c.args.terms.now = ap (λ (x : Entry). Add x) same ∙ new_licensed t c.args.terms.now _ none in
    enters g.D.Disk.disk shelf_view (λ task. task ≡ terms_task h t c.args.terms.now) TellsAdded (limits_of c.args.house.bench) (λ n. Some n)
    c.args.house.journal.disk h e (Done c.in-Done.house c.in-Done.receipt) asks (λ done. tells_last h e) (c.in-Done.ensures.exact h st) (c.in-Done.ensures.ran h st)

pub returns-in-Halted-clause-exact : goal.returns-in-Halted-clause-exact
returns-in-Halted-clause-exact g c h st =
    let t = house_time c.args.house.bench in
    let e = entry c.terms_record-record.result in
    let same : e ≡ AddTerms t c.args.terms.now = c.terms_record-record.ensures.entry ∙ ap (λ (m : ℕ). AddTerms m c.args.terms.now) c.time.ensures in
    let none : terms_in h c.args.terms.now.issuer ≡ None = rw c.issuer.ensures at (sym (c.in_default.ensures h st)) in
    let asks : Add e ≡ terms_task h t c.args.terms.now = ap (λ (x : Entry). Add x) same ∙ new_licensed t c.args.terms.now _ none in
    enters g.D.Disk.disk shelf_view (λ task. task ≡ terms_task h t c.args.terms.now) TellsAdded (limits_of c.args.house.bench) (λ n. Some n)
    c.args.house.journal.disk h e (Halted c.in-Halted.halted) asks (λ done. absurd done) (c.in-Halted.ensures.exact h st) (c.in-Halted.ensures.ran h st)

pub returns-in-Refused-clause-exact : goal.returns-in-Refused-clause-exact
returns-in-Refused-clause-exact g c h st =
    let t = house_time c.args.house.bench in
    let e = entry c.terms_record-record.result in
    let same : e ≡ AddTerms t c.args.terms.now = c.terms_record-record.ensures.entry ∙ ap (λ (m : ℕ). AddTerms m c.args.terms.now) c.time.ensures in
    let none : terms_in h c.args.terms.now.issuer ≡ None = rw c.issuer.ensures at (sym (c.in_default.ensures h st)) in
    let asks : Add e ≡ terms_task h t c.args.terms.now = ap (λ (x : Entry). Add x) same ∙ new_licensed t c.args.terms.now _ none in
    enters g.D.Disk.disk shelf_view (λ task. task ≡ terms_task h t c.args.terms.now) TellsAdded (limits_of c.args.house.bench) (λ n. Some n)
    c.args.house.journal.disk h e (Refused c.in-Refused.house c.in-Refused.refusal) asks (λ done. absurd done) (c.in-Refused.ensures.exact h st) (c.in-Refused.ensures.ran h st)

pub returns-in-NoMemory-clause-exact : goal.returns-in-NoMemory-clause-exact
returns-in-NoMemory-clause-exact g c h st =
    let t = house_time c.args.house.bench in
    let e = entry c.terms_record-record.result in
    let same : e ≡ AddTerms t c.args.terms.now = c.terms_record-record.ensures.entry ∙ ap (λ (m : ℕ). AddTerms m c.args.terms.now) c.time.ensures in
    let none : terms_in h c.args.terms.now.issuer ≡ None = rw c.issuer.ensures at (sym (c.in_default.ensures h st)) in
    let asks : Add e ≡ terms_task h t c.args.terms.now = ap (λ (x : Entry). Add x) same ∙ new_licensed t c.args.terms.now _ none in
    enters g.D.Disk.disk shelf_view (λ task. task ≡ terms_task h t c.args.terms.now) TellsAdded (limits_of c.args.house.bench) (λ n. Some n)
    c.args.house.journal.disk h e (NoMemory c.in-NoMemory.house) asks (λ done. absurd done) (c.in-NoMemory.ensures.exact h st) (c.in-NoMemory.ensures.ran h st)

pub returns-in-Refused-clause-refusals : goal.returns-in-Refused-clause-refusals
returns-in-Refused-clause-refusals g c = among_more (33 ∷ []) (33 ∷ 55 ∷ []) _ refl c.in-Refused.ensures.refusals
