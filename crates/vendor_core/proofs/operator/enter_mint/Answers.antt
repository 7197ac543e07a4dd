use Rattle.std.proofs.Common.{◌≡◌, ℕ, List}
use Rattle.mc_records.specs.Entry.{Mint}
use Rattle.house_core.specs.Bench.{house_time, limits_of}
use Rattle.house_core.proofs.FirstEntry.{same_house}
use Rattle.house_core.specs.declared.outcome.Outcome.TheVariants as outcomes
use Rattle.vendor_core.specs.Shelf.{shelf_view}
use Rattle.vendor_core.proofs.OperatorLemmas.{mint_may_follow, mint_enters}
use Rattle.vendor_core.proofs.operator.enter_mint.Goals as goal

-- the entry that is written
same_mint : (t u : ℕ) (a b : List ℕ) (count v w first : ℕ) → t ≡ u → a ≡ b → v ≡ w → Mint t a count v first ≡ Mint u b count w first
same_mint t u a b count v w first p q r = cc

pub enter-requires-clause-may : goal.enter-requires-clause-may
enter-requires-clause-may g c h st =
    let t = house_time c.args.house.bench in
    mint_may_follow (limits_of c.args.house.bench) h t c.args.reference.now c.args.count c.args.value c.args.first _
    (same_mint _ _ _ _ _ _ _ _ c.time.ensures c.bytes.ensures.value c.get.ensures.units) (c.requires.new h st) (c.requires.run h st) st.house.represents.state.in_time st.house.represents.of_kind

pub returns-in-Done-clause-exact : goal.returns-in-Done-clause-exact
returns-in-Done-clause-exact g c h terms st own lines =
    let named = (same_house (limits_of c.args.house.bench) h _ st.house.represents.state.lawful).name in
    rw c.number.ensures (mint_enters (limits_of c.args.house.bench) h (house_time c.args.house.bench) c.args.reference.now c.args.count c.args.value c.args.first _
    (same_mint _ _ _ _ _ _ _ _ c.time.ensures c.bytes.ensures.value c.get.ensures.units) (c.requires.new h st) (c.requires.run h st)
    g.D.Disk.disk shelf_view c.args.house.journal.disk terms c.args.out.now.items (outcomes.Done c.in-Done.house c.in-Done.receipt) named own (λ done. lines) (c.in-Done.ensures.exact h st) (c.in-Done.ensures.ran h st))

pub returns-in-Refused-clause-exact : goal.returns-in-Refused-clause-exact
returns-in-Refused-clause-exact g c h terms st own lines =
    let named = (same_house (limits_of c.args.house.bench) h _ st.house.represents.state.lawful).name in
    mint_enters (limits_of c.args.house.bench) h (house_time c.args.house.bench) c.args.reference.now c.args.count c.args.value c.args.first _
    (same_mint _ _ _ _ _ _ _ _ c.time.ensures c.bytes.ensures.value c.get.ensures.units) (c.requires.new h st) (c.requires.run h st)
    g.D.Disk.disk shelf_view c.args.house.journal.disk terms c.clear.new.self.items (outcomes.Refused c.in-Refused.house c.in-Refused.refusal) named own (λ done. absurd done) (c.in-Refused.ensures.exact h st) (c.in-Refused.ensures.ran h st)

pub returns-in-NoMemory-clause-exact : goal.returns-in-NoMemory-clause-exact
returns-in-NoMemory-clause-exact g c h terms st own lines =
    let named = (same_house (limits_of c.args.house.bench) h _ st.house.represents.state.lawful).name in
    mint_enters (limits_of c.args.house.bench) h (house_time c.args.house.bench) c.args.reference.now c.args.count c.args.value c.args.first _
    (same_mint _ _ _ _ _ _ _ _ c.time.ensures c.bytes.ensures.value c.get.ensures.units) (c.requires.new h st) (c.requires.run h st)
    g.D.Disk.disk shelf_view c.args.house.journal.disk terms c.clear-in-NoMemory.new.self.items (outcomes.NoMemory c.in-NoMemory.house) named own (λ done. absurd done) (c.in-NoMemory.ensures.exact h st) (c.in-NoMemory.ensures.ran h st)

pub returns-in-Halted-clause-exact : goal.returns-in-Halted-clause-exact
returns-in-Halted-clause-exact g c h terms st own lines =
    let named = (same_house (limits_of c.args.house.bench) h _ st.house.represents.state.lawful).name in
    mint_enters (limits_of c.args.house.bench) h (house_time c.args.house.bench) c.args.reference.now c.args.count c.args.value c.args.first _
    (same_mint _ _ _ _ _ _ _ _ c.time.ensures c.bytes.ensures.value c.get.ensures.units) (c.requires.new h st) (c.requires.run h st)
    g.D.Disk.disk shelf_view c.args.house.journal.disk terms c.clear-in-Halted.new.self.items (outcomes.Halted c.in-Halted.halted) named own (λ done. absurd done) (c.in-Halted.ensures.exact h st) (c.in-Halted.ensures.ran h st)

pub returns-in-Refused-clause-refusals : goal.returns-in-Refused-clause-refusals
returns-in-Refused-clause-refusals g c = c.in-Refused.ensures.refusals
