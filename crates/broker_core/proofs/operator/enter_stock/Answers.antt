use Rattle.std.proofs.Common.{◌≡◌, ℕ, ◌≤◌, ◌∙◌, length, sym, ap, arith, List, Result, Ok}
use Rattle.mc_records.specs.Entry.{Entry, Held, Stock}
use Rattle.mc_records.specs.PieceViews.{pieces_of}
use Rattle.ledger_model.specs.Histories.{time}
use Rattle.house_core.specs.Bench.{house_time, limits_of}
use Rattle.house_core.specs.declared.outcome.Outcome.TheVariants.{Done, Refused, NoMemory, Halted}
use Rattle.house_core.specs.Tasks.{Task, Add}
use Rattle.house_core.proofs.TaskLemmas.{enters}
use Rattle.broker_core.specs.Desk.{desk_view}
use Rattle.broker_core.specs.Tasks.{stock_lines, stock_task, pieces_in, TellsCount}
use Rattle.piece_lines.specs.Rules.{is_stock_of}
use Rattle.broker_core.proofs.StockLemmas.{some_of, read_pieces, stock_added, stock_may_follow, same_stock}
use Rattle.broker_core.proofs.operator.enter_stock.Goals as goal

pub unwrap-pieces-requires : goal.unwrap-pieces-requires
unwrap-pieces-requires g c =
    let r = c.requires.read in
    let are = c.lines_are_of_pieces.ensures (is_stock_of c.args.vendor.now) c.args.lines.now r.pieces r.read in
    some_of c.read.result _ (c.read.ensures.only r.pieces are r.elements')

pub enter-requires-clause-may : goal.enter-requires-clause-may
enter-requires-clause-may g c h st =
    let r = c.requires.read in
    let are = c.lines_are_of_pieces.ensures (is_stock_of c.args.vendor.now) c.args.lines.now r.pieces r.read in
    let same : pieces_of c.unwrap-pieces.result ≡ r.pieces = read_pieces c.read.result c.unwrap-pieces.result r.pieces c.unwrap-pieces.ensures (c.read.ensures.only r.pieces are r.elements') in
    let order : time h ≤ c.time.result = omega (arith, st.house.represents.state.in_time, c.time.ensures) in
    let read = r.read ∙ ap (λ (ps : List Held). read_as ps) (sym same) in
    rw c.bytes.ensures.value (stock_may_follow (limits_of c.args.house.bench) h c.time.result c.args.vendor.now c.args.lines.now (pieces_of c.unwrap-pieces.result) order st.house.represents.of_kind (c.requires.new h st) read)
  where
    read_as : List Held → Result (List Held) ℕ
    read_as ps = Ok ps

pub returns-in-Done-clause-exact : goal.returns-in-Done-clause-exact
returns-in-Done-clause-exact g c h st =
    let r = c.requires.read in
    let are = c.lines_are_of_pieces.ensures (is_stock_of c.args.vendor.now) c.args.lines.now r.pieces r.read in
    let same : pieces_of c.unwrap-pieces.result ≡ r.pieces = read_pieces c.read.result c.unwrap-pieces.result r.pieces c.unwrap-pieces.ensures (c.read.ensures.only r.pieces are r.elements') in
    let e : Entry = Stock c.time.result c.bytes.result.now (pieces_of c.unwrap-pieces.result) in
    let counted : c.count.result ≡ length (pieces_in (stock_lines c.args.vendor.now c.args.lines.now)) = c.count.ensures.count ∙ ap length (same ∙ sym (ap pieces_in r.read)) in
    let asks : Add e ≡ stock_task h (house_time c.args.house.bench) c.args.vendor.now c.args.lines.now =
    ap (λ (x : Entry). Add x) (same_stock c.time.ensures c.bytes.ensures.value (same ∙ sym (ap pieces_in r.read))) ∙ stock_added h (house_time c.args.house.bench) c.args.vendor.now c.args.lines.now (c.requires.new h st) in
    enters g.D.Disk.disk desk_view (λ (task : Task). task ≡ stock_task h (house_time c.args.house.bench) c.args.vendor.now c.args.lines.now) (TellsCount c.args.vendor.now c.args.lines.now)
    (limits_of c.args.house.bench) (λ n. c.count.result) c.args.house.journal.disk h e (Done c.in-Done.house c.in-Done.field-1) asks (λ done n is. counted) (c.in-Done.ensures.exact h st) (c.in-Done.ensures.ran h st)

pub returns-in-Refused-clause-exact : goal.returns-in-Refused-clause-exact
returns-in-Refused-clause-exact g c h st =
    let r = c.requires.read in
    let are = c.lines_are_of_pieces.ensures (is_stock_of c.args.vendor.now) c.args.lines.now r.pieces r.read in
    let same : pieces_of c.unwrap-pieces.result ≡ r.pieces = read_pieces c.read.result c.unwrap-pieces.result r.pieces c.unwrap-pieces.ensures (c.read.ensures.only r.pieces are r.elements') in
    let e : Entry = Stock c.time.result c.bytes.result.now (pieces_of c.unwrap-pieces.result) in
    let asks : Add e ≡ stock_task h (house_time c.args.house.bench) c.args.vendor.now c.args.lines.now =
    ap (λ (x : Entry). Add x) (same_stock c.time.ensures c.bytes.ensures.value (same ∙ sym (ap pieces_in r.read))) ∙ stock_added h (house_time c.args.house.bench) c.args.vendor.now c.args.lines.now (c.requires.new h st) in
    enters g.D.Disk.disk desk_view (λ (task : Task). task ≡ stock_task h (house_time c.args.house.bench) c.args.vendor.now c.args.lines.now) (TellsCount c.args.vendor.now c.args.lines.now)
    (limits_of c.args.house.bench) (λ n. 0) c.args.house.journal.disk h e (Refused c.in-Refused.house c.in-Refused.refusal) asks (λ done. absurd done) (c.in-Refused.ensures.exact h st) (c.in-Refused.ensures.ran h st)

pub returns-in-NoMemory-clause-exact : goal.returns-in-NoMemory-clause-exact
returns-in-NoMemory-clause-exact g c h st =
    let r = c.requires.read in
    let are = c.lines_are_of_pieces.ensures (is_stock_of c.args.vendor.now) c.args.lines.now r.pieces r.read in
    let same : pieces_of c.unwrap-pieces.result ≡ r.pieces = read_pieces c.read.result c.unwrap-pieces.result r.pieces c.unwrap-pieces.ensures (c.read.ensures.only r.pieces are r.elements') in
    let e : Entry = Stock c.time.result c.bytes.result.now (pieces_of c.unwrap-pieces.result) in
    let asks : Add e ≡ stock_task h (house_time c.args.house.bench) c.args.vendor.now c.args.lines.now =
    ap (λ (x : Entry). Add x) (same_stock c.time.ensures c.bytes.ensures.value (same ∙ sym (ap pieces_in r.read))) ∙ stock_added h (house_time c.args.house.bench) c.args.vendor.now c.args.lines.now (c.requires.new h st) in
    enters g.D.Disk.disk desk_view (λ (task : Task). task ≡ stock_task h (house_time c.args.house.bench) c.args.vendor.now c.args.lines.now) (TellsCount c.args.vendor.now c.args.lines.now)
    (limits_of c.args.house.bench) (λ n. 0) c.args.house.journal.disk h e (NoMemory c.in-NoMemory.house) asks (λ done. absurd done) (c.in-NoMemory.ensures.exact h st) (c.in-NoMemory.ensures.ran h st)

pub returns-in-Halted-clause-exact : goal.returns-in-Halted-clause-exact
returns-in-Halted-clause-exact g c h st =
    let r = c.requires.read in
    let are = c.lines_are_of_pieces.ensures (is_stock_of c.args.vendor.now) c.args.lines.now r.pieces r.read in
    let same : pieces_of c.unwrap-pieces.result ≡ r.pieces = read_pieces c.read.result c.unwrap-pieces.result r.pieces c.unwrap-pieces.ensures (c.read.ensures.only r.pieces are r.elements') in
    let e : Entry = Stock c.time.result c.bytes.result.now (pieces_of c.unwrap-pieces.result) in
    let asks : Add e ≡ stock_task h (house_time c.args.house.bench) c.args.vendor.now c.args.lines.now =
    ap (λ (x : Entry). Add x) (same_stock c.time.ensures c.bytes.ensures.value (same ∙ sym (ap pieces_in r.read))) ∙ stock_added h (house_time c.args.house.bench) c.args.vendor.now c.args.lines.now (c.requires.new h st) in
    enters g.D.Disk.disk desk_view (λ (task : Task). task ≡ stock_task h (house_time c.args.house.bench) c.args.vendor.now c.args.lines.now) (TellsCount c.args.vendor.now c.args.lines.now)
    (limits_of c.args.house.bench) (λ n. 0) c.args.house.journal.disk h e (Halted c.in-Halted.halted) asks (λ done. absurd done) (c.in-Halted.ensures.exact h st) (c.in-Halted.ensures.ran h st)

pub returns-in-Refused-clause-refusals : goal.returns-in-Refused-clause-refusals
returns-in-Refused-clause-refusals g c = c.in-Refused.ensures.refusals
