use Rattle.std.proofs.Common.{◌≡◌, ◌+◌, ◌<◌, ◌≤◌, ◌^◌, inl, inr, refl, sym, ap, ◌∙◌, arith, rules, [], ◌∷◌}
use Rattle.mc_records.specs.Entry.{Mint}
use Rattle.ledger_model.specs.Houses.{site_name, own_series, version}
use Rattle.ledger_model.specs.Pieces.{next_identity, own_count}
use Rattle.house_core.specs.Bench.{house_time, limits_of}
use Rattle.house_core.specs.Tasks.{Add, Stays}
use Rattle.house_core.proofs.TaskLemmas.{refuses, stays, wants_memory}
use Rattle.vendor_core.specs.Shelf.{shelf_view}
use Rattle.vendor_core.specs.Tasks.{IsMintAt, IsUsed}
use Rattle.vendor_core.specs.Lines.{piece_lines}
use Rattle.vendor_core.proofs.LineLemmas.{lines_of_mint, earlier_mint, run_in_range}
use Rattle.house_core.proofs.RefusingLemmas.{among_more, refused_more}
use Rattle.vendor_core.proofs.operator.mint.Goals as goal
use Rattle.vendor_core.proofs.operator.mint.Goals.{then-minted-count-via-then-minted-count, then-minted-count-via-else-minted-count+then-minted-get}

pub returns-then-minted-count-clause-exact : goal.returns-then-minted-count-clause-exact
returns-then-minted-count-clause-exact g c h st =
    let is = rw c.bytes.ensures.value at (c.in-Some.ensures h (c.trade.ensures h st)) in
    let other : (c.in-Some.minted.count ≡ c.args.count) × (c.in-Some.minted.value ≡ c.args.value) → ⊥ =
    elim c.then-minted-count.branch [
      | then-minted-count-via-then-minted-count w ↦ λ both. w.if-minted-count.true both.0
      | then-minted-count-via-else-minted-count+then-minted-get w ↦ λ both. w.if-minted-get.true (both.1 ∙ sym w.get.ensures.units)
    ] in
    let used : IsUsed h c.args.reference.now c.args.count c.args.value = record {
      number = c.in-Some.minted.number;
      count' = c.in-Some.minted.count;
      value' = c.in-Some.minted.value;
      mint = record { moment = is.0; first = c.in-Some.minted.first; entry = is.1 };
      other = other;
    } in
    refuses g.D.Disk.disk shelf_view _ _ (limits_of c.args.house.bench) c.args.house h (g.met.D.Disk.is_disk _) st _ (inl (used, refl))

pub returns-in-Ok-clause-exact : goal.returns-in-Ok-clause-exact
returns-in-Ok-clause-exact g c h st =
    let is = rw c.bytes.ensures.value at (c.in-Some.ensures h (c.trade.ensures h st)) in
    let entry = rw (c.if-minted-count.false, c.if-minted-get.false ∙ c.get.ensures.units) at is.1 in
    let number = c.in-Some.minted.number in
    let at : IsMintAt h c.args.reference.now c.args.count c.args.value number = record { moment = is.0; first = c.in-Some.minted.first; entry = entry } in
    let state = st.house.represents.state in
    let own = state.own_terms in
    let earlier = earlier_mint (limits_of c.args.house.bench) h number is.0 c.args.reference.now c.args.count c.args.value c.in-Some.minted.first
    state.limits.series_most state.lawful st.journal.stands.fits st.house.represents.of_kind entry in
    let terms = c.args.house.bench.state.own.terms in
    let lines = c.in-Ok.ensures.lines h terms st own earlier.fits ∙ ap (piece_lines (version h (site_name h)) terms) (sym earlier.run) in
    stays g.D.Disk.disk shelf_view _ _ (limits_of c.args.house.bench) c.args.house h (g.met.D.Disk.is_disk _) st _ (number, at)
    (at, lines ∙ sym (lines_of_mint h c.args.house.bench.state.own.terms number is.0 c.args.reference.now c.args.count c.args.value c.in-Some.minted.first own entry))

pub returns-in-Err-clause-exact : goal.returns-in-Err-clause-exact
returns-in-Err-clause-exact g c h st =
    let is = rw c.bytes.ensures.value at (c.in-Some.ensures h (c.trade.ensures h st)) in
    let entry = rw (c.if-minted-count.false, c.if-minted-get.false ∙ c.get.ensures.units) at is.1 in
    wants_memory g.D.Disk.disk shelf_view _ _ (limits_of c.args.house.bench) c.args.house h (g.met.D.Disk.is_disk _) st Stays tt
    (c.in-Some.minted.number, record { moment = is.0; first = c.in-Some.minted.first; entry = entry })

pub returns-in-Err-next_run-clause-exact : goal.returns-in-Err-next_run-clause-exact
returns-in-Err-next_run-clause-exact g c h st =
    let new = rw c.bytes.ensures.value at (c.in_default.ensures h (c.trade.ensures h st)) in
    let run = c.in-Err-next_run.ensures.exact h st in
    refuses g.D.Disk.disk shelf_view _ _ (limits_of c.args.house.bench) c.args.house h (g.met.D.Disk.is_disk _) st _ (inr (new, run.1, run.0))

pub returns-in-Err-put_lines-clause-exact : goal.returns-in-Err-put_lines-clause-exact
returns-in-Err-put_lines-clause-exact g c h st =
    let t = house_time c.args.house.bench in
    let new = rw c.bytes.ensures.value at (c.in_default.ensures h (c.trade.ensures h st)) in
    let run = c.in-Ok-next_run.ensures.exact h st in
    wants_memory g.D.Disk.disk shelf_view _ _ (limits_of c.args.house.bench) c.args.house h (g.met.D.Disk.is_disk _) st
    (Add (Mint t c.args.reference.now c.args.count c.args.value (next_identity h (own_series h t)))) tt (new, run.1, refl)

pub returns-in-Ok-put_lines-clause-exact : goal.returns-in-Ok-put_lines-clause-exact
returns-in-Ok-put_lines-clause-exact g c h st =
    let state = st.house.represents.state in
    let series = own_series h (house_time c.args.house.bench) in
    let run = c.in-Ok-next_run.ensures.exact h st in
    let long : c.in-Ok-next_run.first < 2 ^ 64 = search rules in
    let few : own_count h series + c.args.count ≤ 2 ^ 32 = omega (arith, run.1, state.limits.series_most) in
    let fits = run_in_range series (own_count h series) c.args.count c.in-Ok-next_run.first run.0 few long in
    let lines = c.in-Ok-put_lines.ensures.lines h c.args.house.bench.state.own.terms st state.own_terms fits in
    c.enter_mint.ensures.exact h c.args.house.bench.state.own.terms st state.own_terms lines

pub returns-in-Err-next_run-clause-refusals : goal.returns-in-Err-next_run-clause-refusals
returns-in-Err-next_run-clause-refusals g c = among_more (32 ∷ []) (32 ∷ 33 ∷ 56 ∷ []) _ refl c.in-Err-next_run.ensures.refusals

pub returns-in-Ok-put_lines-clause-refusals : goal.returns-in-Ok-put_lines-clause-refusals
returns-in-Ok-put_lines-clause-refusals g c = refused_more (33 ∷ []) (32 ∷ 33 ∷ 56 ∷ []) c.enter_mint.result refl c.enter_mint.ensures.refusals
