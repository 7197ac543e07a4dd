use Rattle.std.proofs.Common.{◌≡◌, ℕ, ◌≤◌, length, take, List, [], ◌∷◌, ◌++◌, refl, sym, ap, ◌∙◌, arith}
use Rattle.std.specs.Prelude.{codes}
use Rattle.std.proofs.Math.Seq.{take-append_seam}
use Rattle.scrip_form.specs.Issuing.{series_end}
use Rattle.mc_records.specs.Entry.{Note}
use Rattle.house_core.specs.Bench.{house_time, limits_of}
use Rattle.house_core.specs.declared.outcome.Outcome.TheVariants.{Done, Refused, NoMemory, Halted}
use Rattle.house_core.specs.Tasks.{Add}
use Rattle.house_core.proofs.RefusingLemmas.{among_more}
use Rattle.house_core.proofs.TaskLemmas.{refuses, stays, wants_memory}
use Rattle.settle_core.specs.declared.claim.Claim.{Claim}
use Rattle.settle_core.specs.Claims.{claim_text, statement_line}
use Rattle.counted_trade.specs.Counted.{counted_view}
use Rattle.counted_trade.specs.Tasks.{state_task, TellsStated}
use Rattle.counted_trade.proofs.TaskLemmas.{performs_as, no_terms, still_open, stands, is_due, due_task, is_doable, payment, tells_stated, some_amount, none_amount}
use Rattle.counted_trade.proofs.stating.state_series.Goals as goal

pub returns-in_default-clause-exact : goal.returns-in_default-clause-exact
returns-in_default-clause-exact g c h st =
    refuses g.D.Disk.disk (counted_view g.T.Trade.trade) _ (TellsStated h c.args.issuer c.args.epoch c.args.out.now.items c.args.out.now.items) (limits_of c.args.house.bench) c.args.house h (g.met.D.Disk.is_disk _) st _
    (no_terms h (house_time c.args.house.bench) c.args.issuer c.args.epoch (sym (c.in_default.ensures h st)))

pub returns-then-time-end-clause-exact : goal.returns-then-time-end-clause-exact
returns-then-time-end-clause-exact g c h st =
    refuses g.D.Disk.disk (counted_view g.T.Trade.trade) _ (TellsStated h c.args.issuer c.args.epoch c.args.out.now.items c.args.out.now.items) (limits_of c.args.house.bench) c.args.house h (g.met.D.Disk.is_disk _) st _
    (still_open h (house_time c.args.house.bench) c.args.issuer c.args.epoch c.in-Some.terms _ _ (sym (c.in-Some.ensures h st)) c.series_end-end.ensures (c.seconds-time.ensures.seconds ∙ c.time.ensures) c.if-time-end.true)

pub returns-in-Err-clause-exact : goal.returns-in-Err-clause-exact
returns-in-Err-clause-exact g c h st =
    let t = house_time c.args.house.bench in
    let late : series_end c.in-Some.terms c.args.epoch ≤ t = omega (arith, c.series_end-end.ensures, c.seconds-time.ensures.seconds, c.time.ensures, c.if-time-end.false) in
    wants_memory g.D.Disk.disk (counted_view g.T.Trade.trade) _ (TellsStated h c.args.issuer c.args.epoch c.args.out.now.items _) (limits_of c.args.house.bench) c.args.house h (g.met.D.Disk.is_disk _) st
    (state_task h t c.args.issuer c.args.epoch) (is_doable h t c.args.issuer c.args.epoch c.in-Some.terms (sym (c.in-Some.ensures h st)) late) refl

pub returns-then-is_some-clause-exact : goal.returns-then-is_some-clause-exact
returns-then-is_some-clause-exact g c h st =
    let t = house_time c.args.house.bench in
    let some = sym (c.in-Some.ensures h st) in
    let counts = c.counts.ensures h (c.trade-2.ensures h st) in
    let amount = c.redeemed-amount.ensures h (c.trade.ensures h st) in
    let late : series_end c.in-Some.terms c.args.epoch ≤ t = omega (arith, c.series_end-end.ensures, c.seconds-time.ensures.seconds, c.time.ensures, c.if-time-end.false) in
    let stated = some_amount c.stated.result (sym c.if-is_some.ensures) in
    stays g.D.Disk.disk (counted_view g.T.Trade.trade) _ (TellsStated h c.args.issuer c.args.epoch c.args.out.now.items c.append_statement.new.out.items) (limits_of c.args.house.bench) c.args.house h (g.met.D.Disk.is_disk _) st _
    (stands h t c.args.issuer c.args.epoch stated.0 c.in-Some.terms some late (sym (c.stated.ensures h counts) ∙ stated.1))
    (tells_stated h c.args.issuer c.args.epoch c.args.out.now.items c.append_statement.new.out.items _ h c.in-Some.terms c.name.result c.redeemed-amount.result some (c.name.ensures h st) amount c.in-Ok.ensures.ok)

-- what there is to do where nothing was stated
pub note_claim-requires-clause-due : goal.note_claim-requires-clause-due
note_claim-requires-clause-due g c h st =
    let t = house_time c.args.house.bench in
    let counts = c.counts.ensures h (c.trade-2.ensures h st) in
    let late : series_end c.in-Some.terms c.args.epoch ≤ t = omega (arith, c.series_end-end.ensures, c.seconds-time.ensures.seconds, c.time.ensures, c.if-time-end.false) in
    is_due h t c.args.issuer c.args.epoch c.redeemed-amount.result c.in-Some.terms (sym (c.in-Some.ensures h st)) late
    (sym (c.stated.ensures h counts) ∙ none_amount c.stated.result (sym c.if-is_some.ensures)) (c.redeemed-amount.ensures h (c.trade.ensures h st))

pub returns-in-Done-clause-exact : goal.returns-in-Done-clause-exact
returns-in-Done-clause-exact g c h st =
    let t = house_time c.args.house.bench in
    let some = sym (c.in-Some.ensures h st) in
    let amount = c.redeemed-amount.ensures h (c.trade.ensures h st) in
    let claim : Claim = record { issuer = c.args.issuer; epoch = c.args.epoch; amount = c.redeemed-amount.result } in
    let counts = c.counts.ensures h (c.trade-2.ensures h st) in
    let late : series_end c.in-Some.terms c.args.epoch ≤ t = omega (arith, c.series_end-end.ensures, c.seconds-time.ensures.seconds, c.time.ensures, c.if-time-end.false) in
    let due = is_due h t c.args.issuer c.args.epoch c.redeemed-amount.result c.in-Some.terms some late
    (sym (c.stated.ensures h counts) ∙ none_amount c.stated.result (sym c.if-is_some.ensures)) amount in
    performs_as g.D.Disk.disk (counted_view g.T.Trade.trade) (λ task. task ≡ Add (Note t (codes "stated") (claim_text claim))) (λ task. task ≡ state_task h t c.args.issuer c.args.epoch)
    (λ task k told. told ≡ c.redeemed-amount.result) (TellsStated h c.args.issuer c.args.epoch c.args.out.now.items c.append_statement.new.out.items)
    (limits_of c.args.house.bench) c.args.house.journal.disk h (Done c.in-Done.house c.in-Done.amount)
    (λ task is. is ∙ due_task h t c.args.issuer c.args.epoch claim due)
    (λ done task k told is. tells_stated h c.args.issuer c.args.epoch c.args.out.now.items c.append_statement.new.out.items task k c.in-Some.terms c.name.result told some (c.name.ensures h st) (is ∙ amount)
    (c.in-Ok.ensures.ok ∙ ap (λ (n : ℕ). c.args.out.now.items ++ statement_line c.in-Some.terms (payment c.name.result c.args.issuer c.args.epoch n)) (sym is)))
    (c.in-Done.ensures.exact h st)

pub returns-in-Refused-clause-exact : goal.returns-in-Refused-clause-exact
returns-in-Refused-clause-exact g c h st =
    let t = house_time c.args.house.bench in
    let some = sym (c.in-Some.ensures h st) in
    let claim : Claim = record { issuer = c.args.issuer; epoch = c.args.epoch; amount = c.redeemed-amount.result } in
    let counts = c.counts.ensures h (c.trade-2.ensures h st) in
    let late : series_end c.in-Some.terms c.args.epoch ≤ t = omega (arith, c.series_end-end.ensures, c.seconds-time.ensures.seconds, c.time.ensures, c.if-time-end.false) in
    let due = is_due h t c.args.issuer c.args.epoch c.redeemed-amount.result c.in-Some.terms some late
    (sym (c.stated.ensures h counts) ∙ none_amount c.stated.result (sym c.if-is_some.ensures)) (c.redeemed-amount.ensures h (c.trade.ensures h st)) in
    performs_as g.D.Disk.disk (counted_view g.T.Trade.trade) (λ task. task ≡ Add (Note t (codes "stated") (claim_text claim))) (λ task. task ≡ state_task h t c.args.issuer c.args.epoch)
    (λ task k told. told ≡ c.redeemed-amount.result) (TellsStated h c.args.issuer c.args.epoch c.args.out.now.items c.truncate.new.self.items)
    (limits_of c.args.house.bench) c.args.house.journal.disk h (Refused c.in-Refused.house c.in-Refused.refusal)
    (λ task is. is ∙ due_task h t c.args.issuer c.args.epoch claim due) (λ done. absurd done) (c.in-Refused.ensures.exact h st)

pub returns-in-NoMemory-clause-exact : goal.returns-in-NoMemory-clause-exact
returns-in-NoMemory-clause-exact g c h st =
    let t = house_time c.args.house.bench in
    let some = sym (c.in-Some.ensures h st) in
    let claim : Claim = record { issuer = c.args.issuer; epoch = c.args.epoch; amount = c.redeemed-amount.result } in
    let counts = c.counts.ensures h (c.trade-2.ensures h st) in
    let late : series_end c.in-Some.terms c.args.epoch ≤ t = omega (arith, c.series_end-end.ensures, c.seconds-time.ensures.seconds, c.time.ensures, c.if-time-end.false) in
    let due = is_due h t c.args.issuer c.args.epoch c.redeemed-amount.result c.in-Some.terms some late
    (sym (c.stated.ensures h counts) ∙ none_amount c.stated.result (sym c.if-is_some.ensures)) (c.redeemed-amount.ensures h (c.trade.ensures h st)) in
    performs_as g.D.Disk.disk (counted_view g.T.Trade.trade) (λ task. task ≡ Add (Note t (codes "stated") (claim_text claim))) (λ task. task ≡ state_task h t c.args.issuer c.args.epoch)
    (λ task k told. told ≡ c.redeemed-amount.result) (TellsStated h c.args.issuer c.args.epoch c.args.out.now.items c.truncate-in-NoMemory.new.self.items)
    (limits_of c.args.house.bench) c.args.house.journal.disk h (NoMemory c.in-NoMemory.house)
    (λ task is. is ∙ due_task h t c.args.issuer c.args.epoch claim due) (λ done. absurd done) (c.in-NoMemory.ensures.exact h st)

pub returns-in-Halted-clause-exact : goal.returns-in-Halted-clause-exact
returns-in-Halted-clause-exact g c h st =
    let t = house_time c.args.house.bench in
    let some = sym (c.in-Some.ensures h st) in
    let claim : Claim = record { issuer = c.args.issuer; epoch = c.args.epoch; amount = c.redeemed-amount.result } in
    let counts = c.counts.ensures h (c.trade-2.ensures h st) in
    let late : series_end c.in-Some.terms c.args.epoch ≤ t = omega (arith, c.series_end-end.ensures, c.seconds-time.ensures.seconds, c.time.ensures, c.if-time-end.false) in
    let due = is_due h t c.args.issuer c.args.epoch c.redeemed-amount.result c.in-Some.terms some late
    (sym (c.stated.ensures h counts) ∙ none_amount c.stated.result (sym c.if-is_some.ensures)) (c.redeemed-amount.ensures h (c.trade.ensures h st)) in
    performs_as g.D.Disk.disk (counted_view g.T.Trade.trade) (λ task. task ≡ Add (Note t (codes "stated") (claim_text claim))) (λ task. task ≡ state_task h t c.args.issuer c.args.epoch)
    (λ task k told. told ≡ c.redeemed-amount.result) (TellsStated h c.args.issuer c.args.epoch c.args.out.now.items c.truncate-in-Halted.new.self.items)
    (limits_of c.args.house.bench) c.args.house.journal.disk h (Halted c.in-Halted.halted)
    (λ task is. is ∙ due_task h t c.args.issuer c.args.epoch claim due) (λ done. absurd done) (c.in-Halted.ensures.exact h st)

pub returns-in-Refused-clause-refusals : goal.returns-in-Refused-clause-refusals
returns-in-Refused-clause-refusals g c = among_more (33 ∷ []) (33 ∷ 71 ∷ 74 ∷ []) c.in-Refused.refusal refl c.in-Refused.ensures.refusals

pub returns-in-Err-clause-back : goal.returns-in-Err-clause-back
returns-in-Err-clause-back g c = record { moved' = g.met.D.Disk.disk_stays c.args.house.journal.disk; keeps = record { time = refl; limits = refl }; counts = refl }

pub returns-then-is_some-clause-back : goal.returns-then-is_some-clause-back
returns-then-is_some-clause-back g c = record { moved' = g.met.D.Disk.disk_stays c.args.house.journal.disk; keeps = record { time = refl; limits = refl }; counts = refl }

-- what was appended is taken away
cut : (before mid : List ℕ) (line : List ℕ) (n : ℕ) → mid ≡ before ++ line → n ≡ length before → take n mid ≡ before
cut before mid line n is many = ap (λ (xs : List ℕ). take n xs) is ∙ ap (λ (k : ℕ). take k (before ++ line)) many ∙ take-append_seam before line

pub returns-in-Refused-clause-kept : goal.returns-in-Refused-clause-kept
returns-in-Refused-clause-kept g c =
    c.truncate.ensures.items ∙ cut c.args.out.now.items c.append_statement.new.out.items _ c.len-before.result c.in-Ok.ensures.ok (omega (arith, c.len-before.ensures, c.args.out.now.ok))

pub returns-in-NoMemory-clause-kept : goal.returns-in-NoMemory-clause-kept
returns-in-NoMemory-clause-kept g c =
    c.truncate-in-NoMemory.ensures.items ∙ cut c.args.out.now.items c.append_statement.new.out.items _ c.len-before.result c.in-Ok.ensures.ok (omega (arith, c.len-before.ensures, c.args.out.now.ok))
