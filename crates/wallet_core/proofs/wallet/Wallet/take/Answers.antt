use Rattle.std.proofs.Common.{◌≡◌, ◌∙◌, ℕ, List, Ok, Err, sym, ap₂}
use Rattle.mc_records.specs.Entry.{Entry, Held, Got}
use Rattle.mc_records.specs.PieceViews.{pieces_of}
use Rattle.wallet_core.specs.Taking.{take_entry}
use Rattle.wallet_core.specs.declared.outcome.WalletOut.TheVariants.{Refused}
use Rattle.wallet_core.specs.Answers.{TellsCount, Any, IsFull, MayTake}
use Rattle.wallet_core.proofs.OutcomeLaws.{performs_as, after_memory, refuses, wants_memory, tells_more, full_take, take_may}
use Rattle.wallet_core.proofs.wallet.Wallet.take.Goals as goal

pub returns-in-Ok-clause-exact : goal.returns-in-Ok-clause-exact
returns-in-Ok-clause-exact g c = rw (← c.self.view_is) (λ h st.
    let todo = take_entry h c.self.inside.book.time c.args.lines.now in
    let taken = c.in-Ok.ensures.exact h st.book in
    let pieces = pieces_of c.taken_list-pieces.result in
    let same : pieces ≡ taken.elements.pieces = c.taken_list-pieces.ensures taken.elements.pieces taken.elements.are (c.slice.ensures ∙ taken.elements.spelled) in
    let is : todo ≡ Ok (Got c.time.result pieces) = taken.entry ∙ ap₂ (λ (t : ℕ) (ps : List Held). Ok (Got t ps)) (sym c.time.ensures) (sym same) in
    after_memory g.D.Disk.disk (record { journal = c.self.inside.journal; book = c.self.inside.book }) h todo TellsCount c.enter.result
    (performs_as g.D.Disk.disk (record { journal = c.self.inside.journal; book = c.self.inside.book }) h (Got c.time.result pieces) todo (λ (e : Entry) (a : ℕ). a ≡ c.count.result) TellsCount c.enter.result
    is (λ a told. told ∙ c.count.ensures.count) ((rw (← c.self.view_is) at c.enter.ensures.exact) h st)))

pub returns-in-Err-Refused-clause-exact : goal.returns-in-Err-Refused-clause-exact
returns-in-Err-Refused-clause-exact g c = rw (← c.self.view_is) (λ h st.
    let todo = take_entry h c.self.inside.book.time c.args.lines.now in
    let is : todo ≡ Err c.in-Err-Refused.refusal = rw c.in-Err-Refused.field-0-is at (c.in-Err-Refused.ensures.exact h st.book) in
    after_memory g.D.Disk.disk (record { journal = c.self.inside.journal; book = c.self.inside.book }) h todo TellsCount (Refused (record { journal = c.self.inside.journal; book = c.self.inside.book }) c.in-Err-Refused.refusal)
    (refuses g.D.Disk.disk (record { journal = c.self.inside.journal; book = c.self.inside.book }) h TellsCount (g.met.D.Disk.is_disk c.self.inside.journal.disk) st todo c.in-Err-Refused.refusal is))

pub returns-in-Err-NoMemory-clause-exact : goal.returns-in-Err-NoMemory-clause-exact
returns-in-Err-NoMemory-clause-exact g c = rw (← c.self.view_is) (λ h st.
    wants_memory g.D.Disk.disk (record { journal = c.self.inside.journal; book = c.self.inside.book }) h TellsCount (g.met.D.Disk.is_disk c.self.inside.journal.disk) st (take_entry h c.self.inside.book.time c.args.lines.now))

pub returns-in-Ok-clause-refused : goal.returns-in-Ok-clause-refused
returns-in-Ok-clause-refused g c = tells_more IsFull MayTake (λ (a : ℕ). a ≡ c.count.result) Any c.enter.result full_take (λ a told. tt) c.enter.ensures.told

pub returns-in-Err-Refused-clause-refused : goal.returns-in-Err-Refused-clause-refused
returns-in-Err-Refused-clause-refused g c = take_may c.in-Err-Refused.refusal (rw c.in-Err-Refused.field-0-is at c.in-Err-Refused.ensures.refused)
