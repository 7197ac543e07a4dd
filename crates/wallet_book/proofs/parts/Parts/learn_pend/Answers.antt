use Rattle.std.proofs.Common.{List, Option, sym, subst}
use Rattle.std.specs.Borrow.{Bor}
use Rattle.std.proofs.Common.{ℕ}
use Rattle.mc_records.specs.Entry.{Pend}
use Rattle.mc_requests.specs.Requests.{seen}
use Rattle.wallet_book.specs.Parts.{LearnsEntry}
use Rattle.wallet_book.proofs.parts.Parts.learn_pend.Goals as goal

pub returns-in-Some : goal.returns-in-Some
returns-in-Some c = λ h m book is number.
    let P : Option (Bor (List ℕ)) → Type 0 = λ o. LearnsEntry c.learn_payment.new.self.holdings.list c.learn_payment.new.self.kept.items h (Pend m c.args.ask c.args.peer.now c.args.target.now (seen o) c.args.secret) c.learn_payment.result in
    subst P (sym c.in-Some.is) (c.learn_payment.ensures h m book is number)

pub returns-in-None : goal.returns-in-None
returns-in-None c = λ h m book is number.
    let P : Option (Bor (List ℕ)) → Type 0 = λ o. LearnsEntry c.learn_draw.new.self.holdings.list c.learn_draw.new.self.kept.items h (Pend m c.args.ask c.args.peer.now c.args.target.now (seen o) c.args.secret) c.learn_draw.result in
    subst P (sym c.in-None.is) (c.learn_draw.ensures h m book is number)
