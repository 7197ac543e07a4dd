use Rattle.std.proofs.Common.{true, List, [], ◌∷◌, ◌++◌, Some, refl, sym, subst}
use Rattle.mc_records.specs.Entry.{Pend}
use Rattle.wallet_book.specs.declared.holding.Holding.{Holding}
use Rattle.wallet_book.specs.declared.kept.Kept.{Kept}
use Rattle.wallet_book.specs.Parts.{LearnsEntry}
use Rattle.wallet_book.proofs.EntryLaws.{own_apart}
use Rattle.wallet_book.proofs.LearnLaws.{learns_payment, no_payment}
use Rattle.wallet_book.proofs.parts.Parts.learn_payment.Goals as goal

pub returns-in-None : goal.returns-in-None
returns-in-None c = λ h m book is number.
    let xs : List Holding = c.args.self.now.holdings.list in
    no_payment h xs c.args.self.now.kept.items c.args.ask c.args.peer.now c.args.target.now c.args.text.now is (c.in-None.ensures (own_apart h xs book is.pieces))

pub returns : goal.returns
returns c = λ h m book is number.
    let xs : List Holding = c.args.self.now.holdings.list in
    let ks : List Kept = c.args.self.now.kept.items in
    let k : Kept = record { number = c.args.number; ask = c.args.ask; peer = c.args.peer.now; target = c.args.target.now; place = Some c.in-Some.place; secret = c.args.secret } in
    let e = Pend m c.args.ask c.args.peer.now c.args.target.now (Some c.args.text.now) c.args.secret in
    let all = learns_payment h xs ks c.in-Some.place m c.args.text.now k book is c.as_slice-pieces.ensures.spelled (sym number) refl (c.in-Some.ensures (own_apart h xs book is.pieces)) in
    let P : List Holding → Type 0 = λ ys. LearnsEntry ys (ks ++ k ∷ []) h e true in
    let Q : List Kept → Type 0 = λ js. LearnsEntry c.put_in_state.new.holdings.list js h e true in
    subst Q (sym c.keep.ensures) (subst P (sym c.put_in_state.ensures.list) all)
