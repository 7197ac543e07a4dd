use Rattle.std.proofs.Common.{true, List, None, refl, sym, subst}
use Rattle.mc_records.specs.Entry.{Pend}
use Rattle.wallet_book.specs.declared.holding.Holding.{Holding}
use Rattle.wallet_book.specs.declared.kept.Kept.{Kept}
use Rattle.wallet_book.specs.Parts.{LearnsEntry}
use Rattle.wallet_book.proofs.LearnLaws.{learns_draw, no_draw, low_draw}
use Rattle.wallet_book.proofs.parts.Parts.learn_draw.Goals as goal

pub returns-then-ask-lt2 : goal.returns-then-ask-lt2
returns-then-ask-lt2 c = λ h m book is number. low_draw h c.args.ask c.args.peer.now c.args.target.now c.if-ask-lt2.true

pub returns-then-not-asks_to_draw : goal.returns-then-not-asks_to_draw
returns-then-not-asks_to_draw c = λ h m book is number. no_draw h c.args.ask c.args.peer.now c.args.target.now (sym c.if-not-asks_to_draw.ensures)

pub returns : goal.returns
returns c = λ h m book is number.
    let xs : List Holding = c.args.self.now.holdings.list in
    let ks : List Kept = c.args.self.now.kept.items in
    let k : Kept = record { number = c.args.number; ask = c.args.ask; peer = c.args.peer.now; target = c.args.target.now; place = None; secret = c.args.secret } in
    let Q : List Kept → Type 0 = λ js. LearnsEntry xs js h (Pend m c.args.ask c.args.peer.now c.args.target.now None c.args.secret) true in
    subst Q (sym c.keep.ensures) (learns_draw h xs ks m k book is (sym number) refl c.if-ask-lt2.false (sym c.if-not-asks_to_draw.ensures))
