use Rattle.std.proofs.Common.{sym}
use Rattle.wallet_book.proofs.LearnLaws.{none_refused, refused_as}
use Rattle.wallet_book.proofs.parts.Parts.learn_refused.Goals as goal

pub returns-in-None : goal.returns-in-None
returns-in-None c = λ h m book is.
    none_refused h c.args.self.now.holdings.list c.settle.new.self.holdings.list c.args.self.now.kept.items c.settle.new.self.kept.items c.args.number m c.args.refusal is (sym c.in-None.ensures.found)

pub returns-in-Some : goal.returns-in-Some
returns-in-Some c = λ h m book is.
    refused_as h c.args.self.now.holdings.list c.settle.new.self.holdings.list c.args.self.now.kept.items c.settle.new.self.kept.items c.args.number m c.args.refusal c.in-Some.field-0 c.refused_state.result
    book is c.as_slice-pieces.ensures.spelled (sym c.in-Some.ensures.found) c.refused_state.ensures c.in-Some.ensures.pieces c.in-Some.ensures.kept
