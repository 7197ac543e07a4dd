use Rattle.mc_records.specs.PieceViews.{pieces_of}
use Rattle.wallet_book.proofs.LearnLaws.{learns_got}
use Rattle.wallet_book.proofs.parts.Parts.learn_got.Goals as goal

pub returns : goal.returns
returns c = λ h m book is.
    learns_got h c.args.self.now.holdings.list c.bring_all.new.holdings.list c.args.self.now.kept.items m (pieces_of c.args.pieces.now) c.bring_all.result book is c.count-count.ensures.pieces.held c.bring_all.ensures
