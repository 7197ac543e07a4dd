use Rattle.std.proofs.Common.{refl, sym, subst}
use Rattle.mc_records.specs.Views.{entry}
use Rattle.wallet_book.specs.Book.{BookView, WalletRepresents}
use Rattle.wallet_book.proofs.BookLaws.{with_room, same_with_room, room_made}
use Rattle.wallet_book.proofs.book.WalletBook.reserve.Goals as goal

pub returns-clause-same : goal.returns-clause-same
returns-clause-same c = λ h is. with_room _ _ _ _ _ h (subst (λ (b : BookView). WalletRepresents b h) (sym c.self.view_is) is) c.reserve.ensures.list c.reserve.ensures.kept

pub returns-clause-room : goal.returns-clause-room
returns-clause-room c = room_made c.reserve.result _ (entry c.args.r.now) c.pieces_of.result c.requests_of.result _ _ c.reserve.ensures.pieces c.reserve.ensures.requests c.pieces_of.ensures c.requests_of.ensures refl

pub returns-clause-book : goal.returns-clause-book
returns-clause-book c = same_with_room _ _ _ _ _ _ c.self.view_is c.reserve.ensures.list c.reserve.ensures.kept
