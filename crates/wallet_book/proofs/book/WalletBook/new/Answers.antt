use Rattle.std.proofs.Common.{refl, arith}
use Rattle.mc_records.specs.Views.{entry}
use Rattle.wallet_book.proofs.BookLaws.{first_of}
use Rattle.wallet_book.proofs.book.WalletBook.new.Goals as goal

pub returns-clause-stands : goal.returns-clause-stands
returns-clause-stands c =
    first_of _ (entry c.args.site.now) c.requires.wallet c.name_of.ensures c.moment-moment.ensures c.moment-moment.ensures c.new.ensures.pieces c.new.ensures.kept refl (omega (arith, c.payload_len.ensures)) refl
