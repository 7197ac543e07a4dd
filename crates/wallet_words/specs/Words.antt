-- The values of the commands of a wallet and of an auditor: those of their parameters, in their order.
use Rattle.command_table.specs.Table.{form_of}
use Rattle.command_table.specs.Values.{ValuesOf}
use Rattle.command_table.specs.declared.table.CommandName.TheVariants as names
use Rattle.wallet_words.specs.declared.audit_books.AuditBooks.{AuditBooks}
use Rattle.wallet_words.specs.declared.proxying.Proxying.{Proxying}
use Rattle.wallet_words.specs.declared.reporting.Reporting.{Reporting}
use Rattle.wallet_words.specs.declared.wallet_init.WalletFounder.{WalletFounder}
use Rattle.wallet_words.specs.declared.wallet_operation.Buying.{Buying}
use Rattle.wallet_words.specs.declared.wallet_operation.Drawing.{Drawing}
use Rattle.wallet_words.specs.declared.wallet_operation.Getting.{Getting}
use Rattle.wallet_words.specs.declared.wallet_operation.Relaying.{Relaying}
use Rattle.wallet_words.specs.declared.wallet_operation.Renewing.{Renewing}
use Rattle.wallet_words.specs.declared.wallet_operation.Retrying.{Retrying}
use Rattle.wallet_words.specs.declared.wallet_operation.BookAlone.{BookAlone}

unfoldable pub wallet_founder_values : WalletFounder → ValuesOf (form_of names.WalletInit).parameters
unfolding form_of
wallet_founder_values f = (f.book, (f.name, tt))

-- of `wallet list` and `wallet chain` likewise
unfoldable pub book_alone_values : BookAlone → ValuesOf (form_of names.WalletTake).parameters
unfolding form_of
book_alone_values w = (w.book, tt)

unfoldable pub drawing_values : Drawing → ValuesOf (form_of names.WalletDraw).parameters
unfolding form_of
drawing_values d = (d.book, (d.broker, (d.account, (d.key, (d.order, (d.amount, (d.connect, tt)))))))

unfoldable pub buying_values : Buying → ValuesOf (form_of names.WalletBuy).parameters
unfolding form_of
buying_values b = (b.book, (b.broker, (b.vendor, (b.amount, (b.limit, (b.connect, tt))))))

unfoldable pub getting_values : Getting → ValuesOf (form_of names.WalletGet).parameters
unfolding form_of
getting_values g = (g.book, (g.vendor, (g.target, (g.limit, (g.connect, tt)))))

unfoldable pub retrying_values : Retrying → ValuesOf (form_of names.WalletRetry).parameters
unfolding form_of
retrying_values r = (r.book, (r.peer, (r.connect, tt)))

unfoldable pub relaying_values : Relaying → ValuesOf (form_of names.WalletLines).parameters
unfolding form_of
relaying_values r = (r.book, (r.vendor, tt))

unfoldable pub renewing_values : Renewing → ValuesOf (form_of names.WalletRenew).parameters
unfolding form_of
renewing_values r = (r.book, (r.vendor, (r.target, (r.before, (r.connect, tt)))))

unfoldable pub proxying_values : Proxying → ValuesOf (form_of names.WalletProxy).parameters
unfolding form_of
proxying_values p = (p.book, (p.vendor, (p.limit, (p.budget, (p.listen, (p.connect, (p.links, tt)))))))

unfoldable pub reporting_values : Reporting → ValuesOf (form_of names.AuditReport).parameters
unfolding form_of
reporting_values r = (r.books, (r.json, tt))

-- of `audit tree` likewise
unfoldable pub audit_books_values : AuditBooks → ValuesOf (form_of names.AuditChain).parameters
unfolding form_of
audit_books_values a = (a.books, tt)
