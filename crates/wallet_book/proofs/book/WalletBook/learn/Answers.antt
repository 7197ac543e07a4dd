use Rattle.std.proofs.Common.{◌≤◌, ◌∙◌, Bool, ◌||◌, refl, sym, ap, subst, arith}
use Rattle.mc_records.specs.Sizes.{tail_bytes}
use Rattle.mc_records.specs.Entry.{moment_of}
use Rattle.mc_records.specs.Views.{entry}
use Rattle.wallet_book.specs.Book.{BookView, WalletRepresents}
use Rattle.wallet_book.proofs.BookLaws.{long_entry, not_allowed, learned}
use Rattle.wallet_book.proofs.book.WalletBook.learn.Goals as goal

pub returns-then-seconds-clause-exact : goal.returns-then-seconds-clause-exact
returns-then-seconds-clause-exact c = λ h is0 tells fits follows.
    let is = subst (λ (b : BookView). WalletRepresents b h) (sym c.self.view_is) is0 in
    absurd (omega (arith, follows.in_order, is.last, c.moment-moment.ensures, c.seconds.ensures.seconds, c.seconds-2.ensures.seconds, c.if-seconds.true))

pub returns-in-Err-clause-exact : goal.returns-in-Err-clause-exact
returns-in-Err-clause-exact c = λ h is0 tells fits follows.
    let is = subst (λ (b : BookView). WalletRepresents b h) (sym c.self.view_is) is0 in
    absurd (omega (arith, is.sized, fits, long_entry h (entry c.args.r.now), ap tail_bytes is.switched, c.payload_len-payload.ensures, c.in-Err.ensures.full.1))

pub returns-then-not-learn_entry-clause-exact : goal.returns-then-not-learn_entry-clause-exact
returns-then-not-learn_entry-clause-exact c = λ h is0 tells fits.
    let is = subst (λ (b : BookView). WalletRepresents b h) (sym c.self.view_is) is0 in
    not_allowed _ h (entry c.args.r.now) is (c.if-not-learn_entry.ensures h is.lawful is.parts is.counted is.switched tells)

pub returns-clause-exact : goal.returns-clause-exact
returns-clause-exact c = λ h is0 tells fits.
    let is = subst (λ (b : BookView). WalletRepresents b h) (sym c.self.view_is) is0 in
    let got = c.if-not-learn_entry.ensures h is.lawful is.parts is.counted is.switched tells in
    let at : c.self.inside.last ≤ moment_of (entry c.args.r.now) = omega (arith, c.moment-moment.ensures, c.seconds.ensures.seconds, c.seconds-2.ensures.seconds, c.if-seconds.false) in
    learned _ _ h (entry c.args.r.now) is at got.0 got.1 refl c.moment-moment.ensures (omega (arith, c.later-self-inside.ensures, c.moment-moment.ensures)) refl (omega (arith, c.in-Ok.ensures.fits, c.payload_len-payload.ensures)) (c.stands_with-self-inside.ensures ∙ ap (λ (b : Bool). b || c.self.inside.switched) c.is_switch.ensures)
