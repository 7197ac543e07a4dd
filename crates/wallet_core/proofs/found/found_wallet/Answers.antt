use Rattle.std.proofs.Common.{List, ℕ, [], ◌∷◌, None, ap, sym, subst, ◌∙◌}
use Rattle.mc_requests.specs.declared.limits.Limits.{Limits}
use Rattle.mc_records.specs.Entry.{Site}
use Rattle.wallet_core.specs.Wallet.{WalletStands}
use Rattle.scrip_journal.proofs.Uncut.{uncut_at}
use Rattle.wallet_core.proofs.found.found_wallet.Goals as goal

pub returns-in-Ok-clause-exact : goal.returns-in-Ok-clause-exact
returns-in-Ok-clause-exact g c x told =
    let made = c.new-book.ensures in
    let found = c.in-Ok.ensures in
    let P : List ℕ → Type 0 = λ name. WalletStands g.D.Disk.disk c.new.result (Site c.args.now 2 name None ∷ []) in
    record {
      free = (found.exact x told).1;
      wallet = subst P c.bytes.ensures.value (c.new.ensures.stands (Site c.args.now 2 c.bytes.result.now None ∷ []) (found.exact x told).0 made.stands (found.limit ∙ ap (λ (l : Limits). l.journal) (sym made.limits)));
      time' = c.new.ensures.time ∙ made.time;
      limits' = c.new.ensures.limits ∙ made.limits;
    }

pub returns-in-Ok-clause-uncut : goal.returns-in-Ok-clause-uncut
returns-in-Ok-clause-uncut g c x told stands = uncut_at g.D.Disk.disk _ c.in-Ok.journal.disk c.new.result.journal.disk c.new.ensures.disk (c.in-Ok.ensures.uncut x told stands)
