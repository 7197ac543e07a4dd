use Rattle.std.proofs.Common.{[], ◌∷◌, ◌∙◌, ap, sym}
use Rattle.mc_requests.specs.declared.limits.Limits.{Limits}
use Rattle.mc_records.specs.Views.{entry}
use Rattle.scrip_journal.specs.Founds.{FoundNoOutput}
use Rattle.scrip_journal.proofs.FoundLemmas.{ran_at}
use Rattle.scrip_journal.proofs.Uncut.{uncut_at}
use Rattle.house_opening.proofs.found.found_house.Goals as goal

pub returns-in-Ok-found_book-clause-exact : goal.returns-in-Ok-found_book-clause-exact
returns-in-Ok-found_book-clause-exact g c x told =
    let made = c.in-Ok.ensures in
    let found = c.in-Ok-found_book.ensures in
    record {
      free = (found.exact x told).1;
      house = c.new-in-Ok-found_book.ensures.stands (entry c.args.site.now ∷ []) (found.exact x told).0 (record { represents = made.holds; contents = made.contents }) (found.limit ∙ ap (λ (l : Limits). l.journal) (sym made.limits));
      time' = c.new-in-Ok-found_book.ensures.time ∙ made.time;
      limits' = c.new-in-Ok-found_book.ensures.limits ∙ made.limits;
    }

pub returns-in-Ok-found_book-clause-ran : goal.returns-in-Ok-found_book-clause-ran
returns-in-Ok-found_book-clause-ran g c x told =
    ran_at g.D.Disk.disk (g.D.Disk.disk c.args.disk) c.in-Ok-found_book.journal.disk c.new-in-Ok-found_book.result.journal.disk (FoundNoOutput (g.D.Disk.disk c.args.disk) (entry c.args.site.now)) c.new-in-Ok-found_book.ensures.disk
    (c.in-Ok-found_book.ensures.ran x told)

pub returns-in-Ok-found_book-clause-uncut : goal.returns-in-Ok-found_book-clause-uncut
returns-in-Ok-found_book-clause-uncut g c x told stands =
    uncut_at g.D.Disk.disk _ c.in-Ok-found_book.journal.disk c.new-in-Ok-found_book.result.journal.disk c.new-in-Ok-found_book.ensures.disk (c.in-Ok-found_book.ensures.uncut x told stands)
