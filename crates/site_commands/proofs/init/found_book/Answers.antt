use Rattle.std.proofs.Common.{◌≡◌, ℕ, ◌∙◌, ◌∷◌, [], sym, ap, subst, Some, Ok, Err, arith}
use Rattle.mc_outside.specs.LinkView.{LinkView}
use Rattle.mc_records.specs.Entry.{Entry}
use Rattle.mc_records.specs.Views.{entry}
use Rattle.mc_outside.specs.DiskView.{Ran}
use Rattle.millicent_http.specs.declared.clock.Clock.TheVariants.{OfLinks}
use Rattle.millicent_http.specs.Courses.{AreRead, with_readings}
use Rattle.house_core.specs.HouseView.{HouseView}
use Rattle.house_opening.specs.Found.{FoundsHouseBy}
use Rattle.scrip_journal.specs.Founds.{FoundNoOutput, CountsBy, fault_disk}
use Rattle.ledger_model.specs.Houses.{IsHouseKind}
use Rattle.house_state.specs.Views.{kind_number}
use Rattle.site_commands.specs.Founding.{site_of}
use Rattle.command_status.specs.declared.status.Status.TheVariants as ends
use Rattle.command_status.specs.Faults.{fault_status}
use Rattle.command_status.specs.Founding.{FoundAt}
use Rattle.operator_command.specs.Operations.{full}
use Rattle.site_commands.proofs.InitLemmas.{first_has_room, found_pairs, unfounded_pairs, fault_causes, founded_for, not_founded}
use Rattle.site_commands.proofs.init.found_book.Goals as goal

-- only a house may begin a book
pub site-site-requires : goal.site-site-requires
site-site-requires g c =
    let house : IsHouseKind (g.T.Trade.trade c.args.trade).site = (c.requires.first 0).allowed.1 in
    omega (arith, c.kind-kind.ensures, house)

pub found_house-requires-clause-room : goal.found_house-requires-clause-room
found_house-requires-clause-room g c = rw c.site-site.ensures.site (first_has_room (site_of (kind_number c.kind-kind.result) c.args.founder.now c.now-moment.result) c.site-site.ensures.fits)

pub found_house-requires-clause-first : goal.found_house-requires-clause-first
found_house-requires-clause-first g c = rw (c.site-site.ensures.site, c.kind-kind.ensures) (c.requires.first c.now-moment.result)

pub returns-in-Ok-clause-causes : goal.returns-in-Ok-clause-causes
returns-in-Ok-clause-causes g c =
    let keeps = g.met.O.Outside.link_keeps _ _ c.now-moment.ensures.moved in
    let same : g.O.Link.link c.in-Ok.house.journal.disk ≡ g.O.Link.link c.now-moment.new.self = g.met.O.Outside.disk_keeps _ _ c.in-Ok.ensures.moved in
    rw c.close.ensures (c.in-Ok.ensures.fault ∙ keeps.faults, ap (λ (v : LinkView). v.faults) (same ∙ c.now-moment.ensures.rest))

pub returns-in-Err-clause-causes : goal.returns-in-Err-clause-causes
returns-in-Err-clause-causes g c =
    let keeps = g.met.O.Outside.link_keeps _ _ c.now-moment.ensures.moved in
    let same : g.O.Link.link (fault_disk c.in-Err.fault) ≡ g.O.Link.link c.now-moment.new.self = g.met.O.Outside.disk_keeps _ _ c.in-Err.ensures.moved in
    rw (c.not_opened.ensures.disk, c.not_opened.ensures.status) (
      fault_causes (HouseView g.row.O.Denot g.row.T.Denot) g.O.Disk.disk (g.O.Disk.disk c.args.out) c.in-Err.fault
          (subst (λ (n : ℕ). CountsBy {D = g.row.O.Denot} {A = HouseView g.row.O.Denot g.row.T.Denot} (Err c.in-Err.fault) n (g.O.Disk.disk (fault_disk c.in-Err.fault)).faults) keeps.faults c.in-Err.ensures.fault),
      ap (λ (v : LinkView). v.faults) (same ∙ c.now-moment.ensures.rest),
    )

pub returns-in-Ok-clause-founded : goal.returns-in-Ok-clause-founded
returns-in-Ok-clause-founded g c x told =
    let m = c.now-moment.new.self in
    let b = c.in-Ok.house.journal.disk in
    let keeps = g.met.O.Outside.link_keeps _ _ c.now-moment.ensures.moved in
    let at : (g.O.Disk.disk m).contents ≡ Some x = keeps.contents ∙ told in
    let same : g.O.Link.link b ≡ g.O.Link.link m = g.met.O.Outside.disk_keeps _ _ c.in-Ok.ensures.moved in
    let e : Entry = site_of (g.T.Trade.trade c.args.trade).site c.args.founder.now c.now-moment.result in
    let same_site : entry c.site-site.result ≡ e = c.site-site.ensures.site ∙ ap (λ (k : ℕ). site_of k c.args.founder.now c.now-moment.result) c.kind-kind.ensures in
    let by = subst (λ (f : Entry). FoundsHouseBy {D = g.row.O.Denot} {T = g.row.T.Denot} g.O.Disk.disk g.T.Trade.trade full f x (Ok c.in-Ok.house)) same_site (c.in-Ok.ensures.exact x at) in
    let found : FoundAt g.O.Link.link g.O.Disk.disk (site_of (g.T.Trade.trade c.args.trade).site c.args.founder.now c.now-moment.result) c.args.out (ends.Founded c.name.result.now) b c.now-moment.result = record {
      read = subst (λ (v : LinkView). AreRead OfLinks (c.now-moment.result ∷ []) (g.O.Link.link c.args.out).readings v.readings) (sym same) c.now-moment.ensures.read;
      rest = subst (λ (v : LinkView). v ≡ with_readings v.readings (g.O.Link.link c.args.out)) (sym same) c.now-moment.ensures.rest;
      pairs = found_pairs g.O.Link.link g.O.Disk.disk c.args.out m b e g.met.O.Outside.sent_aside keeps c.now-moment.ensures.rest (subst (λ (f : Entry). Ran (g.O.Disk.disk m) (g.O.Disk.disk b) (FoundNoOutput (g.O.Disk.disk m) f)) same_site (c.in-Ok.ensures.ran x at));
    } in
    rw c.close.ensures (c.now-moment.result, found, (c.name.ensures.value, by.free, founded_for g.O.Disk.disk g.T.Trade.trade e x c.in-Ok.house by))

pub returns-in-Err-clause-founded : goal.returns-in-Err-clause-founded
returns-in-Err-clause-founded g c x told =
    let m = c.now-moment.new.self in
    let b = fault_disk c.in-Err.fault in
    let kind = (g.T.Trade.trade c.args.trade).site in
    let keeps = g.met.O.Outside.link_keeps _ _ c.now-moment.ensures.moved in
    let at : (g.O.Disk.disk m).contents ≡ Some x = keeps.contents ∙ told in
    let e : Entry = site_of kind c.args.founder.now c.now-moment.result in
    let same_site : entry c.site-site.result ≡ e = c.site-site.ensures.site ∙ ap (λ (k : ℕ). site_of k c.args.founder.now c.now-moment.result) c.kind-kind.ensures in
    let same : g.O.Link.link b ≡ g.O.Link.link m = g.met.O.Outside.disk_keeps _ _ c.in-Err.ensures.moved in
    let by = subst (λ (f : Entry). FoundsHouseBy {D = g.row.O.Denot} {T = g.row.T.Denot} g.O.Disk.disk g.T.Trade.trade full f x (Err c.in-Err.fault)) same_site (c.in-Err.ensures.exact x at) in
    let found : FoundAt g.O.Link.link g.O.Disk.disk (site_of kind c.args.founder.now c.now-moment.result) c.args.out (fault_status c.in-Err.fault) b c.now-moment.result = record {
      read = subst (λ (v : LinkView). AreRead OfLinks (c.now-moment.result ∷ []) (g.O.Link.link c.args.out).readings v.readings) (sym same) c.now-moment.ensures.read;
      rest = subst (λ (v : LinkView). v ≡ with_readings v.readings (g.O.Link.link c.args.out)) (sym same) c.now-moment.ensures.rest;
      pairs = unfounded_pairs g.O.Link.link g.O.Disk.disk g.T.Trade.trade e x c.args.out m c.in-Err.fault g.met.O.Outside.sent_aside keeps c.now-moment.ensures.rest by c.in-Err.ensures.read
          (subst (λ (f : Entry). Ran (g.O.Disk.disk m) (g.O.Disk.disk b) (FoundNoOutput (g.O.Disk.disk m) f)) same_site (c.in-Err.ensures.ran x at));
    } in
    rw (c.not_opened.ensures.disk, c.not_opened.ensures.status)
    (c.now-moment.result, found, not_founded g.O.Disk.disk g.T.Trade.trade kind c.args.founder.now c.now-moment.result x c.args.out m c.in-Err.fault told keeps by c.in-Err.ensures.read)
