use Rattle.std.proofs.Common.{◌≡◌, ◌<◌, ℕ, [], length, refl, ap, Ok, Err, arith}
use Rattle.mc_outside.proofs.Runs.{read_none}
use Rattle.audit_cmd.specs.Reading.{IsKeptOf}
use Rattle.audit_cmd.specs.Books.{IsLawfulBook}
use Rattle.audit_cmd.specs.Reading.{audit_causes}
use Rattle.audit_cmd.specs.declared.books.Kept.{Kept}
use Rattle.audit_cmd.specs.Loops.{KeptAll}
use Rattle.audit_cmd.proofs.Deciding.{ends_so}
use Rattle.audit_cmd.proofs.KeptLaws.{none_kept, kept_lawful}
use Rattle.audit_cmd.proofs.Loops.{goes_on, halted_read, halted_moved, counts_stay, halts, halt_counts, whole_read, whole_moved, whole_counts, whole_told, whole_books}
use Rattle.audit_cmd.proofs.books.read_books.Goals as goal

pub loop-place-init : goal.loop-place-init
loop-place-init g c = record {
  read = record {
    to = record { before = []; done = []; rest = c.args.books.now.items; olds_are = refl; news_are = refl; long = refl; each = tt };
    books = tt;
    told = λ books told. none_kept g.D.Disk.disk books c.new.result.items c.new.ensures.items told;
  };
  few = omega (arith, ap length c.new.ensures.items);
}

pub loop-place-preserved : goal.loop-place-preserved
loop-place-preserved g c = record {
  read = goes_on g.D.Disk.disk g.D.Disk.disk_moved (λ d. read_none (g.D.Disk.disk d) (g.met.D.Disk.is_disk d)) g.met.D.Disk.disk_stays audit_causes IsKeptOf IsLawfulBook KeptAll c.loop-place.place c.args.books.now.items c.loop-place.books.items c.read_at.new.books.items c.loop-place.kept c.keep.new.self c.in-Ok.book c.loop-place.invariant.read c.in-Ok.ensures (λ x is. kept_lawful x c.in-Ok.book is) c.in-Ok-keep.ensures.kept;
  few = omega (arith, c.loop-place.invariant.few, c.in-Ok-keep.ensures.few);
}

pub returns-in-Err-keep-clause-read : goal.returns-in-Err-keep-clause-read
returns-in-Err-keep-clause-read g c = halted_read g.D.Disk.disk g.D.Disk.disk_moved (λ d. read_none (g.D.Disk.disk d) (g.met.D.Disk.is_disk d)) g.met.D.Disk.disk_stays audit_causes IsKeptOf c.loop-place.place c.args.books.now.items c.loop-place.books.items c.read_at.new.books.items (Ok c.in-Ok.book) c.loop-place.invariant.read.to c.in-Ok.ensures

pub returns-in-Err-keep-clause-moved : goal.returns-in-Err-keep-clause-moved
returns-in-Err-keep-clause-moved g c = halted_moved g.D.Disk.disk g.D.Disk.disk_moved (λ d. read_none (g.D.Disk.disk d) (g.met.D.Disk.is_disk d)) g.met.D.Disk.disk_stays audit_causes IsKeptOf c.loop-place.place c.args.books.now.items c.loop-place.books.items c.read_at.new.books.items (Ok c.in-Ok.book) c.loop-place.invariant.read.to c.in-Ok.ensures

pub returns-in-Err-keep-clause-fault : goal.returns-in-Err-keep-clause-fault
returns-in-Err-keep-clause-fault g c = counts_stay g.D.Disk.disk g.D.Disk.disk_moved (λ d. read_none (g.D.Disk.disk d) (g.met.D.Disk.is_disk d)) g.met.D.Disk.disk_stays audit_causes IsKeptOf c.loop-place.place c.args.books.now.items c.loop-place.books.items c.read_at.new.books.items (Ok c.in-Ok.book) c.loop-place.invariant.read.to c.in-Ok.ensures c.in-Ok.ensures.count

pub returns-in-Err-clause-read : goal.returns-in-Err-clause-read
returns-in-Err-clause-read g c = halted_read g.D.Disk.disk g.D.Disk.disk_moved (λ d. read_none (g.D.Disk.disk d) (g.met.D.Disk.is_disk d)) g.met.D.Disk.disk_stays audit_causes IsKeptOf c.loop-place.place c.args.books.now.items c.loop-place.books.items c.read_at.new.books.items (Err c.in-Err.fault) c.loop-place.invariant.read.to c.in-Err.ensures

pub returns-in-Err-clause-moved : goal.returns-in-Err-clause-moved
returns-in-Err-clause-moved g c = halted_moved g.D.Disk.disk g.D.Disk.disk_moved (λ d. read_none (g.D.Disk.disk d) (g.met.D.Disk.is_disk d)) g.met.D.Disk.disk_stays audit_causes IsKeptOf c.loop-place.place c.args.books.now.items c.loop-place.books.items c.read_at.new.books.items (Err c.in-Err.fault) c.loop-place.invariant.read.to c.in-Err.ensures

pub returns-in-Err-clause-decides : goal.returns-in-Err-clause-decides
returns-in-Err-clause-decides g c = halts g.D.Disk.disk g.D.Disk.disk_moved (λ d. read_none (g.D.Disk.disk d) (g.met.D.Disk.is_disk d)) g.met.D.Disk.disk_stays audit_causes IsKeptOf IsLawfulBook c.loop-place.place c.args.books.now.items c.loop-place.books.items c.read_at.new.books.items c.in-Err.fault c.loop-place.invariant.read.to c.in-Err.ensures c.loop-place.invariant.read.books

pub returns-in-Err-clause-fault : goal.returns-in-Err-clause-fault
returns-in-Err-clause-fault g c = halt_counts g.D.Disk.disk g.D.Disk.disk_moved (λ d. read_none (g.D.Disk.disk d) (g.met.D.Disk.is_disk d)) g.met.D.Disk.disk_stays audit_causes IsKeptOf Kept c.loop-place.place c.args.books.now.items c.loop-place.books.items c.read_at.new.books.items c.in-Err.fault c.loop-place.invariant.read.to c.in-Err.ensures

pub returns-in-Err-clause-place : goal.returns-in-Err-clause-place
returns-in-Err-clause-place g c =
    let within : (book : ℕ) → book ≡ c.loop-place.place → book < length c.args.books.now.items = λ book is. omega (arith, is, c.loop-place-test.true, c.len-place-end.ensures, c.args.books.now.ok.0) in
    ends_so (λ book. book ≡ c.loop-place.place) (λ book. book < length c.args.books.now.items) within c.in-Err.fault c.in-Err.ensures.at

pub returns-clause-read : goal.returns-clause-read
returns-clause-read g c = whole_read g.D.Disk.disk g.D.Disk.disk_moved c.args.books.now.items c.loop-place.books.items c.loop-place.place c.loop-place.invariant.read.to (omega (arith, c.loop-place-test.false, c.len-place-end.ensures, c.args.books.now.ok.0))

pub returns-clause-moved : goal.returns-clause-moved
returns-clause-moved g c = whole_moved g.D.Disk.disk g.D.Disk.disk_moved c.args.books.now.items c.loop-place.books.items c.loop-place.place c.loop-place.invariant.read.to (omega (arith, c.loop-place-test.false, c.len-place-end.ensures, c.args.books.now.ok.0))

pub returns-clause-decides : goal.returns-clause-decides
returns-clause-decides g c = whole_books g.D.Disk.disk g.D.Disk.disk_moved c.args.books.now.items c.loop-place.books.items c.loop-place.place c.loop-place.invariant.read.to (omega (arith, c.loop-place-test.false, c.len-place-end.ensures, c.args.books.now.ok.0)) IsLawfulBook c.loop-place.invariant.read.books

pub returns-clause-exact : goal.returns-clause-exact
returns-clause-exact g c books told = c.loop-place.invariant.read.told books (whole_told g.D.Disk.disk g.D.Disk.disk_moved c.args.books.now.items c.loop-place.books.items c.loop-place.place c.loop-place.invariant.read.to (omega (arith, c.loop-place-test.false, c.len-place-end.ensures, c.args.books.now.ok.0)) books told)

pub returns-clause-fault : goal.returns-clause-fault
returns-clause-fault g c = whole_counts g.D.Disk.disk g.D.Disk.disk_moved c.args.books.now.items c.loop-place.books.items c.loop-place.place c.loop-place.invariant.read.to (omega (arith, c.loop-place-test.false, c.len-place-end.ensures, c.args.books.now.ok.0))
