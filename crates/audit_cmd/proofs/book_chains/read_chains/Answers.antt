use Rattle.std.proofs.Common.{◌≡◌, ◌<◌, ℕ, length, List, [], ◌∷◌, ◌++◌, refl, sym, subst, Ok, Err, arith}
use Rattle.std.specs.Global.{Vec}
use Rattle.std.specs.List.{AllZip}
use Rattle.mc_outside.proofs.Runs.{read_none}
use Rattle.audit_cmd.specs.declared.chain_reading.ChainLine.{ChainLine}
use Rattle.audit_cmd.specs.Chains.{IsLineOf, HasLine, chain_causes, AreLinesOf}
use Rattle.audit_cmd.proofs.Zips.{zip_more}
use Rattle.audit_cmd.proofs.Deciding.{ends_so}
use Rattle.audit_cmd.proofs.ChainLaws.{no_lines}
use Rattle.audit_cmd.proofs.Loops.{goes_on, halted_read, halted_moved, counts_stay, halts, halt_counts, whole_read, whole_moved, whole_counts, whole_told, whole_books}
use Rattle.audit_cmd.proofs.book_chains.read_chains.Goals as goal

pub loop-place-init : goal.loop-place-init
loop-place-init g c = record {
  to = record { before = []; done = []; rest = c.args.books.now.items; olds_are = refl; news_are = refl; long = refl; each = tt };
  books = tt;
  told = λ books told. no_lines g.D.Disk.disk books c.new-lines.result.items c.new-lines.ensures.items told;
}

pub loop-place-preserved : goal.loop-place-preserved
loop-place-preserved g c = goes_on g.D.Disk.disk g.D.Disk.disk_moved (λ d. read_none (g.D.Disk.disk d) (g.met.D.Disk.is_disk d)) g.met.D.Disk.disk_stays chain_causes IsLineOf HasLine AreLinesOf c.loop-place.place c.args.books.now.items c.loop-place.books.items c.line_at.new.books.items c.loop-place.lines c.push.new.self c.in-Ok.line c.loop-place.invariant c.in-Ok.ensures (λ x is. (c.in-Ok.line, is)) (λ xs x have here. subst (λ (l : List ChainLine). AllZip IsLineOf (xs ++ x ∷ []) l) (sym c.in-Ok-push.ensures.items) (zip_more IsLineOf xs c.loop-place.lines.items x c.in-Ok.line have here))

pub returns-in-Err-push-clause-read : goal.returns-in-Err-push-clause-read
returns-in-Err-push-clause-read g c = halted_read g.D.Disk.disk g.D.Disk.disk_moved (λ d. read_none (g.D.Disk.disk d) (g.met.D.Disk.is_disk d)) g.met.D.Disk.disk_stays chain_causes IsLineOf c.loop-place.place c.args.books.now.items c.loop-place.books.items c.line_at.new.books.items (Ok c.in-Ok.line) c.loop-place.invariant.to c.in-Ok.ensures

pub returns-in-Err-push-clause-moved : goal.returns-in-Err-push-clause-moved
returns-in-Err-push-clause-moved g c = halted_moved g.D.Disk.disk g.D.Disk.disk_moved (λ d. read_none (g.D.Disk.disk d) (g.met.D.Disk.is_disk d)) g.met.D.Disk.disk_stays chain_causes IsLineOf c.loop-place.place c.args.books.now.items c.loop-place.books.items c.line_at.new.books.items (Ok c.in-Ok.line) c.loop-place.invariant.to c.in-Ok.ensures

pub returns-in-Err-push-clause-fault : goal.returns-in-Err-push-clause-fault
returns-in-Err-push-clause-fault g c = counts_stay g.D.Disk.disk g.D.Disk.disk_moved (λ d. read_none (g.D.Disk.disk d) (g.met.D.Disk.is_disk d)) g.met.D.Disk.disk_stays chain_causes IsLineOf c.loop-place.place c.args.books.now.items c.loop-place.books.items c.line_at.new.books.items (Ok c.in-Ok.line) c.loop-place.invariant.to c.in-Ok.ensures c.in-Ok.ensures.count

pub returns-in-Err-clause-read : goal.returns-in-Err-clause-read
returns-in-Err-clause-read g c = halted_read g.D.Disk.disk g.D.Disk.disk_moved (λ d. read_none (g.D.Disk.disk d) (g.met.D.Disk.is_disk d)) g.met.D.Disk.disk_stays chain_causes IsLineOf c.loop-place.place c.args.books.now.items c.loop-place.books.items c.line_at.new.books.items (Err c.in-Err.fault) c.loop-place.invariant.to c.in-Err.ensures

pub returns-in-Err-clause-moved : goal.returns-in-Err-clause-moved
returns-in-Err-clause-moved g c = halted_moved g.D.Disk.disk g.D.Disk.disk_moved (λ d. read_none (g.D.Disk.disk d) (g.met.D.Disk.is_disk d)) g.met.D.Disk.disk_stays chain_causes IsLineOf c.loop-place.place c.args.books.now.items c.loop-place.books.items c.line_at.new.books.items (Err c.in-Err.fault) c.loop-place.invariant.to c.in-Err.ensures

pub returns-in-Err-clause-decides : goal.returns-in-Err-clause-decides
returns-in-Err-clause-decides g c = halts g.D.Disk.disk g.D.Disk.disk_moved (λ d. read_none (g.D.Disk.disk d) (g.met.D.Disk.is_disk d)) g.met.D.Disk.disk_stays chain_causes IsLineOf HasLine c.loop-place.place c.args.books.now.items c.loop-place.books.items c.line_at.new.books.items c.in-Err.fault c.loop-place.invariant.to c.in-Err.ensures c.loop-place.invariant.books

pub returns-in-Err-clause-fault : goal.returns-in-Err-clause-fault
returns-in-Err-clause-fault g c = halt_counts g.D.Disk.disk g.D.Disk.disk_moved (λ d. read_none (g.D.Disk.disk d) (g.met.D.Disk.is_disk d)) g.met.D.Disk.disk_stays chain_causes IsLineOf (Vec ChainLine) c.loop-place.place c.args.books.now.items c.loop-place.books.items c.line_at.new.books.items c.in-Err.fault c.loop-place.invariant.to c.in-Err.ensures

pub returns-in-Err-clause-place : goal.returns-in-Err-clause-place
returns-in-Err-clause-place g c =
    let within : (book : ℕ) → book ≡ c.loop-place.place → book < length c.args.books.now.items = λ book is. omega (arith, is, c.loop-place-test.true, c.len-place-end.ensures, c.args.books.now.ok.0) in
    ends_so (λ book. book ≡ c.loop-place.place) (λ book. book < length c.args.books.now.items) within c.in-Err.fault c.in-Err.ensures.at

pub returns-clause-read : goal.returns-clause-read
returns-clause-read g c = whole_read g.D.Disk.disk g.D.Disk.disk_moved c.args.books.now.items c.loop-place.books.items c.loop-place.place c.loop-place.invariant.to (omega (arith, c.loop-place-test.false, c.len-place-end.ensures, c.args.books.now.ok.0))

pub returns-clause-moved : goal.returns-clause-moved
returns-clause-moved g c = whole_moved g.D.Disk.disk g.D.Disk.disk_moved c.args.books.now.items c.loop-place.books.items c.loop-place.place c.loop-place.invariant.to (omega (arith, c.loop-place-test.false, c.len-place-end.ensures, c.args.books.now.ok.0))

pub returns-clause-decides : goal.returns-clause-decides
returns-clause-decides g c = whole_books g.D.Disk.disk g.D.Disk.disk_moved c.args.books.now.items c.loop-place.books.items c.loop-place.place c.loop-place.invariant.to (omega (arith, c.loop-place-test.false, c.len-place-end.ensures, c.args.books.now.ok.0)) HasLine c.loop-place.invariant.books

pub returns-clause-exact : goal.returns-clause-exact
returns-clause-exact g c books told = c.loop-place.invariant.told books (whole_told g.D.Disk.disk g.D.Disk.disk_moved c.args.books.now.items c.loop-place.books.items c.loop-place.place c.loop-place.invariant.to (omega (arith, c.loop-place-test.false, c.len-place-end.ensures, c.args.books.now.ok.0)) books told)

pub returns-clause-fault : goal.returns-clause-fault
returns-clause-fault g c = whole_counts g.D.Disk.disk g.D.Disk.disk_moved c.args.books.now.items c.loop-place.books.items c.loop-place.place c.loop-place.invariant.to (omega (arith, c.loop-place-test.false, c.len-place-end.ensures, c.args.books.now.ok.0))
