use Rattle.std.proofs.Common.{◌≡◌, ◌∙◌, inl, inr, List, length, sym, ap, subst, arith}
use Rattle.std.specs.Prelude.{is_some}
use Rattle.std.specs.List.{AllZip}
use Rattle.mc_outside.specs.DiskView.{OnlyRead}
use Rattle.mc_words.specs.declared.command.Command.{Command}
use Rattle.mc_words.proofs.WordLaws.{one_command}
use Rattle.mc_top.specs.Programs.{Obeys, RunsAs, count_of}
use Rattle.mc_top.proofs.CompleteLemmas.{ends_well}
use Rattle.mc_top.proofs.program.run.Goals as goal

pub returns-in-Ok-None-clause-words : goal.returns-in-Ok-None-clause-words
returns-in-Ok-None-clause-words g c two = inl (c.in-Ok-None.ensures.none (ap is_some c.in-Ok-None.field-0-is))

pub returns-in-Ok-None-clause-obeyed : goal.returns-in-Ok-None-clause-obeyed
returns-in-Ok-None-clause-obeyed g c command words count = absurd (c.in-Ok-None.ensures.none (ap is_some c.in-Ok-None.field-0-is) words.name words.values words.are)

pub returns-in-Ok-None-clause-complete : goal.returns-in-Ok-None-clause-complete
returns-in-Ok-None-clause-complete g c command words count has no_disk no_link calm = absurd (c.in-Ok-None.ensures.none (ap is_some c.in-Ok-None.field-0-is) words.name words.values words.are)

pub returns-then-len-book_count-clause-words : goal.returns-then-len-book_count-clause-words
returns-then-len-book_count-clause-words g c two =
    let words = rw c.in-Ok-Some.field-0-is at c.in-Ok-Some.ensures.command in
    let long : c.len.result ≡ length c.args.books.items = omega (arith, c.len.ensures, c.args.books.ok.0) in
    inr (c.in-Ok-Some.command, words, λ count. c.if-len-book_count.true (long ∙ count ∙ sym c.book_count.ensures))

pub returns-then-len-book_count-clause-obeyed : goal.returns-then-len-book_count-clause-obeyed
returns-then-len-book_count-clause-obeyed g c command words count =
    let own : c.in-Ok-Some.command ≡ command = one_command _ _ command (rw c.in-Ok-Some.field-0-is at c.in-Ok-Some.ensures.command) words in
    let long : c.len.result ≡ length c.args.books.items = omega (arith, c.len.ensures, c.args.books.ok.0) in
    absurd (c.if-len-book_count.true (long ∙ count ∙ sym (ap count_of own) ∙ sym c.book_count.ensures))

pub returns-then-len-book_count-clause-complete : goal.returns-then-len-book_count-clause-complete
returns-then-len-book_count-clause-complete g c command words count has no_disk no_link calm =
    let own : c.in-Ok-Some.command ≡ command = one_command _ _ command (rw c.in-Ok-Some.field-0-is at c.in-Ok-Some.ensures.command) words in
    let long : c.len.result ≡ length c.args.books.items = omega (arith, c.len.ensures, c.args.books.ok.0) in
    absurd (c.if-len-book_count.true (long ∙ count ∙ sym (ap count_of own) ∙ sym c.book_count.ensures))

pub returns-clause-books : goal.returns-clause-books
returns-clause-books g c = subst (λ (ys : List g.row.D.Denot). AllZip (λ a b. OnlyRead (g.D.Disk.disk a) (g.D.Disk.disk b)) c.args.books.items ys) (sym (ap (λ b. b.items) c.ended-2.ensures.books)) c.obey-out.ensures.read

pub returns-clause-other_books : goal.returns-clause-other_books
returns-clause-other_books g c other =
    let own : c.in-Ok-Some.command ≡ other.0 = one_command _ _ other.0 (rw c.in-Ok-Some.field-0-is at c.in-Ok-Some.ensures.command) other.1 in
    let long : c.len.result ≡ length c.args.books.items = omega (arith, c.len.ensures, c.args.books.ok.0) in
    absurd (other.2 (sym long ∙ c.if-len-book_count.false ∙ c.book_count.ensures ∙ ap count_of own))

pub returns-clause-obeyed : goal.returns-clause-obeyed
returns-clause-obeyed g c command words count =
    let own : c.in-Ok-Some.command ≡ command = one_command _ _ command (rw c.in-Ok-Some.field-0-is at c.in-Ok-Some.ensures.command) words in
    let done : Obeys g.O.Link.link g.O.Disk.disk g.D.Disk.disk command c.args.out c.args.books.items c.obey-out.result.2 c.obey-out.result.0 c.obey-out.result.1.items
    = subst (λ (x : Command). Obeys g.O.Link.link g.O.Disk.disk g.D.Disk.disk x c.args.out c.args.books.items c.obey-out.result.2 c.obey-out.result.0 c.obey-out.result.1.items) own c.obey-out.ensures.obeyed in
    inr (
      c.obey-out.result.0,
      c.obey-out.result.2,
      subst (λ (ys : List g.row.D.Denot). Obeys g.O.Link.link g.O.Disk.disk g.D.Disk.disk command c.args.out c.args.books.items c.obey-out.result.2 c.obey-out.result.0 ys) (sym (ap (λ b. b.items) c.ended-2.ensures.books)) done,
      c.ended-2.ensures.ends,
    )

pub returns-clause-complete : goal.returns-clause-complete
returns-clause-complete g c command words count has no_disk no_link calm =
    let runs : RunsAs g.O.Link.link g.O.Disk.disk g.D.Disk.disk command c.args.out c.args.books.items c.ended-2.result.status c.ended-2.result.out c.ended-2.result.books.items = returns-clause-obeyed g c command words count in
    ends_well g.O.Link.link g.O.Disk.disk g.D.Disk.disk command c.args.out c.ended-2.result.out c.args.books.items c.ended-2.result.books.items c.ended-2.result.status has no_disk no_link calm runs
