use Rattle.std.proofs.Common.{◌≡◌, ℕ, ◌+◌, List, true, false, ◌++◌, take, drop, sym, ap, ◌∙◌}
use Rattle.std.specs.Prelude.{is_some}
use Rattle.std.proofs.lemmas.List.{take-append-drop, take_all}
use Rattle.name_places.specs.NamePlaces.{place_of}
use Rattle.audit_sums.specs.declared.audit_sums.BookSums.{BookSums}
use Rattle.audit_sums.specs.Learned.{name_of}
use Rattle.audit_search.proofs.Loops.{one_more}
use Rattle.audit_search.proofs.TotalLaws.{next_drop}
use Rattle.tree_search.specs.Names.{own_all}
use Rattle.tree_search.proofs.NameLaws.{has_name, shared, new_name, known_more}
use Rattle.tree_search.proofs.names.names_differ.Goals as goal

pub returns-then-is_some : goal.returns-then-is_some
returns-then-is_some c =
    let books = c.args.books.now in
    let n = c.loop-book.book-index in
    let s = c.book-item.result in
    let own : c.bytes-name.result.now ≡ name_of s = c.bytes-name.ensures.value ∙ c.name.ensures in
    let has : has_name (take n books) (name_of s) ≡ true =
    sym (c.loop-book.invariant.known (name_of s)) ∙ ap (λ (x : List ℕ). is_some (place_of c.loop-book.names x)) (sym own) ∙ ap is_some (sym c.get.ensures) ∙ sym c.is_some.ensures ∙ c.if-is_some.true in
    sym (ap own_all (sym (take-append-drop n books) ∙ ap (λ (l : List BookSums). take n books ++ l) (next_drop books n s c.loop-book-test.true c.book-item.is))
    ∙ shared (take n books) s (drop (n + 1) books) has)

pub loop-book-preserved : goal.loop-book-preserved
loop-book-preserved c =
    let books = c.args.books.now in
    let n = c.loop-book.book-index in
    let s = c.book-item.result in
    let own : c.bytes-name.result.now ≡ name_of s = c.bytes-name.ensures.value ∙ c.name.ensures in
    let has : has_name (take n books) (name_of s) ≡ false =
    sym (c.loop-book.invariant.known (name_of s)) ∙ ap (λ (x : List ℕ). is_some (place_of c.loop-book.names x)) (sym own) ∙ ap is_some (sym c.get.ensures) ∙ sym c.is_some.ensures ∙ c.if-is_some.false in
    record {
      own = ap own_all (one_more books n s c.loop-book-test.true c.book-item.is) ∙ new_name (take n books) s has c.loop-book.invariant.own;
      known = λ name.
          ap is_some (c.put.ensures.places c.bytes-name.result.now c.in_ok-reserve.ensures.room name)
          ∙ known_more books n s name c.bytes-name.result.now (place_of c.reserve.new.self name) 0 c.loop-book-test.true c.book-item.is own (ap is_some (c.reserve.ensures.places name) ∙ c.loop-book.invariant.known name);
    }

pub returns : goal.returns
returns c = sym (ap own_all (sym (take_all c.loop-book.book-index c.args.books.now c.loop-book-test.false)) ∙ c.loop-book.invariant.own)
