use Rattle.std.proofs.Common.{◌≡◌, ℕ, ◌+◌, Bool, List, true, false, not, ◌||◌, ◌++◌, length, take, drop, sym, ap, ap₂, ◌∙◌, arith}
use Rattle.std.specs.Prelude.{is_some}
use Rattle.std.proofs.lemmas.List.{take-append-drop}
use Rattle.name_places.specs.NamePlaces.{place_of}
use Rattle.audit_sums.specs.declared.audit_sums.BookSums.{BookSums}
use Rattle.audit_sums.specs.Learned.{name_of}
use Rattle.audit_search.specs.Checks.{is_desk}
use Rattle.audit_search.specs.Markets.{has_vendor, own_names}
use Rattle.audit_search.proofs.Loops.{one_more}
use Rattle.audit_search.proofs.TotalLaws.{next_drop}
use Rattle.audit_search.specs.Filed.{place_in}
use Rattle.audit_search.proofs.FiledLaws.{longer, names_stay, placed_next}
use Rattle.audit_search.proofs.NameLaws.{shared, new_name, known_desk, known_vendor}
use Rattle.audit_search.proofs.market.vendor_names.Goals as goal
use Rattle.audit_search.proofs.market.vendor_names.Goals.{then-not-is_desk+else-is_some+in_ok-reserve, else-not-is_desk}

pub returns-then-is_some-clause-own : goal.returns-then-is_some-clause-own
returns-then-is_some-clause-own c =
    let books = c.args.books.now in
    let n = c.loop-book.book-index in
    let s = c.book-item.result in
    let vendor : is_desk s ≡ false = sym c.is_desk.ensures ∙ c.if-not-is_desk.true in
    let own : c.bytes-name.result.now ≡ name_of s = c.bytes-name.ensures.value ∙ c.name.ensures in
    let has : has_vendor (take n books) (name_of s) ≡ true =
    sym (c.loop-book.invariant.known (name_of s)) ∙ ap (λ (x : List ℕ). is_some (place_of c.loop-book.names x)) (sym own) ∙ ap is_some (sym c.get.ensures) ∙ sym c.is_some.ensures ∙ c.if-is_some.true in
    sym (ap own_names (sym (take-append-drop n books) ∙ ap (λ (l : List BookSums). take n books ++ l) (next_drop books n s c.loop-book-test.true c.book-item.is))
    ∙ shared (take n books) s (drop (n + 1) books) vendor has)

pub loop-book-preserved : goal.loop-book-preserved
loop-book-preserved c =
    let books = c.args.books.now in
    let n = c.loop-book.book-index in
    let s = c.book-item.result in
    let next = λ (fresh : (is_desk s || not (has_vendor (take n books) (name_of s))) ≡ true). ap own_names (one_more books n s c.loop-book-test.true c.book-item.is) ∙ new_name (take n books) s fresh c.loop-book.invariant.own in
    elim c.if-not-is_desk.branch [
      | then-not-is_desk+else-is_some+in_ok-reserve w ↦
          let vendor : is_desk s ≡ false = sym c.is_desk.ensures ∙ w.if-not-is_desk.true in
          let own : w.bytes-name.result.now ≡ name_of s = w.bytes-name.ensures.value ∙ w.name.ensures in
          let has : has_vendor (take n books) (name_of s) ≡ false =
          sym (c.loop-book.invariant.known (name_of s)) ∙ ap (λ (x : List ℕ). is_some (place_of c.loop-book.names x)) (sym own) ∙ ap is_some (sym w.get.ensures) ∙ sym w.is_some.ensures ∙ w.if-is_some.false in
          record {
            own = next (ap₂ (λ (d h : Bool). d || not h) vendor has);
            few = omega arith;
            long = w.count-is ∙ longer books n s c.loop-book.count c.loop-book-test.true c.book-item.is vendor c.loop-book.invariant.long;
            placed = λ name.
                ap (λ p. place_of p name) w.names-is
                ∙ placed_next books n s name w.bytes-name.result.now c.loop-book.count w.get.result (place_of w.reserve.new.self name) (place_of w.put.new.self name) c.loop-book-test.true c.book-item.is vendor own
                c.loop-book.invariant.long (w.get.ensures ∙ c.loop-book.invariant.placed w.bytes-name.result.now) (sym w.is_some.ensures ∙ w.if-is_some.false)
                (w.reserve.ensures.places name ∙ c.loop-book.invariant.placed name) (w.put.ensures.places w.bytes-name.result.now w.in_ok-reserve.ensures.room name);
            known = λ name.
                ap (λ p. is_some (place_of p name)) w.names-is ∙ ap is_some (w.put.ensures.places w.bytes-name.result.now w.in_ok-reserve.ensures.room name)
                ∙ known_vendor books n s name w.bytes-name.result.now (place_of w.reserve.new.self name) c.loop-book.count c.loop-book-test.true c.book-item.is vendor own
                (ap is_some (w.reserve.ensures.places name) ∙ c.loop-book.invariant.known name);
          }
      | else-not-is_desk w ↦
          let desk : is_desk s ≡ true = sym c.is_desk.ensures ∙ w.if-not-is_desk.false in
          record {
            own = next (ap (λ (d : Bool). d || not (has_vendor (take n books) (name_of s))) desk);
            few = omega arith;
            long = w.count-is ∙ c.loop-book.invariant.long ∙ ap length (names_stay books n s c.loop-book-test.true c.book-item.is desk);
            placed = λ name. ap (λ p. place_of p name) w.names-is ∙ c.loop-book.invariant.placed name ∙ ap (λ (l : List (List ℕ)). place_in l name) (names_stay books n s c.loop-book-test.true c.book-item.is desk);
            known = λ name. ap (λ p. is_some (place_of p name)) w.names-is ∙ known_desk books n s name _ c.loop-book-test.true c.book-item.is desk (c.loop-book.invariant.known name);
          }
    ]
