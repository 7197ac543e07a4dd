use Rattle.std.proofs.Common.{◌≡◌, true, false, List, Option, Some, option_map, sym, subst, find}
use Rattle.std.specs.Prelude.{◌==◌, option_to_list}
use Rattle.mc_records.specs.Entry.{Held}
use Rattle.mc_requests.specs.Requests.{seen}
use Rattle.mc_records.specs.Views.{held_of}
use Rattle.wallet_book.specs.declared.holding.Holding.{Holding}
use Rattle.wallet_book.specs.declared.kept.Kept.{Kept}
use Rattle.wallet_book.specs.Parts.{Brings}
use Rattle.wallet_book.proofs.LearnLaws.{none_done, done_less, done_as, settled_texts_fit}
use Rattle.wallet_book.proofs.parts.Parts.learn_done.Goals as goal

pub returns-in-None : goal.returns-in-None
returns-in-None c = λ h m price book is.
    none_done h c.args.self.now.holdings.list c.settle.new.self.holdings.list c.args.self.now.kept.items c.settle.new.self.kept.items c.args.number m price (seen c.args.change) (option_map held_of c.args.got) is (sym c.in-None.ensures.found)

pub returns-then-not-bring_if : goal.returns-then-not-bring_if
returns-then-not-bring_if c = λ h m price book is.
    let xs : List Holding = c.args.self.now.holdings.list in
    let ks : List Kept = c.args.self.now.kept.items in
    let k : Kept = c.in-Some.kept in
    let zs : List Holding = c.settle.new.self.holdings.list in
    let mid : List Holding = c.bring_if.new.holdings.list in
    let at : find (λ j. c.args.number == j.number) ks ≡ Some k = sym c.in-Some.ensures.found in
    let fit = settled_texts_fit k.secret c.args.change c.args.got c.requires.change c.requires.got in
    let P : Option Held → Type 0 = λ o. Brings zs mid (option_to_list o) false in
    done_less h xs zs mid mid ks c.settle.new.self.kept.items c.args.number m price (seen c.args.change) (option_map held_of c.args.got) k book is c.as_slice-pieces.ensures.spelled at fit c.in-Some.ensures.pieces
    (subst P c.with_secret-change.ensures.pair c.if-not-bring_if.ensures.brings)

pub returns : goal.returns
returns c = λ h m price book is.
    let xs : List Holding = c.args.self.now.holdings.list in
    let ks : List Kept = c.args.self.now.kept.items in
    let k : Kept = c.in-Some.kept in
    let zs : List Holding = c.settle.new.self.holdings.list in
    let mid : List Holding = c.bring_if.new.holdings.list in
    let at : find (λ j. c.args.number == j.number) ks ≡ Some k = sym c.in-Some.ensures.found in
    let fit = settled_texts_fit k.secret c.args.change c.args.got c.requires.change c.requires.got in
    let P : Option Held → Type 0 = λ o. Brings zs mid (option_to_list o) true in
    done_as h xs zs mid c.bring_if-2.new.holdings.list ks c.settle.new.self.kept.items c.args.number m price (seen c.args.change) (option_map held_of c.args.got) k c.bring_if-2.result book is c.as_slice-pieces.ensures.spelled at fit
    c.in-Some.ensures.pieces c.in-Some.ensures.kept (subst P c.with_secret-change.ensures.pair c.if-not-bring_if.ensures.brings) c.bring_if-2.ensures.brings
