use Rattle.std.proofs.Common.{sym, map}
use Rattle.std.specs.Prelude.{string_bytes}
use Rattle.door_wire.proofs.WordLemmas.{word_on, word_last, no_word, no_last, cut_shorter}
use Rattle.door_wire.proofs.told.words_in.Goals as goal

pub returns-then-not-branch-clause-none : goal.returns-then-not-branch-clause-none
returns-then-not-branch-clause-none c none =
    no_word c.args.line.now (map string_bytes c.words.words.items) c.words.rest.now c.in-Some.word.now c.in-Some.behind.now c.words.invariant.so (sym (rw c.in-Some.is at c.cut.ensures))
    (rw c.if-not-branch.true at c.in_ok-push_word-in-Some.ensures)

pub words-smaller : goal.words-smaller
words-smaller c = cut_shorter c.words.rest.now c.in-Some.word.now c.in-Some.behind.now (sym (rw c.in-Some.is at c.cut.ensures))

pub words-preserved : goal.words-preserved
words-preserved c = record {
  so = word_on c.args.line.now (map string_bytes c.words.words.items) (map string_bytes c.push_word.new.words.items) c.words.rest.now c.in-Some.word.now c.in-Some.behind.now c.words.invariant.so (sym (rw c.in-Some.is at c.cut.ensures))
      (rw c.if-not-branch.false at c.in_ok-push_word-in-Some.ensures);
}

pub returns-then-not-branch-2-clause-none : goal.returns-then-not-branch-2-clause-none
returns-then-not-branch-2-clause-none c none =
    no_last c.args.line.now (map string_bytes c.words.words.items) c.words.rest.now c.words.invariant.so (sym (rw c.in-None.is at c.cut.ensures)) (rw c.if-not-branch-2.true at c.in_ok-push_word-in-None.ensures)

pub returns-in-None-clause-some : goal.returns-in-None-clause-some
returns-in-None-clause-some c =
    word_last c.args.line.now (map string_bytes c.words.words.items) (map string_bytes c.push_word-in-None.new.words.items) c.words.rest.now c.words.invariant.so (sym (rw c.in-None.is at c.cut.ensures)) (rw c.if-not-branch-2.false at c.in_ok-push_word-in-None.ensures)
