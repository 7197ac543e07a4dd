-- What the clauses of `clap` say of the command that has these arguments and nothing else.
use Rattle.std.proofs.Common.{◌≡◌, ◌∙◌, Bool, true, false, refl, sym, ap, List, [], ◌∷◌, ◌++◌, Some, None}
use Rattle.clap.specs.Values.{kind_of}
use Rattle.clap.specs.Matches.{found_of}
use Rattle.clap.specs.Walk.{Rule, Text, nothing_held, rows_of}
use Rattle.clap.specs.Simple.{App, HasMatchesOf, argument_words, built, is_simple, matches_of, with_rule}
use Rattle.clap.specs.Takes.{takes}
use Rattle.clap.specs.Faults.{fault_of, has_free_rules, is_simple_and_free}
use Rattle.clap.specs.declared.error.Error.{Error}
use Rattle.clap.specs.declared.error.kind.ErrorKind.TheVariants.{OutOfMemory}
use Rattle.clap.specs.declared.parser.matches.ArgMatches.{ArgMatches}
use Rattle.clap.proofs.WalkLemmas.{both}
use Rattle.clap.proofs.TakesLemmas.{leaf_takes}
use Rattle.clap.proofs.FaultLemmas.{leaf_fault}
use Rattle.command_words.specs.Arguments.{command, found, is_exact}
use Rattle.command_words.proofs.Faultless.{and_true, level_faultless}

-- words without a fault are taken
faultless_taken : (rs : List Rule) (words : List Text) → is_exact rs ≡ true → fault_of (command rs) words ≡ []
    → takes (command rs) words ≡ true
unfolding command is_exact
faultless_taken rs words exact e =
    let exact' = both (is_simple_and_free (command rs)) _ exact in
    let simple = both (is_simple (command rs)) _ exact'.0 in
    let free = both (has_free_rules (built (command rs)).top) _ simple.1 in
    let leaf = leaf_fault (built (command rs)) nothing_held (argument_words (command rs) words) refl in
    and_true _ _ simple.0 (leaf_takes (built (command rs)) nothing_held (argument_words (command rs) words) refl
    (level_faultless (built (command rs)).top [] nothing_held (argument_words (command rs) words) free.0 exact'.1 (sym leaf ∙ e)))

exact_free : (rs : List Rule) → is_exact rs ≡ true → is_simple_and_free (command rs) ≡ true
unfolding is_exact
exact_free rs exact = (both _ _ exact).0

exact_simple : (rs : List Rule) → is_exact rs ≡ true → is_simple (command rs) ≡ true
exact_simple rs exact = (both (is_simple (command rs)) _ (exact_free rs exact)).0

-- a parse that succeeds took the words, and found what `clap` says
pub taken : (a : App) (rs : List Rule) (words : List Text) (m : ArgMatches) → a ≡ command rs → is_exact rs ≡ true
    → (is_simple_and_free a ≡ true → fault_of a words ≡ []) → HasMatchesOf a words m
    → Some (rows_of (found_of m)) ≡ found rs words
unfolding found
taken a rs words m is exact faultless matches =
    let free = ap is_simple_and_free is ∙ exact_free rs exact in
    let none = ap (λ (x : App). fault_of x words) (sym is) ∙ faultless free in
    let rows = rw is at (matches (ap is_simple is ∙ exact_simple rs exact)).0 in
    rw (faultless_taken rs words exact none) (ap Some {y = matches_of (command rs) words} rows)

-- a parse that fails for another reason than memory didn't take them
pub untaken : (a : App) (rs : List Rule) (words : List Text) (e : Error) → a ≡ command rs
    → (takes a words ≡ true → kind_of e ≡ OutOfMemory) → (kind_of e ≡ OutOfMemory → ⊥) → None ≡ found rs words
unfolding found
untaken a rs words e is passes other = rw (no (takes (command rs) words) refl) refl
  where
    no : (b : Bool) → takes (command rs) words ≡ b → b ≡ false
    no true t = absurd (other (passes (ap (λ (x : App). takes x words) is ∙ t)))
    no false t = refl

-- a command with one argument more
pub one_more : (rs : List Rule) (r : Rule) → with_rule (command rs) r ≡ command (rs ++ r ∷ [])
unfolding command
one_more rs r = refl
