use Rattle.std.proofs.Common.{◌≡◌, ◌∷◌, [], List, IfSome, arith, map, rules, string_bytes, subst}
use Rattle.clap.specs.Walk.{Text}
use Rattle.command_help.specs.Asking.{AreOfNone}
use Rattle.command_help.proofs.AskLemmas.{three_words, two_words}
use Rattle.command_help.proofs.asked.page_of.Goals as goal

pub returns-in-len2 : goal.returns-in-len2
returns-in-len2 c =
    let spelled = two_words string_bytes c.args.words.now c.first-item.result c.second-item.result c.first-item.is c.second-item.is
    (omega (arith, c.in-len2.len_at_least)) (omega (arith, c.in-len2.len_below)) in
    let e : c.deref-in-len2.result.now ∷ c.deref-in-len2-2.result.now ∷ [] ≡ map string_bytes c.args.words.now = search rules in
    record { no_command = subst (λ (words : List Text). IfSome c.page_of_two.result (λ page. AreOfNone words)) e c.page_of_two.ensures }

pub returns-in-len3 : goal.returns-in-len3
returns-in-len3 c =
    let spelled = three_words string_bytes c.args.words.now c.first-item-then-words-lt4.result c.second-item-then-words-lt4.result c.third-item.result
    c.first-item-then-words-lt4.is c.second-item-then-words-lt4.is c.third-item.is
    (omega (arith, c.in-len3.len_at_least)) (omega (arith, c.in-len3.len_below)) in
    let e : c.deref-in-len3.result.now ∷ c.deref-in-len3-2.result.now ∷ c.deref-in-len3-3.result.now ∷ [] ≡ map string_bytes c.args.words.now = search rules in
    record { no_command = subst (λ (words : List Text). IfSome c.page_of_three.result (λ page. AreOfNone words)) e c.page_of_three.ensures }
