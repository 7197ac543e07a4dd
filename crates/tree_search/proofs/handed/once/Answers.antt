use Rattle.std.proofs.Common.{ℕ, ◌++◌, List, ap, sym, ◌∙◌}
use Rattle.audit_model.specs.declared.part.Part.{Part}
use Rattle.tree_search.specs.Handed.{fresh}
use Rattle.tree_search.proofs.HandedLaws.{fresh_append}
use Rattle.tree_search.proofs.handed.once.Goals as goal

pub returns-clause-parts : goal.returns-clause-parts
returns-clause-parts c =
    let none = c.new-seen.result.keys in
    let seen = c.keep.new.seen.keys in
    let sold = c.args.sold.now in
    let own = c.args.own.now in
    c.in_ok-keep.ensures.parts
    ∙ ap (λ (l : List Part). l ++ fresh seen own) (c.in_ok-again.ensures.parts ∙ ap (λ (l : List Part). l ++ fresh none sold) c.new-parts.ensures.items)
    ∙ sym (fresh_append none seen sold own c.in_ok-again.ensures.seen)
    ∙ ap (λ (l : List ℕ). fresh l (sold ++ own)) c.new-seen.ensures.empty
