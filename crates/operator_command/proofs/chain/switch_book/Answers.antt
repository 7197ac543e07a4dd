use Rattle.std.proofs.Common.{◌≡◌, List, ℕ, ◌++◌, length, ap, ◌∙◌}
use Rattle.mc_records.specs.Chains.{chain}
use Rattle.ledger_model.specs.Houses.{site_name}
use Rattle.house_core.specs.Tasks.{TellsAdded}
use Rattle.said_lines.specs.Lines.{chain_words, chain_end, chain_line}
use Rattle.operator_command.proofs.CommandLemmas.{back_as, performs_shown, if_done, known_shown, refused_as}
use Rattle.operator_command.proofs.chain.switch_book.Goals as goal

pub returns-clause-back : goal.returns-clause-back
returns-clause-back g c = rw c.without_answer.ensures (back_as g.D.Disk.disk g.D.Disk.disk_moved _ c.args.house.journal.disk c.switch-switched.result c.switch-switched.ensures.back)

pub returns-clause-exact : goal.returns-clause-exact
returns-clause-exact g c h input st begun =
    let line : List ℕ = c.end_by_house.new.line.items in
    let bare = c.lay_bare.ensures.words (chain_words (site_name h)) begun in
    rw c.without_answer.ensures
    (performs_shown g.D.Disk.disk g.T.Trade.trade _ TellsAdded (λ x. line ≡ chain_line (site_name h) (length x) (chain x)) _ c.args.house.journal.disk h c.switch-switched.result
    (λ x. if_done c.switch-switched.result _ _ (λ house shown represents. shown represents ∙ ap (λ (words : List ℕ). words ++ chain_end (length x) (chain x)) bare) (c.end_by_house.ensures x))
    (c.switch-switched.ensures.exact h st))

pub returns-clause-refusals : goal.returns-clause-refusals
returns-clause-refusals g c = rw c.without_answer.ensures (refused_as _ c.switch-switched.result c.switch-switched.ensures.refusals)

pub end_by_house-requires-clause-known : goal.end_by_house-requires-clause-known
end_by_house-requires-clause-known g c = known_shown c.switch-switched.result _ c.switch-switched.ensures.known
