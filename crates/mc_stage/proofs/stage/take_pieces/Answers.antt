use Rattle.std.proofs.Common.{◌∙◌, sym, ap, drop, List, ℕ}
use Rattle.mc_stage.specs.Scenario.{without_empty, first_link, links_of}
use Rattle.mc_stage.proofs.Links.{links_last}
use Rattle.mc_stage.proofs.stage.take_pieces.Goals as goal

pub returns-in-Some-clause-pieces : goal.returns-in-Some-clause-pieces
returns-in-Some-clause-pieces c =
    c.of.ensures ∙ ap (λ (l : List (List (List ℕ))). without_empty (first_link l)) (sym (ap links_of c.in-Some.ensures.items ∙ links_last c.pop.new.self.items c.in-Some.pieces))

pub returns-in-Some-clause-links : goal.returns-in-Some-clause-links
returns-in-Some-clause-links c = ap (λ (l : List (List (List ℕ))). drop 1 l) (sym (ap links_of c.in-Some.ensures.items ∙ links_last c.pop.new.self.items c.in-Some.pieces))
