use Rattle.std.proofs.Common.{rules, ◌≡◌, inl, inr, ℕ, List, take}
use Rattle.mc_top.specs.AtDoor.{IsHeard}
use Rattle.mc_top.proofs.at_door.ask_door.Goals as goal

pub returns-in-Ok-clause-none : goal.returns-in-Ok-clause-none
returns-in-Ok-clause-none g c none =
    let answer : List ℕ = take c.in-Ok.n c.exchange-heard.new.room in
    let heard : IsHeard c.args.told.now answer (g.U.Link.link c.args.door.now) (g.U.Link.link c.end_link.new.self) = search rules in
    inr (inr (inr (answer, heard, λ number line is. absurd (search rules))))
