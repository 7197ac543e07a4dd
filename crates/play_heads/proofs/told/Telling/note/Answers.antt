use Rattle.std.proofs.Common.{subst, sym}
use Rattle.play_heads.specs.Standing.{IsStanding}
use Rattle.play_heads.proofs.TellingLaws.{noted_stands}
use Rattle.play_heads.proofs.told.Telling.note.Goals as goal

pub invariant_of-self : goal.invariant_of-self
invariant_of-self c = record {
  standing = subst IsStanding (sym c.then-self.ensures) (noted_stands c.args.self.now.told.view c.args.note.now c.args.self.now.standing);
}
