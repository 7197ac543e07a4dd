-- The lines of pieces that may be sold on, as they are said.
use Rattle.std.proofs.Common.{◌≡◌, ◌∙◌, ℕ, List, [], ◌++◌, length, ap, arith}
use Rattle.command_status.specs.declared.status.Status.TheVariants as ends
use Rattle.wallet_model.specs.Asks.{Offered}
use Rattle.held_lines.specs.Resold.{AreAppended, lines_of}
use Rattle.wallet_commands.specs.Listing.{SaysHeld}

-- those that were appended to none are all
pub said_lines : (os : List Offered) (old new : List ℕ) (count : ℕ) → old ≡ [] → AreAppended os old new count → SaysHeld os (ends.Did new)
said_lines os old new count empty is = (λ none. let long = ap length none in omega (arith, is.some, is.counted, long), is.appended ∙ ap (λ (o : List ℕ). o ++ lines_of os) empty)
