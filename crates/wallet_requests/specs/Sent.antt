-- The requests of a wallet that can be sent.
use Rattle.std.specs.Prelude.{IfSome}
use Rattle.scrip_form.specs.Texts.{IsName, IsTarget}
use Rattle.scrip_form.specs.Scrip.{IsScripText}
use Rattle.wallet_model.specs.Requests.{Pending}

-- each part is in its range
pub record CanBeSent (p : Pending) : Type 0 where
  pub peer : IsName p.peer
  pub target : IsTarget p.target
  pub scrip : IfSome p.scrip IsScripText
