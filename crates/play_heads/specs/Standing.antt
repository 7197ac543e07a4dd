-- What holds of all that links in memory tell.
use Rattle.std.specs.Prelude.{◌≡◌, ◌≢◌, Bool, true, false, List, [], ◌∷◌, Some, is_some, IsTrue}
use Rattle.mc_outside.specs.LinkView.{LinkView, Session}

-- whether the last link was read to its end
abbrev pub last_to_end : List Session → Bool
last_to_end [] = false
last_to_end (s ∷ []) = s.to_end
last_to_end (s ∷ t ∷ ss) = last_to_end (t ∷ ss)

-- All is told, the standing link is the last one taken, and no call failed.
pub record IsStanding (v : LinkView) : Type 0 where
  pub tells : is_some v.sessions ≡ true
  pub tells_said : is_some v.said ≡ true
  pub tells_readings : is_some v.readings ≡ true
  pub taken : IsTrue v.stands → v.sessions ≢ Some []
  pub last_end : (ss : List Session) → IsTrue v.stands → v.sessions ≡ Some ss → last_to_end ss ≡ v.at_end
  pub faultless : v.faults ≡ 0
