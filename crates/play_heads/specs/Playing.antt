-- What calls of links in memory lead to.
use Rattle.std.specs.Prelude.{◌≡◌, ℕ, List, [], ◌∷◌, ◌++◌, Option, Some, IsTrue, refl}
use Rattle.std.proofs.Common.{sym, ◌∙◌, arith}
use Rattle.mc_outside.specs.LinkView.{LinkView, Session, IsLink, LinkGoes}
use Rattle.play_heads.specs.Standing.{last_to_end}
use Rattle.play_heads.specs.Receiving.{IsPlaying, IsPlay}
use Rattle.play_heads.specs.declared.heads.Heads.{Heads}

-- how many heads there are
abbrev pub count_of : Heads → ℕ
count_of h = h.count

abbrev pub link_of : Heads → LinkView
link_of h = h.telling.told.view

-- the links give the heads of their play, in order
abbrev pub Plays : Heads → Type 0
Plays h = IsPlaying h.count h.end h.supply h.whole h.clock h.telling.told.view

-- Calls of Link lead from the one to the other: they go on with the same play.
pub record PlaysOn (a b : Heads) : Type 0 where
  pub count : count_of b ≡ count_of a
  pub over : IsTrue (link_of a).over → IsTrue (link_of b).over
  pub plays : Plays a → Plays b

pub plays_stay : (a : Heads) → PlaysOn a a
plays_stay a = record { count = refl; over = λ o. o; plays = λ p. p }

pub plays_then : (a b c : Heads) → PlaysOn a b → PlaysOn b c → PlaysOn a c
plays_then a b c m n = record { count = n.count ∙ m.count; over = λ o. n.over (m.over o); plays = λ p. n.plays (m.plays p) }

same_some : {A : Type 0} (x y : A) → ◌≡◌ {A = Option A} (Some x) (Some y) → x ≡ y
same_some x y e = cc e

last_of : (ss : List Session) (s : Session) → s.to_end ≡ last_to_end (ss ++ s ∷ [])
last_of [] s = refl
last_of (t ∷ []) s = refl
last_of (t ∷ u ∷ ss) s = last_of (u ∷ ss) s

pub plays_is_link : (a : Heads) → IsLink (link_of a)
plays_is_link a = record {
  taken = a.telling.standing.taken;
  last_end = λ ss s stands e. last_of ss s ∙ a.telling.standing.last_end (ss ++ s ∷ []) stands e;
  below = omega (arith, a.telling.standing.faultless);
}

pub plays_goes : (a b : Heads) → PlaysOn a b → LinkGoes (link_of a) (link_of b)
plays_goes a b m = record {
  faults = omega (arith, a.telling.standing.faultless, b.telling.standing.faultless);
  over = m.over;
  tells = b.telling.standing.tells ∙ sym a.telling.standing.tells;
  tells_said = b.telling.standing.tells_said ∙ sym a.telling.standing.tells_said;
  tells_readings = λ s. cc (a.telling.standing.tells_readings);
}

-- What the links of a play told is a play of its heads.
abbrev pub AreHeadsOfPlay : Type 0
AreHeadsOfPlay = (h : Heads) → Plays h → IsPlay (count_of h) (link_of h)
