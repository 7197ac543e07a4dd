-- How what is received and sent on a link is joined.
use Rattle.std.proofs.Common.{◌≡◌, ◌⊎◌, inl, inr, ℕ, List, [], ◌∷◌, ◌++◌, refl, sym, ◌∙◌, ap, append_assoc, Option, Some, None}
use Rattle.std.specs.Prelude.{option_map, IsTrue}
use Rattle.std.proofs.lemmas.List.{append-nil}
use Rattle.mc_outside.specs.LinkView.{Session, LinkView, IsLink, on_last, hear, send, after_recv, after_send, all_sent}

on_last-none : (ss : List Session) → on_last (send []) ss ≡ ss
on_last-none [] = refl
on_last-none (s ∷ []) = ap (λ (l : List ℕ). record s { sent = l } ∷ []) (append-nil s.sent)
on_last-none (s ∷ t ∷ ss) = ap (λ (l : List Session). s ∷ l) (on_last-none (t ∷ ss))

on_last-more : (ss : List Session) (x y : List ℕ) → on_last (send y) (on_last (send x) ss) ≡ on_last (send (x ++ y)) ss
on_last-more [] x y = refl
on_last-more (s ∷ []) x y = ap (λ (l : List ℕ). record s { sent = l } ∷ []) (append_assoc s.sent x y)
on_last-more (s ∷ t ∷ []) x y = ap (λ (l : List Session). s ∷ l) (on_last-more (t ∷ []) x y)
on_last-more (s ∷ t ∷ u ∷ ss) x y = ap (λ (l : List Session). s ∷ l) (on_last-more (t ∷ u ∷ ss) x y)

maps-none : (o : Option (List Session)) → option_map (on_last (send [])) o ≡ o
maps-none None = refl
maps-none (Some ss) = ap (λ (l : List Session). Some l) (on_last-none ss)

maps-more : (o : Option (List Session)) (x y : List ℕ) → option_map (on_last (send y)) (option_map (on_last (send x)) o) ≡ option_map (on_last (send (x ++ y))) o
maps-more None x y = refl
maps-more (Some ss) x y = ap (λ (l : List Session). Some l) (on_last-more ss x y)

-- nothing sent
pub sent_none : (v : LinkView) → v ≡ after_send [] v
sent_none v = ap (λ (o : Option (List Session)). record v { sessions = o }) (sym (maps-none v.sessions))

-- one piece after another
pub sent_step : (u v w : LinkView) (x y z : List ℕ) → v ≡ after_send x u → w ≡ after_send y v → x ++ y ≡ z → w ≡ after_send z u
sent_step u v w x y z first second is =
    second
    ∙ ap (λ (t : LinkView). after_send y t) first
    ∙ ap (λ (o : Option (List Session)). record u { sessions = o }) (maps-more u.sessions x y)
    ∙ ap (λ (l : List ℕ). after_send l u) is

hear-none : (ss : List Session) → on_last (hear []) ss ≡ ss
hear-none [] = refl
hear-none (s ∷ []) = ap (λ (l : List ℕ). record s { received = l } ∷ []) (append-nil s.received)
hear-none (s ∷ t ∷ ss) = ap (λ (l : List Session). s ∷ l) (hear-none (t ∷ ss))

hear-more : (ss : List Session) (x y : List ℕ) → on_last (hear y) (on_last (hear x) ss) ≡ on_last (hear (x ++ y)) ss
hear-more [] x y = refl
hear-more (s ∷ []) x y = ap (λ (l : List ℕ). record s { received = l } ∷ []) (append_assoc s.received x y)
hear-more (s ∷ t ∷ []) x y = ap (λ (l : List Session). s ∷ l) (hear-more (t ∷ []) x y)
hear-more (s ∷ t ∷ u ∷ ss) x y = ap (λ (l : List Session). s ∷ l) (hear-more (t ∷ u ∷ ss) x y)

hears-none : (o : Option (List Session)) → option_map (on_last (hear [])) o ≡ o
hears-none None = refl
hears-none (Some ss) = ap (λ (l : List Session). Some l) (hear-none ss)

hears-more : (o : Option (List Session)) (x y : List ℕ) → option_map (on_last (hear y)) (option_map (on_last (hear x)) o) ≡ option_map (on_last (hear (x ++ y))) o
hears-more None x y = refl
hears-more (Some ss) x y = ap (λ (l : List Session). Some l) (hear-more ss x y)

-- nothing received
pub heard_none : (v : LinkView) → v ≡ after_recv [] v
heard_none v = ap (λ (o : Option (List Session)). record v { sessions = o }) (sym (hears-none v.sessions))

-- one piece after another
pub heard_more : (v : LinkView) (x y : List ℕ) → after_recv y (after_recv x v) ≡ after_recv (x ++ y) v
heard_more v x y = ap (λ (o : Option (List Session)). record v { sessions = o }) (hears-more v.sessions x y)

-- the bytes sent over all links
pub all_sent-more : (ss : List Session) (x : List ℕ) → (all_sent (on_last (send x) ss) ≡ all_sent ss ++ x) ⊎ (ss ≡ [])
all_sent-more [] x = inr refl
all_sent-more (s ∷ []) x = inl (append-nil (s.sent ++ x) ∙ ap (λ (l : List ℕ). l ++ x) (sym (append-nil s.sent)))
all_sent-more (s ∷ t ∷ ss) x = elim (all_sent-more (t ∷ ss) x) [
  | inl e ↦ inl (ap (λ (l : List ℕ). s.sent ++ l) e ∙ sym (append_assoc s.sent (all_sent (t ∷ ss)) x))
  | inr e ↦ absurd (cc e)
]

-- bytes sent on a standing link
pub aside_more : (v : LinkView) (ss : List Session) (x : List ℕ) → IsLink v → IsTrue v.stands → v.sessions ≡ Some ss → all_sent (on_last (send x) ss) ≡ all_sent ss ++ x
aside_more v ss x l stands sessions = elim (all_sent-more ss x) [
  | inl e ↦ e
  | inr e ↦ absurd (l.taken stands (sessions ∙ ap (λ (o : List Session). Some o) e))
]

-- the same of `aside`
pub aside_grows : (v w : LinkView) (a b : List ℕ) (ss : List Session) (x : List ℕ) → IsLink v → IsTrue v.stands → v.sessions ≡ Some ss → w.sessions ≡ option_map (on_last (send x)) v.sessions
    → ((ts : List Session) → v.sessions ≡ Some ts → a ≡ all_sent ts) → ((ts : List Session) → w.sessions ≡ Some ts → b ≡ all_sent ts) → b ≡ a ++ x
aside_grows v w a b ss x l stands sessions sent at_v at_w =
    at_w (on_last (send x) ss) (sent ∙ ap (λ (o : Option (List Session)). option_map (on_last (send x)) o) sessions)
    ∙ aside_more v ss x l stands sessions
    ∙ ap (λ (z : List ℕ). z ++ x) (sym (at_v ss sessions))
