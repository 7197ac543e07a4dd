-- What is received, sent, read to its end and read of the clock on one link may be told in any order.
use Rattle.std.proofs.Common.{◌≡◌, ℕ, true, List, [], ◌∷◌, ◌++◌, refl, ap, ◌∙◌, Option, Some, None}
use Rattle.std.specs.Prelude.{option_map}
use Rattle.mc_outside.specs.LinkView.{Session, LinkView, on_last, hear, send, ended, after_recv, after_send, after_eof}
use Rattle.mc_outside.proofs.Sessions.{heard_more, sent_step}
use Rattle.millicent_http.specs.Courses.{with_readings}

on_last-swap : (f g : Session → Session) → ((s : Session) → f (g s) ≡ g (f s)) → (ss : List Session) → on_last f (on_last g ss) ≡ on_last g (on_last f ss)
on_last-swap f g same [] = refl
on_last-swap f g same (s ∷ []) = ap (λ (t : Session). t ∷ []) (same s)
on_last-swap f g same (s ∷ t ∷ []) = ap (λ (l : List Session). s ∷ l) (on_last-swap f g same (t ∷ []))
on_last-swap f g same (s ∷ t ∷ u ∷ ss) = ap (λ (l : List Session). s ∷ l) (on_last-swap f g same (t ∷ u ∷ ss))

maps-swap : (f g : Session → Session) → ((s : Session) → f (g s) ≡ g (f s)) → (o : Option (List Session))
    → option_map (on_last f) (option_map (on_last g) o) ≡ option_map (on_last g) (option_map (on_last f) o)
maps-swap f g same None = refl
maps-swap f g same (Some ss) = ap (λ (l : List Session). Some l) (on_last-swap f g same ss)

heard_told : (v : LinkView) (x y : List ℕ) → after_recv x (after_send y v) ≡ after_send y (after_recv x v)
heard_told v x y = ap (λ (o : Option (List Session)). record v { sessions = o }) (maps-swap (hear x) (send y) (λ s. refl) v.sessions)

finished_told : (v : LinkView) (y : List ℕ) → after_eof (after_send y v) ≡ after_send y (after_eof v)
finished_told v y = ap (λ (o : Option (List Session)). record v { sessions = o; at_end = true }) (maps-swap ended (send y) (λ s. refl) v.sessions)

told_more : (v : LinkView) (x y : List ℕ) → after_send y (after_send x v) ≡ after_send (x ++ y) v
told_more v x y = sent_step v (after_send x v) (after_send y (after_send x v)) x y (x ++ y) refl refl refl

-- more was received behind what was received and sent
pub heard_on : (before now : LinkView) (got more sent : List ℕ) (r : Option (List ℕ)) → now ≡ with_readings r (after_send sent (after_recv got before))
    → after_recv more now ≡ with_readings r (after_send sent (after_recv (got ++ more) before))
heard_on before now got more sent r e =
    ap (λ (v : LinkView). after_recv more v) e
    ∙ ap (with_readings r) (heard_told (after_recv got before) more sent)
    ∙ ap (λ (v : LinkView). with_readings r (after_send sent v)) (heard_more before got more)

-- and more was sent, at later readings
pub told_on : (before now : LinkView) (got more sent reply : List ℕ) (r later : Option (List ℕ)) → now ≡ with_readings r (after_send sent (after_recv got before))
    → after_send reply (with_readings later (after_recv more now)) ≡ with_readings later (after_send (sent ++ reply) (after_recv (got ++ more) before))
told_on before now got more sent reply r later e =
    ap (λ (v : LinkView). after_send reply (with_readings later v)) (heard_on before now got more sent r e)
    ∙ ap (with_readings later) (told_more (after_recv (got ++ more) before) sent reply)

-- and the link was read to its end
pub finished_on : (before now : LinkView) (got more sent : List ℕ) (r : Option (List ℕ)) → now ≡ with_readings r (after_send sent (after_recv got before))
    → after_eof (after_recv more now) ≡ with_readings r (after_send sent (after_eof (after_recv (got ++ more) before)))
finished_on before now got more sent r e =
    ap (λ (v : LinkView). after_eof v) (heard_on before now got more sent r e)
    ∙ ap (with_readings r) (finished_told (after_recv (got ++ more) before) sent)
