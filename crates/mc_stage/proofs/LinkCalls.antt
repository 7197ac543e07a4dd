-- What one call of Link promises of a stage.
use Rattle.std.proofs.Common.{◌≡◌, ℕ, ◌≤◌, List, [], ◌∷◌, ◌++◌, refl, sym, ◌∙◌, ap, subst, arith, Some, Bool, true, false, ◌&&◌}
use Rattle.std.specs.Prelude.{IsTrue}
use Rattle.std.proofs.lemmas.List.{append-nil}
use Rattle.mc_outside.specs.LinkView.{Session, on_last, hear, send, ended, fresh, after_send, after_recv, after_eof, next_taken}
use Rattle.mc_stage.specs.Model.{Entry, Take, Hear, End, Send, Model, start, step, run-append, Trace, model, is_taken, last_to_end, link_of, IsLinkEntry, LinkMoved}
use Rattle.mc_stage.specs.Tape.{Played, push_call}
use Rattle.mc_stage.proofs.Calls.{here}
use Rattle.mc_stage.proofs.Plays.{take_end, hear_end, send_end}

-- one call of Link, which may set the three flags and the count
abbrev pub linked : Trace → Played → Bool → Trace
linked t p stands = record t { base = p.first; log = p.calls; stands = stands }

module _ (t : Trace) (p : Played) (e : Entry) (kind : IsLinkEntry e) (more : p ≡ push_call e (here t)) (stands : Bool) where
  pub linked_moved : LinkMoved t (linked t p stands)
  linked_moved = subst (λ (q : Played). LinkMoved t (linked t q stands)) (sym more)
      (record { base = refl; more = e ∷ []; log = refl; kind = (kind, tt); faults = refl; link_faults = omega arith; over = λ o. o; readings = λ o. o })

  pub linked_view : link_of (linked t p stands) ≡ record (link_of t) { sessions = Some (step e (model t)).sessions; stands = stands && is_taken (step e (model t)).sessions; at_end = last_to_end (step e (model t)).sessions }
  linked_view = subst (λ (q : Played). link_of (linked t q stands) ≡ record (link_of t) { sessions = Some (step e (model t)).sessions; stands = stands && is_taken (step e (model t)).sessions; at_end = last_to_end (step e (model t)).sessions }) (sym more)
      (ap (λ (m : Model). record (link_of t) { sessions = Some m.sessions; stands = stands && is_taken m.sessions; at_end = last_to_end m.sessions }) (run-append t.log (e ∷ []) (start t.base)))

taken_last : (f : Session → Session) (ss : List Session) → is_taken (on_last f ss) ≡ is_taken ss
taken_last f [] = refl
taken_last f (s ∷ []) = refl
taken_last f (s ∷ u ∷ ss) = refl

taken_more : (ss : List Session) → is_taken (ss ++ fresh ∷ []) ≡ true
taken_more [] = refl
taken_more (s ∷ ss) = refl

ended_last : (b : Bool) (ss : List Session) → IsTrue (b && is_taken ss) → last_to_end (on_last ended ss) ≡ true
ended_last true [] s = absurd (cc s)
ended_last false [] s = absurd (cc s)
ended_last b (s ∷ []) i = refl
ended_last b (s ∷ u ∷ []) i = refl
ended_last b (s ∷ u ∷ v ∷ ss) i = ended_last b (u ∷ v ∷ ss) i

pub sent_view : (t : Trace) (p : Played) (bytes out : List ℕ) → p ≡ push_call (Send bytes) (here t) → out ≡ bytes
    → link_of (linked t p t.stands) ≡ after_send out (link_of t)
sent_view t p bytes out more is =
    linked_view t p (Send bytes) tt more t.stands
    ∙ (λ i. record (link_of t) { sessions = Some (on_last (send bytes) (model t).sessions); stands = t.stands && taken_last (send bytes) (model t).sessions i; at_end = send_end bytes (model t).sessions i })
    ∙ ap (λ (l : List ℕ). after_send l (link_of t)) (sym is)

pub heard_view : (t : Trace) (p : Played) (bytes out : List ℕ) → p ≡ push_call (Hear bytes) (here t) → out ≡ bytes
    → link_of (linked t p t.stands) ≡ after_recv out (link_of t)
heard_view t p bytes out more is =
    linked_view t p (Hear bytes) tt more t.stands
    ∙ (λ i. record (link_of t) { sessions = Some (on_last (hear bytes) (model t).sessions); stands = t.stands && taken_last (hear bytes) (model t).sessions i; at_end = hear_end bytes (model t).sessions i })
    ∙ ap (λ (l : List ℕ). after_recv l (link_of t)) (sym is)

pub end_view : (t : Trace) (p : Played) → p ≡ push_call End (here t) → IsTrue (link_of t).stands
    → link_of (linked t p t.stands) ≡ after_eof (link_of t)
end_view t p more stands =
    linked_view t p End tt more t.stands
    ∙ (λ i. record (link_of t) { sessions = Some (on_last ended (model t).sessions); stands = t.stands && taken_last ended (model t).sessions i; at_end = ended_last t.stands (model t).sessions stands i })

pub take_view : (t : Trace) (p : Played) → p ≡ push_call Take (here t)
    → link_of (linked t p true) ≡ next_taken (link_of t)
take_view t p more =
    linked_view t p Take tt more true
    ∙ (λ i. record (link_of t) { sessions = Some ((model t).sessions ++ fresh ∷ []); stands = true && taken_more (model t).sessions i; at_end = take_end (model t).sessions i })

-- a call that failed
pub link_failed : (t : Trace) (p : Played) (n : ℕ) → p ≡ here t → t.link_faults ≤ n → LinkMoved t (record t { base = p.first; log = p.calls; link_faults = n })
link_failed t p n same le = subst (λ (q : Played). LinkMoved t (record t { base = q.first; log = q.calls; link_faults = n })) (sym same)
    (record { base = refl; more = []; log = sym (append-nil t.log); kind = tt; faults = refl; link_faults = le; over = λ o. o; readings = λ o. o })
