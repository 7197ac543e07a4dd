-- An item that was answered.
use Rattle.std.proofs.Common.{◌≡◌, inl, inr, ℕ, ◌<◌, List, [], ◌∷◌, length, take, refl, sym, ap, ◌∙◌, Option, Result, Ok, Err, subst}
use Rattle.std.specs.Prelude.{OnOk, OnErr}
use Rattle.mc_outside.specs.declared.link.LinkFault.{LinkFault}
use Rattle.mc_outside.specs.LinkView.{LinkView, after_send, Failed}
use Rattle.millicent_http.specs.declared.item.After.{After}
use Rattle.millicent_http.specs.declared.item.After.TheVariants as afters
use Rattle.millicent_http.specs.Items.{Item}
use Rattle.millicent_http.specs.declared.clock.Clock.{Clock}
use Rattle.millicent_http.specs.Courses.{AreRead, with_readings}
use Rattle.millicent_http.specs.Steps.{StepRelation}
use Rattle.link_turns.specs.declared.turn.Turn.{Turn}
use Rattle.link_turns.specs.declared.turn.Turn.TheVariants.{GoOn, Last, End, NotReceived, NotSent}
use Rattle.link_turns.specs.Sending.{Sends}
use Rattle.link_turns.specs.Turns.{AnsweredItem, Sent, turn_after}

-- sending reads no clock
sent_readings : (after : After) (reply : List ℕ) (turn : Turn) (part : List ℕ) (before link : LinkView) → Sent after reply turn part before link → link.readings ≡ before.readings
sent_readings after reply GoOn part before link sent = ap (λ (v : LinkView). v.readings) sent.2
sent_readings after reply Last part before link sent = ap (λ (v : LinkView). v.readings) sent.2
sent_readings after reply End part before link sent = absurd sent
sent_readings after reply NotReceived part before link sent = absurd sent
sent_readings after reply NotSent part before link sent = ap (λ (v : LinkView). v.readings) sent.3.same

-- a reply was sent, or a prefix of it
pub sent_so : (after : After) (reply : List ℕ) (r : Result (Unit {0}) LinkFault) (v w : LinkView) → OnOk r (w ≡ after_send reply v) → OnErr r ((n : ℕ) × (n < length reply) × Failed (after_send (take n reply) v) w)
    → (part : List ℕ) × Sent after reply (turn_after r after) part v w
sent_so afters.GoOn reply (Ok u) v w sent fault = (reply, ((λ e. absurd (cc e)), refl, sent))
sent_so afters.Close reply (Ok u) v w sent fault = (reply, (refl, refl, sent))
sent_so afters.GoOn reply (Err e) v w sent fault = (take fault.0 reply, (fault.0, fault.1, refl, fault.2))
sent_so afters.Close reply (Err e) v w sent fault = (take fault.0 reply, (fault.0, fault.1, refl, fault.2))

-- the sessions after it are those of what was sent
pub sent_sessions : (after : After) (reply part : List ℕ) (turn : Turn) (v w : LinkView) → Sent after reply turn part v w → w.sessions ≡ (after_send part v).sessions
sent_sessions after reply part GoOn v w sent = ap (λ (u : LinkView). u.sessions) sent.2
sent_sessions after reply part Last v w sent = ap (λ (u : LinkView). u.sessions) sent.2
sent_sessions after reply part End v w sent = absurd sent
sent_sessions after reply part NotReceived v w sent = absurd sent
sent_sessions after reply part NotSent v w sent = ap (λ (u : LinkView). u.sessions) sent.3.same

-- ---- where the disk failed

-- the refusal that tells so was sent, or a prefix of it
pub sends_so : (reply : List ℕ) (r : Result (Unit {0}) LinkFault) (v w : LinkView) → OnOk r (w ≡ after_send reply v) → OnErr r ((n : ℕ) × (n < length reply) × Failed (after_send (take n reply) v) w)
    → (said : List ℕ) × Sends reply said v w
sends_so reply (Ok u) v w sent fault = (reply, inl (refl, sent))
sends_so reply (Err e) v w sent fault = (take fault.0 reply, inr (fault.0, fault.1, refl, fault.2))

pub said_sessions : (reply said : List ℕ) (v w : LinkView) → Sends reply said v w → w.sessions ≡ (after_send said v).sessions
said_sessions reply said v w (inl sent) = ap (λ (u : LinkView). u.sessions) sent.1 ∙ ap (λ (l : List ℕ). (after_send l v).sessions) (sym sent.0)
said_sessions reply said v w (inr fault) = ap (λ (u : LinkView). u.sessions) fault.3.same

-- sending reads no clock
pub said_readings : (reply said : List ℕ) (v w : LinkView) → Sends reply said v w → w.readings ≡ v.readings
said_readings reply said v w (inl sent) = ap (λ (u : LinkView). u.readings) sent.1
said_readings reply said v w (inr fault) = ap (λ (u : LinkView). u.readings) fault.3.same

-- ---- an item

-- the clock was read, the item was answered, and its reply was sent, or not the whole of it
pub item_answered : {S : Type 0} (Step : StepRelation S) (clock : Clock) (item : Item) (after : After) (turn : Turn) (s t : S) (before mid link : LinkView) (reading : ℕ) (reply part : List ℕ)
    → AreRead clock (reading ∷ []) before.readings mid.readings → mid ≡ with_readings mid.readings before → Step s reading item reply t → Sent after reply turn part mid link
    → AnsweredItem Step clock item after turn (record { sent = part; after = t }) s before link
item_answered Step clock item after turn s t before mid link reading reply part read rest step sent =
    let readings : link.readings ≡ mid.readings = sent_readings after reply turn part mid link sent in
    record {
      reply = reply;
      replied = record {
        readings = reading ∷ [];
        read = subst (λ (r : Option (List ℕ)). AreRead clock (reading ∷ []) before.readings r) (sym readings) read;
        ran = (step, tt);
      };
      sent = subst (λ (v : LinkView). Sent after reply turn part v link) (rest ∙ ap (λ (r : Option (List ℕ)). with_readings r before) (sym readings)) sent;
    }
