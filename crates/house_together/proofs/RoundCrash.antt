-- What a crash leaves of one round: its entries were committed, and then its replies were sent.
use Rattle.std.proofs.Common.{inl, inr, ◌≡◌, ℕ, List, [], ◌∷◌, ◌++◌, refl, sym, ap, ap₂, ◌∙◌, subst, append_assoc, append-nil}
use Rattle.std.specs.Prelude.{IsSome}
use Rattle.std.proofs.lemmas.Bool.{cases_eq}
use Rattle.mc_outside.specs.DiskView.{DiskView, LinkKeeps, Ran}
use Rattle.mc_outside.specs.LinkView.{LinkView}
use Rattle.mc_records.specs.Entry.{Entry}
use Rattle.ledger_model.specs.Histories.{History}
use Rattle.scrip_journal.specs.Layout.{Encodes}
use Rattle.scrip_journal.specs.Batches.{AllOrNone}
use Rattle.millicent_http.specs.Steps.{Did, sent_of, state_after}
use Rattle.link_slots.specs.SlotsView.{SlotsView}
use Rattle.link_turns.specs.declared.turn.Turn.{Turn}
use Rattle.link_turns.specs.declared.turn.Turn.TheVariants as turns
use Rattle.link_rounds.specs.Rounds.{MovedByRounds}
use Rattle.link_rounds.proofs.RoundLemmas.{round_moved}
use Rattle.house_together.specs.declared.replies.Due.{Due}
use Rattle.house_together.specs.Replying.{RepliesDue, RepliesRound, NoneDue, reply_in, left_by, AllTell, parts_of, joined, SentParts, FinishesRound, history_of}
use Rattle.scrip_journal.specs.Batches.{InBatch, IsBatch, BatchRests, batch_keeps}
use Rattle.scrip_journal.proofs.BatchSteps.{batch_stands}
use Rattle.house_together.proofs.ReplyingLemmas.{keeps_then, told_sent}

left_told : (turn : Turn) (v : LinkView) → IsSome v.sessions → IsSome (left_by turn v).sessions
left_told turns.GoOn v told = told
left_told turns.Last v told = told
left_told turns.End v told = told
left_told turns.NotReceived v told = told
left_told turns.NotSent v told = told

-- they do after a reply
tell_on : {O : Type 0} (slots : O → SlotsView) (disk : O → DiskView) (d : Due) (reply : List ℕ) (a b : O) (turn : Turn) → RepliesDue slots disk d.slot reply d.after a b turn → AllTell (slots a) → AllTell (slots b)
tell_on slots disk d reply a b turn r told q = elim (cases_eq q d.slot) [
  | inl here ↦ subst (λ (p : ℕ). IsSome ((slots b).slot p).sessions) (sym here)
      (subst (λ (v : LinkView). IsSome v.sessions) (sym r.now) (left_told turn r.link' (told_sent d.after reply r.part turn ((slots a).slot d.slot) r.link' r.sent (told d.slot))))
  | inr other ↦ subst (λ (v : LinkView). IsSome v.sessions) (sym (r.others q other)) (told q)
]

sent_joined : {S : Type 0} (ds : List (Did S)) (ps : List (List ℕ)) → SentParts ds ps → sent_of ds ≡ joined ps
sent_joined [] [] s = refl
sent_joined [] (p ∷ ps) s = absurd s
sent_joined (d ∷ ds) [] s = absurd s
sent_joined (d ∷ ds) (p ∷ ps) s = ap₂ (λ (x y : List ℕ). x ++ y) s.0 (sent_joined ds ps s.1)

module _ {O : Type 0} (slots : O → SlotsView) (disk : O → DiskView) (none : (o : O) → LinkKeeps (disk o) (disk o)) (out : List ℕ) where
  -- the disk stays while they are sent
  pub round_keeps : (ds : List Due) (ts : List Turn) (a c : O) → RepliesRound slots disk out ds ts a c → LinkKeeps (disk a) (disk c)
  round_keeps [] [] a c r = subst (λ (o : O). LinkKeeps (disk a) (disk o)) (sym r) (none a)
  round_keeps [] (t ∷ ts) a c r = absurd r
  round_keeps (d ∷ ds) [] a c r = absurd r
  round_keeps (d ∷ ds) (t ∷ ts) a c r = keeps_then (disk a) (disk r.0) (disk c) r.1.keeps (round_keeps ds ts r.0 c r.2)

  -- what was sent of them is behind all that was sent, in their order
  pub round_aside : (ds : List Due) (ts : List Turn) (a c : O) (r : RepliesRound slots disk out ds ts a c) → AllTell (slots a) → (disk c).aside ≡ (disk a).aside ++ joined (parts_of slots disk out ds ts a c r)
  round_aside [] [] a c r told = ap (λ (o : O). (disk o).aside) r ∙ sym (append-nil (disk a).aside)
  round_aside [] (t ∷ ts) a c r told = absurd r
  round_aside (d ∷ ds) [] a c r told = absurd r
  round_aside (d ∷ ds) (t ∷ ts) a c r told =
      let rest : List ℕ = joined (parts_of slots disk out ds ts r.0 c r.2) in
      round_aside ds ts r.0 c r.2 (tell_on slots disk d (reply_in out d) a r.0 t r.1 told)
      ∙ ap (λ (l : List ℕ). l ++ rest) (r.1.aside (told d.slot))
      ∙ append_assoc (disk a).aside r.1.part rest

  -- a slot on which none is due stays
  pub round_others : (p : ℕ) (ds : List Due) (ts : List Turn) (a c : O) → NoneDue p ds → RepliesRound slots disk out ds ts a c → (slots c).slot p ≡ (slots a).slot p
  round_others p [] [] a c free r = ap (λ (o : O). (slots o).slot p) r
  round_others p [] (t ∷ ts) a c free r = absurd r
  round_others p (d ∷ ds) [] a c free r = absurd r
  round_others p (d ∷ ds) (t ∷ ts) a c free r = round_others p ds ts r.0 c free.1 r.2 ∙ r.1.others p (λ same. free.0 (sym same))

  -- A round, from a house in this state whose disk it was ahead of: its entries were committed, all or none, and then its replies
  -- were sent. Each crash pair is in order by rounds: the round is there whole or not at all, and with any byte of its replies whole.
  pub round_crash : {S : Type 0} (history : S → History) (s : S) (steps : List (Did S)) (es : List Entry) (ds : List Due) (ts : List Turn) (a b c : O) (r : RepliesRound slots disk out ds ts b c)
      → history (state_after s steps) ≡ history s ++ es → SentParts steps (parts_of slots disk out ds ts b c r)
      → Ran (disk a) (disk b) (AllOrNone (history s) es (disk a).aside) → (disk b).aside ≡ (disk a).aside
      → ((i : List ℕ) → (disk a).leaves i → Encodes (history s) i) → ((i : List ℕ) → (disk b).leaves i → Encodes (history s ++ es) i)
      → MovedByRounds history (AllTell (slots b)) (disk a) (disk c) s (steps ∷ [])
  round_crash history s steps es ds ts a b c r has sent commits still before after =
      round_moved history (AllTell (slots b)) (disk a) (disk a) (disk b) (disk c) s steps es has (none a) (λ t. refl) commits still (round_keeps ds ts b c r)
      (λ told. round_aside ds ts b c r told ∙ ap (λ (l : List ℕ). (disk b).aside ++ l) (sym (sent_joined steps (parts_of slots disk out ds ts b c r) sent))) before after

  -- from what committing and sending promise
  pub finishes : (a : InBatch O) (b c : InBatch O) (h es : History) (ds : List Due) (ts : List Turn) (r : RepliesRound slots disk out ds ts b.disk c.disk) → IsBatch disk a h es → IsBatch disk b (h ++ es) [] → BatchRests b c
      → Ran (disk a.disk) (disk b.disk) (AllOrNone h es (disk a.disk).aside) → (disk b.disk).aside ≡ (disk a.disk).aside → FinishesRound slots disk out ds a.disk h es c
  finishes a b c h es ds ts r was stands rests commits still = record {
    stands = batch_keeps disk b c (h ++ es) [] stands (round_keeps ds ts b.disk c.disk r) rests;
    committed = b.disk;
    turns = ts;
    replied = r;
    moved = λ s steps from to sent.
        let here : h ≡ s.history = sym from in
        let ran : Ran (disk a.disk) (disk b.disk) (AllOrNone s.history es (disk a.disk).aside) = subst (λ (k : History). Ran (disk a.disk) (disk b.disk) (AllOrNone k es (disk a.disk).aside)) here commits in
        round_crash history_of s steps es ds ts a.disk b.disk c.disk r (to ∙ ap (λ (k : History). k ++ es) here) sent ran still
        (λ i l. subst (λ (k : History). Encodes k i) here (batch_stands disk a h es was i l))
        (λ i l. subst (λ (k : History). Encodes (k ++ es) i) here (batch_stands disk b (h ++ es) [] stands i l));
  }
