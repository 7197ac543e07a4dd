-- One call more on a tape.
use Rattle.std.proofs.Common.{◌≡◌, ℕ, List, [], ◌∷◌, ◌++◌, refl, sym, ◌∙◌, ap, subst, take, length, replicate, Bool, true, false, not, ◌≢◌, arith}
use Rattle.std.proofs.lemmas.List.{map-append}
use Rattle.std.specs.Prelude.{map, ◌==◌, slice_get, option_map, Option}
use Rattle.std.proofs.lemmas.Option.{slice_get-map}
use Rattle.std.proofs.lemmas.Bool.Decides.{nat_tests}
use Rattle.mc_outside.specs.Bytes.{put}
use Rattle.mc_outside.specs.LinkView.{Session, on_last, hear, send, ended, fresh}
use Rattle.mc_stage.specs.Lists.{unsynced, at_last}
use Rattle.mc_stage.specs.Model.{Entry, Put, Cut, Sync, Take, Hear, End, Send, Model, start, step, run, run-append, last_to_end}
use Rattle.mc_stage.specs.Tape.{IsPlayed, entry_of, sent_of}
use Rattle.mc_stage.specs.declared.tape.Event.{Event}

-- what is kept beside the record
pub record Kept : Type 0 where
  pub bytes : List ℕ
  pub kept : List ℕ
  pub marks : List Bool
  pub sent : List (List ℕ)
  pub at_end : Bool

abbrev pub kept_of : Model → Kept
kept_of m = record { bytes = m.contents; kept = m.synced; marks = m.marks; sent = sent_of m.sessions; at_end = last_to_end m.sessions }

abbrev pub any : List (List ℕ) → Bool
any [] = false
any (x ∷ xs) = true

pub any_length : {V : Type 0} (f : V → List ℕ) (xs : List V) (n : ℕ) → n ≡ length xs → not (n == 0) ≡ any (map f xs)
any_length f [] n is = ap (λ (k : ℕ). not (k == 0)) is
any_length f (x ∷ xs) n is = let some : n ≢ 0 = omega (arith, is) in grind (arith, nat_tests)

-- what is kept after one call more
abbrev pub after : Entry → Kept → Kept
after (Put a b) k = record k { bytes = put a b k.bytes; marks = unsynced a (length b) k.marks }
after (Cut n) k = record k { bytes = take n k.bytes; marks = take n k.marks }
after Sync k = record k { kept = k.bytes; marks = replicate (length k.bytes) true }
after Take k = record k { sent = k.sent ++ [] ∷ []; at_end = false }
after (Hear b) k = k
after End k = record k { at_end = any k.sent }
after (Send b) k = record k { sent = at_last (λ x. x ++ b) k.sent }

pub take_end : (ss : List Session) → last_to_end (ss ++ fresh ∷ []) ≡ false
take_end [] = refl
take_end (s ∷ []) = refl
take_end (s ∷ t ∷ ss) = take_end (t ∷ ss)

hear_sent : (b : List ℕ) (ss : List Session) → sent_of (on_last (hear b) ss) ≡ sent_of ss
hear_sent b [] = refl
hear_sent b (s ∷ []) = refl
hear_sent b (s ∷ t ∷ ss) = ap (λ (l : List (List ℕ)). s.sent ∷ l) (hear_sent b (t ∷ ss))

pub hear_end : (b : List ℕ) (ss : List Session) → last_to_end (on_last (hear b) ss) ≡ last_to_end ss
hear_end b [] = refl
hear_end b (s ∷ []) = refl
hear_end b (s ∷ t ∷ []) = refl
hear_end b (s ∷ t ∷ u ∷ ss) = hear_end b (t ∷ u ∷ ss)

end_sent : (ss : List Session) → sent_of (on_last ended ss) ≡ sent_of ss
end_sent [] = refl
end_sent (s ∷ []) = refl
end_sent (s ∷ t ∷ ss) = ap (λ (l : List (List ℕ)). s.sent ∷ l) (end_sent (t ∷ ss))

pub end_end : (ss : List Session) → last_to_end (on_last ended ss) ≡ any (sent_of ss)
end_end [] = refl
end_end (s ∷ []) = refl
end_end (s ∷ t ∷ []) = refl
end_end (s ∷ t ∷ u ∷ ss) = end_end (t ∷ u ∷ ss)

send_sent : (b : List ℕ) (ss : List Session) → sent_of (on_last (send b) ss) ≡ at_last (λ x. x ++ b) (sent_of ss)
send_sent b [] = refl
send_sent b (s ∷ []) = refl
send_sent b (s ∷ t ∷ ss) = ap (λ (l : List (List ℕ)). s.sent ∷ l) (send_sent b (t ∷ ss))

pub send_end : (b : List ℕ) (ss : List Session) → last_to_end (on_last (send b) ss) ≡ last_to_end ss
send_end b [] = refl
send_end b (s ∷ []) = refl
send_end b (s ∷ t ∷ []) = refl
send_end b (s ∷ t ∷ u ∷ ss) = send_end b (t ∷ u ∷ ss)

step_kept : (e : Entry) (m : Model) → kept_of (step e m) ≡ after e (kept_of m)
step_kept (Put a b) m = refl
step_kept (Cut n) m = refl
step_kept Sync m = refl
step_kept Take m = λ i. record (kept_of m) { sent = map-append (λ (s : Session). s.sent) m.sessions (fresh ∷ []) i; at_end = take_end m.sessions i }
step_kept (Hear b) m = λ i. record (kept_of m) { sent = hear_sent b m.sessions i; at_end = hear_end b m.sessions i }
step_kept End m = λ i. record (kept_of m) { sent = end_sent m.sessions i; at_end = end_end m.sessions i }
step_kept (Send b) m = λ i. record (kept_of m) { sent = send_sent b m.sessions i; at_end = send_end b m.sessions i }

abbrev kept : (bytes kept : List ℕ) (marks : List Bool) (sent : List (List ℕ)) (at_end : Bool) → Kept
kept b k m s e = record { bytes = b; kept = k; marks = m; sent = s; at_end = e }

pub play_one : (first : List ℕ) (old new : List Event) (ev : Event) (b1 k1 : List ℕ) (m1 : List Bool) (s1 : List (List ℕ)) (e1 : Bool) (b2 k2 : List ℕ) (m2 : List Bool) (s2 : List (List ℕ)) (e2 : Bool)
    → IsPlayed (record { first = first; calls = map entry_of old }) b1 k1 m1 s1 e1 → new ≡ old ++ ev ∷ []
    → b2 ≡ (after (entry_of ev) (kept b1 k1 m1 s1 e1)).bytes → k2 ≡ (after (entry_of ev) (kept b1 k1 m1 s1 e1)).kept → m2 ≡ (after (entry_of ev) (kept b1 k1 m1 s1 e1)).marks
    → s2 ≡ (after (entry_of ev) (kept b1 k1 m1 s1 e1)).sent → e2 ≡ (after (entry_of ev) (kept b1 k1 m1 s1 e1)).at_end
    → IsPlayed (record { first = first; calls = map entry_of new }) b2 k2 m2 s2 e2
play_one first old new ev b1 k1 m1 s1 e1 b2 k2 m2 s2 e2 inv is eb ek em es ee =
    let calls : map entry_of new ≡ map entry_of old ++ entry_of ev ∷ [] = ap (λ (l : List Event). map entry_of l) is ∙ map-append entry_of old (ev ∷ []) in
    let m = run (map entry_of old) (start first) in
    let whole : ◌≡◌ {1} {A = Model} (run (map entry_of new) (start first)) (step (entry_of ev) m) = ap (λ (l : List Entry). run l (start first)) calls ∙ run-append (map entry_of old) (entry_of ev ∷ []) (start first) in
    let before : kept b1 k1 m1 s1 e1 ≡ kept_of m = λ i. record { bytes = inv.contents i; kept = inv.synced i; marks = inv.marks i; sent = inv.sent i; at_end = inv.at_end i } in
    let next : kept b2 k2 m2 s2 e2 ≡ after (entry_of ev) (kept b1 k1 m1 s1 e1) = λ i. record { bytes = eb i; kept = ek i; marks = em i; sent = es i; at_end = ee i } in
    let all : kept b2 k2 m2 s2 e2 ≡ kept_of (run (map entry_of new) (start first)) = next ∙ ap (after (entry_of ev)) before ∙ sym (step_kept (entry_of ev) m) ∙ ap kept_of (sym whole) in
    record {
      contents = ap (λ (k : Kept). k.bytes) all;
      synced = ap (λ (k : Kept). k.kept) all;
      marks = ap (λ (k : Kept). k.marks) all;
      sent = ap (λ (k : Kept). k.sent) all;
      at_end = ap (λ (k : Kept). k.at_end) all;
    }

-- a call that was taken back
pub play_same : (first : List ℕ) (old new : List Event) (b k : List ℕ) (m : List Bool) (s s2 : List (List ℕ)) (e : Bool)
    → IsPlayed (record { first = first; calls = map entry_of old }) b k m s e → new ≡ old → s2 ≡ s
    → IsPlayed (record { first = first; calls = map entry_of new }) b k m s2 e
play_same first old new b k m s s2 e inv is same =
    let moved : IsPlayed (record { first = first; calls = map entry_of new }) b k m s e = subst (λ (l : List Event). IsPlayed (record { first = first; calls = map entry_of l }) b k m s e) (sym is) inv in
    subst (λ (l : List (List ℕ)). IsPlayed (record { first = first; calls = map entry_of new }) b k m l e) (sym same) moved

-- the bytes sent on one link
pub sent_at : {V : Type 0} (f : V → List ℕ) (xs : List V) (ss : List Session) (link : ℕ) (o : Option V) → map f xs ≡ sent_of ss → slice_get xs link ≡ o → option_map f o ≡ option_map (λ (s : Session). s.sent) (slice_get ss link)
sent_at f xs ss link o e is = ap (option_map f) (sym is) ∙ sym (slice_get-map f xs link) ∙ ap (λ (l : List (List ℕ)). slice_get l link) e ∙ slice_get-map (λ (s : Session). s.sent) ss link
