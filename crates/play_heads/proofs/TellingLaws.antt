-- What holds of all that is told, after each call.
use Rattle.std.proofs.Common.{◌≡◌, ◌≢◌, List, [], ◌∷◌, ◌++◌, Bool, true, false, Option, Some, None, is_some, option_map, refl, sym, ◌∙◌, ap}
use Rattle.mc_outside.specs.LinkView.{LinkView, Session, on_last, hear, send, ended, fresh}
use Rattle.play_heads.specs.Standing.{last_to_end, IsStanding}
use Rattle.play_heads.specs.Telling.{noted}
use Rattle.play_heads.specs.declared.told.Note.{Note}
use Rattle.play_heads.specs.declared.told.Note.TheVariants as note

same_some : (x y : List Session) → ◌≡◌ {A = Option (List Session)} (Some x) (Some y) → x ≡ y
same_some x y e = cc e

still_told : {A : Type 0} (f : A → A) (o : Option A) → is_some o ≡ true → is_some (option_map f o) ≡ true
still_told f None h = h
still_told f (Some x) h = refl

-- ---- one link more

taken_some : (o : Option (List Session)) → option_map (λ ss. ss ++ fresh ∷ []) o ≢ Some []
taken_some None e = absurd cc
taken_some (Some []) e = absurd cc
taken_some (Some (s ∷ ss)) e = absurd cc

last_fresh : (ts : List Session) → last_to_end (ts ++ fresh ∷ []) ≡ false
last_fresh [] = refl
last_fresh (s ∷ []) = refl
last_fresh (s ∷ t ∷ ts) = last_fresh (t ∷ ts)

taken_end : (o : Option (List Session)) (ss : List Session) → option_map (λ ts. ts ++ fresh ∷ []) o ≡ Some ss → last_to_end ss ≡ false
taken_end None ss e = absurd cc
taken_end (Some ts) ss e = ap last_to_end (sym (same_some _ _ e)) ∙ last_fresh ts

-- ---- the last link changed

changed_some : (f : Session → Session) (o : Option (List Session)) → o ≢ Some [] → option_map (on_last f) o ≢ Some []
changed_some f None h e = absurd cc
changed_some f (Some []) h e = h refl
changed_some f (Some (s ∷ [])) h e = absurd cc
changed_some f (Some (s ∷ t ∷ ss)) h e = absurd cc

kept_end : (f : Session → Session) → ((s : Session) → (f s).to_end ≡ s.to_end) → (ts : List Session) → last_to_end (on_last f ts) ≡ last_to_end ts
kept_end f k [] = refl
kept_end f k (s ∷ []) = k s
kept_end f k (s ∷ t ∷ []) = k t
kept_end f k (s ∷ t ∷ u ∷ ts) = kept_end f k (t ∷ u ∷ ts)

changed_end : (f : Session → Session) → ((s : Session) → (f s).to_end ≡ s.to_end) → (o : Option (List Session)) (b : Bool)
    → ((ts : List Session) → o ≡ Some ts → last_to_end ts ≡ b) → (ss : List Session) → option_map (on_last f) o ≡ Some ss → last_to_end ss ≡ b
changed_end f k None b h ss e = absurd cc
changed_end f k (Some ts) b h ss e = ap last_to_end (sym (same_some _ _ e)) ∙ kept_end f k ts ∙ h ts refl

at_end : (ts : List Session) → ts ≢ [] → last_to_end (on_last ended ts) ≡ true
at_end [] n = absurd (n refl)
at_end (s ∷ []) n = refl
at_end (s ∷ t ∷ []) n = refl
at_end (s ∷ t ∷ u ∷ ts) n = at_end (t ∷ u ∷ ts) (λ e. absurd cc)

ended_end : (o : Option (List Session)) → o ≢ Some [] → (ss : List Session) → option_map (on_last ended) o ≡ Some ss → last_to_end ss ≡ true
ended_end None n ss e = absurd cc
ended_end (Some ts) n ss e = ap last_to_end (sym (same_some _ _ e)) ∙ at_end ts (λ z. n (ap (λ (l : List Session). Some l) z))

changed : (f : Session → Session) → ((s : Session) → (f s).to_end ≡ s.to_end) → (v : LinkView) → IsStanding v → IsStanding (record v { sessions = option_map (on_last f) v.sessions })
changed f k v h = record {
  tells = still_told (on_last f) v.sessions h.tells;
  tells_said = h.tells_said;
  tells_readings = h.tells_readings;
  taken = λ s. changed_some f v.sessions (h.taken s);
  last_end = λ ss s e. changed_end f k v.sessions v.at_end (λ ts. h.last_end ts s) ss e;
  faultless = h.faultless;
}

-- it holds after one call more
pub noted_stands : (v : LinkView) (n : Note) → IsStanding v → IsStanding (noted v n)
noted_stands v note.Taken h = record {
  tells = still_told (λ ss. ss ++ fresh ∷ []) v.sessions h.tells;
  tells_said = h.tells_said;
  tells_readings = h.tells_readings;
  taken = λ _. taken_some v.sessions;
  last_end = λ ss _ e. taken_end v.sessions ss e;
  faultless = h.faultless;
}
noted_stands v note.NoneLeft h = record { tells = h.tells; tells_said = h.tells_said; tells_readings = h.tells_readings; taken = λ s. absurd (cc s); last_end = λ ss s e. absurd (cc s); faultless = h.faultless }
noted_stands v (note.Received bytes) h = changed (hear bytes.now) (λ s. refl) v h
noted_stands v note.ReadToEnd h = record {
  tells = still_told (on_last ended) v.sessions h.tells;
  tells_said = h.tells_said;
  tells_readings = h.tells_readings;
  taken = λ s. changed_some ended v.sessions (h.taken s);
  last_end = λ ss s e. ended_end v.sessions (h.taken s) ss e;
  faultless = h.faultless;
}
noted_stands v (note.Sent bytes) h = changed (send bytes.now) (λ s. refl) v h
noted_stands v note.Ended h = record { tells = h.tells; tells_said = h.tells_said; tells_readings = h.tells_readings; taken = λ s. absurd (cc s); last_end = λ ss s e. absurd (cc s); faultless = h.faultless }
noted_stands v (note.Said bytes) h = record { tells = h.tells; tells_said = still_told (λ s. s ++ bytes.now) v.said h.tells_said; tells_readings = h.tells_readings; taken = h.taken; last_end = h.last_end; faultless = h.faultless }
noted_stands v (note.Read moment) h = record { tells = h.tells; tells_said = h.tells_said; tells_readings = still_told (λ r. r ++ moment ∷ []) v.readings h.tells_readings; taken = h.taken; last_end = h.last_end; faultless = h.faultless }
