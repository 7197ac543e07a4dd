-- What links in memory tell of themselves, as a value that only contracts read: how the logic stores it, and
-- what a note makes of it.
use Rattle.std.specs.Prelude.{ℕ, List, [], ◌∷◌, ◌++◌, Option, Some, None, Bool, false, option_map, refl}
use Rattle.std.specs.Coded.{Coded, code_by, coded×, coded_ℕ, coded_bool, coded_list, coded_option}
use Rattle.mc_outside.specs.LinkView.{LinkView, Session, next_taken, none_left, after_recv, after_send, after_eof}
use Rattle.play_heads.specs.declared.told.Note.{Note}
use Rattle.play_heads.specs.declared.told.Note.TheVariants as note

abbrev session_code : Coded Session
session_code = code_by (List ℕ × (List ℕ × Bool))
    (coded× (coded_list coded_ℕ) (coded× (coded_list coded_ℕ) coded_bool))
    (λ s. (s.received, (s.sent, s.to_end))) (λ p. record { received = p.0; sent = p.1.0; to_end = p.1.1 }) (λ _. refl)

abbrev Parts : Type 0
Parts = Option (List Session) × (Option (List ℕ) × (Option (List ℕ) × (Bool × (Bool × (Bool × (ℕ × Option (List ℕ)))))))

abbrev bytes_code : Coded (Option (List ℕ))
bytes_code = coded_option (coded_list coded_ℕ)

abbrev parts_code : Coded Parts
parts_code = coded× (coded_option (coded_list session_code)) (coded× bytes_code (coded× bytes_code
    (coded× coded_bool (coded× coded_bool (coded× coded_bool (coded× coded_ℕ bytes_code))))))

abbrev pub link_view_code : Coded LinkView
link_view_code = code_by Parts parts_code
    (λ v. (v.sessions, (v.said, (v.readings, (v.stands, (v.at_end, (v.over, (v.faults, v.doors))))))))
    (λ p. record {
      sessions = p.0;
      said = p.1.0;
      readings = p.1.1.0;
      stands = p.1.1.1.0;
      at_end = p.1.1.1.1.0;
      over = p.1.1.1.1.1.0;
      faults = p.1.1.1.1.1.1.0;
      doors = p.1.1.1.1.1.1.1;
    })
    (λ _. refl)

-- no link was taken yet, and all is told
abbrev pub no_links : LinkView
no_links = record {
  sessions = Some [];
  said = Some [];
  readings = Some [];
  stands = false;
  at_end = false;
  over = false;
  faults = 0;
  doors = None;
}

-- what one call more makes of what was told
abbrev pub noted : LinkView → Note → LinkView
noted v note.Taken = next_taken v
noted v note.NoneLeft = none_left v
noted v (note.Received bytes) = after_recv bytes.now v
noted v note.ReadToEnd = after_eof v
noted v (note.Sent bytes) = after_send bytes.now v
noted v note.Ended = record v { stands = false }
noted v (note.Said bytes) = record v { said = option_map (λ s. s ++ bytes.now) v.said }
noted v (note.Read moment) = record v { readings = option_map (λ r. r ++ moment ∷ []) v.readings }
