-- One retry over a wire that works settles its request.
use Rattle.std.proofs.Common.{◌≡◌, ◌⊎◌, inl, inr, ℕ, ◌+◌, ◌<◌, ◌≤◌, true, false, List, [], ◌∷◌, ◌++◌, length, Option, Some, None, option_map, refl, sym, ap, subst, ◌∙◌, arith, append-nil, length-append}
use Rattle.std.specs.Prelude.{max}
use Rattle.std.specs.List.{AllByRecursion}
use Rattle.std.proofs.lemmas.Option.{same_Some}
use Rattle.mc_outside.specs.Bytes.{Rose}
use Rattle.mc_outside.specs.DiskView.{DiskView}
use Rattle.mc_outside.specs.LinkView as views
use Rattle.mc_outside.specs.LinkView.{LinkView, Session, fresh, on_last, hear, send, next_taken}
use Rattle.mc_requests.specs.declared.limits.Limits.{Limits}
use Rattle.mc_requests.specs.Requests.{Asked}
use Rattle.mc_records.specs.Entry.{Entry, moment_of}
use Rattle.ledger_model.specs.Histories.{History}
use Rattle.ledger_model.specs.Houses.{keeping}
use Rattle.ledger_model.specs.Answer as answers
use Rattle.ledger_model.specs.Answer.{Answer, answer}
use Rattle.ledger_model.specs.Replies.{reply_of}
use Rattle.millicent_http.specs.declared.clock.Clock.TheVariants.{OfLinks}
use Rattle.millicent_http.specs.declared.reader.TheConstants.{MAX_ITEMS}
use Rattle.millicent_http.specs.Items.{Item, request, Heads}
use Rattle.millicent_http.specs.Received.{Received}
use Rattle.millicent_http.specs.Steps.{Did, sent_of, Run}
use Rattle.millicent_http.specs.Courses.{AreRead, HadLink, IsServed}
use Rattle.millicent_http.proofs.ItemLemmas.{items_unique}
use Rattle.command_status.specs.declared.status.Status.{Status}
use Rattle.reply_reader.specs.Replies.{IsReply}
use Rattle.reply_reader.proofs.ReplyLemmas.{one_reply}
use Rattle.house_core.specs.Session.{State, raised, Gives, Step}
use Rattle.wallet_model.specs.Requests.{Pending}
use Rattle.wallet_model.specs.Asks.{asked_by, request_bytes}
use Rattle.wallet_model.specs.Settling.{check_of, settlement}
use Rattle.wallet_core.specs.OnDisk.{EncodesWallet}
use Rattle.wallet_requests.proofs.SentLemmas.{request_is_item, history_asks}
use Rattle.world_model.specs.Worlds.{World, Event, Plays, wallet_time}
use Rattle.world_model.specs.Agreement.{IsBookOfWallet, IsSetup, MayRepeat, IsSettling}
use Rattle.world_model.specs.Conservation.{IsLawfulHouse}
use Rattle.world_model.proofs.Lists.{all_get}
use Rattle.world_model.proofs.Oldest.{oldest_is}
use Rattle.world_model.proofs.Repeats.{in_time, draws_pay_none, answers_again}
use Rattle.world_model.proofs.Theorems.{stay_lawful, repeats_settle}
use Rattle.world_laws.specs.Links.{IsHeard}
use Rattle.world_laws.specs.Requests.{IsExchanged, NoneSettles, EndsSettled, IsSettled, UsedAs}
use Rattle.world_laws.specs.Wires.{TookLink, IsWire, TellsBefore, ServedWell, RetriesSettle}
use Rattle.world_laws.proofs.LinkLemmas.{mapped_last, heard_served}

-- ---- one link that was taken

same_last : (earlier : List Session) (x z : Session) → earlier ++ x ∷ [] ≡ earlier ++ z ∷ [] → x ≡ z
same_last [] x z is = cc
same_last (y ∷ ys) x z is = same_last ys x z (let rest : ys ++ x ∷ [] ≡ ys ++ z ∷ [] = cc in rest)

-- it is what was done to it
done_to : (before after : LinkView) (x z : Session) → TookLink before after x → after.sessions ≡ option_map (λ l. l ++ z ∷ []) before.sessions → x ≡ z
done_to before after x z took is =
    same_last took.earlier x z
    (same_Some (took.earlier ++ x ∷ []) (took.earlier ++ z ∷ []) (sym took.are ∙ is ∙ ap (option_map (λ (l : List Session). l ++ z ∷ [])) took.were))

-- none was taken where there are no more
none_took : (before after : LinkView) (x : Session) → TookLink before after x → after.sessions ≡ before.sessions → ⊥
none_took before after x took same =
    let one : took.earlier ++ x ∷ [] ≡ took.earlier = same_Some (took.earlier ++ x ∷ []) took.earlier (sym took.are ∙ same ∙ took.were) in
    omega (arith, ap length one, length-append took.earlier (x ∷ []))

abbrev received_of : Session → List ℕ
received_of x = x.received

abbrev sent_by : Session → List ℕ
sent_by x = x.sent

-- the link of a wallet that sent a request
exchanged : (p : Pending) (got : List ℕ) (before after : LinkView) (x : Session) → TookLink before after x → IsExchanged p got before after → (x.received ≡ got) × (x.sent ≡ request_bytes p)
exchanged p got before after x took (inl heard) =
    let asked : Session = send (request_bytes p) fresh in
    let is : x ≡ hear got asked =
    done_to before after x (hear got asked) took (heard ∙ ap (option_map (on_last (hear got))) (mapped_last (send (request_bytes p)) fresh before.sessions) ∙ mapped_last (hear got) asked before.sessions) in
    (ap received_of is, ap sent_by is)
exchanged p got before after x took (inr heard) =
    let asked : Session = send (request_bytes p) fresh in
    let is : x ≡ views.ended (hear got asked) =
    done_to before after x (views.ended (hear got asked)) took
    (heard ∙ ap (option_map (on_last views.ended)) (ap (option_map (on_last (hear got))) (mapped_last (send (request_bytes p)) fresh before.sessions) ∙ mapped_last (hear got) asked before.sessions) ∙ mapped_last views.ended (hear got asked) before.sessions) in
    (ap received_of is, ap sent_by is)

-- the link of a site that served it
answered : (got : List ℕ) (steps : List (Did State)) (before after : LinkView) (y : Session) → TookLink before after y → IsHeard got steps (next_taken before) after → (y.received ≡ got) × (y.sent ≡ sent_of steps)
answered got steps before after y took (inl heard) =
    let told : Session = hear got fresh in
    let is : y ≡ send (sent_of steps) told =
    done_to before after y (send (sent_of steps) told) took (heard ∙ ap (option_map (on_last (send (sent_of steps)))) (mapped_last (hear got) fresh before.sessions) ∙ mapped_last (send (sent_of steps)) told before.sessions) in
    (ap received_of is, ap sent_by is)
answered got steps before after y took (inr heard) =
    let told : Session = views.ended (hear got fresh) in
    let is : y ≡ send (sent_of steps) told =
    done_to before after y (send (sent_of steps) told) took
    (heard ∙ ap (option_map (on_last (send (sent_of steps)))) (ap (option_map (on_last views.ended)) (mapped_last (hear got) fresh before.sessions) ∙ mapped_last views.ended (hear got fresh) before.sessions) ∙ mapped_last (send (sent_of steps)) told before.sessions) in
    (ap received_of is, ap sent_by is)

-- ---- what the site said

-- one request was one step
record OneStep (limits : Limits) (s : State) (q : Asked) (readings : List ℕ) (steps : List (Did State)) : Type 0 where
  reading : ℕ
  d : Did State
  readings_are : readings ≡ reading ∷ []
  steps_are : steps ≡ d ∷ []
  gives : Gives (raised s reading) q (answer s.history (max s.time reading) limits q) d.sent d.after

one_step : (limits : Limits) (s : State) (q : Asked) (readings : List ℕ) (steps : List (Did State)) → Run (Step limits) s (request q true ∷ []) readings steps → OneStep limits s q readings steps
one_step limits s q [] steps ran = absurd ran
one_step limits s q (r ∷ rs) [] ran = absurd ran
one_step limits s q (r ∷ []) (d ∷ []) ran = record { reading = r; d = d; readings_are = refl; steps_are = refl; gives = ran.0 }
one_step limits s q (r ∷ []) (d ∷ e ∷ ds) ran = absurd ran.1
one_step limits s q (r ∷ t ∷ rs) (d ∷ ds) ran = absurd ran.1

last_all : (P : ℕ → Type 0) (xs ys : List ℕ) → AllByRecursion P (xs ++ ys) → AllByRecursion P ys
last_all P [] ys all = all
last_all P (x ∷ xs) ys all = last_all P xs ys all.1

module _ (limits : Limits) (w v : World) (events : List Event) (setup : IsSetup limits w) (plays : Plays limits w events v) (j i n at : ℕ) (h : History) (s : State) (p : Pending) (e : Entry) (may : MayRepeat v j i n h s p e at) where
  -- the first reply of the entry settles the request
  settling : IsSettling s.history at p
  settling =
      let repeat = repeats_settle limits w v events setup plays j i n at h s p e may 0 0 (omega (arith, may.in_time)) in
      (repeat.1 repeat.0.0 repeat.0.1).0

  house : IsLawfulHouse limits s
  house = all_get (IsLawfulHouse limits) v.houses i s (stay_lawful limits w v events setup plays).houses may.house

  wallet : IsBookOfWallet h
  wallet = all_get IsBookOfWallet v.wallets j h (stay_lawful limits w v events setup plays).wallets may.wallet

  -- the bytes of the request are one item
  heads : Heads (request_bytes p) (request (asked_by p) true ∷ [])
  heads =
      subst (λ (bytes : List ℕ). Heads bytes (request (asked_by p) true ∷ [])) (append-nil (request_bytes p))
      (request_is_item p [] (history_asks h n p wallet.fits (oldest_is h p.peer n p may.oldest).request))

  -- which comes again
  again_at : (reading : ℕ) → reading < moment_of e + keeping s.history → answer s.history (max s.time reading) limits (asked_by p) ≡ answers.Again at
  again_at reading lt =
      let still = may.in_time in
      let early = in_time s.history at e may.entry in
      let passed = house.in_time in
      answers_again limits s.history at e p (max s.time reading) house.book.lawful may.entry (draws_pay_none h n p wallet.lawful (oldest_is h p.peer n p may.oldest).request) may.holds
      (omega (arith, passed, early)) (omega (arith, still, lt))

  -- so its reply was sent
  said : (steps : List (Did State)) (before served after : LinkView) (y : Session) → IsServed (Step limits) OfLinks steps s (next_taken before) served → after ≡ record served { stands = false }
      → TellsBefore (moment_of e + keeping s.history) after → TookLink before after y → y.received ≡ request_bytes p → y.sent ≡ reply_of s.history at ++ []
  said steps before served after y c ended told took asked =
      let heard : IsHeard c.got steps (next_taken before) after = subst (λ (u : LinkView). IsHeard c.got steps (next_taken before) u) (sym ended) (heard_served limits s steps (next_taken before) served c) in
      let mine = answered c.got steps before after y took heard in
      let bytes : c.got ≡ request_bytes p = sym mine.0 ∙ asked in
      let items : c.items ≡ request (asked_by p) true ∷ [] = items_unique MAX_ITEMS (request_bytes p) c.items (request (asked_by p) true ∷ []) (subst (λ (l : List ℕ). Heads l c.items) bytes c.heads) heads in
      let one : OneStep limits s (asked_by p) c.replied.readings steps = one_step limits s (asked_by p) c.replied.readings steps (subst (λ (l : List Item). Run (Step limits) s l c.replied.readings steps) items c.replied.ran) in
      let read = c.replied.read told.0 (ap (λ (u : LinkView). u.readings) (sym ended) ∙ told.1) in
      let all : AllByRecursion (λ reading. reading < moment_of e + keeping s.history) (one.reading ∷ []) =
      subst (λ (l : List ℕ). AllByRecursion (λ reading. reading < moment_of e + keeping s.history) l) one.readings_are
      (last_all (λ reading. reading < moment_of e + keeping s.history) read.0 c.replied.readings (subst (λ (l : List ℕ). AllByRecursion (λ reading. reading < moment_of e + keeping s.history) l) read.2 told.2)) in
      let gives : Gives (raised s one.reading) (asked_by p) (answers.Again at) one.d.sent one.d.after =
      subst (λ (a : Answer). Gives (raised s one.reading) (asked_by p) a one.d.sent one.d.after) (again_at one.reading all.0) one.gives in
      mine.1 ∙ ap (λ (l : List (Did State)). sent_of l) one.steps_are ∙ ap (λ (l : List ℕ). l ++ []) gives.0

  served_well : (before after : LinkView) (y : Session) → ServedWell limits s (moment_of e + keeping s.history) before after → TookLink before after y → y.received ≡ request_bytes p → y.sent ≡ reply_of s.history at ++ []
  served_well before after y served took asked = elim served.had.course [
    | inl c ↦ said served.steps before served.had.served after y c served.had.ended served.told took asked
    | inr broke ↦ elim broke [
      | inl c ↦ absurd (served.well (subst (λ (u : LinkView). Rose before.faults u.faults) (sym served.had.ended) c.fault.rose))
      | inr c ↦ absurd (served.well (subst (λ (u : LinkView). Rose before.faults u.faults) (sym served.had.ended) c.fault.rose))
    ]
  ]

  -- and it settles the request
  settled_by : (moment : ℕ) (status : Status) (d : DiskView) (got : List ℕ) → got ≡ reply_of s.history at ++ [] → (NoneSettles p got status × EncodesWallet d h) ⊎ IsSettled j h moment n p got status d
      → (made : IsSettling s.history at p) × EndsSettled h p made.r (settlement h (wallet_time h moment) n p made.r) status d
  settled_by moment status d got is (inl kept) = absurd (kept.0.none settling.r (subst (λ (l : List ℕ). IsReply l settling.r) (sym is) settling.reads) settling.checked)
  settled_by moment status d got is (inr done) =
      let one : done.r ≡ settling.r = one_reply got done.r settling.r done.reads (subst (λ (l : List ℕ). IsReply l settling.r) (sym is) settling.reads) in
      (settling, subst (λ (r : Received). EndsSettled h p r (settlement h (wallet_time h moment) n p r) status d) one done.ends')

pub retries_settle : {O : Type 0} (disk : O → DiskView) → RetriesSettle disk
retries_settle disk limits w v events setup plays j i n at h s p e may moment before after status b used well site_before site_after served x y took site_took wire = go used
  where
    go : UsedAs j h moment n p before after status (disk b) → (made : IsSettling s.history at p) × EndsSettled h p made.r (settlement h (wallet_time h moment) n p made.r) status (disk b)
    go (inl (inl none, left)) = absurd (none_took before after x took none.same)
    go (inl (inr part, left)) = absurd (well part.told)
    go (inr (got, heard, came)) =
        let mine = exchanged p got before after x took heard in
        let said_all : y.sent ≡ reply_of s.history at ++ [] = served_well limits w v events setup plays j i n at h s p e may site_before site_after y served site_took (wire.there ∙ mine.1) in
        settled_by limits w v events setup plays j i n at h s p e may moment status (disk b) got (sym mine.0 ∙ wire.back ∙ said_all) came
