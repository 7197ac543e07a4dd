-- Kept replies, after one more entry.
use Rattle.std.proofs.Common.{◌≡◌, ℕ, ◌-◌, ◌<◌, ◌≤◌, ◌^◌, not, List, [], ◌∷◌, ◌++◌, length, take, Option, Some, None, Ok, refl, sym, ap, ap₂, subst, ◌∙◌, arith, eqb, bytes_eq, length-append}
use Rattle.std.specs.Prelude.{codes, option_map, option_and_then, unwrap_or, IfSome}
use Rattle.std.proofs.lemmas.List.{take-append-le, take_all}
use Rattle.scrip_form.specs.Identities.{issuer_of, epoch_of, series_of}
use Rattle.scrip_form.specs.Issuing.{Issuing, epoch, series_end}
use Rattle.scrip_form.specs.Scrip.{Scrip, Certified, scrip_body, scrip_text}
use Rattle.mc_requests.specs.declared.refusal.Refusal.TheVariants.{WrongVendor, UnknownIssuer, ExpiryMismatch, WrongVersion, BadCertificate}
use Rattle.mc_records.specs.Entry.{Entry, Accept}
use Rattle.mc_requests.specs.Requests.{Asked}
use Rattle.kept_replies.specs.Kept.{KeptReply}
use Rattle.change_issue.specs.Registers.{count_in, next_in}
use Rattle.ledger_model.specs.Histories.{History}
use Rattle.ledger_model.specs.Houses.{site_name, own_end, all_terms, terms_in, version_by, version, secret_of}
use Rattle.scrip_certs.specs.Digests.{certificate, customer_secret}
use Rattle.ledger_model.specs.Pieces.{piece_of, change_from, change_piece, handed_piece}
use Rattle.ledger_model.specs.Lines.{given, refused_if}
use Rattle.ledger_model.specs.Answer.{genuine}
use Rattle.ledger_model.specs.Replies.{Contents, no_contents, brought, contents_after, own_text, secret_for, taken_values, taken_reply, reply_of}
use Rattle.ledger_model.proofs.TableLaws.{line_ok, given_ok, ok_is}
use Rattle.ledger_model.proofs.ReplyLaws.{own_reply, reply_stays}
use Rattle.house_state.specs.declared.verdict.Authorization.{Authorization}
use Rattle.house_state.specs.Views.{entry_deed}
use Rattle.house_state.specs.HouseState.{HouseStateView, HasChange, series_now, kept_entry, change_made, own_scrip}
use Rattle.house_state.specs.Trade.{BringsFor}
use Rattle.house_state.specs.Representation.{StateRepresents, IsReply, brought_then, kept_reply, scrip_request}
use Rattle.house_state.specs.Verdicts.{accept_entry, IsReady}
use Rattle.house_core.proofs.FirstEntry.{same_house, own_text_stays}
use Rattle.house_state.proofs.Tabled.{genuine_stands, terms_are_of}
use Rattle.house_state.proofs.KeptLaws.{contents_stay, get_stays, get_next}

-- ---- what an entry brought

-- later entries leave it as it is
brought_stays : (h more : History) (n : ℕ) → n < length h → brought_then (h ++ more) n ≡ brought_then h n
brought_stays h more n lt =
    ap₂ (λ (before : History) (o : Option Entry). unwrap_or (option_map (contents_after before) o) no_contents) (take-append-le n h more (omega (arith, lt))) (get_stays h more n lt)

-- a new one brings what it brings after the entries before it
pub brought_new : (h : History) (e : Entry) (n : ℕ) → n ≡ length h → brought_then (h ++ e ∷ []) n ≡ contents_after h e
brought_new h e n is =
    let front : take (length h) (h ++ e ∷ []) ≡ h = take-append-le (length h) h (e ∷ []) (omega arith) ∙ take_all (length h) h (omega arith) in
    ap (brought_then (h ++ e ∷ [])) is
    ∙ ap₂ (λ (before : History) (o : Option Entry). unwrap_or (option_map (contents_after before) o) no_contents) front (get_next h [] e)

-- ---- a reply that was kept

-- a reply is spelled as it was
spelled_stays : {b : HouseStateView} {h : History} → StateRepresents b h → (e : Entry) (r : KeptReply) (contents : Contents) → kept_reply h r contents ≡ kept_reply (h ++ e ∷ []) r contents
spelled_stays {b = b} {h = h} st e r contents =
    let said : (Scrip → List ℕ) → List ℕ = λ spell. taken_reply (Some r.entry.secret) (unwrap_or r.asked.scrip (codes "-")) r.asked.target contents
    (taken_values r.entry.moment contents r.entry.price (option_map spell r.entry.change)) in
    ap said (sym (own_text_stays h e b.own.terms st.own_terms))

-- later entries leave a reply as it is
pub reply_kept : {b : HouseStateView} {h : History} → StateRepresents b h → (e : Entry) (r : KeptReply) → IsReply h r → IsReply (h ++ e ∷ []) r
reply_kept {b = b} {h = h} st e r is =
    let n = r.entry.number in
    let then' : brought_then (h ++ e ∷ []) n ≡ brought_then h n = brought_stays h (e ∷ []) n is.within in
    record {
      brings = contents_stay h (e ∷ []) r.entry.deed (brought_then h n) is.brings ∙ ap (λ (x : Contents). Some x) (sym then');
      within = omega (arith, is.within, length-append h (e ∷ []));
      own = subst (λ (name : List ℕ). IfSome r.entry.change (λ p. p.vendor ≡ name)) (sym (same_house b.limits h e st.lawful).name) is.own;
      reply = reply_stays h (e ∷ []) n is.within ∙ is.reply ∙ spelled_stays st e r (brought_then h n) ∙ ap (kept_reply (h ++ e ∷ []) r) (sym then');
    }

-- ---- a new reply

abbrev some : List ℕ → Option (List ℕ)
some s = Some s

-- the secret of the customer of a genuine piece
secret_is : (h : History) (c : Certified) (secret : List ℕ) → piece_of c.text ≡ Some c.piece → genuine h c ≡ Ok secret → secret_for h c.text ≡ Some secret
secret_is h c secret piece e =
    let of_series : ℕ → ℕ = λ id. version h (site_name h) (series_of id) in
    let v = line_ok (refused_if (not (bytes_eq c.piece.vendor (site_name h))) WrongVendor) _ secret e in
    let own = line_ok (given (terms_in h (issuer_of c.piece.id)) UnknownIssuer) _ secret v.2 in
    let customers = line_ok (given (terms_in h (issuer_of c.piece.cust)) UnknownIssuer) _ secret own.2 in
    let end = series_end own.0 (epoch_of c.piece.id) in
    let ends = line_ok (refused_if (not (eqb c.piece.expires end)) (ExpiryMismatch c.piece.expires end)) _ secret customers.2 in
    let versions = line_ok (refused_if (not (eqb c.piece.version (of_series c.piece.id))) (WrongVersion (of_series c.piece.id))) _ secret ends.2 in
    let proved = line_ok (refused_if (not (bytes_eq c.cert (certificate own.0 (scrip_body c.piece) c.piece.id))) BadCertificate) _ secret versions.2 in
    let is : customer_secret customers.0 c.piece.cust (of_series c.piece.cust) ≡ secret = ok_is (customer_secret customers.0 c.piece.cust (of_series c.piece.cust)) secret proved.2 in
    let terms : terms_in h (issuer_of c.piece.cust) ≡ Some customers.0 = given_ok (terms_in h (issuer_of c.piece.cust)) UnknownIssuer customers.0 customers.1 in
    ap (λ (o : Option Scrip). option_and_then (λ p. secret_of h p.cust) o) piece ∙ ap (λ (o : Option Issuing). option_map (λ t. customer_secret t c.piece.cust (of_series c.piece.cust)) o) terms ∙ ap (λ (s : List ℕ). Some s) is

-- the next identity of the series of the house time
pub record IsOwn (b : HouseStateView) (id : ℕ) : Type 0 where
  pub series : series_of id ≡ series_now b
  pub issuer : issuer_of id ≡ 0
  pub of_epoch : epoch_of id ≡ epoch b.own.terms b.time

pub next_is_own : {b : HouseStateView} {h : History} → StateRepresents b h → (id : ℕ) → epoch b.own.terms b.time < 2 ^ 24 → count_in b.own (series_now b) < 2 ^ 32 → id ≡ next_in b.own (series_now b) → IsOwn b id
next_is_own {b = b} {h = h} st id short below is =
    let own : b.own.terms.issuer ≡ 0 = terms_are_of (all_terms h) 0 b.own.terms st.own_terms in
    let now : series_now b ≡ epoch b.own.terms b.time = omega (arith, own) in
    record { series = omega (arith, is, below); issuer = omega (arith, is, now, short, below); of_epoch = omega (arith, is, now, short, below) }

-- its end
pub own_end_is : {b : HouseStateView} {h : History} → StateRepresents b h → (id : ℕ) → epoch_of id ≡ epoch b.own.terms b.time → own_end h id ≡ series_end b.own.terms (epoch b.own.terms b.time)
own_end_is {b = b} st id at = ap (λ (o : Option Issuing). unwrap_or (option_map (λ t. series_end t (epoch_of id)) o) 0) st.own_terms ∙ ap (series_end b.own.terms) at

-- the change of an entry is the one that was made
change_is : {b : HouseStateView} {h : History} → StateRepresents b h → (paid : Scrip) (price id : ℕ) → epoch b.own.terms b.time < 2 ^ 24 → count_in b.own (series_now b) < 2 ^ 32 → id ≡ next_in b.own (series_now b)
    → change_from h paid price id ≡ change_made b paid price id
change_is st paid price id short below is =
    let ends = own_end_is st id (next_is_own st id short below is).of_epoch in
    λ i. record { version = version_by (st.upgrades i) (series_of id); vendor = st.name i; value = paid.value - price; id = id; cust = paid.cust; expires = ends i; props = paid.props }

-- what an authorization hands out is what the ledger says
pub handed_is : {b : HouseStateView} {h : History} → StateRepresents b h → (target : List ℕ) (a : Authorization) → piece_of a.scrip.now.text ≡ Some a.scrip.now.piece → b.own.most ≤ 2 ^ 32 → HasChange b a.price a.scrip.now.piece.value a.change
    → IfSome (option_map (change_made b a.scrip.now.piece a.price) a.change) (λ p. epoch b.own.terms b.time < 2 ^ 24)
    → handed_piece h (accept_entry b.time target a) ≡ option_map (change_made b a.scrip.now.piece a.price) a.change
handed_is {b = b} {h = h} st target a piece most has short = go a.change has short
  where
    paid : Scrip
    paid = a.scrip.now.piece

    go : (o : Option ℕ) → HasChange b a.price paid.value o → IfSome (option_map (change_made b paid a.price) o) (λ p. epoch b.own.terms b.time < 2 ^ 24)
        → change_piece h (Accept b.time a.scrip.now.text target a.sign a.price o (entry_deed a.deed)) ≡ option_map (change_made b paid a.price) o
    go None has short = refl
    go (Some id) has short =
        ap (λ (o : Option Scrip). option_map (λ p. change_from h p a.price id) o) piece
        ∙ ap (λ (p : Scrip). Some p) (change_is st paid a.price id short (omega (arith, most, has.1)) has.2)

-- the text of a piece of the house's own
pub own_text_is : {b : HouseStateView} {h : History} → StateRepresents b h → (p : Scrip) → own_text h p ≡ own_scrip b p
own_text_is {b = b} {h = h} st p =
    ap (λ (o : Option Issuing). scrip_text p (unwrap_or (option_map (λ t. certificate t (scrip_body p) p.id) o) [])) st.own_terms

-- that of change that may be there
pub change_text_is : {b : HouseStateView} {h : History} → StateRepresents b h → (o : Option Scrip) → IfSome o (λ p. p.vendor ≡ site_name h) → option_map (own_text h) o ≡ option_map (own_scrip b) o
change_text_is st None own = refl
change_text_is st (Some p) own = ap some (own_text_is st p)

change_is_own : (b : HouseStateView) (paid : Scrip) (price : ℕ) (name : List ℕ) (change : Option ℕ) → b.name ≡ name → IfSome (option_map (change_made b paid price) change) (λ p. p.vendor ≡ name)
change_is_own b paid price name None is = tt
change_is_own b paid price name (Some id) is = is

-- the reply to a new entry
pub reply_new : {b : HouseStateView} {h : History} → StateRepresents b h → (q : Asked) (a : Authorization) → piece_of a.scrip.now.text ≡ Some a.scrip.now.piece → IsReady b q.target a → b.own.most ≤ 2 ^ 32
    → IfSome (option_map (change_made b a.scrip.now.piece a.price) a.change) (λ p. epoch b.own.terms b.time < 2 ^ 24)
    → BringsFor h q.target a.deed → IsReply (h ++ accept_entry b.time q.target a ∷ []) (record { asked = scrip_request a.scrip.now.text q.target q.sign; entry = kept_entry b a.scrip.now.piece a })
reply_new {b = b} {h = h} st q a piece ready most short brings =
    let e = accept_entry b.time q.target a in
    let longer = h ++ e ∷ [] in
    let contents = brought h q.target (entry_deed a.deed) in
    let r : KeptReply = record { asked = scrip_request a.scrip.now.text q.target q.sign; entry = kept_entry b a.scrip.now.piece a } in
    let secret : secret_for h a.scrip.now.text ≡ Some a.secret = secret_is h a.scrip.now a.secret piece (genuine_stands st a.scrip.now ∙ ready.secret) in
    let changes = ap (option_map (own_text h)) (handed_is st q.target a piece most ready.change short) in
    let new : brought_then longer b.count ≡ contents = brought_new h e b.count (sym st.counted) in
    let said : Option (List ℕ) → Option (List ℕ) → List ℕ = λ s o. taken_reply s a.scrip.now.text q.target contents (taken_values b.time contents a.price o) in
    record {
      brings = contents_stay h (e ∷ []) a.deed contents brings ∙ ap (λ (x : Contents). Some x) (sym new);
      within = omega (arith, st.counted, length-append h (e ∷ []));
      own = change_is_own b a.scrip.now.piece a.price (site_name longer) a.change (sym st.name ∙ sym (same_house b.limits h e st.lawful).name);
      reply = ap (reply_of longer) (sym st.counted) ∙ own_reply h [] e
          ∙ ap (λ (s : Option (List ℕ)). said s (option_map (own_text h) (change_piece h e))) secret
          ∙ ap (said (Some a.secret)) changes
          ∙ spelled_stays st e r contents
          ∙ ap (kept_reply longer r) (sym new);
    }
