-- Each Done entry for a piece that a schedule added is an Accept entry of a house.
use Rattle.std.proofs.Common.{◌≡◌, ℕ, List, [], take, Option, Some, sym, ap, subst, ◌∙◌, slice_get, option_map, unwrap_or}
use Rattle.std.specs.Prelude.{option_and_then, IfSome}
use Rattle.std.specs.List.{AllByRecursion}
use Rattle.scrip_form.specs.Scrip.{IsScripText}
use Rattle.mc_requests.specs.declared.limits.Limits.{Limits}
use Rattle.mc_records.specs.Entry.{Held, Deed, Entry, Accept, Fits}
use Rattle.mc_requests.specs.Replies.{or_dash}
use Rattle.ledger_model.specs.Histories.{History}
use Rattle.ledger_model.specs.Pieces.{change_piece}
use Rattle.ledger_model.specs.Lawful.{IsLawful}
use Rattle.ledger_model.specs.Replies.{secret_for, contents_after}
use Rattle.wallet_model.specs.Requests.{Pending}
use Rattle.wallet_model.specs.Holdings.{texts_came}
use Rattle.wallet_model.specs.Settling.{change_came, got_came}
use Rattle.wallet_model.specs.Laws.{HasItsPiece}
use Rattle.wallet_model.proofs.FitLaws.{requests_have}
use Rattle.wallet_requests.proofs.SentLemmas.{history_asks}
use Rattle.world_model.specs.Worlds.{World}
use Rattle.world_model.specs.Signings.{Signing, change_of, signing_asked, IsMade}
use Rattle.world_model.specs.Agreement.{IsSetup, SettledSince, change_given, contents_given, HasChange, Agrees}
use Rattle.world_model.proofs.Lists.{two_get, two_back}
use Rattle.world_model.proofs.Tied.{HouseTied, WalletTied, Tied}
use Rattle.world_model.proofs.Signed.{same_line}
use Rattle.world_model.proofs.Steps.{wallet_now}
use Rattle.world_model.proofs.Accepted.{lawful_accept}
use Rattle.world_model.proofs.DoneLaws.{house_lawful, IsPaid, paid_since, SignedBy, by_accept, by_draw, signed_by, no_dash_text, has_change}
use Rattle.world_model.proofs.Settles.{accept_change}

-- ---- Done entries for pieces

abbrev accepts : ℕ → Option (List ℕ) → Option ℕ → Deed → List ℕ → List ℕ → ℕ → Option Entry
accepts m sign change deed text target price = Some (Accept m text target sign price change deed)

-- the Accept entry of a Done entry, which was signed under the request's secret
pub record PaidAccept (v : World) (now : History) (n : ℕ) (p : Pending) (scrip : List ℕ) (price : ℕ) (change : Option (List ℕ)) (got : Option Held) : Type 0 where
  pub i : ℕ
  pub k : ℕ
  pub agrees : Agrees v now n p scrip price change got i k
  pub known : secret_for (take k agrees.is.s.history) scrip ≡ Some p.secret

pub paid_accept : (limits : Limits) (w v : World) (j : ℕ) (before now : History) (n : ℕ) (p : Pending) (scrip : List ℕ) (price : ℕ) (change : Option (List ℕ)) (got : Option Held)
    → IsSetup limits w → Tied limits w (IsMade v) v → slice_get w.wallets j ≡ Some before → slice_get v.wallets j ≡ Some now → SettledSince before now n p price change got → p.scrip ≡ Some scrip
    → PaidAccept v now n p scrip price change got
paid_accept limits w v j before now n p scrip price change got setup tied first last since paid =
    let x = paid_since (IsMade v) before now n p price change got (two_get (WalletTied (IsMade v)) w.wallets v.wallets j before now tied.wallets first last) since in
    let lawful = house_lawful limits w (IsMade v) v x.made.i x.made.s setup tied x.made.house in
    let text_sent : IsScripText scrip = subst (λ (o : Option (List ℕ)). IfSome o IsScripText) paid (history_asks now since.number p (wallet_now limits w (IsMade v) v j now setup tied last).fits since.request).scrip in
    let fits = (two_back (HouseTied limits v.messages) w.houses v.houses x.made.i x.made.s tied.houses x.made.house).related.all in
    let has = requests_have now since.number p (wallet_now limits w (IsMade v) v j now setup tied last).lawful since.request in
    go x lawful fits has text_sent (signed_by x.made.s.history x.made.n (signing_asked p x.r) x.made.made)
  where
    dash : or_dash p.scrip ≡ scrip
    dash = ap or_dash paid

    some : List ℕ → Option (List ℕ)
    some s = Some s

    go : (x : IsPaid (IsMade v) now n price change got p) → IsLawful limits x.made.s.history → AllByRecursion Fits x.made.s.history → HasItsPiece p.ask p.scrip → IsScripText scrip → SignedBy x.made.s.history x.made.n (signing_asked p x.r) → PaidAccept v now n p scrip price change got
    go x lawful fits has sent (by_draw m target sign drawn key at known same) = absurd (no_dash_text (subst IsScripText (sym (ap (λ (y : Signing). y.scrip) same ∙ dash)) sent))
    go x lawful fits has sent (by_accept m text target sign cost rest deed secret at known same) =
        let la = lawful_accept limits x.made.s.history x.made.n m text target sign cost rest deed lawful at in
        let before_it : History = take x.made.n x.made.s.history in
        let says = same_line m (contents_after before_it (Accept m text target sign cost rest deed)) cost (change_of before_it (Accept m text target sign cost rest deed)) p x.r la.small x.status x.unrefused x.checked
        (accept_change limits x.made.s.history x.made.n m text target sign cost rest deed lawful fits at) has (ap (λ (y : Signing). y.text) same) in
        let text_is : text ≡ scrip = ap (λ (y : Signing). y.scrip) same ∙ dash in
        let target_is : target ≡ p.target = ap (λ (y : Signing). y.target) same in
        let cost_is : cost ≡ price = sym (ap (λ (o : Option ℕ). unwrap_or o 0) says.price_is) ∙ x.cost in
        let entry : slice_get x.made.s.history x.made.n ≡ Some (Accept m scrip p.target sign price rest deed) =
        at ∙ ap (λ (y : List ℕ). accepts m sign rest deed y target cost) text_is ∙ ap (λ (y : List ℕ). accepts m sign rest deed scrip y cost) target_is ∙ ap (accepts m sign rest deed scrip p.target) cost_is in
        let given_is : change_given x.made.s.history x.made.n ≡ change_of before_it (Accept m text target sign cost rest deed) = ap (λ (o : Option Entry). option_and_then (change_of before_it) o) at in
        let contents_are : contents_given x.made.s.history x.made.n ≡ (contents_after before_it (Accept m text target sign cost rest deed)).bytes =
        ap (λ (o : Option Entry). unwrap_or (option_map (λ e. (contents_after before_it e).bytes) o) []) at in
        let came : change_came (texts_came (take n now)) (or_dash (change_of before_it (Accept m text target sign cost rest deed))) ≡ change = ap (change_came (texts_came (take n now))) (sym says.change_is) ∙ x.rest in
        record {
          i = x.made.i;
          k = x.made.n;
          agrees = record {
            is = record { s = x.made.s; moment = m; sign = sign; change = rest; deed = deed; house = x.made.house; entry = entry };
            brought = sym x.piece ∙ ap (λ (o : Option (List ℕ)). got_came (texts_came (take n now)) o p.ask x.r.contents) x.rest ∙ ap (got_came (texts_came (take n now)) change p.ask) (sym (contents_are ∙ says.contents_is));
            changed = subst (λ (o : Option (List ℕ)). HasChange now n o change) (sym given_is) (has_change now n before_it (change_piece before_it (Accept m text target sign cost rest deed)) change came);
          };
          known = ap (secret_for before_it) (sym text_is) ∙ known ∙ ap some (ap (λ (y : Signing). y.secret) same);
        }
