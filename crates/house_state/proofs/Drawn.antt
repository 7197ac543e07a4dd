-- The state before and after a draw was entered, by what the calls on the way say.
use Rattle.std.proofs.Common.{◌^◌, ◌≡◌, ℕ, ◌+◌, ◌<◌, ◌≤◌, [], ◌∷◌, ◌++◌, None, refl, sym, ap, append-nil, ◌∙◌, arith}
use Rattle.scrip_form.specs.Issuing.{epoch}
use Rattle.mc_requests.specs.Requests.{Asked}
use Rattle.kept_replies.specs.declared.deed.Deed.{Deed}
use Rattle.kept_replies.specs.Kept.{KeptReply, KeptView, kept_with}
use Rattle.kept_replies.proofs.InsertLaws.{inserted_last}
use Rattle.change_issue.specs.Registers.{Register, count_in, issued_in, redeemed_in, next_in}
use Rattle.change_issue.specs.IssuedPieces.{issued_piece}
use Rattle.house_state.specs.declared.verdict.DrawAuthorization.{DrawAuthorization}
use Rattle.house_state.specs.HouseState.{HouseStateView, IsSound, IsDrawn, in_version, size_with, series_now, draw_growth, deed_drawn, at_series}
use Rattle.house_state.proofs.Entering.{if_kept, kept_so, sound_more}

pub drawn : (old : HouseStateView) (kept : KeptView) (own : Register) (size : ℕ) (q : Asked) (d : DrawAuthorization) (deed : Deed) → IsSound old → epoch old.own.terms old.time < 2 ^ 24
    → d.id ≡ next_in old.own (series_now old)
    → deed ≡ deed_drawn old.own.terms (in_version old.upgrades (issued_piece old.own.terms old.time old.name d.amount (next_in old.own (series_now old)) None []))
    → kept.keep ≡ old.kept.keep
    → kept.replies ≡ kept_with old.kept.keep (record { asked = q; entry = record { number = old.count; moment = old.time; price = d.amount; change = None; secret = d.key; deed = deed } }) old.kept.replies
    → own.terms ≡ old.own.terms → own.most ≡ old.own.most
    → ((s : ℕ) → count_in own s ≡ count_in old.own s + at_series (series_now old) 1 s)
    → ((s : ℕ) → issued_in own s ≡ issued_in old.own s + at_series (series_now old) d.amount s)
    → ((s : ℕ) → redeemed_in own s ≡ redeemed_in old.own s)
    → size ≡ size_with old d.payload
    → IsDrawn old (record old { kept = kept; own = own; count = old.count + 1; size = size }) q d
drawn old kept own size q d deed sound short next made keep replies terms most count worth redeemed grown =
    let reply : Deed → KeptReply = λ x. record { asked = q; entry = record { number = old.count; moment = old.time; price = d.amount; change = None; secret = d.key; deed = x } } in
    let piece : ℕ → Deed = λ id. deed_drawn old.own.terms (in_version old.upgrades (issued_piece old.own.terms old.time old.name d.amount id None [])) in
    record {
      name = refl;
      clear = refl;
      terms = sym (append-nil old.terms);
      upgrades = sym (append-nil old.upgrades);
      time = refl;
      limits = refl;
      short = short;
      spent = refl;
      kept = kept_so old.kept kept (reply deed) (reply (piece d.id)) keep replies
          (inserted_last (reply deed) old.kept.replies sound.numbers ∙ ap (λ (x : Deed). old.kept.replies ++ reply x ∷ []) (made ∙ ap piece (sym next)));
      issuer = terms;
      most = most;
      issued = λ s. omega (arith, count s);
      worth = worth;
      redeemed = λ s. omega (arith, redeemed s);
      takings = omega arith;
      counted = refl;
      sized = grown;
      switched = refl;
    }

-- the state stays sound
pub sound_drawn : (old new : HouseStateView) (q : Asked) (d : DrawAuthorization) → IsSound old → size_with old d.payload ≤ 2 ^ 40 → IsDrawn old new q d → IsSound new
sound_drawn old new q d sound fits is = sound_more old new (draw_growth old q d) sound (record {
  paid = tt;
  takings = omega arith;
  keeps = if_kept old.kept.keep _ (λ r. 0 < old.kept.keep) (λ keeps. keeps);
  number = if_kept old.kept.keep _ (λ r. r.entry.number ≡ old.count) (λ keeps. refl);
  moment = if_kept old.kept.keep _ (λ r. r.entry.moment ≡ old.time) (λ keeps. refl);
  fits = fits;
}) is
