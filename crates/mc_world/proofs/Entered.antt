-- What an operator's entry comes to at a house that is opened for it.
use Rattle.std.proofs.Common.{◌≡◌, inr, ℕ, Bool, true, false, Option, Some, None, Ok, refl, sym, ap, subst, ◌∙◌}
use Rattle.std.specs.Prelude.{◌==◌, not, option_map, unwrap_or}
use Rattle.std.proofs.lemmas.Bool.{eqb-true}
use Rattle.mc_requests.specs.declared.limits.Limits.{Limits}
use Rattle.mc_records.specs.Entry.{Entry}
use Rattle.ledger_model.specs.declared.numbers.TheConstants.{VENDOR_KIND}
use Rattle.ledger_model.specs.Histories.{History}
use Rattle.ledger_model.specs.Houses.{site_kind, is_broker, is_vendor}
use Rattle.ledger_model.specs.Answer.{fitted}
use Rattle.ledger_model.specs.Lawful.{MayFollow, IsLawful}
use Rattle.ledger_model.proofs.KindLaws.{one_house}
use Rattle.house_state.specs.Learning.{Test, Passes}
use Rattle.house_core.specs.Session.{State}
use Rattle.mc_world.specs.Houses.{EntersOr, EntersAs}

-- a house that is no broker is a vendor
pub vendor_kind : (limits : Limits) (h : History) → IsLawful limits h → is_broker h ≡ false → site_kind h ≡ Some VENDOR_KIND
vendor_kind limits h lawful other = by (site_kind h) refl (vendor (is_vendor h) (sym (one_house limits h lawful) ∙ other))
  where
    vendor : (b : Bool) → not b ≡ false → b ≡ true
    vendor true is = refl
    vendor false is = absurd cc

    by : (o : Option ℕ) → site_kind h ≡ o → unwrap_or (option_map (λ kind. kind == VENDOR_KIND) o) false ≡ true → site_kind h ≡ Some VENDOR_KIND
    by None at is = absurd cc
    by (Some k) at is = at ∙ ap (λ (n : ℕ). Some n) (eqb-true k VENDOR_KIND is)

-- what may not be entered leaves the house as it was
pub not_entered_as : (passes : Test) (limits bounds : Limits) (s : State) (h g : History) (e : Entry) → bounds ≡ limits → h ≡ s.history → ((x : History) (d : Entry) → Passes passes x d) → EntersOr passes bounds h e g false
    → EntersAs limits s e (record { history = g; time = s.time })
not_entered_as passes limits bounds s h g e same at passed enters = inr (
  (λ may room. enters.0 (record { follows = subst (λ (x : History). MayFollow bounds x e) (sym at) (subst (λ (l : Limits). MayFollow l s.history e) (sym same) may); passed = passed h e })
      (subst (λ (x : History). fitted x bounds e ≡ Ok e) (sym at) (subst (λ (l : Limits). fitted s.history l e ≡ Ok e) (sym same) room))),
  ap (λ (x : History). made x) (enters.1 ∙ at),
)
  where
    made : History → State
    made h = record { history = h; time = s.time }
