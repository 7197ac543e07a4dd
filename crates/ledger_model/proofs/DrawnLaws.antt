-- What a vendor drew: nothing.
use Rattle.std.proofs.Common.{◌≡◌, Bool, true, false, [], ◌∷◌, ◌++◌, Some, refl, ◌∙◌, arith}
use Rattle.mc_requests.specs.declared.limits.Limits.{Limits}
use Rattle.mc_records.specs.Entry.{Entry, Site, Draw}
use Rattle.ledger_model.specs.Histories.{History}
use Rattle.ledger_model.specs.Houses.{site_kind, is_broker}
use Rattle.ledger_model.specs.declared.numbers.TheConstants.{VENDOR_KIND}
use Rattle.ledger_model.specs.Sums.{amount_drawn, all_drawn}
use Rattle.ledger_model.specs.Lawful.{unbounded, draw_request, IsAllowed, MayFollow, IsLawful}
use Rattle.ledger_model.proofs.ListLaws.{sum_snoc}
use Rattle.ledger_model.proofs.TakenLaws.{taken_draw}
use Rattle.ledger_model.proofs.FollowLaws.{lawful_walk}
use Rattle.ledger_model.proofs.KindLaws.{no_broker}

pub first_kind : (x : Entry) (xs ys : History) → site_kind (x ∷ xs) ≡ site_kind (x ∷ ys)
first_kind (Site m kind name house) xs ys = refl
first_kind x xs ys = refl

pub not_both : (b : Bool) → b ≡ true → b ≡ false → ⊥
not_both b t f = absurd cc

undrawn : (limits : Limits) (h : History) (e : Entry) → is_broker h ≡ false → IsAllowed limits h e → amount_drawn e ≡ 0
undrawn limits h (Draw m target sign drawn) none allowed =
    absurd (not_both (is_broker h) (taken_draw h m (unbounded limits) (draw_request target sign) m target sign drawn allowed).at_broker none)
undrawn limits h e none allowed = refl

abbrev DrawsNothing : History → Type 0
DrawsNothing h = site_kind h ≡ Some VENDOR_KIND → all_drawn h ≡ 0

draws_no_more : (limits : Limits) (h : History) (e : Entry) → MayFollow limits h e → DrawsNothing h → DrawsNothing (h ++ e ∷ [])
draws_no_more limits [] e may before vendor =
    omega (arith, sum_snoc amount_drawn [] e, undrawn limits [] e refl may.allowed)
draws_no_more limits (x ∷ xs) e may before vendor =
    let stays : site_kind (x ∷ xs) ≡ Some VENDOR_KIND = first_kind x xs (xs ++ e ∷ []) ∙ vendor in
    omega (arith, sum_snoc amount_drawn (x ∷ xs) e, before stays, undrawn limits (x ∷ xs) e (no_broker (x ∷ xs) stays) may.allowed)

pub none_drawn : (limits : Limits) (h : History) → IsLawful limits h → site_kind h ≡ Some VENDOR_KIND → all_drawn h ≡ 0
none_drawn limits h lawful = lawful_walk DrawsNothing limits (draws_no_more limits) (λ vendor. refl) h lawful
