use Rattle.std.proofs.Common.{◌≡◌, ℕ, [], ◌∷◌, ◌∙◌, sym, subst}
use Rattle.std.specs.Prelude.{codes}
use Rattle.mc_records.specs.Entry.{AddTerms, Goods, Fits}
use Rattle.mc_records.specs.TermsViews.{issuing_of}
use Rattle.vendor_commands.specs.Play.{play_founding, play_licence, play_goods}
use Rattle.vendor_commands.proofs.OpeningLemmas.{may_enter, open_with, open_last}
use Rattle.vendor_commands.proofs.PlayOpening.{goods_fit, play_licence_may_enter, play_goods_may_enter}
use Rattle.vendor_commands.proofs.play.open_play.Goals as goal

pub entered-requires-2-clause-fits : goal.entered-requires-2-clause-fits
entered-requires-2-clause-fits c = subst (λ (m : ℕ). Fits (Goods m (codes "/p") 25 0 (codes "ok"))) (sym c.start-2.ensures) goods_fit

pub entered-requires-clause-may : goal.entered-requires-clause-may
entered-requires-clause-may c =
    let licence : AddTerms c.start.result (issuing_of c.of.result) ≡ play_licence = λ i. AddTerms (c.start.ensures i) ((c.of.ensures ∙ c.play_terms-terms.ensures) i) in
    (play_founding ∷ [], c.in_ok-found_play.ensures, may_enter licence play_licence_may_enter)

pub entered-requires-2-clause-may : goal.entered-requires-2-clause-may
entered-requires-2-clause-may c =
    let licence : AddTerms c.start.result (issuing_of c.of.result) ≡ play_licence = λ i. AddTerms (c.start.ensures i) ((c.of.ensures ∙ c.play_terms-terms.ensures) i) in
    let goods : Goods c.start-2.result (codes "/p") 25 0 (codes "ok") ≡ play_goods = λ i. Goods (c.start-2.ensures i) (codes "/p") 25 0 (codes "ok") in (
      play_founding ∷ play_licence ∷ [],
      open_with (play_founding ∷ []) licence (c.in_ok-bench.ensures (play_founding ∷ []) c.in_ok-found_play.ensures),
      may_enter goods play_goods_may_enter,
    )

pub returns : goal.returns
returns c =
    let licence : AddTerms c.start.result (issuing_of c.of.result) ≡ play_licence = λ i. AddTerms (c.start.ensures i) ((c.of.ensures ∙ c.play_terms-terms.ensures) i) in
    let goods : Goods c.start-2.result (codes "/p") 25 0 (codes "ok") ≡ play_goods = λ i. Goods (c.start-2.ensures i) (codes "/p") 25 0 (codes "ok") in
    let licensed = open_with (play_founding ∷ []) licence (c.in_ok-bench.ensures (play_founding ∷ []) c.in_ok-found_play.ensures) in
    open_last (play_founding ∷ play_licence ∷ []) goods c.in_ok-bench.bench licensed c.entered-2.result c.entered-2.ensures
