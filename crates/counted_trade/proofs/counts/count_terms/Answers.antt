use Rattle.std.proofs.Common.{List, ◌∷◌, [], ◌++◌, Option, option_map, sym, ap, ◌∙◌, append-nil}
use Rattle.std.specs.List.{cons_option}
use Rattle.std.proofs.lemmas.List.Elements.{filter_map-append}
use Rattle.scrip_form.specs.Issuing.{Issuing}
use Rattle.mc_records.specs.TermsViews.{issuing_of}
use Rattle.mc_records.specs.Views.{entry}
use Rattle.ledger_model.specs.Houses.{terms_of, all_terms}
use Rattle.counted_trade.proofs.counts.count_terms.Goals as goal

pub returns-in-Some : goal.returns-in-Some
returns-in-Some c = record {
  counted = λ h is.
      filter_map-append terms_of h (entry c.args.r.now ∷ [])
      ∙ ap (λ (o : Option Issuing). all_terms h ++ cons_option o []) (sym c.brought.ensures ∙ ap (option_map issuing_of) c.in-Some.is)
      ∙ ap (λ (t : Issuing). all_terms h ++ t ∷ []) (sym c.terms.ensures)
      ∙ ap (λ (ts : List Issuing). ts ++ c.terms.result ∷ []) is
      ∙ sym c.push_reserved.ensures.items;
}

pub returns-in_default : goal.returns-in_default
returns-in_default c = record {
  counted = λ h is.
      filter_map-append terms_of h (entry c.args.r.now ∷ [])
      ∙ ap (λ (o : Option Issuing). all_terms h ++ cons_option o []) (sym c.brought.ensures ∙ ap (option_map issuing_of) c.in_default.is)
      ∙ append-nil (all_terms h) ∙ is;
}
