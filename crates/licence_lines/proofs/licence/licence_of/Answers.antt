use Rattle.std.proofs.Common.{refl, sym, ap, subst, ◌∙◌}
use Rattle.scrip_form.specs.Texts.{IsName}
use Rattle.licence_lines.specs.Fields.{Fields, fields_text}
use Rattle.licence_lines.specs.Views.{fields}
use Rattle.licence_lines.proofs.FieldLaws.{fields_sound, no_words, words_are, spelled_by, fields_spelled}
use Rattle.licence_lines.proofs.licence.licence_of.Goals as goal

pub returns-in_err-words-clause-none : goal.returns-in_err-words-clause-none
returns-in_err-words-clause-none c = λ none vendor t fits is. no_words c.args.line.now c.in_err-words.ensures vendor t fits is

pub returns-in_err-vendor-clause-none : goal.returns-in_err-vendor-clause-none
returns-in_err-vendor-clause-none c = λ none vendor t fits is.
    let same = words_are c.args.line.now (fields c.in_ok-words.words) c.in_ok-words.ensures vendor t fits is in
    let no = c.in_err-vendor.ensures.valid.1 (subst IsName (sym (ap (λ (f : Fields). f.vendor) same)) fits.vendor') in
    absurd cc

pub returns-in_err-terms-clause-none : goal.returns-in_err-terms-clause-none
returns-in_err-terms-clause-none c = λ none vendor t fits is.
    let same = words_are c.args.line.now (fields c.in_ok-words.words) c.in_ok-words.ensures vendor t fits is in
    c.in_err-terms.ensures.none refl t fits.issuer fits.terms' (spelled_by (fields c.in_ok-words.words) vendor t same)

pub returns-clause-some : goal.returns-clause-some
returns-clause-some c =
    let terms = c.in_ok-terms.ensures.some in
    let value = c.in_ok-vendor.ensures.value in (
      record { vendor' = subst IsName (sym value) (c.in_ok-vendor.ensures.valid.0 refl); issuer = terms.0; terms' = terms.1 },
      fields_sound c.args.line.now (fields c.in_ok-words.words) (sym c.in_ok-words.ensures)
          ∙ ap fields_text (fields_spelled (fields c.in_ok-words.words) c.in_ok-vendor.vendor c.in_ok-terms.terms (sym value) terms.2),
    )
