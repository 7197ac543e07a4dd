use Rattle.std.proofs.Common.{◌∙◌, codes, map, string_bytes, sym}
use Rattle.std.specs.Str.{bytes_eq}
use Rattle.command_table.specs.Values.{rules_of}
use Rattle.command_table.proofs.BeginLemmas.{ended, last_is, no_end_hyphens}
use Rattle.command_table.proofs.SpellLemmas.{list_any-map}
use Rattle.command_table.proofs.beginning.last_option.Goals as goal

pub returns : goal.returns
returns c =
    let e = last_is string_bytes c.args.words.now c.in_ok-last.front.now c.in_ok-last.last.now c.in_ok-last.ensures.cases.0 in
    let without = sym (list_any-map string_bytes (λ word. bytes_eq word (codes "--")) c.in_ok-last.front.now) ∙ sym c.has_hyphens.ensures ∙ c.if-has_hyphens.false in
    record {
      some = ended (rules_of c.args.parameters.now) _ (map string_bytes c.in_ok-last.front.now) (string_bytes c.in_ok-last.last.now) c.in_ok-name.name.now c.in_ok-option.option.now
          e (sym c.as_bytes.ensures.value ∙ c.in_ok-name.ensures.some) c.in_ok-option.ensures.some.0 c.in_ok-option.ensures.some.1 without;
      none = λ none. absurd (cc none);
    }

pub returns-then-has_hyphens-clause-none : goal.returns-then-has_hyphens-clause-none
returns-then-has_hyphens-clause-none c = λ none.
    let e = last_is string_bytes c.args.words.now c.in_ok-last.front.now c.in_ok-last.last.now c.in_ok-last.ensures.cases.0 in
    let has = sym (list_any-map string_bytes (λ word. bytes_eq word (codes "--")) c.in_ok-last.front.now) ∙ sym c.has_hyphens.ensures ∙ c.if-has_hyphens.true in
    no_end_hyphens (rules_of c.args.parameters.now) _ (map string_bytes c.in_ok-last.front.now) (string_bytes c.in_ok-last.last.now) e has
