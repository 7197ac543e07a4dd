-- The line of the commands, name behind name.
use Rattle.std.proofs.Common.{◌≡◌, ◌∙◌, ℕ, ◌+◌, ◌<◌, ◌≤◌, ◌++◌, Bool, true, false, List, Option, Some, sym, ap, length, drop, get_or, append_assoc, codes}
use Rattle.std.specs.Prelude.{if◌then◌else◌}
use Rattle.std.proofs.lemmas.List.{at_drop_all, at_drop_more}
use Rattle.clap.specs.Walk.{Text}
use Rattle.command_table.specs.declared.table.CommandName.{CommandName}
use Rattle.command_table.specs.Table.{form_of}
use Rattle.command_table.specs.Usage.{is_of, names_behind, next_name}

-- with the name of the next of some commands
pub name_behind : (role : Option Text) (before : Option CommandName) (cs : List CommandName) (k : ℕ) (d : CommandName) (written whole : Text) → k < length cs → is_of role (get_or cs k d) ≡ true
    → written ++ names_behind role before (drop k cs) ≡ whole → (written ++ next_name before (form_of (get_or cs k d))) ++ names_behind role (Some (get_or cs k d)) (drop (k + 1) cs) ≡ whole
unfolding names_behind
name_behind role before cs k d written whole lt is e =
    let one = get_or cs k d in
    let goes_on = at_drop_more (λ (xs : List CommandName). names_behind role before xs) cs k d lt
    ∙ ap (λ (b : Bool). if b then next_name before (form_of one) ++ names_behind role (Some one) (drop (k + 1) cs) else names_behind role before (drop (k + 1) cs)) is in
    append_assoc written (next_name before (form_of one)) (names_behind role (Some one) (drop (k + 1) cs))
    ∙ ap (λ (t : Text). written ++ t) (sym goes_on)
    ∙ e

-- the next has another role
pub name_left_out : (role : Option Text) (before : Option CommandName) (cs : List CommandName) (k : ℕ) (d : CommandName) (written whole : Text) → k < length cs → is_of role (get_or cs k d) ≡ false
    → written ++ names_behind role before (drop k cs) ≡ whole → written ++ names_behind role before (drop (k + 1) cs) ≡ whole
unfolding names_behind
name_left_out role before cs k d written whole lt is e =
    let one = get_or cs k d in
    let goes_on = at_drop_more (λ (xs : List CommandName). names_behind role before xs) cs k d lt
    ∙ ap (λ (b : Bool). if b then next_name before (form_of one) ++ names_behind role (Some one) (drop (k + 1) cs) else names_behind role before (drop (k + 1) cs)) is in
    ap (λ (t : Text). written ++ t) (sym goes_on) ∙ e

-- the end of the line
pub ends_behind : (role : Option Text) (before : Option CommandName) (cs : List CommandName) (k : ℕ) (written whole : Text) → length cs ≤ k → written ++ names_behind role before (drop k cs) ≡ whole
    → written ++ codes " .." ≡ whole
unfolding names_behind
ends_behind role before cs k written whole le e = ap (λ (t : Text). written ++ t) (sym (at_drop_all (λ (xs : List CommandName). names_behind role before xs) cs k le)) ∙ e
