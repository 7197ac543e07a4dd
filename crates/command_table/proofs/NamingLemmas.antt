-- The command that words begin with.
use Rattle.std.proofs.Common.{◌≡◌, ◌∙◌, ℕ, ◌+◌, ◌<◌, ◌≤◌, ◌&&◌, Bool, true, false, List, [], ◌∷◌, Option, Some, None, refl, sym, ap, length, drop, get_or, cond, arith}
use Rattle.std.specs.Prelude.{IsTrue, ◌↔◌}
use Rattle.std.specs.List.{list_any}
use Rattle.std.specs.Str.{bytes_eq}
use Rattle.std.proofs.lemmas.List.{at_drop_all, at_drop_more}
use Rattle.std.proofs.lemmas.Slice.Eq.{bytes_eq-Decides}
use Rattle.clap.specs.Walk.{Text}
use Rattle.clap.proofs.WalkLemmas.{both}
use Rattle.command_table.specs.declared.parameter.Parameter.{Parameter}
use Rattle.command_table.specs.declared.table.CommandName.{CommandName}
use Rattle.command_table.specs.declared.table.TheConstants.{COMMANDS}
use Rattle.command_table.specs.Naming.{is_called, named, named_among}
use Rattle.command_table.specs.Parameters.{is_secret}
use Rattle.command_table.specs.Secrets.{ReadSecrets}
use Rattle.command_table.specs.Table.{form_of}
use Rattle.command_table.proofs.TableLemmas.{named_so}

-- ---- one after another

-- a word and that of the row are compared
pub alike : (word is_word has : Text) (b : Bool) → b ≡ bytes_eq word is_word → is_word ≡ has → bytes_eq word has ≡ b
alike word is_word has b e is = sym (e ∙ ap (bytes_eq word) is)

pub other_role : (same_role same_name : Bool) → same_role ≡ false → same_role && same_name ≡ false
other_role same_role same_name is = ap (λ (b : Bool). b && same_name) is

-- the next of some commands is called so
pub next_called : (cs : List CommandName) (k : ℕ) (d : CommandName) (role name : Text) → k < length cs → is_called role name (form_of (get_or cs k d)) ≡ true
    → named_among (drop k cs) role name ≡ Some (get_or cs k d)
unfolding named_among
next_called cs k d role name lt is =
    at_drop_more (λ (xs : List CommandName). named_among xs role name) cs k d lt
    ∙ ap (λ (b : Bool). cond b (Some (get_or cs k d)) (named_among (drop (k + 1) cs) role name)) is

-- and where it is not
pub next_other : (cs : List CommandName) (k : ℕ) (d : CommandName) (role name : Text) → k < length cs → is_called role name (form_of (get_or cs k d)) ≡ false
    → named_among (drop k cs) role name ≡ named_among (drop (k + 1) cs) role name
unfolding named_among
next_other cs k d role name lt is =
    at_drop_more (λ (xs : List CommandName). named_among xs role name) cs k d lt
    ∙ ap (λ (b : Bool). cond b (Some (get_or cs k d)) (named_among (drop (k + 1) cs) role name)) is

-- and where none is left
pub none_left : (cs : List CommandName) (k : ℕ) (role name : Text) → length cs ≤ k → named_among (drop k cs) role name ≡ None
unfolding named_among
none_left cs k role name le = at_drop_all (λ (xs : List CommandName). named_among xs role name) cs k le

-- one word, or none
pub few_named : (words : List Text) → length words < 2 → named words ≡ None
unfolding named
few_named [] few = refl
few_named (role ∷ []) few = refl
few_named (role ∷ name ∷ behind) few = absurd (omega (arith, few))

pub among_named : (words behind : List Text) (role name : Text) → words ≡ role ∷ name ∷ behind → named words ≡ named_among COMMANDS role name
unfolding named
among_named words behind role name e = ap named e

-- ---- the words of a command that is named

called_next : (x c : CommandName) (role name : Text) (others : Option CommandName) (b : Bool) → is_called role name (form_of x) ≡ b → cond b (Some x) others ≡ Some c
    → (others ≡ Some c → (role ≡ (form_of c).role) × (name ≡ (form_of c).name)) → (role ≡ (form_of c).role) × (name ≡ (form_of c).name)
called_next x c role name others true called e then =
    let same : x ≡ c = cc e in
    let each = both (bytes_eq role (form_of x).role) (bytes_eq name (form_of x).name) called in (
      (bytes_eq-Decides role (form_of x).role).0 each.0 ∙ ap (λ (n : CommandName). (form_of n).role) same,
      (bytes_eq-Decides name (form_of x).name).0 each.1 ∙ ap (λ (n : CommandName). (form_of n).name) same,
    )
called_next x c role name others false called e then = then e

called_so : (cs : List CommandName) (role name : Text) (c : CommandName) → named_among cs role name ≡ Some c → (role ≡ (form_of c).role) × (name ≡ (form_of c).name)
unfolding named_among
called_so [] role name c e = absurd (cc e)
called_so (x ∷ xs) role name c e = called_next x c role name (named_among xs role name) _ refl e (called_so xs role name c)

pub begins_so : (words : List Text) (c : CommandName) → named words ≡ Some c → (behind : List Text) × (words ≡ (form_of c).role ∷ (form_of c).name ∷ behind)
unfolding named
begins_so [] c e = absurd (cc e)
begins_so (role ∷ []) c e = absurd (cc e)
begins_so (role ∷ name ∷ behind) c e = let each = called_so COMMANDS role name c e in (behind, cc (each.0, each.1))

-- ---- secrets

pub secret_read : (words : List Text) (c : CommandName) (given : List Parameter) (b : Bool) → Some c ≡ named words → given ≡ (form_of c).parameters → b ≡ list_any is_secret given → IsTrue b ↔ ReadSecrets words
secret_read words c given b e are is =
    let begin = begins_so words c (sym e) in
    let secret : b ≡ list_any is_secret (form_of c).parameters = is ∙ ap (list_any is_secret) are in (
      λ t. record { name = c; behind = begin.0; words' = begin.1; secret = sym secret ∙ t },
      λ reads.
          let one : Some c ≡ Some reads.name = e ∙ named_so reads.name words reads.behind reads.words' in
          let same : c ≡ reads.name = cc one in
          secret ∙ ap (λ (n : CommandName). list_any is_secret (form_of n).parameters) same ∙ reads.secret,
    )

pub no_secret_read : (words : List Text) → None ≡ named words → ReadSecrets words → ⊥
no_secret_read words e reads = let one : None ≡ Some reads.name = e ∙ named_so reads.name words reads.behind reads.words' in cc
