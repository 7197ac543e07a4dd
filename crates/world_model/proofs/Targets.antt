-- A request on a link asks for a target.
use Rattle.std.proofs.Common.{◌≡◌, inl, inr, ℕ, Bool, true, false, cond, not, List, [], ◌∷◌, refl, sym, subst}
use Rattle.std.specs.Prelude.{◌-◌, codes, ◌&&◌, ◌||◌, ◌==◌, bytes_eq, map}
use Rattle.std.specs.List.{AllByRecursion, list_any}
use Rattle.httparse.specs.Spans.{name_and_value}
use Rattle.scrip_form.specs.Texts.{IsTarget, is_target}
use Rattle.scrip_form.proofs.TextTests.{target_decides}
use Rattle.mc_requests.specs.Requests.{Asked}
use Rattle.mc_requests.specs.declared.refusal.Refusal.TheVariants.{NoHost, BodyRefused, BadTarget, BadMethod, RepeatedField}
use Rattle.millicent_http.specs.Fields.{values, host_is_fit, says_body, says_close, at_most_one, first_of}
use Rattle.millicent_http.specs.Items.{Item, request, refused, closes, judged, ReadsItem, NextItem, AreItems, Heads}
use Rattle.millicent_http.specs.declared.reader.TheConstants.{MAX_ITEMS}

-- an item that is a request asks for a target
abbrev pub HasTarget : Item → Type 0
HasTarget (request q c) = IsTarget q.target
HasTarget (refused f c) = Unit {0}

judged_target : (method target : List ℕ) (minor : ℕ) (fields : List (List ℕ × List ℕ)) → HasTarget (judged method target minor fields)
unfolding judged
judged_target method target minor fields =
    go (not (host_is_fit minor (values (codes "host") fields))) (list_any says_body fields) (is_target target) refl (not (bytes_eq method (codes "GET")))
    (at_most_one (values (codes "millicent-scrip") fields) && at_most_one (values (codes "millicent-sign") fields))
  where
    close : Bool
    close = minor == 0 || list_any says_close fields

    q : Asked
    q = record { target = target; scrip = first_of (values (codes "millicent-scrip") fields); sign = first_of (values (codes "millicent-sign") fields) }

    go : (a b c : Bool) → is_target target ≡ c → (d e : Bool) → HasTarget (cond a (refused NoHost close) (cond b (refused BodyRefused true) (cond (not c) (refused BadTarget close) (cond d (refused BadMethod close) (cond e (request q close) (refused RepeatedField close))))))
    go true b c is d e = tt
    go false true c is d e = tt
    go false false false is d e = tt
    go false false true is true e = tt
    go false false true is false true = (target_decides target).0 is
    go false false true is false false = tt

read_target : (text : List ℕ) (item : Item) → ReadsItem text item → HasTarget item
read_target text item reads = elim reads [
  | inl x ↦ subst HasTarget (sym x.2) (judged_target x.0.method x.0.target x.0.minor (map name_and_value x.0.fields))
  | inr x ↦ subst HasTarget (sym x.1) tt
]

next_target : (bytes : List ℕ) (item : Item) (rest : List ℕ) → NextItem bytes item rest → HasTarget item
next_target bytes item rest next = elim next [
  | inl x ↦ read_target _ item x.1.reads
  | inr x ↦ subst HasTarget (sym x.is) tt
]

all_targets : (limit : ℕ) (bytes : List ℕ) (items : List Item) → AreItems limit bytes items → AllByRecursion HasTarget items
all_targets limit bytes [] are = tt
all_targets limit bytes (item ∷ items) are =
    (next_target bytes item are.1.0 are.1.1, go (closes item) refl (λ (e : closes item ≡ false). all_targets (limit - 1) are.1.0 items (are.1.3 e)))
  where
    go : (b : Bool) → closes item ≡ b → (closes item ≡ false → AllByRecursion HasTarget items) → AllByRecursion HasTarget items
    go true is rest = subst (AllByRecursion HasTarget) (sym (are.1.2 is)) tt
    go false is rest = rest is

pub targets_of : (bytes : List ℕ) (items : List Item) → Heads bytes items → AllByRecursion HasTarget items
targets_of bytes items heads = all_targets MAX_ITEMS bytes items heads
