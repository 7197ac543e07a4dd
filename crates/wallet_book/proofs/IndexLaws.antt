-- Keys are the same exactly for one vendor and one identity.
use Rattle.std.proofs.Common.{◌≡◌, ℕ, Bool, true, false, ◌&&◌, List, length, take, refl, sym, ap, ◌∙◌, bytes_eq}
use Rattle.std.proofs.lemmas.Bool.{eqb-true, eq-eqb}
use Rattle.std.proofs.lemmas.Slice.Eq.{bytes_eq-Decides}
use Rattle.std.specs.Prelude.{◌==◌}
use Rattle.scrip_form.specs.Padded.{padded, take-padded}
use Rattle.wallet_book.specs.PieceIndex.{key_of, is_key}

-- padded texts of one length are one text
same_text : (v o : List ℕ) → length v ≡ length o → padded 0 63 v ≡ padded 0 63 o → v ≡ o
same_text v o len same = sym (take-padded 0 63 v) ∙ ap (λ (n : ℕ). take n (padded 0 63 v)) len ∙ ap (take (length o)) same ∙ take-padded 0 63 o

alike : (v o : List ℕ) (a b c : Bool) → (length v == length o) ≡ a → bytes_eq (padded 0 63 v) (padded 0 63 o) ≡ b → bytes_eq v o ≡ c → (a && b) ≡ c
alike v o true true true len pad text = refl
alike v o true true false len pad text =
    let same : v ≡ o = same_text v o (eqb-true (length v) (length o) len) ((bytes_eq-Decides (padded 0 63 v) (padded 0 63 o)).0 pad) in
    sym ((bytes_eq-Decides v o).1 same) ∙ text
alike v o true false true len pad text =
    let same : v ≡ o = (bytes_eq-Decides v o).0 text in
    sym pad ∙ (bytes_eq-Decides (padded 0 63 v) (padded 0 63 o)).1 (ap (padded 0 63) same)
alike v o true false false len pad text = refl
alike v o false b true len pad text =
    let same : v ≡ o = (bytes_eq-Decides v o).0 text in
    sym len ∙ eq-eqb (length v) (length o) (ap length same)
alike v o false b false len pad text = refl

and_joined : (a b c : Bool) → ((a && b) && c) ≡ (a && (b && c))
and_joined true b c = refl
and_joined false b c = refl

pub one_key : (v o : List ℕ) (id number : ℕ) → is_key (key_of v id) (key_of o number) ≡ (id == number && bytes_eq v o)
one_key v o id number =
    and_joined (id == number) (length v == length o) (bytes_eq (padded 0 63 v) (padded 0 63 o))
    ∙ ap (λ (b : Bool). id == number && b) (alike v o (length v == length o) (bytes_eq (padded 0 63 v) (padded 0 63 o)) (bytes_eq v o) refl refl refl)
