-- The held texts of a Stock entry: what each is read as, and what is kept of them.
use Rattle.std.proofs.Common.{◌≡◌, ℕ, suc, ◌≤◌, Bool, true, false, cond, eqb, ◌&&◌, ◌||◌, not, List, [], ◌∷◌, ◌++◌, length, Option, Some, None, option_map, Ok, refl, sym, ap, ap₂, ◌∙◌, append-nil, arith}
use Rattle.std.specs.Prelude.{unwrap_or}
use Rattle.std.specs.List.{list_any, list_all, cons_option}
use Rattle.std.proofs.lemmas.Bool.{eqb-true, eq-eqb}
use Rattle.mc_fields.specs.Reading.{whole}
use Rattle.scrip_form.specs.Scrip.{Scrip, IsTextOf, scrip_text}
use Rattle.scrip_form.specs.Reading.{scrip_at, scrip_of}
use Rattle.scrip_form.proofs.Laws.{scrip_reads}
use Rattle.mc_records.specs.Entry.{Held}
use Rattle.ledger_model.specs.Stock.{held_piece, ids_of, may_be_stock, are_new, are_stock}
use Rattle.broker_stock.specs.declared.piece.StockPiece.{StockPiece}
use Rattle.broker_stalls.specs.Listed.{stock_piece, listed_piece, listed_at}

-- what is read of the text of a piece with its certificate
pub read_whole : (bytes : List ℕ) (p : Scrip) (cert : List ℕ) → IsTextOf bytes p cert → scrip_of bytes ≡ Ok (p, cert)
unfolding scrip_of
read_whole bytes p cert is =
    ap (whole (length bytes)) (ap scrip_at (is.spelled ∙ sym (append-nil (scrip_text p cert))) ∙ scrip_reads.again (p, cert) [] (is.is_piece, is.is_cert))

-- ---- one more held text, of which x is read

module _ (held : Held) (helds : List Held) (x : Scrip × List ℕ) (is : scrip_of held.text ≡ Ok x) where
  pub listed_more : (value : ℕ) → listed_at value (held ∷ helds) ≡ cond (eqb x.0.value value) (stock_piece held.secret x ∷ listed_at value helds) (listed_at value helds)
  listed_more value = rw is (go (eqb x.0.value value))
    where
      go : (b : Bool) → cons_option (cond b (Some (stock_piece held.secret x)) None) (listed_at value helds) ≡ cond b (stock_piece held.secret x ∷ listed_at value helds) (listed_at value helds)
      go true = refl
      go false = refl

  pub ids_more : ids_of (held ∷ helds) ≡ x.0.id ∷ ids_of helds
  ids_more = rw is refl

  pub stock_more : (vendor known : List ℕ) → are_stock vendor known (held ∷ helds)
      ≡ ((may_be_stock vendor x.0 && not (list_any (λ k. eqb k x.0.id) known)) && are_stock vendor (x.0.id ∷ known) helds)
  stock_more vendor known = rw is (sort (may_be_stock vendor x.0) _ _ _)
    where
      sort : (a b c d : Bool) → ((a && b) && (c && d)) ≡ ((a && c) && (b && d))
      sort true true c d = refl
      sort true false true d = refl
      sort true false false d = refl
      sort false b c d = refl

-- ---- identities that are known

pub eqb_turned : (a b : ℕ) → eqb a b ≡ eqb b a
eqb_turned a b = go (eqb a b) refl (eqb b a) refl
  where
    go : (x : Bool) → eqb a b ≡ x → (y : Bool) → eqb b a ≡ y → x ≡ y
    go true e true f = refl
    go false e false f = refl
    go true e false f = sym (sym f ∙ eq-eqb b a (sym (eqb-true a b e)))
    go false e true f = sym e ∙ eq-eqb a b (sym (eqb-true b a f))

pub any_turned : (id : ℕ) (xs : List ℕ) → list_any (λ k. eqb k id) xs ≡ list_any (λ k. eqb id k) xs
any_turned id [] = refl
any_turned id (x ∷ xs) = ap₂ (λ a b. a || b) (eqb_turned x id) (any_turned id xs)

-- what is new depends on which identities are known, and not on their order
pub new_alike : (xs ys ids : List ℕ) → ((q : ℕ) → list_any (λ k. eqb k q) xs ≡ list_any (λ k. eqb k q) ys) → are_new xs ids ≡ are_new ys ids
new_alike xs ys [] alike = refl
new_alike xs ys (id ∷ ids) alike = ap₂ (λ a b. not a && b) (alike id) (new_alike (id ∷ xs) (id ∷ ys) ids (λ q. ap (λ b. eqb id q || b) (alike q)))

pub stock_alike : (vendor xs ys : List ℕ) (helds : List Held) → ((q : ℕ) → list_any (λ k. eqb k q) xs ≡ list_any (λ k. eqb k q) ys) → are_stock vendor xs helds ≡ are_stock vendor ys helds
stock_alike vendor xs ys helds alike = ap (λ b. list_all (λ held. unwrap_or (option_map (may_be_stock vendor) (held_piece held)) false) helds && b) (new_alike xs ys (ids_of helds) alike)

-- an identity that is put behind others is known as one that is put before them
pub moved : (id : ℕ) (seen known : List ℕ) (q : ℕ) → list_any (λ k. eqb k q) (id ∷ (seen ++ known)) ≡ list_any (λ k. eqb k q) ((seen ++ id ∷ []) ++ known)
moved id [] known q = refl
moved id (s ∷ seen) known q = swap (eqb id q) (eqb s q) _ ∙ ap (λ b. eqb s q || b) (moved id seen known q)
  where
    swap : (a b c : Bool) → (a || (b || c)) ≡ (b || (a || c))
    swap true true c = refl
    swap true false c = refl
    swap false b c = refl

-- ---- counts

pub listed_few : (value : ℕ) (helds : List Held) → length (listed_at value helds) ≤ length helds
listed_few value [] = omega arith
listed_few value (held ∷ helds) = go (listed_piece value held) (listed_few value helds)
  where
    go : (o : Option StockPiece) → length (listed_at value helds) ≤ length helds → length (cons_option o (listed_at value helds)) ≤ suc (length helds)
    go None few = omega (arith, few)
    go (Some p) few = omega (arith, few)
