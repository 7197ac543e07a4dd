-- One piece of a Stock entry: room for it, whether it is new, and what it adds.
use Rattle.std.proofs.Common.{◌≡◌, ℕ, ◌-◌, ◌<◌, ◌≤◌, ◌⊎◌, inl, inr, Bool, true, false, cond, eqb, ◌&&◌, ◌||◌, not, List, [], ◌∷◌, ◌++◌, length, Ok, refl, sym, ap, ap₂, ◌∙◌, append_assoc, arith}
use Rattle.std.specs.List.{list_any}
use Rattle.std.proofs.lemmas.Bool.{eqb-true, eq-eqb, false≢true}
use Rattle.std.proofs.lemmas.List.Folds.{list_any-append}
use Rattle.scrip_form.specs.Scrip.{Scrip}
use Rattle.scrip_form.specs.Reading.{scrip_of}
use Rattle.mc_records.specs.Entry.{Held}
use Rattle.ledger_model.specs.Stock.{ids_of, may_be_stock, are_stock}
use Rattle.broker_stock.specs.declared.piece.StockPiece.{StockPiece}
use Rattle.broker_stock.specs.Racks.{RackView}
use Rattle.broker_stock.specs.Shelves.{pieces_at, room_at}
use Rattle.broker_stalls.specs.Stalls.{StockIdsView, has_id}
use Rattle.broker_stalls.specs.Listed.{stock_piece, listed_at}
use Rattle.broker_stalls.proofs.ListedLaws.{listed_more, listed_few, ids_more, stock_more, any_turned, eqb_turned}

module _ {held : Held} {list rest : List Held} {x : Scrip × List ℕ} (first : list ≡ held ∷ rest) (is : scrip_of held.text ≡ Ok x) where
  -- the pieces of a value in the list, by those in the rest
  pub listed_first : (v : ℕ) → listed_at v list ≡ cond (eqb x.0.value v) (stock_piece held.secret x ∷ listed_at v rest) (listed_at v rest)
  listed_first v = ap (listed_at v) first ∙ listed_more held rest x is v

  -- where there is room for as many as the list has, the value of its first piece has room for all of them
  pub room_step : (all : List Held) (old new : List (ℕ × RackView)) (value left : ℕ) → value ≡ x.0.value → length list ≤ left → left ≤ room_at new value
      → ((v : ℕ) → room_at old v ≤ room_at new v)
      → (v : ℕ) → (listed_at v all ≡ listed_at v list) ⊎ (length (listed_at v all) ≤ room_at old v) → (listed_at v all ≡ listed_at v rest) ⊎ (length (listed_at v all) ≤ room_at new v)
  room_step all old new value left same few room more v (inr le) = inr (let m = more v in omega (arith, le, m))
  room_step all old new value left same few room more v (inl e) = go (eqb x.0.value v) refl (e ∙ listed_first v)
    where
      go : (b : Bool) → eqb x.0.value v ≡ b → listed_at v all ≡ cond b (stock_piece held.secret x ∷ listed_at v rest) (listed_at v rest)
          → (listed_at v all ≡ listed_at v rest) ⊎ (length (listed_at v all) ≤ room_at new v)
      go false t there = inl there
      go true t there =
          let here : room_at new value ≡ room_at new v = ap (room_at new) (same ∙ eqb-true x.0.value v t) in
          let all_few = listed_few v list in
          let long = ap length e in
          inr (omega (arith, here, all_few, long, few, room))

  -- the value of the first piece has room where there is room for the list
  pub room_first : (r : List (ℕ × RackView)) (value : ℕ) → value ≡ x.0.value → ((v : ℕ) → length (listed_at v list) ≤ room_at r v) → 0 < room_at r value
  room_first r value same room = go (eqb x.0.value value) refl (ap length (listed_first value))
    where
      go : (b : Bool) → eqb x.0.value value ≡ b → length (listed_at value list) ≡ length (cond b (stock_piece held.secret x ∷ listed_at value rest) (listed_at value rest)) → 0 < room_at r value
      go true t long = let le = room value in omega (arith, le, long)
      go false t long = absurd (false≢true (sym t ∙ eq-eqb x.0.value value (sym same)))

  -- one place less at the value of the first piece is room for the rest
  pub room_rest : (old new : List (ℕ × RackView)) (value : ℕ) → value ≡ x.0.value → ((v : ℕ) → length (listed_at v list) ≤ room_at old v)
      → ((v : ℕ) → room_at new v ≡ cond (eqb value v) (room_at old v - 1) (room_at old v)) → (v : ℕ) → length (listed_at v rest) ≤ room_at new v
  room_rest old new value same room less v = go (eqb x.0.value v) refl (ap length (listed_first v)) (less v ∙ ap (λ (n : ℕ). cond (eqb n v) (room_at old v - 1) (room_at old v)) same)
    where
      go : (b : Bool) → eqb x.0.value v ≡ b → length (listed_at v list) ≡ length (cond b (stock_piece held.secret x ∷ listed_at v rest) (listed_at v rest))
          → room_at new v ≡ cond (eqb x.0.value v) (room_at old v - 1) (room_at old v) → length (listed_at v rest) ≤ room_at new v
      go true t long has = let le = room v in let now = has ∙ ap (λ (b : Bool). cond b (room_at old v - 1) (room_at old v)) t in omega (arith, le, long, now)
      go false t long has = let le = room v in let now = has ∙ ap (λ (b : Bool). cond b (room_at old v - 1) (room_at old v)) t in omega (arith, le, long, now)

  -- the first piece put behind others, and then the rest, are the list behind them
  pub pieces_step : (old new : List (ℕ × RackView)) (value : ℕ) (p : StockPiece) → value ≡ x.0.value → p ≡ stock_piece held.secret x
      → ((v : ℕ) → pieces_at new v ≡ cond (eqb value v) (pieces_at old v ++ p ∷ []) (pieces_at old v)) → (v : ℕ) → pieces_at new v ++ listed_at v rest ≡ pieces_at old v ++ listed_at v list
  pieces_step old new value p same piece has v =
      ap (λ (ps : List StockPiece). ps ++ listed_at v rest) (has v ∙ ap₂ (λ (n : ℕ) (q : StockPiece). cond (eqb n v) (pieces_at old v ++ q ∷ []) (pieces_at old v)) same piece)
      ∙ go (eqb x.0.value v) ∙ ap (λ (ps : List StockPiece). pieces_at old v ++ ps) (sym (listed_first v))
    where
      go : (b : Bool) → cond b (pieces_at old v ++ stock_piece held.secret x ∷ []) (pieces_at old v) ++ listed_at v rest ≡ pieces_at old v ++ cond b (stock_piece held.secret x ∷ listed_at v rest) (listed_at v rest)
      go true = append_assoc (pieces_at old v) (stock_piece held.secret x ∷ []) (listed_at v rest)
      go false = refl

  -- the same of identities
  pub ids_step : (old new : StockIdsView) (id : ℕ) → id ≡ x.0.id → ((q : ℕ) → has_id new q ≡ (eqb id q || has_id old q))
      → (q : ℕ) → (has_id new q || list_any (λ k. eqb q k) (ids_of rest)) ≡ (has_id old q || list_any (λ k. eqb q k) (ids_of list))
  ids_step old new id same has q =
      ap (λ b. b || list_any (λ k. eqb q k) (ids_of rest)) (has q ∙ ap (λ b. b || has_id old q) (ap (λ (n : ℕ). eqb n q) same ∙ eqb_turned x.0.id q))
      ∙ turn (eqb q x.0.id) (has_id old q) _ ∙ ap (λ (ids : List ℕ). has_id old q || list_any (λ k. eqb q k) ids) (sym (ap ids_of first ∙ ids_more held rest x is))
    where
      turn : (a b c : Bool) → ((a || b) || c) ≡ (b || (a || c))
      turn true true c = refl
      turn true false c = refl
      turn false true c = refl
      turn false false c = refl

  -- whether the list may be stock, by whether the first piece is new
  pub stock_first : (vendor : List ℕ) (ids : StockIdsView) (seen : List ℕ) → are_stock vendor (seen ++ ids.ids) list
      ≡ ((may_be_stock vendor x.0 && not (has_id ids x.0.id || list_any (λ k. eqb x.0.id k) seen)) && are_stock vendor (x.0.id ∷ (seen ++ ids.ids)) rest)
  unfolding has_id
  stock_first vendor ids seen =
      ap (are_stock vendor (seen ++ ids.ids)) first ∙ stock_more held rest x is vendor (seen ++ ids.ids)
      ∙ ap (λ b. (may_be_stock vendor x.0 && not b) && are_stock vendor (x.0.id ∷ (seen ++ ids.ids)) rest)
      (any_turned x.0.id (seen ++ ids.ids) ∙ list_any-append (λ k. eqb x.0.id k) seen ids.ids ∙ turn (list_any (λ k. eqb x.0.id k) seen) _)
    where
      turn : (a b : Bool) → (a || b) ≡ (b || a)
      turn true true = refl
      turn true false = refl
      turn false true = refl
      turn false false = refl
