-- What the two writes of a journal leave, on plain lists.
use Rattle.std.proofs.Common.{◌≡◌, ℕ, ◌+◌, ◌-◌, List, [], ◌∷◌, ◌++◌, length, get_or, take, drop, replicate, sym, ◌∙◌, ap, arith, append_assoc, length-append}
use Rattle.std.proofs.lemmas.List.{take_at, drop_at, drop_more, append-nil}
use Rattle.mc_outside.specs.Bytes.{put}
use Rattle.mc_outside.specs.DiskView.{Torn}

module _ (front : List ℕ) (end : ℕ) (place : end ≡ length front) (gate : ℕ) (rest bytes : List ℕ) (shape : bytes ≡ front ++ gate ∷ rest) where
  pub long : length bytes ≡ end + 1 + length rest
  long = ap length shape ∙ omega (arith, length-append front (gate ∷ rest))

  split : bytes ≡ (front ++ gate ∷ []) ++ rest
  split = shape ∙ sym (append_assoc front (gate ∷ []) rest)

  one_more : length (front ++ gate ∷ []) ≡ end + 1
  one_more = omega (arith, length-append front (gate ∷ []))

  upto : take (end + 1) bytes ≡ front ++ gate ∷ []
  upto = ap (λ (l : List ℕ). take (end + 1) l) split ∙ take_at (front ++ gate ∷ []) rest (end + 1) one_more

  after : drop (end + 1) bytes ≡ rest
  after = ap (λ (l : List ℕ). drop (end + 1) l) split ∙ drop_at (front ++ gate ∷ []) rest (end + 1) one_more

  before : take end bytes ≡ front
  before = ap (λ (l : List ℕ). take end l) shape ∙ take_at front (gate ∷ rest) end (sym place)

  -- the gate stays where what is behind it is written
  pub torn_behind : (n : ℕ) (c : List ℕ) → Torn (end + 1) n bytes c → (r : List ℕ) × (c ≡ front ++ gate ∷ r)
  torn_behind n c torn =
      let t = torn.before in
      (t.0, t.1 ∙ ap (λ (l : List ℕ). l ++ t.0) upto ∙ append_assoc front (gate ∷ []) t.0)

  pub written_behind : (block : List ℕ) → put (end + 1) block bytes ≡ front ++ gate ∷ (block ++ drop (end + 1 + length block) bytes)
  written_behind block =
      let dr = drop (end + 1 + length block) bytes in
      let none : end + 1 - length bytes ≡ 0 = omega (arith, long) in
      let e1 = ap (λ (l : List ℕ). ((l ++ replicate (end + 1 - length bytes) 0) ++ block) ++ dr) upto in
      let e2 = ap (λ (k : ℕ). (((front ++ gate ∷ []) ++ replicate k 0) ++ block) ++ dr) none in
      let e3 = ap (λ (l : List ℕ). (l ++ block) ++ dr) (append-nil (front ++ gate ∷ [])) in
      e1 ∙ e2 ∙ e3 ∙ append_assoc (front ++ gate ∷ []) block dr ∙ append_assoc front (gate ∷ []) (block ++ dr)

  -- what is behind the gate stays where the gate is written
  pub torn_gate : (c : List ℕ) → Torn end 1 bytes c → (g : ℕ) × (r : List ℕ) × (c ≡ front ++ g ∷ (rest ++ r))
  torn_gate c torn =
      let b = torn.before in
      let d = torn.behind in
      let whole : c ≡ front ++ b.0 = b.1 ∙ ap (λ (l : List ℕ). l ++ b.0) before in
      let end_is : drop end c ≡ b.0 = ap (λ (l : List ℕ). drop end l) whole ∙ drop_at front b.0 end (sym place) in
      let more : drop end c ≡ get_or c end 0 ∷ drop (end + 1) c = drop_more c end 0 (omega (arith, torn.no_shorter, long)) in
      let tail : drop (end + 1) c ≡ rest ++ d.0 = d.1 ∙ ap (λ (l : List ℕ). l ++ d.0) after in
      (get_or c end 0, d.0, whole ∙ ap (λ (l : List ℕ). front ++ l) (sym end_is ∙ more ∙ ap (λ (l : List ℕ). get_or c end 0 ∷ l) tail))

  pub written_gate : put end (1 ∷ []) bytes ≡ front ++ 1 ∷ rest
  written_gate =
      let none : end - length bytes ≡ 0 = omega (arith, long) in
      let e1 = ap (λ (l : List ℕ). ((l ++ replicate (end - length bytes) 0) ++ 1 ∷ []) ++ drop (end + 1) bytes) before in
      let e2 = ap (λ (k : ℕ). ((front ++ replicate k 0) ++ 1 ∷ []) ++ drop (end + 1) bytes) none in
      let e3 = ap (λ (l : List ℕ). (l ++ 1 ∷ []) ++ drop (end + 1) bytes) (append-nil front) in
      let e4 = ap (λ (l : List ℕ). (front ++ 1 ∷ []) ++ l) after in
      e1 ∙ e2 ∙ e3 ∙ e4 ∙ append_assoc front (1 ∷ []) rest
