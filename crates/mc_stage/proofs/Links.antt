-- The links to come.
use Rattle.std.proofs.Common.{◌≡◌, ℕ, List, [], ◌∷◌, ◌++◌, ◌∙◌, map, refl, ap, Vec, Global, Some, None, true, false}
use Rattle.std.specs.Prelude.{reverse, option_map, slice_get}
use Rattle.std.proofs.lemmas.List.{reverse-append}
use Rattle.mc_outside.specs.LinkView.{Session}
use Rattle.mc_stage.specs.Model.{is_taken}
use Rattle.mc_stage.specs.Scenario.{links_of}

-- the one kept last is the next
pub links_last : (ls : List (Vec (Vec ℕ Global) Global)) (l : Vec (Vec ℕ Global) Global) → links_of (ls ++ l ∷ []) ≡ map (λ (v : Vec ℕ Global). v.items) l.items ∷ links_of ls
links_last [] l = refl
links_last (k ∷ ls) l = ap (λ z. z ++ map (λ (v : Vec ℕ Global). v.items) k.items ∷ []) (links_last ls l)

-- the links in their order
pub links_in_order : (ls : List (Vec (Vec ℕ Global) Global)) → links_of (reverse ls) ≡ map (λ (l : Vec (Vec ℕ Global) Global). map (λ (v : Vec ℕ Global). v.items) l.items) ls
links_in_order [] = refl
links_in_order (l ∷ ls) = ap links_of (reverse-append (l ∷ []) ls) ∙ links_last (reverse ls) l ∙ ap (λ z. map (λ (v : Vec ℕ Global). v.items) l.items ∷ z) (links_in_order ls)

-- a link was taken where the first one has bytes sent
pub taken_where_sent : (ss : List Session) (b : List ℕ) → Some b ≡ option_map (λ (s : Session). s.sent) (slice_get ss 0) → is_taken ss ≡ true
taken_where_sent [] b e = absurd cc
taken_where_sent (s ∷ ss) b e = refl

-- none was taken where it has none
pub none_where_unsent : (ss : List Session) → None ≡ option_map (λ (s : Session). s.sent) (slice_get ss 0) → is_taken ss ≡ false
none_where_unsent [] e = refl
none_where_unsent (s ∷ ss) e = absurd cc
