-- What holds of chains that may not be known.
use Rattle.std.proofs.Common.{◌≡◌, ℕ, Bool, true, false, ◌||◌, List, [], ◌∷◌, ◌++◌, length, Option, Some, None, refl, sym, ◌∙◌, ap, ap₂}
use Rattle.std.specs.Prelude.{IsSome}
use Rattle.mc_records.specs.Entry.{Entry, payload}
use Rattle.mc_records.specs.Chains.{first_chain, chain, chain_after, has_switch, is_switch}
use Rattle.mc_records.specs.Sizes.{tail, tail_by, tail_bytes}
use Rattle.mc_records.proofs.ChainLaws.{length-chain_after, chain-more, has_switch-more}
use Rattle.mc_records.proofs.SizeLaws.{tail-by, no_tail}
use Rattle.scrip_journal.specs.States.{IsChainOf, IsKnown, known_chain, chain_with}

pub not_so : (b : Bool) → (b ≡ true → false ≡ true) → b ≡ false
not_so true never = sym (never refl)
not_so false never = refl

-- a chain that is known
pub chain_known : (c : Option (List ℕ)) (h : List Entry) → IsChainOf c h → IsSome c → known_chain c ≡ chain h
chain_known None h is some = absurd (cc some)
chain_known (Some x) h is some = is

-- the chain with one entry more is that of the entries with it, where the chain before a Switch is known
pub chain_goes_on : (c : Option (List ℕ)) (h : List Entry) (e : Entry) → IsChainOf c h → IsKnown (is_switch e) c → IsChainOf (chain_with c (payload e)) (h ++ e ∷ [])
chain_goes_on None h e is known = has_switch-more h e ∙ ap₂ (λ (a b : Bool). a || b) is (not_so (is_switch e) known)
chain_goes_on (Some x) h e is known = ap (λ (k : List ℕ). chain_after k (payload e)) is ∙ sym (chain-more h e)

-- and where a Switch stands it is known
pub chain_at_switch : (c : Option (List ℕ)) (h : List Entry) (e : Entry) → IsChainOf c h → has_switch h ≡ true → known_chain (chain_with c (payload e)) ≡ chain (h ++ e ∷ [])
chain_at_switch None h e is on = let both : false ≡ true = sym is ∙ on in absurd (cc both)
chain_at_switch (Some x) h e is on = ap (λ (k : List ℕ). chain_after k (payload e)) is ∙ sym (chain-more h e)

front_false : (a b : Bool) → (a || b) ≡ false → a ≡ false
front_false true b off = off
front_false false b off = refl

-- the tail of an entry, by the chain with it
pub tail_of : (switched : Bool) (c : Option (List ℕ)) (h : List Entry) (e : Entry) → switched ≡ has_switch h → IsChainOf c (h ++ e ∷ []) → tail_by switched (known_chain c) ≡ tail h e
tail_of switched None h e is none =
    let off : has_switch h ≡ false = front_false (has_switch h) (is_switch e) (sym (has_switch-more h e) ∙ none) in
    ap (λ (b : Bool). tail_by b first_chain) (is ∙ off) ∙ sym (no_tail h e off)
tail_of switched (Some x) h e is chain_is = ap₂ tail_by is chain_is ∙ sym (tail-by h e)

-- how many bytes it has
pub tail_long : (switched : Bool) (c : Option (List ℕ)) (p : List ℕ) → length (tail_by switched (known_chain (chain_with c p))) ≡ tail_bytes switched
tail_long true None p = refl
tail_long true (Some c) p = length-chain_after c p
tail_long false c p = refl

-- a chain that is known stays known
pub known_with : (c : Option (List ℕ)) (p : List ℕ) → IsSome c → IsSome (chain_with c p)
known_with None p some = some
known_with (Some x) p some = refl

pub known_more : (a b : Bool) (c : Option (List ℕ)) (p : List ℕ) → IsKnown a c → IsKnown b c → IsKnown (a || b) (chain_with c p)
known_more true b c p was is on = known_with c p (was refl)
known_more false b c p was is on = known_with c p (is on)
