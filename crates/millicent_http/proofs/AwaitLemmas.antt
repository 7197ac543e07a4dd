-- What the reader's loop keeps.
use Rattle.std.proofs.Common.{◌≡◌, inl, inr, refl, ℕ, true, false, List, [], ◌++◌, sym, ◌∙◌, ap, subst, arith, length-append, append_assoc}
use Rattle.std.proofs.lemmas.List.{append-nil}
use Rattle.mc_outside.specs.LinkView.{LinkView}
use Rattle.millicent_http.specs.HeadEnds.{ends_at}
use Rattle.millicent_http.specs.Items.{EndsNoItem}
use Rattle.mc_outside.specs.LinkView.{after_recv}
use Rattle.millicent_http.specs.Awaits.{Came}
use Rattle.millicent_http.proofs.EndLemmas.{ends_stays, not_true}
use Rattle.mc_outside.proofs.Sessions.{heard_none, heard_more}

pub came_none : (a : List ℕ) (v : LinkView) → Came a v a v
came_none a v = record { got = []; held = sym (append-nil a); link = heard_none v; waited = inl refl }

pub came_more : (a b x d : List ℕ) (v w u : LinkView) → Came a v b w → EndsNoItem b → d ≡ b ++ x → u ≡ after_recv x w → Came a v d u
came_more a b x d v w u c none e f = record {
  got = c.got ++ x;
  held = e ∙ ap (λ (z : List ℕ). z ++ x) c.held ∙ append_assoc a c.got x;
  link = f ∙ ap (after_recv x) c.link ∙ heard_more v c.got x;
  waited = inr (c.got, x, refl, subst EndsNoItem c.held none);
}

-- no item before, where there is none now
pub no_item_front : (a b : List ℕ) → EndsNoItem (a ++ b) → EndsNoItem a
no_item_front a b e = record {
  short = omega (arith, e.short, length-append a b);
  none = λ m le. not_true (ends_at a m) (λ t.
      let here : ends_at (a ++ b) m ≡ true = ends_stays a b m le t in
      let nowhere : ends_at (a ++ b) m ≡ false = e.none m (omega (arith, length-append a b)) in
      cc);
}

pub no_item_came : (a b : List ℕ) (v w : LinkView) → Came a v b w → EndsNoItem b → EndsNoItem a
no_item_came a b v w c e = no_item_front a c.got (subst EndsNoItem c.held e)
