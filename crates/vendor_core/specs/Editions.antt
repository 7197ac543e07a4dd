-- The goods of a shelf.
use Rattle.std.specs.Prelude.{◌≡◌, ℕ, ◌<◌, ◌≤◌, ◌⊎◌, Bool, true, false, nat_lt, nat_eq, is_some, IsTrue, IfSome, List, [], ◌∷◌, length, Option, Some, None, option_map, option_and_then, slice_get, All}
use Rattle.std.specs.List.{AllPairs, Contains}
use Rattle.std.specs.Map.{lookup}
use Rattle.mc_records.specs.declared.ranges.TheConstants.{MOST_CONTENTS}
use Rattle.mc_records.specs.Entry.{Entry, Goods}
use Rattle.ledger_model.specs.Histories.{History}
use Rattle.ledger_model.specs.Goods.{is_goods_of, goods_in, goods_price}
use Rattle.ledger_model.specs.Replies.{Contents, goods_brought}
use Rattle.house_state.specs.Trade.{Replaces, IsInForce}
use Rattle.name_places.specs.NamePlaces.{NamePlacesView, place_of}
use Rattle.vendor_core.specs.declared.edition.Article.{Article}
use Rattle.vendor_core.specs.declared.catalogue.Replaced.{Replaced}

-- ---- articles

-- the kind of an article is below 3, and it has at most 65,536 bytes of contents
pub record IsInRange (a : Article) : Type 0 where
  pub kind : a.kind < 3
  pub short : length a.contents.items ≤ MOST_CONTENTS

-- the article of the Goods entry of a number, among articles by the numbers of their entries
abbrev pub edition_of : List (ℕ × Article) → ℕ → Option Article
edition_of editions number = lookup (nat_eq number) editions

-- the article that a target sells
abbrev pub sold_at : List (ℕ × Article) → NamePlacesView → List ℕ → Option Article
sold_at editions on_sale target = option_and_then (edition_of editions) (place_of on_sale target)

-- ---- what they sell

-- the entry of an article at a target, at a moment
abbrev pub goods_entry : ℕ → List ℕ → Article → Entry
goods_entry m target a = Goods m target a.price a.kind a.contents.items

-- what is sold: its price, and what it brings
pub record Sold : Type 0 where
  pub price : ℕ
  pub brings : Contents

-- what a Goods entry sells
abbrev pub sold_by_entry : Entry → Sold
sold_by_entry e = record { price = goods_price e; brings = goods_brought e }

-- what an article sells
abbrev pub sold_by : Article → Sold
sold_by a = record { price = a.price; brings = record { kind = a.kind; bytes = a.contents.items } }

-- how many bytes of contents an article has, where there is one
abbrev pub bytes_of_edition : Option Article → ℕ
bytes_of_edition None = 0
bytes_of_edition (Some a) = length a.contents.items

-- ---- what a history says of them

-- an article is that of the Goods entry of a number
pub record IsEditionOf (h : History) (number : ℕ) (a : Article) : Type 0 where
  pub moment : ℕ
  pub target : List ℕ
  pub entry : slice_get h number ≡ Some (goods_entry moment target a)

-- The entry of a number puts goods at a target, no later entry replaces them, and their article is there.
pub record IsSoldAt (h : History) (editions : List (ℕ × Article)) (target : List ℕ) (number : ℕ) : Type 0 where
  pub entry : option_map (is_goods_of target) (slice_get h number) ≡ Some true
  pub in_force : IsInForce h number
  pub there : IsTrue (is_some (edition_of editions number))

-- the first entry that replaces goods
abbrev pub IsReplacement : History → Replaced → Type 0
IsReplacement h r = Replaces h r.number r.by × ((k : ℕ) → Replaces h r.number k → r.by ≤ k)

-- the goods that the entry of a number replaces, where there are some
abbrev pub replaced_by : ℕ → Option ℕ → List Replaced
replaced_by by None = []
replaced_by by (Some number) = record { number = number; by = by } ∷ []

-- Whether the reply of an entry from a number on may bring goods that the entry of number m replaced: it
-- replaced them behind that number. With None no reply is kept.
abbrev pub may_be_brought : Option ℕ → ℕ → Bool
may_be_brought None m = false
may_be_brought (Some from) m = nat_lt from m

-- the goods that were replaced first are needed, where there are any
abbrev pub IsFirstNeeded : Option ℕ → List Replaced → Type 0
IsFirstNeeded from [] = Unit {0}
IsFirstNeeded from (r ∷ rs) = IsTrue (may_be_brought from r.by)

-- the article of a number is what some target sells, or was replaced
abbrev pub IsListed : NamePlacesView → List Replaced → ℕ → Type 0
IsListed on_sale replaced number =
    ((target : List ℕ) × (place_of on_sale target ≡ Some number)) ⊎ ((by : ℕ) × Contains replaced (record { number = number; by = by }))

-- Articles, the number that each target sells, and the goods that were replaced and are still kept, are what
-- a history says of them. The goods that were replaced stand in the order in which they were replaced.
pub record ShowsGoods (editions : List (ℕ × Article)) (on_sale : NamePlacesView) (replaced : List Replaced) (h : History) : Type 0 where
  pub of_entries : (number : ℕ) → IfSome (edition_of editions number) (IsEditionOf h number)
  pub of_targets : (target : List ℕ) → IfSome (place_of on_sale target) (IsSoldAt h editions target)
  pub sells : (target : List ℕ) → option_map sold_by_entry (goods_in h target) ≡ option_map sold_by (sold_at editions on_sale target)
  pub of_replaced : All (IsReplacement h) replaced
  pub in_order : AllPairs (λ r s. r.by < s.by) replaced
  pub listed : (number : ℕ) → IsTrue (is_some (edition_of editions number)) → IsListed on_sale replaced number
