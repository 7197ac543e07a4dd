-- Readings, items and links, and more of them.
use Rattle.std.proofs.Common.{◌≡◌, ℕ, suc, false, List, [], ◌∷◌, ◌++◌, refl, sym, ap, ◌∙◌, append_assoc, Option, subst}
use Rattle.std.proofs.lemmas.List.{append-nil}
use Rattle.std.proofs.lemmas.List.Elements.{All-nil, All-append}
use Rattle.mc_outside.specs.LinkView.{LinkView, next_taken}
use Rattle.millicent_http.specs.declared.clock.Clock.{Clock}
use Rattle.millicent_http.specs.declared.clock.Clock.TheVariants.{OfLinks, At}
use Rattle.millicent_http.specs.Items.{Item, closes}
use Rattle.millicent_http.specs.Reads.{NoneCloses}
use Rattle.millicent_http.specs.Steps.{StepRelation, Did, state_after}
use Rattle.millicent_http.specs.Courses.{AreRead, Replied, HadLink, HadLinks}
use Rattle.millicent_http.proofs.StepLemmas.{run_more}

-- ---- more items

pub none_read : (clock : Clock) (r : Option (List ℕ)) → AreRead clock [] r r
none_read OfLinks r = λ rs e. (rs, e, sym (append-nil rs))
none_read (At moment) r = (refl, All-nil (λ (reading : ℕ). reading ≡ moment))

are_read_more : (clock : Clock) (xs ys : List ℕ) (a b c : Option (List ℕ)) → AreRead clock xs a b → AreRead clock ys b c → AreRead clock (xs ++ ys) a c
are_read_more OfLinks xs ys a b c first second = λ rs e.
    let later = second rs e in
    let sooner = first later.0 later.1 in
    (sooner.0, sooner.1, later.2 ∙ ap (λ (l : List ℕ). l ++ ys) sooner.2 ∙ append_assoc sooner.0 xs ys)
are_read_more (At moment) xs ys a b c first second = (second.0 ∙ first.0, All-append (λ (reading : ℕ). reading ≡ moment) xs ys first.1 second.1)

pub replied_none : {S : Type 0} (Step : StepRelation S) (clock : Clock) (s : S) (r : Option (List ℕ)) → Replied Step clock [] [] s r r
replied_none Step clock s r = record { readings = []; read = none_read clock r; ran = tt }

pub replied_more : {S : Type 0} (Step : StepRelation S) (clock : Clock) (xs ys : List Item) (ds es : List (Did S)) (s : S) (a b c : Option (List ℕ))
    → Replied Step clock xs ds s a b → Replied Step clock ys es (state_after s ds) b c → Replied Step clock (xs ++ ys) (ds ++ es) s a c
replied_more Step clock xs ys ds es s a b c first second = record {
  readings = first.readings ++ second.readings;
  read = are_read_more clock first.readings second.readings a b c first.read second.read;
  ran = run_more Step s xs ys first.readings second.readings ds es first.ran second.ran;
}

pub none_more : (items : List Item) (item : Item) → NoneCloses items → closes item ≡ false → NoneCloses (items ++ item ∷ [])
none_more [] item n c = (c, tt)
none_more (i ∷ items) item n c = (n.0, none_more items item n.1 c)

-- ---- links one after another

-- no link was taken
pub links_start : {S : Type 0} (Step : StepRelation S) (clock : Clock) (s : S) (v : LinkView) → HadLinks Step clock 0 [] s v v
links_start Step clock s v = (refl, refl)

-- one link more
pub links_go_on : {S : Type 0} (Step : StepRelation S) (clock : Clock) (n m : ℕ) (ds es : List (Did S)) (s : S) (before now taken next : LinkView) → m ≡ suc n → taken ≡ next_taken now
    → HadLinks Step clock n ds s before now → HadLink Step clock es (state_after s ds) taken next → HadLinks Step clock m (ds ++ es) s before next
links_go_on Step clock n m ds es s before now taken next more took so had =
    subst (λ (k : ℕ). HadLinks Step clock k (ds ++ es) s before next) (sym more)
    (ds, es, now, refl, so, subst (λ (v : LinkView). HadLink Step clock es (state_after s ds) v next) took had)
