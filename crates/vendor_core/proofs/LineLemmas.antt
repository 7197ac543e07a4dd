-- The lines of the pieces of a mint.
use Rattle.std.proofs.Common.{◌≡◌, ℕ, zero, suc, ◌+◌, ◌*◌, ◌<◌, ◌≤◌, ◌^◌, Bool, cond, List, [], ◌∷◌, ◌++◌, take, Option, Some, None, slice_get, refl, sym, ap, ap₂, subst, ◌∙◌, append_assoc, append-nil, add-one, arith}
use Rattle.std.specs.Prelude.{option_map, unwrap_or}
use Rattle.std.specs.List.{AllByRecursion}
use Rattle.std.proofs.lemmas.Bool.{eq-eqb}
use Rattle.std.proofs.lemmas.List.Elements.{All-from_recursion, filter_map-append}
use Rattle.std.proofs.lemmas.Option.{slice_get_within, get_or_from_slice_get}
use Rattle.std.proofs.Math.Nat.{mul-le-mul, div-mul-le_self}
use Rattle.scrip_form.specs.Identities.{numbered, epoch_of, series_of}
use Rattle.scrip_form.specs.Scrip.{Scrip}
use Rattle.scrip_form.specs.Issuing.{Issuing, HasPeriod, epoch, series_end}
use Rattle.mc_requests.specs.declared.limits.Limits.{Limits}
use Rattle.mc_records.specs.Entry.{House, Entry, Site, Mint, Fits, SiteFits, moment_of}
use Rattle.ledger_model.specs.declared.numbers.TheConstants.{VENDOR_KIND}
use Rattle.ledger_model.specs.Histories.{History, time}
use Rattle.ledger_model.specs.Houses.{site_name, site_kind, own_series, terms_of, all_terms, terms_by, terms_in, issuer_in, epoch_in, version}
use Rattle.ledger_model.specs.Lawful.{AllFollow, IsLawful}
use Rattle.ledger_model.specs.Pieces.{first_hand, run_from, minted_pieces, own_count}
use Rattle.vendor_core.specs.Tasks.{mint_lines}
use Rattle.vendor_core.specs.Lines.{own_line, piece_lines}
use Rattle.ledger_model.specs.Stock.{upgrade_terms}
use Rattle.ledger_model.proofs.LawfulLaws.{follows_at}
use Rattle.ledger_model.proofs.VersionLaws.{version-more}
use Rattle.ledger_model.proofs.UpgradeLaws.{later_epoch, own_upgrade_terms, upgrade_terms_stay, version_stays}

-- the end of the series of an epoch below 2^24 is one that a piece may have
pub ends_in_range : (t : Issuing) (epoch : ℕ) → HasPeriod t.period t.life → epoch < 2 ^ 24 → (0 < series_end t epoch) × (series_end t epoch ≤ 2 ^ 49)
ends_in_range t epoch has below =
    let low : epoch + 1 ≤ 2 ^ 24 = omega arith in
    let one : 1 ≤ epoch + 1 = omega arith in
    let some : 1 ≤ t.period = omega (arith, has.least) in
    let product : (epoch + 1) * t.period ≤ 2 ^ 24 * 2 ^ 24 = mul-le-mul low has.most in
    let positive : 1 * 1 ≤ (epoch + 1) * t.period = mul-le-mul one some in
    (omega (arith, positive), omega (arith, product, has.short))

-- one more piece of a run puts one more line behind the others
line_behind : (h : History) (v : ℕ → ℕ) (t : Issuing) (value first n : ℕ)
    → piece_lines v t (run_from h value first (suc n)) ≡ piece_lines v t (run_from h value first n) ++ own_line v t (first_hand h value (first + n))
line_behind h v t value first zero = append-nil (own_line v t (first_hand h value first)) ∙ ap (λ (id : ℕ). own_line v t (first_hand h value id)) (omega arith)
line_behind h v t value first (suc n) =
    let line = own_line v t (first_hand h value first) in
    let next : first + 1 + n ≡ first + suc n = omega arith in
    ap (λ (rest : List ℕ). line ++ rest) (line_behind h v t value (first + 1) n)
    ∙ ap (λ (id : ℕ). line ++ (piece_lines v t (run_from h value (first + 1) n) ++ own_line v t (first_hand h value id))) next
    ∙ sym (append_assoc line (piece_lines v t (run_from h value (first + 1) n)) (own_line v t (first_hand h value (first + suc n))))

pub line_added : (h : History) (v : ℕ → ℕ) (t : Issuing) (value first n : ℕ)
    → piece_lines v t (run_from h value first (n + 1)) ≡ piece_lines v t (run_from h value first n) ++ own_line v t (first_hand h value (first + n))
line_added h v t value first n = rw (add-one n) (line_behind h v t value first n)

-- so many identities of a series fit 64 bits
pub run_in_range : (series before count first : ℕ) → first ≡ numbered series before → before + count ≤ 2 ^ 32 → first < 2 ^ 64 → first + count ≤ 2 ^ 64
run_in_range series before count first is few long = omega arith

-- ---- the lines of a Mint entry

pub lines_of_mint : (h : History) (terms : Issuing) (n m : ℕ) (reference : List ℕ) (count value first : ℕ) → terms_in h 0 ≡ Some terms → slice_get h n ≡ Some (Mint m reference count value first)
    → mint_lines h n ≡ piece_lines (version h (site_name h)) terms (run_from (take n h) value first count)
lines_of_mint h terms n m reference count value first own is = ap₂ lines own is
  where
    lines : Option Issuing → Option Entry → List ℕ
    lines terms' e = unwrap_or (option_map (λ t. piece_lines (version h (site_name h)) t (unwrap_or (option_map (minted_pieces (take n h)) e) [])) terms') []

-- terms stay under a mint
pub terms_under_mint : (h : History) (m : ℕ) (reference : List ℕ) (count value first issuer : ℕ) → terms_in (h ++ Mint m reference count value first ∷ []) issuer ≡ terms_in h issuer
terms_under_mint h m reference count value first issuer =
    ap (λ (terms : List Issuing). terms_by terms issuer) (filter_map-append terms_of h (Mint m reference count value first ∷ []) ∙ append-nil (all_terms h))

-- ---- a run of one series

-- a piece is handed out alike after histories of one name and terms, where its series has one version in them
same_first : (g h : History) (value id : ℕ) → site_name g ≡ site_name h → terms_in g 0 ≡ terms_in h 0 → version g (site_name g) (series_of id) ≡ version h (site_name h) (series_of id) → first_hand g value id ≡ first_hand h value id
same_first g h value id name terms versions =
    λ i. record { version = versions i; vendor = name i; value = value; id = id; cust = id; expires = unwrap_or (option_map (λ t. series_end t (epoch_of id)) (terms i)) 0; props = [] }

-- all identities of a run are of a series
abbrev IsRunOf : ℕ → ℕ → ℕ → Type 0
IsRunOf series first n = (id : ℕ) → first ≤ id → id < first + n → series_of id ≡ series

same_run : (g h : History) (series value first n : ℕ) → site_name g ≡ site_name h → terms_in g 0 ≡ terms_in h 0 → version g (site_name g) series ≡ version h (site_name h) series → IsRunOf series first n
    → run_from g value first n ≡ run_from h value first n
same_run g h series value first zero name terms versions all = refl
same_run g h series value first (suc n) name terms versions all =
    let of_series : series_of first ≡ series = all first (omega arith) (omega arith) in
    let here = ap (version g (site_name g)) of_series ∙ versions ∙ sym (ap (version h (site_name h)) of_series) in
    ap₂ (λ (p : Scrip) (ps : List Scrip). p ∷ ps) (same_first g h value first name terms here)
    (same_run g h series value (first + 1) n name terms versions (λ id from to. all id (omega (arith, from)) (omega (arith, to))))

-- ---- an earlier mint

-- the pieces were the same, and the identities fit 64 bits
pub record IsEarlierMint (h : History) (n count value first : ℕ) : Type 0 where
  pub run : run_from (take n h) value first count ≡ run_from h value first count
  pub fits : first + count ≤ 2 ^ 64

-- what comes behind an entry of a history
record Behind (limits : Limits) (before es : History) (n : ℕ) (e : Entry) : Type 0 where
  rest : History
  parts : es ≡ take n es ++ e ∷ rest
  follow : AllFollow limits (before ++ (take n es ++ e ∷ [])) rest

behind : (limits : Limits) (before es : History) (n : ℕ) (e : Entry) → AllFollow limits before es → slice_get es n ≡ Some e → Behind limits before es n e
behind limits before [] n e all is = absurd cc
behind limits before (x ∷ xs) zero e all is =
    let same : x ≡ e = cc in
    record { rest = xs; parts = ap (λ (y : Entry). y ∷ xs) same; follow = subst (λ (y : Entry). AllFollow limits (before ++ y ∷ []) xs) same all.1 }
behind limits before (x ∷ xs) (suc n) e all is =
    let b = behind limits (before ++ x ∷ []) xs n e all.1 is in
    record {
      rest = b.rest;
      parts = ap (λ (ys : History). x ∷ ys) b.parts;
      follow = subst (λ (g : History). AllFollow limits g b.rest) (append_assoc before (x ∷ []) (take n xs ++ e ∷ [])) b.follow;
    }

last_moment : (h : History) (e : Entry) → moment_of e ≤ time (h ++ e ∷ [])
last_moment [] e = omega arith
last_moment (x ∷ xs) e = omega (arith, last_moment xs e)

-- an epoch of a moment of 35 bits is below 2^24
epoch_below : (t : Issuing) (m : ℕ) → HasPeriod t.period t.life → m < 2 ^ 35 → epoch t m < 2 ^ 24
epoch_below t m has late =
    let some : 0 < t.period = omega (arith, has.least) in
    let whole = div-mul-le_self m t.period in
    let product : 2048 * epoch t m ≤ t.period * epoch t m = mul-le-mul has.least (omega arith) in
    omega (arith, whole, product, late)

-- the own series of a moment had at a mint the version that it has for ever
series_version : (limits : Limits) (h : History) (n m : ℕ) (reference : List ℕ) (count value first : ℕ) (t : Issuing) → AllFollow limits [] h → slice_get h n ≡ Some (Mint m reference count value first) → terms_in (take n h) 0 ≡ Some t
    → HasPeriod t.period t.life → m < 2 ^ 35 → version (take n h) (site_name (take n h)) (epoch t m) ≡ version h (site_name (take n h)) (epoch t m)
series_version limits h n m reference count value first t all is own has late =
    let e = Mint m reference count value first in
    let g = take n h in
    let name = site_name g in
    let series = epoch t m in
    let b = behind limits [] h n e all is in
    let below = epoch_below t m has late in
    let issuer : issuer_in series ≡ 0 = omega (arith, below) in
    let within : epoch_in series ≡ series = omega (arith, below) in
    let terms : upgrade_terms g name (issuer_in series) ≡ Some t = own_upgrade_terms g (issuer_in series) issuer ∙ ap (terms_in g) issuer ∙ own in
    let some : 0 < t.period = omega (arith, has.least) in
    let come : epoch_in series ≤ epoch t (time (g ++ e ∷ [])) = omega (arith, within, later_epoch t.period m (time (g ++ e ∷ [])) some (last_moment g e)) in
    let more : version (g ++ e ∷ []) name series ≡ version g name series = λ i. version-more g e (λ k. absurd (omega (arith, k))) i name series in
    sym (ap (λ (x : History). version x name series) (b.parts ∙ sym (append_assoc g (e ∷ []) b.rest)) ∙ version_stays limits (g ++ e ∷ []) b.rest name series t b.follow (upgrade_terms_stay g e name (issuer_in series) t terms) some come ∙ more)

-- a vendor is founded with its own terms
founded : (kind : ℕ) (house : Option House) → kind ≡ 0 → SiteFits kind house → (x : House) × (house ≡ Some x) × (x.terms.issuer ≡ 0) × HasPeriod x.terms.period x.terms.life
founded zero (Some x) is fits = let low = fits.terms.issuer.1 in (x, refl, omega (arith, low), fits.terms.period)
founded zero None is fits = absurd fits
founded (suc k) house is fits = absurd (omega arith)

own_first : (m kind : ℕ) (name : List ℕ) (x : House) (es : History) → x.terms.issuer ≡ 0 → terms_in (Site m kind name (Some x) ∷ es) 0 ≡ Some x.terms
own_first m kind name x es zero_is = ap (λ (b : Bool). cond b (Some x.terms) (terms_in es 0)) (eq-eqb x.terms.issuer 0 zero_is)

some_number : (a b : ℕ) → Some a ≡ Some b → a ≡ b
some_number a b e = cc

front : (h : History) (n m : ℕ) (reference : List ℕ) (count value first : ℕ) → AllByRecursion Fits h → site_kind h ≡ Some VENDOR_KIND → slice_get h n ≡ Some (Mint m reference count value first)
    → (site_name (take n h) ≡ site_name h) × (terms_in (take n h) 0 ≡ terms_in h 0) × (t : Issuing) × (terms_in (take n h) 0 ≡ Some t) × HasPeriod t.period t.life
front [] n m reference count value first fits kind is = absurd cc
front (Site sm k name house ∷ es) zero m reference count value first fits kind is = absurd cc
front (Site sm k name house ∷ es) (suc n) m reference count value first fits kind is =
    let f = founded k house (some_number k 0 kind) fits.0.house in (
      refl,
      ap (λ (o : Option House). terms_in (Site sm k name o ∷ take n es) 0) f.1 ∙ own_first sm k name f.0 (take n es) f.2
          ∙ sym (ap (λ (o : Option House). terms_in (Site sm k name o ∷ es) 0) f.1 ∙ own_first sm k name f.0 es f.2),
      f.0.terms,
      ap (λ (o : Option House). terms_in (Site sm k name o ∷ take n es) 0) f.1 ∙ own_first sm k name f.0 (take n es) f.2,
      f.3,
    )
front (_ ∷ es) n m reference count value first fits kind is = absurd cc

all_follow : (limits : Limits) (h : History) → IsLawful limits h → AllFollow limits [] h
all_follow limits [] lawful = tt
all_follow limits (x ∷ xs) lawful = lawful

pub earlier_mint : (limits : Limits) (h : History) (n m : ℕ) (reference : List ℕ) (count value first : ℕ) → limits.series ≤ 2 ^ 32 → IsLawful limits h → AllByRecursion Fits h
    → site_kind h ≡ Some VENDOR_KIND → slice_get h n ≡ Some (Mint m reference count value first) → IsEarlierMint h n count value first
earlier_mint limits h n m reference count value first most lawful fits kind is =
    let e = Mint m reference count value first in
    let same = front h n m reference count value first fits kind is in
    let may = (follows_at limits [] h n e (all_follow limits h lawful) is).allowed in
    let there : Fits e = subst Fits (get_or_from_slice_get h n e e is) (All-from_recursion Fits h fits n e (slice_get_within h n e is)) in
    let run : own_count (take n h) (own_series (take n h) m) + count ≤ 2 ^ 32 = omega (arith, may.3, most) in
    let t = same.2 in
    let series : own_series (take n h) m ≡ epoch t m = ap (λ (o : Option Issuing). unwrap_or (option_map (λ x. epoch x m) o) 0) same.3 in
    let versions : version (take n h) (site_name (take n h)) (epoch t m) ≡ version h (site_name h) (epoch t m) =
    series_version limits h n m reference count value first t (all_follow limits h lawful) is same.3 same.4 there.moment ∙ ap (λ (name : List ℕ). version h name (epoch t m)) same.0 in
    let one : IsRunOf (epoch t m) first count = λ id from to. omega (arith, may.2, run, series, from, to) in
    record {
      run = same_run (take n h) h (epoch t m) value first count same.0 same.1 versions one;
      fits = run_in_range (own_series (take n h) m) (own_count (take n h) (own_series (take n h) m)) count first may.2 run there.first;
    }
