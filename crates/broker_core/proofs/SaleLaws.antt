-- What is sold of a vendor, as the ledger answers it.
use Rattle.std.proofs.Common.{◌≡◌, ℕ, Bool, true, false, cond, List, Option, Some, None, Result, Ok, Err, option_map, refl, sym, ap, ap₂, subst, ◌∙◌, find}
use Rattle.std.specs.Prelude.{option_and_then, IfOk}
use Rattle.scrip_form.specs.Identities.{series_of}
use Rattle.scrip_form.specs.Issuing.{Issuing, series_at}
use Rattle.scrip_form.specs.Scrip.{Scrip, scrip_body, scrip_text}
use Rattle.mc_requests.specs.Errands.{Errand, buy, errand_of}
use Rattle.mc_records.specs.Entry as entries
use Rattle.mc_records.specs.Entry.{Held}
use Rattle.mc_requests.specs.declared.refusal.Refusal.TheVariants.{NoVendor, NoStock}
use Rattle.mc_requests.specs.declared.refusal.Refusal.{Refusal}
use Rattle.kept_replies.specs.declared.deed.Deed.{Deed}
use Rattle.kept_replies.specs.declared.deed.Deed.TheVariants as kept
use Rattle.ledger_model.specs.Histories.{History}
use Rattle.scrip_certs.specs.Digests.{certificate, customer_secret}
use Rattle.ledger_model.specs.Houses.{version}
use Rattle.ledger_model.specs.Lines.{Stop, Refuse, ◌>>=◌, as_line, given}
use Rattle.ledger_model.specs.Stock.{sale_at, sold_held, licensed_held, licence_in, licensed_count, knows_vendor, for_sale, licensed_piece}
use Rattle.ledger_model.specs.Stages.{supplied}
use Rattle.ledger_model.specs.Replies.{Contents, sale_brought, contents_if}
use Rattle.house_state.specs.Trade.{piece_brought, BringsFor}
use Rattle.house_state.specs.Views.{entry_deed}
use Rattle.broker_stock.specs.declared.piece.StockPiece.{StockPiece}
use Rattle.broker_stock.specs.Racks.{is_open}
use Rattle.broker_stalls.specs.Stalls.{StallView, terms_of, sold_count, stocked_at, is_known}
use Rattle.broker_stalls.specs.Listed.{piece_in_stock}
use Rattle.broker_stalls.specs.Shown.{Shows}
use Rattle.broker_stalls.proofs.ShownLaws.{first_is}
use Rattle.broker_stalls.proofs.HeldLaws.{held_is}
use Rattle.broker_core.specs.Sales.{licensed_deed, stock_deed, IsLicensed, sale_of_next}

-- ---- what is supplied

abbrev Supplied : Type 0
Supplied = Result entries.Deed Stop

-- a licence is what is sold under
pub by_licence : (h : History) (vendor : List ℕ) (s : StallView) (limit t value : ℕ) (terms : Issuing) (o : Option Scrip) (known : Bool) (series count : ℕ) → Shows h vendor s → Some terms ≡ terms_of s → series ≡ series_at terms t → count ≡ sold_count s series
    → sale_of_next limit (series_at terms t) count ≡ supplied limit t value (licence_in h vendor) (licensed_count h vendor) known o
by_licence h vendor s limit t value terms o known series count shows stands at sold =
    let same : count ≡ licensed_count h vendor (series_at terms t) = sold ∙ shows.counts series ∙ ap (licensed_count h vendor) at in
    ap (sale_of_next limit (series_at terms t)) same
    ∙ ap (λ (l : Option Issuing). supplied limit t value l (licensed_count h vendor) known o) (stands ∙ shows.terms)

-- where there is none, the vendor has to be known and a piece for sale
abbrev out_of_stock : ℕ → Bool → Option ℕ → Supplied
out_of_stock value known id = cond known (given id (NoStock value) >>= λ n. Ok (entries.sale true n)) (Err (Refuse NoVendor))

without_licence : (limit t value : ℕ) (count : ℕ → ℕ) (known : Bool) (o : Option Scrip) → supplied limit t value None count known o ≡ out_of_stock value known (option_map (λ p. p.id) o)
without_licence limit t value count true (Some p) = refl
without_licence limit t value count true None = refl
without_licence limit t value count false o = refl

pub by_stock : (h : History) (vendor : List ℕ) (s : StallView) (limit t value : ℕ) → Shows h vendor s → None ≡ terms_of s
    → out_of_stock value (is_known s) (option_map (λ (p : StockPiece). p.id) (find (is_open t) (stocked_at s value)))
    ≡ supplied limit t value (licence_in h vendor) (licensed_count h vendor) (knows_vendor h vendor) (for_sale h t vendor value)
by_stock h vendor s limit t value shows none =
    ap₂ (out_of_stock value) shows.known (first_is h vendor s t value shows)
    ∙ sym (without_licence limit t value (licensed_count h vendor) (knows_vendor h vendor) (for_sale h t vendor value))
    ∙ ap (λ (l : Option Issuing). supplied limit t value l (licensed_count h vendor) (knows_vendor h vendor) (for_sale h t vendor value)) (none ∙ shows.terms)

pub unknown_vendor : (h : History) (vendor : List ℕ) (s : StallView) (limit t value : ℕ) → Shows h vendor s → None ≡ terms_of s → is_known s ≡ false
    → Err (Refuse NoVendor) ≡ supplied limit t value (licence_in h vendor) (licensed_count h vendor) (knows_vendor h vendor) (for_sale h t vendor value)
unknown_vendor h vendor s limit t value shows none known =
    sym (ap (λ (b : Bool). out_of_stock value b (option_map (λ (p : StockPiece). p.id) (find (is_open t) (stocked_at s value)))) known) ∙ by_stock h vendor s limit t value shows none

pub none_open : (h : History) (vendor : List ℕ) (s : StallView) (limit t value n : ℕ) → Shows h vendor s → None ≡ terms_of s → is_known s ≡ true → None ≡ find (is_open t) (stocked_at s value) → n ≡ value
    → Err (Refuse (NoStock n)) ≡ supplied limit t value (licence_in h vendor) (licensed_count h vendor) (knows_vendor h vendor) (for_sale h t vendor value)
none_open h vendor s limit t value n shows none known first same =
    ap (λ (k : ℕ). refused k) same
    ∙ ap₂ (λ (b : Bool) (o : Option StockPiece). out_of_stock value b (option_map (λ (p : StockPiece). p.id) o)) (sym known) first ∙ by_stock h vendor s limit t value shows none
  where
    refused : ℕ → Supplied
    refused k = Err (Refuse (NoStock k))

pub one_open : (h : History) (vendor : List ℕ) (s : StallView) (limit t value : ℕ) (p : StockPiece) (r : Result Deed Refusal) → Shows h vendor s → None ≡ terms_of s → is_known s ≡ true → Some p ≡ find (is_open t) (stocked_at s value)
    → r ≡ Ok (stock_deed vendor value p) → as_line entry_deed r ≡ supplied limit t value (licence_in h vendor) (licensed_count h vendor) (knows_vendor h vendor) (for_sale h t vendor value)
one_open h vendor s limit t value p r shows none known first is =
    ap (as_line entry_deed) is
    ∙ ap₂ (λ (b : Bool) (o : Option StockPiece). out_of_stock value b (option_map (λ (q : StockPiece). q.id) o)) (sym known) first ∙ by_stock h vendor s limit t value shows none

-- ---- what is brought

brings_sale : (h : History) (target vendor : List ℕ) (value : ℕ) (piece : Scrip) (cert secret : List ℕ) (stock : Bool) → errand_of target ≡ Some (buy vendor value)
    → sold_held h (record { vendor = vendor; value = value; stock = stock; id = piece.id }) ≡ Some (record { text = scrip_text piece cert; secret = secret }) → BringsFor h target (kept.Sale piece cert secret stock)
unfolding piece_brought sale_brought
brings_sale h target vendor value piece cert secret stock asks held =
    sym (ap (λ (o : Option Errand). brought_so (option_and_then (sold_held h) (sale_at stock piece.id o))) asks ∙ ap brought_so held)
  where
    brought_so : Option Held → Option Contents
    brought_so o = Some (contents_if o)

pub stock_brings : (h : History) (target vendor : List ℕ) (s : StallView) (t value : ℕ) (p : StockPiece) → Shows h vendor s → errand_of target ≡ Some (buy vendor value) → Some p ≡ find (is_open t) (stocked_at s value)
    → BringsFor h target (stock_deed vendor value p)
stock_brings h target vendor s t value p shows asks first =
    brings_sale h target vendor value (piece_in_stock vendor value p) p.cert p.secret true asks (held_is h vendor s t value p shows (sym first))

licence_brings : (h : History) (target vendor : List ℕ) (s : StallView) (value id v : ℕ) (terms : Issuing) → Shows h vendor s → errand_of target ≡ Some (buy vendor value) → Some terms ≡ terms_of s
    → v ≡ version h vendor (series_of id) → BringsFor h target (licensed_deed terms (licensed_piece v terms vendor value id))
licence_brings h target vendor s value id v terms shows asks stands same =
    let p = licensed_piece v terms vendor value id in
    brings_sale h target vendor value p (certificate terms (scrip_body p) id) (customer_secret terms id v) false asks
    (ap (option_map (λ (x : Issuing). licensed_held x (licensed_piece (version h vendor (series_of id)) x vendor value id))) (sym (stands ∙ shows.terms))
    ∙ ap (λ (n : ℕ). held (licensed_held terms (licensed_piece n terms vendor value id))) (sym same))
  where
    held : Held → Option Held
    held x = Some x

pub made_brings : (h : History) (target vendor : List ℕ) (s : StallView) (value : ℕ) (versions : ℕ → ℕ) (terms : Issuing) (r : Result Deed Refusal) → Shows h vendor s → errand_of target ≡ Some (buy vendor value) → Some terms ≡ terms_of s
    → ((series : ℕ) → versions series ≡ version h vendor series) → IfOk r (IsLicensed terms versions vendor value) → IfOk r (BringsFor h target)
made_brings h target vendor s value versions terms (Err f) shows asks stands same made = made
made_brings h target vendor s value versions terms (Ok (kept.Sale piece cert secret stock)) shows asks stands same made =
    subst (BringsFor h target) (sym made) (licence_brings h target vendor s value piece.id (versions (series_of piece.id)) terms shows asks stands (same (series_of piece.id)))
made_brings h target vendor s value versions terms (Ok d) shows asks stands same made = absurd made

pub on_ok : (P : Deed → Type 0) (r : Result Deed Refusal) {d : Deed} → r ≡ Ok d → P d → IfOk r P
on_ok P r is holds = subst (λ (x : Result Deed Refusal). IfOk x P) (sym is) holds
