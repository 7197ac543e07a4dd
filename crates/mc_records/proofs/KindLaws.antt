-- Each kind of entry: its form, its table of fields and its ranges belong together.
use Rattle.std.proofs.Common.{◌≡◌, ℕ, ◌≤◌, List, [], ◌∷◌, ◌++◌, refl, sym, ◌∙◌, ap, arith, zero-le}
use Rattle.scrip_form.specs.Texts.{IsName, IsTarget, is_name, is_target}
use Rattle.scrip_form.specs.Scrip.{IsScripText}
use Rattle.scrip_form.specs.Reading.{is_scrip}
use Rattle.scrip_form.proofs.TextTests.{name_decides, target_decides, scrip_decides, scrip_is_short}
use Rattle.mc_fields.specs.Field.{one, four, eight, Field, number, str, plain}
use Rattle.mc_fields.specs.Form as forms
use Rattle.mc_fields.specs.Form.{Form}
use Rattle.mc_fields.proofs.FormLaws.{Path, Leads, Tells, done_leads, number_leads, str_leads, plain_leads, part_leads, last_leads, part_tells, last_tells}
use Rattle.mc_records.specs.Entry.{Entry, Site, AddTerms, Goods, Accept, Mint, Account, Deposit, Withdraw, Draw, Licence, Stock, Got, Pend, Done, Refused, Upgrade, Switch, Note, fields, Fits, IsMoment, IsAmount, IsLong, sign_fields, change_fields, text_fields}
use Rattle.mc_records.specs.Forms.{long, amount, site_form, add_terms_form, goods_form, accept_form, mint_form, account_form, deposit_form, withdraw_form, draw_form, licence_form, stock_form, got_pieces_form, pend_form, done_form, refused_form, upgrade_form, switch_form, note_form, kind_form, entry_form}
use Rattle.mc_records.proofs.PartLaws.{sign_described, change_described, text_described, got_described, pieces_described, deed_described, terms_described, house_described, kind_of_site}

-- ---- from a path through a kind's form to an entry that fits

-- the kind and the moment, and then the fields of the kind
abbrev pub front : ℕ → ℕ → List Field → List Field
front kind m own = number one kind ∷ number eight m ∷ own

abbrev pub KindTells : ℕ → ℕ → (f : Form Entry) → Path f → Type 0
KindTells kind m f p = Tells fields Fits (front kind m) f p

pub site_tells : (m : ℕ) → IsMoment m → (p : Path (site_form m)) → KindTells 1 m (site_form m) p
unfolding site_form
site_tells m moment (kind, _, k_high, _, (name, ok, _, p)) =
    last_tells fields Fits (λ own. front 1 m (number one kind ∷ str name ∷ own)) (Site m kind name) (house_described kind k_high) (λ house good. (refl, record { moment = moment; name = (name_decides name).0 ok; house = good })) p

pub add_terms_tells : (m : ℕ) → IsMoment m → (p : Path (add_terms_form m)) → KindTells 2 m (add_terms_form m) p
unfolding add_terms_form
add_terms_tells m moment p = last_tells fields Fits (front 2 m) (AddTerms m) (terms_described 1 255 (omega arith)) (λ terms good. (refl, record { moment = moment; terms = good })) p

pub goods_tells : (m : ℕ) → IsMoment m → (p : Path (goods_form m)) → KindTells 3 m (goods_form m) p
unfolding goods_form
goods_tells m moment (target, ok, _, (price, low, high, _, (kind, _, kind_high, _, (n, _, n_high, _, (contents, len, _))))) = (
  ap (λ (k : ℕ). front 3 m (str target ∷ number eight price ∷ number one kind ∷ number four k ∷ plain contents ∷ [])) len,
  record { moment = moment; target = (target_decides target).0 ok; price = (low, omega arith); kind = omega arith; contents = omega arith },
)

pub accept_tells : (m : ℕ) → IsMoment m → (p : Path (accept_form m)) → KindTells 4 m (accept_form m) p
unfolding accept_form
accept_tells m moment (scrip, scrip_ok, _, (target, ok, _, p)) =
    part_tells fields Fits (λ t. front 4 m (str scrip ∷ str target ∷ t)) _ sign_described (λ sign sign_fits (price, _, _, price_fits, q).
    part_tells fields Fits (λ t. front 4 m (str scrip ∷ str target ∷ (sign_fields sign ++ (number eight price ∷ t)))) _ change_described (λ change change_fits r.
    last_tells fields Fits (λ t. front 4 m (str scrip ∷ str target ∷ (sign_fields sign ++ (number eight price ∷ (change_fields change ++ t))))) (Accept m scrip target sign price change) deed_described (λ deed deed_fits.
    (refl, record { moment = moment; scrip = (scrip_decides scrip).0 scrip_ok; target = (target_decides target).0 ok; sign = sign_fits; price = price_fits; change = change_fits; deed = deed_fits })) r) q) p

pub mint_tells : (m : ℕ) → IsMoment m → (p : Path (mint_form m)) → KindTells 5 m (mint_form m) p
unfolding mint_form
mint_tells m moment (reference, ok, _, (count, count_low, count_high, _, (value, low, high, _, (first, _, _, lt, _)))) =
    (refl, record { moment = moment; reference = (name_decides reference).0 ok; count = (count_low, count_high); value = (low, omega arith); first = lt })

pub account_tells : (m : ℕ) → IsMoment m → (p : Path (account_form m)) → KindTells 6 m (account_form m) p
unfolding account_form
account_tells m moment (name, ok, _, (key, len, _)) = (refl, record { moment = moment; name = (name_decides name).0 ok; key = len })

pub deposit_tells : (m : ℕ) → IsMoment m → (p : Path (deposit_form m)) → KindTells 7 m (deposit_form m) p
unfolding deposit_form
deposit_tells m moment (name, ok, _, (n, low, high, _, (reference, reference_ok, _, _))) =
    (refl, record { moment = moment; name = (name_decides name).0 ok; amount = (low, omega arith); reference = (name_decides reference).0 reference_ok })

pub withdraw_tells : (m : ℕ) → IsMoment m → (p : Path (withdraw_form m)) → KindTells 8 m (withdraw_form m) p
unfolding withdraw_form
withdraw_tells m moment (name, ok, _, (n, low, high, _, (reference, reference_ok, _, _))) =
    (refl, record { moment = moment; name = (name_decides name).0 ok; amount = (low, omega arith); reference = (name_decides reference).0 reference_ok })

pub draw_tells : (m : ℕ) → IsMoment m → (p : Path (draw_form m)) → KindTells 9 m (draw_form m) p
unfolding draw_form
draw_tells m moment (target, ok, _, (sign, len, (drawn, _, _, lt, _))) = (refl, record { moment = moment; target = (target_decides target).0 ok; sign = len; drawn = lt })

pub licence_tells : (m : ℕ) → IsMoment m → (p : Path (licence_form m)) → KindTells 10 m (licence_form m) p
unfolding licence_form
licence_tells m moment (vendor, ok, _, p) =
    last_tells fields Fits (λ t. front 10 m (str vendor ∷ t)) (Licence m vendor) (terms_described 1 255 (omega arith)) (λ terms good. (refl, record { moment = moment; vendor = (name_decides vendor).0 ok; terms = good })) p

pub stock_tells : (m : ℕ) → IsMoment m → (p : Path (stock_form m)) → KindTells 11 m (stock_form m) p
unfolding stock_form
stock_tells m moment (vendor, ok, _, p) =
    last_tells fields Fits (λ t. front 11 m (str vendor ∷ t)) (Stock m vendor) pieces_described (λ pieces good. (refl, record { moment = moment; vendor = (name_decides vendor).0 ok; pieces = good })) p

pub got_pieces_tells : (m : ℕ) → IsMoment m → (p : Path (got_pieces_form m)) → KindTells 12 m (got_pieces_form m) p
unfolding got_pieces_form
got_pieces_tells m moment p = last_tells fields Fits (front 12 m) (Got m) pieces_described (λ pieces good. (refl, record { moment = moment; pieces = good })) p

pub pend_tells : (m : ℕ) → IsMoment m → (p : Path (pend_form m)) → KindTells 13 m (pend_form m) p
unfolding pend_form
pend_tells m moment (ask, _, high, _, (peer, peer_ok, _, (target, ok, _, p))) =
    part_tells fields Fits (λ t. front 13 m (number one ask ∷ str peer ∷ str target ∷ t)) _ text_described (λ scrip good (secret, len, _).
    (refl, record { moment = moment; ask = omega arith; peer = (name_decides peer).0 peer_ok; target = (target_decides target).0 ok; scrip = good; secret = len })) p

pub done_tells : (m : ℕ) → IsMoment m → (p : Path (done_form m)) → KindTells 14 m (done_form m) p
unfolding done_form
done_tells m moment (n, _, _, n_fits, (price, _, _, price_fits, p)) =
    part_tells fields Fits (λ t. front 14 m (number eight n ∷ number eight price ∷ t)) _ text_described (λ change change_fits q.
    last_tells fields Fits (λ t. front 14 m (number eight n ∷ number eight price ∷ (text_fields change ++ t))) (Done m n price change) got_described (λ got got_fits.
    (refl, record { moment = moment; number = n_fits; price = price_fits; change = change_fits; got = got_fits })) q) p

pub refused_tells : (m : ℕ) → IsMoment m → (p : Path (refused_form m)) → KindTells 15 m (refused_form m) p
unfolding refused_form
refused_tells m moment (n, _, _, n_fits, (refusal, _, _, lt, _)) = (refl, record { moment = moment; number = n_fits; refusal = lt })

pub upgrade_tells : (m : ℕ) → IsMoment m → (p : Path (upgrade_form m)) → KindTells 16 m (upgrade_form m) p
unfolding upgrade_form
upgrade_tells m moment (vendor, ok, _, (issuer, _, issuer_high, _, (from, _, from_high, _, _))) =
    (refl, record { moment = moment; vendor = (name_decides vendor).0 ok; issuer = omega arith; from = omega arith })

pub switch_tells : (m : ℕ) → IsMoment m → (p : Path (switch_form m)) → KindTells 17 m (switch_form m) p
unfolding switch_form
switch_tells m moment (chain, len, _) = (refl, record { moment = moment; chain = len })

pub note_tells : (m : ℕ) → IsMoment m → (p : Path (note_form m)) → KindTells 18 m (note_form m) p
unfolding note_form
note_tells m moment (tag, ok, _, (n, _, n_high, _, (bytes, len, _))) = (
  ap (λ (k : ℕ). front 18 m (str tag ∷ number four k ∷ plain bytes ∷ [])) len,
  record { moment = moment; tag = (name_decides tag).0 ok; bytes = omega arith },
)

-- ---- from an entry that fits to a path

name_leads : {A : Type 0} {next : List ℕ → Form A} {s : List ℕ} {x : A} {back : List Field} → IsName s → Leads (next s) x back → Leads (forms.str is_name next) x (str s ∷ back)
name_leads {s = s} is l = str_leads ((name_decides s).1 is) (omega (arith, is.short)) l

target_leads : {A : Type 0} {next : List ℕ → Form A} {s : List ℕ} {x : A} {back : List Field} → IsTarget s → Leads (next s) x back → Leads (forms.str is_target next) x (str s ∷ back)
target_leads {s = s} is l = str_leads ((target_decides s).1 is) (omega (arith, is.short)) l

scrip_leads : {A : Type 0} {next : List ℕ → Form A} {s : List ℕ} {x : A} {back : List Field} → IsScripText s → Leads (next s) x back → Leads (forms.str is_scrip next) x (str s ∷ back)
scrip_leads {s = s} is l = str_leads ((scrip_decides s).1 is) (omega (arith, scrip_is_short s is)) l

long_leads : {A : Type 0} {next : ℕ → Form A} {n : ℕ} {x : A} {back : List Field} → IsLong n → Leads (next n) x back → Leads (long next) x (number eight n ∷ back)
long_leads lt l = number_leads zero-le (omega (arith, lt)) lt l

amount_leads : {A : Type 0} {next : ℕ → Form A} {n : ℕ} {x : A} {back : List Field} → IsAmount n → Leads (next n) x back → Leads (amount next) x (number eight n ∷ back)
amount_leads is l = number_leads is.0 (omega (arith, is.1)) (omega (arith, is.1)) l

-- an entry whose kind and moment stand before these fields, to which a path through the kind's form leads
at_kind : (kind m : ℕ) (e : Entry) (own : List Field) → 1 ≤ kind → kind ≤ 18 → IsMoment m → fields e ≡ front kind m own → Leads (kind_form kind m) e own → Leads entry_form e (fields e)
unfolding entry_form
at_kind kind m e own low high moment is l =
    let all : Leads entry_form e (front kind m own) = number_leads low high (omega arith) (number_leads zero-le (omega (arith, moment)) (omega (arith, moment)) l) in
    record { path = all.path; is_answer = all.is_answer; is_spelled = all.is_spelled ∙ sym is }

pub leads : (e : Entry) → Fits e → Leads entry_form e (fields e)
unfolding kind_form site_form add_terms_form goods_form mint_form account_form deposit_form withdraw_form draw_form accept_form licence_form stock_form got_pieces_form pend_form done_form refused_form upgrade_form switch_form note_form
leads (Site m kind name house) fits =
    let le = kind_of_site kind house fits.house in
    at_kind 1 m _ _ (omega arith) (omega arith) fits.moment refl (number_leads zero-le le (omega (arith, le)) (name_leads fits.name (last_leads _ (house_described kind le) fits.house done_leads)))
leads (AddTerms m terms) fits = at_kind 2 m _ _ (omega arith) (omega arith) fits.moment refl (last_leads _ (terms_described 1 255 (omega arith)) fits.terms done_leads)
leads (Goods m target price kind contents) fits =
    at_kind 3 m _ _ (omega arith) (omega arith) fits.moment refl (target_leads fits.target (amount_leads fits.price (number_leads zero-le (omega (arith, fits.kind)) (omega (arith, fits.kind))
    (number_leads zero-le fits.contents (omega (arith, fits.contents)) (plain_leads refl done_leads)))))
leads (Accept m scrip target sign price change deed) fits =
    at_kind 4 m _ _ (omega arith) (omega arith) fits.moment refl (scrip_leads fits.scrip (target_leads fits.target (part_leads _ sign_described fits.sign
    (long_leads fits.price (part_leads _ change_described fits.change (last_leads _ deed_described fits.deed done_leads))))))
leads (Mint m reference count value first) fits =
    at_kind 5 m _ _ (omega arith) (omega arith) fits.moment refl (name_leads fits.reference (number_leads fits.count.0 fits.count.1 (omega (arith, fits.count.1)) (amount_leads fits.value (long_leads fits.first done_leads))))
leads (Account m name key) fits = at_kind 6 m _ _ (omega arith) (omega arith) fits.moment refl (name_leads fits.name (plain_leads fits.key done_leads))
leads (Deposit m name n reference) fits = at_kind 7 m _ _ (omega arith) (omega arith) fits.moment refl (name_leads fits.name (amount_leads fits.amount (name_leads fits.reference done_leads)))
leads (Withdraw m name n reference) fits = at_kind 8 m _ _ (omega arith) (omega arith) fits.moment refl (name_leads fits.name (amount_leads fits.amount (name_leads fits.reference done_leads)))
leads (Draw m target sign drawn) fits = at_kind 9 m _ _ (omega arith) (omega arith) fits.moment refl (target_leads fits.target (plain_leads fits.sign (long_leads fits.drawn done_leads)))
leads (Licence m vendor terms) fits = at_kind 10 m _ _ (omega arith) (omega arith) fits.moment refl (name_leads fits.vendor (last_leads _ (terms_described 1 255 (omega arith)) fits.terms done_leads))
leads (Stock m vendor pieces) fits = at_kind 11 m _ _ (omega arith) (omega arith) fits.moment refl (name_leads fits.vendor (last_leads _ pieces_described fits.pieces done_leads))
leads (Got m pieces) fits = at_kind 12 m _ _ (omega arith) (omega arith) fits.moment refl (last_leads _ pieces_described fits.pieces done_leads)
leads (Pend m ask peer target scrip secret) fits =
    at_kind 13 m _ _ (omega arith) (omega arith) fits.moment refl (number_leads zero-le (omega (arith, fits.ask)) (omega (arith, fits.ask)) (name_leads fits.peer (target_leads fits.target
    (part_leads _ text_described fits.scrip (plain_leads fits.secret done_leads)))))
leads (Done m n price change got) fits = at_kind 14 m _ _ (omega arith) (omega arith) fits.moment refl (long_leads fits.number (long_leads fits.price (part_leads _ text_described fits.change (last_leads _ got_described fits.got done_leads))))
leads (Refused m n refusal) fits = at_kind 15 m _ _ (omega arith) (omega arith) fits.moment refl (long_leads fits.number (number_leads zero-le (omega (arith, fits.refusal)) fits.refusal done_leads))
leads (Upgrade m vendor issuer from) fits =
    at_kind 16 m _ _ (omega arith) (omega arith) fits.moment refl (name_leads fits.vendor (number_leads zero-le (omega (arith, fits.issuer)) fits.issuer (number_leads zero-le (omega (arith, fits.from)) (omega (arith, fits.from)) done_leads)))
leads (Switch m chain) fits = at_kind 17 m _ _ (omega arith) (omega arith) fits.moment refl (plain_leads fits.chain done_leads)
leads (Note m tag bytes) fits =
    at_kind 18 m _ _ (omega arith) (omega arith) fits.moment refl (name_leads fits.tag (number_leads zero-le fits.bytes (omega (arith, fits.bytes)) (plain_leads refl done_leads)))
