-- The form of a payload, as it is read.
use Rattle.std.specs.Prelude.{ℕ, zero, suc, List, Option, Some, None, Result, ◌==◌, if◌then◌else◌}
use Rattle.mc_fields.specs.Field.{one, two, four, eight}
use Rattle.mc_fields.specs.Form.{Form, done, number, flag, str, plain, followed, repeated, optional, all_of}
use Rattle.mc_base.specs.declared.amount.TheConstants.Amount.{MOST}
use Rattle.scrip_form.specs.Texts.{is_name, is_target}
use Rattle.scrip_form.specs.Reading.{is_scrip}
use Rattle.scrip_form.specs.Issuing.{Issuing}
use Rattle.scrip_form.specs.declared.terms.TheConstants.Terms.{LEAST_PERIOD, MOST_SECONDS}
use Rattle.mc_records.specs.declared.ranges.TheConstants.{CHAIN_BYTES, LEAST_KEEP, MOST_CONTENTS, MOST_EPOCH, MOST_KEEP, MOST_PIECES}
use Rattle.mc_records.specs.Entry.{Deed, goods_deed, sale, credit, House, Held, Entry, Site, AddTerms, Goods, Accept, Mint, Account, Deposit, Withdraw, Draw, Licence, Stock, Got, Pend, Done, Refused, Upgrade, Switch, Note}

abbrev pub long : {A : Type 0} → (ℕ → Form A) → Form A
long next = number eight 0 0xffff_ffff_ffff_ffff next

abbrev pub amount : {A : Type 0} → (ℕ → Form A) → Form A
amount next = number eight 1 MOST next

-- ---- the parts of entries

unfoldable pub secrets_form : Form (List (List ℕ))
secrets_form = number one 1 16 λ n. repeated n (plain 16 done)

unfoldable pub terms_form : ℕ → ℕ → Form Issuing
terms_form lowest highest =
    number one 1 1 λ version. number one lowest highest λ issuer. number four LEAST_PERIOD MOST_SECONDS λ period. number four 0 MOST_SECONDS λ life.
    followed secrets_form λ scrip. followed secrets_form λ customer.
    done (record { issuer = issuer; period = period; life = life; scrip = scrip; customer = customer })

abbrev pub house_with : ℕ → Form (Option House)
house_with most =
    number four LEAST_KEEP MOST_KEEP λ keep. number eight 0 most λ fee. flag λ clear. followed (terms_form 0 0) λ terms.
    done (Some (record { keep = keep; fee = fee; clear = clear; terms = terms }))

unfoldable pub house_form : ℕ → Form (Option House)
house_form zero = house_with 0
house_form (suc zero) = house_with MOST
house_form (suc (suc n)) = done None

unfoldable pub sign_form : Form (Option (List ℕ))
sign_form = optional (plain 16 done)

unfoldable pub change_form : Form (Option ℕ)
change_form = optional (long done)

abbrev pub deed_after : ℕ → Form Deed
deed_after zero = done goods_deed
deed_after (suc zero) = flag λ stock. long λ id. done (sale stock id)
deed_after (suc (suc n)) = long λ balance. done (credit balance)

unfoldable pub deed_form : Form Deed
deed_form = number one 0 2 deed_after

unfoldable pub held_form : Form Held
held_form = str is_scrip λ text. plain 16 λ secret. done (record { text = text; secret = secret })

unfoldable pub pieces_form : Form (List Held)
pieces_form = number two 1 MOST_PIECES λ n. repeated n held_form

unfoldable pub text_form : Form (Option (List ℕ))
text_form = optional (str is_scrip done)

unfoldable pub got_form : Form (Option Held)
got_form = optional held_form

-- ---- the kinds of entry, behind the kind and the moment

unfoldable pub site_form : ℕ → Form Entry
site_form m = number one 0 2 λ kind. str is_name λ name. followed (house_form kind) λ house. done (Site m kind name house)

unfoldable pub add_terms_form : ℕ → Form Entry
add_terms_form m = followed (terms_form 1 255) λ terms. done (AddTerms m terms)

unfoldable pub goods_form : ℕ → Form Entry
goods_form m = str is_target λ target. amount λ price. number one 0 2 λ kind. number four 0 MOST_CONTENTS λ n. plain n λ contents. done (Goods m target price kind contents)

unfoldable pub accept_form : ℕ → Form Entry
accept_form m =
    str is_scrip λ scrip. str is_target λ target. followed sign_form λ sign. long λ price. followed change_form λ change. followed deed_form λ deed.
    done (Accept m scrip target sign price change deed)

unfoldable pub mint_form : ℕ → Form Entry
mint_form m = str is_name λ reference. number two 1 MOST_PIECES λ count. amount λ value. long λ first. done (Mint m reference count value first)

unfoldable pub account_form : ℕ → Form Entry
account_form m = str is_name λ name. plain 16 λ key. done (Account m name key)

unfoldable pub deposit_form : ℕ → Form Entry
deposit_form m = str is_name λ name. amount λ n. str is_name λ reference. done (Deposit m name n reference)

unfoldable pub withdraw_form : ℕ → Form Entry
withdraw_form m = str is_name λ name. amount λ n. str is_name λ reference. done (Withdraw m name n reference)

unfoldable pub draw_form : ℕ → Form Entry
draw_form m = str is_target λ target. plain 16 λ sign. long λ drawn. done (Draw m target sign drawn)

unfoldable pub licence_form : ℕ → Form Entry
licence_form m = str is_name λ vendor. followed (terms_form 1 255) λ terms. done (Licence m vendor terms)

unfoldable pub stock_form : ℕ → Form Entry
stock_form m = str is_name λ vendor. followed pieces_form λ pieces. done (Stock m vendor pieces)

unfoldable pub got_pieces_form : ℕ → Form Entry
got_pieces_form m = followed pieces_form λ pieces. done (Got m pieces)

unfoldable pub pend_form : ℕ → Form Entry
pend_form m =
    number one 0 2 λ ask. str is_name λ peer. str is_target λ target. followed text_form λ scrip. plain 16 λ secret.
    done (Pend m ask peer target scrip secret)

unfoldable pub done_form : ℕ → Form Entry
done_form m = long λ n. long λ price. followed text_form λ change. followed got_form λ got. done (Done m n price change got)

unfoldable pub refused_form : ℕ → Form Entry
refused_form m = long λ n. number two 0 65535 λ refusal. done (Refused m n refusal)

unfoldable pub upgrade_form : ℕ → Form Entry
upgrade_form m = str is_name λ vendor. number one 0 255 λ issuer. number four 0 MOST_EPOCH λ from. done (Upgrade m vendor issuer from)

unfoldable pub switch_form : ℕ → Form Entry
switch_form m = plain CHAIN_BYTES λ chain. done (Switch m chain)

unfoldable pub note_form : ℕ → Form Entry
note_form m = str is_name λ tag. number four 0 MOST_CONTENTS λ n. plain n λ bytes. done (Note m tag bytes)

-- ---- any entry

unfoldable pub kind_form : ℕ → ℕ → Form Entry
kind_form kind m =
    if kind == 1 then site_form m
    else if kind == 2 then add_terms_form m
    else if kind == 3 then goods_form m
    else if kind == 4 then accept_form m
    else if kind == 5 then mint_form m
    else if kind == 6 then account_form m
    else if kind == 7 then deposit_form m
    else if kind == 8 then withdraw_form m
    else if kind == 9 then draw_form m
    else if kind == 10 then licence_form m
    else if kind == 11 then stock_form m
    else if kind == 12 then got_pieces_form m
    else if kind == 13 then pend_form m
    else if kind == 14 then done_form m
    else if kind == 15 then refused_form m
    else if kind == 16 then upgrade_form m
    else if kind == 17 then switch_form m
    else note_form m

unfoldable pub entry_form : Form Entry
entry_form = number one 1 18 λ kind. number eight 0 0x7_ffff_ffff λ m. kind_form kind m

-- the entry that the bytes spell, or the place of the fault
abbrev pub entry_of : List ℕ → Result Entry ℕ
entry_of bytes = all_of entry_form bytes
