-- The targets of a broker: `/buy/V/N`, `/credit/A` and `/draw/A/K/N`.
use Rattle.std.specs.Prelude.{ℕ, List, ◌++◌, codes, decimal, Option, Some, None, option_map, Ok, Err, if◌then◌else◌}
use Rattle.std.specs.Option.{option_or}
use Rattle.mc_base.specs.declared.amount.TheConstants.Amount.{MOST}
use Rattle.mc_fields.specs.Reading.{Read, literal_at, number_at, number_machine, field_of}
use Rattle.mc_fields.specs.Texts.{IsNumber}
use Rattle.scrip_form.specs.Texts.{IsName, is_name}
use Rattle.scrip_form.specs.Reading.{name_until}

-- what a target asks of a broker: scrip of a vendor, credit in an account, or scrip of the broker's own
-- out of an account, under an order
pub data Errand : Type 0 where
  buy : (vendor : List ℕ) (amount : ℕ) → Errand
  pay_in : (account : List ℕ) → Errand
  draw : (account : List ℕ) (order amount : ℕ) → Errand

-- ---- the text of an errand

abbrev pub errand_text : Errand → List ℕ
errand_text (buy vendor amount) = codes "/buy/" ++ (vendor ++ (codes "/" ++ decimal amount))
errand_text (pay_in account) = codes "/credit/" ++ account
errand_text (draw account order amount) =
    codes "/draw/" ++ (account ++ (codes "/" ++ (decimal order ++ (codes "/" ++ decimal amount))))

abbrev pub IsErrand : Errand → Type 0
IsErrand (buy vendor amount) = IsName vendor × IsNumber MOST amount
IsErrand (pay_in account) = IsName account
IsErrand (draw account order amount) = IsName account × IsNumber MOST order × IsNumber MOST amount

-- ---- reading a target

-- what is read next, of what was read before
abbrev pub then_read : {A B : Type 0} → Read A → (A → List ℕ → Option B) → Option B
then_read (Ok x) next = next x.0 x.1
then_read (Err left) next = None

-- what is read behind these very bytes
abbrev pub behind : {B : Type 0} → List ℕ → (List ℕ → Option B) → List ℕ → Option B
behind front next bytes = then_read (literal_at front bytes) (λ _ rest. next rest)

-- a number, and a name, to the end of the bytes
abbrev pub last_number : List ℕ → Option ℕ
last_number bytes = field_of (number_machine MOST 0) 0 bytes

abbrev pub last_name : List ℕ → Option (List ℕ)
last_name bytes = if is_name bytes then Some bytes else None

abbrev pub read_buy : List ℕ → Option Errand
read_buy bytes = then_read (name_until 47 bytes) λ vendor rest. option_map (buy vendor) (last_number rest)

abbrev pub read_pay_in : List ℕ → Option Errand
read_pay_in bytes = option_map pay_in (last_name bytes)

abbrev pub read_draw : List ℕ → Option Errand
read_draw bytes =
    then_read (name_until 47 bytes) λ account rest.
    then_read (number_at MOST 47 rest) λ order more.
    option_map (draw account order) (last_number more)

-- the errand of a target, where it is the text of one
unfoldable pub errand_of : List ℕ → Option Errand
errand_of target =
    option_or (behind (codes "/buy/") read_buy target)
    (option_or (behind (codes "/credit/") read_pay_in target) (behind (codes "/draw/") read_draw target))
