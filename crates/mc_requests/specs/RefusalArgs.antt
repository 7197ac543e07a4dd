-- What a refusal keeps, as texts.
use Rattle.std.specs.Prelude.{ℕ, List, [], ◌∷◌, decimal}
use Rattle.scrip_form.specs.Scrip.{id_digits}
use Rattle.mc_requests.specs.declared.refusal_text.RefusalArgs.{RefusalArgs}
use Rattle.mc_requests.specs.declared.refusal_text.RefusalArgs.TheVariants.{Nothing, Number, Pair, Sum, Identity, Named}

abbrev pub arg_texts : RefusalArgs → List (List ℕ)
arg_texts Nothing = []
arg_texts (Number n) = decimal n ∷ []
arg_texts (Pair m n) = decimal m ∷ decimal n ∷ []
arg_texts (Sum n) = decimal n ∷ []
arg_texts (Identity id) = id_digits id ∷ []
arg_texts (Named name) = name ∷ []
