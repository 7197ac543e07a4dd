-- What is known of a count that rose, and of a call that answered.
use Rattle.std.proofs.Common.{◌≡◌, Result, Ok, Err, is_err, OnOk, OnErr, true, false}

-- a call that answered Ok
pub on_ok : {T E : Type 0} (r : Result T E) (P : Type 0) → is_err r ≡ false → OnOk r P → P
on_ok (Ok x) P is p = p
on_ok (Err e) P is p = absurd (cc is)

-- a call that answered Err
pub on_err : {T E : Type 0} (r : Result T E) (P : Type 0) → is_err r ≡ true → OnErr r P → P
on_err (Ok x) P is p = absurd (cc is)
on_err (Err e) P is p = p
