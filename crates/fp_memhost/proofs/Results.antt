-- What a call that may fail leaves.
use Rattle.std.proofs.Common.{◌≡◌, Ok, Err}
use Rattle.std.specs.Prelude.{Result, is_ok, OnOk, OnErr, if◌then◌else◌}

pub on_ok_if : {T E A P : Type 0} (r : Result T E) (new a b : A) → new ≡ (if is_ok r then a else b) → (new ≡ a → P) → OnOk r P
on_ok_if (Ok t) new a b is f = f is
on_ok_if (Err e) new a b is f = tt

pub on_err_if : {T E A P : Type 0} (r : Result T E) (new a b : A) → new ≡ (if is_ok r then a else b) → (new ≡ b → P) → OnErr r P
on_err_if (Ok t) new a b is f = tt
on_err_if (Err e) new a b is f = f is
