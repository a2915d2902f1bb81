-- What holds on an error, or on none.
use Rattle.std.proofs.Common.{◌≡◌, sym, subst}
use Rattle.std.specs.Prelude.{Result, Ok, Err, OnErr, OnOk, IfOk, IfErr, IsErrAnd}

-- what holds holds on an error
pub on_err_from : {T E P : Type 0} (r : Result T E) → P → OnErr r P
on_err_from (Ok x) p = tt
on_err_from (Err e) p = p

-- an error that is handed on is still what it was
pub handed_on : {T E : Type 0} (P : E → Type 0) (out : Result T E) (e : E)
    → IsErrAnd out (λ x. x ≡ e) → P e → IfErr out P
handed_on P (Ok x) e is h = tt
handed_on P (Err x) e is h = subst P (sym is) h

-- two facts that hold where there is no error have a consequence there
pub on_ok_both : {T E P Q S : Type 0} (r : Result T E) → OnOk r P → OnOk r Q → (P → Q → S)
    → OnOk r S
on_ok_both (Ok x) p q on = on p q
on_ok_both (Err e) p q on = tt

-- one has one
pub on_ok_from : {T E P Q : Type 0} (r : Result T E) → OnOk r P → (P → Q) → OnOk r Q
on_ok_from (Ok x) p on = on p
on_ok_from (Err e) p on = tt

-- what holds of a value, or of an error, has a consequence
pub if_ok_on : {T E : Type 0} (P Q : T → Type 0) (r : Result T E) → IfOk r P
    → ((x : T) → P x → Q x) → IfOk r Q
if_ok_on P Q (Ok x) p on = on x p
if_ok_on P Q (Err e) p on = tt

pub if_err_on : {T E : Type 0} (P Q : E → Type 0) (r : Result T E) → IfErr r P
    → ((e : E) → P e → Q e) → IfErr r Q
if_err_on P Q (Ok x) p on = tt
if_err_on P Q (Err e) p on = on e p
