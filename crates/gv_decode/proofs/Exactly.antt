-- What is read is spelled so, and nothing else is.
use Rattle.std.proofs.Common.{◌≡◌, ℕ, ◌≤◌, Bool, true, cond, leb, List, length, Option, Some, None, refl, Result, Ok, Err, IfOk, sym, ap, subst}
use Rattle.std.proofs.lemmas.Bool.{and_from, le-leb}
use Rattle.gv_value.specs.declared.limits.TheConstants.{MOST_BYTES, MOST_DEPTH}
use Rattle.gv_value.specs.Reading.{value_at, value_of}
use Rattle.gv_value.specs.Shape.{Shape, is_type}
use Rattle.gv_value.specs.Spelled.{Spelled}
use Rattle.gv_value.specs.Tree.{Tree}
use Rattle.gv_value.specs.Views.{plain}
use Rattle.gv_value.specs.declared.value.GvValue.{GvValue}
use Rattle.gv_value.proofs.Exact.{reads_values}
use Rattle.gv_decode.specs.declared.error.DecodeError.{DecodeError}
use Rattle.gv_decode.specs.declared.error.DecodeError.TheVariants as errors
use Rattle.std.specs.Option.{IsSome}
use Rattle.gv_decode.specs.Decoded.{Gives, Passes}

pub value_of-is : (t : Shape) (bytes : List ℕ) → is_type t ≡ true → length bytes ≤ MOST_BYTES → value_at MOST_DEPTH t bytes ≡ value_of t bytes
value_of-is t bytes is short =
    sym (ap (λ (b : Bool). cond b (value_at MOST_DEPTH t bytes) None) (and_from (is_type t) (leb (length bytes) MOST_BYTES) is (le-leb (length bytes) MOST_BYTES short)))

pub exactly-spelled : (r : Result GvValue DecodeError) (t : Shape) (bytes : List ℕ) → Gives plain r (value_of t bytes) → IfOk r (λ v. Spelled t (plain v) bytes)
exactly-spelled (Ok v) t bytes g = (reads_values t (plain v) bytes).0 g
exactly-spelled (Err e) t bytes g = tt

pub exactly-none : (r : Result GvValue DecodeError) (t : Shape) (bytes : List ℕ) → Gives plain r (value_of t bytes) → r ≡ Err errors.NotNormal → (v : Tree) → Spelled t v bytes → ⊥
exactly-none r t bytes g is v spelled =
    let none : value_of t bytes ≡ None = subst (λ (x : Result GvValue DecodeError). Gives plain x (value_of t bytes)) is g in
    let some : value_of t bytes ≡ Some v = (reads_values t v bytes).1 spelled in
    cc

-- what passes is spelled so, and nothing else is
pub passes-spelled : {X : Type 0} (r : Result X DecodeError) (t : Shape) (bytes : List ℕ) → Passes r (value_of t bytes) → IfOk r (λ _. (v : Tree) × Spelled t v bytes)
passes-spelled (Ok x) t bytes h = by (value_of t bytes) refl h
  where
    by : (o : Option Tree) → value_of t bytes ≡ o → IsSome o → (v : Tree) × Spelled t v bytes
    by None e some = absurd cc
    by (Some v) e some = (v, (reads_values t v bytes).0 e)
passes-spelled (Err e) t bytes h = tt

pub passes-none : {X : Type 0} (r : Result X DecodeError) (t : Shape) (bytes : List ℕ) → Passes r (value_of t bytes) → r ≡ Err errors.NotNormal → (v : Tree) → Spelled t v bytes → ⊥
passes-none r t bytes h is v spelled =
    let none : value_of t bytes ≡ None = subst (λ (x : Result _ DecodeError). Passes x (value_of t bytes)) is h in
    let some : value_of t bytes ≡ Some v = (reads_values t v bytes).1 spelled in
    cc
