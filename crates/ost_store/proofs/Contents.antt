-- Contents that are read, of files that were told.
use Rattle.std.proofs.Common.{◌≡◌, ◌≤◌, ℕ, List, length, Bool, true, false, leb, Option, Some, None, refl, sym, ◌∙◌, subst}
use Rattle.std.specs.Prelude.{if◌then◌else◌}
use Rattle.fp_base.specs.declared.object.ObjKind.TheVariants as kinds
use Rattle.fp_host.specs.Causes.{IsCaused, IsCounted}
use Rattle.fp_host.specs.Frame.{AtEnd, Unchanged}
use Rattle.fp_host.specs.Moments.{Moments}
use Rattle.fp_host.specs.Paths.{Elements}
use Rattle.fp_host.specs.View.{View}
use Rattle.fp_host.proofs.Cause.{passed_on}
use Rattle.fp_host.proofs.Ending.{ends_both, ends_looks}
use Rattle.fp_host.proofs.Framed.{IsTold}
use Rattle.ost_model.specs.declared.object.Object.{Object}
use Rattle.ost_model.specs.declared.object.Object.TheVariants as objects
use Rattle.ost_model.specs.Objects.{object_path}
use Rattle.ost_store.specs.Reads.{got_of, object_of, Gets, HasFile}
use Rattle.ost_store.specs.declared.reading.Got.{Got}
use Rattle.ost_store.specs.declared.reading.Got.TheVariants as got

file_told : (root : Elements) (d : List ℕ) (v : View) (mode size most : ℕ) → got.File mode size ≡ got_of most (object_of kinds.File (object_path root d kinds.File) v) → HasFile root d v
file_told root d v mode size most is = go (object_of kinds.File (object_path root d kinds.File) v) refl is
  where
    short : (bytes : List ℕ) (b : Bool) → got.File mode size ≡ (if b then got.Meta bytes else got.TooLong (length bytes)) → ⊥
    short bytes true e = cc e
    short bytes false e = cc e

    go : (o : Option Object) → object_of kinds.File (object_path root d kinds.File) v ≡ o → got.File mode size ≡ got_of most o → HasFile root d v
    go None at e = absurd (cc e)
    go (Some (objects.Link text)) at e = absurd (cc e)
    go (Some (objects.Meta bytes)) at e = absurd (short bytes (leb (length bytes) most) e)
    go (Some (objects.File m bytes)) at e = record { mode = m; bytes = bytes; there = at }

-- the fault of a later call that is for a file that is there
pub file_caused : (root : Elements) (d : List ℕ) (most : ℕ) (F : Type 0) {a b : Option Moments} (f g h : ℕ) (told : Got) (mode size : ℕ) → IsTold a → f ≤ g → Unchanged a b
    → AtEnd (λ u w. Gets root d kinds.File most u told) a b → told ≡ got.File mode size → IsCaused F b (HasFile root d) g h → IsCounted F a f h
file_caused root d most F f g h told mode size tree later still gets is cause =
    passed_on F F (λ v. Unit {0}) (HasFile root d) f g h tree later (ends_both (ends_looks tree still) gets) cause (λ e. e)
    (λ u v t q can. subst (λ (x : View). HasFile root d x) (sym q.0.0) (file_told root d u mode size most (sym is ∙ q.1.is)))
