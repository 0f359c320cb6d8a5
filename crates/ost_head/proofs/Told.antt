-- What the store tells of a file or link.
use Rattle.std.proofs.Common.{◌≡◌, ◌≤◌, ℕ, List, length, Bool, true, false, leb, Option, Some, None, arith, sym, ◌∙◌, ap, subst}
use Rattle.std.specs.Prelude.{if◌then◌else◌}
use Rattle.fp_host.specs.Paths.{Elements, is_link_text}
use Rattle.fp_host.specs.Outcome.{shows}
use Rattle.fp_host.specs.View.{View}
use Rattle.fp_host.specs.Moments.{Moments}
use Rattle.fp_host.specs.Frame.{AtEnd, Unchanged}
use Rattle.fp_host.specs.Causes.{IsCaused, IsCounted}
use Rattle.fp_host.proofs.Cause.{Rose-later}
use Rattle.fp_base.specs.declared.object.ObjKind.TheVariants as kinds
use Rattle.ost_model.specs.declared.object.Object.{Object}
use Rattle.ost_model.specs.declared.object.Object.TheVariants as objects
use Rattle.ost_model.specs.Objects.{object_path, store}
use Rattle.ost_model.proofs.Spots.{link_good}
use Rattle.ost_store.specs.Reads.{got_of, Gets, HasFile}
use Rattle.ost_store.specs.declared.reading.Got.{Got}
use Rattle.ost_store.specs.declared.reading.Got.TheVariants as got
use Rattle.ost_head.specs.Stored.{IsFileOf}

-- ---- what it tells

file_told : (mode size most : ℕ) (o : Option Object) → got.File mode size ≡ got_of most o → IsFileOf mode size o
file_told mode size most None is = absurd (cc is)
file_told mode size most (Some (objects.Link text)) is = absurd (cc is)
file_told mode size most (Some (objects.Meta bytes)) is = absurd (go (leb (length bytes) most) is)
  where
    go : (b : Bool) → got.File mode size ≡ (if b then got.Meta bytes else got.TooLong (length bytes)) → ⊥
    go true e = cc e
    go false e = cc e
file_told mode size most (Some (objects.File m bytes)) is = go (leb (length bytes) most) is
  where
    go : (b : Bool) → got.File mode size ≡ (if b then got.File m (length bytes) else got.TooLong (length bytes)) → IsFileOf mode size (Some (objects.File m bytes))
    go true e = record { bytes = bytes; is = ap (λ (k : ℕ). Some (objects.File k bytes)) (cc e); long = cc e }
    go false e = absurd (cc e)

pub link_told : (text : List ℕ) (most : ℕ) (o : Option Object) → got.Link text ≡ got_of most o → o ≡ Some (objects.Link text)
link_told text most None is = absurd (cc is)
link_told text most (Some (objects.Link t)) is = ap (λ (x : List ℕ). Some (objects.Link x)) (cc is)
link_told text most (Some (objects.Meta bytes)) is = absurd (go (leb (length bytes) most) is)
  where
    go : (b : Bool) → got.Link text ≡ (if b then got.Meta bytes else got.TooLong (length bytes)) → ⊥
    go true e = cc e
    go false e = cc e
link_told text most (Some (objects.File m bytes)) is = absurd (go (leb (length bytes) most) is)
  where
    go : (b : Bool) → got.Link text ≡ (if b then got.File m (length bytes) else got.TooLong (length bytes)) → ⊥
    go true e = cc e
    go false e = cc e

-- ---- a file or link that is told

-- what was told of the store's file or link
pub told_of : (root : Elements) (d : List ℕ) (most : ℕ) (told : Got) {a b : Option Moments} (m : Moments) → a ≡ Some m → AtEnd (λ u w. Gets root d kinds.File most u told) a b → told ≡ got_of most (store root (shows m.now) d kinds.File)
told_of root d most told m at ends = (ends.goes.told m at).3.is

pub stored_file : (root : Elements) (d : List ℕ) (most : ℕ) (told : Got) {a b : Option Moments} (m : Moments) → a ≡ Some m → AtEnd (λ u w. Gets root d kinds.File most u told) a b → (mode size : ℕ) → told ≡ got.File mode size → HasFile root d m.now
stored_file root d most told m at ends mode size is =
    let file = file_told mode size most (store root (shows m.now) d kinds.File) (sym is ∙ told_of root d most told m at ends) in
    record { mode = mode; bytes = file.bytes; there = file.is }

pub stored_text : (P : Option Object → Type 0) (root : Elements) (d : List ℕ) (most : ℕ) (told : Got) {a b : Option Moments} (m : Moments) → a ≡ Some m → AtEnd (λ u w. Gets root d kinds.File most u told) a b → (text : List ℕ) → told ≡ got.Link text
    → (is_link_text text ≡ true → P (Some (objects.Link text))) → P (store root (shows m.now) d kinds.File)
stored_text P root d most told m at ends text is reads =
    let same : store root (shows m.now) d kinds.File ≡ Some (objects.Link text) = link_told text most (store root (shows m.now) d kinds.File) (sym is ∙ told_of root d most told m at ends) in
    subst P (sym same) (reads (link_good text (shows m.now (object_path root d kinds.File)) same))

-- ---- causes of faults

pub counted_after : (root : Elements) (d : List ℕ) (F : Type 0) {a b : Option Moments} (f g h : ℕ) → f ≤ g → Unchanged a b → ((m : Moments) → a ≡ Some m → HasFile root d m.now) → IsCaused F b (HasFile root d) g h → IsCounted F a f h
counted_after root d F f g h le still has cause = record {
  later = omega (arith, le, cause.later);
  fault = λ is m at _.
      let n = still.goes.told m at in
      Rose-later f g h le (cause.fault is n.0 n.1 (subst (λ (v : View). HasFile root d v) (sym n.3.0) (has m at)));
}
