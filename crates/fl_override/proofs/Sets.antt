-- What is true of all mentions is true of the last ones.
use Rattle.std.proofs.Common.{◌≡◌, Bool, true, false, cond, List, [], ◌∷◌, Option, Some, None, refl, sym, subst, ◌∙◌}
use Rattle.std.specs.List.Sorted.{IsStrictlySortedBy}
use Rattle.fl_meta.specs.declared.permission.Permission.{Permission}
use Rattle.fl_meta.specs.declared.permission.Value.{Value}
use Rattle.fl_meta.specs.declared.permission.Mention.{Mention}
use Rattle.fl_meta.specs.Order.{is_same}
use Rattle.fl_meta.proofs.Same.{same_exact}
use Rattle.fl_context.specs.Grants.{said, later, last_mention, or_next, value_in, IsAscending}
use Rattle.fl_context.proofs.Merging.{none_above, first_value}
use Rattle.fl_override.specs.Written.{CanWrite}
use Rattle.fl_override.specs.Overrides.{AllCanWrite}

abbrev mention : Permission → Value → Mention
mention p v = record { permission = p; value = v }

same_some : (v w : Value) → Path (Option Value) (Some v) (Some w) → v ≡ w
same_some v w e = cc

no_value : (v : Value) → Path (Option Value) None (Some v) → ⊥
no_value v e = cc

said-write : (m : Mention) (p : Permission) (v : Value) (same : Bool) → is_same m.permission p ≡ same → CanWrite m → cond same (Some m.value) None ≡ Some v → CanWrite (mention p v)
said-write m p v true s h e =
    let perm : m.permission ≡ p = same_exact m.permission p s in
    let value : m.value ≡ v = same_some m.value v e in
    let whole : Path Mention m (mention p v) = λ i. record { permission = perm i; value = value i } in
    subst CanWrite whole h
said-write m p v false s h e = absurd (no_value v e)

last-write : (ms : List Mention) (p : Permission) (v : Value) → AllCanWrite ms → last_mention ms p ≡ Some v → CanWrite (mention p v)
last-write [] p v h e = absurd (no_value v e)
last-write (m ∷ ms) p v h e = by_last (last_mention ms p) (last-write ms p v h.1) e
  where
    by_last : (o : Option Value) → (o ≡ Some v → CanWrite (mention p v)) → later o (said m p) ≡ Some v → CanWrite (mention p v)
    by_last (Some w) k f = k f
    by_last None k f = said-write m p v (is_same m.permission p) refl h.0 f

tail-value : (m : Mention) (ms : List Mention) (p : Permission) (v : Value) → IsAscending (m ∷ ms) → value_in ms p ≡ Some v → value_in (m ∷ ms) p ≡ Some v
unfolding IsStrictlySortedBy
tail-value m ms p v h e = by_same (is_same m.permission p) refl
  where
    by_same : (same : Bool) → is_same m.permission p ≡ same → or_next (cond same (Some m.value) None) (value_in ms p) ≡ Some v
    by_same true s = absurd (no_value v (sym (none_above m.permission p ms h.0 s) ∙ e))
    by_same false s = e

values-write : (g : List Mention) → IsAscending g → ((p : Permission) (v : Value) → value_in g p ≡ Some v → CanWrite (mention p v)) → AllCanWrite g
unfolding IsStrictlySortedBy
values-write [] h k = tt
values-write (m ∷ ms) h k = (k m.permission m.value (first_value m ms), values-write ms h.1 (λ p v e. k p v (tail-value m ms p v h e)))

-- a list that has the last mentions of others
pub last_written : (g ms : List Mention) → IsAscending g → ((p : Permission) → value_in g p ≡ last_mention ms p) → AllCanWrite ms → AllCanWrite g
last_written g ms h same k = values-write g h (λ p v e. last-write ms p v k (sym (same p) ∙ e))
