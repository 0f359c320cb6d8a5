-- A commit that is judged by its digests.
use Rattle.std.proofs.Common.{◌≡◌, ℕ, List, Option, Some, None, IsErrAnd, sym, ap, ◌∙◌, subst}
use Rattle.std.specs.Prelude.{Result, Ok, Err}
use Rattle.fp_base.specs.declared.rule.Rule.{Rule}
use Rattle.fp_base.specs.declared.rule.Rule.TheVariants as rules
use Rattle.ost_model.specs.Fields.{CommitView}
use Rattle.ost_model.specs.Readers.{commit_breaks, judged, kept}
use Rattle.ost_model.proofs.Readers.{kept_ok}
use Rattle.ost_object.specs.declared.error.ObjectError.{ObjectError}
use Rattle.ost_object.specs.declared.error.ObjectError.TheVariants as errors
use Rattle.ost_object.specs.Answers.{Misses, Tries, Breaks, Reads, mapped}
use Rattle.ost_object.specs.Views.{digests_in, root_in}

kept-err : {A B : Type 0} (r : Option Rule) (a : A) (b : B) (rule : Rule) → kept r a ≡ Err rule → kept r b ≡ Err rule
kept-err None a b rule e = absurd cc
kept-err (Some broken) a b rule e = cc

module _ (o : Option CommitView) (y : CommitView) (is : o ≡ Some y) where
  -- no rule is broken
  pub judged-good : (digests : List ℕ × List ℕ × List ℕ) → kept (commit_breaks y) (digests_in y) ≡ Ok digests → (judged commit_breaks o ≡ Ok y) × (digests ≡ digests_in y)
  judged-good digests e =
      let k = kept_ok (commit_breaks y) (digests_in y) digests e in
      (ap (judged commit_breaks) is ∙ ap (λ (r : Option Rule). kept r y) k.0, sym k.1)

  -- one is
  pub judged-bad : (e : ObjectError) → Breaks e (kept (commit_breaks y) (digests_in y)) → Breaks e (judged commit_breaks o)
  judged-bad (errors.Malformed rule) h = ap (judged commit_breaks) is ∙ kept-err (commit_breaks y) (digests_in y) y rule h
  judged-bad errors.NoMemory h = tt

-- there is no commit to judge
pub judged-none : (e : ObjectError) (o : Option CommitView) → Misses rules.Value e o → Breaks e (judged commit_breaks o)
judged-none (errors.Malformed rule) o h = ap (judged commit_breaks) h.1 ∙ ap (λ (r : Rule). Err r) (sym h.0)
judged-none errors.NoMemory o h = tt

-- the same of a part of what is read
pub breaks-mapped : {A B : Type 0} (part : A → B) (e : ObjectError) (read : Result A Rule) → Breaks e read → Breaks e (mapped part read)
breaks-mapped part (errors.Malformed rule) read h = ap (mapped part) h
breaks-mapped part errors.NoMemory read h = tt

-- ---- errors that are handed on

pub finds-err : {X Y : Type 0} (view : X → Y) (rule : Rule) (r : Result X ObjectError) (e : ObjectError) (there : Option Y) → IsErrAnd r (λ x. x ≡ e) → Misses rule e there → Tries rule view r there
finds-err view rule (Ok x) e there h f = absurd h
finds-err view rule (Err x) e there h f = subst (λ (y : ObjectError). Misses rule y there) (sym h) f

pub reads-err : {X Y : Type 0} (view : X → Y) (r : Result X ObjectError) (e : ObjectError) (read : Result Y Rule) → IsErrAnd r (λ x. x ≡ e) → Breaks e read → Reads view r read
reads-err view (Ok x) e read h f = absurd h
reads-err view (Err x) e read h f = subst (λ (y : ObjectError). Breaks y read) (sym h) f
