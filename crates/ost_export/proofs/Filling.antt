-- All objects of a commit are staged, one after another.
use Rattle.std.proofs.Common.{◌≡◌, ◌+◌, ◌<◌, ◌≤◌, inl, inr, ℕ, List, [], ◌∷◌, ◌++◌, length, take, get_or, true, Option, refl, sym, ◌∙◌, ap, subst}
use Rattle.std.specs.List.{AllByRecursion}
use Rattle.std.proofs.lemmas.List.{take_more, take_all}
use Rattle.fp_base.proofs.Lists.{all_to as all_also}
use Rattle.fp_host.specs.Paths.{Elements}
use Rattle.fp_host.specs.View.{View}
use Rattle.fp_host.specs.Frame.{AtEnd}
use Rattle.fp_host.specs.Moments.{Moments, Always}
use Rattle.fp_host.proofs.Framed.{IsTold}
use Rattle.fp_host.proofs.Ending.{ends_on, ends_both, ends_goes, ends_to, ends_start}
use Rattle.fp_small.specs.Clear.{IsCleared}
use Rattle.fp_name.specs.Hex.{is_digest}
use Rattle.ost_model.specs.Objects.{Have, object_path}
use Rattle.ost_model.specs.Order.{In}
use Rattle.ost_model.proofs.Members.{all_here}
use Rattle.ost_store.proofs.ObjectPaths.{below_work}
use Rattle.ost_commit.specs.declared.built.BuiltObject.{BuiltObject}
use Rattle.ost_commit.proofs.Holding.{all_push}
use Rattle.ost_export.specs.Staging.{Named, name_of, IsApart, AreStaged, StagesOne, IsCovered, StagesSome, Works, IsKeepableObject, CanStageOne, CanStageAll}
use Rattle.ost_export.proofs.Listed.{in_at}
use Rattle.ost_export.proofs.Staged.{gathers_same}
use Rattle.ost_export.proofs.Works.{works_stays, works_open}

-- ---- none yet

none_staged : {have : Have} {t : Elements} {w : View} → IsCleared t w → AreStaged have t [] w
none_staged {t = t} cleared = record { each = λ o none. absurd none; once = tt; only = λ d kind digits. inl (cleared.gone (object_path t d kind) (below_work t d kind (object_path t d kind) refl)) }

pub stages_start : {have : Have} {root t : Elements} {a : Option Moments} (staged : List Named) → staged ≡ [] → IsTold a → AtEnd (StagesSome have root t [] staged) a a
stages_start {have = have} {root = root} {t = t} staged none told = ends_to (ends_start told) (λ u w same. subst (λ (l : List Named). StagesSome have root t [] l u w) (sym none) (λ cleared. (
  record { are = none_staged (subst (IsCleared t) (sym same) cleared); new = λ o has. absurd has; gathers = gathers_same same },
  tt,
)))

-- ---- one more

module _ {root t : Elements} (apart : IsApart root t) (objects : List BuiltObject) (i : ℕ) (o : BuiltObject) (low : i < length objects) (is : o ≡ get_or objects i o) where
  pub here : In objects o
  here = in_at objects i o low is

  more : {have : Have} {before after : List Named} {u v w : View} → is_digest o.digest ≡ true → Works t u v → StagesSome have root t (take i objects) before u v → StagesOne have root t (name_of o) before after v w → StagesSome have root t (take (i + 1) objects) after u w
  more {have = have} {before = before} {after = after} {u = u} {v = v} good works some one cleared =
      let b = some cleared in
      let same = (works_stays apart works o.digest o.kind).name in (
        record {
          are = one.on b.0.are;
          new = λ p has. elim (one.new p has) [
            | inl had ↦ b.0.new p had
            | inr this ↦ ap (λ (n : Named). u.names (object_path root n.0 n.1)) this.0 ∙ sym same ∙ this.1
          ];
          gathers = one.gathers u b.0.gathers;
        },
        subst (AllByRecursion (IsCovered root after u)) (sym (take_more objects i o low ∙ ap (λ (x : BuiltObject). take i objects ++ x ∷ []) (sym is)))
            (all_push (IsCovered root after u) (take i objects) o
            (all_also (IsCovered root before u) (IsCovered root after u) (λ p c. record { digits = c.digits; waits = λ none. one.more (name_of p) (c.waits none) }) (take i objects) b.1)
            (record { digits = good; waits = λ none. one.waits b.0.are (same ∙ none) })),
      )

  pub stages_next : {have : Have} {before after : List Named} {a b c : Option Moments} → is_digest o.digest ≡ true → IsTold a → IsTold b → Always (Works t) a b → AtEnd (StagesSome have root t (take i objects) before) a b → AtEnd (StagesOne have root t (name_of o) before after) b c
      → AtEnd (StagesSome have root t (take (i + 1) objects) after) a c
  stages_next good told told' works some one = ends_on one (ends_both (ends_goes told works) some) told' (λ u v w tree q s. more good q.0 q.1 s)

pub can_stage_one : {t : Elements} (objects : List BuiltObject) (o : BuiltObject) {u v : View} → In objects o → Works t u v → CanStageAll t objects u → CanStageOne t o.object v
can_stage_one objects o has works can = record { keepable = all_here IsKeepableObject objects o can.keepable has; open_above = works_open works can.open_above }

-- ---- all

pub stages_all : {have : Have} {root t : Elements} (objects : List BuiltObject) (i : ℕ) (staged : List Named) {a b : Option Moments} → length objects ≤ i → AtEnd (StagesSome have root t (take i objects) staged) a b → AtEnd (StagesSome have root t objects staged) a b
stages_all {have = have} {root = root} {t = t} objects i staged {a = a} {b = b} past some = subst (λ (l : List BuiltObject). AtEnd (StagesSome have root t l staged) a b) (take_all i objects past) some
