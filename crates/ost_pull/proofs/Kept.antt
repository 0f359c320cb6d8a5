-- Objects that are kept in the work folder, one by one.
use Rattle.std.proofs.Common.{◌≡◌, ◌⊎◌, inl, inr, ℕ, List, [], ◌∷◌, ◌++◌, true, Option, Some, None, Result, Ok, refl, sym, ◌∙◌, ap, subst, arith, Err}
use Rattle.fp_host.specs.Paths.{Elements, Slot, absent, dir, file, link, IsAbove}
use Rattle.fp_host.specs.View.{View, IsTree}
use Rattle.fp_host.specs.Moments.{Moments, Always, Makes}
use Rattle.fp_host.specs.Calls.{syncs, Step}
use Rattle.fp_host.specs.Reads.{StatOf, IsStat}
use Rattle.fp_host.specs.Remote.{Holdings}
use Rattle.fp_host.specs.declared.host.HostError.{HostError}
use Rattle.fp_host.specs.declared.host.HostError.TheVariants as errors
use Rattle.fp_host.specs.declared.host.Stat.{Stat}
use Rattle.fp_host.specs.declared.host.Stat.TheVariants as stats
use Rattle.fp_host.proofs.Follow.{called}
use Rattle.fp_host.proofs.Framed.{IsTold, keeps_refl, keeps_on, keeps_to, keeps_call}
use Rattle.fp_host.specs.Frame.{Keeps, Frame, AtEnd, Unchanged, NoPath}
use Rattle.fp_host.proofs.Goes.{stays, begins, goes_on, makes_goes}
use Rattle.fp_host.proofs.Ending.{ends_goes, ends_call, ends_to, ends_on, ends_both}
use Rattle.fp_host.proofs.Above.{above_longer}
use Rattle.fp_small.specs.Clear.{IsWithin, GoneWithin, AbsentWithin}
use Rattle.fp_small.specs.Folders.{ancestors, AreFree}
use Rattle.fp_small.proofs.Keeping.{files_on, files_kept, files_stay, files_synced}
use Rattle.fp_small.proofs.Making.{stat_absent}
use Rattle.fp_small.proofs.Replacement.{ancestors_above}
use Rattle.fp_name.specs.Hex.{is_digest}
use Rattle.fp_base.specs.declared.object.ObjKind.{ObjKind}
use Rattle.ost_model.specs.declared.object.Object.{Object}
use Rattle.ost_model.specs.Objects.{object_path, name_fault}
use Rattle.ost_model.specs.Order.{In}
use Rattle.ost_model.proofs.Stores.{one_name}
use Rattle.ost_model.proofs.Once.{in_push, once_push}
use Rattle.ost_model.proofs.Members.{in_last, in_cases}
use Rattle.ost_store.specs.Stage.{Stages, WasStaged, IsHeld, CanStage}
use Rattle.ost_store.proofs.Staying.{staged_stays, held_stays, staged_held}
use Rattle.ost_store.proofs.Holding.{leaf_there}
use Rattle.ost_store.proofs.ObjectPaths.{below_work, above_object}
use Rattle.ost_head.specs.Found.{RemoteHas}
use Rattle.ost_pull.proofs.Gathered.{gathered_same, gathered_staged}
use Rattle.ost_pull.specs.Work.{Works, IsKept, AreKept, KeepsOne, CanKeep}

-- ---- work in the folder

pub works_refl : {t : Elements} {v : View} → Works t v v
works_refl = record { keeps = keeps_refl; files = files_stay }

works_same : {t : Elements} {v w : View} → w ≡ v → Works t v w
works_same {t = t} {v = v} same = subst (Works t v) (sym same) works_refl

pub works_on : {t : Elements} {u v w : View} → Works t u v → Works t v w → Works t u w
works_on first second = record { keeps = keeps_on first.keeps second.keeps; files = files_on first.files second.files }

pub above_work : (t : Elements) (d : List ℕ) (kind : ObjKind) (q : Elements) → IsAbove q (object_path t d kind) → IsWithin t q ⊎ IsAbove q t
above_work t d kind q (inl is) = inl (inr (subst (IsAbove t) (sym is) (inr (inl refl))))
above_work t d kind q (inr (inl is)) = inl (inr (subst (IsAbove t) (sym is) (inl refl)))
above_work t d kind q (inr (inr (inl is))) = inl (inl is)
above_work t d kind q (inr (inr (inr higher))) = inr higher

pub staged_works : (t : Elements) (d : List ℕ) (kind : ObjKind) (object : Object) {u w : View} → is_digest d ≡ true → Stages (object_path t d kind) object u w → Works t u w
staged_works t d kind object good s = record {
  keeps = keeps_to
      (λ q spot h. elim h [
        | inl here ↦ inl (record { digest = d; kind = kind; digits = good; at = here.0 })
        | inr made ↦ inr (inl (above_object t d kind q good made.0, made.1))
      ])
      (λ q e h. elim h [
        | inl here ↦ inl (record { digest = d; kind = kind; digits = good; at = here.0 })
        | inr made ↦ inr (inl (above_object t d kind q good made.0, made.1))
      ])
      (λ q is. below_work t d kind q is)
      (λ q id within h. elim h [ inl here ↦ here.0 | inr made ↦ absurd (cc made.1) ])
      s.keeps;
  files = s.files;
}

-- what is taken away there
pub cleared_works : {t : Elements} {u w : View} → Keeps (GoneWithin t) (AbsentWithin t) NoPath u w → Works t u w
cleared_works keeps = record {
  keeps = keeps_to (λ q spot h. inr (inr h)) (λ q e h. inr (inr h)) (λ q none. absurd none) (λ q id within h. absurd (cc h.1)) keeps;
  files = files_kept keeps;
}

-- a sync
pub synced_works : {t : Elements} {r : Result (Unit {0}) HostError} {u w : View} → IsTree u → Step syncs r u w → Works t u w
synced_works tree step = record {
  keeps = keeps_call tree (λ q spot h. absurd h) (λ q e h. absurd h) (λ x i h. absurd h) tt tt (called step);
  files = record { rows = λ id f some. (files_synced step).rows id ∙ some; stood = (files_synced step).stood };
}

-- a look at a path doesn't clash
pub stat_clash : (p : Elements) (e : HostError) (v w : View) → StatOf p (Err e) v w → e ≡ errors.Clash → ⊥
stat_clash p errors.Clash v w stat is = stat.tells tt
stat_clash p errors.Failed v w stat is = absurd (cc is)
stat_clash p errors.NoMemory v w stat is = absurd (cc is)

-- ---- over the moments

pub works_start : {t : Elements} {a : Option Moments} → IsTold a → Always (Works t) a a
works_start told = stays told (λ u. works_refl) (λ u tree. works_refl)

pub works_stat : {t p : Elements} {a b c : Option Moments} {r : Result Stat HostError} → IsTold b → Makes (StatOf p r) b c → Always (Works t) a b → Always (Works t) a c
works_stat told call so_far = goes_on told so_far (makes_goes call) (λ u v w tree r q s. works_on r (works_same s.same)) (λ u v w tree r q s e. works_on r (works_same e.same))

pub works_stage : {a b c : Option Moments} (t p : Elements) (d : List ℕ) (kind : ObjKind) (object : Object) → is_digest d ≡ true → p ≡ object_path t d kind → IsTold b → Always (Stages p object) b c → Always (Works t) a b → Always (Works t) a c
works_stage t p d kind object good at told inner so_far =
    goes_on told so_far inner (λ u v w tree r q s. works_on r (staged_works t d kind object good (here s))) (λ u v w tree r q s e. works_on r (staged_works t d kind object good (here e)))
  where
    here : {v w : View} → Stages p object v w → Stages (object_path t d kind) object v w
    here {v = v} {w = w} s = subst (λ (q : Elements). Stages q object v w) at s

pub works_within : {t : Elements} {a b c : Option Moments} → IsTold b → Always (Works t) b c → Always (Works t) a b → Always (Works t) a c
works_within told inner so_far = goes_on told so_far inner (λ u v w tree r q s. works_on r s) (λ u v w tree r q s e. works_on r e)

pub works_looks : {t : Elements} {a b : Option Moments} → IsTold a → Unchanged a b → Always (Works t) a b
works_looks told still = begins told still.goes (λ u w tree same. works_same same) (λ u w tree same q. works_same same)

pub works_clear : {t : Elements} {a b : Option Moments} → IsTold a → Frame (GoneWithin t) (AbsentWithin t) NoPath a b → Always (Works t) a b
works_clear told frame = begins told frame.goes (λ u w tree keeps. cleared_works keeps) (λ u w tree keeps q. cleared_works keeps)

pub works_sync : {t : Elements} {a b : Option Moments} {r : Result (Unit {0}) HostError} → IsTold a → Makes (Step syncs r) a b → Always (Works t) a b
works_sync told call = begins told (makes_goes call) (λ u w tree step. synced_works tree step) (λ u w tree step again. synced_works tree step)

-- ---- lists of objects

abbrev pub Named : Type 0
Named = List ℕ × ObjKind

-- ---- an object that is kept already

not_absent : (v : View) (e : Slot) (s : Stat) → IsStat v e s → (s ≡ stats.Absent → ⊥) → e ≡ absent → ⊥
not_absent v absent s is off none = off is
not_absent v dir s is off none = cc none
not_absent v (file id) s is off none = cc none
not_absent v (link text) s is off none = cc none

pub kept_already : {t : Elements} {url : List ℕ} {holds : Option Holdings} (o : Named) (kept : List Named) (s : Stat) {u w : View} → is_digest o.0 ≡ true → StatOf (object_path t o.0 o.1) (Ok s) u w → (s ≡ stats.Absent → ⊥)
    → KeepsOne t url holds o kept kept u w
kept_already {t = t} {url = url} {holds = holds} o kept s {u = u} good stat off = record {
  on = λ are. (
    subst (AreKept t url holds kept) (sym stat.same) are,
    elim (are.only o.0 o.1 good) [ inl none ↦ absurd (not_absent u (u.names (object_path t o.0 o.1)) s stat.tells.1 off none) | inr has ↦ has ],
  );
  gathers = gathered_same stat.same;
}

-- ---- one object more

module _ {t : Elements} {url : List ℕ} {holds : Option Holdings} (o : Named) (object : Object) (kept : List Named) {u w : View} (good : is_digest o.0 ≡ true) (named : name_fault o.0 o.1 (Some object) ≡ None)
    (there : RemoteHas url holds o.0 o.1 object) (stages : Stages (object_path t o.0 o.1) object u w) (was : WasStaged (object_path t o.0 o.1) object u w) (held : IsHeld (object_path t o.0 o.1) object w) where
  apart : (p : Named) → is_digest p.0 ≡ true → (object_path t p.0 p.1 ≡ object_path t o.0 o.1 → ⊥) → IsWithin (object_path t p.0 p.1) (object_path t o.0 o.1) → ⊥
  apart p digits off (inl same) = off (sym same)
  apart p digits off (inr above) = absurd (omega (arith, above_longer (object_path t p.0 p.1) (object_path t o.0 o.1) above))

  new : (are : AreKept t url holds kept u) → In kept o → ⊥
  new are has = let k = are.each o has in leaf_there (object_path t o.0 o.1) k.object u k.held was.free

  other : (are : AreKept t url holds kept u) (p : Named) → In kept p → IsKept t url holds p w
  other are p has =
      let k = are.each p has in
      record {
        object = k.object;
        digits = k.digits;
        held = held_stays (object_path t p.0 p.1) u w (staged_stays (object_path t p.0 p.1) (object_path t o.0 o.1) object u w stages
            (apart p k.digits (λ same. leaf_there (object_path t p.0 p.1) k.object u k.held (ap u.names same ∙ was.free)))) k.object k.held;
        named = k.named;
        there = k.there;
      }

  pub kept_more : KeepsOne t url holds o kept (kept ++ o ∷ []) u w
  kept_more = record {
    on = λ are. (
      record {
        each = λ p has. elim (in_cases kept o p has) [
          | inl had ↦ other are p had
          | inr is ↦ subst (λ (x : Named). IsKept t url holds x w) is (record { object = object; digits = good; held = held; named = named; there = there })
        ];
        once = once_push kept o are.once (new are);
        only = λ d kind digits. elim (stages.keeps.names (object_path t d kind)) [
          | inl same ↦ elim (are.only d kind digits) [ inl none ↦ inl (same ∙ none) | inr had ↦ inr (in_push kept o (d, kind) had) ]
          | inr put ↦ elim put [
            | inl here ↦ let one = one_name t d o.0 kind o.1 digits good here.0 in inr (subst (In (kept ++ o ∷ [])) (λ i. (sym one.0 i, sym one.1 i)) (in_last kept o))
            | inr made ↦ absurd (omega (arith, above_longer (object_path t d kind) (object_path t o.0 o.1) (ancestors_above (object_path t o.0 o.1) (object_path t d kind) made.0)))
          ]
        ];
      },
      in_last kept o,
    );
    gathers = gathered_staged t o.0 o.1 object good stages was;
  }

-- ---- at the end

pub keeps_already : {t p : Elements} {a b : Option Moments} (o : Named) (kept : List Named) (s : Stat) → IsTold a → is_digest o.0 ≡ true → p ≡ object_path t o.0 o.1 → Makes (StatOf p (Ok s)) a b → (s ≡ stats.Absent → ⊥)
    → (url : List ℕ) (holds : Option Holdings) → AtEnd (KeepsOne t url holds o kept kept) a b
keeps_already {t = t} o kept s told good at call off url holds = ends_to (ends_call told call) (λ u w stat. kept_already o kept s good (subst (λ (q : Elements). StatOf q (Ok s) u w) at stat) off)

pub keeps_new : {t p : Elements} {a b c : Option Moments} (o : Named) (object : Object) (kept after : List Named) → IsTold a → IsTold b → is_digest o.0 ≡ true → name_fault o.0 o.1 (Some object) ≡ None → p ≡ object_path t o.0 o.1
    → Makes (StatOf p (Ok stats.Absent)) a b → Always (Stages p object) b c → AtEnd (WasStaged p object) b c → after ≡ kept ++ o ∷ []
    → (url : List ℕ) (holds : Option Holdings) → RemoteHas url holds o.0 o.1 object → AtEnd (KeepsOne t url holds o kept after) a c
keeps_new {t = t} o object kept after told_a told_b good named at call stages was more url holds there =
    ends_on (ends_both (ends_goes told_b stages) was) (ends_call told_a call) told_b (λ u v w tree stat both.
    let here : Stages (object_path t o.0 o.1) object v w = subst (λ (q : Elements). Stages q object v w) at both.0 in
    let set : WasStaged (object_path t o.0 o.1) object v w = subst (λ (q : Elements). WasStaged q object v w) at both.1 in
    subst (λ (l : List Named). KeepsOne t url holds o kept l u w) (sym more) (subst (λ (x : View). KeepsOne t url holds o kept (kept ++ o ∷ []) x w) stat.same
    (kept_more o object kept good named there here set (staged_held (object_path t o.0 o.1) object w set.there))))

-- ---- where it may be kept

pub can_stage : {t p : Elements} (d : List ℕ) (kind : ObjKind) (object : Object) {u v : View} → p ≡ object_path t d kind → StatOf p (Ok stats.Absent) u v → CanKeep t d kind object u → CanStage p object v
can_stage {p = p} d kind object {u = u} at stat can = record {
  keepable = can.keepable;
  free = ap (λ (x : View). x.names p) stat.same ∙ stat_absent stat;
  folders = subst (AreFree (ancestors p)) (sym stat.same) (subst (λ (q : Elements). AreFree (ancestors q) u) (sym at) can.folders);
}
