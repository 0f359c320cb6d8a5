-- Objects that are staged in the work folder, one by one.
use Rattle.std.proofs.Common.{◌≡◌, ◌⊎◌, inl, inr, ℕ, List, [], ◌∷◌, ◌++◌, Bool, true, false, Option, Some, None, refl, sym, ◌∙◌, ap, subst, arith}
use Rattle.fp_host.specs.Paths.{Elements, absent, file}
use Rattle.fp_host.specs.View.{View, Inode}
use Rattle.fp_host.proofs.Above.{above_longer}
use Rattle.fp_small.specs.Clear.{IsWithin}
use Rattle.fp_small.proofs.Replacement.{ancestors_above}
use Rattle.fp_name.specs.Hex.{is_digest}
use Rattle.ost_model.specs.declared.object.Object.{Object}
use Rattle.ost_model.specs.Objects.{Have, object_path, name_fault}
use Rattle.ost_model.specs.Order.{In}
use Rattle.ost_model.proofs.Stores.{one_name}
use Rattle.ost_model.proofs.Once.{in_push, once_push}
use Rattle.ost_model.proofs.Members.{in_last, in_cases}
use Rattle.ost_store.specs.Gathers.{Gathers}
use Rattle.ost_store.specs.Stage.{Stages, WasStaged, CanStage}
use Rattle.ost_store.proofs.Staying.{staged_stays, held_stays, staged_held}
use Rattle.ost_store.proofs.Holding.{leaf_there}
use Rattle.ost_store.proofs.ObjectPaths.{not_both, above_object}
use Rattle.ost_commit.specs.declared.built.BuiltObject.{BuiltObject}
use Rattle.ost_store.specs.ObjectNames.{IsObjectName, AreOpen}
use Rattle.ost_export.specs.Staging.{Named, name_of, IsStagedObject, AreStaged, IsAbsentSaid, IsLacking, StagesOne, IsIn, CanStageOne}

-- ---- one object more

off_own : (t : Elements) (o p : Named) → (object_path t p.0 p.1 ≡ object_path t o.0 o.1 → ⊥) → IsWithin (object_path t p.0 p.1) (object_path t o.0 o.1) → ⊥
off_own t o p off (inl same) = off (sym same)
off_own t o p off (inr above) = absurd (omega (arith, above_longer (object_path t p.0 p.1) (object_path t o.0 o.1) above))

module _ {have : Have} {t : Elements} (o : Named) (object : Object) (staged : List Named) {u w : View} (good : is_digest o.0 ≡ true) (is : have o.0 o.1 ≡ Some object) (named : name_fault o.0 o.1 (Some object) ≡ None)
    (stages : Stages (object_path t o.0 o.1) object u w) (was : WasStaged (object_path t o.0 o.1) object u w) where
  new : (are : AreStaged have t staged u) → In staged o → ⊥
  new are has = let k = are.each o has in leaf_there (object_path t o.0 o.1) k.object u k.held was.free

  other : (are : AreStaged have t staged u) (p : Named) → In staged p → IsStagedObject have t p w
  other are p has =
      let k = are.each p has in
      record {
        object = k.object;
        digits = k.digits;
        is = k.is;
        named = k.named;
        held = held_stays (object_path t p.0 p.1) u w (staged_stays (object_path t p.0 p.1) (object_path t o.0 o.1) object u w stages
            (off_own t o p (λ same. leaf_there (object_path t p.0 p.1) k.object u k.held (ap u.names same ∙ was.free)))) k.object k.held;
      }

  pub staged_more : AreStaged have t staged u → AreStaged have t (staged ++ o ∷ []) w
  staged_more are = record {
    each = λ p has. elim (in_cases staged o p has) [
      | inl had ↦ other are p had
      | inr same ↦ subst (λ (x : Named). IsStagedObject have t x w) same (record { object = object; digits = good; is = is; named = named; held = staged_held (object_path t o.0 o.1) object w was.there })
    ];
    once = once_push staged o are.once (new are);
    only = λ d kind digits. elim (stages.keeps.names (object_path t d kind)) [
      | inl same ↦ elim (are.only d kind digits) [ inl none ↦ inl (same ∙ none) | inr had ↦ inr (in_push staged o (d, kind) had) ]
      | inr put ↦ elim put [
        | inl here ↦ let one = one_name t d o.0 kind o.1 digits good here.0 in inr (subst (In (staged ++ o ∷ [])) (λ i. (sym one.0 i, sym one.1 i)) (in_last staged o))
        | inr made ↦ absurd (omega (arith, above_longer (object_path t d kind) (object_path t o.0 o.1) (ancestors_above (object_path t o.0 o.1) (object_path t d kind) made.0)))
      ]
    ];
  }

-- ---- new files that have bytes

pub gathers_same : {T : Elements → Type 0} {u w : View} → w ≡ u → Gathers T u w
gathers_same same = record { each = λ id f new some. absurd (cc (ap (λ (x : View). x.files id) same ∙ new, some)) }

module _ {t : Elements} (o : Named) (object : Object) {u v w : View} (good : is_digest o.0 ≡ true) (stages : Stages (object_path t o.0 o.1) object v w) (was : WasStaged (object_path t o.0 o.1) object v w) (before : Gathers (IsObjectName t) u v) where
  stays_there : (q : Elements) (id : ℕ) → IsObjectName t q → v.names q ≡ file id → w.names q ≡ file id
  stays_there q id name at = elim (stages.keeps.names q) [
    | inl same ↦ same ∙ at
    | inr put ↦ elim put [
      | inl here ↦ absurd (cc (sym at ∙ ap v.names here.0 ∙ was.free))
      | inr made ↦ absurd (not_both t q name (above_object t o.0 o.1 q good made.0))
    ]
  ]

  by_row : (id : ℕ) (f : Inode) (row : Option Inode) → v.files id ≡ row → u.files id ≡ None → w.files id ≡ Some f → (f.bytes ≡ []) ⊎ ((q : Elements) × IsObjectName t q × (w.names q ≡ file id))
  by_row id f None is new some = elim (was.gathers.each id f is some) [
    | inl empty ↦ inl empty
    | inr put ↦ inr (put.0, record { digest = o.0; kind = o.1; digits = good; at = put.1 }, put.2)
  ]
  by_row id f (Some g) is new some =
      let same : Some g ≡ Some f = sym (stages.files.rows id g is) ∙ some in
      let e : g ≡ f = cc same in
      elim (before.each id g new is) [
        | inl empty ↦ inl (ap (λ (x : Inode). x.bytes) (sym e) ∙ empty)
        | inr put ↦ inr (put.0, put.1, stays_there put.0 id put.1 put.2)
      ]

  pub staged_gathers : Gathers (IsObjectName t) u w
  staged_gathers = record { each = λ id f new some. by_row id f (v.files id) refl new some }

-- ---- at the end

-- it is there already
pub stages_none : {have : Have} {root t : Elements} (o : Named) (staged : List Named) {u w : View} → is_digest o.0 ≡ true → w ≡ u → IsLacking root t o u false → StagesOne have root t o staged staged u w
stages_none {have = have} {root = root} {t = t} o staged {u = u} good same there = record {
  on = λ are. subst (AreStaged have t staged) (sym same) are;
  more = λ p has. has;
  new = λ p has. inl has;
  waits = λ are none. elim (are.only o.0 o.1 good) [ inl gone ↦ absurd (there none gone) | inr has ↦ has ];
  gathers = λ x before. subst (Gathers (IsObjectName t) x) (sym same) before;
}

pub stages_new : {have : Have} {root t : Elements} (o : BuiltObject) (staged after : List Named) {u v w : View} → is_digest o.digest ≡ true → IsIn have o → v ≡ u → IsLacking root t (name_of o) u true
    → Stages (object_path t o.digest o.kind) o.object v w → WasStaged (object_path t o.digest o.kind) o.object v w → after ≡ staged ++ name_of o ∷ [] → StagesOne have root t (name_of o) staged after u w
stages_new {have = have} {root = root} {t = t} o staged after {u = u} {v = v} {w = w} good in_it same lacks stages was is =
    subst (λ (l : List Named). StagesOne have root t (name_of o) staged l u w) (sym is) (record {
      on = λ are. staged_more (name_of o) o.object staged good in_it.is in_it.named stages was (subst (AreStaged have t staged) (sym same) are);
      more = λ p has. in_push staged (name_of o) p has;
      new = λ p has. elim (in_cases staged (name_of o) p has) [ inl had ↦ inl had | inr here ↦ inr (sym here, lacks.0) ];
      waits = λ are none. in_last staged (name_of o);
      gathers = λ x before. staged_gathers (name_of o) o.object good stages was (subst (Gathers (IsObjectName t) x) (sym same) before);
    })

pub can_stage : {t : Elements} (o : BuiltObject) {u v : View} → is_digest o.digest ≡ true → v ≡ u → v.names (object_path t o.digest o.kind) ≡ absent → CanStageOne t o.object u → CanStage (object_path t o.digest o.kind) o.object v
can_stage {t = t} o {u = u} {v = v} good same none can = record {
  keepable = can.keepable;
  free = none;
  folders = record { free = λ q has. let still : AreOpen t v = subst (AreOpen t) (sym same) can.open_above in still.free q (above_object t o.digest o.kind q good has) };
}

-- ---- what is said of both names

pub both_said : (root t : Elements) (o : Named) {p q : Elements} {none : Bool} {u v : View} (b : Bool) → p ≡ object_path root o.0 o.1 → q ≡ object_path t o.0 o.1 → none ≡ true → v ≡ u → IsAbsentSaid p u none → IsAbsentSaid q v b → IsLacking root t o u b
both_said root t o {p = p} {q = q} {u = u} {v = v} b at_p at_q is same first second = by_case b at_q (subst (λ (x : View). IsAbsentSaid q x b) same second)
  where
    here : u.names (object_path root o.0 o.1) ≡ absent
    here = ap u.names (sym at_p) ∙ subst (IsAbsentSaid p u) is first

    by_case : (b : Bool) → q ≡ object_path t o.0 o.1 → IsAbsentSaid q u b → IsLacking root t o u b
    by_case true at said = (here, ap u.names (sym at) ∙ said)
    by_case false at said = λ none gone. said (ap u.names at ∙ gone)

pub none_said : (root t : Elements) (o : Named) {p : Elements} {none : Bool} (u : View) → p ≡ object_path root o.0 o.1 → none ≡ false → IsAbsentSaid p u none → IsLacking root t o u false
none_said root t o {p = p} u at is said = λ none gone. subst (IsAbsentSaid p u) is said (ap u.names at ∙ none)
