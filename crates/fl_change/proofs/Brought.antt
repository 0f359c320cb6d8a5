-- The world after an operation that was done.
use Rattle.std.proofs.Common.{◌≡◌, ◌≢◌, inl, inr, ℕ, List, Option, Some, None, refl, sym, ◌∙◌, ap, subst}
use Rattle.std.specs.Option.{option_or}
use Rattle.fp_host.specs.Remote.{Holdings}
use Rattle.fp_host.specs.View.{View}
use Rattle.fp_host.specs.Outcome.{shows}
use Rattle.fp_small.specs.Places.{repo}
use Rattle.fp_small.specs.declared.state.State.{State}
use Rattle.fp_small.specs.declared.op.Op.{Op}
use Rattle.ost_model.specs.declared.object.Object.{Object}
use Rattle.ost_model.specs.Objects.{Have, store, supply}
use Rattle.ost_model.specs.Order.{Place, In, order, Agree}
use Rattle.ost_model.specs.Remotes.{remote}
use Rattle.ost_model.proofs.Places.{order_same}
use Rattle.dep_states.specs.After.{plain, state_after, after_op}
use Rattle.dep_states.specs.Effects.{Effect, effect_of, brings, writes}
use Rattle.op_change.specs.Deploys.{SameObjects}
use Rattle.op_change.specs.Brought.{HasObjects, brought_refusal, commit_time, supply_at}
use Rattle.op_change.specs.Applied.{Brings, url_of, url_by, have_for, op_refusal, refusal_by, done_with, time_by, HasObjectsFor, HasObjectsBy}
use Rattle.op_change.proofs.Plain.{done_plain, none_refused}
use Rattle.fl_change.specs.World.{world_at, kept_commits, used_of, supplied, supplied_by, world_after}
use Rattle.fl_change.specs.Performs.{Rests, done_of}
use Rattle.fl_change.proofs.Kept.{BringsThis, kept_after}
use Rattle.fl_change.proofs.Stored.{settled_store, kept_had, kept_digest}
use Rattle.fl_change.proofs.Worlds.{used_same}

-- ---- what is supplied

-- an operation that brings nothing
pub record IsPlainly (have : Have) (op : Op) : Type 0 where
  pub refused : op_refusal have op ≡ None
  pub done : done_with have op ≡ plain op

pub plainly : (have : Have) (op : Op) → (Brings op → ⊥) → IsPlainly have op
plainly have op none = record { refused = none_refused have op none; done = done_plain have op none }

-- the operation that was done
pub done_is : (have : Have) (op : Op) → (done_with have op).op ≡ op
done_is have op = refl

-- what the world supplies is what the store and the remote do
pub record IsSupplied (held : Holdings) (op : Op) (s : State) (v : View) : Type 0 where
  pub refused : op_refusal (supplied held (world_at s v) op) op ≡ op_refusal (have_for s op held v) op
  pub done : done_of op held (world_at s v) ≡ done_with (have_for s op held v) op

pub by_url : (held : Holdings) (url : Option (List ℕ)) (s : State) {v : View} → Rests s v → supply (used_of s (store repo (shows v))) (remote held url) ≡ supply_at held url v
by_url held url s rests = ap (λ (h : Have). supply h (remote held url)) (settled_store s rests)

supplied_refusal : (held : Holdings) (e : Effect) (s : State) {v : View} → Rests s v → refusal_by (supplied_by held (world_at s v) e) e ≡ refusal_by (supply_at held (url_by s e) v) e
supplied_refusal held (brings name origin commit) s rests = ap (λ (h : Have). brought_refusal h name commit) (by_url held (url_of s origin) s rests)
supplied_refusal held (writes write) s rests = refl

supplied_time : (held : Holdings) (e : Effect) (s : State) {v : View} → Rests s v → time_by (supplied_by held (world_at s v) e) e ≡ time_by (supply_at held (url_by s e) v) e
supplied_time held (brings name origin commit) s rests = ap (λ (h : Have). commit_time h commit) (by_url held (url_of s origin) s rests)
supplied_time held (writes write) s rests = refl

pub supplied_is : (held : Holdings) (op : Op) (s : State) {v : View} → Rests s v → IsSupplied held op s v
supplied_is held op s rests = record {
  refused = supplied_refusal held (effect_of op) s rests;
  done = ap (λ (n : ℕ). record { op = op; timestamp = n }) (supplied_time held (effect_of op) s rests);
}

-- ---- what the states' commits use

-- the same objects
pub kept_objects : (s t : State) {v : View} (w : View) → ((c : List ℕ) → In (kept_commits t) c → In (kept_commits s) c) → Rests s v → SameObjects v w → used_of t (store repo (shows w)) ≡ used_of t (store repo (shows v))
kept_objects s t {v = v} w within rests same = used_same t (store repo (shows v)) (store repo (shows w)) (λ commit kept p inside.
    same p.digest p.kind (kept_digest s rests.opens commit (within commit kept) p inside))

or_first : (a b : Option Object) → a ≢ None → option_or a b ≡ a
or_first None b some = absurd (some refl)
or_first (Some x) b some = refl

-- and those of the commit that is brought besides
brought_objects : (s t : State) (op : Op) (commit : List ℕ) (timestamp : ℕ) (r : Have) {v w : View} → t ≡ after_op s timestamp op → ((c : List ℕ) → BringsThis (effect_of op) c → commit ≡ c) → Rests s v
    → HasObjects (supply (store repo (shows v)) r) commit v w → used_of t (store repo (shows w)) ≡ used_of t (supply (store repo (shows v)) r)
brought_objects s t op commit timestamp r {v = v} {w = w} is one rests has = used_same t h (store repo (shows w)) (λ c kept.
    elim (kept_after s c op timestamp (subst (λ (x : State). In (kept_commits x) c) is kept)) [
      | inl before ↦ old c before
      | inr brought ↦ subst (λ (x : List ℕ). Agree h (store repo (shows w)) (order h x)) (one c brought) has.there
    ])
  where
    own : Have
    own = store repo (shows v)

    h : Have
    h = supply own r

    first : (c : List ℕ) → In (kept_commits s) c → Agree own h (order own c)
    first c before p inside = or_first (own p.digest p.kind) (r p.digest p.kind) (kept_had s rests.opens c before p inside)

    old : (c : List ℕ) → In (kept_commits s) c → Agree h (store repo (shows w)) (order h c)
    old c before p inside =
        let within = subst (λ (ps : List Place). In ps p) (order_same own h c (first c before)) inside in
        has.stood p.digest p.kind (kept_digest s rests.opens c before p within) (kept_had s rests.opens c before p within) ∙ sym (first c before p within)

-- ---- the world after

plain_after : (held : Holdings) (op : Op) (s t : State) {v : View} (w : View) → t ≡ after_op s 0 op → ((c : List ℕ) → BringsThis (effect_of op) c → ⊥) → Rests s v → SameObjects v w → used_of t (used_of s (store repo (shows v))) ≡ used_of t (store repo (shows w))
plain_after held op s t w is none rests same = ap (used_of t) (settled_store s rests) ∙ sym (kept_objects s t w within rests same)
  where
    within : (c : List ℕ) → In (kept_commits t) c → In (kept_commits s) c
    within c kept = elim (kept_after s c op 0 (subst (λ (x : State). In (kept_commits x) c) is kept)) [ inl before ↦ before | inr brought ↦ absurd (none c brought) ]

brought_after : (held : Holdings) (op : Op) (s t : State) (commit : List ℕ) (timestamp : ℕ) (url : Option (List ℕ)) {v w : View} → t ≡ after_op s timestamp op → ((c : List ℕ) → BringsThis (effect_of op) c → commit ≡ c) → Rests s v → HasObjects (supply_at held url v) commit v w
    → used_of t (supply (used_of s (store repo (shows v))) (remote held url)) ≡ used_of t (store repo (shows w))
brought_after held op s t commit timestamp url is one rests has =
    ap (used_of t) (by_url held url s rests) ∙ sym (brought_objects s t op commit timestamp (remote held url) is one rests has)

-- its objects are those of the view
world_by : (held : Holdings) (op : Op) (s : State) (e : Effect) {v : View} (w : View) → effect_of op ≡ e → Rests s v → HasObjectsBy (supply_at held (url_by s e) v) e v w
    → used_of (after_op s (time_by (supplied_by held (world_at s v) e) e) op) (supplied_by held (world_at s v) e) ≡ used_of (after_op s (time_by (supplied_by held (world_at s v) e) e) op) (store repo (shows w))
world_by held op s (brings name origin commit) {v = v} w is rests has =
    let time = commit_time (supplied_by held (world_at s v) (brings name origin commit)) commit in
    brought_after held op s (after_op s time op) commit time (url_of s origin) refl (λ c its. subst (λ (x : Effect). BringsThis x c) is its) rests has
world_by held op s (writes write) w is rests has = plain_after held op s (after_op s 0 op) w refl (λ c its. subst (λ (x : Effect). BringsThis x c) is its) rests has

pub world_is : (held : Holdings) (op : Op) (s : State) {v : View} (w : View) → Rests s v → HasObjectsFor (have_for s op held v) op v w
    → (world_after held (world_at s v) (done_of op held (world_at s v))).have ≡ used_of (state_after s (done_of op held (world_at s v))) (store repo (shows w))
world_is held op s w rests has = world_by held op s (effect_of op) w refl rests has

-- where the objects are the same, and the state is
pub same_world : (s : State) {v : View} (w : View) → Rests s v → SameObjects v w → used_of s (store repo (shows v)) ≡ used_of s (store repo (shows w))
same_world s w rests same = sym (kept_objects s s w (λ c kept. kept) rests same)
