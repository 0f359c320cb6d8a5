-- Which objects operations make.
use Rattle.std.proofs.Common.{◌≡◌, inl, inr, ℕ, List, [], ◌∷◌, ◌++◌, None, map, Contains, sym, subst}
use Rattle.fp_host.specs.Paths.{Elements, Slot, file, IsAbove}
use Rattle.fp_host.specs.Remote.{Holdings}
use Rattle.fp_host.specs.View.{View}
use Rattle.fp_base.specs.declared.object.ObjKind.{ObjKind}
use Rattle.fp_small.specs.Files.{KeepsFiles}
use Rattle.fp_small.specs.Places.{repo}
use Rattle.fp_small.proofs.Keeping.{files_stay, files_on}
use Rattle.fp_small.specs.declared.state.State.{State}
use Rattle.fp_small.specs.declared.op.Op.{Op}
use Rattle.ost_model.specs.Objects.{Have}
use Rattle.ost_model.specs.Order.{In, order}
use Rattle.ost_model.specs.Stores.{objects_folder}
use Rattle.ost_store.specs.Created.{Creates, NoObject}
use Rattle.ost_store.proofs.Creating.{creates_none, creates_refl, creates_on, creates_off}
use Rattle.ost_walk.specs.Steps.{place_name}
use Rattle.dep_states.specs.After.{Done}
use Rattle.dep_states.specs.Effects.{Effect, effect_of, brings, writes}
use Rattle.op_change.specs.Brought.{supply_at}
use Rattle.op_change.specs.Applied.{have_for, url_of, url_by, IsBroughtFor, IsLackedBy}
use Rattle.fl_change.specs.World.{World, world_at, world_after, worlds_after, supplied, supplied_by}
use Rattle.fl_change.specs.Changes.{IsUntouched}
use Rattle.fl_change.specs.Created.{LacksFor, LacksBy, CreatesInTurn}
use Rattle.fl_change.specs.Performs.{Rests}
use Rattle.fl_change.proofs.Brought.{by_url}
use Rattle.fl_change.proofs.Stored.{settled_store}

-- where nothing changes but what is printed
pub none_created : {root : Elements} {u w : View} → IsUntouched u w → Creates root NoObject u w
none_created same = creates_none (λ q e. ⊥) (λ x had. inl (subst (λ (l : List (Elements × Slot)). Contains l x) same.stood had)) (λ q id below put. put)

-- the same of an answer that has no operation
pub no_ops_created : {u w : View} (held : Holdings) (x : World) (ops : List Done) → ops ≡ []
    → Creates repo NoObject u w → CreatesInTurn held x ops u w
no_ops_created {u = u} {w = w} held x ops none made =
    subst (λ (l : List Done). CreatesInTurn held x l u w) (sym none) made

-- ---- one operation

-- what the store lacks the world lacks
lacks_by : (held : Holdings) (e : Effect) (s : State) {v : View} → Rests s v → (o : List ℕ × ObjKind) → IsLackedBy (supply_at held (url_by s e) v) e v o → LacksBy (supplied_by held (world_at s v) e) (world_at s v).have e o
lacks_by held (brings name origin commit) s rests o is = record {
  digits = is.digits;
  ordered = subst (λ (h : Have). In (map place_name (order h commit)) o) (sym (by_url held (url_of s origin) s rests)) is.ordered;
  lacked = subst (λ (h : Have). h o.0 o.1 ≡ None) (sym (settled_store s rests)) is.lacked;
}
lacks_by held (writes write) s rests o is = is

pub lacks_is : (held : Holdings) (op : Op) (s : State) {v : View} → Rests s v → (o : List ℕ × ObjKind) → IsBroughtFor (have_for s op held v) op v o → LacksFor held (world_at s v) op o
lacks_is held op s rests o is = lacks_by held (effect_of op) s rests o is

-- and the other way
lacked_by : (held : Holdings) (e : Effect) (s : State) {v : View} → Rests s v → (o : List ℕ × ObjKind) → LacksBy (supplied_by held (world_at s v) e) (world_at s v).have e o → IsLackedBy (supply_at held (url_by s e) v) e v o
lacked_by held (brings name origin commit) s rests o is = record {
  digits = is.digits;
  ordered = subst (λ (h : Have). In (map place_name (order h commit)) o) (by_url held (url_of s origin) s rests) is.ordered;
  lacked = subst (λ (h : Have). h o.0 o.1 ≡ None) (settled_store s rests) is.lacked;
}
lacked_by held (writes write) s rests o is = is

pub brought_is : (held : Holdings) (op : Op) (s : State) {v : View} → Rests s v → (o : List ℕ × ObjKind) → LacksFor held (world_at s v) op o → IsBroughtFor (have_for s op held v) op v o
brought_is held op s rests o is = lacked_by held (effect_of op) s rests o is

-- what is had isn't lacked
had_by : (from own : Have) (e : Effect) (o : List ℕ × ObjKind) → (own o.0 o.1 ≡ None → ⊥) → LacksBy from own e o → ⊥
had_by from own (brings name origin commit) o had is = had is.lacked
had_by from own (writes write) o had is = is

pub had_not : (held : Holdings) (x : World) (op : Op) (o : List ℕ × ObjKind)
    → (x.have o.0 o.1 ≡ None → ⊥) → LacksFor held x op o → ⊥
had_not held x op o had is = had_by (supplied held x op) x.have (effect_of op) o had is

-- it is the only one
pub one_created : (held : Holdings) (x : World) (op : Op) (d : Done) {u w : View} → d.op ≡ op
    → KeepsFiles u w → Creates repo (LacksFor held x op) u w → CreatesInTurn held x (d ∷ []) u w
one_created held x op d {u = u} {w = w} same kept made = (
  w,
  kept,
  files_stay,
  subst (λ (p : Op). Creates repo (LacksFor held x p) u w) (sym same) made,
  creates_refl,
)

-- ---- operations in turn

-- before them none was made
pub created_off : (held : Holdings) (x : World) (ops : List Done) {u v w : View}
    → Creates repo NoObject u v → CreatesInTurn held x ops v w → KeepsFiles u v → KeepsFiles v w
    → CreatesInTurn held x ops u w
created_off held x [] none made before after = creates_off none made before after
created_off held x (d ∷ ops) none made before after = (
  made.0,
  files_on before made.1,
  made.2,
  creates_off none made.3 before made.1,
  made.4,
)

-- after them none is made
pub created_on : (held : Holdings) (x : World) (ops : List Done) {u v w : View}
    → CreatesInTurn held x ops u v → Creates repo NoObject v w → KeepsFiles u v → KeepsFiles v w
    → CreatesInTurn held x ops u w
created_on held x [] made none before after = creates_on made none before after
created_on held x (d ∷ ops) made none before after = (
  made.0,
  made.1,
  files_on made.2 after,
  made.3,
  created_on held (world_after held x d) ops made.4 none made.2 after,
)

-- more of them
created_more : (held : Holdings) (x : World) (ops more : List Done) {u v w : View}
    → CreatesInTurn held x ops u v → CreatesInTurn held (worlds_after held x ops) more v w
    → KeepsFiles u v → KeepsFiles v w → CreatesInTurn held x (ops ++ more) u w
created_more held x [] more first second before after =
    created_off held x more first second before after
created_more held x (d ∷ ops) more first second before after = (
  first.0,
  first.1,
  files_on first.2 after,
  first.3,
  created_more held (world_after held x d) ops more first.4 second first.2 after,
)

-- what two parts made, the second over the world that the first leaves
pub created_both : (held : Holdings) (x y : World) (ops more all : List Done) {u v w : View}
    → y ≡ worlds_after held x ops → all ≡ ops ++ more → CreatesInTurn held x ops u v
    → CreatesInTurn held y more v w → KeepsFiles u v → KeepsFiles v w → CreatesInTurn held x all u w
created_both held x y ops more all {u = u} {v = v} {w = w} is joined first second before after =
    let next = subst (λ (q : World). CreatesInTurn held q more v w) is second in
    subst (λ (l : List Done). CreatesInTurn held x l u w) (sym joined)
    (created_more held x ops more first next before after)

-- ---- what they didn't make

-- a file below the store's objects, where there was none
pub none_put : {u w : View} → Creates repo NoObject u w → (q : Elements) (id : ℕ)
    → IsAbove (objects_folder repo) q → (Contains u.stood (q, file id) → ⊥)
    → Contains w.stood (q, file id) → ⊥
none_put made q id below none put = elim (made.only q id below put) [
  | inl had ↦ none had
  | inr new ↦ new.1.1
]
