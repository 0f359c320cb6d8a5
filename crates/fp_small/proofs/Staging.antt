-- A new file on its way, and to its name.
use Rattle.std.proofs.Common.{◌≡◌, inl, inr, ℕ, List, [], ◌∷◌, ◌++◌, Contains, true, Option, Some, None, Result, Ok, refl, sym, ◌∙◌, ap, subst}
use Rattle.std.proofs.lemmas.Bool.{false≢true}
use Rattle.std.proofs.lemmas.List.Elements.{Contains-push, Contains-append_left}
use Rattle.fp_host.specs.Paths.{Elements, Slot, absent, file, set_at}
use Rattle.fp_host.specs.View.{View, Inode, IsTree}
use Rattle.fp_host.specs.Calls.{IsDirty, IsLeaf, Can, appends, syncs, renames, grow, grown, put, Step, Creates}
use Rattle.fp_host.specs.Outcome.{Spot, spot_of, holding, GivesOf, IsSettled}
use Rattle.fp_host.specs.declared.host.HostError.{HostError}
use Rattle.fp_host.proofs.Separate.{set_same, set_other, file_same}
use Rattle.fp_host.proofs.Follow.{called}
use Rattle.fp_host.proofs.Filed.{PutsOf}
use Rattle.fp_host.proofs.Framed.{keeps_on, keeps_call}
use Rattle.fp_host.proofs.Settled.{settled_disk}
use Rattle.fp_small.specs.Files.{MakesFile}
use Rattle.fp_small.specs.Unsynced.{MakesOneFile}
use Rattle.fp_small.specs.Stage.{IsReady, WasStaged}
use Rattle.fp_small.specs.Move.{MovesAt, MovesName, Moves, HasNew, WasMoved, CanMove}
use Rattle.fp_small.proofs.Unsynced.{one_on, step_none, create_one}

-- after the create, and after the append
pub record Written (t : Elements) (bytes : List ℕ) (old new : View) : Type 0 where
  pub id : ℕ
  pub name : new.names t ≡ file id
  pub stood : Contains new.stood (t, file id)
  pub row : new.files id ≡ Some (record { mode = 420; bytes = bytes })
  pub dirty : new.dirty id ≡ true

pub written_create : {t : Elements} {v w : View} → Creates t 420 (Ok tt) v w → Written t [] v w
written_create {t = t} {v = v} step =
    let id = step.how.0 in
    let is = step.how.1.1 in
    record {
      id = id;
      name = ap (λ (x : View). x.names t) is ∙ set_same v.names t (file id) t refl;
      stood = subst (λ (x : View). Contains x.stood (t, file id)) (sym is) (Contains-push v.stood (t, file id));
      row = ap (λ (x : View). x.files id) is ∙ file_same v.files id (Some (record { mode = 420; bytes = [] })) id refl;
      dirty = ap (λ (x : View). x.dirty id) is ∙ file_same v.dirty id true id refl;
    }

pub written_append : {t : Elements} {bytes : List ℕ} {u v w : View} → Written t [] u v → Step (appends t bytes) (Ok tt) v w → Written t bytes u w
written_append {t = t} {bytes = bytes} {v = v} {w = w} first step =
    let id = first.id in
    let is : w ≡ grow (file id) bytes v = step.how.1 ∙ ap (λ (e : Slot). grow e bytes v) first.name in
    record {
      id = id;
      name = ap (λ (x : View). x.names t) is ∙ first.name;
      stood = subst (λ (x : View). Contains x.stood (t, file id)) (sym is) first.stood;
      row = ap (λ (x : View). x.files id) is ∙ file_same v.files id (grown (v.files id) bytes) id refl ∙ ap (λ (r : Option Inode). grown r bytes) first.row;
      dirty = ap (λ (x : View). x.dirty id) is ∙ first.dirty;
    }

pub synced : {v w : View} → Step syncs (Ok tt) v w → IsSettled w
synced step = record { earlier = λ q. ap (λ (x : View). x.earlier q) step.how.1; dirty = λ i. ap (λ (x : View). x.dirty i) step.how.1 }

pub staged_sync : {t : Elements} {bytes : List ℕ} {u v w : View} → Written t bytes u v → Step syncs (Ok tt) v w → WasStaged t bytes u w
staged_sync {t = t} first step =
    let is = step.how.1 in
    record {
      ready = record {
        id = first.id;
        name = ap (λ (x : View). x.names t) is ∙ first.name;
        row = ap (λ (x : View). x.files first.id) is ∙ first.row;
        clean = ap (λ (x : View). x.dirty first.id) is;
      };
      settled = synced step;
    }

-- the same, where it is the only file that was made
pub record Begun (t : Elements) (bytes : List ℕ) (u v : View) : Type 0 where
  pub written : Written t bytes u v
  pub free : u.files written.id ≡ None
  pub one : MakesOneFile u v

pub begun_create : {t : Elements} {v w : View} → Creates t 420 (Ok tt) v w → Begun t [] v w
unfolding written_create
begun_create step = record { written = written_create step; free = step.how.1.0.1; one = create_one step }

pub begun_append : {t : Elements} {bytes : List ℕ} {u v w : View} → Begun t [] u v → Step (appends t bytes) (Ok tt) v w → Begun t bytes u w
unfolding written_append
begun_append first step = record { written = written_append first.written step; free = first.free; one = one_on first.one (step_none tt step) }

pub made_synced : {t : Elements} {bytes : List ℕ} {u v w : View} → Begun t bytes u v → Step syncs (Ok tt) v w → MakesFile t bytes u w
made_synced {t = t} {bytes = bytes} first step =
    let is = step.how.1 in
    let made = first.written in
    record {
      id = made.id;
      free = first.free;
      name = ap (λ (x : View). x.names t) is ∙ made.name;
      stood = subst (λ (x : View). Contains x.stood (t, file made.id)) (sym is) made.stood;
      row = ap (λ (x : View). x.files made.id) is ∙ made.row;
      only = λ j f n s. first.one.one j made.id f (record { mode = 420; bytes = bytes }) n (sym (ap (λ (x : View). x.files j) is) ∙ s) first.free made.row;
    }

pub can_append : {t : Elements} {u v : View} → Written t [] u v → IsDirty v (v.names t)
can_append {v = v} written = subst (IsDirty v) (sym written.name) written.dirty

rename_gives : {from to : Elements} {bytes : List ℕ} {v : View} → IsReady from bytes v → (q : Elements) (spot : Spot) → GivesOf (renames from to) v q spot → MovesAt from to bytes q spot
rename_gives ready q spot (inr h) = inr h
rename_gives ready q spot (inl h) = inl (
  h.0,
  (
    ready.id,
    h.1.2 ∙ ap (spot_of h.1.0) ready.name ∙ ap (holding ready.id) (elim (h.1.1 ready.id) [
      | inl same ↦ same ∙ ready.row
      | inr any ↦ absurd (false≢true (sym ready.clean ∙ any.0))
    ]),
  ),
)

rename_puts : {from to : Elements} {bytes : List ℕ} {v : View} → IsReady from bytes v → (q : Elements) (e : Slot) → PutsOf (renames from to) v q e → MovesName from to q e
rename_puts ready q e (inl h) = inl (h.0, (ready.id, h.1 ∙ ready.name))
rename_puts ready q e (inr h) = inr h

pub moves_rename : {from to : Elements} {r : Result (Unit {0}) HostError} {v w : View} → IsTree v → Step (renames from to) r v w → Moves from to v w
moves_rename tree step = record {
  keeps = λ bytes ready. keeps_call tree (rename_gives ready) (rename_puts ready) (λ x i h. absurd h) (λ is. refl) tt (called step);
}

pub moves_sync : {from to : Elements} {r : Result (Unit {0}) HostError} {u v w : View} → IsTree v → Moves from to u v → Step syncs r v w → Moves from to u w
moves_sync tree first step = record {
  keeps = λ bytes ready. keeps_on (first.keeps bytes ready) (keeps_call tree (λ q spot h. absurd h) (λ q e h. absurd h) (λ x i h. absurd h) tt tt (called step));
}

-- after the rename
pub record Renamed (from to : Elements) (u v : View) : Type 0 where
  pub ready : (bytes : List ℕ) → IsReady from bytes u → IsReady to bytes v
  pub name : v.names to ≡ u.names from
  pub stood : Contains v.stood (to, u.names from)
  pub left : v.names from ≡ absent

pub renamed : {from to : Elements} {v w : View} → Step (renames from to) (Ok tt) v w → Renamed from to v w
renamed {from = from} {to = to} {v = v} {w = w} step = record {
  ready = λ bytes ready. record {
    id = ready.id;
    name = moved ∙ ready.name;
    row = ap (λ (x : View). x.files ready.id) step.how.1 ∙ ready.row;
    clean = ap (λ (x : View). x.dirty ready.id) step.how.1 ∙ ready.clean;
  };
  name = moved;
  stood = subst (λ (x : View). Contains x.stood (to, v.names from)) (sym step.how.1) (Contains-append_left (v.stood ++ (to, v.names from) ∷ []) ((from, absent) ∷ []) (to, v.names from) (Contains-push v.stood (to, v.names from)));
  left = ap (λ (x : View). x.names from) step.how.1 ∙ set_same (put to (v.names from) v).names from absent from refl;
}
  where
    moved : w.names to ≡ v.names from
    moved = ap (λ (x : View). x.names to) step.how.1 ∙ set_other (set_at v.names to (v.names from)) from absent to (λ e. step.how.0.3 (sym e)) ∙ set_same v.names to (v.names from) to refl

-- a file that is ready stands there after a sync, whatever stop comes
pub has_new : {to : Elements} {bytes : List ℕ} {w : View} → IsTree w → IsSettled w → IsReady to bytes w → HasNew to bytes w
has_new {to = to} {w = w} tree settled ready = record {
  each = λ disk left. (ready.id, settled_disk w tree settled disk left to ∙ ap (spot_of w.files) ready.name ∙ ap (holding ready.id) ready.row);
}

pub was_moved : {from to : Elements} {u v w : View} → IsTree w → Renamed from to u v → Step syncs (Ok tt) v w → WasMoved from to u w
was_moved {from = from} {to = to} {u = u} tree first step =
    let is = step.how.1 in
    record {
      new = λ bytes ready. let r = first.ready bytes ready in has_new tree (synced step) (record {
        id = r.id;
        name = ap (λ (x : View). x.names to) is ∙ r.name;
        row = ap (λ (x : View). x.files r.id) is ∙ r.row;
        clean = ap (λ (x : View). x.dirty r.id) is;
      });
      name = ap (λ (x : View). x.names to) is ∙ first.name;
      stood = subst (λ (x : View). Contains x.stood (to, u.names from)) (sym is) first.stood;
      left = ap (λ (x : View). x.names from) is ∙ first.left;
      settled = synced step;
    }

pub can_rename : {from to : Elements} {v : View} → CanMove from to v → Can (renames from to) v
can_rename {v = v} can = (subst IsLeaf (sym can.ready.name) tt, can.above, can.no_dir, can.apart, λ is. can.other)
