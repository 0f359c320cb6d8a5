-- Objects that are written on their way to their names.
use Rattle.std.proofs.Common.{◌≡◌, ◌≢◌, ◌≤◌, inl, inr, ℕ, List, [], ◌∷◌, true, Option, Some, None, Result, Ok, refl, sym, ◌∙◌, ap, subst, arith}
use Rattle.std.specs.Prelude.{bit_and}
use Rattle.std.proofs.lemmas.Bool.{eqb-true, cases_eq}
use Rattle.std.proofs.lemmas.Nat.{and_le_r}
use Rattle.fp_host.specs.Paths.{Elements, Slot, absent, dir, file, link}
use Rattle.fp_host.specs.View.{View, Inode, IsTree}
use Rattle.fp_host.specs.Calls.{Can, CanCreate, HasFolder, IsDirty, appends, makes_link, grow, grown, Step, Creates}
use Rattle.fp_host.specs.Outcome.{Spot, Nothing}
use Rattle.fp_host.specs.Frame.{Keeps, Frame, AtEnd, NoPath, Only, NoName}
use Rattle.fp_host.specs.Moments.{Moments, Goes, Makes}
use Rattle.fp_host.specs.declared.host.HostError.{HostError}
use Rattle.fp_host.proofs.Separate.{set_same, file_same}
use Rattle.fp_host.proofs.Follow.{called, called_create}
use Rattle.fp_host.proofs.Framed.{IsTold, keeps_on, keeps_to, keeps_same, keeps_call}
use Rattle.fp_host.proofs.Goes.{begins, goes_on, makes_goes}
use Rattle.fp_host.proofs.Ending.{goes_known}
use Rattle.fp_small.specs.Files.{KeepsFiles}
use Rattle.fp_small.specs.Unsynced.{MakesNoFile}
use Rattle.fp_small.proofs.Keeping.{files_kept, files_on}
use Rattle.fp_small.specs.Folders.{ancestors, FoldersAt, DirsAt, AreFree, AreDirs}
use Rattle.fp_small.proofs.Replacement.{parent_in}
use Rattle.ost_model.specs.declared.object.Object.{Object}
use Rattle.ost_model.specs.declared.object.Object.TheVariants as objects
use Rattle.ost_model.specs.Contents.{is_permission}
use Rattle.ost_store.specs.Stage.{StagesAt, StagesName, Stages, meta_mode, IsOpen, WasStaged, Grows, CanStage, CanGrow}
use Rattle.ost_store.specs.Gathers.{Gathers}
use Rattle.ost_store.proofs.Placed.{off_own}

-- ---- a file that grows

pub grew : {t : Elements} {piece : List ℕ} {v w : View} → Step (appends t piece) (Ok tt) v w → Grows t piece v w
grew {t = t} {piece = piece} {v = v} {w = w} step = record {
  was = step.how.0;
  grown = λ mode bytes before.
      let id = before.id in
      let is : w ≡ grow (file id) piece v = step.how.1 ∙ ap (λ (e : Slot). grow e piece v) before.name in
      record {
        id = id;
        name = ap (λ (x : View). x.names t) is ∙ before.name;
        row = ap (λ (x : View). x.files id) is ∙ file_same v.files id (grown (v.files id) piece) id refl ∙ ap (λ (r : Option Inode). grown r piece) before.row;
        dirty = ap (λ (x : View). x.dirty id) is ∙ before.dirty;
      };
}

pub can_grow : {t : Elements} {mode : ℕ} {bytes : List ℕ} {v : View} → IsOpen t mode bytes v → CanGrow t v
can_grow {v = v} before = subst (IsDirty v) (sym before.name) before.dirty

-- the steps, whatever files may get bytes
module _ {t : Elements} {A : Elements → Type 0} {v w : View} (tree : IsTree v) where
  pub create_keeps : {mode : ℕ} {r : Result (Unit {0}) HostError} → Creates t mode r v w → Keeps (StagesAt t (objects.File mode [])) (StagesName t (objects.File mode [])) A v w
  create_keeps step = elim (called_create step) [
    | inl same ↦ keeps_same same
    | inr call ↦ keeps_call tree (λ q spot h. inl (h.0, (call.0, h.1.0, h.1.1))) (λ q e h. inl (h.0, (call.0, h.1))) (λ x i h. absurd h) tt tt call.1
  ]

  pub link_keeps : {text : List ℕ} {r : Result (Unit {0}) HostError} → Step (makes_link text t) r v w → Keeps (StagesAt t (objects.Link text)) (StagesName t (objects.Link text)) A v w
  link_keeps step = keeps_call tree (λ q spot h. inl h) (λ q e h. inl h) (λ x i h. absurd h) tt tt (called step)

-- ---- new files that have bytes

pub gathers_empty : {T : Elements → Type 0} {G : Elements → Spot → Type 0} {W : Elements → Slot → Type 0} {u w : View} → Keeps G W NoPath u w → Gathers T u w
gathers_empty keeps = record { each = λ id f new some. inl (keeps.empty (λ q no. no) id f new some) }

-- the file at t gets bytes, and none is made
module _ {t : Elements} {mode : ℕ} {had : List ℕ} {u v w : View} (there : IsOpen t mode had v) (first : Gathers (Only t) u v) (keeps : Keeps Nothing NoName (Only t) v w) (none : (id : ℕ) → v.files id ≡ None → w.files id ≡ None) where
  stays_at : w.names t ≡ v.names t
  stays_at = elim (keeps.names t) [ inl same ↦ same | inr put ↦ absurd put ]

  one_held : (id : ℕ) (q : Elements) → id ≢ there.id → q ≡ t → v.names q ≡ file id → ⊥
  one_held id q off at is =
      let same : file id ≡ file there.id = sym is ∙ ap v.names at ∙ there.name in
      off (let e : id ≡ there.id = cc same in e)

  by_row : (id : ℕ) (f : Inode) (row : Option Inode) → v.files id ≡ row → u.files id ≡ None → w.files id ≡ Some f → id ≢ there.id → f.bytes ≡ []
  by_row id f None is new some off = absurd (cc (none id is, some))
  by_row id f (Some g) is new some off =
      let same : Some g ≡ Some f = sym (keeps.files id g is (λ q at held. one_held id q off at held)) ∙ some in
      let e : g ≡ f = cc same in
      elim (first.each id g new is) [
        | inl empty ↦ ap (λ (x : Inode). x.bytes) (sym e) ∙ empty
        | inr put ↦ absurd (one_held id put.0 off put.1 put.2)
      ]

  pub gathers_piece : Gathers (Only t) u w
  gathers_piece = record {
    each = λ id f new some. elim (cases_eq id there.id) [
      | inl is ↦ inr (t, refl, stays_at ∙ there.name ∙ ap file (sym is))
      | inr off ↦ inl (by_row id f (v.files id) refl new some off)
    ];
  }

-- ---- after the folders above

module _ {t : Elements} {u v : View} (made : Keeps (FoldersAt (ancestors t)) (DirsAt (ancestors t)) NoPath u v) where
  -- what is absent now was so before
  was_free : v.names t ≡ absent → u.names t ≡ absent
  was_free none = elim (made.names t) [ inl same ↦ sym same ∙ none | inr put ↦ absurd (cc (put.1, none)) ]

  -- the folders gave bytes to no file
  folders_kept : (object : Object) → Keeps (StagesAt t object) (StagesName t object) NoPath u v
  folders_kept object = keeps_to (λ q spot h. inr h) (λ q e h. inr h) (λ q h. h) (λ q id a h. a) made

  pub created : {mode : ℕ} {w : View} → IsTree v → Creates t mode (Ok tt) v w → WasStaged t (objects.File mode []) u w
  created {mode = mode} tree step =
      let id = step.how.0 in
      let is = step.how.1.1 in
      record {
        free = was_free step.how.1.0.0.1;
        there = record {
          id = id;
          name = ap (λ (x : View). x.names t) is ∙ set_same v.names t (file id) t refl;
          row = ap (λ (x : View). x.files id) is ∙ file_same v.files id (Some (record { mode = mode; bytes = [] })) id refl;
          dirty = ap (λ (x : View). x.dirty id) is ∙ file_same v.dirty id true id refl;
        };
        gathers = gathers_empty (keeps_on (folders_kept (objects.File mode [])) (create_keeps tree step));
      }

  pub linked : {text : List ℕ} {w : View} → IsTree v → Step (makes_link text t) (Ok tt) v w → WasStaged t (objects.Link text) u w
  linked {text = text} tree step = record {
    free = was_free step.how.0.2;
    there = ap (λ (x : View). x.names t) step.how.1 ∙ set_same v.names t (link text) t refl;
    gathers = gathers_empty (keeps_on (folders_kept (objects.Link text)) (link_keeps tree step));
  }

  -- where nothing stands at the path, and the folders above are there, it may be made
  still_free : u.names t ≡ absent → v.names t ≡ absent
  still_free none = elim (made.names t) [ inl same ↦ same ∙ none | inr put ↦ absurd (off_own t put.0) ]

  above_there : IsTree u → u.names t ≡ absent → AreDirs (ancestors t) v → HasFolder v t
  above_there tree none dirs = by_path t none dirs
    where
      root_there : v.names [] ≡ dir
      root_there = elim (made.names []) [ inl same ↦ same ∙ tree.root | inr put ↦ put.1 ]

      by_path : (p : Elements) → u.names p ≡ absent → AreDirs (ancestors p) v → HasFolder v p
      by_path [] none dirs = absurd (cc (tree.root, none))
      by_path (x ∷ up) none dirs = elim (parent_in x up) [ inl root ↦ ap v.names root ∙ root_there | inr has ↦ dirs.dirs up has ]

within_bits : (mode : ℕ) → is_permission mode ≡ true → mode ≤ 4095
within_bits mode good =
    let same : bit_and mode 0x1FD ≡ mode = eqb-true (bit_and mode 0x1FD) mode good in
    let low : bit_and mode 0x1FD ≤ 0x1FD = and_le_r mode 0x1FD in
    omega arith

pub can_create : {t : Elements} {mode : ℕ} {bytes : List ℕ} {u v : View} → IsTree u → Keeps (FoldersAt (ancestors t)) (DirsAt (ancestors t)) NoPath u v → (AreFree (ancestors t) u → AreDirs (ancestors t) v) → CanStage t (objects.File mode bytes) u → CanCreate t mode v
can_create {mode = mode} tree made dirs can = (above_there made tree can.free (dirs can.folders), still_free made can.free, within_bits mode can.keepable)

pub can_link : {t : Elements} {text : List ℕ} {u v : View} → IsTree u → Keeps (FoldersAt (ancestors t)) (DirsAt (ancestors t)) NoPath u v → (AreFree (ancestors t) u → AreDirs (ancestors t) v) → CanStage t (objects.Link text) u → Can (makes_link text t) v
can_link tree made dirs can = (can.keepable, above_there made tree can.free (dirs can.folders), still_free made can.free)

-- ---- a file that is written whole

pub started : {t : Elements} {mode : ℕ} {bytes : List ℕ} {v : View} → CanStage t (objects.File mode bytes) v → CanStage t (objects.File mode []) v
started can = record { keepable = can.keepable; free = can.free; folders = can.folders }

pub written : {t : Elements} {mode : ℕ} {bytes : List ℕ} {u v w : View} → WasStaged t (objects.File mode []) u v → Grows t bytes v w → Keeps Nothing NoName (Only t) v w → MakesNoFile v w → WasStaged t (objects.File mode bytes) u w
written {mode = mode} was grows keeps none = record { free = was.free; there = grows.grown mode [] was.there; gathers = gathers_piece was.there was.gathers keeps none.none }

-- ---- what stays as it was at each moment

-- with other bytes of the file
pub stages_with : {t : Elements} {mode : ℕ} {before after : List ℕ} {u w : View} → Stages t (objects.File mode before) u w → Stages t (objects.File mode after) u w
stages_with stages = record { keeps = stages.keeps; files = stages.files }

pub stages_meta : {t : Elements} {bytes : List ℕ} {u w : View} → Stages t (objects.File meta_mode bytes) u w → Stages t (objects.Meta bytes) u w
stages_meta stages = record { keeps = stages.keeps; files = stages.files }

module _ {t : Elements} {u v : View} (made : Keeps (FoldersAt (ancestors t)) (DirsAt (ancestors t)) NoPath u v) where
  pub stages_folders : (object : Object) → Stages t object u v
  stages_folders object = record {
    keeps = keeps_to (λ q spot h. inr h) (λ q e h. inr h) (λ q h. absurd h) (λ q id a h. absurd (cc h.1)) made;
    files = files_kept made;
  }

  stages_on : {object : Object} {w : View} → Keeps (StagesAt t object) (StagesName t object) (Only t) v w → KeepsFiles v w → Stages t object u w
  stages_on {object = object} keeps files = record { keeps = keeps_on (stages_folders object).keeps keeps; files = files_on (files_kept made) files }

  pub stages_create : {mode : ℕ} {r : Result (Unit {0}) HostError} {w : View} → IsTree v → Creates t mode r v w → Stages t (objects.File mode []) u w
  stages_create tree step = stages_on (create_keeps tree step) (files_kept (create_keeps tree step))

  pub stages_link : {text : List ℕ} {r : Result (Unit {0}) HostError} {w : View} → IsTree v → Step (makes_link text t) r v w → Stages t (objects.Link text) u w
  stages_link tree step = stages_on (link_keeps tree step) (files_kept (link_keeps tree step))

-- the file that grows is a new one
pub stages_piece : {t : Elements} {mode : ℕ} {bytes : List ℕ} {u v w : View} → Stages t (objects.File mode bytes) u v → u.names t ≡ absent → Keeps Nothing NoName (Only t) v w → Stages t (objects.File mode bytes) u w
stages_piece {t = t} {u = u} {v = v} so_far free more = record {
  keeps = keeps_on so_far.keeps (keeps_to (λ q spot h. absurd h) (λ q e h. absurd h) (λ q h. h) (λ q id a h. absurd h) more);
  files = record { rows = λ id f some. more.files id f (so_far.files.rows id f some) (λ q at is. elim (so_far.keeps.held q id at is) [ inl none ↦ cc (some, none) | inr had ↦ cc (free, sym (ap u.names had.1) ∙ had.2) ]); stood = λ x had. more.stood x (so_far.files.stood x had) };
}

-- ---- over the moments

pub making : {a b : Option Moments} {t : Elements} (object : Object) → IsTold a → Frame (FoldersAt (ancestors t)) (DirsAt (ancestors t)) NoPath a b → Goes a b (Stages t object) (Keeps (FoldersAt (ancestors t)) (DirsAt (ancestors t)) NoPath)
making object told frame = begins told frame.goes (λ u w tree k. stages_folders k object) (λ u w tree k e. e)

pub creating : {a b c : Option Moments} {t : Elements} {mode : ℕ} {r : Result (Unit {0}) HostError} → IsTold a → Frame (FoldersAt (ancestors t)) (DirsAt (ancestors t)) NoPath a b → IsTold b → Makes (Creates t mode r) b c
    → Goes a c (Stages t (objects.File mode [])) (Stages t (objects.File mode []))
creating {mode = mode} told frame between call = goes_on between (making (objects.File mode []) told frame) (makes_goes call) (λ u v w tree s k step. stages_create k tree step) (λ u v w tree s k step end. stages_create k tree step)

pub linking : {a b c : Option Moments} {t : Elements} {text : List ℕ} {r : Result (Unit {0}) HostError} → IsTold a → Frame (FoldersAt (ancestors t)) (DirsAt (ancestors t)) NoPath a b → IsTold b → Makes (Step (makes_link text t) r) b c
    → Goes a c (Stages t (objects.Link text)) (Stages t (objects.Link text))
linking {text = text} told frame between call = goes_on between (making (objects.Link text) told frame) (makes_goes call) (λ u v w tree s k step. stages_link k tree step) (λ u v w tree s k step end. stages_link k tree step)

pub with_bytes : {a b : Option Moments} {t : Elements} {mode : ℕ} (bytes : List ℕ) → IsTold a → Goes a b (Stages t (objects.File mode [])) (Stages t (objects.File mode [])) → Goes a b (Stages t (objects.File mode bytes)) (Stages t (objects.File mode bytes))
with_bytes bytes told goes = begins told goes (λ u w tree s. stages_with s) (λ u w tree s e. stages_with s)

pub as_meta : {a b : Option Moments} {t : Elements} {bytes : List ℕ} → IsTold a → Goes a b (Stages t (objects.File meta_mode bytes)) (Stages t (objects.File meta_mode bytes)) → Goes a b (Stages t (objects.Meta bytes)) (Stages t (objects.Meta bytes))
as_meta told goes = begins told goes (λ u w tree s. stages_meta s) (λ u w tree s e. stages_meta s)

pub writing : {a b c : Option Moments} {t : Elements} {mode : ℕ} (bytes : List ℕ) → IsTold a → Goes a b (Stages t (objects.File mode [])) (Stages t (objects.File mode [])) → AtEnd (WasStaged t (objects.File mode [])) a b → IsTold b
    → Frame Nothing NoName (Only t) b c → Goes a c (Stages t (objects.File mode bytes)) (Stages t (objects.File mode bytes))
writing bytes told first known between frame = goes_on between (goes_known (with_bytes bytes told first) known) frame.goes (λ u v w tree s q more. stages_piece s q.1.free more) (λ u v w tree s q more end. stages_piece s q.1.free more)
