-- The objects of a commit come into a store: staged, placed, and nothing is left of the work.
use Rattle.std.proofs.Common.{◌≡◌, ◌≤◌, ◌⊎◌, inl, inr, ℕ, List, [], length, true, Option, Some, None, refl, sym, ◌∙◌, ap, subst, Contains, arith}
use Rattle.std.specs.List.{AllByRecursion}
use Rattle.fp_host.specs.Paths.{Elements, Slot, absent, file}
use Rattle.fp_host.specs.View.{View, Inode, IsTree}
use Rattle.fp_host.specs.Outcome.{gone, shows, spot_of}
use Rattle.fp_host.specs.Frame.{Keeps, AtEnd, Unchanged}
use Rattle.fp_host.specs.Moments.{Moments, Always}
use Rattle.fp_host.proofs.Framed.{IsTold, keeps_on, keeps_to, keeps_same}
use Rattle.fp_host.proofs.Settled.{at_tree}
use Rattle.fp_host.proofs.Goes.{begins, goes_on}
use Rattle.fp_host.proofs.Ending.{ends_on, ends_both, ends_goes, ends_looks, ends_to, goes_known, from_tree, to_tree}
use Rattle.fp_host.proofs.Above.{above_longer}
use Rattle.fp_small.specs.Clear.{IsWithin}
use Rattle.fp_small.specs.Files.{KeepsFiles}
use Rattle.fp_small.specs.Replace.{IsStaging}
use Rattle.fp_small.proofs.Keeping.{files_on, files_same, files_kept}
use Rattle.fp_small.proofs.Emptying.{cleared_absent}
use Rattle.fp_small.proofs.Making.{free_at}
use Rattle.fp_name.specs.Hex.{is_digest}
use Rattle.fp_base.specs.declared.object.ObjKind.{ObjKind}
use Rattle.ost_model.specs.declared.object.Object.{Object}
use Rattle.ost_model.specs.Objects.{Have, object_path, object_at, store}
use Rattle.ost_model.specs.Order.{In}
use Rattle.ost_model.proofs.Spots.{none_gone}
use Rattle.ost_store.proofs.Staying.{shown_stays}
use Rattle.ost_store.proofs.Holding.{held_object}
use Rattle.ost_store.proofs.ObjectPaths.{below_work}
use Rattle.ost_commit.specs.declared.built.BuiltObject.{BuiltObject}
use Rattle.ost_commit.specs.Objects.{have_of}
use Rattle.ost_store.specs.ObjectNames.{IsObjectName, IsAboveObject}
use Rattle.ost_export.specs.Staging.{Named, IsApart, AreStaged, HasStaged, IsCovered, StagesSome, Works, CanStageAll}
use Rattle.ost_export.specs.Placing.{Puts, PutsStaged, WasStored, CanStore}
use Rattle.ost_export.specs.Storing.{IsNoWork, IsWork, StoresAt, StoresName, StoresObjects, HasStored, CanStoreAll}
use Rattle.ost_export.proofs.Listed.{covered_at}
use Rattle.ost_export.proofs.Paths.{apart_of, above_work, off_object, off_above, one_work, none_below}
use Rattle.ost_export.proofs.Works.{works_stays}

-- ---- one part of it, as the view u at the entry sees it

pub record StoresStep (have : Have) (root : Elements) (u v w : View) : Type 0 where
  pub keeps : Keeps (StoresAt have root u) (StoresName have root u) (IsWork u) v w
  pub files : KeepsFiles v w

pub stores_on : {have : Have} {root : Elements} {u v w : View} → StoresObjects have root u v → StoresStep have root u v w → StoresObjects have root u w
stores_on first second = record { keeps = keeps_on first.keeps second.keeps; files = files_on first.files second.files }

pub stores_first : {have : Have} {root : Elements} {u w : View} → StoresStep have root u u w → StoresObjects have root u w
stores_first step = record { keeps = step.keeps; files = step.files }

step_same : {have : Have} {root : Elements} {u v w : View} → w ≡ v → StoresStep have root u v w
step_same same = record { keeps = keeps_same same; files = files_same same }

work_in : {t : Elements} {u : View} → IsStaging u t → (q : Elements) → IsWithin t q → IsWork u q
work_in {t = t} staging q within = record { place = t; staging = staging; within = within }

-- objects in the place of the work are so deep
name_depth : (root t q : Elements) → IsApart root t → IsObjectName t q → length q ≤ 6
name_depth root t q apart name = omega (arith, ap length name.at, ap length apart.is)

above_depth : (root t q : Elements) → IsApart root t → IsAboveObject t q → length q ≤ 6
above_depth root t q apart above = omega (arith, above_longer q (object_path t above.digest above.kind) above.above, ap length apart.is)

module _ {have : Have} {root t : Elements} {u : View} (apart : IsApart root t) (staging : IsStaging u t) where
  pub step_works : {v w : View} → Works t v w → StoresStep have root u v w
  step_works works = record {
    keeps = keeps_to
        (λ q spot h. elim h [
          | inl name ↦ inl (work_in staging q (below_work t name.digest name.kind q name.at), inr (name_depth root t q apart name))
          | inr made ↦ elim (above_work apart q made.0.digest made.0.kind made.0.digits made.0.above) [
            | inl within ↦ inl (work_in staging q within, inr (above_depth root t q apart made.0))
            | inr up ↦ inr (inr (up, made.1))
          ]
        ])
        (λ q e h. elim h [
          | inl name ↦ inl (work_in staging q (below_work t name.digest name.kind q name.at))
          | inr made ↦ elim (above_work apart q made.0.digest made.0.kind made.0.digits made.0.above) [ inl within ↦ inl (work_in staging q within) | inr up ↦ inr (inr (up, made.1)) ]
        ])
        (λ q within. work_in staging q within)
        (λ q id work h. one_work staging work)
        works.keeps;
    files = works.files;
  }

  pub step_puts : (staged : List Named) {v w : View} → ((o : Named) → In staged o → u.names (object_path root o.0 o.1) ≡ absent) → ((o : Named) → In staged o → ((object : Object) × (have o.0 o.1 ≡ Some object))) → Puts have root t staged v w → StoresStep have root u v w
  step_puts staged new are puts = record {
    keeps = keeps_to
        (λ q spot h. elim h [
          | inl away ↦ inl (work_in staging q away.0, inl away.1)
          | inr other ↦ elim other [
            | inl put ↦ inr (inl (record { digest = put.name.0; kind = put.name.1; object = put.object; digits = put.digits; is = put.is; at = put.at; there = put.there; free = ap u.names put.at ∙ new put.name put.among }))
            | inr made ↦ inr (inr (inl made.0, made.1))
          ]
        ])
        (λ q e h. elim h [
          | inl away ↦ inl (work_in staging q away.0)
          | inr other ↦ elim other [
            | inl put ↦ inr (inl (record {
              digest = put.name.0;
              kind = put.name.1;
              digits = put.digits;
              is = λ none. let o = are put.name put.among in absurd (cc (sym none ∙ o.1));
              at = put.at;
              free = ap u.names put.at ∙ new put.name put.among;
            }))
            | inr made ↦ inr (inr (inl made.0, made.1))
          ]
        ])
        (λ q none. absurd none)
        (λ q id work h. elim h [
          | inl away ↦ absurd (cc away.1)
          | inr other ↦ elim other [
            | inl put ↦ absurd (off_object apart put.name.0 put.name.1 (subst (IsWithin t) put.at (one_work staging work)))
            | inr made ↦ absurd (cc made.1)
          ]
        ])
        puts.keeps;
    files = files_kept puts.keeps;
  }

-- ---- what is known on the way

-- the place of the work
pub record Begun (t : Elements) (u v : View) : Type 0 where
  pub same : v ≡ u
  pub staging : IsStaging u t

-- after all are staged
pub record Filled (have : Have) (root t : Elements) (objects : List BuiltObject) (staged : List Named) (u w : View) : Type 0 where
  pub begun : IsStaging u t
  pub tree : IsTree u
  pub works : Works t u w
  pub has : HasStaged have root t staged u w
  pub covers : AllByRecursion (IsCovered root staged u) objects

filled : {root t : Elements} (objects : List BuiltObject) (staged : List Named) {u v w : View} → IsTree u → Begun t u v → Works t v w → StagesSome (have_of objects) root t objects staged v w → Filled (have_of objects) root t objects staged u w
filled {root = root} {t = t} objects staged {u = u} {v = v} {w = w} tree b works some =
    let at_entry = subst (λ (x : View). StagesSome (have_of objects) root t objects staged x w) b.same some in
    let both = at_entry (cleared_absent tree b.staging.free) in
    record { begun = b.staging; tree = tree; works = subst (λ (x : View). Works t x w) b.same works; has = both.0; covers = both.1 }

-- ---- what is there in the end

absent_none : (root : Elements) (d : List ℕ) (kind : ObjKind) (v : View) → IsTree v → v.names (object_path root d kind) ≡ absent → store root (shows v) d kind ≡ None
absent_none root d kind v tree none = ap (object_at kind) (ap (spot_of v.files) (at_tree v tree (object_path root d kind) ∙ none)) ∙ none_gone kind

module _ {root t : Elements} (apart : IsApart root t) (objects : List BuiltObject) (staged : List Named) {u w x : View} (f : Filled (have_of objects) root t objects staged u w) (tree_w : IsTree w) (tree_x : IsTree x) (puts : Puts (have_of objects) root t staged w x) (was : WasStored root t staged w x) where
  shown_before : (d : List ℕ) (kind : ObjKind) → shows w (object_path root d kind) ≡ shows u (object_path root d kind)
  shown_before d kind = shown_stays (object_path root d kind) u w (works_stays apart f.works d kind) f.tree tree_w

  from_work : (d : List ℕ) (kind : ObjKind) (object : Object) → have_of objects d kind ≡ Some object → In staged (d, kind) → store root (shows x) d kind ≡ Some object
  from_work d kind object is has =
      let k = f.has.are.each (d, kind) has in
      ap (object_at kind) (was.places.came (d, kind) has).shown ∙ held_object d kind (object_path t d kind) k.object w tree_w k.held k.named ∙ sym k.is ∙ is

  from_store : (d : List ℕ) (kind : ObjKind) (object : Object) → is_digest d ≡ true → store root (shows u) d kind ≡ Some object → store root (shows x) d kind ≡ Some object
  from_store d kind object digits there =
      let p = object_path root d kind in
      let not_new : In staged (d, kind) → ⊥ = λ has. cc (sym (absent_none root d kind u f.tree (f.has.new (d, kind) has)) ∙ there) in
      ap (object_at kind) (shown_stays p w x (was.places.others d kind digits not_new) tree_w tree_x ∙ shown_before d kind) ∙ there

  -- what stood at an object's name in the work folder came to its name
  came_there : (q : Elements) (id : ℕ) → IsObjectName t q → w.names q ≡ file id → (p : Elements) × IsObjectName root p × Contains x.stood (p, file id)
  came_there q id name at =
      let held : w.names (object_path t name.digest name.kind) ≡ file id = ap w.names (sym name.at) ∙ at in
      elim (f.has.are.only name.digest name.kind name.digits) [
        | inl none ↦ absurd (cc (sym none ∙ held))
        | inr has ↦ (
          object_path root name.digest name.kind,
          record { digest = name.digest; kind = name.kind; digits = name.digits; at = refl },
          subst (λ (e : Slot). Contains x.stood (object_path root name.digest name.kind, e)) held (was.places.came (name.digest, name.kind) has).stood,
        )
      ]

  shared : (id : ℕ) (g : Inode) (row : Option Inode) → w.files id ≡ row → u.files id ≡ None → x.files id ≡ Some g → (g.bytes ≡ []) ⊎ ((p : Elements) × IsObjectName root p × Contains x.stood (p, file id))
  shared id g None is new some = inl (puts.keeps.empty (λ q none. none) id g is some)
  shared id g (Some h) is new some =
      let same : Some h ≡ Some g = sym (puts.keeps.files id h is (λ q none at. none)) ∙ some in
      let e : h ≡ g = cc same in
      elim (f.has.gathers.each id h new is) [
        | inl empty ↦ inl (ap (λ (y : Inode). y.bytes) (sym e) ∙ empty)
        | inr put ↦ inr (came_there put.0 id put.1 put.2)
      ]

  pub has_stored : HasStored (have_of objects) root u x
  has_stored = record {
    stored = λ d kind object is fit.
        let c = covered_at root staged u objects d kind object f.covers is in
        elim fit [ inl none ↦ from_work d kind object is (c.1 none) | inr there ↦ from_store d kind object c.0 there ];
    digits = λ d kind object is. (covered_at root staged u objects d kind object f.covers is).0;
    settled = was.settled;
    place = t;
    staging = f.begun;
    gone = was.cleared.gone t (inl refl);
    shares = record { each = λ id g new some. shared id g (w.files id) refl new some };
  }

-- ---- over the moments

pub stores_looks : {have : Have} {root : Elements} {a b : Option Moments} → IsTold a → Unchanged a b → Always (StoresObjects have root) a b
stores_looks told still = begins told still.goes (λ u w tree s. stores_first (step_same s)) (λ u w tree s e. stores_first (step_same s))

pub begun_at : {t : Elements} {a b : Option Moments} → IsTold a → Unchanged a b → AtEnd (λ u w. IsStaging u t) a b → AtEnd (Begun t) a b
begun_at told still place = ends_to (ends_both (ends_looks told still) place) (λ u w q. record { same = q.0.0; staging = q.1 })

module _ {have : Have} {root t : Elements} (outer : IsNoWork root) where
  pub stores_works : {a b c : Option Moments} → IsTold b → Always (StoresObjects have root) a b → AtEnd (Begun t) a b → Always (Works t) b c → Always (StoresObjects have root) a c
  stores_works told so_far known works = goes_on told (goes_known so_far known) works (λ u v w tree r q s. stores_on r (step_works (apart_of outer q.1.staging) q.1.staging s)) (λ u v w tree r q s e. stores_on r (step_works (apart_of outer q.1.staging) q.1.staging s))

pub filled_at : {root t : Elements} (objects : List BuiltObject) (staged : List Named) {a b c : Option Moments} → IsTold a → IsTold b → AtEnd (Begun t) a b → Always (Works t) b c → AtEnd (StagesSome (have_of objects) root t objects staged) b c
    → AtEnd (Filled (have_of objects) root t objects staged) a c
filled_at objects staged told told' known works some =
    ends_on (ends_both (ends_goes told' works) some) (from_tree told known) told' (λ u v w tree q s. filled objects staged q.0 q.1 s.0 s.1)

module _ {root t : Elements} (outer : IsNoWork root) (objects : List BuiltObject) (staged : List Named) where
  pub stores_puts : {a b c : Option Moments} → IsTold b → Always (StoresObjects (have_of objects) root) a b → AtEnd (Filled (have_of objects) root t objects staged) a b → Always (PutsStaged (have_of objects) root t staged) b c → Always (StoresObjects (have_of objects) root) a c
  stores_puts told so_far known puts = goes_on told (goes_known so_far known) puts (λ u v w tree r q s. stores_on r (step q.1 s)) (λ u v w tree r q s e. stores_on r (step q.1 s))
    where
      step : {u v w : View} → Filled (have_of objects) root t objects staged u v → PutsStaged (have_of objects) root t staged v w → StoresStep (have_of objects) root u v w
      step f puts = step_puts (apart_of outer f.begun) f.begun staged f.has.new (λ o has. let k = f.has.are.each o has in (k.object, k.is)) (puts f.has.are)

  pub stored_at : {a b c : Option Moments} → IsTold b → IsTold c → AtEnd (Filled (have_of objects) root t objects staged) a b → Always (PutsStaged (have_of objects) root t staged) b c → AtEnd (λ v w. AreStaged (have_of objects) t staged v → WasStored root t staged v w) b c
      → AtEnd (HasStored (have_of objects) root) a c
  stored_at told told' known puts was = ends_on (to_tree told' (ends_both (ends_goes told puts) was)) known told (λ u v w tree q s. has_stored (apart_of outer q.begun) objects staged q tree s.0 (s.1.0 q.has.are) (s.1.1 q.has.are))

  -- ---- where it may be done

  pub can_stage_all : {u v : View} → IsTree v → Begun t u v → CanStoreAll root objects u → CanStageAll t objects v
  can_stage_all {u = u} {v = v} tree b can = record {
    keepable = can.keepable;
    open_above = record {
      free = λ q above. elim (above_work (apart_of outer b.staging) q above.digest above.kind above.digits above.above) [
        | inl within ↦ inl (none_below v tree t q (ap (λ (x : View). x.names t) b.same ∙ b.staging.free) within)
        | inr up ↦ free_at u v q (ap (λ (x : View). x.names q) b.same) (can.folders q up)
      ];
    };
  }

  pub can_store : {u v : View} → Filled (have_of objects) root t objects staged u v → CanStoreAll root objects u → CanStore (have_of objects) root t staged v
  can_store {u = u} {v = v} f can =
      let apart = apart_of outer f.begun in
      let low : length t ≡ 3 = ap length apart.is in
      record {
        staged = f.has.are;
        lacking = record { free = λ o has. (works_stays apart f.works o.0 o.1).name ∙ f.has.new o has };
        clears = record {
          no_root = λ is. absurd (omega (arith, low, ap length is));
          below = record {
            short = λ q below. elim (f.works.keeps.names q) [
              | inl same ↦ inl (same ∙ none_below u f.tree t q f.begun.free (inr below))
              | inr put ↦ elim put [
                | inl name ↦ inr (omega (arith, low, ap length name.at))
                | inr made ↦ inr (omega (arith, low, above_longer q (object_path t made.0.digest made.0.kind) made.0.above))
              ]
            ];
          };
        };
        store_open = record {
          free = λ q above. elim (f.works.keeps.names q) [
            | inl same ↦ free_at u v q same (can.folders q (inl above))
            | inr put ↦ elim put [
              | inl name ↦ absurd (off_above apart q above (below_work t name.digest name.kind q name.at))
              | inr made ↦ inr made.1
            ]
          ];
        };
      }
