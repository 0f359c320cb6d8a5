-- A commit that is pulled.
use Rattle.std.proofs.Common.{◌≡◌, ◌≢◌, inl, inr, ℕ, List, [], ◌∷◌, get_or, map, true, Option, Some, None, Err, refl, sym, ◌∙◌, ap, subst, Contains}
use Rattle.std.specs.Option.{option_or}
use Rattle.std.specs.Prelude.{IsErrOf, option_map}
use Rattle.fp_host.specs.Paths.{Elements, Slot, absent, dir, file, link}
use Rattle.fp_host.specs.View.{View, Inode, IsTree}
use Rattle.fp_host.specs.Calls.{syncs, done, IsLeaf}
use Rattle.fp_host.specs.Moments.{Moments, Always}
use Rattle.fp_host.specs.Outcome.{Disk, Leaves, shows, spot_of, holds}
use Rattle.fp_host.specs.Remote.{Holdings}
use Rattle.fp_host.specs.Frame.{Frame, AtEnd, NoPath}
use Rattle.fp_host.specs.declared.host.HostEnd.{HostEnd}
use Rattle.fp_host.specs.declared.host.HostEnd.TheVariants as host_ends
use Rattle.fp_host.proofs.Framed.{IsTold}
use Rattle.fp_host.proofs.Kept.{tree_sync}
use Rattle.fp_host.proofs.Goes.{begins, goes_on, knowing}
use Rattle.fp_host.proofs.Settled.{at_tree, settled_disk}
use Rattle.fp_host.proofs.Ending.{ends_on, ends_both, ends_goes, ends_frame, goes_known, from_tree, to_tree}
use Rattle.fp_host.proofs.Shown.{held_file}
use Rattle.fp_small.specs.Clear.{GoneWithin, AbsentWithin, IsCleared, CanClear}
use Rattle.fp_small.specs.declared.refusal.Refusal.{Refusal}
use Rattle.fp_name.specs.Hex.{is_digest}
use Rattle.fp_base.specs.declared.object.ObjKind.{ObjKind}
use Rattle.fp_base.specs.declared.object.ObjKind.TheVariants as kinds
use Rattle.ost_model.specs.declared.object.Object.{Object}
use Rattle.ost_model.specs.declared.object.Object.TheVariants as objects
use Rattle.ost_model.specs.Objects.{Have, Fault, object_path, object_at, store, supply, name_fault, Named as NamedAs}
use Rattle.ost_model.specs.Order.{Place, In, order, first_fault}
use Rattle.ost_model.specs.Stores.{objects_folder}
use Rattle.ost_model.specs.Remotes.{Supplies, remote, remote_at}
use Rattle.ost_store.specs.Created.{HasBits, MadeFile, WasMade, WasPutSince, Creates}
use Rattle.ost_store.specs.Stage.{IsFileOf, IsHeld}
use Rattle.ost_store.proofs.Creating.{object_below}
use Rattle.ost_store.proofs.Staying.{shown_stays}
use Rattle.ost_store.proofs.Ready.{staged_ready}
use Rattle.ost_store.proofs.Holding.{held_object}
use Rattle.ost_store.proofs.ObjectPaths.{object_within, below_work}
use Rattle.ost_walk.specs.declared.ends.WalkFault.{WalkFault}
use Rattle.ost_walk.specs.declared.ends.WalkEnd.{WalkEnd}
use Rattle.ost_walk.specs.declared.ends.WalkEnd.TheVariants as walks
use Rattle.ost_walk.specs.Ends.{fault_of}
use Rattle.ost_walk.specs.Ends.{RefusesBy as WalkRefuses}
use Rattle.ost_walk.specs.Steps.{place_name}
use Rattle.ost_walk.specs.Surveys.{named_fault, first_named, told_fault}
use Rattle.ost_walk.specs.PullEnds.{RefusesBy, of_host, of_walk}
use Rattle.ost_walk.specs.Refusals.{refusal_of}
use Rattle.ost_walk.specs.declared.pull_end.PullEnd.TheVariants as pull_ends
use Rattle.ost_pull.specs.Pulls.{IsApart, IsLacked, PullsSoundly, WasPulled, WasRefused, CanPull, first_refusal}
use Rattle.ost_pull.specs.Placing.{PullsKept, WasStored, CanStore}
use Rattle.ost_pull.specs.Takes.{IsCovered, AreTaken, CoversOrder}
use Rattle.ost_pull.specs.Work.{GathersAnew, Works}
use Rattle.ost_pull.proofs.Apart.{works_stays, works_off, works_object}
use Rattle.ost_pull.proofs.Gathered.{shares_pulled}
use Rattle.ost_pull.proofs.Kept.{Named, cleared_works, works_on, above_work}
use Rattle.ost_pull.proofs.Pulled.{pulls_on, pulls_work, pulls_store, pulls_open, pulls_clears}

-- ---- what is stored in the end

own_first : {A : Type 0} (own other : Option A) → own ≢ None → option_or own other ≡ own
own_first None other some = absurd (some refl)
own_first (Some a) other some = refl

in_named : (ps : List Place) (p : Place) → In ps p → In (map place_name ps) (place_name p)
in_named [] p has = absurd has
in_named (q ∷ ps) p (inl is) = inl (ap place_name is)
in_named (q ∷ ps) p (inr has) = inr (in_named ps p has)

-- the object's path in another folder
abbrev moved : Elements → Elements → Elements
moved t q = get_or q 0 [] ∷ (get_or q 1 [] ∷ objects_folder t)

-- the file of a metadata object that is held has the permission bits 0644
meta_bits : (path : Elements) (bytes : List ℕ) (v : View) (id : ℕ) (f : Inode) → IsFileOf path 420 bytes v → v.names path ≡ file id → v.files id ≡ Some f → f.mode ≡ 420
meta_bits path bytes v id f held is some =
    let here : id ≡ held.id = cc (sym is ∙ held.name) in
    let row : Some f ≡ Some (record { mode = 420; bytes = bytes }) = sym some ∙ ap v.files here ∙ held.row in
    let same : f ≡ record { mode = 420; bytes = bytes } = cc row in
    ap (λ (x : Inode). x.mode) same

held_bits : (d : List ℕ) (kind : ObjKind) (path : Elements) (object : Object) (v : View) (id : ℕ) (f : Inode) → IsHeld path object v → name_fault d kind (Some object) ≡ None → v.names path ≡ file id → v.files id ≡ Some f → HasBits kind f.mode
held_bits d kinds.File path object v id f held none is some = tt
held_bits d kinds.Commit path (objects.Meta bytes) v id f held none is some = meta_bits path bytes v id f held is some
held_bits d kinds.Commit path (objects.File mode bytes) v id f held none is some = absurd (cc none)
held_bits d kinds.Commit path (objects.Link text) v id f held none is some = absurd (cc (sym is ∙ held))
held_bits d kinds.DirTree path (objects.Meta bytes) v id f held none is some = meta_bits path bytes v id f held is some
held_bits d kinds.DirTree path (objects.File mode bytes) v id f held none is some = absurd (cc none)
held_bits d kinds.DirTree path (objects.Link text) v id f held none is some = absurd (cc (sym is ∙ held))
held_bits d kinds.DirMeta path (objects.Meta bytes) v id f held none is some = meta_bits path bytes v id f held is some
held_bits d kinds.DirMeta path (objects.File mode bytes) v id f held none is some = absurd (cc none)
held_bits d kinds.DirMeta path (objects.Link text) v id f held none is some = absurd (cc (sym is ∙ held))

module _ {root t : Elements} (apart : IsApart root t) {url : List ℕ} {holds : Option Holdings} {have : Have} {commit : List ℕ} (kept : List Named) {u v w : View} (tree_u : IsTree u) (tree_v : IsTree v) (tree_w : IsTree w)
    (held : Holdings) (holdings_are : holds ≡ Some held) (have_is : have ≡ supply (store root (shows u)) (remote held (Some url)))
    (works : Works t u v) (taken : AreTaken root t url holds kept v) (gathers : GathersAnew t u v) (covers : CoversOrder root have commit kept v) (was : WasStored root t kept v w) where
  -- the store's own object
  from_store : (o : Named) → is_digest o.0 ≡ true → store root (shows v) o.0 o.1 ≢ None → store root (shows w) o.0 o.1 ≡ have o.0 o.1
  from_store o digits there =
      let not_kept : In kept o → ⊥ = λ has. there (taken.new o has) in
      let same = works_object root t apart works o.0 o.1 tree_u tree_v in
      ap (object_at o.1) (shown_stays (object_path root o.0 o.1) v w (was.places.others o.0 o.1 digits not_kept) tree_v tree_w)
      ∙ same ∙ sym (own_first (store root (shows u) o.0 o.1) (remote_at held url o.0 o.1) (λ none. there (same ∙ none))) ∙ sym (ap (λ (h : Have). h o.0 o.1) have_is)

  -- one that was kept
  from_remote : (o : Named) → In kept o → store root (shows w) o.0 o.1 ≡ have o.0 o.1
  from_remote o has =
      let k = taken.are.each o has in
      ap (object_at o.1) (was.places.came o has) ∙ held_object o.0 o.1 (object_path t o.0 o.1) k.object v tree_v k.held k.named ∙ sym (k.there.is held holdings_are)
      ∙ sym (ap (λ own. option_or own (remote_at held url o.0 o.1)) (sym (works_object root t apart works o.0 o.1 tree_u tree_v) ∙ taken.new o has)) ∙ sym (ap (λ (h : Have). h o.0 o.1) have_is)

  stored : (o : Named) → IsCovered root kept v o → store root (shows w) o.0 o.1 ≡ have o.0 o.1
  stored o c = elim c.there [ inl there ↦ from_store o c.digits there | inr has ↦ from_remote o has ]

  left : (disk : Disk) → Leaves w disk → (q : Elements) → disk q ≡ shows w q
  left disk l q = settled_disk w tree_w was.settled disk l q ∙ ap (spot_of w.files) (sym (at_tree w tree_w q))

  -- an object that was kept was made
  made_file : (o : Named) → In kept o → (id : ℕ) (row : Option Inode) → v.names (object_path t o.0 o.1) ≡ file id → v.files id ≡ row → NamedAs o.0 o.1 (shows v (object_path t o.0 o.1)) → WasMade root o u w
  made_file o has id None is none named = absurd (tree_v.known (object_path t o.0 o.1) id (inl (sym is)) none)
  made_file o has id (Some f) is some named = inl (record {
    id = id;
    mode = f.mode;
    bytes = f.bytes;
    new = gathers.new (object_path t o.0 o.1) id (below_work t o.0 o.1 (object_path t o.0 o.1) refl) is;
    put = subst (λ (e : Slot). Contains w.stood (object_path root o.0 o.1, e)) is (was.places.put o has);
    row = was.places.files.rows id f some;
    named = subst (NamedAs o.0 o.1) (held_file v (object_path t o.0 o.1) id f.mode f.bytes tree_v is some) named;
    bits = let k = taken.are.each o has in held_bits o.0 o.1 (object_path t o.0 o.1) k.object v id f k.held k.named is some;
  })

  made_slot : (o : Named) → In kept o → (e : Slot) → v.names (object_path t o.0 o.1) ≡ e → IsLeaf e → NamedAs o.0 o.1 (shows v (object_path t o.0 o.1)) → WasMade root o u w
  made_slot o has absent is leaf named = absurd leaf
  made_slot o has dir is leaf named = absurd leaf
  made_slot o has (file id) is leaf named = made_file o has id (v.files id) is refl named
  made_slot o has (link text) is leaf named = inr (text, subst (λ (e : Slot). Contains w.stood (object_path root o.0 o.1, e)) is (was.places.put o has))

  made : (o : Named) → In kept o → WasMade root o u w
  made o has =
      let k = taken.are.each o has in
      let ready = staged_ready (object_path t o.0 o.1) k.object o.0 o.1 v (done syncs v) k.held refl (tree_sync v tree_v) k.named in
      made_slot o has (v.names (object_path t o.0 o.1)) refl ready.leaf ready.named

  lacked : (o : Named) → is_digest o.0 ≡ true → In kept o → IsLacked root have commit u o
  lacked o digits has = record { digits = digits; ordered = covers.only o has; lacked = sym (works_object root t apart works o.0 o.1 tree_u tree_v) ∙ taken.new o has }

  all_made : (o : Named) → IsLacked root have commit u o → WasMade root o u w
  all_made o is = elim (covers.covered o is.ordered).there [
    | inl there ↦ absurd (there (works_object root t apart works o.0 o.1 tree_u tree_v ∙ is.lacked))
    | inr has ↦ made o has
  ]

  -- a file that was put at an object's name stood at its path in the work folder
  came_from : (o : Named) (id : ℕ) → WasPutSince (object_path root o.0 o.1) id u w
      → v.names (object_path t o.0 o.1) ≡ file id
  came_from o id new =
      let q = object_path root o.0 o.1 in
      elim (was.places.only q id (object_below root o) new.put) [
        | inl before ↦ elim (works.keeps.puts (q, file id) before) [
          | inl old ↦ absurd (new.since old)
          | inr put ↦ absurd (works_off root t apart q (file id) (object_within root o.0 o.1) put)
        ]
        | inr put ↦ ap v.names (ap (moved t) put.2) ∙ put.3
      ]

  one_came : (o : Named) (i j : ℕ) → WasPutSince (object_path root o.0 o.1) i u w
      → WasPutSince (object_path root o.0 o.1) j u w → i ≡ j
  one_came o i j a b =
      let same : file i ≡ file j = sym (came_from o i a) ∙ came_from o j b in cc same

  creates_lacked : Creates root (IsLacked root have commit u) u w
  creates_lacked = record {
    each = all_made;
    one = λ o is. one_came o;
    only = λ q id below had. elim (was.places.only q id below had) [
      | inl before ↦ elim (works.keeps.puts (q, file id) before) [ inl old ↦ inl old | inr put ↦ absurd (works_off root t apart q (file id) (inr below) put) ]
      | inr put ↦ inr (
        gathers.new (object_path t put.0.0 put.0.1) id (below_work t put.0.0 put.0.1 (object_path t put.0.0 put.0.1) refl) put.3,
        (put.0, lacked put.0 (taken.are.each put.0 put.1).digits put.1, put.2),
      )
    ];
  }

  pub was_pulled : first_fault have commit ≡ None → WasPulled root t have commit u w
  was_pulled clean = record {
    pulled = record {
      clean = clean;
      stored = λ disk l p has. ap (object_at p.kind) (left disk l (object_path root p.digest p.kind)) ∙ stored (place_name p) (covers.covered (place_name p) (in_named (order have commit) p has));
    };
    stood = λ d kind digits there.
        let same = works_object root t apart works d kind tree_u tree_v in
        let not_kept : In kept (d, kind) → ⊥ = λ has. there (sym same ∙ taken.new (d, kind) has) in
        ap (object_at kind) (shown_stays (object_path root d kind) v w (was.places.others d kind digits not_kept) tree_v tree_w) ∙ same;
    others = λ d kind digits none.
        let after = was.places.others d kind digits (λ has. none (covers.only (d, kind) has)) in
        after.name ∙ (works_stays root t apart works (object_path root d kind) (object_within root d kind)).name;
    gone = was.cleared.gone;
    settled = was.settled;
    shares = shares_pulled gathers.gathers taken was.places (λ o digits has. record {
      digest = o.0;
      kind = o.1;
      digits = digits;
      at = refl;
      ordered = covers.only o has;
      lacked = sym (works_object root t apart works o.0 o.1 tree_u tree_v) ∙ taken.new o has;
    });
    creates = creates_lacked;
  }

-- the first view gives the objects
from_supply : {root : Elements} {url : List ℕ} {holds : Option Holdings} {have : Have} {a b : Option Moments} {Q : View → View → Type 0} (s : Supplies root (Some url) a holds have) → AtEnd Q a b
    → AtEnd (λ u w. (have ≡ supply (store root (shows u)) (remote s.held (Some url))) × Q u w) a b
from_supply {root = root} {url = url} {have = have} s first = record {
  goes = knowing {P = λ u. have ≡ supply (store root (shows u)) (remote s.held (Some url))}
      (λ m e. let same : s.moments ≡ m = cc (s.told_is, e) in s.is ∙ ap (λ (n : Moments). supply (store root (shows n.now)) (remote s.held (Some url))) same)
      first.goes (λ u w p r. tt) (λ u w p q. (p, q));
}

pub pulled_at : {root t : Elements} (apart : IsApart root t) {url : List ℕ} {holds : Option Holdings} {have : Have} {commit : List ℕ} (kept : List Named) {a b c : Option Moments} → IsTold a → IsTold b → IsTold c → Supplies root (Some url) a holds have
    → Always (Works t) a b → AtEnd (λ u w. AreTaken root t url holds kept w) a b → AtEnd (GathersAnew t) a b → AtEnd (λ u w. CoversOrder root have commit kept w) a b → first_fault have commit ≡ None
    → AtEnd (λ u w. AreTaken root t url holds kept u → WasStored root t kept u w) b c → AtEnd (WasPulled root t have commit) a c
pulled_at apart kept told told' told'' s works taken gathers covers clean was =
    ends_on (to_tree told'' was) (from_supply s (from_tree told (ends_both (ends_both (ends_both (ends_goes told works) taken) gathers) covers))) told'
    (λ u v w tree q e. was_pulled apart kept q.1.0 tree e.0 s.held s.holdings_are q.0 q.1.1.0.0.0 q.1.1.0.0.1 q.1.1.0.1 q.1.1.1 (e.1 q.1.1.0.0.1) clean)

-- ---- at every moment

module _ {root t : Elements} (apart : IsApart root t) where
  pub soundly_works : {a b : Option Moments} → IsTold a → Always (Works t) a b → Always (PullsSoundly root t) a b
  soundly_works told works = begins told works (λ u w tree r true_names. pulls_work root t u w apart r) (λ u w tree r q true_names. pulls_work root t u w apart q)

  pub soundly_stores : {a b c : Option Moments} {url : List ℕ} {holds : Option Holdings} (kept : List Named) → IsTold a → IsTold b → Always (Works t) a b → AtEnd (λ u w. AreTaken root t url holds kept w) a b → Always (PullsKept root t url holds kept) b c
      → Always (PullsSoundly root t) a c
  soundly_stores {url = url} {holds = given} kept told_a told works taken stores =
      goes_on told (goes_known (soundly_works told_a works) taken) stores (λ u v w tree r q s. step u v w r q.1 s) (λ u v w tree r q s e. step u v w r q.1 s)
    where
      step : (u v w : View) → PullsSoundly root t u v → AreTaken root t url given kept v → PullsKept root t url given kept v w → PullsSoundly root t u w
      step u v w r taken s true_names = pulls_on root t apart (r true_names) (s taken (pulls_store root t u v apart (r true_names) true_names))

-- ---- what is asked for

pub can_store : {root t : Elements} (apart : IsApart root t) {url : List ℕ} {holds : Option Holdings} {kept : List Named} {u v : View} → Works t u v → AreTaken root t url holds kept v → CanPull root t u → CanStore root t url holds kept v
can_store {root = root} {t = t} apart {u = u} {v = v} works taken can =
    let pulls = pulls_work root t u v apart works in
    record {
      taken = taken;
      true_names = pulls_store root t u v apart pulls can.true_names;
      low = can.low;
      clears = pulls_clears root t apart pulls can.low can.clears;
      store_open = pulls_open root t apart pulls can.store_open;
    }

pub can_clear : {root t : Elements} (apart : IsApart root t) {u v : View} → Works t u v → CanPull root t u → CanClear t v
can_clear {root = root} {t = t} apart {u = u} {v = v} works can = pulls_clears root t apart (pulls_work root t u v apart works) can.low can.clears

-- ---- where it is refused

was_refused : {t : Elements} {u w : View} → Works t u w → IsCleared t w → WasRefused t u w
was_refused {t = t} works cleared = record {
  gone = cleared.gone;
  names = λ q. elim (works.keeps.names q) [
    | inl same ↦ inl same
    | inr put ↦ elim put [
      | inl name ↦ inr (inl (below_work t name.digest name.kind q name.at))
      | inr other ↦ elim other [
        | inl made ↦ elim (above_work t made.0.digest made.0.kind q made.0.above) [ inl within ↦ inr (inl within) | inr above ↦ inr (inr (above, made.1)) ]
        | inr away ↦ inr (inl away.0)
      ]
    ]
  ];
}

pub refused_at : {t : Elements} {a b c : Option Moments} → IsTold a → IsTold b → Always (Works t) a b → Frame (GoneWithin t) (AbsentWithin t) NoPath b c → AtEnd (λ v w. IsCleared t w) b c → AtEnd (WasRefused t) a c
refused_at told told' works frame cleared = ends_on (ends_both (ends_frame told' frame) cleared) (ends_goes told works) told' (λ u v w tree q s. was_refused (works_on q (cleared_works s.0)) s.1)

-- ---- refusals

refused_as : (found : Option (Place × Fault)) (w : WalkFault) → option_map named_fault found ≡ Some (told_fault w) → option_map (λ f. refusal_of f.0.digest f.0.kind f.1) found ≡ Some (refusal_of w.digest w.kind (fault_of w.fault))
refused_as None w is = absurd (cc is)
refused_as (Some f) w is =
    let same : named_fault f ≡ told_fault w = cc is in
    ap (λ (x : (List ℕ × ObjKind) × Fault). Some (refusal_of x.0.0 x.0.1 x.1)) same

pub walk_refused : (have : Have) (commit : List ℕ) (end : WalkEnd) → WalkRefuses (λ w. first_named have commit ≡ Some (told_fault w)) end → RefusesBy (λ r. first_refusal have commit ≡ Some r) (of_walk end)
walk_refused have commit (walks.Refused w) is = refused_as (first_fault have commit) w is
walk_refused have commit walks.HostFault is = tt
walk_refused have commit walks.RemoteFault is = tt
walk_refused have commit walks.NoMemory is = tt

pub none_refused : (have : Have) (commit : List ℕ) → first_fault have commit ≡ None → first_refusal have commit ≡ None
none_refused have commit none = ap (option_map (λ f. refusal_of f.0.digest f.0.kind f.1)) none

-- how it ends
pub host_refuses : (P : Refusal → Type 0) (e : HostEnd) → RefusesBy P (of_host e)
host_refuses P host_ends.Fault = tt
host_refuses P host_ends.NoMemory = tt

pub host_no_refusal : {A : Type 0} (e : HostEnd) (r : Refusal) → IsErrOf {T = A} (Err (of_host e)) (pull_ends.Refused r) → ⊥
host_no_refusal host_ends.Fault r is = absurd (cc is)
host_no_refusal host_ends.NoMemory r is = absurd (cc is)

pub host_no_remote : {A : Type 0} (e : HostEnd) → IsErrOf {T = A} (Err (of_host e)) pull_ends.RemoteFault → ⊥
host_no_remote host_ends.Fault is = absurd (cc is)
host_no_remote host_ends.NoMemory is = absurd (cc is)

pub host_is_fault : {A B : Type 0} (e : HostEnd) → IsErrOf {T = A} (Err (of_host e)) pull_ends.HostFault → IsErrOf {T = B} (Err e) host_ends.Fault
host_is_fault host_ends.Fault is = refl
host_is_fault host_ends.NoMemory is = absurd (cc is)

pub walk_is_fault : {A B : Type 0} (e : WalkEnd) → IsErrOf {T = A} (Err (of_walk e)) pull_ends.HostFault → IsErrOf {T = B} (Err e) walks.HostFault
walk_is_fault (walks.Refused w) is = absurd (cc is)
walk_is_fault walks.HostFault is = refl
walk_is_fault walks.RemoteFault is = absurd (cc is)
walk_is_fault walks.NoMemory is = absurd (cc is)

pub walk_is_remote : {A B : Type 0} (e : WalkEnd) → IsErrOf {T = A} (Err (of_walk e)) pull_ends.RemoteFault → IsErrOf {T = B} (Err e) walks.RemoteFault
walk_is_remote (walks.Refused w) is = absurd (cc is)
walk_is_remote walks.HostFault is = absurd (cc is)
walk_is_remote walks.RemoteFault is = refl
walk_is_remote walks.NoMemory is = absurd (cc is)
