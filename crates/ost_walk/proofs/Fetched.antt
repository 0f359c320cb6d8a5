-- What is fetched of one object.
use Rattle.std.proofs.Common.{◌≡◌, ◌≤◌, ◌<◌, ◌*◌, ℕ, List, [], length, Bool, true, false, leb, if◌then◌else◌, Option, Some, None, Result, Err, refl, sym, ◌∙◌, ap, subst, arith}
use Rattle.std.specs.Option.{option_or}
use Rattle.std.specs.Prelude.{not}
use Rattle.std.specs.Str.{bytes_eq}
use Rattle.std.proofs.lemmas.Bool.{le-leb, false_from_ne_true}
use Rattle.std.proofs.lemmas.Slice.Eq.{bytes_eq-Decides}
use Rattle.ost_model.specs.Contents.{meta_digest}
use Rattle.fp_host.specs.Paths.{Elements}
use Rattle.fp_host.specs.Remote.{Held, nothing, directory, contents, target, Holdings, IsNode, bytes_of}
use Rattle.fp_host.specs.Outcome.{Spot, gone, folder, holds, points, shows}
use Rattle.fp_host.specs.Moments.{Moments}
use Rattle.fp_host.specs.Frame.{AtEnd}
use Rattle.fp_host.specs.declared.remotes.Node.{Node}
use Rattle.fp_host.specs.declared.remotes.Node.TheVariants as nodes
use Rattle.fp_base.specs.declared.object.ObjKind.{ObjKind}
use Rattle.fp_base.specs.declared.object.ObjKind.TheVariants as kinds
use Rattle.ost_model.specs.declared.object.Object.{Object}
use Rattle.ost_model.specs.declared.object.Object.TheVariants as objects
use Rattle.ost_model.specs.Objects.{Have, may_be_link, store, missing, too_long, corrupt, unless, content_fault, rule_fault, dir_mode_fault, object_path, object_at, object_fault}
use Rattle.ost_store.specs.Reads.{got_of, Gets}
use Rattle.ost_store.specs.declared.reading.Got.{Got}
use Rattle.ost_store.specs.declared.reading.Got.TheVariants as got
use Rattle.ost_walk.specs.declared.ends.ObjectFault.{ObjectFault}
use Rattle.ost_walk.specs.declared.ends.ObjectFault.TheVariants as faults
use Rattle.ost_walk.specs.declared.ends.WalkEnd.{WalkEnd}
use Rattle.ost_walk.specs.declared.ends.WalkEnd.TheVariants as ends
use Rattle.ost_walk.specs.Ends.{fault_of, refusal}
use Rattle.ost_model.specs.Remotes.{as_spot, remote_at, remote, Supplies}
use Rattle.ost_model.proofs.Faults.{long_fault}
use Rattle.ost_model.proofs.Spots.{held_meta}
use Rattle.ost_walk.specs.Steps.{Fetches}

-- ---- a refusal

pub refuses : (d : List ℕ) (kind : ObjKind) (object : Option Object) (f : ObjectFault) {end : WalkEnd} → end ≡ refusal d kind f → object_fault d kind object ≡ Some (fault_of f) → Fetches d kind object (Err end)
refuses d kind object f is has = subst (λ (e : WalkEnd). Fetches d kind object (Err e)) (sym is) (record { digest = refl; kind_is = refl; fault_is = has })

-- ---- a file that keeps a metadata object

-- the faults of a metadata object's bytes
of_kind : (d : List ℕ) (kind : ObjKind) (bytes : List ℕ) → may_be_link kind ≡ false
    → object_fault d kind (Some (objects.Meta bytes)) ≡ option_or (content_fault d kind (objects.Meta bytes)) (dir_mode_fault kind (Some (objects.Meta bytes)))
of_kind d kind bytes meta = ap (λ b. option_or (option_or (unless (not b) missing) (content_fault d kind (objects.Meta bytes))) (dir_mode_fault kind (Some (objects.Meta bytes)))) meta

corrupt_fault : (d : List ℕ) (kind : ObjKind) (bytes : List ℕ) → may_be_link kind ≡ false → leb (length bytes) (16 * 1024 * 1024) ≡ true → bytes_eq (meta_digest bytes) d ≡ false
    → object_fault d kind (Some (objects.Meta bytes)) ≡ Some (corrupt (meta_digest bytes))
corrupt_fault d kind bytes meta short off =
    of_kind d kind bytes meta
    ∙ (λ i. option_or (option_or (unless (short i) (too_long (length bytes))) (option_or (unless (off i) (corrupt (meta_digest bytes))) (rule_fault kind (objects.Meta bytes)))) (dir_mode_fault kind (Some (objects.Meta bytes))))

-- the digest of the bytes is another
pub other_digest : (d : List ℕ) (kind : ObjKind) (bytes got : List ℕ) {end : WalkEnd} → may_be_link kind ≡ false → got ≡ meta_digest bytes → (got ≡ d → ⊥) → end ≡ refusal d kind (faults.Corrupt got)
    → leb (length bytes) (16 * 1024 * 1024) ≡ true → Fetches d kind (Some (objects.Meta bytes)) (Err end)
other_digest d kind bytes got meta is off end short =
    let different : bytes_eq (meta_digest bytes) d ≡ false = false_from_ne_true (bytes_eq (meta_digest bytes) d) (λ t. off (is ∙ (bytes_eq-Decides (meta_digest bytes) d).0 t)) in
    refuses d kind (Some (objects.Meta bytes)) (faults.Corrupt got) end (corrupt_fault d kind bytes meta short different ∙ ap (λ (x : List ℕ). Some (corrupt x)) (sym is))

-- ---- the remote

file_held : (h : Held) (mode size : ℕ) → IsNode h (nodes.File mode size) → (bytes : List ℕ) × (h ≡ contents mode bytes) × (size ≡ length bytes)
file_held nothing mode size is = absurd (cc is)
file_held directory mode size is = absurd (cc is)
file_held (contents m bytes) mode size is = (bytes, ap (λ (k : ℕ). contents k bytes) (cc is), cc is)
file_held (target text) mode size is = absurd (cc is)

-- a path that is no file has no metadata object
no_file_held : (h : Held) (node : Node) (kind : ObjKind) → may_be_link kind ≡ false → IsNode h node → ((mode size : ℕ) → node ≡ nodes.File mode size → ⊥) → object_at kind (as_spot h) ≡ None
no_file_held (contents m bytes) node kind meta is not = absurd (not m (length bytes) is)
no_file_held nothing node kinds.Commit meta is not = refl
no_file_held nothing node kinds.DirTree meta is not = refl
no_file_held nothing node kinds.DirMeta meta is not = refl
no_file_held nothing node kinds.File meta is not = absurd (cc meta)
no_file_held directory node kinds.Commit meta is not = refl
no_file_held directory node kinds.DirTree meta is not = refl
no_file_held directory node kinds.DirMeta meta is not = refl
no_file_held directory node kinds.File meta is not = absurd (cc meta)
no_file_held (target text) node kinds.Commit meta is not = refl
no_file_held (target text) node kinds.DirTree meta is not = refl
no_file_held (target text) node kinds.DirMeta meta is not = refl
no_file_held (target text) node kinds.File meta is not = absurd (cc meta)

module _ (held : Holdings) (url d : List ℕ) (kind : ObjKind) (path : Elements) (meta : may_be_link kind ≡ false) (here : path ≡ object_path [] d kind) where
  remote_is : (o : Option Object) → object_at kind (as_spot (held url path)) ≡ o → remote_at held url d kind ≡ o
  remote_is o is = ap (λ (p : Elements). object_at kind (as_spot (held url p))) (sym here) ∙ is

  remote_file : (mode size : ℕ) → IsNode (held url path) (nodes.File mode size) → (remote_at held url d kind ≡ Some (objects.Meta (bytes_of (held url path)))) × (length (bytes_of (held url path)) ≡ size)
  remote_file mode size node =
      let is = file_held (held url path) mode size node in (
        remote_is (Some (objects.Meta (bytes_of (held url path)))) (ap (λ h. object_at kind (as_spot h)) is.1 ∙ held_meta kind meta 0 mode is.0 ∙ ap (λ h. Some (objects.Meta (bytes_of h))) (sym is.1)),
        ap (λ h. length (bytes_of h)) is.1 ∙ sym is.2,
      )

  -- the file is too long
  pub remote_long : (mode size : ℕ) {end : WalkEnd} → IsNode (held url path) (nodes.File mode size) → 16 * 1024 * 1024 < size → end ≡ refusal d kind (faults.TooLong size)
      → Fetches d kind (remote_at held url d kind) (Err end)
  remote_long mode size node long is =
      let file = remote_file mode size node in
      refuses d kind (remote_at held url d kind) (faults.TooLong size) is (ap (object_fault d kind) file.0 ∙ long_fault d kind (bytes_of (held url path)) meta (omega (arith, file.1, long)) ∙ ap (λ (n : ℕ). Some (too_long n)) file.1)

  -- there is no file
  pub remote_none : (node : Node) {end : WalkEnd} → IsNode (held url path) node → ((mode size : ℕ) → node ≡ nodes.File mode size → ⊥) → end ≡ refusal d kind faults.Missing
      → Fetches d kind (remote_at held url d kind) (Err end)
  remote_none node is not end = refuses d kind (remote_at held url d kind) faults.Missing end (ap (object_fault d kind) (remote_is None (no_file_held (held url path) node kind meta is not)))

  -- the file was read
  pub remote_read : (mode size : ℕ) (bytes : List ℕ) (result : Result (List ℕ) WalkEnd) → IsNode (held url path) (nodes.File mode size) → size ≤ 16 * 1024 * 1024
      → (length (bytes_of (held url path)) ≡ size → bytes ≡ bytes_of (held url path)) → (leb (length bytes) (16 * 1024 * 1024) ≡ true → Fetches d kind (Some (objects.Meta bytes)) result)
      → Fetches d kind (remote_at held url d kind) result
  remote_read mode size bytes result node short whole tells =
      let file = remote_file mode size node in
      let is = whole file.1 in
      subst (λ o. Fetches d kind o result) (ap (λ (b : List ℕ). Some (objects.Meta b)) is ∙ sym file.0) (tells (le-leb (length bytes) (16 * 1024 * 1024) (omega (arith, ap (λ (b : List ℕ). length b) is, file.1, short))))

-- a refusal is no fault of the host or the remotes
pub no_host_fault : {A : Type 0} (d : List ℕ) (kind : ObjKind) (f : ObjectFault) (end : WalkEnd) → end ≡ refusal d kind f → ◌≡◌ {A = Result A WalkEnd} (Err end) (Err ends.HostFault) → ⊥
no_host_fault d kind f end is err = absurd (cc (is, err))

pub no_remote_fault : {A : Type 0} (d : List ℕ) (kind : ObjKind) (f : ObjectFault) (end : WalkEnd) → end ≡ refusal d kind f → ◌≡◌ {A = Result A WalkEnd} (Err end) (Err ends.RemoteFault) → ⊥
no_remote_fault d kind f end is err = absurd (cc (is, err))

-- ---- the store

got_meta : (most : ℕ) (o : Option Object) (bytes : List ℕ) → got.Meta bytes ≡ got_of most o → (o ≡ Some (objects.Meta bytes)) × (leb (length bytes) most ≡ true)
got_meta most None bytes e = absurd (cc e)
got_meta most (Some (objects.Link text)) bytes e = absurd (cc e)
got_meta most (Some (objects.Meta b)) bytes e = go (leb (length b) most) refl e
  where
    go : (x : Bool) → leb (length b) most ≡ x → got.Meta bytes ≡ (if x then got.Meta b else got.TooLong (length b)) → (Some (objects.Meta b) ≡ Some (objects.Meta bytes)) × (leb (length bytes) most ≡ true)
    go true is same = let eq : b ≡ bytes = cc same in (ap (λ (x : List ℕ). Some (objects.Meta x)) eq, ap (λ (x : List ℕ). leb (length x) most) (sym eq) ∙ is)
    go false is same = absurd (cc same)
got_meta most (Some (objects.File mode b)) bytes e = go (leb (length b) most) e
  where
    go : (x : Bool) → got.Meta bytes ≡ (if x then got.File mode (length b) else got.TooLong (length b)) → (Some (objects.File mode b) ≡ Some (objects.Meta bytes)) × (leb (length bytes) most ≡ true)
    go true same = absurd (cc same)
    go false same = absurd (cc same)

-- a metadata object that is neither told nor too long isn't there
got_none : (kind : ObjKind) → may_be_link kind ≡ false → (most : ℕ) (spot : Spot) (told : Got) → told ≡ got_of most (object_at kind spot) → ((bytes : List ℕ) → told ≡ got.Meta bytes → ⊥) → ((size : ℕ) → told ≡ got.TooLong size → ⊥)
    → object_at kind spot ≡ None
got_none kind meta most (holds id mode bytes) told is not_meta not_long = absurd (go (leb (length bytes) most) (is ∙ ap (got_of most) (held_meta kind meta id mode bytes)))
  where
    go : (x : Bool) → told ≡ (if x then got.Meta bytes else got.TooLong (length bytes)) → ⊥
    go true e = not_meta bytes e
    go false e = not_long (length bytes) e
got_none kinds.Commit meta most gone told is a b = refl
got_none kinds.DirTree meta most gone told is a b = refl
got_none kinds.DirMeta meta most gone told is a b = refl
got_none kinds.File meta most gone told is a b = absurd (cc meta)
got_none kinds.Commit meta most folder told is a b = refl
got_none kinds.DirTree meta most folder told is a b = refl
got_none kinds.DirMeta meta most folder told is a b = refl
got_none kinds.File meta most folder told is a b = absurd (cc meta)
got_none kinds.Commit meta most (points text) told is a b = refl
got_none kinds.DirTree meta most (points text) told is a b = refl
got_none kinds.DirMeta meta most (points text) told is a b = refl
got_none kinds.File meta most (points text) told is a b = absurd (cc meta)

module _ {root : Elements} {url : Option (List ℕ)} {told : Option Moments} {holdings : Option Holdings} {have : Have} (d : List ℕ) (kind : ObjKind) (s : Supplies root url told holdings have) where
  abbrev own : Option Object
  own = store root (shows s.moments.now) d kind

  own_is : {told' : Option Moments} {most : ℕ} {got : Got} → AtEnd (λ u w. Gets root d kind most u got) told told' → got ≡ got_of most own
  own_is ends = (ends.goes.told s.moments s.told_is).3.is

  have_own : (o : Object) → own ≡ Some o → have d kind ≡ Some o
  have_own o e = ap (λ (h : Have). h d kind) s.is ∙ ap (λ x. option_or x (remote s.held url d kind)) e

  have_remote : own ≡ None → have d kind ≡ remote s.held url d kind
  have_remote e = ap (λ (h : Have). h d kind) s.is ∙ ap (λ x. option_or x (remote s.held url d kind)) e

  -- the store has it
  pub store_has : {told' : Option Moments} {most : ℕ} {told_is : Got} (bytes : List ℕ) (result : Result (List ℕ) WalkEnd) → AtEnd (λ u w. Gets root d kind most u told_is) told told' → told_is ≡ got.Meta bytes
      → (leb (length bytes) most ≡ true → Fetches d kind (Some (objects.Meta bytes)) result) → Fetches d kind (have d kind) result
  store_has {most = most} bytes result ends is tells =
      let there = got_meta most own bytes (sym is ∙ own_is ends) in
      subst (λ o. Fetches d kind o result) (sym (have_own (objects.Meta bytes) there.0)) (tells there.1)

  -- the store hasn't
  pub store_lacks : {told' : Option Moments} {most : ℕ} {told_is : Got} (result : Result (List ℕ) WalkEnd) → may_be_link kind ≡ false → AtEnd (λ u w. Gets root d kind most u told_is) told told'
      → ((bytes : List ℕ) → told_is ≡ got.Meta bytes → ⊥) → ((size : ℕ) → told_is ≡ got.TooLong size → ⊥)
      → ((held : Holdings) → holdings ≡ Some held → Fetches d kind (remote held url d kind) result) → Fetches d kind (have d kind) result
  store_lacks {most = most} {told_is = told_is} result meta ends not_meta not_long tells =
      subst (λ o. Fetches d kind o result) (sym (have_remote (got_none kind meta most (shows s.moments.now (object_path root d kind)) told_is (own_is ends) not_meta not_long))) (tells s.held s.holdings_are)
