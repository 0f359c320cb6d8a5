-- Objects that come to their names.
use Rattle.std.proofs.Common.{◌≡◌, ◌≢◌, ◌⊎◌, inl, inr, ℕ, List, [], ◌∷◌, length, true, Option, Some, None, Result, Ok, refl, sym, ◌∙◌, ap, subst, Contains, arith, codes, take, drop, ◌++◌}
use Rattle.std.proofs.lemmas.Bool.{cases_eq, cases_Bool, both_ways}
use Rattle.std.proofs.lemmas.List.Elements.{Contains-push, Contains-append_left}
use Rattle.fp_host.specs.Paths.{Elements, Slot, absent, dir, file, link, at, set_at}
use Rattle.fp_host.specs.View.{View, Inode, IsTree}
use Rattle.fp_host.specs.Calls.{Can, HasFolder, IsFile, IsLeaf, IsNoDir, renames, put, set_file, Step, Called}
use Rattle.fp_host.specs.Outcome.{Spot, holds, Disk, Leaves, MayHold, IsSameMode, Gives, spot_of, holding}
use Rattle.fp_host.specs.Frame.{Keeps, Frame, NoPath}
use Rattle.fp_host.specs.Moments.{Moments, Goes, Makes}
use Rattle.fp_host.specs.declared.host.HostError.{HostError}
use Rattle.fp_host.proofs.Separate.{set_same, set_other, file_same, file_other}
use Rattle.fp_host.proofs.Settled.{at_tree}
use Rattle.fp_host.proofs.Follow.{called}
use Rattle.fp_host.proofs.Framed.{IsTold, keeps_on, keeps_to, keeps_same, keeps_call}
use Rattle.fp_host.proofs.Goes.{begins, goes_on, makes_goes}
use Rattle.fp_host.proofs.Above.{above_longer}
use Rattle.fp_small.specs.Folders.{ancestors, FoldersAt, DirsAt, AreFree, AreDirs}
use Rattle.fp_small.proofs.Replacement.{ancestors_above, parent_in}
use Rattle.fp_base.specs.declared.object.ObjKind.{ObjKind}
use Rattle.fp_name.specs.Hex.{hex}
use Rattle.ost_model.specs.Objects.{object_path}
use Rattle.fp_base.specs.Objects.{kind_text}
use Rattle.ost_store.specs.Place.{Places, WasPlaced, CanPlace}

-- ---- a file that nothing wrote to may hold what it might hold before

abbrev bytes_in : Option Inode → List ℕ
bytes_in None = []
bytes_in (Some f) = f.bytes

row_of : (files : ℕ → Option Inode) (k : ℕ) (row : Option Inode) (id mode : ℕ) (bytes : List ℕ) → files k ≡ row → holding k row ≡ holds id mode bytes → files id ≡ Some (record { mode = mode; bytes = bytes })
row_of files k None id mode bytes is h = absurd (cc h)
row_of files k (Some f) id mode bytes is h =
    let same : id ≡ k = cc h in
    let m : f.mode ≡ mode = cc h in
    let b : f.bytes ≡ bytes = cc h in
    ap files same ∙ is ∙ (λ i. Some (record { mode = m i; bytes = b i }))

holds_row : (files : ℕ → Option Inode) (e : Slot) (id mode : ℕ) (bytes : List ℕ) → spot_of files e ≡ holds id mode bytes → files id ≡ Some (record { mode = mode; bytes = bytes })
holds_row files absent id mode bytes h = absurd (cc h)
holds_row files dir id mode bytes h = absurd (cc h)
holds_row files (link text) id mode bytes h = absurd (cc h)
holds_row files (file k) id mode bytes h = row_of files k (files k) id mode bytes refl h

same_mode : (a b : Option Inode) (f g : Inode) → a ≡ Some f → b ≡ Some g → f.mode ≡ g.mode → IsSameMode a b
same_mode None b f g p q m = absurd (cc p)
same_mode (Some x) None f g p q m = absurd (cc q)
same_mode (Some x) (Some y) f g p q m =
    let xf : x ≡ f = cc p in
    let yg : y ≡ g = cc q in
    ap (λ (z : Inode). z.mode) xf ∙ m ∙ sym (ap (λ (z : Inode). z.mode) yg)

module _ {u v : View} (t : Elements) (id : ℕ) (f : Inode) (paths : List Elements) (tree : IsTree v) (k : Keeps (FoldersAt paths) (DirsAt paths) NoPath u v) (here : v.names t ≡ file id) (row : u.files id ≡ Some f) where
  same_row : v.files id ≡ Some f
  same_row = k.files id f row (λ q none is. none)

  -- the same file with other bytes
  abbrev longer : Inode
  longer = record { mode = f.mode; bytes = 0 ∷ f.bytes }

  other_rows : v.dirty id ≡ true → (i : ℕ) → MayHold v i (set_file v.files id (Some longer) i)
  other_rows dirty i = elim (cases_eq i id) [
    | inl same ↦ inr (ap v.dirty same ∙ dirty, same_mode (v.files i) (set_file v.files id (Some longer) i) f longer (ap v.files same ∙ same_row) (file_same v.files id (Some longer) i same) refl)
    | inr off ↦ inl (file_other v.files id (Some longer) i off)
  ]

  -- a file that isn't created since the last sync stays one that isn't, or a stop might leave other bytes of it
  clean_stays : (u.dirty id ≡ true → ⊥) → v.dirty id ≡ true → ⊥
  clean_stays clean dirty =
      let disk : Disk = λ q. spot_of (set_file v.files id (Some longer)) (at v.names q) in
      let left : Leaves v disk = record { names = v.names; files = set_file v.files id (Some longer); may_be = λ q. inl refl; rows = other_rows dirty; seen = λ q. refl } in
      let before = k.follows.from disk left in
      let there : disk t ≡ holds id f.mode (0 ∷ f.bytes) = ap (spot_of (set_file v.files id (Some longer))) (at_tree v tree t ∙ here) ∙ ap (holding id) (file_same v.files id (Some longer) id refl) in
      elim (before.2 t) [
        | inl same ↦ elim (before.1.rows id) [
          | inl is ↦
              let held = holds_row before.1.files (at before.1.names t) id f.mode (0 ∷ f.bytes) (sym (before.1.seen t) ∙ sym same ∙ there) in
              let bytes : 0 ∷ f.bytes ≡ f.bytes = ap bytes_in (sym held ∙ is ∙ row) in
              absurd (omega (arith, ap length bytes))
          | inr any ↦ clean any.0
        ]
        | inr made ↦ cc (sym there ∙ made.1)
      ]

  may_hold : (held : Option Inode) → MayHold v id held → MayHold u id held
  may_hold held (inl is) = inl (is ∙ same_row ∙ sym row)
  may_hold held (inr any) = elim (cases_Bool (u.dirty id)) [
    | inl dirty ↦ inr (dirty, subst (λ (o : Option Inode). IsSameMode o held) (same_row ∙ sym row) any.1)
    | inr clean ↦ absurd (clean_stays (λ dirty. both_ways (u.dirty id) clean dirty) any.0)
  ]

  file_given : (p q : Elements) (spot : Spot) → Gives v p (file id) q spot → Gives u p (file id) q spot
  file_given p q spot g =
      let held = g.1.0 id in (
        g.0,
        (
          set_file u.files id held,
          λ i. elim (cases_eq i id) [
            | inl same ↦ subst (λ (o : Option Inode). MayHold u i o) (sym (file_same u.files id held i same)) (subst (λ (j : ℕ). MayHold u j held) (sym same) (may_hold held (g.1.1 id)))
            | inr off ↦ inl (file_other u.files id held i off)
          ],
          g.1.2 ∙ ap (holding id) (sym (file_same u.files id held id refl)),
        ),
      )

row_there : {v : View} {t : Elements} {id : ℕ} → IsTree v → v.names t ≡ file id → (f : Inode) × (v.files id ≡ Some f)
row_there {v = v} {t = t} {id = id} tree here = some_of (v.files id) (tree.known t id (inl (sym here)))
  where
    some_of : (o : Option Inode) → o ≢ None → (f : Inode) × (o ≡ Some f)
    some_of None off = absurd (off refl)
    some_of (Some f) off = (f, refl)

-- ---- the folders are there

pub record Housed (p : Elements) (u v : View) : Type 0 where
  pub tree : IsTree u
  pub made : Keeps (FoldersAt (ancestors p)) (DirsAt (ancestors p)) NoPath u v

-- what is given then was there before
given_by : {u v : View} (t p q : Elements) (spot : Spot) (e : Slot) → Housed p u v → IsTree v → v.names t ≡ e → u.names t ≡ e → IsLeaf e → Gives v p e q spot → Gives u p e q spot
given_by t p q spot absent housed tree here was leaf g = absurd leaf
given_by t p q spot dir housed tree here was leaf g = absurd leaf
given_by {u = u} t p q spot (link text) housed tree here was leaf g = (g.0, (u.files, (λ i. inl refl), g.1.2))
given_by {u = u} t p q spot (file id) housed tree here was leaf g =
    let row = row_there housed.tree was in
    file_given t id row.0 (ancestors p) tree housed.made here row.1 p q spot g

module _ {t p : Elements} {u v : View} (housed : Housed p u v) where
  with_folders : Places t p u v
  with_folders = record { keeps = keeps_to (λ q spot h. inr (inr h)) (λ q e h. inr (inr h)) (λ q h. h) (λ q id a h. a) housed.made }

  -- what stands at t stood there before
  same_name : IsLeaf (v.names t) → v.names t ≡ u.names t
  same_name leaf = elim (housed.made.names t) [ inl same ↦ same | inr made ↦ absurd (subst IsLeaf made.1 leaf) ]

  moved : {w : View} → IsTree v → Can (renames t p) v → Called (renames t p) v w → Places t p u w
  moved tree can call =
      let same = same_name can.0 in record {
        keeps = keeps_on with_folders.keeps (keeps_call tree
            (λ q spot h. elim h [
              | inl g ↦ inl (subst (λ (e : Slot). Gives u p e q spot) same (given_by t p q spot (v.names t) housed tree refl (sym same) can.0 g))
              | inr g ↦ inr (inl g)
            ])
            (λ q e h. elim h [ inl g ↦ inl (g.0, g.1 ∙ same) | inr g ↦ inr (inl g) ]) (λ x i h. absurd h) (λ h. h) tt call);
      }

  pub places_rename : {r : Result (Unit {0}) HostError} {w : View} → IsTree v → Step (renames t p) r v w → Places t p u w
  places_rename tree step =
      let call = called step in
      elim call.went [
        | inl same ↦ record { keeps = keeps_on with_folders.keeps (keeps_same same) }
        | inr did ↦ moved tree did.0 call
      ]

  pub was_placed : {w : View} → Step (renames t p) (Ok tt) v w → WasPlaced t p u w
  was_placed {w = w} step = record {
    leaf = subst IsLeaf (same_name step.how.0.0) step.how.0.0;
    name = ap (λ (x : View). x.names p) step.how.1 ∙ set_other (set_at v.names p (v.names t)) t absent p (λ e. step.how.0.3 (sym e)) ∙ set_same v.names p (v.names t) p refl ∙ same_name step.how.0.0;
    stood = subst (λ (e : Slot). Contains w.stood (p, e)) (same_name step.how.0.0)
        (subst (λ (x : View). Contains x.stood (p, v.names t)) (sym step.how.1) (Contains-append_left (v.stood ++ (p, v.names t) ∷ []) ((t, absent) ∷ []) (p, v.names t) (Contains-push v.stood (p, v.names t))));
    left = ap (λ (x : View). x.names t) step.how.1 ∙ set_same (put p (v.names t) v).names t absent t refl;
  }

-- ---- over the moments

pub making : {a b : Option Moments} {t p : Elements} → IsTold a → Frame (FoldersAt (ancestors p)) (DirsAt (ancestors p)) NoPath a b → Goes a b (Places t p) (Housed p)
making told frame = begins told frame.goes (λ u w tree k. with_folders (record { tree = tree; made = k })) (λ u w tree k e. record { tree = tree; made = k })

pub moving : {a b c : Option Moments} {t p : Elements} {r : Result (Unit {0}) HostError} → Goes a b (Places t p) (Housed p) → IsTold b → Makes (Step (renames t p) r) b c → Goes a c (Places t p) (Places t p)
moving first told call = goes_on told first (makes_goes call) (λ u v w tree places housed step. places_rename housed tree step) (λ u v w tree places housed step end. places_rename housed tree step)

pub at_name : {a b : Option Moments} {t p q : Elements} → p ≡ q → Goes a b (Places t p) (Places t p) → Goes a b (Places t q) (Places t q)
at_name {a = a} {b = b} {t = t} same goes = subst (λ (r : Elements). Goes a b (Places t r) (Places t r)) same goes

-- ---- where it may be placed

pub off_own : (p : Elements) → Contains (ancestors p) p → ⊥
off_own p has = omega (arith, above_longer p p (ancestors_above p p has))

has_folder : {v : View} (x y : List ℕ) (up : Elements) → AreDirs (ancestors (x ∷ y ∷ up)) v → HasFolder v (x ∷ y ∷ up)
has_folder x y up dirs = elim (parent_in x (y ∷ up)) [ inl root ↦ absurd (cc root) | inr has ↦ dirs.dirs (y ∷ up) has ]

no_leaf : (e : Slot) → (e ≡ absent) ⊎ (e ≡ dir) → IsLeaf e → ⊥
no_leaf e (inl is) leaf = subst IsLeaf is leaf
no_leaf e (inr is) leaf = subst IsLeaf is leaf

file_some : (e f : Slot) → f ≡ absent → IsFile e → e ≢ f
file_some e f none is = λ same. cc (sym is.1 ∙ same ∙ none)

pub can_place : {p t : Elements} {u v : View} (root : Elements) (d : List ℕ) (kind : ObjKind) → p ≡ object_path root d kind → Housed p u v → (AreFree (ancestors p) u → AreDirs (ancestors p) v) → CanPlace root t d kind u → Can (renames t p) v
can_place {p = p} {t = t} {u = u} {v = v} root d kind here housed dirs can =
    let free : AreFree (ancestors p) u = subst (λ (q : Elements). AreFree (ancestors q) u) (sym here) can.folders in
    let none : u.names p ≡ absent = ap u.names here ∙ can.free in
    let same : v.names t ≡ u.names t = elim (housed.made.names t) [ inl same ↦ same | inr made ↦ absurd (no_leaf (u.names t) (free.free t made.0) can.ready.leaf) ] in
    let still : v.names p ≡ absent = elim (housed.made.names p) [ inl same ↦ same ∙ none | inr made ↦ absurd (off_own p made.0) ] in
    let leaf : IsLeaf (v.names t) = subst IsLeaf (sym same) can.ready.leaf in (
      leaf,
      subst (HasFolder v) (sym here) (by_path (subst (λ (q : Elements). AreDirs (ancestors q) v) here (dirs free))),
      subst IsNoDir (sym still) tt,
      (λ one. subst IsLeaf (ap v.names one ∙ still) leaf),
      file_some (v.names t) (v.names p) still,
    )
  where
    by_path : AreDirs (ancestors (object_path root d kind)) v → HasFolder v (object_path root d kind)
    by_path known = has_folder (drop 2 (hex d) ++ (codes "." ++ kind_text kind)) (take 2 (hex d)) (codes "objects" ∷ root) known
