-- Objects in tables and in one list, and the digests of rows.
use Rattle.std.proofs.Common.{◌≡◌, ℕ, zero, suc, List, [], ◌∷◌, ◌++◌, map, length, get_or, Bool, true, false, Some, None, refl, sym, ◌∙◌, ap, subst}
use Rattle.std.specs.Option.{option_or}
use Rattle.std.specs.Prelude.{if◌then◌else◌, ◌&&◌}
use Rattle.std.specs.Str.{bytes_eq}
use Rattle.std.specs.Ordering.{is_eq, nat_cmp}
use Rattle.std.specs.Cmp.Lexicographic.{slice_cmp}
use Rattle.std.specs.List.{AllByRecursion}
use Rattle.std.proofs.lemmas.Bool.{false≢true, and_parts}
use Rattle.fp_base.specs.declared.object.ObjKind.{ObjKind}
use Rattle.fp_base.specs.declared.object.ObjKind.TheVariants as kinds
use Rattle.ost_model.specs.declared.object.Object.{Object}
use Rattle.std.proofs.lemmas.Slice.Eq.{bytes_eq-Decides}
use Rattle.ost_model.specs.declared.object.Object.TheVariants as objects
use Rattle.ost_model.specs.Contents.{meta_digest}
use Rattle.ost_model.specs.Objects.{object_fault}
use Rattle.ost_commit.specs.declared.row.TreeRow.{TreeRow}
use Rattle.ost_commit.specs.declared.row.TreeRow.TheVariants as row
use Rattle.ost_commit.specs.declared.built.BuiltObject.{BuiltObject}
use Rattle.ost_commit.specs.Rows.{content, put_by}
use Rattle.ost_commit.specs.Refusals.{is_content}
use Rattle.ost_commit.specs.Objects.{have_of, AreApart}
use Rattle.fp_base.specs.Objects.{is_kind}
use Rattle.fp_base.proofs.ObjectKinds.{kind_is, kind_same}
use Rattle.ost_commit.specs.Shows.{AreGood}
use Rattle.ost_commit.specs.Digests.{IsDigestOf, AreDigests}
use Rattle.ost_commit.specs.Tables.{object_in, built_of, built_meta, AreUsable}
use Rattle.ost_commit.specs.Folders.{put_at}
use Rattle.ost_commit.proofs.Keys.{AreDistinct, same_test, at_keys, none_new}

and_same : (b c : Bool) → c ≡ true → (b && c) ≡ b
and_same true c h = h
and_same false c h = refl

and_none : (b c : Bool) → c ≡ false → (b && c) ≡ false
and_none true c h = h
and_none false c h = refl

abbrev object_test : List ℕ × Object → List ℕ → Bool
object_test e d = is_eq (slice_cmp nat_cmp d e.0)

-- what a table has, and then what stands after it
pub have_table : (kind : ObjKind) (es : List (List ℕ × Object)) (rest : List BuiltObject) (d : List ℕ) → have_of (map (built_of kind) es ++ rest) d kind ≡ option_or (object_in es d) (have_of rest d kind)
have_table kind [] rest d = refl
have_table kind (e ∷ es) rest d = go (bytes_eq e.0 d && is_kind kind kind) (object_test e d) (and_same (bytes_eq e.0 d) (is_kind kind kind) (kind_same kind) ∙ sym (same_test d e.0)) (have_table kind es rest d)
  where
    go : (a b : Bool) → a ≡ b → have_of (map (built_of kind) es ++ rest) d kind ≡ option_or (object_in es d) (have_of rest d kind)
        → (if a then Some e.1 else have_of (map (built_of kind) es ++ rest) d kind) ≡ option_or (if b then Some e.1 else object_in es d) (have_of rest d kind)
    go true true same h = refl
    go false false same h = h
    go true false same h = absurd (false≢true (sym same))
    go false true same h = absurd (false≢true same)

-- a table of another kind says nothing
pub have_other : (kind other : ObjKind) → is_kind kind other ≡ false → (es : List (List ℕ × Object)) (rest : List BuiltObject) (d : List ℕ) → have_of (map (built_of kind) es ++ rest) d other ≡ have_of rest d other
have_other kind other apart [] rest d = refl
have_other kind other apart (e ∷ es) rest d =
    ap (λ b. if b then Some e.1 else have_of (map (built_of kind) es ++ rest) d other) (and_none (bytes_eq e.0 d) (is_kind kind other) apart) ∙ have_other kind other apart es rest d

-- ---- digests

pub digests_push : (rs : List TreeRow) (ds : List (List ℕ)) (r : TreeRow) (d : List ℕ) → AreDigests rs ds → IsDigestOf r d → AreDigests (rs ++ r ∷ []) (ds ++ d ∷ [])
digests_push [] [] r d all one = (one, tt)
digests_push [] (e ∷ ds) r d all one = absurd all
digests_push (s ∷ rs) [] r d all one = absurd all
digests_push (s ∷ rs) (e ∷ ds) r d all one = (all.0, digests_push rs ds r d all.1 one)

puts_digest : (r : TreeRow) (d : List ℕ) → IsDigestOf r d → is_content (put_by r) ≡ true → content d ≡ put_by r
puts_digest (row.Dir path) d is h = absurd (false≢true h)
puts_digest (row.File path mode bytes) d is h = ap content is
puts_digest (row.Link path target) d is h = ap content is

-- the digest of a row's place is what the row puts
pub digest_at : (rs : List TreeRow) (ds : List (List ℕ)) → AreDigests rs ds → (k : ℕ) → is_content (put_at rs k) ≡ true → content (get_or ds k []) ≡ put_at rs k
digest_at [] ds all k h = absurd (false≢true h)
digest_at (r ∷ rs) [] all k h = absurd all
digest_at (r ∷ rs) (d ∷ ds) all zero h = puts_digest r d all.0 h
digest_at (r ∷ rs) (d ∷ ds) all (suc k) h = digest_at rs ds all.1 k h

pub digests_many : (rs : List TreeRow) (ds : List (List ℕ)) → AreDigests rs ds → length ds ≡ length rs
digests_many [] [] all = refl
digests_many [] (d ∷ ds) all = absurd all
digests_many (r ∷ rs) [] all = absurd all
digests_many (r ∷ rs) (d ∷ ds) all = ap suc (digests_many rs ds all.1)

-- ---- all objects of a commit

-- it may be used under its digest
abbrev pub IsGood : BuiltObject → Type 0
IsGood o = object_fault o.digest o.kind (Some o.object) ≡ None

pub all_good : (os : List BuiltObject) → AllByRecursion IsGood os → AreGood (have_of os)
all_good os all = record { good = go os all }
  where
    go : (os : List BuiltObject) → AllByRecursion IsGood os → (d : List ℕ) (kind : ObjKind) (x : Object) → have_of os d kind ≡ Some x → object_fault d kind (Some x) ≡ None
    go [] all d kind x is = absurd (cc is)
    go (o ∷ os) all d kind x is = by (bytes_eq o.digest d && is_kind o.kind kind) refl is (go os all.1 d kind x)
      where
        by : (b : Bool) → (bytes_eq o.digest d && is_kind o.kind kind) ≡ b → (if b then Some o.object else have_of os d kind) ≡ Some x → (have_of os d kind ≡ Some x → object_fault d kind (Some x) ≡ None) → object_fault d kind (Some x) ≡ None
        by true t h rest =
            let parts = and_parts (bytes_eq o.digest d) (is_kind o.kind kind) t in
            let digest = (bytes_eq-Decides o.digest d).0 parts.0 in
            let same = kind_is o.kind kind parts.1 in
            let object : o.object ≡ x = cc h in
            subst (λ z. object_fault z kind (Some x) ≡ None) digest (subst (λ k. object_fault o.digest k (Some x) ≡ None) same (subst (λ z. object_fault o.digest o.kind (Some z) ≡ None) object all.0))
        by false t h rest = rest h

-- a table's objects
pub table_good : (kind : ObjKind) (es : List (List ℕ × Object)) (rest : List BuiltObject) → AreDistinct es → AreUsable kind es → AllByRecursion IsGood rest → AllByRecursion IsGood (map (built_of kind) es ++ rest)
table_good kind es rest distinct usable all = go es (at_keys (λ e. object_fault e.0 kind (Some e.1) ≡ None) es distinct usable.each)
  where
    go : (es : List (List ℕ × Object)) → AllByRecursion (λ e. object_fault e.0 kind (Some e.1) ≡ None) es → AllByRecursion IsGood (map (built_of kind) es ++ rest)
    go [] each = all
    go (e ∷ es) each = (each.0, go es each.1)

pub table_apart : (kind : ObjKind) (es : List (List ℕ × Object)) (rest : List BuiltObject) → AreDistinct es → ((d : List ℕ) → have_of rest d kind ≡ None) → AreApart rest → AreApart (map (built_of kind) es ++ rest)
table_apart kind [] rest distinct none apart = apart
table_apart kind (e ∷ es) rest distinct none apart = (
  have_table kind es rest e.0 ∙ (ap (λ o. option_or o (have_of rest e.0 kind)) (none_new e.0 es distinct.0) ∙ none e.0),
  table_apart kind es rest distinct.1 none apart,
)

module _ (contents trees : List (List ℕ × Object)) (meta commit : List ℕ) where
  abbrev pub last : List BuiltObject
  last = built_meta kinds.DirMeta meta ∷ built_meta kinds.Commit commit ∷ []

  abbrev pub all : List BuiltObject
  all = map (built_of kinds.File) contents ++ (map (built_of kinds.DirTree) trees ++ last)

  last_none : (kind : ObjKind) → is_kind kinds.DirMeta kind ≡ false → is_kind kinds.Commit kind ≡ false → (d : List ℕ) → have_of last d kind ≡ None
  last_none kind a b d =
      ap (λ t. if t then Some (objects.Meta meta) else have_of (built_meta kinds.Commit commit ∷ []) d kind) (and_none (bytes_eq (meta_digest meta) d) (is_kind kinds.DirMeta kind) a)
      ∙ ap (λ t. if t then Some (objects.Meta commit) else None) (and_none (bytes_eq (meta_digest commit) d) (is_kind kinds.Commit kind) b)

  trees_none : (d : List ℕ) → have_of (map (built_of kinds.DirTree) trees ++ last) d kinds.File ≡ None
  trees_none d = have_other kinds.DirTree kinds.File refl trees last d ∙ last_none kinds.File refl refl d

  pub file_have : (d : List ℕ) (o : Object) → object_in contents d ≡ Some o → have_of all d kinds.File ≡ Some o
  file_have d o h = have_table kinds.File contents (map (built_of kinds.DirTree) trees ++ last) d ∙ ap (λ x. option_or x (have_of (map (built_of kinds.DirTree) trees ++ last) d kinds.File)) h

  pub tree_have : (d : List ℕ) (o : Object) → object_in trees d ≡ Some o → have_of all d kinds.DirTree ≡ Some o
  tree_have d o h = have_other kinds.File kinds.DirTree refl contents (map (built_of kinds.DirTree) trees ++ last) d
      ∙ (have_table kinds.DirTree trees last d ∙ ap (λ x. option_or x (have_of last d kinds.DirTree)) h)

  pub meta_have : have_of all (meta_digest meta) kinds.DirMeta ≡ Some (objects.Meta meta)
  meta_have = have_other kinds.File kinds.DirMeta refl contents (map (built_of kinds.DirTree) trees ++ last) (meta_digest meta)
      ∙ (have_other kinds.DirTree kinds.DirMeta refl trees last (meta_digest meta)
      ∙ ap (λ t. if t && true then Some (objects.Meta meta) else have_of (built_meta kinds.Commit commit ∷ []) (meta_digest meta) kinds.DirMeta) ((bytes_eq-Decides (meta_digest meta) (meta_digest meta)).1 refl))

  pub commit_have : have_of all (meta_digest commit) kinds.Commit ≡ Some (objects.Meta commit)
  commit_have = have_other kinds.File kinds.Commit refl contents (map (built_of kinds.DirTree) trees ++ last) (meta_digest commit)
      ∙ (have_other kinds.DirTree kinds.Commit refl trees last (meta_digest commit)
      ∙ (ap (λ t. if t then Some (objects.Meta meta) else have_of (built_meta kinds.Commit commit ∷ []) (meta_digest commit) kinds.Commit) (and_none (bytes_eq (meta_digest meta) (meta_digest commit)) false refl)
      ∙ ap (λ t. if t && true then Some (objects.Meta commit) else None) ((bytes_eq-Decides (meta_digest commit) (meta_digest commit)).1 refl)))

  pub are_apart : AreDistinct contents → AreDistinct trees → AreApart all
  are_apart files dirs = table_apart kinds.File contents (map (built_of kinds.DirTree) trees ++ last) files trees_none
      (table_apart kinds.DirTree trees last dirs (last_none kinds.DirTree refl refl)
      (ap (λ t. if t then Some (objects.Meta commit) else None) (and_none (bytes_eq (meta_digest commit) (meta_digest meta)) false refl), (refl, tt)))

  pub are_good : AreDistinct contents → AreDistinct trees → AreUsable kinds.File contents → AreUsable kinds.DirTree trees → object_fault (meta_digest meta) kinds.DirMeta (Some (objects.Meta meta)) ≡ None
      → object_fault (meta_digest commit) kinds.Commit (Some (objects.Meta commit)) ≡ None → AllByRecursion IsGood all
  are_good files dirs file tree m c = table_good kinds.File contents (map (built_of kinds.DirTree) trees ++ last) files file (table_good kinds.DirTree trees last dirs tree (m, (c, tt)))
