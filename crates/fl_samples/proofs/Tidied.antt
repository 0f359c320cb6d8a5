-- An image of rows is settled where its objects, folders of commits and ref files are those that are
-- kept.
use Rattle.std.proofs.Common.{◌≡◌, ◌≢◌, inl, inr, ℕ, List, [], ◌∷◌, ◌++◌, Bool, true, not, ◌&&◌, ◌||◌, eqb, length, refl, sym, ◌∙◌, ap, subst, append_assoc}
use Rattle.std.specs.Prelude.{codes}
use Rattle.std.specs.Str.{bytes_eq}
use Rattle.std.specs.List.{AllByRecursion, list_all, list_any}
use Rattle.std.proofs.lemmas.Bool.{and_parts, or_cases}
use Rattle.std.proofs.lemmas.Slice.Eq.{bytes_eq-Decides}
use Rattle.fp_base.specs.Objects.{is_kind}
use Rattle.fp_base.specs.declared.object.ObjKind.{ObjKind}
use Rattle.fp_base.proofs.Booleans.{true_false}
use Rattle.fp_base.proofs.ObjectKinds.{kind_is as kinds_same}
use Rattle.fp_host.specs.Paths.{Elements, path_eq}
use Rattle.fp_host.specs.Outcome.{Spot, gone, folder, Disk}
use Rattle.fp_host.proofs.Separate.{path_decides}
use Rattle.fp_name.specs.Hex.{hex, is_digest}
use Rattle.fp_name.specs.Kinds.{kind_word}
use Rattle.fp_name.specs.Refs.{Ref}
use Rattle.fp_name.specs.declared.kind.RefKind.{RefKind}
use Rattle.fp_name.specs.declared.kind.RefKind.TheVariants.{App, Runtime}
use Rattle.fp_small.specs.Places.{repo, tmp}
use Rattle.fp_small.specs.declared.state.State.{State}
use Rattle.fp_small.specs.declared.state.RefRow.{RefRow}
use Rattle.ost_model.specs.Objects.{object_path, store}
use Rattle.ost_model.specs.Order.{Place, order}
use Rattle.ost_model.specs.Stores.{objects_folder}
use Rattle.ost_model.proofs.Stores.{one_name}
use Rattle.ost_refs.specs.Places.{remotes}
use Rattle.dep_states.specs.Names.{config, remotes_conf, pins_file, active, commit_dir, ref_file}
use Rattle.dep_states.specs.Samples.{rows_at}
use Rattle.dep_states.specs.Settled.{Used, HasBytes, HasOrigin, Settled}
use Rattle.dep_states.specs.Shown.{there, ref_seen, Shows}
use Rattle.dep_states.specs.Sound.{Keeps}
use Rattle.dep_states.specs.Zones.{outward}
use Rattle.dep_states.proofs.Rows.{head_of, tail_of}
use Rattle.dep_states.proofs.Sparing.{hex_exact}
use Rattle.dep_states.proofs.Switch.{digits_no_active, file_same}
use Rattle.dep_states.proofs.Worked.{active_same}
use Rattle.fl_samples.specs.Objects.{Stored}
use Rattle.fl_samples.proofs.Below.{below, below_at}
use Rattle.fl_samples.proofs.Rows.{tested, some_passes, of_all, all_pass}
use Rattle.fl_samples.proofs.Seen.{RowWith, each_shown}

-- ---- no work

not_root : (rest : Elements) (x : List ℕ) → rows_at (([], folder) ∷ []) (rest ++ x ∷ []) ≡ gone
not_root [] x = refl
not_root (y ∷ rest) x = refl

no_work : (rs : List (Elements × Spot)) → below tmp rs ≡ ([], folder) ∷ [] → (x : List ℕ) (rest : Elements) → rows_at rs (rest ++ (x ∷ tmp)) ≡ gone
no_work rs empty x rest =
    ap (rows_at rs) (sym (append_assoc rest (x ∷ []) tmp)) ∙ below_at tmp (rest ++ x ∷ []) rs ∙ ap (λ l. rows_at l (rest ++ x ∷ [])) empty ∙ not_root rest x

-- ---- objects

-- an object's name is that of one of these
abbrev pub is_known : List Stored → Elements → Bool
is_known os q = not (path_eq (tail_of (tail_of q)) (objects_folder repo)) || list_any (λ (o : Stored). path_eq q (object_path repo o.digest o.kind)) os

pub record IsUsed (disk : Disk) (o : Stored) : Type 0 where
  pub digits : is_digest o.digest ≡ true
  pub used : Used disk o.digest o.kind

known_used : (disk : Disk) (os : List Stored) → AllByRecursion (IsUsed disk) os → (d : List ℕ) (kind : ObjKind) → is_digest d ≡ true → is_known os (object_path repo d kind) ≡ true → Used disk d kind
known_used disk os all d kind good known =
    let found = some_passes (λ (o : Stored). path_eq (object_path repo d kind) (object_path repo o.digest o.kind)) os known in
    let o = found.0 in
    let is = of_all (IsUsed disk) os all o found.1 in
    let same = one_name repo d o.digest kind o.kind good is.digits ((path_decides (object_path repo d kind) (object_path repo o.digest o.kind)).0 found.2) in
    subst (λ (x : List ℕ). Used disk x kind) (sym same.0) (subst (λ (k : ObjKind). Used disk o.digest k) (sym same.1) is.used)

-- the object stands at this place
abbrev pub is_at : Stored → Place → Bool
is_at o place = bytes_eq place.digest o.digest && is_kind place.kind o.kind

-- each is a digest, and stands at one of the places
abbrev pub all_at : List Place → List Stored → Bool
all_at places os = list_all (λ (o : Stored). is_digest o.digest && list_any (is_at o) places) os

used_at : {disk : Disk} {name : Ref} {commit : List ℕ} → Keeps disk name commit → (o : Stored) → (is_digest o.digest && list_any (is_at o) (order (store repo disk) commit)) ≡ true → IsUsed disk o
used_at {disk = disk} {name = name} {commit = commit} kept o t =
    let a = and_parts (is_digest o.digest) (list_any (is_at o) (order (store repo disk) commit)) t in
    let found = some_passes (is_at o) (order (store repo disk) commit) a.1 in
    let place = found.0 in
    let same = and_parts (bytes_eq place.digest o.digest) (is_kind place.kind o.kind) found.2 in
    record {
      digits = a.0;
      used = record {
        name = name;
        commit = commit;
        place = place;
        kept = kept;
        inside = found.1;
        digest_is = (bytes_eq-Decides place.digest o.digest).0 same.0;
        kind_is = kinds_same place.kind o.kind same.1;
      };
    }

-- what stands in the order of a kept commit is used
pub all_used : {disk : Disk} {name : Ref} {commit : List ℕ} → Keeps disk name commit → (os : List Stored) → all_at (order (store repo disk) commit) os ≡ true → AllByRecursion (IsUsed disk) os
all_used {disk = disk} {commit = commit} kept os all = all_pass (λ (o : Stored). is_digest o.digest && list_any (is_at o) (order (store repo disk) commit)) (IsUsed disk) (used_at kept) os all

-- ---- folders of commits

abbrev pub is_word : List ℕ → Bool
is_word w = bytes_eq w (codes "app") || bytes_eq w (codes "runtime")

-- a folder of a commit is that of one of these
abbrev pub is_folder : List (Ref × List ℕ) → Elements → Bool
is_folder kept q = not (eqb (length q) 5) || (not (is_word (head_of (outward q))) || (bytes_eq (head_of q) (codes "active") || list_any (λ (k : Ref × List ℕ). path_eq q (commit_dir k.0 k.1)) kept))

pub record IsKept (disk : Disk) (k : Ref × List ℕ) : Type 0 where
  pub digits : is_digest k.1 ≡ true
  pub kept : Keeps disk k.0 k.1

word_is : (kind : RefKind) → is_word (kind_word kind) ≡ true
word_is App = refl
word_is Runtime = refl

same_dir : (name other : Ref) (c d : List ℕ) → is_digest c ≡ true → is_digest d ≡ true → commit_dir name c ≡ commit_dir other d → (name ≡ other) × (c ≡ d)
same_dir name other c d of_c of_d same = (active_same name other (ap (λ p. codes "active" ∷ tail_of p) same), hex_exact c d of_c of_d (ap head_of same))

dirs : (disk : Disk) (kept : List (Ref × List ℕ)) → AllByRecursion (IsKept disk) kept → (name : Ref) (c : List ℕ) → is_digest c ≡ true → is_folder kept (commit_dir name c) ≡ true → Keeps disk name c
dirs disk kept all name c good t = elim (or_cases (not (is_word (kind_word name.kind))) _ t) [
  | inl none ↦ true_false (word_is name.kind) none
  | inr more ↦ elim (or_cases (bytes_eq (hex c) (codes "active")) _ more) [
    | inl is ↦ absurd (digits_no_active c ((bytes_eq-Decides (hex c) (codes "active")).0 is))
    | inr any ↦
        let found = some_passes (λ (k : Ref × List ℕ). path_eq (commit_dir name c) (commit_dir k.0 k.1)) kept any in
        let k = found.0 in
        let is = of_all (IsKept disk) kept all k found.1 in
        let same = same_dir name k.0 c k.1 good is.digits ((path_decides (commit_dir name c) (commit_dir k.0 k.1)).0 found.2) in
        subst (λ (n : Ref). Keeps disk n c) (sym same.0) (subst (Keeps disk k.0) (sym same.1) is.kept)
  ]
]

-- ---- ref files

abbrev pub fifth_tail : Elements → Elements
fifth_tail q = tail_of (tail_of (tail_of (tail_of (tail_of q))))

-- a file of a remote's ref is that of one of these
abbrev pub is_ref_file : List RefRow → Elements → Bool
is_ref_file rows q = not (path_eq (fifth_tail q) (remotes repo)) || list_any (λ (row : RefRow). path_eq q (ref_file row.origin row.name)) rows

pub record IsShownRow (disk : Disk) (row : RefRow) : Type 0 where
  pub shown : ref_seen disk row.name ≡ there row

no_other : (disk : Disk) (rows : List RefRow) → AllByRecursion (IsShownRow disk) rows → (origin : List ℕ) (name : Ref) → is_ref_file rows (ref_file origin name) ≡ true → HasOrigin disk name origin
no_other disk rows all origin name t =
    let found = some_passes (λ (row : RefRow). path_eq (ref_file origin name) (ref_file row.origin row.name)) rows t in
    let row = found.0 in
    let same = file_same origin row.origin name row.name ((path_decides (ref_file origin name) (ref_file row.origin row.name)).0 found.2) in
    (row, ap (ref_seen disk) same.1 ∙ (of_all (IsShownRow disk) rows all row found.1).shown, sym same.0)

-- ---- all of it

abbrev pub HasRefFile : Disk → RefRow → Type 0
HasRefFile disk row = HasBytes (hex row.commit ++ 10 ∷ []) (disk (ref_file row.origin row.name))

pub record IsTidy (rs : List (Elements × Spot)) (s : State) (os : List Stored) (kept : List (Ref × List ℕ)) : Type 0 where
  pub work : below tmp rs ≡ ([], folder) ∷ []
  pub known : list_all (λ r. is_known os r.0) rs ≡ true
  pub used : AllByRecursion (IsUsed (rows_at rs)) os
  pub folders : list_all (λ r. is_folder kept r.0) rs ≡ true
  pub keeps : AllByRecursion (IsKept (rows_at rs)) kept
  pub refs : list_all (λ r. is_ref_file s.refs r.0) rs ≡ true
  pub shown : AllByRecursion (IsShownRow (rows_at rs)) s.refs
  pub files : AllByRecursion (RowWith (HasRefFile (rows_at rs))) s.refs
  pub old : rows_at rs config ≢ gone → (rows_at rs remotes_conf ≡ gone) × (rows_at rs pins_file ≡ gone)

has_file : (disk : Disk) (name : Ref) (row : RefRow) → HasRefFile disk row → row.name ≡ name → HasBytes (hex row.commit ++ 10 ∷ []) (disk (ref_file row.origin name))
has_file disk name row has same = subst (λ (n : Ref). HasBytes (hex row.commit ++ 10 ∷ []) (disk (ref_file row.origin n))) same has

pub settled_tidy : {rs : List (Elements × Spot)} {s : State} {os : List Stored} {kept : List (Ref × List ℕ)} → Shows (rows_at rs) s → IsTidy rs s os kept → Settled (rows_at rs)
settled_tidy {rs = rs} {s = s} {os = os} {kept = kept} shows is = record {
  no_work = no_work rs is.work;
  used = λ d kind good there. known_used (rows_at rs) os is.used d kind good (tested (is_known os) rs is.known (object_path repo d kind) there);
  dirs = λ name c good digits there. dirs (rows_at rs) kept is.keeps name c digits (tested (is_folder kept) rs is.folders (commit_dir name c) there);
  ref_files = λ name row seen. let found = each_shown (HasRefFile (rows_at rs)) shows is.files name row seen in has_file (rows_at rs) name row found.0 found.1;
  no_other = λ origin name remote good there. no_other (rows_at rs) s.refs is.shown origin name (tested (is_ref_file s.refs) rs is.refs (ref_file origin name) there);
  no_old = is.old;
}
