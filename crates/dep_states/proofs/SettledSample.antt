-- An image with a deployed ref is Settled.
use Rattle.std.proofs.Common.{◌≡◌, ◌≢◌, inl, inr, ℕ, List, [], ◌∷◌, ◌++◌, Bool, true, false, not, ◌||◌, eqb, leb, length, refl, sym, ◌∙◌, ap, subst, arith}
use Rattle.std.specs.Prelude.{codes}
use Rattle.std.specs.Str.{bytes_eq, is_utf8, chars}
use Rattle.std.specs.List.{list_all}
use Rattle.std.proofs.lemmas.Bool.{cases_Bool, both_ways, leb-true, or_cases, not-true}
use Rattle.std.proofs.lemmas.List.{length-append}
use Rattle.std.proofs.lemmas.Slice.Eq.{bytes_eq-Decides}
use lib.Utf8.{encode}
use Rattle.fp_base.specs.declared.object.ObjKind.{ObjKind}
use Rattle.fp_base.specs.declared.object.ObjKind.TheVariants as kinds
use Rattle.fp_base.proofs.Texts.{bytes_eq-false}
use Rattle.fp_host.specs.Paths.{Elements, path_eq}
use Rattle.fp_host.specs.Outcome.{gone}
use Rattle.fp_host.proofs.Separate.{path_decides}
use Rattle.fp_name.specs.Hex.{hex, is_digest}
use Rattle.fp_name.specs.Refs.{Ref}
use Rattle.fp_name.proofs.Refs.{word_apart}
use Rattle.fp_small.specs.Places.{repo, tmp}
use Rattle.fp_small.specs.declared.state.RefRow.{RefRow}
use Rattle.ost_model.specs.Objects.{object_path}
use Rattle.ost_model.proofs.Stores.{one_name}
use Rattle.dep_states.specs.Names.{commit_dir, ref_file}
use Rattle.dep_states.specs.Shown.{there, ref_seen}
use Rattle.dep_states.specs.Zones.{outward}
use Rattle.dep_states.specs.Sound.{Keeps}
use Rattle.dep_states.specs.Settled.{Used, HasBytes, HasOrigin, Settled}
use Rattle.dep_states.specs.Deployed.{platform, file_digest, tree_digest, dir_digest, commit, deployed_rows, deployed_disk, deployed_row}
use Rattle.dep_states.proofs.Deployed.{outward_append, top, the_dir, ref_cases, row_is, other_away, away_there, dir_is}
use Rattle.dep_states.proofs.Rows.{none_at, head_of, tail_of}
use Rattle.dep_states.proofs.Single.{there_is}
use Rattle.dep_states.proofs.Sparing.{hex_exact}
use Rattle.dep_states.proofs.Switch.{digits_no_active}
use Rattle.dep_states.proofs.Switching.{second}
use Rattle.dep_states.proofs.Worked.{active_same}

abbrev under_top : Elements → List ℕ
under_top q = second (outward q)

-- ---- no work

work_test : Elements → Bool
work_test q = not (bytes_eq (top q) (codes "repo")) || (not (bytes_eq (under_top q) (codes "tmp")) || leb (length q) 2)

work_apart : (x : List ℕ) (rest : Elements) (q : Elements) → work_test q ≡ true → rest ++ (x ∷ tmp) ≢ q
unfolding work_test
work_apart x rest q t e =
    let outer = outward_append rest (x ∷ tmp) [] in
    elim (or_cases (not (bytes_eq (top q) (codes "repo"))) _ t) [
      | inl other ↦ bytes_eq-false (top q) (codes "repo") (not-true _ other) (sym (ap top e) ∙ ap head_of outer)
      | inr more ↦ elim (or_cases (not (bytes_eq (under_top q) (codes "tmp"))) _ more) [
        | inl other ↦ bytes_eq-false (under_top q) (codes "tmp") (not-true _ other) (sym (ap under_top e) ∙ ap second outer)
        | inr few ↦ absurd (omega (arith, ap length e, length-append rest (x ∷ tmp), leb-true (length q) 2 few))
      ]
    ]

no_work : (x : List ℕ) (rest : Elements) → deployed_disk (rest ++ (x ∷ tmp)) ≡ gone
unfolding work_test
no_work x rest = none_at (rest ++ (x ∷ tmp)) work_test deployed_rows (work_apart x rest) refl

-- ---- the four objects

abbrev file_path : Elements
file_path = object_path repo file_digest kinds.File

abbrev tree_path : Elements
tree_path = object_path repo tree_digest kinds.DirTree

abbrev dir_path : Elements
dir_path = object_path repo dir_digest kinds.DirMeta

abbrev commit_path : Elements
commit_path = object_path repo commit kinds.Commit

is_one : Elements → Bool
is_one q = path_eq q file_path || (path_eq q tree_path || (path_eq q dir_path || path_eq q commit_path))

object_test : Elements → Bool
object_test q = not (eqb (length q) 4) || (not (bytes_eq (top q) (codes "repo")) || (not (bytes_eq (under_top q) (codes "objects")) || is_one q))

object_apart : (d : List ℕ) (kind : ObjKind) → is_one (object_path repo d kind) ≡ false → (q : Elements) → object_test q ≡ true → object_path repo d kind ≢ q
unfolding object_test
object_apart d kind off q t e =
    elim (or_cases (not (eqb (length q) 4)) _ t) [
      | inl other ↦ both_ways (eqb (length q) 4) (not-true _ other) (ap (λ p. eqb (length p) 4) (sym e))
      | inr more ↦ elim (or_cases (not (bytes_eq (top q) (codes "repo"))) _ more) [
        | inl other ↦ bytes_eq-false (top q) (codes "repo") (not-true _ other) (sym (ap top e))
        | inr rest ↦ elim (or_cases (not (bytes_eq (under_top q) (codes "objects"))) _ rest) [
          | inl other ↦ bytes_eq-false (under_top q) (codes "objects") (not-true _ other) (sym (ap under_top e))
          | inr one ↦ both_ways (is_one q) (ap is_one (sym e) ∙ off) one
        ]
      ]
    ]

rows_tested : list_all (λ row. object_test row.0) deployed_rows ≡ true
unfolding object_test is_one hex
rows_tested = refl

object_gone : (d : List ℕ) (kind : ObjKind) → is_one (object_path repo d kind) ≡ false → deployed_disk (object_path repo d kind) ≡ gone
object_gone d kind off = none_at (object_path repo d kind) object_test deployed_rows (object_apart d kind off) rows_tested

kept : Keeps deployed_disk platform commit
kept = record { row = deployed_row; shown = row_is; of_row = inl refl }

file_used : Used deployed_disk file_digest kinds.File
unfolding hex is_utf8 chars encode
file_used = record { name = platform; commit = commit; place = record { digest = file_digest; kind = kinds.File; depth = 0 }; kept = kept; inside = inr (inr (inr (inl refl))); digest_is = refl; kind_is = refl }

tree_used : Used deployed_disk tree_digest kinds.DirTree
unfolding hex is_utf8 chars encode
tree_used = record { name = platform; commit = commit; place = record { digest = tree_digest; kind = kinds.DirTree; depth = 0 }; kept = kept; inside = inr (inl refl); digest_is = refl; kind_is = refl }

dir_used : Used deployed_disk dir_digest kinds.DirMeta
unfolding hex is_utf8 chars encode
dir_used = record { name = platform; commit = commit; place = record { digest = dir_digest; kind = kinds.DirMeta; depth = 0 }; kept = kept; inside = inr (inr (inl refl)); digest_is = refl; kind_is = refl }

commit_used : Used deployed_disk commit kinds.Commit
unfolding hex is_utf8 chars encode
commit_used = record { name = platform; commit = commit; place = record { digest = commit; kind = kinds.Commit; depth = 0 }; kept = kept; inside = inl refl; digest_is = refl; kind_is = refl }

of_name : (d e : List ℕ) (k m : ObjKind) → is_digest d ≡ true → is_digest e ≡ true → path_eq (object_path repo d k) (object_path repo e m) ≡ true → Used deployed_disk e m → Used deployed_disk d k
of_name d e k m of_d of_e same used =
    let one = one_name repo d e k m of_d of_e ((path_decides (object_path repo d k) (object_path repo e m)).0 same) in
    subst (λ (x : List ℕ). Used deployed_disk x k) (sym one.0) (subst (λ (x : ObjKind). Used deployed_disk e x) (sym one.1) used)

one_used : (d : List ℕ) (kind : ObjKind) → is_digest d ≡ true → is_one (object_path repo d kind) ≡ true → Used deployed_disk d kind
unfolding is_one
one_used d kind good t =
    let p = object_path repo d kind in
    elim (or_cases (path_eq p file_path) (path_eq p tree_path || (path_eq p dir_path || path_eq p commit_path)) t) [
      | inl a ↦ of_name d file_digest kind kinds.File good refl a file_used
      | inr more ↦ elim (or_cases (path_eq p tree_path) (path_eq p dir_path || path_eq p commit_path) more) [
        | inl a ↦ of_name d tree_digest kind kinds.DirTree good refl a tree_used
        | inr rest ↦ elim (or_cases (path_eq p dir_path) (path_eq p commit_path) rest) [
          | inl a ↦ of_name d dir_digest kind kinds.DirMeta good refl a dir_used
          | inr a ↦ of_name d commit kind kinds.Commit good refl a commit_used
        ]
      ]
    ]

used : (d : List ℕ) (kind : ObjKind) → is_digest d ≡ true → deployed_disk (object_path repo d kind) ≢ gone → Used deployed_disk d kind
used d kind good is = elim (cases_Bool (is_one (object_path repo d kind))) [
  | inl t ↦ one_used d kind good t
  | inr f ↦ absurd (is (object_gone d kind f))
]

-- ---- the one folder of a commit

dir_test : Elements → Bool
dir_test q = not (eqb (length q) 5) || (bytes_eq (top q) (codes "repo") || (bytes_eq (head_of q) (codes "active") || path_eq q the_dir))

dir_apart : (name : Ref) (c : List ℕ) → is_digest c ≡ true → ((name ≡ platform) × (c ≡ commit) → ⊥) → (q : Elements) → dir_test q ≡ true → commit_dir name c ≢ q
unfolding dir_test
dir_apart name c good off q t e =
    elim (or_cases (not (eqb (length q) 5)) _ t) [
      | inl other ↦ both_ways (eqb (length q) 5) (not-true _ other) (ap (λ p. eqb (length p) 5) (sym e))
      | inr more ↦ elim (or_cases (bytes_eq (top q) (codes "repo")) _ more) [
        | inl is ↦ word_apart name.kind (codes "repo") refl refl (ap top e ∙ (bytes_eq-Decides (top q) (codes "repo")).0 is)
        | inr rest ↦ elim (or_cases (bytes_eq (head_of q) (codes "active")) _ rest) [
          | inl is ↦ digits_no_active c (ap head_of e ∙ (bytes_eq-Decides (head_of q) (codes "active")).0 is)
          | inr is ↦ off (the_one (e ∙ (path_decides q the_dir).0 is ∙ sym dir_is))
        ]
      ]
    ]
  where
    the_one : commit_dir name c ≡ commit_dir platform commit → (name ≡ platform) × (c ≡ commit)
    the_one same = (active_same name platform (ap (λ p. codes "active" ∷ tail_of p) same), hex_exact c commit good refl (ap head_of same))

dirs : (name : Ref) (c : List ℕ) → is_digest c ≡ true → deployed_disk (commit_dir name c) ≢ gone → Keeps deployed_disk name c
unfolding dir_test
dirs name c good is = elim (ref_cases name) [
  | inr off ↦ absurd (is (none_at (commit_dir name c) dir_test deployed_rows (dir_apart name c good (λ both. off both.0)) refl))
  | inl same ↦ elim (cases_Bool (bytes_eq c commit)) [
    | inl t ↦ subst (λ (n : Ref). Keeps deployed_disk n c) (sym same) (subst (Keeps deployed_disk platform) (sym ((bytes_eq-Decides c commit).0 t)) kept)
    | inr f ↦ absurd (is (none_at (commit_dir name c) dir_test deployed_rows (dir_apart name c good (λ both. bytes_eq-false c commit f both.1)) refl))
  ]
]

-- ---- the one ref file

the_file : HasBytes (hex deployed_row.commit ++ 10 ∷ []) (deployed_disk (ref_file deployed_row.origin platform))
unfolding hex
the_file = refl

ref_files : (name : Ref) (row : RefRow) → ref_seen deployed_disk name ≡ there row → HasBytes (hex row.commit ++ 10 ∷ []) (deployed_disk (ref_file row.origin name))
ref_files name row e = elim (ref_cases name) [
  | inl same ↦ let is : deployed_row ≡ row = there_is (sym row_is ∙ sym (ap (ref_seen deployed_disk) same) ∙ e) in
      subst (λ (n : Ref). HasBytes (hex row.commit ++ 10 ∷ []) (deployed_disk (ref_file row.origin n))) (sym same)
      (subst (λ (r : RefRow). HasBytes (hex r.commit ++ 10 ∷ []) (deployed_disk (ref_file r.origin platform))) is the_file)
  | inr off ↦ absurd (away_there (sym (other_away name off) ∙ e))
]

file_test : Elements → Bool
file_test q = not (eqb (length q) 8) || path_eq q (ref_file (codes "hub") platform)

file_apart : (origin : List ℕ) (name : Ref) → ((origin ≡ codes "hub") × (name ≡ platform) → ⊥) → (q : Elements) → file_test q ≡ true → ref_file origin name ≢ q
unfolding file_test
file_apart origin name off q t e =
    elim (or_cases (not (eqb (length q) 8)) _ t) [
      | inl other ↦ both_ways (eqb (length q) 8) (not-true _ other) (ap (λ p. eqb (length p) 8) (sym e))
      | inr is ↦ off (the_one (e ∙ (path_decides q (ref_file (codes "hub") platform)).0 is))
    ]
  where
    front : Elements → Elements
    front (a ∷ (b ∷ (c ∷ (d ∷ rest)))) = a ∷ (b ∷ (c ∷ (d ∷ [])))
    front _ = []

    fifth : Elements → List ℕ
    fifth (a ∷ (b ∷ (c ∷ (d ∷ (e ∷ rest))))) = e
    fifth _ = []

    the_one : ref_file origin name ≡ ref_file (codes "hub") platform → (origin ≡ codes "hub") × (name ≡ platform)
    the_one same = (ap fifth same, active_same name platform (ap (λ p. codes "active" ∷ front p) same))

no_other : (origin : List ℕ) (name : Ref) → deployed_disk (ref_file origin name) ≢ gone → HasOrigin deployed_disk name origin
unfolding file_test
no_other origin name is = elim (ref_cases name) [
  | inr off ↦ absurd (is (none_at (ref_file origin name) file_test deployed_rows (file_apart origin name (λ both. off both.1)) refl))
  | inl same ↦ elim (cases_Bool (bytes_eq origin (codes "hub"))) [
    | inl t ↦ (deployed_row, ap (ref_seen deployed_disk) same ∙ row_is, sym ((bytes_eq-Decides origin (codes "hub")).0 t))
    | inr f ↦ absurd (is (none_at (ref_file origin name) file_test deployed_rows (file_apart origin name (λ both. bytes_eq-false origin (codes "hub") f both.0)) refl))
  ]
]

pub deployed_settled : Settled deployed_disk
deployed_settled = record {
  no_work = no_work;
  used = used;
  dirs = λ name c good digest is. dirs name c digest is;
  ref_files = ref_files;
  no_other = λ origin name good ref is. no_other origin name is;
  no_old = λ is. (refl, refl);
}
