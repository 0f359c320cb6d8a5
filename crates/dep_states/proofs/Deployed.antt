-- An image with a deployed ref is Sound.
use Rattle.std.proofs.Common.{◌≡◌, ◌≢◌, ◌⊎◌, inl, inr, ℕ, List, [], ◌∷◌, ◌++◌, Bool, true, false, not, ◌||◌, leb, length, Some, None, refl, sym, ◌∙◌, ap, subst, arith}
use Rattle.std.specs.Prelude.{codes}
use Rattle.std.specs.Str.{bytes_eq, is_utf8, chars}
use Rattle.std.specs.List.{AllByRecursion}
use Rattle.std.proofs.lemmas.Bool.{cases_Bool, both_ways, leb-true, or_cases, not-true}
use Rattle.std.proofs.lemmas.List.{length-append}
use Rattle.std.proofs.lemmas.Slice.Eq.{bytes_eq-Decides}
use lib.Utf8.{encode}
use Rattle.fp_host.specs.Paths.{Elements, path_eq}
use Rattle.fp_host.specs.Outcome.{Spot, gone, holds}
use Rattle.fp_host.proofs.Separate.{path_decides}
use Rattle.fp_keyfile.specs.KeyFile.{file_of, with_pair, with_group}
use Rattle.fp_keyfile.specs.Lines.{line_says}
use Rattle.fp_name.specs.Grammar.{is_id, is_arch, is_branch, is_remote_name}
use Rattle.fp_name.specs.Hex.{hex, unhex, bytes_of}
use Rattle.fp_name.specs.Refs.{Ref, is_ref, ref_text}
use Rattle.fp_small.specs.Places.{repo}
use Rattle.fp_small.specs.declared.state.RefRow.{RefRow}
use Rattle.fl_meta.specs.Metadata.{meta_of}
use Rattle.fp_base.specs.declared.object.ObjKind.TheVariants as kinds
use Rattle.ost_model.specs.Contents.{file_digest as digest_of_file, meta_digest, header}
use Rattle.ost_model.specs.Fields.{DirRow, FileRow}
use Rattle.ost_model.specs.Objects.{Have, object_path, store}
use Rattle.ost_model.specs.Order.{first_fault, tree_at}
use Rattle.ost_model.specs.Look.{nothing, directory, file_at, look, next, entry_in}
use Rattle.ost_model.specs.Standing.{Stands, expected, is_metadata, deploy_name, metadata_name}
use Rattle.ost_model.specs.Stores.{IsObject}
use Rattle.sha2.specs.Sha256.{sha256, digest_bytes, hash_after, compress, rounds, schedule, first_words}
use Rattle.fp_base.proofs.Options.{some_none, none_some}
use Rattle.fp_base.proofs.Texts.{bytes_eq-false}
use Rattle.fp_base.proofs.Booleans.{if_true}
use Rattle.dep_states.specs.Names.{active, text_dir, commit_dir, deploy, override_path}
use Rattle.fp_name.specs.Grammar.{is_override}
use Rattle.dep_states.specs.Deploy.{deploy_of}
use Rattle.dep_states.specs.Shown.{away, there, by_active, deploy_at, ref_seen, override_seen, override_at, at_name, ref_key, override_key, Shows}
use Rattle.dep_states.specs.Zones.{Allowed, Fits, zone, outward, outward_onto, IsFileOrGone}
use Rattle.dep_states.specs.Sound.{reads_as, Keeps, IsKeptBy, Sound}
use Rattle.dep_states.specs.Samples.{layer}
use Rattle.dep_states.specs.Deployed.{platform, metadata_bytes, file_digest, tree_bytes, tree_digest, dir_bytes, dir_digest, commit_bytes, commit, deploy_bytes, commit_text, deployed_rows, deployed_disk, deployed_row, deployed_state}
use Rattle.dep_states.proofs.Empty.{allowed_gone}
use Rattle.dep_states.proofs.Listed.{refs_listed, overrides_listed}
use Rattle.dep_states.proofs.Rows.{none_at, each_at, head_of, tail_of}
use Rattle.dep_states.proofs.Single.{there_is}
use Rattle.dep_states.proofs.Worked.{active_same, config_there, layer_there}
use Rattle.dep_states.proofs.Away.{override_away, layer_away}

-- ---- what computes

whole : first_fault (store repo deployed_disk) commit ≡ None
unfolding hex digest_of_file meta_digest header sha256 digest_bytes hash_after compress rounds schedule first_words is_utf8 chars encode
whole = refl

deploy_there : deploy_at platform commit_text (holds 5 420 deploy_bytes) ≡ there deployed_row
unfolding deploy_at deploy_of hex unhex bytes_of is_remote_name is_utf8 chars encode
deploy_there = refl

abbrev pub root_row : DirRow
root_row = record { name = []; tree = tree_digest; meta = dir_digest }

abbrev pub metadata_row : FileRow
metadata_row = record { name = codes "metadata"; digest = file_digest }

abbrev pub have : Have
have = store repo deployed_disk

pub root_is : look have commit [] ≡ directory root_row
unfolding hex is_utf8 chars encode
root_is = refl

pub tree_is : tree_at have tree_digest ≡ Some (record { files = metadata_row ∷ []; dirs = [] })
unfolding hex is_utf8 chars encode
tree_is = refl

described : is_metadata (reads_as platform.kind) (expected repo deployed_disk (look have commit metadata_name)) ≡ true
unfolding reads_as meta_of file_of line_says with_pair with_group hex is_utf8 chars encode
described = refl

no_deploy : look have commit deploy_name ≡ nothing
unfolding hex is_utf8 chars encode
no_deploy = refl

file_is : deployed_disk (object_path repo file_digest kinds.File) ≡ holds 1 420 metadata_bytes
unfolding hex
file_is = refl

pub dir_is : commit_dir platform commit ≡ text_dir platform commit_text
unfolding hex
dir_is = refl

good : is_ref platform ≡ true
unfolding is_id is_arch is_branch
good = refl

-- ---- the rows may stand where they stand

ok : (p : Elements) (spot : Spot) → Fits (zone (outward p)) p spot → leb (length p) 128 ≡ true → Allowed p spot
ok p spot fits few = record { fits = fits; short = inr (leb-true (length p) 128 few) }

file_object : IsObject repo (object_path repo file_digest kinds.File) (holds 1 420 metadata_bytes)
unfolding hex digest_of_file header sha256 digest_bytes hash_after compress rounds schedule first_words is_utf8 chars encode
file_object = record { digest = file_digest; kind = kinds.File; digits = refl; name = refl; named = record { bits = refl; good = refl } }

tree_object : IsObject repo (object_path repo tree_digest kinds.DirTree) (holds 2 420 tree_bytes)
unfolding hex meta_digest sha256 digest_bytes hash_after compress rounds schedule first_words is_utf8 chars encode
tree_object = record { digest = tree_digest; kind = kinds.DirTree; digits = refl; name = refl; named = record { bits = refl; good = refl } }

dir_object : IsObject repo (object_path repo dir_digest kinds.DirMeta) (holds 3 420 dir_bytes)
unfolding hex meta_digest sha256 digest_bytes hash_after compress rounds schedule first_words is_utf8 chars encode
dir_object = record { digest = dir_digest; kind = kinds.DirMeta; digits = refl; name = refl; named = record { bits = refl; good = refl } }

commit_object : IsObject repo (object_path repo commit kinds.Commit) (holds 4 420 commit_bytes)
unfolding hex meta_digest sha256 digest_bytes hash_after compress rounds schedule first_words is_utf8 chars encode
commit_object = record { digest = commit; kind = kinds.Commit; digits = refl; name = refl; named = record { bits = refl; good = refl } }

rows_allowed : AllByRecursion (λ row. Allowed row.0 row.1) deployed_rows
unfolding is_id is_arch is_branch is_remote_name unhex bytes_of hex
rows_allowed = (
  ok _ _ tt refl,
  (
    ok _ _ tt refl,
    (
      ok _ _ tt refl,
      (
        ok _ _ (inr (refl, refl)) refl,
        (
          ok _ _ (inr file_object) refl,
          (
            ok _ _ (inr (refl, refl)) refl,
            (
              ok _ _ (inr tree_object) refl,
              (
                ok _ _ (inr (refl, refl)) refl,
                (
                  ok _ _ (inr dir_object) refl,
                  (
                    ok _ _ (inr (refl, refl)) refl,
                    (
                      ok _ _ (inr commit_object) refl,
                      (
                        ok _ _ tt refl,
                        (ok _ _ tt refl, (ok _ _ tt refl, (ok _ _ tt refl, (ok _ _ tt refl, (ok _ _ tt refl, (ok _ _ tt refl, (ok _ _ tt refl, (ok _ _ tt refl, (ok _ _ tt refl, (ok _ _ tt refl, (ok _ _ tt refl, (ok _ _ tt refl, (ok _ _ tt refl, (ok _ _ tt refl, (ok _ _ tt refl, (ok _ _ tt refl, (ok _ _ tt refl, (ok _ _ tt refl, (ok _ _ tt refl, (ok _ _ tt refl, (ok _ _ tt refl, tt))))))))))))))))))))),
                      ),
                    ),
                  ),
                ),
              ),
            ),
          ),
        ),
      ),
    ),
  ),
)

-- ---- what Look finds

module _ (have : Have) (commit : List ℕ) (e : DirRow) (f : FileRow) (root : look have commit [] ≡ directory e) (tree : tree_at have e.tree ≡ Some (record { files = f ∷ []; dirs = [] })) where
  first_is : (x : List ℕ) → look have commit (x ∷ []) ≡ entry_in x (Some (record { files = f ∷ []; dirs = [] }))
  first_is x = ap (next have x) root ∙ ap (entry_in x) tree

  pub found : (x : List ℕ) → bytes_eq f.name x ≡ true → look have commit (x ∷ []) ≡ file_at f.digest
  found x t = first_is x ∙ rw t refl

  pub not_found : (x : List ℕ) → bytes_eq f.name x ≡ false → look have commit (x ∷ []) ≡ nothing
  not_found x t = first_is x ∙ rw t refl

  -- nothing is below a file, or below nothing
  pub deeper : (x y : List ℕ) (up : Elements) → look have commit (x ∷ (y ∷ up)) ≡ nothing
  deeper x y [] = elim (cases_Bool (bytes_eq f.name y)) [ inl t ↦ ap (next have x) (found y t) | inr n ↦ ap (next have x) (not_found y n) ]
  deeper x y (z ∷ up) = ap (next have x) (deeper y z up)

-- ---- what isn't there

pub outward_append : (a b : Elements) (more : List (List ℕ)) → outward_onto (a ++ b) more ≡ outward_onto b (outward_onto a more)
outward_append [] b more = refl
outward_append (x ∷ a) b more = outward_append a b (x ∷ more)

abbrev pub top : Elements → List ℕ
top p = head_of (outward p)

abbrev pub the_dir : Elements
the_dir = text_dir platform commit_text

-- far below the commit's folder
deep_test : Elements → Bool
deep_test q = not (bytes_eq (top q) (codes "runtime")) || leb (length q) 6

deep_apart : (rest : Elements) (x y : List ℕ) (q : Elements) → deep_test q ≡ true → (x ∷ (y ∷ rest)) ++ the_dir ≢ q
unfolding deep_test
deep_apart rest x y q t e = elim (or_cases (not (bytes_eq (top q) (codes "runtime"))) (leb (length q) 6) t) [
  | inl other ↦ bytes_eq-false (top q) (codes "runtime") (not-true (bytes_eq (top q) (codes "runtime")) other) (sym (ap top e) ∙ ap head_of (outward_append (x ∷ (y ∷ rest)) the_dir []))
  | inr few ↦ absurd (omega (arith, ap length e, length-append (x ∷ (y ∷ rest)) the_dir, leb-true (length q) 6 few))
]

deep_gone : (rest : Elements) (x y : List ℕ) → deployed_disk ((x ∷ (y ∷ rest)) ++ the_dir) ≡ gone
unfolding deep_test
deep_gone rest x y = none_at ((x ∷ (y ∷ rest)) ++ the_dir) deep_test deployed_rows (deep_apart rest x y) refl

-- directly in the commit's folder
near_test : Elements → Bool
near_test q = not (path_eq (tail_of q) the_dir) || (bytes_eq (head_of q) (codes "metadata") || bytes_eq (head_of q) (codes "deploy"))

near_apart : (x : List ℕ) → x ≢ codes "metadata" → x ≢ codes "deploy" → (q : Elements) → near_test q ≡ true → x ∷ the_dir ≢ q
unfolding near_test
near_apart x a b q t e = elim (or_cases (not (path_eq (tail_of q) the_dir)) (bytes_eq (head_of q) (codes "metadata") || bytes_eq (head_of q) (codes "deploy")) t) [
  | inl other ↦ both_ways (path_eq (tail_of q) the_dir) (not-true (path_eq (tail_of q) the_dir) other) ((path_decides (tail_of q) the_dir).1 (sym (ap tail_of e)))
  | inr named ↦ elim (or_cases (bytes_eq (head_of q) (codes "metadata")) (bytes_eq (head_of q) (codes "deploy")) named) [
    | inl m ↦ a (ap head_of e ∙ (bytes_eq-Decides (head_of q) (codes "metadata")).0 m)
    | inr d ↦ b (ap head_of e ∙ (bytes_eq-Decides (head_of q) (codes "deploy")).0 d)
  ]
]

near_gone : (x : List ℕ) → x ≢ codes "metadata" → x ≢ codes "deploy" → deployed_disk (x ∷ the_dir) ≡ gone
unfolding near_test
near_gone x a b = none_at (x ∷ the_dir) near_test deployed_rows (near_apart x a b) refl

-- an `active`
active_test : Elements → Bool
active_test q = not (bytes_eq (head_of q) (codes "active")) || path_eq q (active platform)

active_apart : (name : Ref) → name ≢ platform → (q : Elements) → active_test q ≡ true → active name ≢ q
unfolding active_test
active_apart name off q t e = elim (or_cases (not (bytes_eq (head_of q) (codes "active"))) (path_eq q (active platform)) t) [
  | inl other ↦ bytes_eq-false (head_of q) (codes "active") (not-true (bytes_eq (head_of q) (codes "active")) other) (sym (ap head_of e))
  | inr same ↦ off (active_same name platform (e ∙ (path_decides q (active platform)).0 same))
]

active_gone : (name : Ref) → name ≢ platform → deployed_disk (active name) ≡ gone
unfolding active_test
active_gone name off = none_at (active name) active_test deployed_rows (active_apart name off) refl

-- ---- the one ref

pub row_is : ref_seen deployed_disk platform ≡ there deployed_row
row_is = if_true (is_ref platform) (deploy_at platform commit_text (holds 5 420 deploy_bytes)) away good ∙ deploy_there

pub other_away : (name : Ref) → name ≢ platform → ref_seen deployed_disk name ≡ away
other_away name off = layer_away (is_ref name) (by_active deployed_disk name (deployed_disk (active name))) (ap (by_active deployed_disk name) (active_gone name off))

pub ref_cases : (name : Ref) → (name ≡ platform) ⊎ (name ≢ platform)
ref_cases name = elim (cases_Bool (path_eq (active name) (active platform))) [
  | inl t ↦ inl (active_same name platform ((path_decides (active name) (active platform)).0 t))
  | inr f ↦ inr (λ e. both_ways (path_eq (active name) (active platform)) f ((path_decides (active name) (active platform)).1 (ap active e)))
]

pub away_there : {r : RefRow} → away ≡ there r → ⊥
away_there e = cc

by_row : (row : RefRow) (c : List ℕ) → row ≡ deployed_row → IsKeptBy row c → c ≡ commit
by_row row c is (inl same) = sym same ∙ ap (λ (r : RefRow). r.commit) is
by_row row c is (inr (p, previous, same)) = absurd (none_some (sym (ap (λ (r : RefRow). r.previous) is) ∙ previous))

kept_is : (name : Ref) (c : List ℕ) → Keeps deployed_disk name c → (name ≡ platform) × (c ≡ commit)
kept_is name c k = elim (ref_cases name) [
  | inl same ↦ (same, by_row k.row c (there_is (sym k.shown ∙ ap (ref_seen deployed_disk) same ∙ row_is)) k.of_row)
  | inr off ↦ absurd (away_there (sym (other_away name off) ∙ k.shown))
]

-- ---- the commit stands

paths_are : (rest : Elements) → rest ≢ deploy_name → deployed_disk (rest ++ the_dir) ≡ expected repo deployed_disk (look have commit rest)
paths_are [] off = ap (expected repo deployed_disk) (sym root_is)
paths_are (x ∷ []) off = elim (cases_Bool (bytes_eq (codes "metadata") x)) [
  | inl t ↦ let same : codes "metadata" ≡ x = (bytes_eq-Decides (codes "metadata") x).0 t in
      ap (λ y. deployed_disk (y ∷ the_dir)) (sym same) ∙ sym file_is ∙ ap (expected repo deployed_disk) (sym (found have commit root_row metadata_row root_is tree_is x t))
  | inr f ↦ near_gone x (λ e. both_ways (bytes_eq (codes "metadata") x) f ((bytes_eq-Decides (codes "metadata") x).1 (sym e))) (λ e. off (ap (λ y. y ∷ []) e))
      ∙ ap (expected repo deployed_disk) (sym (not_found have commit root_row metadata_row root_is tree_is x f))
]
paths_are (x ∷ (y ∷ rest)) off = deep_gone rest x y ∙ ap (expected repo deployed_disk) (sym (deeper have commit root_row metadata_row root_is tree_is x y rest))

stands : Stands (reads_as platform.kind) repo deployed_disk commit the_dir
stands = record { paths = paths_are; whole = whole; described = described; no_deploy = no_deploy }

-- ---- the image

pub deployed_sound : Sound deployed_disk
deployed_sound = record {
  kinds = each_at Allowed allowed_gone deployed_rows rows_allowed;
  commits = λ name c k. let is = kept_is name c k in
      subst (λ d. Stands (reads_as name.kind) repo deployed_disk d (commit_dir name d)) (sym is.1)
      (subst (λ (n : Ref). Stands (reads_as n.kind) repo deployed_disk commit (commit_dir n commit)) (sym is.0)
      (subst (λ dir. Stands (reads_as platform.kind) repo deployed_disk commit dir) (sym dir_is) stands));
  deploys = λ name c k. let is = kept_is name c k in
      subst (λ d. IsFileOrGone (deployed_disk (deploy (commit_dir name d)))) (sym is.1)
      (subst (λ (n : Ref). IsFileOrGone (deployed_disk (deploy (commit_dir n commit)))) (sym is.0)
      (subst (λ dir. IsFileOrGone (deployed_disk (deploy dir))) (sym dir_is) tt));
}

others : (name : Ref) → is_ref name ≡ true → at_name ref_key (deployed_row ∷ []) (ref_text name) ≡ None → ref_seen deployed_disk name ≡ away
others name _ none = elim (ref_cases name) [
  | inl same ↦ absurd (some_none (sym (ap (λ (n : Ref). at_name ref_key (deployed_row ∷ []) (ref_text n)) same) ∙ none))
  | inr off ↦ other_away name off
]

-- an override but the global one
override_test : Elements → Bool
override_test q = not (path_eq (tail_of q) (codes "overrides" ∷ [])) || bytes_eq (head_of q) (codes "global")

override_apart : (name : List ℕ) → name ≢ codes "global" → (q : Elements) → override_test q ≡ true → override_path name ≢ q
unfolding override_test
override_apart name off q t e = elim (or_cases (not (path_eq (tail_of q) (codes "overrides" ∷ []))) (bytes_eq (head_of q) (codes "global")) t) [
  | inl other ↦ both_ways (path_eq (tail_of q) (codes "overrides" ∷ [])) (not-true (path_eq (tail_of q) (codes "overrides" ∷ [])) other) ((path_decides (tail_of q) (codes "overrides" ∷ [])).1 (sym (ap tail_of e)))
  | inr named ↦ off (ap head_of e ∙ (bytes_eq-Decides (head_of q) (codes "global")).0 named)
]

override_gone : (name : List ℕ) → name ≢ codes "global" → deployed_disk (override_path name) ≡ gone
unfolding override_test
override_gone name off = none_at (override_path name) override_test deployed_rows (override_apart name off) refl

other_layers : (name : List ℕ) → at_name override_key (layer ∷ []) name ≡ None → override_seen deployed_disk name ≡ away
other_layers name none =
    let off : name ≢ codes "global" = λ same. some_none (sym (ap (at_name override_key (layer ∷ [])) same) ∙ none) in
    layer_away (is_override name) (override_at name (deployed_disk (override_path name))) (ap (override_at name) (override_gone name off) ∙ override_away name)

pub deployed_shows : Shows deployed_disk deployed_state
deployed_shows = record {
  settings = config_there 8;
  refs = refs_listed deployed_disk (deployed_row ∷ []) (record { good = good; is = row_is }, tt) others;
  refs_ascend = refl;
  overrides = overrides_listed deployed_disk (layer ∷ []) (record { is = layer_there 9 }, tt) other_layers;
  overrides_ascend = refl;
}
