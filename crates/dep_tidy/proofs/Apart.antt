-- Paths that are told apart by their outermost elements.
use Rattle.std.proofs.Common.{◌≡◌, ◌≢◌, ◌⊎◌, inl, inr, ℕ, List, [], ◌∷◌, refl, sym, ◌∙◌, ap, subst, codes, length, Contains, arith}
use Rattle.std.specs.List.{AllByRecursion}
use Rattle.fp_host.specs.Paths.{Elements, IsAbove}
use Rattle.fp_base.specs.declared.object.ObjKind.{ObjKind}
use Rattle.fp_base.proofs.Lists.{in_none, in_cases}
use Rattle.fp_base.proofs.Texts.{bytes_eq-false}
use Rattle.fp_name.specs.declared.kind.RefKind.{RefKind}
use Rattle.fp_name.specs.Kinds.{kind_word}
use Rattle.fp_name.specs.Refs.{Ref}
use Rattle.fp_name.proofs.Refs.{word_apart}
use Rattle.fp_small.specs.Places.{repo, tmp}
use Rattle.fp_small.specs.Clear.{IsWithin}
use Rattle.fp_small.specs.Replace.{folders_of}
use Rattle.fp_small.proofs.Within.{within_rest}
use Rattle.ost_model.specs.Objects.{object_path}
use Rattle.dep_states.specs.Names.{config, commit_dir, ref_file}
use Rattle.dep_states.specs.Zones.{outward}
use Rattle.dep_states.specs.Sound.{IsOld, is_remotes, is_pins}
use Rattle.dep_states.proofs.Deployed.{outward_append, top}
use Rattle.dep_states.proofs.Rows.{head_of}
use Rattle.dep_states.proofs.Switching.{second}
use Rattle.dep_states.proofs.Work.{work_second, no_second}

-- ---- below a folder

pub dir_top : (name : Ref) (commit : List ℕ) (q : Elements) → IsWithin (commit_dir name commit) q → top q ≡ kind_word name.kind
dir_top name commit q within = let is = within_rest (commit_dir name commit) q within in ap top is.1 ∙ ap head_of (outward_append is.0 (commit_dir name commit) [])

-- ---- told apart

pub by_top : {p q : Elements} {x y : List ℕ} → top p ≡ x → top q ≡ y → x ≢ y → p ≢ q
by_top a b off same = off (sym a ∙ ap top same ∙ b)

pub by_second : {p q : Elements} {x y : List ℕ} → second (outward p) ≡ x → second (outward q) ≡ y → x ≢ y → p ≢ q
by_second a b off same = off (sym a ∙ ap (λ (l : Elements). second (outward l)) same ∙ b)

pub tmp_no_objects : codes "tmp" ≢ codes "objects"
tmp_no_objects = bytes_eq-false (codes "tmp") (codes "objects") refl

pub refs_no_objects : codes "refs" ≢ codes "objects"
refs_no_objects = bytes_eq-false (codes "refs") (codes "objects") refl

pub tmp_no_refs : codes "tmp" ≢ codes "refs"
tmp_no_refs = bytes_eq-false (codes "tmp") (codes "refs") refl

pub repo_no_config : codes "repo" ≢ codes "config"
repo_no_config = bytes_eq-false (codes "repo") (codes "config") refl

pub word_no_config : (k : RefKind) → kind_word k ≢ codes "config"
word_no_config k = word_apart k (codes "config") refl refl

old_top : (p : Elements) → IsOld p → (top p ≡ codes "remotes.conf") ⊎ (top p ≡ codes "pins")
old_top p (is_remotes e) = inl (ap top e)
old_top p (is_pins e) = inr (ap top e)

pub old_apart : {p : Elements} {x : List ℕ} → IsOld p → x ≢ codes "remotes.conf" → x ≢ codes "pins" → top p ≢ x
old_apart {p = p} old a b at = elim (old_top p old) [ inl r ↦ a (sym at ∙ r) | inr q ↦ b (sym at ∙ q) ]

pub old_no_repo : {p : Elements} → IsOld p → top p ≢ codes "repo"
old_no_repo old = old_apart old (bytes_eq-false (codes "repo") (codes "remotes.conf") refl) (bytes_eq-false (codes "repo") (codes "pins") refl)

pub old_no_config : IsOld config → ⊥
old_no_config old = old_apart old (bytes_eq-false (codes "config") (codes "remotes.conf") refl) (bytes_eq-false (codes "config") (codes "pins") refl) refl

-- ---- the folders above a ref file

pub each_of : (P : Elements → Type 0) (l : List Elements) → AllByRecursion P l → (q : Elements) → Contains l q → P q
each_of P [] all q has = absurd (in_none q has)
each_of P (x ∷ l) all q has = elim (in_cases x l q has) [ inl is ↦ subst P (sym is) all.0 | inr later ↦ each_of P l all.1 q later ]

-- below `repo`, and not in `repo/objects`
abbrev pub IsBeside : Elements → Type 0
IsBeside q = (top q ≡ codes "repo") × (second (outward q) ≢ codes "objects")

refs_beside : (q : Elements) → top q ≡ codes "repo" → second (outward q) ≡ codes "refs" → IsBeside q
refs_beside q t s = (t, λ e. refs_no_objects (sym s ∙ e))

nothing_no_objects : [] ≢ codes "objects"
nothing_no_objects e = cc e

pub file_beside : (origin : List ℕ) (name : Ref) → IsBeside (ref_file origin name)
file_beside origin name = refs_beside (ref_file origin name) refl refl

pub folder_beside : (origin : List ℕ) (name : Ref) (q : Elements) → Contains (folders_of (ref_file origin name)) q → IsBeside q
folder_beside origin name = each_of IsBeside (folders_of (ref_file origin name)) (
  (refl, nothing_no_objects),
  (
    refs_beside (codes "refs" ∷ repo) refl refl,
    (
      refs_beside (codes "remotes" ∷ (codes "refs" ∷ repo)) refl refl,
      (
        refs_beside (origin ∷ (codes "remotes" ∷ (codes "refs" ∷ repo))) refl refl,
        (
          refs_beside (kind_word name.kind ∷ (origin ∷ (codes "remotes" ∷ (codes "refs" ∷ repo)))) refl refl,
          (
            refs_beside (name.id ∷ (kind_word name.kind ∷ (origin ∷ (codes "remotes" ∷ (codes "refs" ∷ repo))))) refl refl,
            (refs_beside (name.arch ∷ (name.id ∷ (kind_word name.kind ∷ (origin ∷ (codes "remotes" ∷ (codes "refs" ∷ repo)))))) refl refl, ((refl, nothing_no_objects), ((refl, λ e. tmp_no_objects e), tt))),
          ),
        ),
      ),
    ),
  ),
)

-- none of them is as long as a ref file
pub folder_shorter : (origin : List ℕ) (name : Ref) (q : Elements) → Contains (folders_of (ref_file origin name)) q → length q ≢ 8
folder_shorter origin name = each_of (λ q. length q ≢ 8) (folders_of (ref_file origin name)) ((λ e. omega (arith, e)), ((λ e. omega (arith, e)), ((λ e. omega (arith, e)), ((λ e. omega (arith, e)), ((λ e. omega (arith, e)), ((λ e. omega (arith, e)), ((λ e. omega (arith, e)), ((λ e. omega (arith, e)), ((λ e. omega (arith, e)), tt)))))))))

refs_off : codes "refs" ≢ codes "tmp"
refs_off e = tmp_no_refs (sym e)

not_itself : IsAbove tmp tmp → ⊥
not_itself (inl e) = cc e
not_itself (inr (inl e)) = cc e
not_itself (inr (inr none)) = none

pub folder_no_work : (origin : List ℕ) (name : Ref) (q : Elements) → Contains (folders_of (ref_file origin name)) q → IsAbove tmp q → ⊥
folder_no_work origin name = each_of (λ q. IsAbove tmp q → ⊥) (folders_of (ref_file origin name)) (
  no_second repo (λ e. cc e),
  (
    no_second (codes "refs" ∷ repo) refs_off,
    (
      no_second (codes "remotes" ∷ (codes "refs" ∷ repo)) refs_off,
      (
        no_second (origin ∷ (codes "remotes" ∷ (codes "refs" ∷ repo))) refs_off,
        (
          no_second (kind_word name.kind ∷ (origin ∷ (codes "remotes" ∷ (codes "refs" ∷ repo)))) refs_off,
          (
            no_second (name.id ∷ (kind_word name.kind ∷ (origin ∷ (codes "remotes" ∷ (codes "refs" ∷ repo))))) refs_off,
            (no_second (name.arch ∷ (name.id ∷ (kind_word name.kind ∷ (origin ∷ (codes "remotes" ∷ (codes "refs" ∷ repo)))))) refs_off, (no_second repo (λ e. cc e), (not_itself, tt))),
          ),
        ),
      ),
    ),
  ),
)

pub file_no_work : (origin : List ℕ) (name : Ref) → IsAbove tmp (ref_file origin name) → ⊥
file_no_work origin name above = tmp_no_refs (sym (work_second (ref_file origin name) (inr above)))

-- ---- work names

pub name_above : (x : List ℕ) → IsAbove tmp (x ∷ tmp)
name_above x = inl refl

pub name_second : (x : List ℕ) → second (outward (x ∷ tmp)) ≡ codes "tmp"
name_second x = refl

-- ---- objects

pub object_top : (d : List ℕ) (kind : ObjKind) → top (object_path repo d kind) ≡ codes "repo"
object_top d kind = refl

pub object_second : (d : List ℕ) (kind : ObjKind) → second (outward (object_path repo d kind)) ≡ codes "objects"
object_second d kind = refl
