-- Images that differ in `config`, in overrides and in work alone.
use Rattle.std.proofs.Common.{◌≡◌, ◌≢◌, ◌⊎◌, inl, inr, ℕ, List, [], ◌∷◌, ◌++◌, refl, sym, ◌∙◌, ap, subst, codes}
use Rattle.std.specs.Prelude.{◌↔◌}
use Rattle.fp_host.specs.Paths.{Elements, IsAbove}
use Rattle.fp_host.specs.View.{View, IsTree}
use Rattle.fp_host.specs.Outcome.{Disk, gone, shows}
use Rattle.fp_host.specs.Frame.{Keeps, NoPath}
use Rattle.fp_base.specs.declared.object.ObjKind.{ObjKind}
use Rattle.fp_base.proofs.Texts.{bytes_eq-false}
use Rattle.fp_name.specs.Hex.{hex}
use Rattle.fp_name.specs.Kinds.{kind_word}
use Rattle.fp_name.specs.Refs.{Ref}
use Rattle.fp_name.proofs.Refs.{word_apart}
use Rattle.fp_small.specs.Places.{repo, tmp}
use Rattle.fp_small.specs.Clear.{IsWithin, GoneBelow, AbsentBelow, IsEmptied}
use Rattle.fp_small.proofs.Keeping.{files_kept}
use Rattle.fp_small.proofs.Within.{within_rest}
use Rattle.ost_model.specs.Objects.{object_path, object_at, store}
use Rattle.ost_model.specs.Order.{In, order}
use Rattle.ost_store.proofs.Staying.{same_shows}
use Rattle.dep_states.specs.Names.{config, remotes_conf, pins_file, overrides_folder, branch_dir, active, text_dir, commit_dir, deploy, ref_file}
use Rattle.dep_states.specs.Shown.{ref_seen}
use Rattle.dep_states.specs.Sound.{Keeps as KeepsCommit, IsOld, is_remotes, is_pins}
use Rattle.dep_states.specs.Settled.{Settled, Used, HasBytes}
use Rattle.dep_states.specs.Zones.{outward}
use Rattle.dep_states.proofs.Deployed.{top, outward_append}
use Rattle.dep_states.proofs.Law.{ref_same}
use Rattle.dep_states.proofs.Rows.{head_of}
use Rattle.dep_states.proofs.Switching.{second, word_no_repo}
use Rattle.dep_states.proofs.Work.{work_top, work_second}
use Rattle.dep_tidy.specs.Tidy.{SettledButWork, IsSmallPlace, is_config, is_layer, is_repo, is_work}
use Rattle.dep_tidy.proofs.Apart.{old_no_repo, old_apart, tmp_no_objects, tmp_no_refs, repo_no_config, word_no_config}
use Rattle.dep_tidy.proofs.Views.{absent_gone}

pub work_apart : (disk : Disk) → Settled disk ↔ (SettledButWork disk × ((x : List ℕ) (rest : Elements) → disk (rest ++ (x ∷ tmp)) ≡ gone))
work_apart disk = (
  λ s. (record { used = s.used; dirs = s.dirs; ref_files = s.ref_files; no_other = s.no_other; no_old = s.no_old }, s.no_work),
  λ h. record { no_work = h.1; used = h.0.used; dirs = h.0.dirs; ref_files = h.0.ref_files; no_other = h.0.no_other; no_old = h.0.no_old },
)

-- ---- paths that are no small places

layer_top : (p : Elements) → IsWithin overrides_folder p → top p ≡ codes "overrides"
layer_top p within = let is = within_rest overrides_folder p within in ap top is.1 ∙ ap head_of (outward_append is.0 overrides_folder [])

repo_no_layer : codes "repo" ≢ codes "overrides"
repo_no_layer = bytes_eq-false (codes "repo") (codes "overrides") refl

-- below `repo`, in another folder than work
in_repo_off : {p : Elements} {x : List ℕ} → top p ≡ codes "repo" → second (outward p) ≡ x → x ≢ [] → x ≢ codes "tmp" → IsSmallPlace p → ⊥
in_repo_off t s some off (is_config e) = repo_no_config (sym t ∙ ap top e)
in_repo_off {p = p} t s some off (is_layer w) = repo_no_layer (sym t ∙ layer_top p w)
in_repo_off t s some off (is_repo e) = some (sym s ∙ ap (λ (q : Elements). second (outward q)) e)
in_repo_off {p = p} t s some off (is_work w) = off (sym s ∙ work_second p w)

object_off : (d : List ℕ) (kind : ObjKind) → IsSmallPlace (object_path repo d kind) → ⊥
object_off d kind = in_repo_off {p = object_path repo d kind} {x = codes "objects"} refl refl (λ e. cc e) (λ e. tmp_no_objects (sym e))

file_off : (origin : List ℕ) (name : Ref) → IsSmallPlace (ref_file origin name) → ⊥
file_off origin name = in_repo_off {p = ref_file origin name} {x = codes "refs"} refl refl (λ e. cc e) (λ e. tmp_no_refs (sym e))

-- what isn't at the top of a small place
top_off : {p : Elements} → top p ≢ codes "repo" → top p ≢ codes "config" → top p ≢ codes "overrides" → IsSmallPlace p → ⊥
top_off r c o (is_config e) = c (ap top e)
top_off {p = p} r c o (is_layer w) = o (layer_top p w)
top_off r c o (is_repo e) = r (ap top e)
top_off {p = p} r c o (is_work w) = r (work_top p w)

in_ref_off : (name : Ref) (rest : Elements) → IsSmallPlace (rest ++ branch_dir name) → ⊥
in_ref_off name rest =
    let t : top (rest ++ branch_dir name) ≡ kind_word name.kind = ap head_of (outward_append rest (branch_dir name) []) in
    top_off {p = rest ++ branch_dir name} (λ e. word_no_repo name.kind (sym t ∙ e)) (λ e. word_no_config name.kind (sym t ∙ e)) (λ e. word_apart name.kind (codes "overrides") refl refl (sym t ∙ e))

old_off : {p : Elements} → IsOld p → IsSmallPlace p → ⊥
old_off old = top_off (old_no_repo old)
    (old_apart old (bytes_eq-false (codes "config") (codes "remotes.conf") refl) (bytes_eq-false (codes "config") (codes "pins") refl))
    (old_apart old (bytes_eq-false (codes "overrides") (codes "remotes.conf") refl) (bytes_eq-false (codes "overrides") (codes "pins") refl))

-- ---- what they read

module _ (i j : Disk) (same : (p : Elements) → (IsSmallPlace p → ⊥) → j p ≡ i p) where
  seen_same : (name : Ref) → ref_seen j name ≡ ref_seen i name
  seen_same name = ref_same i j name (λ good. (same (active name) (in_ref_off name (codes "active" ∷ [])), λ text at. same (deploy (text_dir name text)) (in_ref_off name (codes "deploy" ∷ (text ∷ [])))))

  store_same : store repo j ≡ store repo i
  store_same = λ k d kind. object_at kind (same (object_path repo d kind) (object_off d kind) k)

  keeps_on : {name : Ref} {commit : List ℕ} → KeepsCommit i name commit → KeepsCommit j name commit
  keeps_on k = record { row = k.row; shown = seen_same _ ∙ k.shown; of_row = k.of_row }

  used_on : {d : List ℕ} {kind : ObjKind} → Used i d kind → Used j d kind
  used_on u = record {
    name = u.name;
    commit = u.commit;
    place = u.place;
    kept = keeps_on u.kept;
    inside = subst (λ have. In (order have u.commit) u.place) (sym store_same) u.inside;
    digest_is = u.digest_is;
    kind_is = u.kind_is;
  }

  still_there : (p : Elements) → (IsSmallPlace p → ⊥) → j p ≢ gone → i p ≢ gone
  still_there p off some none = some (same p off ∙ none)

  pub small_changes : (j config ≢ gone → (i config ≢ gone) ⊎ ((i remotes_conf ≡ gone) × (i pins_file ≡ gone))) → SettledButWork i → SettledButWork j
  small_changes old s = record {
    used = λ d kind digits some. used_on (s.used d kind digits (still_there (object_path repo d kind) (object_off d kind) some));
    dirs = λ name commit good digits some. keeps_on (s.dirs name commit good digits (still_there (commit_dir name commit) (in_ref_off name (hex commit ∷ [])) some));
    ref_files = λ name row is. subst (HasBytes (hex row.commit ++ 10 ∷ [])) (sym (same (ref_file row.origin name) (file_off row.origin name))) (s.ref_files name row (sym (seen_same name) ∙ is));
    no_other = λ origin name remote good some. let h = s.no_other origin name remote good (still_there (ref_file origin name) (file_off origin name) some) in (h.0, seen_same name ∙ h.1, h.2);
    no_old = λ some. let h : (i remotes_conf ≡ gone) × (i pins_file ≡ gone) = elim (old some) [ inl has ↦ s.no_old has | inr none ↦ none ] in (same remotes_conf (old_off (is_remotes refl)) ∙ h.0, same pins_file (old_off (is_pins refl)) ∙ h.1);
  }

-- ---- after work is taken away

pub settled_work : {u w : View} → IsTree u → IsTree w → Keeps (GoneBelow tmp) (AbsentBelow tmp) NoPath u w → IsEmptied tmp w → SettledButWork (shows u) → Settled (shows w)
settled_work {u = u} {w = w} tree next keeps empty before =
    let same : (p : Elements) → (IsSmallPlace p → ⊥) → shows w p ≡ shows u p = λ p off. same_shows tree next (files_kept keeps) p (elim (keeps.names p) [ inl is ↦ is | inr put ↦ absurd (off (is_work (inr put.0))) ]) in
    let config_same : shows w config ≡ shows u config = same_shows tree next (files_kept keeps) config (elim (keeps.names config) [ inl is ↦ is | inr put ↦ absurd (repo_no_config (sym (work_top config (inr put.0)))) ]) in
    (work_apart (shows w)).1 (small_changes (shows u) (shows w) same (λ some. inl (λ none. some (config_same ∙ none))) before, λ x rest. absent_gone next (rest ++ (x ∷ tmp)) (empty.gone (rest ++ (x ∷ tmp)) (above_work x rest)))
  where
    above_work : (x : List ℕ) (rest : Elements) → IsAbove tmp (rest ++ (x ∷ tmp))
    above_work x [] = inl refl
    above_work x (y ∷ rest) = inr (above_work x rest)
