-- What a refused commit leaves is settled where all was.
use Rattle.std.proofs.Common.{◌≡◌, ◌≢◌, ◌⊎◌, inl, inr, ℕ, List, [], ◌∷◌, ◌++◌, refl, sym, ◌∙◌, ap, subst, codes}
use Rattle.std.proofs.lemmas.Bool.{cases_Bool, cond-false}
use Rattle.fp_base.specs.declared.object.ObjKind.{ObjKind}
use Rattle.fp_base.proofs.Texts.{bytes_eq-false as text_apart}
use Rattle.fp_host.specs.Paths.{Elements, absent}
use Rattle.fp_host.specs.View.{View, IsTree}
use Rattle.fp_host.specs.Outcome.{Disk, gone, spot_of, shows}
use Rattle.fp_host.proofs.Above.{above_rest}
use Rattle.fp_host.proofs.Shown.{now_left}
use Rattle.fp_name.specs.Hex.{hex}
use Rattle.fp_name.specs.Refs.{Ref, is_ref, ref_text}
use Rattle.fp_name.proofs.Refs.{ref_of-ref_text}
use Rattle.fp_small.specs.Files.{KeepsFiles}
use Rattle.fp_small.specs.Places.{repo, tmp}
use Rattle.fp_small.specs.declared.state.State.{State}
use Rattle.fp_small.proofs.Within.{within_rest}
use Rattle.ost_model.specs.Objects.{object_path, store}
use Rattle.ost_model.specs.Order.{In, order}
use Rattle.dep_states.specs.Names.{config, remotes_conf, pins_file, active, commit_dir, ref_file}
use Rattle.dep_states.specs.Settled.{Settled, Used, HasBytes}
use Rattle.dep_states.specs.Shown.{Shows, ref_seen, row_seen, away, by_active}
use Rattle.dep_states.specs.Sound.{Keeps, Opens}
use Rattle.dep_states.specs.Zones.{outward}
use Rattle.dep_states.proofs.Deployed.{outward_append, top}
use Rattle.dep_states.proofs.Rows.{head_of}
use Rattle.dep_states.proofs.Switching.{second, word_no_repo}
use Rattle.dep_states.proofs.Work.{no_object_above}
use Rattle.dep_switch.proofs.Spots.{shown_at, same_shown}
use Rattle.op_change.specs.Bringing.{LeftName, work_gone, work_folder, unkept_gone}
use Rattle.op_change.proofs.Apart.{object_off_dir, store_by}

-- two images that show one state see the same refs
seen_same : (i j : Disk) {s : State} → Shows i s → Shows j s → (name : Ref) → ref_seen j name ≡ ref_seen i name
seen_same i j {s = s} first second name = elim (cases_Bool (is_ref name)) [
  | inl good ↦ sym (ap (row_seen j) (ref_of-ref_text name good)) ∙ second.refs (ref_text name) ∙ sym (first.refs (ref_text name)) ∙ ap (row_seen i) (ref_of-ref_text name good)
  | inr bad ↦ cond-false (is_ref name) (by_active j name (j (active name))) away bad ∙ sym (cond-false (is_ref name) (by_active i name (i (active name))) away bad)
]

module _ {s : State} {name : Ref} {commit : List ℕ} {u w : View} (before : IsTree u) (after : IsTree w) (files : KeepsFiles u w) (names : (q : Elements) → (w.names q ≡ u.names q) ⊎ LeftName s name commit q (w.names q)) (was : Opens s u) (is : Opens s w) where
  same_at : (q : Elements) → w.names q ≡ u.names q → shows w q ≡ shows u q
  same_at q same = same_shown before after files q same

  gone_at : (q : Elements) → w.names q ≡ absent → shows w q ≡ gone
  gone_at q none = shown_at after q ∙ ap (spot_of w.files) none

  -- apart from the folders for work, a path is as it was, or nothing is there
  as_before : (q : Elements) → q ≢ repo → q ≢ tmp → (shows w q ≡ shows u q) ⊎ (shows w q ≡ gone)
  as_before q r t = elim (names q) [
    | inl same ↦ inl (same_at q same)
    | inr (work_gone above none) ↦ inr (gone_at q none)
    | inr (work_folder (inl at) made) ↦ absurd (r at)
    | inr (work_folder (inr at) made) ↦ absurd (t at)
    | inr (unkept_gone off within none) ↦ inr (gone_at q none)
  ]

  still_gone : (q : Elements) → q ≢ repo → q ≢ tmp → shows u q ≡ gone → shows w q ≡ gone
  still_gone q r t none = elim (as_before q r t) [ inl same ↦ same ∙ none | inr now ↦ now ]

  was_there : (q : Elements) → q ≢ repo → q ≢ tmp → shows w q ≢ gone → shows w q ≡ shows u q
  was_there q r t some = elim (as_before q r t) [ inl same ↦ same | inr now ↦ absurd (some now) ]

  seen : (n : Ref) → ref_seen (shows w) n ≡ ref_seen (shows u) n
  seen n = seen_same (shows u) (shows w) (was.shown (shows u) (now_left u)) (is.shown (shows w) (now_left w)) n

  keeps_on : {n : Ref} {c : List ℕ} → Keeps (shows u) n c → Keeps (shows w) n c
  keeps_on k = record { row = k.row; shown = seen _ ∙ k.shown; of_row = k.of_row }

  -- objects

  object_same : (d : List ℕ) (kind : ObjKind) → w.names (object_path repo d kind) ≡ u.names (object_path repo d kind)
  object_same d kind = elim (names (object_path repo d kind)) [
    | inl same ↦ same
    | inr (work_gone above none) ↦ absurd (no_object_above d kind above)
    | inr (work_folder (inl at) made) ↦ absurd (cc at)
    | inr (work_folder (inr at) made) ↦ absurd (cc at)
    | inr (unkept_gone off within none) ↦ absurd (object_off_dir name commit d kind within)
  ]

  stored : store repo (shows w) ≡ store repo (shows u)
  stored = store_by before after files object_same

  used_on : {d : List ℕ} {kind : ObjKind} → Used (shows u) d kind → Used (shows w) d kind
  used_on x = record {
    name = x.name;
    commit = x.commit;
    place = x.place;
    kept = keeps_on x.kept;
    inside = subst (λ have. In (order have x.commit) x.place) (sym stored) x.inside;
    digest_is = x.digest_is;
    kind_is = x.kind_is;
  }

  -- ref files

  file_same : (origin : List ℕ) (n : Ref) → w.names (ref_file origin n) ≡ u.names (ref_file origin n)
  file_same origin n = elim (names (ref_file origin n)) [
    | inl same ↦ same
    | inr (work_gone above none) ↦
        let below = above_rest tmp (ref_file origin n) above in
        absurd (text_apart (codes "refs") (codes "tmp") refl (ap (λ (q : Elements). second (outward q)) below.1 ∙ ap second (outward_append below.0 tmp [])))
    | inr (work_folder (inl at) made) ↦ absurd (cc at)
    | inr (work_folder (inr at) made) ↦ absurd (cc at)
    | inr (unkept_gone off within none) ↦
        let below = within_rest (commit_dir name commit) (ref_file origin n) within in
        absurd (word_no_repo name.kind (sym (ap top below.1 ∙ ap head_of (outward_append below.0 (commit_dir name commit) []))))
  ]

  file_shown : (origin : List ℕ) (n : Ref) → shows w (ref_file origin n) ≡ shows u (ref_file origin n)
  file_shown origin n = same_at (ref_file origin n) (file_same origin n)

  -- the files of the old layout

  no_repo : (x : List ℕ) → codes "repo" ≢ x → x ∷ [] ≢ repo
  no_repo x off at = off (sym (ap head_of at))

  config_off : config ≢ repo
  config_off = no_repo (codes "config") (text_apart (codes "repo") (codes "config") refl)

  remotes_off : remotes_conf ≢ repo
  remotes_off = no_repo (codes "remotes.conf") (text_apart (codes "repo") (codes "remotes.conf") refl)

  pins_off : pins_file ≢ repo
  pins_off = no_repo (codes "pins") (text_apart (codes "repo") (codes "pins") refl)

  old_gone : Settled (shows u) → shows w config ≢ gone → (shows w remotes_conf ≡ gone) × (shows w pins_file ≡ gone)
  old_gone settled some =
      let none = settled.no_old (λ g. some (was_there config config_off (λ at. cc at) some ∙ g)) in
      (still_gone remotes_conf remotes_off (λ at. cc at) none.0, still_gone pins_file pins_off (λ at. cc at) none.1)

  below_tmp : (x : List ℕ) (rest : Elements) → (rest ++ (x ∷ tmp) ≢ repo) × (rest ++ (x ∷ tmp) ≢ tmp)
  below_tmp x [] = (λ at. cc at, λ at. cc at)
  below_tmp x (a ∷ []) = (λ at. cc at, λ at. cc at)
  below_tmp x (a ∷ (b ∷ [])) = (λ at. cc at, λ at. cc at)
  below_tmp x (a ∷ (b ∷ (c ∷ rest))) = (λ at. cc at, λ at. cc at)

  pub settled_left : Settled (shows u) → Settled (shows w)
  settled_left settled = record {
    no_work = λ x rest. still_gone (rest ++ (x ∷ tmp)) (below_tmp x rest).0 (below_tmp x rest).1 (settled.no_work x rest);
    used = λ d kind digits some. used_on (settled.used d kind digits (λ none. some (same_at (object_path repo d kind) (object_same d kind) ∙ none)));
    dirs = λ n c good digits some. keeps_on (settled.dirs n c good digits (λ none. some (was_there (commit_dir n c) (λ at. cc at) (λ at. cc at) some ∙ none)));
    ref_files = λ n row has. subst (HasBytes (hex row.commit ++ 10 ∷ [])) (sym (file_shown row.origin n)) (settled.ref_files n row (sym (seen n) ∙ has));
    no_other = λ origin n remote good some. let h = settled.no_other origin n remote good (λ none. some (file_shown origin n ∙ none)) in (h.0, seen n ∙ h.1, h.2);
    no_old = old_gone settled;
  }
