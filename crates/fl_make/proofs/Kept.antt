-- What stays where a remote is made.
use Rattle.std.proofs.Common.{arith, true, ◌≡◌, ◌≢◌, ◌⊎◌, inl, inr, ℕ, List, [], ◌∷◌, ◌++◌, codes, refl, sym, ◌∙◌, ap, subst}
use Rattle.fp_host.specs.Paths.{Elements, Slot, dir, file, IsAbove}
use Rattle.fp_host.specs.View.{View, IsTree}
use Rattle.fp_host.specs.Calls.{syncs, done}
use Rattle.fp_host.specs.Outcome.{Disk, Leaves, gone, shows}
use Rattle.fp_host.proofs.Follow.{follows_sync}
use Rattle.fp_host.proofs.Kept.{tree_sync}
use Rattle.fp_host.proofs.Above.{above_rest, below_child, above_longer}
use Rattle.fp_host.proofs.Shown.{now_left}
use Rattle.fp_name.specs.Hex.{hex}
use Rattle.fp_name.specs.Kinds.{kind_word}
use Rattle.fp_name.specs.Refs.{Ref}
use Rattle.fp_base.specs.declared.object.ObjKind.{ObjKind}
use Rattle.fp_base.proofs.Texts.{bytes_eq-false}
use Rattle.fp_small.specs.Clear.{IsWithin}
use Rattle.fp_small.specs.Places.{repo, tmp}
use Rattle.fp_small.specs.declared.state.State.{State}
use Rattle.fp_small.proofs.Emptying.{within_child}
use Rattle.fp_small.proofs.Keeping.{files_same}
use Rattle.fp_small.proofs.Within.{above_work}
use Rattle.ost_model.specs.Objects.{Have, object_path, object_at, store}
use Rattle.ost_model.specs.Order.{In, order}
use Rattle.ost_model.specs.Stores.{objects_folder}
use Rattle.ost_refs.specs.Places.{remotes, place_path}
use Rattle.ost_refs.specs.declared.place.RefPlace.{RefPlace}
use Rattle.ost_store.specs.Created.{Creates, NoObject}
use Rattle.ost_store.proofs.Creating.{creates_refl, creates_none}
use Rattle.ost_store.proofs.Staying.{shown_stays}
use Rattle.ost_description.specs.Commits.{IsRead}
use Rattle.ost_description.specs.Descriptions.{described}
use Rattle.ost_export.specs.Storing.{IsNoWork, IsWork}
use Rattle.ost_export.specs.Exports.{ref_path, IsExportFolder, ExportsName, Exports, ExportsSynced, IsSpared, IsExported, WasExported}
use Rattle.ost_export.proofs.Paths.{none_below}
use Rattle.ost_export.proofs.Spared.{not_put, off_ref, other_ref, other_object}
use Rattle.dep_states.proofs.Lasting.{TakesFiles, a_made_one}
use Rattle.dep_states.specs.Names.{config, remotes_conf, pins_file, branch_dir, active, text_dir, commit_dir, deploy, ref_file}
use Rattle.dep_states.specs.Shown.{Shows, ref_seen}
use Rattle.dep_states.specs.Sound.{Keeps, IsSound, Opens}
use Rattle.dep_states.specs.Settled.{Settled, Used, HasBytes}
use Rattle.dep_states.specs.Zones.{outward}
use Rattle.dep_states.proofs.Deployed.{top, outward_append}
use Rattle.dep_states.proofs.Law.{frame_law, ref_same}
use Rattle.dep_states.proofs.Linked.{links_still, links_lasting}
use Rattle.dep_states.proofs.Rows.{head_of}
use Rattle.dep_states.proofs.Sparing.{settled_opens}
use Rattle.dep_states.proofs.Switching.{second, word_no_repo}
use Rattle.dep_states.proofs.Work.{work_top, work_second}
use Rattle.std.specs.List.{AllByRecursion, list_all}
use Rattle.std.proofs.lemmas.Bool.{and_parts}
use Rattle.ost_model.specs.declared.object.Object.{Object}
use Rattle.ost_model.specs.declared.object.Object.TheVariants as objects
use Rattle.ost_store.specs.Stage.{IsKeepable}
use Rattle.ost_commit.specs.declared.built.BuiltObject.{BuiltObject}
use Rattle.ost_export.specs.Staging.{IsKeepableObject}
use Rattle.fl_make.specs.Making.{remote_store, is_keepable, MayMake, in_store, in_work, above_store, of_work, Makes}
use Rattle.fl_make.proofs.Spared.{made_top, made_no_repo, word_no_made, folder_at, export_spares}

-- ---- before the sync nothing changes

spared_same : {q : Elements} {u w : View} → w ≡ u → IsSpared q u w
spared_same {q = q} same = record { name = ap (λ (v : View). v.names q) same; outcomes = λ disk left. (disk, subst (λ (v : View). Leaves v disk) same left, refl) }

pub makes_same : {remote : List ℕ} {r : Ref} {bytes : List ℕ} {u w : View} → w ≡ u → Makes remote r bytes u w
makes_same same = record {
  printed = ap (λ (v : View). v.printed) same;
  files = files_same same;
  names = λ q. inl (ap (λ (v : View). v.names q) same);
  refs = λ place other. spared_same same;
  objects = λ d kind there. spared_same same;
  links = links_still (λ q. ap (λ (v : View). v.names q) same);
  good = inl same;
  opens = λ sound s is. inl same;
}

-- ---- after it

pub outer : (remote : List ℕ) → IsNoWork (remote_store remote)
outer remote = record { no_work = λ h. off h }
  where
    off : IsWithin tmp (remote_store remote) → ⊥
    off (inl is) = made_no_repo (ap top is)
    off (inr (inl is)) = made_no_repo (sym (ap top is))
    off (inr (inr (inl is))) = cc is
    off (inr (inr (inr none))) = none

spared_since : {q : Elements} {u w : View} → IsSpared q (done syncs u) w → IsSpared q u w
spared_since {q = q} {u = u} s = record {
  name = s.name;
  outcomes = λ disk left.
      let b = s.outcomes disk left in
      let c = (follows_sync u).from b.0 b.1 in
      (c.0, c.1, b.2 ∙ elim (c.2 q) [ inl same ↦ same | inr none ↦ absurd none ]);
}

opens_synced : {u : View} {s : State} → IsTree u → IsSound u → Shows (shows u) s → Opens s (done syncs u)
opens_synced {u = u} tree sound is = settled_opens (tree_sync u tree) (record { earlier = λ q. refl; dirty = λ id. refl }) is (sound.sound (shows u) (now_left u))

work_above : {u : View} {q : Elements} → IsWork u q → IsAbove tmp q
work_above {q = q} work = elim work.within [
  | inl is ↦ subst (IsAbove tmp) (sym (is ∙ work.staging.is)) (inl refl)
  | inr above ↦ below_child _ tmp q (subst (λ (t : Elements). IsAbove t q) work.staging.is above)
]

-- what an export makes stays in the store
pub kept_within : (remote : List ℕ) (r : Ref) (q : Elements) → IsExported (remote_store remote) r q → IsAbove (remote_store remote) q
kept_within remote r q (inl name) = subst (IsAbove (remote_store remote)) (sym name.at) (inr (inr (inl refl)))
kept_within remote r q (inr (inl is)) = subst (IsAbove (remote_store remote)) (sym is) (inl refl)
kept_within remote r q (inr (inr is)) = subst (IsAbove (remote_store remote)) (sym is) (inr (inr (inr (inr (inr (inl refl))))))

data FolderPlace (remote : List ℕ) (p : Elements) : Type 0 where
  f_store : IsWithin (remote_store remote) p → FolderPlace remote p
  f_above : IsAbove p (remote_store remote) → FolderPlace remote p
  f_work : (p ≡ repo) ⊎ (p ≡ tmp) → FolderPlace remote p

-- a file comes to a name below `made`, or to work
where_files : (remote : List ℕ) (r : Ref) (q : Elements) (id : ℕ) → MayMake remote r q (file id) → TakesFiles q ⊎ IsWithin tmp q
where_files remote r q id (in_store within off) = inl (a_made_one (within_child remote (codes "made" ∷ []) q within))
where_files remote r q id (in_work above) = inr (inr above)
where_files remote r q id (above_store above is) = absurd (cc is)
where_files remote r q id (of_work at is) = absurd (cc is)

module _ (remote : List ℕ) (r : Ref) where
  folder_place : (q : Elements) → IsExportFolder (remote_store remote) r q → FolderPlace remote q
  folder_place = folder_at remote r (FolderPlace remote)
      (f_above (inr (inl refl)))
      (f_above (inl refl))
      (f_store (inl refl))
      (f_store (inr (inl refl)))
      (λ xx. f_store (inr (inr (inl refl))))
      (f_store (inr (inl refl)))
      (f_store (inr (inr (inl refl))))
      (f_store (inr (inr (inl refl))))
      (f_store (inr (inr (inr (inl refl)))))
      (f_store (inr (inr (inr (inr (inl refl))))))
      (f_store (inr (inr (inr (inr (inr (inl refl)))))))
      (f_work (inl refl))
      (f_work (inr refl))

  may_make : {have : Have} {u : View} (q : Elements) (e : Slot) → ExportsName have (remote_store remote) r u q e → MayMake remote r q e
  may_make {have = have} {u = u} q e h = elim h [
    | inl furnished ↦ elim furnished [
      | inl work ↦ in_work (work_above work)
      | inr other ↦ elim other [
        | inl new ↦ in_store (subst (IsWithin (remote_store remote)) (sym new.at) (inr (inr (inr (inl refl))))) off
        | inr more ↦ elim more [
          | inl folder ↦ by_folder (folder_place q folder.0) folder.1
          | inr config ↦ in_store (subst (IsWithin (remote_store remote)) (sym config.0) (inr (inl refl))) off
        ]
      ]
    ]
    | inr ref ↦ in_store (subst (IsWithin (remote_store remote)) (sym ref.0) (inr (inr (inr (inr (inr (inr (inl refl)))))))) off
  ]
    where
      off : (place : RefPlace) → place_path (remote_store remote) place ≢ ref_path (remote_store remote) r → q ≢ place_path (remote_store remote) place
      off place other at = not_put e (off_ref (outer remote) place other) (subst (λ (p : Elements). ExportsName have (remote_store remote) r u p e) at h)

      by_folder : FolderPlace remote q → e ≡ dir → MayMake remote r q e
      by_folder (f_store within) is = in_store within off
      by_folder (f_above up) is = above_store up is
      by_folder (f_work at) is = of_work at is

  module _ {have : Have} {commit bytes : List ℕ} (read : IsRead (described bytes)) {u w : View} (tree : IsTree u) where
    makes_exports : Exports have (remote_store remote) r commit (done syncs u) w → Makes remote r bytes u w
    makes_exports e = record {
      printed = e.keeps.printed;
      files = record { rows = λ id f is. e.files.rows id f is; stood = e.files.stood };
      names = λ q. elim (e.keeps.names q) [ inl same ↦ inl same | inr put ↦ inr (may_make q (w.names q) put) ];
      refs = λ place other. spared_since (other_ref (outer remote) place other e);
      objects = λ d kind there. spared_since (other_object (outer remote) d kind there e);
      links = links_lasting (MayMake remote r) (λ q. elim (e.keeps.names q) [ inl same ↦ inl same | inr put ↦ inr (may_make q (w.names q) put) ]) (where_files remote r);
      good = inr read;
      opens = λ sound s is. inr (frame_law (export_spares remote r have commit (done syncs u) (done syncs u)) e.keeps.follows (opens_synced tree sound is));
    }

    pub makes : ExportsSynced have (remote_store remote) r commit u w → Makes remote r bytes u w
    makes (inl same) = makes_same same
    makes (inr e) = makes_exports e

-- ---- what was settled is settled

data IsPlace (p : Elements) : Type 0 where
  at_made : top p ≡ codes "made" → IsPlace p
  at_repo : p ≡ repo → IsPlace p
  at_work : IsWithin tmp p → IsPlace p
  at_root : p ≡ [] → IsPlace p

place_of : {remote : List ℕ} {r : Ref} (q : Elements) {e : Slot} → MayMake remote r q e → IsPlace q
place_of {remote = remote} q (in_store within off) = at_made (made_top remote q within)
place_of q (in_work above) = at_work (inr above)
place_of q (above_store (inl same) is) = at_made (ap top same)
place_of q (above_store (inr (inl same)) is) = at_root same
place_of q (above_store (inr (inr none)) is) = absurd none
place_of q (of_work (inl same) is) = at_repo same
place_of q (of_work (inr same) is) = at_work (inl same)

-- below `repo`, in another folder than work
in_repo_off : {p : Elements} {x : List ℕ} → top p ≡ codes "repo" → second (outward p) ≡ x → x ≢ [] → x ≢ codes "tmp" → IsPlace p → ⊥
in_repo_off t s some off (at_made m) = made_no_repo (sym m ∙ t)
in_repo_off t s some off (at_repo e) = some (sym s ∙ ap (λ (q : Elements). second (outward q)) e)
in_repo_off {p = p} t s some off (at_work w) = off (sym s ∙ work_second p w)
in_repo_off t s some off (at_root e) = cc (sym t ∙ ap top e)

object_off : (d : List ℕ) (kind : ObjKind) → IsPlace (object_path repo d kind) → ⊥
object_off d kind = in_repo_off {p = object_path repo d kind} {x = codes "objects"} refl refl (λ e. cc e) (bytes_eq-false (codes "objects") (codes "tmp") refl)

file_off : (origin : List ℕ) (name : Ref) → IsPlace (ref_file origin name) → ⊥
file_off origin name = in_repo_off {p = ref_file origin name} {x = codes "refs"} refl refl (λ e. cc e) (bytes_eq-false (codes "refs") (codes "tmp") refl)

-- elsewhere
top_off : {p : Elements} → top p ≢ codes "repo" → top p ≢ codes "made" → p ≢ [] → IsPlace p → ⊥
top_off r m some (at_made t) = m t
top_off r m some (at_repo e) = r (ap top e)
top_off {p = p} r m some (at_work w) = r (work_top p w)
top_off r m some (at_root e) = some e

some_path : (rest : Elements) (name : Ref) → rest ++ branch_dir name ≢ []
some_path [] name e = cc e
some_path (x ∷ rest) name e = cc e

in_ref_off : (name : Ref) (rest : Elements) → IsPlace (rest ++ branch_dir name) → ⊥
in_ref_off name rest =
    let t : top (rest ++ branch_dir name) ≡ kind_word name.kind = ap head_of (outward_append rest (branch_dir name) []) in
    top_off {p = rest ++ branch_dir name} (λ e. word_no_repo name.kind (sym t ∙ e)) (λ e. word_no_made name.kind (sym t ∙ e)) (some_path rest name)

config_off : IsPlace config → ⊥
config_off = top_off {p = config} (bytes_eq-false (codes "config") (codes "repo") refl) (bytes_eq-false (codes "config") (codes "made") refl) (λ e. cc e)

remotes_off : IsPlace remotes_conf → ⊥
remotes_off = top_off {p = remotes_conf} (bytes_eq-false (codes "remotes.conf") (codes "repo") refl) (bytes_eq-false (codes "remotes.conf") (codes "made") refl) (λ e. cc e)

pins_off : IsPlace pins_file → ⊥
pins_off = top_off {p = pins_file} (bytes_eq-false (codes "pins") (codes "repo") refl) (bytes_eq-false (codes "pins") (codes "made") refl) (λ e. cc e)

module _ (i j : Disk) (same : (p : Elements) → (IsPlace p → ⊥) → j p ≡ i p) where
  seen_same : (name : Ref) → ref_seen j name ≡ ref_seen i name
  seen_same name = ref_same i j name (λ good. (same (active name) (in_ref_off name (codes "active" ∷ [])), λ text at. same (deploy (text_dir name text)) (in_ref_off name (codes "deploy" ∷ (text ∷ [])))))

  store_same : store repo j ≡ store repo i
  store_same = λ k d kind. object_at kind (same (object_path repo d kind) (object_off d kind) k)

  keeps_on : {name : Ref} {commit : List ℕ} → Keeps i name commit → Keeps j name commit
  keeps_on k = record { row = k.row; shown = seen_same _ ∙ k.shown; of_row = k.of_row }

  used_on : {d : List ℕ} {kind : ObjKind} → Used i d kind → Used j d kind
  used_on u = record {
    name = u.name;
    commit = u.commit;
    place = u.place;
    kept = keeps_on u.kept;
    inside = subst (λ have. In (order have u.commit) u.place) (sym store_same) u.inside;
    digest_is = u.digest_is;
    kind_is = u.kind_is;
  }

  still_there : (p : Elements) → (IsPlace p → ⊥) → j p ≢ gone → i p ≢ gone
  still_there p off some none = some (same p off ∙ none)

  settled_on : ((x : List ℕ) (rest : Elements) → j (rest ++ (x ∷ tmp)) ≡ i (rest ++ (x ∷ tmp))) → Settled i → Settled j
  settled_on work s = record {
    no_work = λ x rest. work x rest ∙ s.no_work x rest;
    used = λ d kind digits some. used_on (s.used d kind digits (still_there (object_path repo d kind) (object_off d kind) some));
    dirs = λ name commit good digits some. keeps_on (s.dirs name commit good digits (still_there (commit_dir name commit) (in_ref_off name (hex commit ∷ [])) some));
    ref_files = λ name row is. subst (HasBytes (hex row.commit ++ 10 ∷ [])) (sym (same (ref_file row.origin name) (file_off row.origin name))) (s.ref_files name row (sym (seen_same name) ∙ is));
    no_other = λ origin name remote good some. let h = s.no_other origin name remote good (still_there (ref_file origin name) (file_off origin name) some) in (h.0, seen_same name ∙ h.1, h.2);
    no_old = λ some. let h = s.no_old (still_there config config_off some) in (same remotes_conf remotes_off ∙ h.0, same pins_file pins_off ∙ h.1);
  }

module _ (remote : List ℕ) (r : Ref) {have : Have} {commit : List ℕ} {u w : View} (tree : IsTree u) (tree' : IsTree w) (was : WasExported have (remote_store remote) r commit u w) where
  no_folder : (q : Elements) → IsAbove tmp q → (top q ≡ codes "made" → ⊥)
  no_folder q above t = made_no_repo (sym t ∙ work_top q (inr above))

  work_same : Exports have (remote_store remote) r commit (done syncs u) w → (q : Elements) → IsAbove tmp q → w.names q ≡ u.names q
  work_same e q above = elim (e.keeps.names q) [
    | inl same ↦ same
    | inr put ↦ elim put [
      | inl furnished ↦ elim furnished [
        | inl work ↦ was.work q (before work) ∙ sym (none_below u tree work.place q work.staging.free work.within)
        | inr other ↦ elim other [
          | inl new ↦ absurd (no_folder q above (ap top new.at))
          | inr more ↦ elim more [
            | inl folder ↦ absurd (folder_at remote r (λ (p : Elements). IsAbove tmp p → ⊥)
                (λ a. a)
                (λ a. no_folder (codes "made" ∷ []) a refl)
                (λ a. no_folder (remote_store remote) a refl)
                (λ a. no_folder (codes "objects" ∷ remote_store remote) a refl)
                (λ xx a. no_folder (xx ∷ (codes "objects" ∷ remote_store remote)) a refl)
                (λ a. no_folder (codes "refs" ∷ remote_store remote) a refl)
                (λ a. no_folder (codes "heads" ∷ (codes "refs" ∷ remote_store remote)) a refl)
                (λ a. no_folder (remotes (remote_store remote)) a refl)
                (λ a. no_folder (kind_word r.kind ∷ (codes "heads" ∷ (codes "refs" ∷ remote_store remote))) a refl)
                (λ a. no_folder (r.id ∷ (kind_word r.kind ∷ (codes "heads" ∷ (codes "refs" ∷ remote_store remote)))) a refl)
                (λ a. no_folder (r.arch ∷ (r.id ∷ (kind_word r.kind ∷ (codes "heads" ∷ (codes "refs" ∷ remote_store remote))))) a refl)
                (λ a. elim a [ inl is ↦ cc is | inr none ↦ none ])
                (λ a. omega (arith, above_longer tmp tmp a))
                q folder.0 above)
            | inr config ↦ absurd (no_folder q above (ap top config.0))
          ]
        ]
      ]
      | inr ref ↦ absurd (no_folder q above (ap top ref.0))
    ]
  ]
    where
      before : IsWork (done syncs u) q → IsWork u q
      before work = record { place = work.place; staging = record { number = work.staging.number; is = work.staging.is; free = work.staging.free; first = work.staging.first }; within = work.within }

  shown_same : Exports have (remote_store remote) r commit (done syncs u) w → (q : Elements) → w.names q ≡ u.names q → shows w q ≡ shows u q
  shown_same e q name = shown_stays q u w (record { name = name; row = λ id f is some. e.files.rows id f some }) tree tree'

  by_step : Exports have (remote_store remote) r commit (done syncs u) w → Settled (shows u) → Settled (shows w)
  by_step e = settled_on (shows u) (shows w)
      (λ p off. shown_same e p (elim (e.keeps.names p) [ inl same ↦ same | inr put ↦ absurd (off (place_of p (may_make remote r p (w.names p) put))) ]))
      (λ x rest. shown_same e (rest ++ (x ∷ tmp)) (work_same e (rest ++ (x ∷ tmp)) (above_work x rest)))

  pub settled_made : ExportsSynced have (remote_store remote) r commit u w → Settled (shows u) → Settled (shows w)
  settled_made (inl same) settled = subst (λ (v : View). Settled (shows v)) (sym same) settled
  settled_made (inr e) settled = by_step e settled

-- ---- no object comes to the installation's own store

-- nothing that is made stands below its objects
object_no_place : (q : Elements) → IsAbove (objects_folder repo) q → IsPlace q → ⊥
object_no_place q below = in_repo_off {p = q} {x = codes "objects"} (ap top (below_is q below).1 ∙ ap head_of (outward_append (below_is q below).0 (objects_folder repo) []))
    (ap (λ (p : Elements). second (outward p)) (below_is q below).1 ∙ ap second (outward_append (below_is q below).0 (objects_folder repo) [])) (λ e. cc e) (bytes_eq-false (codes "objects") (codes "tmp") refl)
  where
    below_is : (q : Elements) → IsAbove (objects_folder repo) q → (rest : Elements) × (q ≡ rest ++ objects_folder repo)
    below_is q below = above_rest (objects_folder repo) q below

pub creates_made : (remote : List ℕ) (r : Ref) {have : Have} {commit : List ℕ} {u w : View} → ExportsSynced have (remote_store remote) r commit u w → Creates repo NoObject u w
creates_made remote r {u = u} (inl same) = subst (Creates repo NoObject u) (sym same) creates_refl
creates_made remote r (inr e) = creates_none (MayMake remote r) (λ x had. elim (e.keeps.puts x had) [ inl before ↦ inl before | inr put ↦ inr (may_make remote r x.0 x.1 put) ])
    (λ q id below put. object_no_place q below (place_of q put))

-- ---- objects that a store may keep

keepable_one : (object : Object) → is_keepable object ≡ true → IsKeepable object
keepable_one (objects.Meta bytes) is = tt
keepable_one (objects.File mode bytes) is = is
keepable_one (objects.Link text) is = is

pub keepable_all : (os : List BuiltObject) → list_all (λ o. is_keepable o.object) os ≡ true → AllByRecursion IsKeepableObject os
keepable_all [] is = tt
keepable_all (o ∷ os) is = let parts = and_parts (is_keepable o.object) (list_all (λ p. is_keepable p.object) os) is in (keepable_one o.object parts.0, keepable_all os parts.1)
