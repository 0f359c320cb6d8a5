-- Replacing `config`: the state of before or the one after.
use Rattle.std.proofs.Common.{◌≡◌, ◌⊎◌, ◌≤◌, inl, inr, ℕ, List, [], ◌∷◌, length, Option, Some, None, Contains, refl, sym, ◌∙◌, ap, subst, arith, if◌then◌else◌, codes}
use Rattle.std.specs.Prelude.{map}
use Rattle.std.specs.List.{AllByRecursion}
use Rattle.std.proofs.lemmas.Bool.{le-leb, false≢true}
use Rattle.std.proofs.lemmas.List.Elements.{Contains-push_cases}
use Rattle.fp_host.specs.Paths.{Elements, Slot, absent, dir, file, link, IsAbove}
use Rattle.fp_host.specs.View.{View, Inode, IsTree}
use Rattle.fp_host.specs.Reads.{is_ascending}
use Rattle.fp_host.specs.Outcome.{Spot, Disk, Leaves, gone, folder, holds, spot_of, holding, shows}
use Rattle.fp_host.proofs.Settled.{at_tree}
use Rattle.fp_name.specs.Refs.{Ref}
use Rattle.fp_name.proofs.Refs.{word_apart}
use Rattle.fp_small.specs.Clear.{IsWithin}
use Rattle.fp_small.specs.Places.{repo, tmp}
use Rattle.ost_model.specs.Stores.{objects_folder}
use Rattle.fp_small.specs.Folders.{IsFree}
use Rattle.fp_small.specs.Move.{IsNew, HasNew}
use Rattle.fp_small.specs.Replace.{IsStaging, folders_of, ReplacesAt, ReplacesName, Replaces, WasReplaced, CanReplace}
use Rattle.fp_small.specs.Config.{config_of, config_text, IsSettings}
use Rattle.fp_small.specs.declared.config.Settings.{Settings}
use Rattle.fp_small.specs.declared.state.State.{State}
use Rattle.fp_small.specs.declared.op.Op.{Op}
use Rattle.fp_small.specs.declared.op.Op.TheVariants.{Install, Update, Uninstall, AddPin, DropPin, AddRemote, ModifyRemote, DropRemote, SetOverride, DropOverride, Migrate, Rollback}
use Rattle.fp_small.specs.declared.state.Layout.TheVariants.{Two}
use Rattle.ost_model.specs.Objects.{object_path}
use Rattle.dep_states.specs.Names.{config, remotes_conf, pins_file, commit_dir, deploy}
use Rattle.dep_states.specs.Shown.{bad, there, read_of, config_at, config_most, layout_two, settings_at, settings_seen, settings_of, setup_of, ref_key, override_key, Shows}
use Rattle.dep_states.specs.Small.{IsSetting}
use Rattle.dep_states.specs.Zones.{Allowed, IsFileOrGone, IsFolderOrGone}
use Rattle.dep_states.specs.Sound.{Sound, Fixed, Permits, Opens, IsOld, is_remotes, is_pins}
use Rattle.dep_states.specs.After.{state_after, plain, May, IsOnConfig, IsGoodRow, IsGoodLayer, IsGood}
use Rattle.dep_states.proofs.Deployed.{top}
use Rattle.dep_states.proofs.Law.{shows_same}
use Rattle.dep_states.proofs.Small.{shows_settings, sound_settings}
use Rattle.dep_states.proofs.Sparing.{fixed_in_repo}
use Rattle.dep_states.proofs.Switching.{none_in_tmp}
use Rattle.fp_host.specs.Moments.{Moments, Goes}
use Rattle.fp_host.specs.Frame.{AtEnd}
use Rattle.fp_host.proofs.Goes.{begins}
use Rattle.fp_host.proofs.Ending.{ends_in_tree, goes_known}
use Rattle.fp_host.proofs.Framed.{IsTold}
use Rattle.fp_host.proofs.Shown.{now_left}
use Rattle.fp_base.specs.declared.object.ObjKind.{ObjKind}
use Rattle.dep_states.specs.Switch.{OpensEither}
use Rattle.fp_small.proofs.Pinning.{added, dropped}
use Rattle.fp_small.proofs.Remoting as remotes
use Rattle.dep_states.specs.Lasting.IsLasting.{the_settings}
use Rattle.dep_states.proofs.SharedAs.{shared_made}
use Rattle.op_change.specs.Deploys.{Does}
use Rattle.op_change.proofs.Objects.{same_objects}
use Rattle.ost_store.proofs.Creating.{creates_frame}
use Rattle.dep_states.proofs.Elsewhere.{off_settings, off_work}
use Rattle.op_change.specs.Applied.{SettingsDone}
use Rattle.op_change.proofs.Sizes.{config_fits}

-- ---- what is written is shown

new_shown : (id : ℕ) (bytes : List ℕ) (s : Settings) → length bytes ≤ config_most → config_of bytes ≡ Some s → config_at (holds id 420 bytes) ≡ there (record { layout = Two; settings = s })
unfolding config_at
new_shown id bytes s short reads =
    ap (λ b. layout_two (if b then read_of (config_of bytes) else bad)) (le-leb (length bytes) config_most short) ∙ ap (λ o. layout_two (read_of o)) reads

-- what is written says the state
abbrev pub ReadsBack : State → Type 0
ReadsBack t = config_of (config_text (settings_of t)) ≡ Some (settings_of t)

-- a state in layout 2 whose settings `config` can say, with the refs and the overrides of another
pub record IsNext (s t : State) : Type 0 where
  pub settings : IsSettings (settings_of t)
  pub layout : t.layout ≡ Two
  pub refs : t.refs ≡ s.refs
  pub overrides : t.overrides ≡ s.overrides

pub next_good : {s t : State} → IsGood s → IsNext s t → IsGood t
next_good good next = record {
  settings = next.settings;
  rows = subst (λ rows. AllByRecursion IsGoodRow rows) (sym next.refs) good.rows;
  refs_ascend = ap (λ rows. is_ascending (map ref_key rows)) next.refs ∙ good.refs_ascend;
  layers = subst (λ rows. AllByRecursion IsGoodLayer rows) (sym next.overrides) good.layers;
  overrides_ascend = ap (λ rows. is_ascending (map override_key rows)) next.overrides ∙ good.overrides_ascend;
}

-- a new `config` stands
pub is_there : (disk : Disk) (bytes : List ℕ) → IsNew bytes (disk config) → disk config ≡ gone → ⊥
is_there disk bytes new none = cc (sym new.1 ∙ none)

-- the settings are read of it
pub settings_new : (disk : Disk) (s t : State) → IsNext s t → ReadsBack t → IsNew (config_text (settings_of t)) (disk config) → settings_seen disk ≡ there (setup_of t)
settings_new disk s t next reads new =
    ap (λ c. settings_at c (disk remotes_conf) (disk pins_file)) new.1
    ∙ new_shown new.0 (config_text (settings_of t)) (settings_of t) (config_fits (settings_of t) next.settings) reads
    ∙ ap (λ l. there (record { layout = l; settings = settings_of t })) (sym next.layout)

-- ---- `config` is no other path

long : (p q : Elements) → (length p ≡ length q → ⊥) → p ≡ q → ⊥
long p q other same = other (ap length same)

no_repo : config ≡ repo → ⊥
no_repo same = cc same

no_tmp : config ≡ tmp → ⊥
no_tmp same = cc same

-- repo or repo/tmp
which : (q : Elements) → Contains (folders_of config) q → (repo ≡ q) ⊎ (tmp ≡ q)
which q has = elim (Contains-push_cases (repo ∷ []) tmp q has) [
  | inl first ↦ elim (Contains-push_cases [] repo q first) [ inl none ↦ absurd (omega (arith, none.1)) | inr is ↦ inl is ]
  | inr is ↦ inr is
]

old_no_config : (p : Elements) → IsOld p → p ≡ config → ⊥
old_no_config p (is_remotes is) same = cc (sym is ∙ same)
old_no_config p (is_pins is) same = cc (sym is ∙ same)

abbrev first_byte : Elements → ℕ
first_byte [] = 0
first_byte ([] ∷ up) = 0
first_byte ((b ∷ name) ∷ up) = b

repo_no_pins : repo ≡ pins_file → ⊥
repo_no_pins same = let e : 114 ≡ 112 = ap first_byte same in omega (arith, e)

old_no_folder : (p : Elements) → IsOld p → Contains (folders_of config) p → ⊥
old_no_folder p (is_remotes is) has = elim (which p has) [ inl repo_is ↦ cc (repo_is ∙ is) | inr tmp_is ↦ cc (tmp_is ∙ is) ]
old_no_folder p (is_pins is) has = elim (which p has) [ inl repo_is ↦ repo_no_pins (repo_is ∙ is) | inr tmp_is ↦ cc (tmp_is ∙ is) ]

old_no_work : (u : View) (p : Elements) → IsOld p → IsStaging u p → ⊥
old_no_work u p (is_remotes is) staging = cc (sym is ∙ staging.is)
old_no_work u p (is_pins is) staging = cc (sym is ∙ staging.is)

no_folder : Contains (folders_of config) config → ⊥
no_folder has = elim (which config has) [ inl is ↦ no_repo (sym is) | inr is ↦ no_tmp (sym is) ]

no_staging : (u : View) → IsStaging u config → ⊥
no_staging u staging = cc staging.is

-- ---- what may come to stand

folder_allowed : (p : Elements) (spot : Spot) → Contains (folders_of config) p → spot ≡ folder → Allowed p spot
folder_allowed p spot has is =
    subst (Allowed p) (sym is) (elim (which p has) [
      | inl here ↦ subst (λ q. Allowed q folder) here (record { fits = tt; short = inr (omega arith) })
      | inr here ↦ subst (λ q. Allowed q folder) here (record { fits = tt; short = inr (omega arith) })
    ])

work_allowed : (u : View) (p : Elements) (spot : Spot) → IsStaging u p → Allowed p spot
work_allowed u p spot staging = subst (λ q. Allowed q spot) (sym staging.is) (record { fits = tt; short = inr (omega arith) })

new_allowed : (p : Elements) (bytes : List ℕ) (spot : Spot) → p ≡ config → IsNew bytes spot → Allowed p spot
new_allowed p bytes spot here new = subst (λ q. Allowed q spot) (sym here) (subst (Allowed config) (sym new.1) (record { fits = tt; short = inr (omega arith) }))

pub replaces_allowed : (u : View) (bytes : List ℕ) (p : Elements) (spot : Spot) → ReplacesAt config bytes u p spot → Allowed p spot
replaces_allowed u bytes p spot given = elim given [
  | inl new ↦ new_allowed p bytes spot new.0 new.1
  | inr other ↦ elim other [ inl made ↦ folder_allowed p spot made.0 made.1 | inr work ↦ work_allowed u p spot work ]
]

given_new : (u : View) (bytes : List ℕ) (spot : Spot) → ReplacesAt config bytes u config spot → IsNew bytes spot
given_new u bytes spot given = elim given [
  | inl new ↦ new.1
  | inr other ↦ elim other [ inl made ↦ absurd (no_folder made.0) | inr work ↦ absurd (no_staging u work) ]
]

-- what is given but `config` isn't fixed
folder_unfixed : (i : Disk) (p : Elements) → Contains (folders_of config) p → Fixed i p → ⊥
folder_unfixed i p has fixed = elim (which p has) [
  | inl is ↦ let o = fixed_in_repo fixed (ap top (sym is)) in cc (is ∙ o.is)
  | inr is ↦ let o = fixed_in_repo fixed (ap top (sym is)) in cc (is ∙ o.is)
]

unfixed : (u : View) (bytes : List ℕ) (i : Disk) (p : Elements) (spot : Spot) → ReplacesAt config bytes u p spot → Fixed i p → (p ≡ config → ⊥) → ⊥
unfixed u bytes i p spot given fixed off = elim given [
  | inl new ↦ off new.0
  | inr other ↦ elim other [ inl made ↦ folder_unfixed i p made.0 fixed | inr work ↦ none_in_tmp (_ ∷ []) work.is fixed ]
]

-- and no `deploy`
given_top : (u : View) (bytes : List ℕ) (p : Elements) (spot : Spot) → ReplacesAt config bytes u p spot → (top p ≡ codes "config") ⊎ (top p ≡ codes "repo")
given_top u bytes p spot given = elim given [
  | inl new ↦ inl (ap top new.0)
  | inr other ↦ inr (elim other [
    | inl made ↦ elim (which p made.0) [ inl is ↦ ap top (sym is) | inr is ↦ ap top (sym is) ]
    | inr work ↦ ap top work.is
  ])
]

no_record : (u : View) (bytes : List ℕ) (p : Elements) (spot : Spot) → ReplacesAt config bytes u p spot → (name : Ref) (commit : List ℕ) → p ≡ deploy (commit_dir name commit) → ⊥
no_record u bytes p spot given name commit at = elim (given_top u bytes p spot given) [
  | inl is ↦ word_apart name.kind (codes "config") refl refl (sym (ap top at) ∙ is)
  | inr is ↦ word_apart name.kind (codes "repo") refl refl (sym (ap top at) ∙ is)
]

pub replaces_permits : (u : View) (bytes : List ℕ) (i : Disk) (p : Elements) (spot : Spot) → ReplacesAt config bytes u p spot → Permits i p spot
replaces_permits u bytes i p spot given = record { allowed = replaces_allowed u bytes p spot given; deploy = λ name commit kept at. absurd (no_record u bytes p spot given name commit at) }

-- ---- at every moment, and in the end

module _ {s t : State} {u w : View} (next : IsNext s t) (reads : ReadsBack t) (replaces : Replaces config (config_text (settings_of t)) u w) (opens : Opens s u) where
  abbrev bytes : List ℕ
  bytes = config_text (settings_of t)

  module _ (disk : Disk) (left : Leaves w disk) where
    abbrev before : Disk
    before = (replaces.keeps.follows.from disk left).0

    abbrev was : Leaves u before
    was = (replaces.keeps.follows.from disk left).1

    abbrev step : (p : Elements) → (disk p ≡ before p) ⊎ ReplacesAt config bytes u p (disk p)
    step = (replaces.keeps.follows.from disk left).2

    still : (p : Elements) → Fixed before p → (IsSetting p → ⊥) → disk p ≡ before p
    still p fixed off = elim (step p) [ inl same ↦ same | inr given ↦ absurd (unfixed u bytes before p (disk p) given fixed (λ is. off (inl is))) ]

    elsewhere : (p : Elements) → (disk p ≡ before p) ⊎ Permits before p (disk p)
    elsewhere p = elim (step p) [ inl same ↦ inl same | inr given ↦ inr (replaces_permits u bytes before p (disk p) given) ]

    sound_there : Sound disk
    sound_there = sound_settings still elsewhere (opens.sound before was)

    new_there : IsNew bytes (disk config) → Shows disk t
    new_there new = shows_settings still (settings_new disk s t next reads new) next.refs next.overrides (opens.shown before was)

    old_there : disk config ≡ before config → Shows disk s
    old_there same = shows_same before disk (λ p fixed. elim (step p) [
      | inl is ↦ is
      | inr given ↦ elim given [
        | inl new ↦ ap disk new.0 ∙ same ∙ sym (ap before new.0)
        | inr other ↦ absurd (elim other [ inl made ↦ folder_unfixed before p made.0 fixed | inr work ↦ none_in_tmp (_ ∷ []) work.is fixed ])
      ]
    ]) (opens.shown before was)

    either_there : Shows disk s ⊎ Shows disk t
    either_there = elim (step config) [ inl same ↦ inl (old_there same) | inr given ↦ inr (new_there (given_new u bytes (disk config) given)) ]

  pub either : OpensEither s t w
  either = record { shown = either_there; sound = sound_there }

  pub opens_after : WasReplaced config bytes u w → Opens t w
  opens_after was_replaced = record { shown = λ disk left. new_there disk left (was_replaced.new.each disk left); sound = sound_there }

abbrev Changes : State → Op → View → View → Type 0
Changes s op = Does s (state_after s (plain op)) (ReplacesName config)

pub applies : {s : State} {t : State} {u w : View} (op : Op) → t ≡ state_after s (plain op) → IsNext s t → ReadsBack t → Replaces config (config_text (settings_of t)) u w → Changes s op u w
applies {s = s} {w = w} op is next reads replaces = record {
  either = λ opens. subst (λ x. OpensEither s x w) is (either next reads replaces opens);
  names = replaces.keeps.names;
  files = replaces.files;
  printed = replaces.keeps.printed;
}

-- no name of an object
no_object : (u : View) (d : List ℕ) (kind : ObjKind) (e : Slot) → ReplacesName config u (object_path repo d kind) e → ⊥
no_object u d kind e put = elim put [
  | inl new ↦ cc new.0
  | inr other ↦ elim other [ inl made ↦ elim (which (object_path repo d kind) made.0) [ inl is ↦ cc is | inr is ↦ cc is ] | inr work ↦ cc work.is ]
]

-- nor one below the store's objects
no_stored : (u : View) (q : Elements) (id : ℕ) → IsAbove (objects_folder repo) q → ReplacesName config u q (file id) → ⊥
no_stored u q id below (inl new) = off_settings q below new.0
no_stored u q id below (inr (inl made)) = cc made.1
no_stored u q id below (inr (inr work)) = off_work q below (subst (IsWithin tmp) (sym work.is) (inr (inl refl)))

pub was_applied : {s : State} {t : State} {u w : View} (op : Op) → IsTree u → IsTree w → t ≡ state_after s (plain op) → IsNext s t → ReadsBack t → Replaces config (config_text (settings_of t)) u w → WasReplaced config (config_text (settings_of t)) u w → SettingsDone s (state_after s (plain op)) u w
was_applied {t = t} {u = u} {w = w} op start after_ is next reads replaces put = record {
  done = record {
    opens = λ opens. subst (λ x. Opens x w) is (opens_after next reads replaces opens put);
    settled = put.settled;
    objects = same_objects (ReplacesName config u) start after_ replaces.files replaces.keeps.names (no_object u);
    shares = shared_made (λ f says. the_settings (settings_of t) refl says) put.made;
    creates = creates_frame (ReplacesName config u) replaces.keeps (no_stored u);
  };
  settings = record {
    text = subst (λ x. HasNew config (config_text (settings_of x)) w) is put.new;
    config = λ disk left. is_there disk (config_text (settings_of t)) (put.new.each disk left);
    work = put.work;
  };
}

-- ---- where it may be written

file_slot : (v : View) (e : Slot) → IsFileOrGone (spot_of v.files e) → (e ≡ absent) ⊎ ((id : ℕ) × (e ≡ file id))
file_slot v absent fits = inl refl
file_slot v dir fits = absurd fits
file_slot v (link text) fits = absurd fits
file_slot v (file id) fits = inr (id, refl)

no_file : (id : ℕ) (row : Option Inode) → (row ≡ None → ⊥) → IsFolderOrGone (holding id row) → ⊥
no_file id None none fits = none refl
no_file id (Some f) none fits = fits

folder_slot : (v : View) (e : Slot) → IsTree v → (p : Elements) → v.names p ≡ e → IsFolderOrGone (spot_of v.files e) → (e ≡ absent) ⊎ (e ≡ dir)
folder_slot v absent tree p is fits = inl refl
folder_slot v dir tree p is fits = inr refl
folder_slot v (link text) tree p is fits = absurd fits
folder_slot v (file id) tree p is fits = absurd (no_file id (v.files id) (tree.known p id (inl (sym is))) fits)

pub can_replace : {s : State} (v : View) → IsTree v → Opens s v → CanReplace config v
can_replace v tree opens =
    let sound = opens.sound (shows v) (now_left v) in
    let slot : (q : Elements) → shows v q ≡ spot_of v.files (v.names q) = λ q. ap (spot_of v.files) (at_tree v tree q) in
    record {
      entry = file_slot v (v.names config) (subst IsFileOrGone (slot config) (sound.kinds config).fits);
      folders = record {
        free = λ q has. elim (which q has) [
          | inl here ↦ subst (IsFree v) here (folder_slot v (v.names repo) tree repo refl (subst IsFolderOrGone (slot repo) (sound.kinds repo).fits))
          | inr here ↦ subst (IsFree v) here (folder_slot v (v.names tmp) tree tmp refl (subst IsFolderOrGone (slot tmp) (sound.kinds tmp).fits))
        ];
      };
      no_root = λ same. cc same;
      no_repo = no_repo;
      no_tmp = no_tmp;
      no_work = λ above. elim above [ inl is ↦ cc is | inr none ↦ absurd none ];
    }

-- ---- what the state after is

pub next_after : (s : State) (op : Op) → May s op → IsOnConfig op → IsGood s → IsNext s (state_after s (plain op))
next_after s (AddPin pin) may on good = record { settings = added (settings_of s) pin good.settings may.allows.0 may.allows.1 may.allows.2; layout = may.layout; refs = refl; overrides = refl }
next_after s (DropPin pin) may on good = record { settings = dropped (settings_of s) pin good.settings; layout = may.layout; refs = refl; overrides = refl }
next_after s (AddRemote row) may on good = record { settings = remotes.added (settings_of s) row good.settings may.allows.0 may.allows.1 may.allows.2; layout = may.layout; refs = refl; overrides = refl }
next_after s (ModifyRemote row) may on good = record { settings = remotes.modified (settings_of s) row good.settings may.allows.0 may.allows.1; layout = may.layout; refs = refl; overrides = refl }
next_after s (DropRemote name) may on good = record { settings = remotes.dropped (settings_of s) name good.settings; layout = may.layout; refs = refl; overrides = refl }
next_after s Migrate may on good = record { settings = good.settings; layout = refl; refs = refl; overrides = refl }
next_after s (Install name remote commit) may on good = absurd (false≢true on)
next_after s (Update name remote commit) may on good = absurd (false≢true on)
next_after s (Uninstall name) may on good = absurd (false≢true on)
next_after s (SetOverride row) may on good = absurd (false≢true on)
next_after s (DropOverride name) may on good = absurd (false≢true on)
next_after s (Rollback name commit) may on good = absurd (false≢true on)

-- ---- what the parts of the call tell of it

pub moments_applied : {a b : Option Moments} {s : State} {t : State} (op : Op) → IsTold a → t ≡ state_after s (plain op) → IsNext s t → ReadsBack t
    → Goes a b (Replaces config (config_text (settings_of t))) (Replaces config (config_text (settings_of t))) → Goes a b (Changes s op) (Changes s op)
moments_applied op tree is next reads goes = begins tree goes (λ u w here replaces. applies op is next reads replaces) (λ u w here replaces end. applies op is next reads replaces)

pub ends_applied : {a b : Option Moments} {s : State} {t : State} (op : Op) → IsTold a → IsTold b → t ≡ state_after s (plain op) → IsNext s t → ReadsBack t
    → Goes a b (Replaces config (config_text (settings_of t))) (Replaces config (config_text (settings_of t))) → AtEnd (WasReplaced config (config_text (settings_of t))) a b → AtEnd (SettingsDone s (state_after s (plain op))) a b
ends_applied {t = t} op tree last is next reads goes done =
    let bytes = config_text (settings_of t) in
    ends_in_tree {Q = λ u w. IsTree u × Replaces config bytes u w × WasReplaced config bytes u w} last
    (record { goes = begins tree (goes_known goes done) (λ u w here replaces. tt) (λ u w here replaces both. (here, both.0, both.1)) })
    (λ u w after_ all. was_applied op all.0 after_ is next reads all.1 all.2)
