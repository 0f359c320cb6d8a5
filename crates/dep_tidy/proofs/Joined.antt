-- Steps of tidying, one after another.
use Rattle.std.proofs.Common.{◌≡◌, ◌≢◌, ◌⊎◌, inl, inr, true, take, ℕ, List, [], ◌∷◌, ◌++◌, Option, Result, Ok, refl, sym, ◌∙◌, ap, subst, codes, Contains}
use Rattle.fp_host.specs.Paths.{Elements, Slot, absent, file, IsAbove}
use Rattle.fp_host.specs.View.{View, IsTree}
use Rattle.fp_host.specs.Calls.{syncs, Step}
use Rattle.fp_host.specs.Outcome.{Spot, Disk, Leaves, Nothing, gone, shows, spot_of}
use Rattle.fp_host.specs.Frame.{Keeps, NoPath, NoName}
use Rattle.fp_host.specs.Moments.{Moments, Goes, Makes}
use Rattle.fp_host.specs.declared.host.HostError.{HostError}
use Rattle.fp_host.proofs.Filed.{put_call}
use Rattle.fp_host.proofs.Follow.{called}
use Rattle.fp_host.proofs.Framed.{IsTold, keeps_call}
use Rattle.fp_host.proofs.Goes.{begins, goes_on, knowing, makes_goes, ends_tree}
use Rattle.fp_host.proofs.Settled.{settled_disk, at_tree}
use Rattle.fp_base.specs.declared.object.ObjKind.{ObjKind}
use Rattle.fp_base.proofs.Lists.{all_has}
use Rattle.fp_small.specs.Places.{repo, tmp}
use Rattle.fp_small.specs.Clear.{GoneBelow, AbsentBelow, IsWithin}
use Rattle.fp_small.specs.Files.{KeepsFiles, SameFiles}
use Rattle.fp_small.specs.Shares.{Shares}
use Rattle.fp_small.proofs.Keeping.{files_stay, files_on, files_kept, files_synced}
use Rattle.fp_small.proofs.Sharing.{shares_refl, shares_start, shares_on, shares_empty}
use Rattle.fp_small.specs.declared.state.State.{State}
use Rattle.fp_small.specs.declared.state.RefRow.{RefRow}
use Rattle.ost_model.specs.Objects.{object_path, object_at}
use Rattle.ost_prune.specs.Prune.{Prunes}
use Rattle.ost_store.proofs.Creating.{creates_none, creates_on}
use Rattle.dep_tidy.specs.Lasts.{Lasts}
use Rattle.dep_states.specs.Links.{Links}
use Rattle.dep_states.specs.Names.{config, commit_dir, ref_file}
use Rattle.dep_states.specs.Sound.{Opens, IsOld, HasConfig}
use Rattle.dep_states.specs.Settled.{Settled}
use Rattle.dep_states.proofs.Lasting.{TakesFiles, takes_ref}
use Rattle.dep_states.proofs.SharedAs.{shared_on, shared_same}
use Rattle.dep_states.proofs.Law.{frame_law, spares_nothing}
use Rattle.dep_states.proofs.Linked.{links_refl, links_still, links_on, links_lasting}
use Rattle.dep_states.proofs.Switching.{second}
use Rattle.dep_states.proofs.Deployed.{top}
use Rattle.dep_states.proofs.Usual.{old_go, settled_config}
use Rattle.dep_states.specs.Zones.{outward}
use Rattle.dep_tidy.specs.Kept.{kept_of}
use Rattle.dep_tidy.specs.Tidy.{MayTidy, some_work, commit_gone, old_gone, ref_gone, ref_written, ref_folder, object_gone, Tidies, WasTidied}
use Rattle.dep_tidy.specs.Steps.{Alters, InUnkept, UnkeptGone, UnkeptAbsent, OldAbsent, TakesOld, IsOtherFile, OtherGone, OtherAbsent, RefAt, file_at, folder_at, work_at, RefName, file_name, folder_name, work_name, HasRefFiles, Writes, IsSteady, Steadily, IsReady}
use Rattle.dep_tidy.proofs.Alter.{alters_kept}
use Rattle.dep_tidy.proofs.Views.{shown_there, gone_absent, all_shows, SameTo, shows_along, all_same_to}
use Rattle.dep_tidy.proofs.Apart.{dir_top, word_no_config, repo_no_config, tmp_no_objects, old_no_repo, old_no_config, IsBeside, file_beside, folder_beside, name_above}
use Rattle.dep_tidy.proofs.Clearing.{work_goes, opens_unkept, other_spares, refs_spare}
use Rattle.dep_tidy.proofs.Pruned.{opens_pruned, used_stays, used_on, none_unused}
use Rattle.dep_states.proofs.Switching.{word_no_repo}
use Rattle.fp_name.specs.declared.kind.RefKind.{RefKind}
use Rattle.ost_refs.specs.Files.{ref_in, ref_file as file_says}
use Rattle.ost_refs.specs.declared.place.RefFile.TheVariants.{Digest}
use Rattle.ost_refs.specs.declared.place.RefPlace.TheVariants.{Remote}
use Rattle.ost_refs.proofs.Files.{written}
use Rattle.fp_host.specs.Outcome.{folder, holds, points}
use Rattle.fp_host.proofs.Separate.{absent_cases}
use Rattle.fp_host.proofs.Shown.{now_left}
use Rattle.fp_name.specs.Hex.{hex, is_digest}
use Rattle.fp_name.specs.Kinds.{kind_word}
use Rattle.fp_small.specs.Places.{new_name}
use Rattle.fp_small.proofs.Emptying.{cleared_absent}
use Rattle.fp_small.proofs.Staging.{synced}
use Rattle.dep_states.specs.After.{IsGoodRow}
use Rattle.dep_states.specs.Settled.{HasBytes}
use Rattle.dep_states.specs.Sound.{is_remotes, is_pins}
use Rattle.dep_states.proofs.Good.{shown_good as state_good}
use Rattle.dep_states.proofs.Sparing.{kept_of_state}
use Rattle.dep_states.proofs.Work.{no_second, no_config_above, no_object_above}
use Rattle.dep_tidy.proofs.Pruned.{row_shown, row_by_seen}

-- ---- files

-- a file comes to a ref's name, or is work
may_file : (s : State) (q : Elements) (id : ℕ) → MayTidy s q (file id) → TakesFiles q ⊎ IsWithin tmp q
may_file s q id (some_work above) = inr (inr above)
may_file s q id (commit_gone name commit good digits unkept within none) = absurd (cc none)
may_file s q id (old_gone old none) = absurd (cc none)
may_file s q id (ref_gone origin name remote good other at none) = absurd (cc none)
may_file s q id (ref_written row has at f) = inl (subst TakesFiles (sym at) (takes_ref (Remote row.origin row.name)))
may_file s q id (ref_folder row has at is) = absurd (cc is)
may_file s q id (object_gone d kind digits at none) = absurd (cc none)

-- so it links no other file
pub tidy_links : (s : State) {u w : View} → ((q : Elements) → (w.names q ≡ u.names q) ⊎ MayTidy s q (w.names q)) → Links u w
tidy_links s names = links_lasting (MayTidy s) names (may_file s)

-- ---- no name changes

pub tidies_still : {s : State} {u w : View} → IsTree u → (Opens s u → Opens s w) → ((q : Elements) → w.names q ≡ u.names q) → KeepsFiles u w → Shares NoPath u w → w.printed ≡ u.printed → Tidies s u w
tidies_still {u = u} {w = w} tree opens names files shares printed = record {
  opens = opens;
  names = λ q. inl (names q);
  idle = λ o settled q. names q;
  unwritten = λ o settled. shares;
  used = λ o d kind is. ap (object_at kind) (shows_along tree files (object_path repo d kind) (all_same_to u.names w.names names (object_path repo d kind)));
  files = files;
  links = links_still names;
  printed = printed;
}

pub tidies_same : {s : State} {u w : View} → w ≡ u → Tidies s u w
tidies_same {s = s} {u = u} same = subst (Tidies s u) (sym same) (record { opens = λ o. o; names = λ q. inl refl; idle = λ o settled q. refl; unwritten = λ o settled. shares_refl; used = λ o d kind is. refl; files = files_stay; links = links_refl; printed = refl })

-- a sync
pub tidies_sync : {s : State} {r : Result (Unit {0}) HostError} {u w : View} → IsTree u → Step syncs r u w → Tidies s u w
tidies_sync {u = u} {w = w} tree step =
    let keeps : Keeps Nothing NoName NoPath u w = keeps_call tree (λ q spot h. absurd h) (λ q e h. absurd h) (λ x i h. absurd h) tt tt (called step) in
    tidies_still tree (λ o. frame_law (spares_nothing u) keeps.follows o) (λ q. elim (keeps.names q) [ inl same ↦ same | inr none ↦ absurd none ]) (files_kept keeps) (shares_empty keeps) keeps.printed

-- after it all is steady
pub steady_synced : {u w : View} → IsTree w → Step syncs (Ok tt) u w → IsSteady w
steady_synced {w = w} next step =
    let settled = synced step in
    record {
      config = λ some. settled_config w next settled (shown_there next config some);
      objects = λ disk left d kind. let p = object_path repo d kind in settled_disk w next settled disk left p ∙ sym (ap (spot_of w.files) (at_tree w next p));
    }

-- ---- one after another

pub tidies_on : {s : State} {u v w : View} → IsTree u → IsTree v → Tidies s u v → Tidies s v w → Tidies s u w
tidies_on {u = u} {v = v} tree between first second_ = record {
  opens = λ o. second_.opens (first.opens o);
  names = λ q. elim (second_.names q) [
    | inr put ↦ inr put
    | inl same ↦ elim (first.names q) [ inl was ↦ inl (same ∙ was) | inr put ↦ inr (subst (MayTidy _ q) (sym same) put) ]
  ];
  idle = λ o settled q. let names = first.idle o settled in
      second_.idle (first.opens o) (subst Settled (sym (all_shows tree between first.files names)) settled) q ∙ names q;
  unwritten = λ o settled. shares_on (first.unwritten o settled)
      (second_.unwritten (first.opens o) (subst Settled (sym (all_shows tree between first.files (first.idle o settled))) settled)) second_.files;
  used = λ o d kind is. second_.used (first.opens o) d kind (used_on o (first.opens o) (first.used o) d kind is) ∙ first.used o d kind is;
  files = files_on first.files second_.files;
  links = links_on first.links second_.links second_.files;
  printed = second_.printed ∙ first.printed;
}

pub steadily_on : {s : State} {u v w : View} → IsTree u → IsTree v → (IsSteady u → Steadily s u v) → (IsSteady v → Steadily s v w) → IsSteady u → Steadily s u w
steadily_on tree between first second_ steady =
    let a = first steady in
    let b = second_ a.steady in
    record { tidies = tidies_on tree between a.tidies b.tidies; steady = b.steady }

-- ---- a step that gives nothing to `config` and to objects

pub record IsAside (G : Elements → Spot → Type 0) (W : Elements → Slot → Type 0) : Type 0 where
  pub spot : (spot : Spot) → G config spot → ⊥
  pub name : (e : Slot) → W config e → ⊥
  pub objects : (d : List ℕ) (kind : ObjKind) (spot : Spot) → G (object_path repo d kind) spot → ⊥

module _ {G : Elements → Spot → Type 0} {W : Elements → Slot → Type 0} {u w : View} (aside : IsAside G W) (step : Alters G W u w) where
  config_same : w.names config ≡ u.names config
  config_same = elim (step.names config) [ inl same ↦ same | inr put ↦ absurd (aside.name (w.names config) put) ]

  has_config : HasConfig u → HasConfig w
  has_config has disk left none =
      let b = step.follows.from disk left in
      has b.0 b.1 (elim (b.2 config) [ inl same ↦ sym same ∙ none | inr given ↦ absurd (aside.spot (disk config) given) ])

  object_same : IsSteady u → (disk : Disk) → Leaves w disk → (d : List ℕ) (kind : ObjKind) → disk (object_path repo d kind) ≡ shows u (object_path repo d kind)
  object_same steady disk left d kind =
      let b = step.follows.from disk left in
      elim (b.2 (object_path repo d kind)) [ inl same ↦ same ∙ steady.objects b.0 b.1 d kind | inr given ↦ absurd (aside.objects d kind (disk (object_path repo d kind)) given) ]

  pub steadily : {s : State} → (Opens s u → IsSteady u → Opens s w) → ((q : Elements) (e : Slot) → W q e → MayTidy s q e) → (Opens s u → Settled (shows u) → (q : Elements) → w.names q ≡ u.names q) → (Opens s u → Settled (shows u) → Shares NoPath u w) → IsSteady u → Steadily s u w
  steadily {s = s} opens may idle unwritten steady = record {
    tidies = record {
      opens = λ o. opens o steady;
      names = names;
      idle = idle;
      unwritten = unwritten;
      used = λ o d kind is. ap (object_at kind) (object_same steady (shows w) (now_left w) d kind);
      files = step.files;
      links = tidy_links s names;
      printed = step.printed;
    };
    steady = record {
      config = λ some. has_config (steady.config (λ none. some (config_same ∙ none)));
      objects = λ disk left d kind. object_same steady disk left d kind ∙ sym (object_same steady (shows w) (now_left w) d kind);
    };
  }
    where
      names : (q : Elements) → (w.names q ≡ u.names q) ⊎ MayTidy s q (w.names q)
      names q = elim (step.names q) [ inl same ↦ inl same | inr put ↦ inr (may q (w.names q) put) ]

-- where a name could only go that wasn't there, none changes
pub none_goes : {W : Elements → Slot → Type 0} (u w : View) → ((q : Elements) → (w.names q ≡ u.names q) ⊎ W q (w.names q)) → ((q : Elements) (e : Slot) → W q e → e ≡ absent) → ((q : Elements) (e : Slot) → W q e → u.names q ≡ absent)
    → (q : Elements) → w.names q ≡ u.names q
none_goes u w names goes away q = elim (names q) [ inl same ↦ same | inr put ↦ goes q _ put ∙ sym (away q _ put) ]

-- ---- work

split_above : (q : Elements) → IsAbove tmp q → (x : List ℕ) × (rest : Elements) × (q ≡ rest ++ (x ∷ tmp))
split_above [] above = absurd above
split_above (x ∷ up) (inl same) = (x, [], ap (λ (l : Elements). x ∷ l) (sym same))
split_above (y ∷ up) (inr above) = let more = split_above up above in (more.0, y ∷ more.1, ap (λ (l : Elements). y ∷ l) more.2)

module _ {u w : View} (tree : IsTree u) (keeps : Keeps (GoneBelow tmp) (AbsentBelow tmp) NoPath u w) where
  work_idle : Settled (shows u) → (q : Elements) → w.names q ≡ u.names q
  work_idle settled = none_goes {W = AbsentBelow tmp} u w keeps.names (λ q e put. put.1) (λ q e put. let is = split_above q put.0 in gone_absent tree q (ap (shows u) is.2 ∙ settled.no_work is.0 is.1))

  pub steadily_work : {s : State} → IsSteady u → Steadily s u w
  steadily_work = steadily (record { spot = λ spot given. no_config_above given.0; name = λ e put. no_config_above put.0; objects = λ d kind spot given. no_object_above d kind given.0 })
      (alters_kept keeps) (λ o steady. frame_law (work_goes u) keeps.follows o) (λ q e put. some_work put.0) (λ o settled. work_idle settled) (λ o settled. shares_empty keeps)

  off_work : (q : Elements) → (IsAbove tmp q → ⊥) → w.names q ≡ u.names q
  off_work q off = elim (keeps.names q) [ inl same ↦ same | inr put ↦ absurd (off put.0) ]

  -- the path of an object leads by no work
  along : (d : List ℕ) (kind : ObjKind) → SameTo u.names w.names (object_path repo d kind)
  along d kind =
      let xx : Elements = take 2 (hex d) ∷ (codes "objects" ∷ repo) in
      let objects : Elements = codes "objects" ∷ repo in
      (off_work (object_path repo d kind) (no_object_above d kind), (off_work xx (no_second xx (λ e. tmp_no_objects (sym e))), (off_work objects (no_second objects (λ e. tmp_no_objects (sym e))), (off_work repo (no_second repo (λ e. cc e)), off_work [] (λ above. above)))))

  -- alone
  pub tidies_work : {s : State} → Tidies s u w
  tidies_work {s = s} = record {
    opens = λ o. frame_law (work_goes u) keeps.follows o;
    names = names;
    idle = λ o settled. work_idle settled;
    unwritten = λ o settled. shares_empty keeps;
    used = λ o d kind is. ap (object_at kind) (shows_along tree (files_kept keeps) (object_path repo d kind) (along d kind));
    files = files_kept keeps;
    links = tidy_links s names;
    printed = keeps.printed;
  }
    where
      names : (q : Elements) → (w.names q ≡ u.names q) ⊎ MayTidy s q (w.names q)
      names q = elim (keeps.names q) [ inl same ↦ inl same | inr put ↦ inr (some_work put.0) ]

-- ---- folders

in_unkept_top : {s : State} {q : Elements} (h : InUnkept s q) → (k : RefKind) × (top q ≡ kind_word k)
in_unkept_top {q = q} h = (h.name.kind, dir_top h.name h.commit q h.within)

module _ {s : State} {u w : View} (tree : IsTree u) (keeps : Keeps (UnkeptGone s) (UnkeptAbsent s) NoPath u w) where
  folders_idle : Opens s u → Settled (shows u) → (q : Elements) → w.names q ≡ u.names q
  folders_idle opens settled = none_goes {W = UnkeptAbsent s} u w keeps.names (λ q e put. put.1) (λ q e put.
      let h = put.0 in
      let d = commit_dir h.name h.commit in
      let none : u.names d ≡ absent = elim (absent_cases (u.names d)) [
        | inl is ↦ is
        | inr some ↦ absurd (h.is.unkept (kept_of_state (opens.shown (shows u) (now_left u)) (settled.dirs h.name h.commit h.is.good h.is.digits (shown_there tree d some))))
      ] in
      (cleared_absent {p = d} tree none).gone q h.within)

  pub steadily_folders : IsSteady u → Steadily s u w
  steadily_folders = steadily (record {
    spot = λ spot given. let t = in_unkept_top given.0 in word_no_config t.0 (sym t.1);
    name = λ e put. let t = in_unkept_top put.0 in word_no_config t.0 (sym t.1);
    objects = λ d kind spot given. let t = in_unkept_top given.0 in word_no_repo t.0 (sym t.1);
  }) (alters_kept keeps) (λ o steady. opens_unkept keeps.follows o) (λ q e put. commit_gone put.0.name put.0.commit put.0.is.good put.0.is.digits put.0.is.unkept put.0.within put.1) folders_idle (λ o settled. shares_empty keeps)

-- ---- the files of layout 1

module _ {u w : View} (tree : IsTree u) (takes : TakesOld u w) where
  old_absent : Settled (shows u) → u.names config ≢ absent → (q : Elements) → IsOld q → u.names q ≡ absent
  old_absent settled some q (is_remotes e) = gone_absent tree q (ap (shows u) e ∙ (settled.no_old (shown_there tree config some)).0)
  old_absent settled some q (is_pins e) = gone_absent tree q (ap (shows u) e ∙ (settled.no_old (shown_there tree config some)).1)

  pub steadily_old : {s : State} → IsSteady u → Steadily s u w
  steadily_old steady = elim (absent_cases (u.names config)) [
    | inl none ↦ record { tidies = tidies_same (takes.alone none); steady = subst IsSteady (sym (takes.alone none)) steady }
    | inr some ↦ steadily (record { spot = λ spot given. old_no_config given.0; name = λ e put. old_no_config put.0; objects = λ d kind spot given. old_no_repo given.0 refl })
        (alters_kept takes.keeps) (λ o st. frame_law (old_go u (st.config some)) takes.keeps.follows o) (λ q e put. old_gone put.0 put.1)
        (λ o settled. none_goes {W = OldAbsent} u w takes.keeps.names (λ q e put. put.1) (λ q e put. old_absent settled some q put.0)) (λ o settled. shares_empty takes.keeps) steady
  ]

-- ---- ref files

beside_no_config : {q : Elements} → IsBeside q → q ≡ config → ⊥
beside_no_config b e = repo_no_config (sym b.0 ∙ ap top e)

pub beside_no_object : {q : Elements} → IsBeside q → (d : List ℕ) (kind : ObjKind) → q ≡ object_path repo d kind → ⊥
beside_no_object b d kind e = b.1 (ap (λ (p : Elements). second (outward p)) e)

other_beside : {s : State} {q : Elements} → IsOtherFile s q → IsBeside q
other_beside o = subst IsBeside (sym o.at) (file_beside o.origin o.name)

work_beside : (k : ℕ) (q : Elements) → q ≡ new_name k ∷ tmp → IsBeside q
work_beside k q e = (ap top e, λ is. tmp_no_objects (sym (ap (λ (p : Elements). second (outward p)) e) ∙ is))

spot_beside : {rows : List RefRow} (q : Elements) (spot : Spot) → RefAt rows q spot → IsBeside q
spot_beside q spot (file_at row has at new) = subst IsBeside (sym at) (file_beside row.origin row.name)
spot_beside q spot (folder_at row has at is) = folder_beside row.origin row.name q at
spot_beside q spot (work_at k at) = work_beside k q at

pub name_beside : {rows : List RefRow} (q : Elements) (e : Slot) → RefName rows q e → IsBeside q
name_beside q e (file_name row has at f) = subst IsBeside (sym at) (file_beside row.origin row.name)
name_beside q e (folder_name row has at d) = folder_beside row.origin row.name q at
name_beside q e (work_name k at) = work_beside k q at

module _ {s : State} {u w : View} (tree : IsTree u) (keeps : Keeps (OtherGone s) (OtherAbsent s) NoPath u w) where
  others_idle : Opens s u → Settled (shows u) → (q : Elements) → w.names q ≡ u.names q
  others_idle opens settled = none_goes {W = OtherAbsent s} u w keeps.names (λ q e put. put.1) (λ q e put.
      let o = put.0 in
      let p = ref_file o.origin o.name in
      ap u.names o.at ∙ elim (absent_cases (u.names p)) [
        | inl none ↦ none
        | inr some ↦
            let has = settled.no_other o.origin o.name o.is.remote o.is.good (shown_there tree p some) in
            absurd (o.is.other (record { row = has.0; has = row_by_seen (opens.shown (shows u) (now_left u)) o.name has.0 has.1; is = has.2 }))
      ])

  pub steadily_others : IsSteady u → Steadily s u w
  steadily_others = steadily (record {
    spot = λ spot given. beside_no_config (other_beside given.0) refl;
    name = λ e put. beside_no_config (other_beside put.0) refl;
    objects = λ d kind spot given. beside_no_object (other_beside given.0) d kind refl;
  }) (alters_kept keeps) (λ o steady. frame_law other_spares keeps.follows o) (λ q e put. ref_gone put.0.origin put.0.name put.0.is.remote put.0.is.good put.0.is.other put.0.at put.1) others_idle (λ o settled. shares_empty keeps)

-- what an image that is settled has
bytes_say : (commit : List ℕ) (spot : Spot) → is_digest commit ≡ true → HasBytes (hex commit ++ 10 ∷ []) spot → ref_in spot ≡ Digest commit
bytes_say commit gone good has = absurd has
bytes_say commit folder good has = absurd has
bytes_say commit (points text) good has = absurd has
bytes_say commit (holds id mode bytes) good has = ap file_says has ∙ written commit good

pub settled_files : {s : State} {v : View} → Opens s v → Settled (shows v) → HasRefFiles s.refs v
settled_files {s = s} {v = v} opens settled = record {
  each = λ row has.
      let shown = opens.shown (shows v) (now_left v) in
      bytes_say row.commit (shows v (ref_file row.origin row.name)) ((all_has IsGoodRow s.refs ((state_good (shows v) s shown).rows) row has).commit) (settled.ref_files row.name row ((row_shown shown row has).is));
}

module _ {s : State} {u w : View} (step : Writes s.refs u w) where
  may_write : (q : Elements) (e : Slot) → RefName s.refs q e → MayTidy s q e
  may_write q e (file_name row has at f) = ref_written row has at f
  may_write q e (folder_name row has at d) = ref_folder row has at d
  may_write q e (work_name k at) = some_work (subst (IsAbove tmp) (sym at) (name_above (new_name k)))

  pub steadily_refs : IsSteady u → Steadily s u w
  steadily_refs = steadily (record {
    spot = λ spot given. beside_no_config (spot_beside config spot given) refl;
    name = λ e put. beside_no_config (name_beside config e put) refl;
    objects = λ d kind spot given. beside_no_object (spot_beside (object_path repo d kind) spot given) d kind refl;
  }) step.alters (λ o steady. frame_law refs_spare step.alters.follows o) may_write (λ o settled q. ap (λ (v : View). v.names q) (step.idle (settled_files o settled))) (λ o settled. shares_start (step.idle (settled_files o settled)))

-- ---- objects

pub tidies_pruned : {s : State} {u w : View} → IsSteady u → Prunes repo (kept_of s.refs) u w → Tidies s u w
tidies_pruned {s = s} {u = u} {w = w} steady pruned = record {
  opens = λ o. opens_pruned o steady pruned;
  names = names;
  idle = λ o settled q. elim (pruned.keeps.names q) [ inl same ↦ same | inr put ↦ absurd (none_unused o (λ d kind good some. settled.used d kind good some) q put.0) ];
  unwritten = λ o settled. shares_empty pruned.keeps;
  used = λ o d kind is. used_stays o steady pruned d kind is;
  files = files_kept pruned.keeps;
  links = tidy_links s names;
  printed = pruned.keeps.printed;
}
  where
    names : (q : Elements) → (w.names q ≡ u.names q) ⊎ MayTidy s q (w.names q)
    names q = elim (pruned.keeps.names q) [ inl same ↦ inl same | inr put ↦ inr (object_gone put.0.object.0 put.0.object.1 put.0.unused.digits put.0.name put.1) ]

-- ---- over the moments

abbrev pub Going : State → View → View → Type 0
Going s u w = IsSteady u → Steadily s u w

pub going : {s : State} {S T : View → View → Type 0} {a b : Option Moments} → IsTold a → Goes a b S T → ((u w : View) → IsTree u → S u w → Going s u w) → ((u w : View) → IsTree u → T u w → Going s u w) → Goes a b (Going s) (Going s)
going told first each last = begins told first each (λ u w tree r q. last u w tree q)

pub going_on : {s : State} {S T : View → View → Type 0} {a b c : Option Moments} → IsTold a → IsTold b → Goes a b (Going s) (Going s) → Goes b c S T → ((u w : View) → IsTree u → S u w → Going s u w) → ((u w : View) → IsTree u → T u w → Going s u w) → Goes a c (Going s) (Going s)
going_on {s = s} told between first second_ each last = knowing {P = IsTree} {R = λ u w. IsTree u → Going s u w} {Q = λ u w. IsTree u → Going s u w} told
    (goes_on between (begins {R' = λ u w. IsTree u → Going s u w} {Q' = λ u w. IsTree u → Going s u w} told first (λ u w t r tree. r) (λ u w t r q tree. q)) second_
    (λ u v w t r q x tree. steadily_on tree t (q tree) (each v w t x)) (λ u v w t r q x e tree. steadily_on tree t (q tree) (last v w t e)))
    (λ u w tree r. r tree) (λ u w tree q. q tree)

-- where it was steady, all is tidied
abbrev pub Tidying : State → View → View → Type 0
Tidying s u w = IsSteady u → Tidies s u w

pub tidying : {s : State} {a b : Option Moments} → Goes a b (Going s) (Going s) → Goes a b (Tidying s) (Tidying s)
tidying {s = s} first = knowing {P = λ u. Unit {0}} {R = Going s} {Q = Going s} (λ m e. tt) first (λ u w k r steady. (r steady).tidies) (λ u w k r steady. (r steady).tidies)

pub pruning_on : {s : State} {a b c : Option Moments} → IsTold a → IsTold b → Goes a b (Going s) (Going s) → Goes b c (Prunes repo (kept_of s.refs)) (Prunes repo (kept_of s.refs)) → Goes a c (Tidying s) (Tidying s)
pruning_on {s = s} told between first second_ = knowing {P = IsTree} {R = λ u w. IsTree u → Tidying s u w} {Q = λ u w. IsTree u → Tidying s u w} told
    (goes_on between (begins {R' = λ u w. IsTree u → Tidying s u w} {Q' = λ u w. IsTree u → Going s u w} told first (λ u w t r tree steady. (r steady).tidies) (λ u w t r q tree. q)) second_
    (λ u v w t r q x tree steady. let k = q tree steady in tidies_on tree t k.tidies (tidies_pruned k.steady x))
    (λ u v w t r q x e tree steady. let k = q tree steady in tidies_on tree t k.tidies (tidies_pruned k.steady e)))
    (λ u w tree r. r tree) (λ u w tree q. q tree)

-- ---- what is ready

-- what is ready goes on to open
pub ready_on : {s : State} {u w : View} → Going s u w → IsReady s u → Opens s w
ready_on step ready = (step ready.steady).tidies.opens ready.opens

pub ready_more : {s : State} {u w : View} → Going s u w → IsReady s u → IsReady s w
ready_more step ready = record { steady = (step ready.steady).steady; opens = ready_on step ready }

-- ---- the two syncs

-- nothing was put anywhere
abbrev pub PutsNone : View → View → Type 0
PutsNone u w = (x : Elements × Slot) → Contains w.stood x → Contains u.stood x

puts_none : {r : Result (Unit {0}) HostError} {u w : View} → Step syncs r u w → PutsNone u w
puts_none step x had = elim (put_call (called step) x had) [ inl before ↦ before | inr none ↦ absurd none ]

-- synced, and tidied so far
abbrev pub Synced : State → View → View → Type 0
Synced s u w = Tidies s u w × IsSteady w × SameFiles u w × PutsNone u w

pub synced_goes : {s : State} {a b : Option Moments} → IsTold a → IsTold b → Makes (Step syncs (Ok tt)) a b → Goes a b (Tidies s) (Synced s)
synced_goes {s = s} told next call = ends_tree next (begins {R' = Tidies s} {Q' = λ u w. IsTree w → Synced s u w} told (makes_goes call) (λ u w tree step. tidies_sync tree step) (λ u w tree r step after. (tidies_sync tree step, steady_synced after step, files_synced step, puts_none step))) (λ u w tree q. q tree)

-- then all between the syncs
pub settled_goes : {s : State} {a b c : Option Moments} → IsTold a → IsTold b → Goes a b (Tidies s) (Synced s) → Goes b c (Tidying s) (Tidying s) → Goes a c (Tidies s) (Tidies s)
settled_goes {s = s} told between first second_ = knowing {P = IsTree} {R = λ u w. IsTree u → Tidies s u w} {Q = λ u w. IsTree u → Tidies s u w} told
    (goes_on between (begins {R' = λ u w. IsTree u → Tidies s u w} {Q' = λ u w. IsTree u → Synced s u w} told first (λ u w t r tree. r) (λ u w t r q tree. q)) second_
    (λ u v w t r q x tree. let k = q tree in tidies_on tree t k.0 (x k.1)) (λ u v w t r q x e tree. let k = q tree in tidies_on tree t k.0 (e k.1)))
    (λ u w tree r. r tree) (λ u w tree q. q tree)

-- and the last sync
pub ended_goes : {s : State} {a b c : Option Moments} {r : Result (Unit {0}) HostError} → IsTold a → IsTold b → Goes a b (Tidying s) (Tidying s) → Makes (Step syncs r) b c → Goes a c (Tidying s) (Tidying s)
ended_goes {s = s} told between first call = knowing {P = IsTree} {R = λ u w. IsTree u → Tidying s u w} {Q = λ u w. IsTree u → Tidying s u w} told
    (goes_on between (begins {R' = λ u w. IsTree u → Tidying s u w} {Q' = λ u w. IsTree u → Tidying s u w} told first (λ u w t r tree. r) (λ u w t r q tree. q)) (makes_goes call)
    (λ u v w t r q x tree steady. tidies_on tree t (q tree steady) (tidies_sync t x)) (λ u v w t r q x e tree steady. tidies_on tree t (q tree steady) (tidies_sync t e)))
    (λ u w tree r. r tree) (λ u w tree q. q tree)

-- steps that tidy, one after another
pub tidies_going : {s : State} {S T : View → View → Type 0} {a b c : Option Moments} → IsTold a → IsTold b → Goes a b (Tidies s) (Tidies s) → Goes b c S T → ((u w : View) → IsTree u → S u w → Tidies s u w) → ((u w : View) → IsTree u → T u w → Tidies s u w) → Goes a c (Tidies s) (Tidies s)
tidies_going {s = s} told between first second_ each last = knowing {P = IsTree} {R = λ u w. IsTree u → Tidies s u w} {Q = λ u w. IsTree u → Tidies s u w} told
    (goes_on between (begins {R' = λ u w. IsTree u → Tidies s u w} {Q' = λ u w. IsTree u → Tidies s u w} told first (λ u w t r tree. r) (λ u w t r q tree. q)) second_
    (λ u v w t r q x tree. tidies_on tree t (q tree) (each v w t x)) (λ u v w t r q x e tree. tidies_on tree t (q tree) (last v w t e)))
    (λ u w tree r. r tree) (λ u w tree q. q tree)

-- what is settled stays so
pub was_tidied : {s : State} {u v w : View} → (Opens s u → Settled (shows v)) → Lasts u v → Step syncs (Ok tt) v w → WasTidied s u w
was_tidied {v = v} {w = w} settled so_far step = record {
  settled = λ opens. subst Settled (sym (ap shows step.how.1)) (settled opens);
  lasts = synced step;
  shares = shared_on so_far.shares (shared_same same) kept;
  creates = creates_on so_far.creates (creates_none NoName (λ x had. inl (puts_none step x had)) (λ q id below none. none)) so_far.files kept;
}
  where
    same : SameFiles v w
    same = files_synced step

    kept : KeepsFiles v w
    kept = record { rows = λ id f some. same.rows id ∙ some; stood = same.stood }

-- of the same state
pub tidying_of : {s z : State} {a b : Option Moments} → z ≡ s → Goes a b (Tidying z) (Tidying z) → Goes a b (Tidying s) (Tidying s)
tidying_of {a = a} {b = b} same first = subst (λ x. Goes a b (Tidying x) (Tidying x)) same first

pub ready_of : {s z : State} {u v : View} → z ≡ s → Synced s u v → Opens s u → IsReady z v
ready_of {v = v} same q opens = subst (λ x. IsReady x v) (sym same) (record { steady = q.1; opens = q.0.opens opens })

-- what was done after the first sync
pub tidied_of : {s z : State} {u v w : View} → z ≡ s → Synced s u v → WasTidied z v w → WasTidied s u w
tidied_of {v = v} same q was = record {
  settled = λ opens. was.settled (subst (λ x. Opens x v) (sym same) (q.0.opens opens));
  lasts = was.lasts;
  shares = record { each = λ id f none some. was.shares.each id f (q.2.rows id ∙ none) some };
  creates = record {
    each = λ o none. absurd none;
    only = λ p id below had. elim (was.creates.only p id below had) [ inl before ↦ inl (q.3 (p, file id) before) | inr new ↦ absurd new.1.1 ];
    one = λ o none. absurd none;
  };
}
