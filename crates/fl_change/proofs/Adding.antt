-- What an operation leaves that adds a ref: all is settled but for work and the file of the ref.
use Rattle.std.proofs.Common.{◌≡◌, ◌≢◌, ◌⊎◌, inl, inr, ℕ, ◌<◌, ◌≤◌, List, [], ◌∷◌, ◌++◌, length, eqb, true, Some, None, if◌then◌else◌, Contains, refl, sym, ◌∙◌, ap, subst, codes, arith}
use Rattle.std.specs.Prelude.{map, is_some}
use Rattle.std.specs.List.{list_all}
use Rattle.std.specs.Str.{bytes_eq}
use Rattle.std.proofs.lemmas.Bool.{cases_Bool, and_parts, cond-true, cond-false}
use Rattle.std.proofs.lemmas.Slice.Eq.{bytes_eq-Decides}
use Rattle.fp_host.specs.Paths.{Elements, Slot}
use Rattle.fp_host.specs.View.{View, IsTree}
use Rattle.fp_host.specs.Outcome.{Spot, gone, shows}
use Rattle.fp_host.proofs.Above.{above_longer}
use Rattle.fp_host.proofs.Separate.{head_of, tail_of}
use Rattle.fp_host.proofs.Shown.{now_left}
use Rattle.fp_base.specs.declared.object.ObjKind.{ObjKind}
use Rattle.fp_base.proofs.Texts.{bytes_eq-true, bytes_eq-false}
use Rattle.fp_base.proofs.Lists.{in_first}
use Rattle.fp_base.proofs.Options.{none_some}
use Rattle.fp_name.specs.Hex.{is_byte, is_digest, hex}
use Rattle.fp_name.specs.Kinds.{kind_word}
use Rattle.fp_name.specs.Refs.{Ref, is_ref, ref_text, ref_with}
use Rattle.fp_name.specs.declared.kind.RefKind.{RefKind}
use Rattle.fp_name.proofs.Refs.{word_apart, kind_same}
use Rattle.fp_small.specs.Clear.{IsWithin}
use Rattle.fp_small.specs.Files.{KeepsFiles}
use Rattle.fp_small.specs.Places.{repo, tmp}
use Rattle.fp_small.specs.declared.op.Op.{Op}
use Rattle.fp_small.specs.declared.op.Op.TheVariants.{Install}
use Rattle.fp_small.specs.declared.state.State.{State}
use Rattle.fp_small.specs.declared.state.RefRow.{RefRow}
use Rattle.ost_model.specs.Objects.{Have, object_path, object_at, store}
use Rattle.ost_model.specs.Order.{Place, In, Agree, order}
use Rattle.ost_model.proofs.Places.{order_same}
use Rattle.ost_store.proofs.Lists.{in_one}
use Rattle.ost_store.proofs.Staying.{same_shows}
use Rattle.ost_walk.specs.Steps.{place_name}
use Rattle.dep_states.specs.Names.{config, remotes_conf, pins_file, commit_dir, ref_file}
use Rattle.dep_states.specs.After.{May, state_after, after_op, row_at}
use Rattle.dep_states.specs.Settled.{Used, HasBytes}
use Rattle.dep_states.specs.Shown.{Shows, at_name, ref_key, there, ref_seen}
use Rattle.dep_states.specs.Sound.{Keeps, Opens}
use Rattle.dep_states.proofs.Changes.{at_inserted}
use Rattle.dep_states.proofs.Single.{some_is}
use Rattle.dep_states.proofs.Sparing.{state_of_kept, shown_good}
use Rattle.dep_states.proofs.Switch.{digits_no_active}
use Rattle.dep_states.proofs.Switching.{word_no_repo}
use Rattle.dep_states.proofs.Total.{ref_is}
use Rattle.dep_states.proofs.Usual.{sound_store}
use Rattle.dep_states.proofs.Work.{work_top, work_second}
use Rattle.dep_tidy.specs.Kept.{kept_of}
use Rattle.dep_tidy.specs.Tidy.{SettledButRef}
use Rattle.dep_tidy.proofs.Apart.{dir_top, tmp_no_refs}
use Rattle.dep_tidy.proofs.Pruned.{object_there, row_by_seen, seen_by_row, keeps_listed, used_cases, from_list}
use Rattle.dep_tidy.proofs.RowsKept.{from_kept, to_kept, at_in, in_at}
use Rattle.op_change.specs.Applied.{ChangesBy, HasObjectsFor, done_with}
use Rattle.op_change.specs.Bringing.{IsFolderFor, above_commit, above_object, above_head, for_work, BringsName, some_work, in_folder, a_record, at_active, an_object, a_config, a_folder}
use Rattle.op_change.specs.Brought.{HasObjects, commit_time}
use Rattle.op_change.specs.Readying.{a_head}
use Rattle.fl_change.specs.Performs.{Rests, OfAdded}
use Rattle.fl_change.proofs.Stored.{hex_same, kept_had, kept_digest}
use Rattle.fl_change.proofs.Worlds.{contains_in}

-- ---- the names

-- two folders of commits with one path
dir_same : (r s : Ref) (c d : List ℕ) → commit_dir r c ≡ commit_dir s d → (r ≡ s) × (hex c ≡ hex d)
dir_same r s c d h =
    let branch = tail_of h in
    let arch = tail_of branch in
    let id = tail_of arch in
    let kinds = kind_same r.kind s.kind (head_of (tail_of id)) in
    (λ i. ref_with (kinds i) (head_of id i) (head_of arch i) (head_of branch i), head_of h)

module _ (name : Ref) (commit : List ℕ) where
  -- a folder that is made is above a commit's folder, or shorter
  folder_short : (q : Elements) → IsFolderFor name commit q → length q < 5
  folder_short q (above_commit above) = above_longer q (commit_dir name commit) above
  folder_short q (above_object d kind digits above) = omega (arith, above_longer q (object_path repo d kind) above)
  folder_short q (above_head above) = omega (arith, above_longer q a_head above)
  folder_short q (for_work is) = omega (arith, ap length is)

  module _ (s : State) (e : Slot) where
    -- no ref file
    no_file : (origin : List ℕ) (other : Ref) → BringsName s name commit (ref_file origin other) e → ⊥
    no_file origin other (some_work above) = tmp_no_refs (sym (work_second (ref_file origin other) (inr above)))
    no_file origin other (in_folder unkept within) = word_no_repo name.kind (sym (dir_top name commit (ref_file origin other) within))
    no_file origin other (a_record is put) = omega (arith, ap length is)
    no_file origin other (at_active is put) = omega (arith, ap length is)
    no_file origin other (an_object d kind digits is) = omega (arith, ap length is)
    no_file origin other (a_config is put) = omega (arith, ap length is)
    no_file origin other (a_folder folder put) = omega (arith, folder_short (ref_file origin other) folder)

    -- no file at the top, but one that is named as `repo` or as a kind
    no_folder : (x : List ℕ) → codes "repo" ≢ x → ((k : RefKind) → kind_word k ≢ x) → IsFolderFor name commit (x ∷ []) → ⊥
    no_folder x r k (above_commit (inl is)) = omega (arith, ap length is)
    no_folder x r k (above_commit (inr (inl is))) = omega (arith, ap length is)
    no_folder x r k (above_commit (inr (inr (inl is)))) = omega (arith, ap length is)
    no_folder x r k (above_commit (inr (inr (inr (inl is))))) = k name.kind (sym (head_of is))
    no_folder x r k (above_commit (inr (inr (inr (inr (inl is)))))) = omega (arith, ap length is)
    no_folder x r k (above_commit (inr (inr (inr (inr (inr none)))))) = none
    no_folder x r k (above_object d kind digits (inl is)) = omega (arith, ap length is)
    no_folder x r k (above_object d kind digits (inr (inl is))) = omega (arith, ap length is)
    no_folder x r k (above_object d kind digits (inr (inr (inl is)))) = r (sym (head_of is))
    no_folder x r k (above_object d kind digits (inr (inr (inr (inl is))))) = omega (arith, ap length is)
    no_folder x r k (above_object d kind digits (inr (inr (inr (inr none))))) = none
    no_folder x r k (above_head (inl is)) = omega (arith, ap length is)
    no_folder x r k (above_head (inr (inl is))) = omega (arith, ap length is)
    no_folder x r k (above_head (inr (inr (inl is)))) = r (sym (head_of is))
    no_folder x r k (above_head (inr (inr (inr (inl is))))) = omega (arith, ap length is)
    no_folder x r k (above_head (inr (inr (inr (inr none))))) = none
    no_folder x r k (for_work is) = omega (arith, ap length is)

    no_within : (p : Elements) (x : List ℕ) → 2 ≤ length p → IsWithin p (x ∷ []) → ⊥
    no_within p x long (inl is) = omega (arith, long, ap length is)
    no_within p x long (inr above) = omega (arith, long, above_longer p (x ∷ []) above)

    no_top : (x : List ℕ) → codes "repo" ≢ x → ((k : RefKind) → kind_word k ≢ x) → BringsName s name commit (x ∷ []) e → ⊥
    no_top x r k (some_work above) = omega (arith, above_longer tmp (x ∷ []) above)
    no_top x r k (in_folder unkept within) = no_within (commit_dir name commit) x (omega arith) within
    no_top x r k (a_record is put) = omega (arith, ap length is)
    no_top x r k (at_active is put) = omega (arith, ap length is)
    no_top x r k (an_object d kind digits is) = omega (arith, ap length is)
    no_top x r k (a_config is put) = omega (arith, ap length is)
    no_top x r k (a_folder folder put) = no_folder x r k folder

    -- no folder of another commit
    same_dir : (other : Ref) (c : List ℕ) → BringsName s name commit (commit_dir other c) e → (other ≡ name) × (hex c ≡ hex commit)
    same_dir other c (some_work above) = absurd (word_no_repo other.kind (work_top (commit_dir other c) (inr above)))
    same_dir other c (in_folder unkept (inl is)) = dir_same other name c commit is
    same_dir other c (in_folder unkept (inr above)) = absurd (omega (arith, above_longer (commit_dir name commit) (commit_dir other c) above))
    same_dir other c (a_record is put) = absurd (omega (arith, ap length is))
    same_dir other c (at_active is put) = absurd (digits_no_active c (head_of is))
    same_dir other c (an_object d kind digits is) = absurd (omega (arith, ap length is))
    same_dir other c (a_config is put) = absurd (omega (arith, ap length is))
    same_dir other c (a_folder folder put) = absurd (omega (arith, folder_short (commit_dir other c) folder))

-- ---- what it leaves

placed : (ps : List Place) (o : List ℕ × ObjKind) → In (map place_name ps) o → (p : Place) × In ps p × (o ≡ place_name p)
placed [] o none = absurd none
placed (p ∷ ps) o (inl is) = (p, inl refl, sym is)
placed (p ∷ ps) o (inr more) = let later = placed ps o more in (later.0, inr later.1, later.2)

module _ (s : State) (name : Ref) (origin commit : List ℕ) (time : ℕ) (have : Have) {v w : View} (tree : IsTree v) (next : IsTree w) (rests : Rests s v)
    (none : row_at s name ≡ None) (good : is_ref name ≡ true) (digits : is_digest commit ≡ true)
    (names : (q : Elements) → (w.names q ≡ v.names q) ⊎ BringsName s name commit q (w.names q)) (files : KeepsFiles v w)
    (opens : Opens (after_op s time (Install name origin commit)) w) (has : HasObjects have commit v w) where
  abbrev t : State
  t = after_op s time (Install name origin commit)

  abbrev new : RefRow
  new = record { name = name; origin = origin; commit = commit; timestamp = time; previous = None }

  shown_before : Shows (shows v) s
  shown_before = rests.opens.shown (shows v) (now_left v)

  shown_after : Shows (shows w) t
  shown_after = opens.shown (shows w) (now_left w)

  -- rows

  at_after : (other : Ref) → row_at t other ≡ (if bytes_eq (ref_text name) (ref_text other) then Some new else row_at s other)
  at_after other = at_inserted ref_key s.refs new (ref_text other) none

  row_stays : (other : Ref) (row : RefRow) → row_at s other ≡ Some row → row_at t other ≡ Some row
  row_stays other row is = elim (cases_Bool (bytes_eq (ref_text name) (ref_text other))) [
    | inl same ↦ absurd (none_some (sym none ∙ ap (at_name ref_key s.refs) (bytes_eq-true (ref_text name) (ref_text other) same) ∙ is))
    | inr off ↦ at_after other ∙ cond-false (bytes_eq (ref_text name) (ref_text other)) (Some new) (row_at s other) off ∙ is
  ]

  row_comes : row_at t name ≡ Some new
  row_comes = at_after name ∙ cond-true (bytes_eq (ref_text name) (ref_text name)) (Some new) (row_at s name) ((bytes_eq-Decides (ref_text name) (ref_text name)).1 refl)

  row_cases : (other : Ref) (row : RefRow) → ref_seen (shows w) other ≡ there row → (other ≡ name) ⊎ (row_at s other ≡ Some row)
  row_cases other row is =
      let at : row_at t other ≡ Some row = row_by_seen shown_after other row is in
      elim (cases_Bool (bytes_eq (ref_text name) (ref_text other))) [
        | inl same ↦
            let one : new ≡ row = some_is (sym (cond-true (bytes_eq (ref_text name) (ref_text other)) (Some new) (row_at s other) same) ∙ sym (at_after other) ∙ at) in
            inl (sym (ref_is (shows w) other row is).1 ∙ ap (λ (r : RefRow). r.name) (sym one))
        | inr off ↦ inr (sym (cond-false (bytes_eq (ref_text name) (ref_text other)) (Some new) (row_at s other) off) ∙ sym (at_after other) ∙ at)
      ]

  keeps_still : {other : Ref} {c : List ℕ} → Keeps (shows v) other c → Keeps (shows w) other c
  keeps_still {other = other} k = state_of_kept (shown_good (shows v) other k.shown) shown_after (record { row = k.row; has = row_stays other k.row (row_by_seen shown_before other k.row k.shown); of_row = k.of_row })

  keeps_new : Keeps (shows w) name commit
  keeps_new = state_of_kept good shown_after (record { row = new; has = row_comes; of_row = inl refl })

  -- objects

  abbrev old : Have
  old = store repo (shows v)

  abbrev now : Have
  now = store repo (shows w)

  kept_still : (c : List ℕ) → Contains (kept_of s.refs) c → Contains (kept_of t.refs) c
  kept_still c kept =
      let from = from_kept c s.refs kept in
      let row = from.0 in
      to_kept c t.refs row (at_in t.refs (ref_key row) row (row_stays row.name row (in_at s.refs row shown_before.refs_ascend from.1))).0 from.2

  kept_new : Contains (kept_of t.refs) commit
  kept_new = to_kept commit t.refs new (at_in t.refs (ref_text name) new row_comes).0 (inl refl)

  object_before : (d : List ℕ) (kind : ObjKind) → now d kind ≡ old d kind → is_digest d ≡ true → shows w (object_path repo d kind) ≢ gone → shows v (object_path repo d kind) ≢ gone
  object_before d kind same good_digest some g =
      let is = object_there (shows w) (sound_store (shows w) (opens.sound (shows w) (now_left w))) d kind good_digest some in
      cc (sym (ap (λ (o : Spot). is_some (object_at kind o)) g) ∙ ap is_some (sym same) ∙ is)

  used_before : (d : List ℕ) (kind : ObjKind) → Used (shows v) d kind → Used (shows w) d kind
  used_before d kind u =
      let listed = keeps_listed shown_before u.name u.commit u.kept in
      let inside = contains_in (kept_of s.refs) u.commit listed in
      let agree : Agree old now (order old u.commit) = λ p here. has.stood p.digest p.kind (kept_digest s rests.opens u.commit inside p here) (kept_had s rests.opens u.commit inside p here) in
      from_list opens d kind (record {
        commit = u.commit;
        place = u.place;
        kept = kept_still u.commit listed;
        within = subst (λ (ps : List Place). In ps u.place) (sym (order_same old now u.commit agree)) u.inside;
        is = (λ i. (sym u.digest_is i, sym u.kind_is i));
      })

  used_now : (d : List ℕ) (kind : ObjKind) → is_digest d ≡ true → shows w (object_path repo d kind) ≢ gone → Used (shows w) d kind
  used_now d kind good_digest some = elim (used_cases have (commit ∷ []) d kind) [
    | inl u ↦ from_list opens d kind (record {
      commit = commit;
      place = u.place;
      kept = kept_new;
      within = subst (λ (ps : List Place). In ps u.place) (sym (order_same have now commit has.there)) (subst (λ (c : List ℕ). In (order have c) u.place) (in_one commit u.commit u.kept) u.within);
      is = u.is;
    })
    | inr off ↦
        let same : now d kind ≡ old d kind = has.others d kind good_digest (λ inside. let p = placed (order have commit) (d, kind) inside in off (record { commit = commit; place = p.0; kept = in_first commit []; within = p.1; is = p.2 })) in
        used_before d kind (rests.settled.used d kind good_digest (object_before d kind same good_digest some))
  ]

  -- what is beside the commit is as it was

  same_at : (q : Elements) → (BringsName s name commit q (w.names q) → ⊥) → shows w q ≡ shows v q
  same_at q off = same_shows tree next files q (elim (names q) [ inl same ↦ same | inr put ↦ absurd (off put) ])

  file_still : (other_origin : List ℕ) (other : Ref) → shows w (ref_file other_origin other) ≡ shows v (ref_file other_origin other)
  file_still other_origin other = same_at (ref_file other_origin other) (no_file name commit s _ other_origin other)

  top_still : (x : List ℕ) → codes "repo" ≢ x → ((k : RefKind) → kind_word k ≢ x) → shows w (x ∷ []) ≡ shows v (x ∷ [])
  top_still x r k = same_at (x ∷ []) (no_top name commit s _ x r k)

  config_still : shows w config ≡ shows v config
  config_still = top_still (codes "config") (bytes_eq-false (codes "repo") (codes "config") refl) (λ k. word_apart k (codes "config") refl refl)

  remotes_still : shows w remotes_conf ≡ shows v remotes_conf
  remotes_still = top_still (codes "remotes.conf") (bytes_eq-false (codes "repo") (codes "remotes.conf") refl) (λ k. word_apart k (codes "remotes.conf") refl refl)

  pins_still : shows w pins_file ≡ shows v pins_file
  pins_still = top_still (codes "pins") (bytes_eq-false (codes "repo") (codes "pins") refl) (λ k. word_apart k (codes "pins") refl refl)

  dirs_now : (other : Ref) (c : List ℕ) → is_ref other ≡ true → is_digest c ≡ true → shows w (commit_dir other c) ≢ gone → Keeps (shows w) other c
  dirs_now other c good_ref good_digest some = elim (names (commit_dir other c)) [
    | inl same ↦ keeps_still (rests.settled.dirs other c good_ref good_digest (λ g. some (same_shows tree next files (commit_dir other c) same ∙ g)))
    | inr put ↦
        let is = same_dir name commit s (w.names (commit_dir other c)) other c put in
        let one : c ≡ commit = hex_same c commit (and_parts (eqb (length commit) 32) (list_all is_byte commit) digits).1 is.1 in
        subst (λ (r : Ref). Keeps (shows w) r c) (sym is.0) (subst (Keeps (shows w) name) (sym one) keeps_new)
  ]

  pub settled_but_ref : SettledButRef name (shows w)
  settled_but_ref = record {
    used = used_now;
    dirs = dirs_now;
    ref_files = λ other row is. elim (row_cases other row is) [
      | inl it ↦ inl it
      | inr was ↦ inr (subst (HasBytes (hex row.commit ++ 10 ∷ [])) (sym (file_still row.origin other)) (rests.settled.ref_files other row (seen_by_row shown_before other row (shown_good (shows w) other is) was)))
    ];
    no_other = λ from other remote good_ref some.
        let had = rests.settled.no_other from other remote good_ref (λ g. some (file_still from other ∙ g)) in
        (had.0, seen_by_row shown_after other had.0 good_ref (row_stays other had.0 (row_by_seen shown_before other had.0 had.1)), had.2);
    no_old = λ some.
        let was = rests.settled.no_old (λ g. some (config_still ∙ g)) in
        (remotes_still ∙ was.0, pins_still ∙ was.1);
  }

pub added_rest : (s : State) (op : Op) (have : Have) {v w : View} → May s op → IsTree v → IsTree w → Rests s v → ChangesBy s op v w → Opens (state_after s (done_with have op)) w → HasObjectsFor have op v w → OfAdded op (λ name. SettledButRef name (shows w))
added_rest s (Install name origin commit) have may tree next rests changes opens has =
    settled_but_ref s name origin commit (commit_time have commit) have tree next rests may.allows.1 may.allows.0 may.allows.3 changes.names changes.files opens has
added_rest s _ have may tree next rests changes opens has = tt
