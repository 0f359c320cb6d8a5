-- Ref files that are dropped and written.
use Rattle.std.proofs.Common.{◌≡◌, ◌⊎◌, inl, inr, ℕ, ◌+◌, ◌<◌, ◌≤◌, List, [], ◌∷◌, length, take, drop, get_or, true, Option, Some, None, refl, sym, ◌∙◌, ap, subst, Contains}
use Rattle.std.specs.Prelude.{map}
use Rattle.std.proofs.lemmas.List.{take-append-drop}
use Rattle.std.proofs.lemmas.List.Elements.{Contains-append_left, Contains-get_or}
use Rattle.fp_host.specs.Paths.{Elements, Slot, absent, IsAbove}
use Rattle.fp_host.specs.View.{View, IsTree}
use Rattle.fp_host.specs.Calls.{IsFile}
use Rattle.fp_host.specs.Moments.{Moments, Always}
use Rattle.fp_host.specs.Reads.{is_ascending}
use Rattle.fp_host.specs.Outcome.{Spot, shows}
use Rattle.fp_name.specs.Grammar.{is_remote_name}
use Rattle.fp_name.specs.Hex.{is_digest}
use Rattle.fp_name.specs.Refs.{Ref, is_ref, ref_text}
use Rattle.fp_small.specs.Places.{repo, tmp}
use Rattle.fp_small.specs.Clear.{GoneAt, AbsentAt}
use Rattle.fp_small.specs.Replace.{IsFreeFile, ReplacesAt, ReplacesName, Replaces, WasReplaced}
use Rattle.fp_small.specs.declared.state.State.{State}
use Rattle.fp_small.specs.declared.state.RefRow.{RefRow}
use Rattle.ost_refs.specs.Places.{place_path}
use Rattle.ost_refs.specs.Files.{ref_bytes, ref_in, ReadsRef}
use Rattle.ost_refs.specs.Lists.{ListsRefs}
use Rattle.ost_refs.specs.declared.place.RefFile.{RefFile}
use Rattle.ost_refs.specs.declared.place.RefFile.TheVariants.{Digest}
use Rattle.ost_refs.specs.declared.place.RefPlace.{RefPlace}
use Rattle.ost_refs.specs.declared.place.RefPlace.TheVariants.{Head, Remote}
use Rattle.ost_refs.proofs.Files.{written}
use Rattle.ost_store.proofs.Lists.{in_one}
use Rattle.ost_store.proofs.Staying.{same_shows}
use Rattle.std.proofs.lemmas.Bool.{and_from}
use Rattle.fp_base.proofs.Lists.{in_none, in_first, all_has}
use Rattle.dep_states.specs.Names.{ref_file}
use Rattle.dep_states.specs.Shown.{at_name, ref_key}
use Rattle.dep_states.specs.Sound.{Opens}
use Rattle.ost_refs.specs.Changes.{CanWrite, WasDropped}
use Rattle.dep_states.specs.After.{row_at, IsGoodRow}
use Rattle.dep_states.proofs.Good.{shown_good as state_good}
use Rattle.dep_states.proofs.Law.{frame_law}
use Rattle.dep_tidy.proofs.Lasted.{lasts_same, lasts_on, lasts_ref}
use Rattle.dep_tidy.proofs.Clearing.{can_drop, can_write, refs_spare}
use Rattle.dep_states.proofs.Single.{some_is}
use Rattle.dep_tidy.specs.Steps.{Alters, IsWanted, HasGoodNames, IsOther, IsOtherFile, OtherGone, OtherAbsent, HasNoOther, HasNoneAt, RefAt, file_at, folder_at, work_at, RefName, file_name, folder_name, work_name, HasRefFiles, Writes, WroteFile, WroteSome, rows_by, rows_named}
use Rattle.fp_host.proofs.Follow.{follows_to}
use Rattle.fp_host.proofs.Shown.{now_left}
use Rattle.dep_tidy.proofs.Alter.{alters_none, alters_same, alters_on, alters_to}
use Rattle.dep_tidy.proofs.Apart.{folder_shorter, folder_no_work, file_no_work, tmp_no_refs}
use Rattle.dep_tidy.proofs.UnkeptFolders.{took_cases, all_taken}
use Rattle.dep_tidy.proofs.RowsKept.{at_in, in_at}
use Rattle.dep_states.proofs.Switching.{second}
use Rattle.dep_states.proofs.Switch.{file_same}
use Rattle.dep_states.specs.Zones.{outward}

-- ---- files that are dropped

-- the file of a place that isn't wanted
pub record IsOtherPlace (s : State) (place : RefPlace) : Type 0 where
  pub origin : List ℕ
  pub name : Ref
  pub is : IsOther s origin name
  pub at : place ≡ Remote origin name

pub other_place : {s : State} (place : RefPlace) → HasGoodNames place → (IsWanted s place → ⊥) → IsOtherPlace s place
other_place (Head name) good off = absurd (off tt)
other_place (Remote origin name) good off = record { origin = origin; name = name; is = record { remote = good.0; good = good.1; other = off }; at = refl }

module _ {s : State} {place : RefPlace} (o : IsOtherPlace s place) where
  other_file : (q : Elements) → q ≡ place_path repo place → IsOtherFile s q
  other_file q at = record { origin = o.origin; name = o.name; is = o.is; at = at ∙ ap (place_path repo) o.at }

  pub drop_gives : {root : Elements} → root ≡ repo → (q : Elements) (spot : Spot) → GoneAt (place_path root place) q spot → OtherGone s q spot
  drop_gives root q spot h = (other_file q (h.0 ∙ ap (λ r. place_path r place) root), h.1)

  pub drop_puts : {root : Elements} → root ≡ repo → (q : Elements) (e : Slot) → AbsentAt (place_path root place) q e → OtherAbsent s q e
  drop_puts root q e h = (other_file q (h.0 ∙ ap (λ r. place_path r place) root), h.1)

  pub none_dropped : {root : Elements} {w : View} → root ≡ repo → WasDropped (place_path root place) w → HasNoneAt s (place ∷ []) w
  none_dropped {w = w} root was = record {
    none = λ origin name other has. ap (λ (p : RefPlace). w.names (place_path repo p)) (in_one place (Remote origin name) has) ∙ ap (λ r. w.names (place_path r place)) (sym root) ∙ was.name;
  }

  pub drop_free : {root : Elements} {v : View} → root ≡ repo → IsTree v → Opens s v → IsFreeFile (place_path root place) v
  drop_free {v = v} root tree opens = subst (λ (q : Elements). IsFreeFile q v) (sym (ap (λ r. place_path r place) root ∙ ap (place_path repo) o.at)) (can_drop tree opens o.origin o.name o.is.remote o.is.good)

-- a place that is wanted
pub none_wanted : {s : State} (place : RefPlace) → IsWanted s place → (w : View) → HasNoneAt s (place ∷ []) w
none_wanted {s = s} place wanted w = record { none = λ origin name other has. absurd (other.other (subst (IsWanted s) (sym (in_one place (Remote origin name) has)) wanted)) }

still_absent : {s : State} (v w : View) → ((q : Elements) → (w.names q ≡ v.names q) ⊎ OtherAbsent s q (w.names q)) → (q : Elements) → v.names q ≡ absent → w.names q ≡ absent
still_absent v w names q none = elim (names q) [ inl same ↦ same ∙ none | inr put ↦ put.1 ]

pub none_at_start : {s : State} (places : List RefPlace) (v : View) → HasNoneAt s (take 0 places) v
none_at_start places v = record { none = λ origin name other has. absurd (in_none (Remote origin name) has) }

pub none_at_next : {s : State} (places : List RefPlace) (i : ℕ) (place : RefPlace) → i < length places → place ≡ get_or places i place → {v w : View}
    → ((q : Elements) → (w.names q ≡ v.names q) ⊎ OtherAbsent s q (w.names q)) → HasNoneAt s (take i places) v → HasNoneAt s (place ∷ []) w → HasNoneAt s (take (i + 1) places) w
none_at_next places i place low is {v = v} {w = w} changes before here = record {
  none = λ origin name other has. elim (took_cases places i place low is (Remote origin name) has) [
    | inl earlier ↦ still_absent v w changes (ref_file origin name) (before.none origin name other earlier)
    | inr same ↦ here.none origin name other (subst (Contains (place ∷ [])) (sym same) (in_first place []))
  ];
}

file_there : {e : Slot} → IsFile e → e ≡ absent → ⊥
file_there f none = cc (f.1, none)

pub none_at_all : {s : State} (places : List RefPlace) (i : ℕ) → length places ≤ i → {root : Elements} {u w : View} → root ≡ repo → ListsRefs root u places
    → ((q : Elements) → (w.names q ≡ u.names q) ⊎ OtherAbsent s q (w.names q)) → HasNoneAt s (take i places) w → HasNoOther s w
none_at_all places i high {root = root} {u = u} root_is lists changes none = record {
  none = λ origin name other f. elim (changes (ref_file origin name)) [
    | inr put ↦ file_there f put.1
    | inl same ↦
        let there : IsFile (u.names (place_path root (Remote origin name))) = subst (λ r. IsFile (u.names (place_path r (Remote origin name)))) (sym root_is) (subst IsFile same f) in
        let listed = (lists.each (Remote origin name)).1 (and_from (is_remote_name origin) (is_ref name) other.remote other.good, there) in
        file_there f (none.none origin name other (all_taken places i (Remote origin name) high listed))
  ];
}

-- ---- a file that is written

pub replaces_from : {p : Elements} {bytes : List ℕ} {u v w : View} → v ≡ u → Replaces p bytes v w → Replaces p bytes u w
replaces_from {p = p} {bytes = bytes} {w = w} same r = subst (λ (x : View). Replaces p bytes x w) same r

module _ (row : RefRow) where
  abbrev one : List RefRow
  one = row ∷ []

  pub says_one : {v : View} → ref_in (shows v (ref_file row.origin row.name)) ≡ Digest row.commit → HasRefFiles one v
  says_one {v = v} is = record { each = λ r has. subst (λ (x : RefRow). ref_in (shows v (ref_file x.origin x.name)) ≡ Digest x.commit) (sym (in_one row r has)) is }

  pub one_says : {v : View} → HasRefFiles one v → ref_in (shows v (ref_file row.origin row.name)) ≡ Digest row.commit
  one_says files = files.each row (in_first row [])

  module _ {root : Elements} {place : RefPlace} (root_is : root ≡ repo) (at : place ≡ Remote row.origin row.name) where
    path_is : place_path root place ≡ ref_file row.origin row.name
    path_is = (λ i. place_path (root_is i) (at i))

    pub reads_file : {v : View} {found : RefFile} → ReadsRef (place_path root place) v found → found ≡ ref_in (shows v (ref_file row.origin row.name))
    reads_file {v = v} reads = reads.is ∙ ap (λ q. ref_in (shows v q)) path_is

    gives : {u : View} (q : Elements) (spot : Spot) → ReplacesAt (ref_file row.origin row.name) (ref_bytes row.commit) u q spot → RefAt one q spot
    gives q spot (inl h) = file_at row (in_first row []) h.0 h.1
    gives q spot (inr (inl h)) = folder_at row (in_first row []) h.0 h.1
    gives q spot (inr (inr h)) = work_at h.number h.is

    puts : {u : View} (q : Elements) (e : Slot) → ReplacesName (ref_file row.origin row.name) u q e → RefName one q e
    puts q e (inl h) = file_name row (in_first row []) h.0 h.1
    puts q e (inr (inl h)) = folder_name row (in_first row []) h.0 h.1
    puts q e (inr (inr h)) = work_name h.number h.is

    alters_written : {u w : View} → Replaces (place_path root place) (ref_bytes row.commit) u w → Alters (RefAt one) (RefName one) u w
    alters_written {u = u} {w = w} given =
        let r = subst (λ (p : Elements). Replaces p (ref_bytes row.commit) u w) path_is given in
        record {
          follows = follows_to (gives {u = u}) r.keeps.follows;
          names = λ q. elim (r.keeps.names q) [ inl same ↦ inl same | inr put ↦ inr (puts {u = u} q (w.names q) put) ];
          files = r.files;
          printed = r.keeps.printed;
        }

    -- written where it says something else
    pub writes_file : {u w : View} → (ref_in (shows u (ref_file row.origin row.name)) ≡ Digest row.commit → ⊥) → Replaces (place_path root place) (ref_bytes row.commit) u w → Writes one u w
    writes_file off given = record { alters = alters_written given; idle = λ files. absurd (off (one_says files)) }

    pub wrote_file : is_remote_name row.origin ≡ true → is_ref row.name ≡ true → is_digest row.commit ≡ true → {u w : View}
        → Replaces (place_path root place) (ref_bytes row.commit) u w → WasReplaced (place_path root place) (ref_bytes row.commit) u w → WroteFile row u w
    wrote_file remote named digits {u = u} {w = w} given was_given =
        let r = subst (λ (p : Elements). Replaces p (ref_bytes row.commit) u w) path_is given in
        let was = subst (λ (p : Elements). WasReplaced p (ref_bytes row.commit) u w) path_is was_given in
        let new = was.new.each (shows w) (now_left w) in
        record {
          file = λ good. says_one (ap ref_in new.1 ∙ written row.commit good);
          work = λ q above. elim (r.keeps.names q) [
            | inl same ↦ same
            | inr put ↦ elim put [
              | inl h ↦ absurd (file_no_work row.origin row.name (subst (IsAbove tmp) h.0 above))
              | inr other ↦ elim other [
                | inl h ↦ absurd (folder_no_work row.origin row.name q h.0 above)
                | inr h ↦ was.work q h ∙ sym h.free
              ]
            ]
          ];
          lasts = lasts_ref row.origin row.name row.commit remote named digits r was;
        }

  pub writes_same : {u w : View} → w ≡ u → Writes one u w
  writes_same same = record { alters = alters_same same; idle = λ files. same }

  -- one that says it already
  pub found_file : {u w : View} → w ≡ u → ref_in (shows u (ref_file row.origin row.name)) ≡ Digest row.commit → WroteFile row u w
  found_file {u = u} same is = record { file = λ good. says_one (ap (λ (v : View). ref_in (shows v (ref_file row.origin row.name))) same ∙ is); work = λ q above. ap (λ (v : View). v.names q) same; lasts = lasts_same same }

-- ---- along the rows

pub opens_refs : {s : State} {u w : View} → Writes s.refs u w → Opens s u → Opens s w
opens_refs step opens = frame_law refs_spare step.alters.follows opens

pub writes_start : {rows : List RefRow} {v : View} → Writes rows v v
writes_start = record { alters = alters_none; idle = λ files. refl }

-- a row of the state that opens is good, and its place is one
module _ (s : State) (row : RefRow) (has : Contains s.refs row) {v : View} (opens : Opens s v) where
  pub row_of_state : IsGoodRow row
  row_of_state = all_has IsGoodRow s.refs ((state_good (shows v) s (opens.shown (shows v) (now_left v))).rows) row has

pub can_write_row : (s : State) (row : RefRow) → Contains s.refs row → {v : View} → IsTree v → Opens s v → CanWrite repo (Remote row.origin row.name) v
can_write_row s row has tree opens = let good = row_of_state s row has opens in can_write tree opens row.origin row.name good.origin good.name

-- more rows
module _ {less more : List RefRow} (wider : (r : RefRow) → Contains less r → Contains more r) where
  pub wider_gives : (q : Elements) (spot : Spot) → RefAt less q spot → RefAt more q spot
  wider_gives q spot (file_at r has at new) = file_at r (wider r has) at new
  wider_gives q spot (folder_at r has at f) = folder_at r (wider r has) at f
  wider_gives q spot (work_at k at) = work_at k at

  pub wider_puts : (q : Elements) (e : Slot) → RefName less q e → RefName more q e
  wider_puts q e (file_name r has at f) = file_name r (wider r has) at f
  wider_puts q e (folder_name r has at d) = folder_name r (wider r has) at d
  wider_puts q e (work_name k at) = work_name k at

  pub fewer_files : {v : View} → HasRefFiles more v → HasRefFiles less v
  fewer_files files = record { each = λ r has. files.each r (wider r has) }

-- the rows, and the items that are gone through
module _ (rows items : List RefRow) (i : ℕ) (row : RefRow) (low : i < length items) (is : row ≡ get_or items i row) (same : items ≡ rows) where
  pub in_rows : Contains rows row
  in_rows = subst (λ (l : List RefRow). Contains l row) same (subst (Contains items) (sym is) (Contains-get_or items i row low))

  widened : (r : RefRow) → Contains (row ∷ []) r → Contains rows r
  widened r has = subst (Contains rows) (sym (in_one row r has)) in_rows

  -- one row more
  pub writes_on : {u v w : View} → Writes rows u v → Writes (row ∷ []) v w → Writes rows u w
  writes_on {w = w} first step = record {
    alters = alters_on first.alters (alters_to (wider_gives widened) (wider_puts widened) step.alters);
    idle = λ files. let before = first.idle files in subst (λ (x : View). w ≡ x) before (step.idle (fewer_files widened (subst (HasRefFiles rows) (sym before) files)));
  }

  took_in : (r : RefRow) → Contains (take i items) r → Contains rows r
  took_in r had = subst (λ (l : List RefRow). Contains l r) (take-append-drop i items ∙ same) (Contains-append_left (take i items) (drop i items) r had)

  module _ (up : is_ascending (map ref_key rows) ≡ true) {v w : View} (tree : IsTree v) (next : IsTree w) (step : Alters (RefAt (row ∷ [])) (RefName (row ∷ [])) v w) where
    -- one of the earlier rows keeps its file, where it isn't this one
    kept_file : (r : RefRow) → Contains rows r → HasRefFiles (row ∷ []) w → RefName (row ∷ []) (ref_file r.origin r.name) (w.names (ref_file r.origin r.name))
        → ref_in (shows w (ref_file r.origin r.name)) ≡ Digest r.commit
    kept_file r has here (file_name x of at f) =
        let same_place = file_same r.origin row.origin r.name row.name (at ∙ ap (λ (y : RefRow). ref_file y.origin y.name) (in_one row x of)) in
        let one : r ≡ row = some_is (sym (in_at rows r up has) ∙ ap (λ n. at_name ref_key rows (ref_text n)) same_place.1 ∙ in_at rows row up in_rows) in
        subst (λ (y : RefRow). ref_in (shows w (ref_file y.origin y.name)) ≡ Digest y.commit) (sym one) (one_says row here)
    kept_file r has here (folder_name x of at d) = absurd (folder_shorter x.origin x.name (ref_file r.origin r.name) at refl)
    kept_file r has here (work_name k at) = absurd (tmp_no_refs (sym (ap (λ (p : Elements). second (outward p)) at)))

    next_files : HasRefFiles (take i items) v → HasRefFiles (row ∷ []) w → HasRefFiles (take (i + 1) items) w
    next_files before here = record {
      each = λ r has. elim (took_cases items i row low is r has) [
        | inr one ↦ subst (λ (y : RefRow). ref_in (shows w (ref_file y.origin y.name)) ≡ Digest y.commit) (sym one) (one_says row here)
        | inl earlier ↦ elim (step.names (ref_file r.origin r.name)) [
          | inl name ↦ ap ref_in (same_shows tree next step.files (ref_file r.origin r.name) name) ∙ before.each r earlier
          | inr put ↦ kept_file r (took_in r earlier) here put
        ]
      ];
    }

pub wrote_none : (s : State) (items : List RefRow) {u w : View} → w ≡ u → WroteSome s (take 0 items) u w
wrote_none s items same = record { files = λ opens. record { each = λ r has. absurd (in_none r has) }; work = λ q above. ap (λ (v : View). v.names q) same; lasts = lasts_same same }

pub wrote_next : (s : State) (items : List RefRow) (i : ℕ) (row : RefRow) → i < length items → row ≡ get_or items i row → items ≡ s.refs → {u v w : View} → IsTree v → IsTree w
    → WroteSome s (take i items) u v → Writes (row ∷ []) v w → WroteFile row v w → WroteSome s (take (i + 1) items) u w
wrote_next s items i row low is same {u = u} tree next before step here = record {
  files = λ opens.
      let shown = opens.shown (shows u) (now_left u) in
      let good = row_of_state s row (in_rows s.refs items i row low is same) opens in
      next_files s.refs items i row low is same shown.refs_ascend tree next step.alters (before.files opens) (here.file good.commit);
  work = λ q above. here.work q above ∙ before.work q above;
  lasts = lasts_on before.lasts here.lasts;
}

pub wrote_all : (s : State) (items : List RefRow) (i : ℕ) → length items ≤ i → items ≡ s.refs → {u w : View} → WroteSome s (take i items) u w → WroteSome s s.refs u w
wrote_all s items i high same wrote = record {
  files = λ opens. record { each = λ r has. (wrote.files opens).each r (all_taken items i r high (subst (λ (l : List RefRow). Contains l r) (sym same) has)) };
  work = wrote.work;
  lasts = wrote.lasts;
}

-- ---- the row of one ref

module _ (s : State) (name : Ref) where
  pub named_in : (r : RefRow) → Contains (rows_named s name) r → Contains s.refs r × (row_at s name ≡ Some r)
  named_in r has = go (row_at s name) refl has
    where
      go : (o : Option RefRow) → row_at s name ≡ o → Contains (rows_by o) r → Contains s.refs r × (row_at s name ≡ Some r)
      go None is has = absurd (in_none r has)
      go (Some row) is has = let same = is ∙ ap (λ (x : RefRow). Some x) (sym (in_one row r has)) in ((at_in s.refs (ref_text name) r same).0, same)

  pub in_named : (r : RefRow) → row_at s name ≡ Some r → Contains (rows_named s name) r
  in_named r is = subst (λ (o : Option RefRow). Contains (rows_by o) r) (sym is) (in_first r [])

  -- the state has no such ref
  pub wrote_no_row : {u w : View} → row_at s name ≡ None → w ≡ u → WroteSome s (rows_named s name) u w
  wrote_no_row none same = record {
    files = λ opens. record { each = λ r has. absurd (in_none r (subst (λ (o : Option RefRow). Contains (rows_by o) r) none has)) };
    work = λ q above. ap (λ (v : View). v.names q) same;
    lasts = lasts_same same;
  }

  module _ (row : RefRow) (is : row_at s name ≡ Some row) where
    one_row : row ∷ [] ≡ rows_named s name
    one_row = sym (ap rows_by is)

    pub writes_row : {a b : Option Moments} → Always (Writes (row ∷ [])) a b → Always (Writes (rows_named s name)) a b
    writes_row {a = a} {b = b} each = subst (λ (l : List RefRow). Always (Writes l) a b) one_row each

    pub row_in : Contains s.refs row
    row_in = (at_in s.refs (ref_text name) row is).0

    pub wrote_row : {u w : View} → WroteFile row u w → WroteSome s (rows_named s name) u w
    wrote_row {u = u} {w = w} wrote = subst (λ (l : List RefRow). WroteSome s l u w) one_row (record {
      files = λ opens. wrote.file ((row_of_state s row row_in opens).commit);
      work = wrote.work;
      lasts = wrote.lasts;
    })
