-- A refresh, step by step.
use Rattle.std.proofs.Common.{◌≡◌, ◌≢◌, ◌⊎◌, ◌≤◌, inl, inr, ℕ, List, [], ◌∷◌, length, refl, sym, ◌∙◌, ap, subst, arith, Contains}
use Rattle.std.specs.Prelude.{Option, Some, None, Result, Ok}
use Rattle.fp_base.specs.declared.object.ObjKind.{ObjKind}
use Rattle.fp_base.proofs.Lists.{in_none, in_cases, in_map, from_map}
use Rattle.std.proofs.lemmas.List.Elements.{Contains-append_cases}
use Rattle.fp_host.specs.Paths.{Elements, Slot, absent, dir, file, link, IsAbove}
use Rattle.fp_host.specs.View.{View, Inode, IsTree}
use Rattle.fp_host.specs.Calls.{IsLeaf, syncs, done}
use Rattle.fp_host.specs.Outcome.{Spot, gone, Nothing, spot_of, shows}
use Rattle.fp_host.specs.Calls.{Step}
use Rattle.fp_host.specs.Frame.{AtEnd, Frame, Keeps, NoPath, Unchanged}
use Rattle.fp_host.specs.Moments.{Moments, Goes, Always, Makes}
use Rattle.fp_host.specs.declared.host.HostError.{HostError}
use Rattle.fp_host.proofs.Ending.{ends_both, ends_call, ends_frame, ends_goes, ends_in_tree, ends_on, goes_known}
use Rattle.fp_host.proofs.Framed.{IsTold, frame_start, frame_sync}
use Rattle.fp_host.proofs.Goes.{begins, goes_on}
use Rattle.fp_host.proofs.Settled.{at_tree}
use Rattle.fp_host.proofs.Above.{above_longer}
use Rattle.fp_host.proofs.Shown.{now_left}
use Rattle.fp_small.specs.Places.{repo, tmp}
use Rattle.fp_small.specs.Clear.{IsWithin, CanEmpty, Reaches}
use Rattle.fp_small.specs.Folders.{ancestors, IsFree}
use Rattle.fp_small.specs.Shares.{Shares}
use Rattle.fp_small.specs.declared.state.State.{State}
use Rattle.fp_small.proofs.Replacement.{ancestors_above}
use Rattle.fp_small.proofs.Keeping.{files_on, files_stay}
use Rattle.fp_small.proofs.Sharing.{shares_empty, shares_on, shares_refl, shares_start, shares_to}
use Rattle.fp_small.proofs.Within.{within_on}
use Rattle.ost_model.specs.Objects.{Have, object_at, object_path, store}
use Rattle.ost_model.specs.Remotes.{Stores}
use Rattle.ost_store.proofs.Creating.{creates_none}
use Rattle.ost_store.proofs.Lists.{in_one}
use Rattle.ost_store.proofs.Staying.{same_shows}
use Rattle.dep_states.specs.Sound.{Opens, Sound}
use Rattle.dep_states.specs.Zones.{Fits, IsFolderOrGone, outward, zone}
use Rattle.dep_states.proofs.Law.{frame_law}
use Rattle.dep_states.proofs.Linked.{links_refl, links_still, links_on}
use Rattle.dep_states.proofs.Zones.{free_of}
use Rattle.fl_export.specs.declared.rows.ExportRow.{ExportRow}
use Rattle.fl_export.specs.Exported.{exported}
use Rattle.fl_export.specs.Placed.{exports, place_of, places_of, IsExported, ExportsAre}
use Rattle.fp_host.specs.Outcome.{IsLeafSpot}
use Rattle.fl_export.specs.Steps.{Alters, Exports, in_exports, in_store, in_work, MayRefresh, some_export, some_work, store_folder, work_folder, Cleans, HasNoStale, PutAt, it_at, gone_at, folder_at, work_at, PutName, it_name, gone_name, folder_name, work_name, HasRows, PutsRows, AreRows, HasLinkText, CanPutRows, WereAllPut, Refreshes, WasRefreshed, exported_in}
use Rattle.fl_export.proofs.Alter.{alters_on, alters_to, alters_kept}
use Rattle.fl_export.proofs.Elsewhere.{refresh_links, no_object_put}
use Rattle.fl_export.proofs.Spared.{exports_spare, apart_from_work}
use Rattle.fl_export.proofs.Putting.{above_within, root_above}
use Rattle.fl_export.proofs.PutRows.{apart, place_within, place_above, some_path, short_place}
use Rattle.fl_export.proofs.Rowed.{are_rows}

-- ---- what rows give

no_root_listed : (p : Elements) → Contains (ancestors p) [] → ⊥
no_root_listed [] has = in_none [] has
no_root_listed (x ∷ []) has = in_none [] has
no_root_listed (x ∷ y ∷ up) has = elim (Contains-append_cases (ancestors (y ∷ up)) ((y ∷ up) ∷ []) [] has) [
  | inl more ↦ no_root_listed (y ∷ up) more
  | inr last ↦ off (in_one (y ∷ up) [] last)
]
  where
    off : [] ≡ y ∷ up → ⊥
    off e = cc e

-- a folder that is made above a place is within `exports`
folder_within : (r : ExportRow) (q : Elements) → Contains (ancestors (place_of r)) q → IsWithin exports q
folder_within r q has = elim (above_within exports (place_of r) q (place_within r) (ancestors_above (place_of r) q has)) [
  | inl within ↦ within
  | inr root ↦ absurd (no_root_listed (place_of r) (subst (Contains (ancestors (place_of r))) (root_above q root) has))
]

module _ (rows : List ExportRow) (are : AreRows rows) where
  export_given : (r : ExportRow) → Contains rows r → (q : Elements) (spot : Spot) → PutAt (place_of r) r.what q spot → Exports q spot
  export_given r has q spot (it_at at is) = in_exports (subst (IsWithin exports) (sym at) (place_within r)) (inr (subst (λ (x : Elements). length x ≤ 128) (sym at) (short_place r.path (are.forms r has))))
  export_given r has q spot (gone_at within is) = in_exports (within_on exports (place_of r) q (place_within r) within) (inl is)
  export_given r has q spot (work_at k at) = in_work k at
  export_given r has q spot (folder_at among is) = elim (Contains-append_cases (ancestors (place_of r)) (repo ∷ (tmp ∷ [])) q among) [
    | inl above ↦ in_exports (folder_within r q above) (inr (omega (arith, above_longer q (place_of r) (ancestors_above (place_of r) q above), short_place r.path (are.forms r has))))
    | inr work ↦ in_store (elim (in_cases repo (tmp ∷ []) q work) [ inl one ↦ inl one | inr more ↦ inr (in_one tmp q more) ]) is
  ]

  export_name : (r : ExportRow) (q : Elements) (e : Slot) → PutName (place_of r) q e → MayRefresh q e
  export_name r q e (it_name at) = some_export (subst (IsWithin exports) (sym at) (place_within r))
  export_name r q e (gone_name within is) = some_export (within_on exports (place_of r) q (place_within r) within)
  export_name r q e (work_name k at) = some_work (subst (IsAbove tmp) (sym at) (inl refl))
  export_name r q e (folder_name among is) = elim (Contains-append_cases (ancestors (place_of r)) (repo ∷ (tmp ∷ [])) q among) [
    | inl above ↦ some_export (folder_within r q above)
    | inr work ↦ elim (in_cases repo (tmp ∷ []) q work) [ inl one ↦ store_folder one is | inr more ↦ work_folder (in_one tmp q more) is ]
  ]

  pub puts_alter : {u w : View} → PutsRows rows u w → Alters Exports MayRefresh u w
  puts_alter puts = alters_to (λ q spot h. export_given h.row h.among q spot h.is) (λ q e h. export_name h.row q e h.is) puts.alters

pub cleans_alter : {places : List Elements} {u w : View} → Cleans places u w → Alters Exports MayRefresh u w
cleans_alter cleans = alters_to (λ q spot h. in_exports h.0.within (inl h.1)) (λ q e h. some_export h.0.within) cleans.alters

-- ---- joined

-- so much was done, and where all was right nothing
pub record Brings (rows : List ExportRow) (u w : View) : Type 0 where
  pub alters : Alters Exports MayRefresh u w
  pub idle : HasNoStale (places_of rows) u → HasRows rows u → w ≡ u

pub brings_cleaned : {rows : List ExportRow} {u w : View} → Cleans (places_of rows) u w → Brings rows u w
brings_cleaned cleans = record { alters = cleans_alter cleans; idle = λ none there. cleans.idle none }

pub brings_put : {rows : List ExportRow} {u v w : View} → AreRows rows → Brings rows u v → PutsRows rows v w → Brings rows u w
brings_put {rows = rows} are first puts = record {
  alters = alters_on first.alters (puts_alter rows are puts);
  idle = λ none there. let same = first.idle none there in puts.idle (subst (HasRows rows) (sym same) there) ∙ same;
}

leaf_of : (files : ℕ → Option Inode) (e : Slot) → IsLeafSpot (spot_of files e) → IsLeaf e
leaf_of files absent leaf = absurd leaf
leaf_of files dir leaf = absurd leaf
leaf_of files (file id) leaf = tt
leaf_of files (link text) leaf = tt

-- what is right by its paths is right by its names
stale_of : {rows : List ExportRow} {u : View} → IsTree u → ExportsAre rows (shows u) → HasNoStale (places_of rows) u
stale_of {u = u} tree are = record { none = λ q within off leaf. are.only q within off (spot_leaf (u.names q) refl leaf) }
  where
    spot_leaf : {q : Elements} (e : Slot) → u.names q ≡ e → IsLeaf e → IsLeafSpot (shows u q)
    spot_leaf {q = q} absent at leaf = absurd leaf
    spot_leaf {q = q} dir at leaf = absurd leaf
    spot_leaf {q = q} (link text) at leaf = subst IsLeafSpot (sym (ap (spot_of u.files) (at_tree u tree q ∙ at))) tt
    spot_leaf {q = q} (file id) at leaf = subst IsLeafSpot (sym (ap (spot_of u.files) (at_tree u tree q ∙ at))) (held (u.files id) (tree.known q id (inl (sym at))))
      where
        held : (row : Option Inode) → row ≢ None → IsLeafSpot (spot_of (λ n. row) (file id))
        held None some = some refl
        held (Some f) some = tt

pub refreshes_by : {s : State} {rows : List ExportRow} {u w : View} → IsTree u → rows ≡ exported_in s u → Brings rows u w → Refreshes s u w
refreshes_by {s = s} {rows = rows} {u = u} {w = w} tree is brings = record {
  opens = λ opens. frame_law exports_spare brings.alters.follows opens;
  names = brings.alters.names;
  idle = λ opens right q. ap (λ (x : View). x.names q) (same right);
  unwritten = λ opens right. shares_start (same right);
  files = brings.alters.files;
  links = refresh_links brings.alters.names;
  printed = brings.alters.printed;
}
  where
    same : ExportsAre (exported_in s u) (shows u) → w ≡ u
    same right =
        let are = subst (λ (l : List ExportRow). ExportsAre l (shows u)) (sym is) right in
        brings.idle (stale_of tree are) (record { each = are.each })

pub refreshes_none : {s : State} {v : View} → Refreshes s v v
refreshes_none = record { opens = λ opens. opens; names = λ q. inl refl; idle = λ opens right q. refl; unwritten = λ opens right. shares_refl; files = files_stay; links = links_refl; printed = refl }

pub refreshes_same : {s : State} {v w : View} → w ≡ v → Refreshes s v w
refreshes_same {s = s} {v = v} same = subst (Refreshes s v) (sym same) refreshes_none

-- ---- in the end

-- all stands there, and nothing else
pub record Brought (rows : List ExportRow) (u w : View) : Type 0 where
  pub brings : Brings rows u w
  pub stale : HasNoStale (places_of rows) w
  pub there : HasRows rows w
  pub work : (q : Elements) → IsAbove tmp q → w.names q ≡ u.names q
  pub shares : Shares (IsAbove exports) u w

still_none : (rows : List ExportRow) {v w : View} → HasNoStale (places_of rows) v → PutsRows rows v w → HasNoStale (places_of rows) w
still_none rows {v = v} {w = w} none puts = record {
  none = λ q within off leaf. elim (puts.alters.names q) [
    | inl same ↦ none.none q within off (subst IsLeaf same leaf)
    | inr put ↦ by_name put.row put.among q within off (w.names q) leaf put.is
  ];
}
  where
    by_name : (r : ExportRow) → Contains rows r → (q : Elements) → IsWithin exports q → (Contains (places_of rows) q → ⊥) → (e : Slot) → IsLeaf e → PutName (place_of r) q e → ⊥
    by_name r has q within off e leaf (it_name at) = off (subst (Contains (places_of rows)) (sym at) (in_map place_of rows r has))
    by_name r has q within off e leaf (gone_name below is) = subst IsLeaf is leaf
    by_name r has q within off e leaf (folder_name among is) = subst IsLeaf is leaf
    by_name r has q within off e leaf (work_name k at) = apart_from_work q within (subst (IsWithin tmp) (sym at) (inr (inl refl)))

pub brought : {rows : List ExportRow} {u v w : View} → AreRows rows → Cleans (places_of rows) u v → HasNoStale (places_of rows) v → PutsRows rows v w → WereAllPut rows v w → Brought rows u w
brought {rows = rows} {u = u} {v = v} {w = w} are cleans none puts put =
    let there = put.all are in
    record {
      brings = brings_put are (brings_cleaned cleans) puts;
      stale = still_none rows none puts;
      there = there.there;
      work = λ q above. there.work q above ∙ elim (cleans.alters.names q) [ inl same ↦ same | inr put ↦ absurd (apart_from_work q put.0.within (inr above)) ];
      shares = shares_on (shares_to (λ q none. absurd none) cleans.empty) (shares_to (λ q h. subst (IsAbove exports) (sym h.2) (place_above h.0.path (some_path h.0.path (are.forms h.0 h.1)))) there.shares) puts.alters.files;
    }

-- ---- the store stays

object_same : (u w : View) → ((q : Elements) → (w.names q ≡ u.names q) ⊎ MayRefresh q (w.names q)) → (d : List ℕ) (kind : ObjKind) → w.names (object_path repo d kind) ≡ u.names (object_path repo d kind)
object_same u w names d kind = elim (names (object_path repo d kind)) [ inl same ↦ same | inr put ↦ absurd (no_object_put (object_path repo d kind) (w.names (object_path repo d kind)) (inr (inl refl)) put) ]

pub same_store : {u w : View} → IsTree u → IsTree w → Alters Exports MayRefresh u w → store repo (shows w) ≡ store repo (shows u)
same_store {u = u} {w = w} tree next alters = λ i d kind. object_at kind (same_shows tree next alters.files (object_path repo d kind) (object_same u w alters.names d kind) i)

-- what stands stays over a sync, and so does what is right
pub was_refreshed : {s : State} {rows : List ExportRow} {u v w : View} → IsTree u → IsTree w → rows ≡ exported_in s u → Brought rows u v → Alters Exports MayRefresh u w → w ≡ done syncs v → WasRefreshed s u w
was_refreshed {s = s} {rows = rows} {u = u} {v = v} {w = w} tree next is done_so alters same = record {
  exports_are = subst (λ (l : List ExportRow). ExportsAre l (shows w)) (is ∙ ap (λ h. exported h s) (sym (same_store tree next alters))) (record { each = there; only = only });
  lasts = record { earlier = λ q. ap (λ (x : View). x.earlier q) same; dirty = λ id. ap (λ (x : View). x.dirty id) same };
  work = λ q above. ap (λ (x : View). x.names q) same ∙ done_so.work q above;
  shares = subst (Shares (IsAbove exports) u) (sym same) (record { each = done_so.shares.each });
  creates = creates_none MayRefresh alters.puts (λ q id below put. no_object_put q (file id) below put);
}
  where
    there : (r : ExportRow) → Contains rows r → IsExported r.what (shows w (place_of r))
    there r has = subst (λ (x : View). IsExported r.what (shows x (place_of r))) (sym same) (done_so.there.each r has)

    only : (q : Elements) → IsWithin exports q → (Contains (places_of rows) q → ⊥) → IsLeafSpot (shows w q) → ⊥
    only q within off leaf = done_so.stale.none q within off (leaf_of v.files (v.names q) (subst IsLeafSpot (ap (spot_of w.files) (at_tree w next q) ∙ ap (λ (x : View). spot_of x.files (x.names q)) same) leaf))

-- after a call that changes no name
pub synced : {s : State} {u v w : View} → Refreshes s u v → Keeps Nothing (λ q e. ⊥) NoPath v w → Refreshes s u w
synced {u = u} {v = v} {w = w} first keeps =
    let step : Alters Exports MayRefresh v w = alters_to (λ q spot h. absurd h) (λ q e h. absurd h) (alters_kept keeps) in
    record {
      opens = λ opens. frame_law exports_spare step.follows (first.opens opens);
      names = λ q. elim (keeps.names q) [
        | inl same ↦ elim (first.names q) [ inl was ↦ inl (same ∙ was) | inr put ↦ inr (subst (MayRefresh q) (sym same) put) ]
        | inr none ↦ absurd none
      ];
      idle = λ opens right q. elim (keeps.names q) [ inl same ↦ same ∙ first.idle opens right q | inr none ↦ absurd none ];
      unwritten = λ opens right. shares_on (first.unwritten opens right) (shares_empty keeps) step.files;
      files = files_on first.files step.files;
      links = links_on first.links (links_still (λ q. elim (keeps.names q) [ inl same ↦ same | inr none ↦ absurd none ])) step.files;
      printed = step.printed ∙ first.printed;
    }

pub alters_synced : {u v w : View} → Alters Exports MayRefresh u v → Keeps Nothing (λ q e. ⊥) NoPath v w → Alters Exports MayRefresh u w
alters_synced first keeps = alters_on first (alters_to (λ q spot h. absurd h) (λ q e h. absurd h) (alters_kept keeps))

-- ---- the calls of a refresh, one after another

-- the rows are those of the view, of which nothing changed
pub record Told (rows : List ExportRow) (s : State) (u w : View) : Type 0 where
  pub same : w ≡ u
  pub rows_are : rows ≡ exported_in s u
  pub tree : IsTree u

pub told_rows : {rows : List ExportRow} {s : State} {a b : Option Moments} → IsTold a → Unchanged a b → ((have : Have) → Stores repo a have → rows ≡ exported have s) → Goes a b (Refreshes s) (Told rows s)
told_rows told still tells =
    let known = begins {R' = Refreshes _} {Q' = λ u w. (w ≡ u) × IsTree u} told still.goes (λ u w t same. refreshes_same same) (λ u w t same q. (q.0, t)) in
    record {
      untold = known.untold;
      told = λ m at.
          let one = known.told m at in
          (one.0, one.1, one.2, record { same = one.3.0; rows_are = tells (store repo (shows m.now)) (record { moments = m; told_is = at; is = refl }); tree = one.3.1 });
    }

pub record Swept (rows : List ExportRow) (s : State) (u w : View) : Type 0 where
  pub rows_are : rows ≡ exported_in s u
  pub tree : IsTree u
  pub cleans : Cleans (places_of rows) u w
  pub stale : HasNoStale (places_of rows) w

pub are_of : {rows : List ExportRow} (s : State) (u : View) → rows ≡ exported_in s u → AreRows rows
are_of s u is = subst AreRows (sym is) (are_rows (store repo (shows u)) s)

from_told : {rows : List ExportRow} {s : State} {u v w : View} → Told rows s u v → Cleans (places_of rows) v w → Cleans (places_of rows) u w
from_told {rows = rows} {w = w} t cleans = subst (λ (x : View). Cleans (places_of rows) x w) t.same cleans

cleans_on : {rows : List ExportRow} {s : State} {u v w : View} → Told rows s u v → Cleans (places_of rows) v w → Refreshes s u w
cleans_on t cleans = refreshes_by t.tree t.rows_are (brings_cleaned (from_told t cleans))

puts_refresh : {rows : List ExportRow} {s : State} {u v w : View} → Swept rows s u v → PutsRows rows v w → Refreshes s u w
puts_refresh {s = s} {u = u} q x = refreshes_by q.tree q.rows_are (brings_put (are_of s u q.rows_are) (brings_cleaned q.cleans) x)

pub opens_swept : {rows : List ExportRow} {s : State} {u v : View} → Swept rows s u v → Opens s u → Opens s v
opens_swept q opens = frame_law exports_spare (cleans_alter q.cleans).follows opens

sync_frame : {b c : Option Moments} {r : Result (Unit {0}) HostError} → IsTold b → Makes (Step syncs r) b c → Frame Nothing (λ q e. ⊥) NoPath b c
sync_frame told call = frame_sync call (frame_start told) told

module _ {rows : List ExportRow} {s : State} {a b c : Option Moments} where
  pub sweep_only : {places : List Elements} → places ≡ places_of rows → IsTold b → Goes a b (Refreshes s) (Told rows s) → Always (Cleans places) b c → Goes a c (Refreshes s) (Refreshes s)
  sweep_only {places = places} at told first second = goes_on told first second (λ u v w t r q x. cleans_on q (at_places u v w x)) (λ u v w t r q x e. cleans_on q (at_places u v w x))
    where
      at_places : (u v w : View) → Cleans places v w → Cleans (places_of rows) v w
      at_places u v w x = subst (λ (l : List Elements). Cleans l v w) at x

  pub sweep_on : {places : List Elements} → places ≡ places_of rows → IsTold b → Goes a b (Refreshes s) (Told rows s) → Always (Cleans places) b c → AtEnd (λ u w. HasNoStale places w) b c → Goes a c (Refreshes s) (Swept rows s)
  sweep_on {places = places} at told first second end = goes_on told first (goes_known second end) (λ u v w t r q x. cleans_on q (at_places v w x))
      (λ u v w t r q x e. record { rows_are = q.rows_are; tree = q.tree; cleans = from_told q (at_places v w e.0); stale = subst (λ (l : List Elements). HasNoStale l w) at e.1 })
    where
      at_places : (v w : View) → Cleans places v w → Cleans (places_of rows) v w
      at_places v w x = subst (λ (l : List Elements). Cleans l v w) at x

  pub put_only : {items : List ExportRow} → items ≡ rows → IsTold b → Goes a b (Refreshes s) (Swept rows s) → Always (PutsRows items) b c → Goes a c (Refreshes s) (Refreshes s)
  put_only {items = items} at told first second = goes_on told first second (λ u v w t r q x. puts_refresh q (subst (λ (l : List ExportRow). PutsRows l v w) at x)) (λ u v w t r q x e. puts_refresh q (subst (λ (l : List ExportRow). PutsRows l v w) at x))

-- all is put
pub record Put (rows : List ExportRow) (s : State) (u w : View) : Type 0 where
  pub rows_are : rows ≡ exported_in s u
  pub tree : IsTree u
  pub done_so : Brought rows u w

module _ {rows : List ExportRow} {s : State} {a b c : Option Moments} where
  pub put_on : {items : List ExportRow} → items ≡ rows → IsTold b → Goes a b (Refreshes s) (Swept rows s) → Always (PutsRows items) b c → AtEnd (WereAllPut items) b c → Goes a c (Refreshes s) (Put rows s)
  put_on {items = items} at told first second end = goes_on told first (goes_known second end)
      (λ u v w t r q x. puts_refresh q (subst (λ (l : List ExportRow). PutsRows l v w) at x))
      (λ u v w t r q x e. record {
        rows_are = q.rows_are;
        tree = q.tree;
        done_so = brought (are_of s u q.rows_are) q.cleans q.stale (subst (λ (l : List ExportRow). PutsRows l v w) at e.0) (subst (λ (l : List ExportRow). WereAllPut l v w) at e.1);
      })

  pub sync_on : {r : Result (Unit {0}) HostError} → IsTold b → Goes a b (Refreshes s) (Put rows s) → Makes (Step syncs r) b c → Goes a c (Refreshes s) (Refreshes s)
  sync_on told first call = goes_on told first (sync_frame told call).goes (λ u v w t r q x. synced r x) (λ u v w t r q x e. synced r x)

  pub synced_end : IsTold a → IsTold b → IsTold c → Goes a b (Refreshes s) (Put rows s) → Makes (Step syncs (Ok tt)) b c → AtEnd (WasRefreshed s) a c
  synced_end begun told last first call =
      ends_in_tree last
      (ends_on {Q' = λ u w. IsTree w → WasRefreshed s u w} (ends_both (ends_frame told (sync_frame told call)) (ends_call told call)) (ends_goes begun first) told
      (λ u v w t q x next. was_refreshed q.tree next q.rows_are q.done_so (alters_synced q.done_so.brings.alters x.0) x.1.how.1))
      (λ u w next q. q next)

-- ---- what a view tells of its outcomes

slot_there : (files : ℕ → Option Inode) (e : Slot) → ((id : ℕ) → e ≡ file id → files id ≢ None) → spot_of files e ≡ gone → e ≡ absent
slot_there files absent known is = refl
slot_there files dir known is = absurd (cc is)
slot_there files (link text) known is = absurd (cc is)
slot_there files (file id) known is = absurd (held (files id) (known id refl) is)
  where
    held : (row : Option Inode) → row ≢ None → spot_of (λ n. row) (file id) ≡ gone → ⊥
    held None some e = some refl
    held (Some f) some e = cc e

gone_absent : {v : View} → IsTree v → (q : Elements) → shows v q ≡ gone → v.names q ≡ absent
gone_absent {v = v} tree q is = slot_there v.files (v.names q) (λ id at. tree.known q id (inl (sym at))) (sym (ap (spot_of v.files) (at_tree v tree q)) ∙ is)

free_by : {v : View} → IsTree v → (q : Elements) → IsFolderOrGone (shows v q) → IsFree v q
free_by {v = v} tree q fits = free_of v.files (v.names q) (λ id at. tree.known q id (inl (sym at))) (subst IsFolderOrGone (ap (spot_of v.files) (at_tree v tree q)) fits)

-- ---- where it may be done

module _ {s : State} {v : View} (tree : IsTree v) (opens : Opens s v) where
  sound_now : Sound (shows v)
  sound_now = opens.sound (shows v) (now_left v)

  can_empty : CanEmpty exports v
  can_empty = record { short = λ q above. elim ((sound_now.kinds q).short) [ inl none ↦ inl (gone_absent tree q none) | inr short ↦ inr short ] }

  pub reaches : Reaches exports 127 v
  reaches = record { far = λ q above. elim (can_empty.short q above) [ inl none ↦ inl none | inr short ↦ inr (omega (arith, short)) ] }

  free_at : (q : Elements) → (Fits (zone (outward q)) q (shows v q) → IsFolderOrGone (shows v q)) → IsFree v q
  free_at q seen = free_by tree q (seen ((sound_now.kinds q).fits))

  pub can_put_rows : {rows : List ExportRow} → AreRows rows → ((row : ExportRow) → Contains rows row → HasLinkText row.what) → HasNoStale (places_of rows) v → CanPutRows rows v
  can_put_rows {rows = rows} are texts none = record {
    are = are;
    texts = texts;
    deep = can_empty;
    folders = λ row has q above. elim (above_within exports (place_of row) q (place_within row) above) [
      | inl within ↦ by_slot q within (unwanted row has q above) (v.names q) refl
      | inr root ↦ inr (ap v.names (root_above q root) ∙ tree.root)
    ];
    work = (free_at repo (λ f. f), free_at tmp (λ f. f));
  }
    where
      unwanted : (row : ExportRow) → Contains rows row → (q : Elements) → IsAbove q (place_of row) → Contains (places_of rows) q → ⊥
      unwanted row has q above wanted =
          let m = from_map place_of rows q wanted in
          apart m.0.path row.path (are.forms m.0 m.1) (are.forms row has) (subst (λ (x : Elements). IsAbove x (place_of row)) m.2 above)

      by_slot : (q : Elements) → IsWithin exports q → (Contains (places_of rows) q → ⊥) → (e : Slot) → v.names q ≡ e → IsFree v q
      by_slot q within off absent at = inl at
      by_slot q within off dir at = inr at
      by_slot q within off (file id) at = absurd (none.none q within off (subst IsLeaf (sym at) tt))
      by_slot q within off (link text) at = absurd (none.none q within off (subst IsLeaf (sym at) tt))
