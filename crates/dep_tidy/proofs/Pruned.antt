-- Objects that no kept commit uses go, and the others stay.
use Rattle.std.proofs.Common.{◌≡◌, ◌≢◌, ◌⊎◌, inl, inr, ℕ, List, [], ◌∷◌, ◌++◌, true, Option, Some, None, drop, get_or, refl, sym, ◌∙◌, ap, subst, Contains, codes, arith}
use Rattle.std.specs.Option.{option_or}
use Rattle.std.specs.Prelude.{is_some}
use Rattle.std.specs.Str.{bytes_eq}
use Rattle.std.proofs.lemmas.Bool.{cases_Bool}
use Rattle.std.proofs.lemmas.Slice.Eq.{bytes_eq-Decides}
use Rattle.fp_host.specs.Paths.{Elements, absent}
use Rattle.fp_host.specs.View.{View, IsTree}
use Rattle.fp_host.specs.Outcome.{Spot, Disk, Leaves, gone, shows}
use Rattle.fp_host.specs.Frame.{AtEnd}
use Rattle.fp_host.specs.Moments.{Moments, Goes}
use Rattle.fp_host.proofs.Framed.{IsTold, keeps_same}
use Rattle.fp_host.proofs.Goes.{stays}
use Rattle.fp_host.proofs.Ending.{ends_to}
use Rattle.fp_host.proofs.Shown.{now_left}
use Rattle.fp_base.specs.declared.object.ObjKind.{ObjKind}
use Rattle.fp_base.specs.declared.object.ObjKind.TheVariants as kinds
use Rattle.fp_name.specs.Hex.{hex, is_digest}
use Rattle.fp_name.specs.Refs.{Ref, is_ref, ref_of, ref_text}
use Rattle.fp_small.specs.Places.{repo}
use Rattle.fp_small.proofs.Keeping.{files_kept}
use Rattle.fp_small.specs.declared.state.State.{State}
use Rattle.fp_small.specs.declared.state.RefRow.{RefRow}
use Rattle.ost_model.specs.declared.object.Object.{Object}
use Rattle.ost_model.specs.Objects.{Have, object_path, object_at, object_fault, name_fault, dir_mode_fault, kind_fault, content_fault, length_fault, mode_fault, digest_fault, digest_of, rule_fault, corrupt, store}
use Rattle.fp_base.specs.Objects.{kind_text}
use Rattle.fp_base.proofs.Options.{some_none}
use Rattle.fp_base.proofs.Lists.{in_none, in_first, in_rest, in_cases}
use Rattle.fp_base.proofs.Texts.{bytes_eq-true}
use Rattle.ost_model.specs.Order.{Place, In, order}
use Rattle.ost_model.specs.Stores.{IsStore}
use Rattle.ost_model.specs.Used.{IsUsed}
use Rattle.ost_model.proofs.Places.{or_none, faultless, order_same}
use Rattle.ost_model.proofs.Stores.{objects_are_named}
use Rattle.ost_model.proofs.Faults.{unless_none}
use Rattle.ost_prune.specs.Prune.{IsUnused, IsUnusedName, PrunesAt, Prunes, WasPruned}
use Rattle.ost_prune.specs.Texts.{AreWhole, UnlessFaulty}
use Rattle.ost_store.specs.Names.{CanList}
use Rattle.ost_store.proofs.Staying.{same_shows}
use Rattle.dep_states.specs.Shown.{there, seen_of, ref_seen, row_seen, ref_key, Shows}
use Rattle.dep_states.specs.Sound.{IsKeptBy, Keeps, Opens, Spares}
use Rattle.dep_states.specs.Settled.{Used}
use Rattle.dep_states.specs.Frames.{IsUnused as IsUnusedBy}
use Rattle.dep_states.proofs.Law.{frame_law}
use Rattle.dep_states.proofs.Listed.{IsThere}
use Rattle.dep_states.specs.After.{row_at}
use Rattle.dep_states.proofs.Single.{there_is, some_is}
use Rattle.fp_name.proofs.Refs.{ref_of-ref_text}
use Rattle.dep_states.proofs.Sparing.{prune_spares, kept_of_state, state_of_kept, shown_good}
use Rattle.dep_states.proofs.Switching.{permits_gone}
use Rattle.dep_states.proofs.Total.{row_there}
use Rattle.dep_states.proofs.Usual.{sound_store}
use Rattle.dep_tidy.specs.Kept.{kept_of}
use Rattle.dep_tidy.specs.Pruned.{IsPruned}
use Rattle.dep_tidy.specs.Steps.{IsSteady}
use Rattle.dep_tidy.proofs.RowsKept.{at_in, in_at, from_kept, to_kept}
use Rattle.dep_tidy.proofs.Views.{some_there}
use Rattle.dep_tidy.proofs.Clearing.{sound_now, can_empty}

-- ---- the name of an object says its kind

-- the last two of a list, after two others
abbrev last_two : List ℕ → ℕ → ℕ → ℕ × ℕ
last_two [] a b = (a, b)
last_two (x ∷ xs) a b = last_two xs b x

last_on : (xs ys : List ℕ) (a b : ℕ) → last_two (xs ++ ys) a b ≡ last_two ys (last_two xs a b).0 (last_two xs a b).1
last_on [] ys a b = refl
last_on (x ∷ xs) ys a b = last_on xs ys b x

abbrev ends : ObjKind → ℕ × ℕ
ends kinds.Commit = (105, 116)
ends kinds.DirTree = (101, 101)
ends kinds.DirMeta = (116, 97)
ends kinds.File = (108, 101)

last_kind : (k : ObjKind) (a b : ℕ) → last_two (codes "." ++ kind_text k) a b ≡ ends k
last_kind kinds.Commit a b = refl
last_kind kinds.DirTree a b = refl
last_kind kinds.DirMeta a b = refl
last_kind kinds.File a b = refl

kind_cases : (k m : ObjKind) → (k ≡ m) ⊎ (ends k ≢ ends m)
kind_cases kinds.Commit kinds.Commit = inl refl
kind_cases kinds.Commit kinds.DirTree = inr (λ e. omega (arith, ap (λ (p : ℕ × ℕ). p.0) e))
kind_cases kinds.Commit kinds.DirMeta = inr (λ e. omega (arith, ap (λ (p : ℕ × ℕ). p.0) e))
kind_cases kinds.Commit kinds.File = inr (λ e. omega (arith, ap (λ (p : ℕ × ℕ). p.0) e))
kind_cases kinds.DirTree kinds.Commit = inr (λ e. omega (arith, ap (λ (p : ℕ × ℕ). p.0) e))
kind_cases kinds.DirTree kinds.DirTree = inl refl
kind_cases kinds.DirTree kinds.DirMeta = inr (λ e. omega (arith, ap (λ (p : ℕ × ℕ). p.0) e))
kind_cases kinds.DirTree kinds.File = inr (λ e. omega (arith, ap (λ (p : ℕ × ℕ). p.0) e))
kind_cases kinds.DirMeta kinds.Commit = inr (λ e. omega (arith, ap (λ (p : ℕ × ℕ). p.0) e))
kind_cases kinds.DirMeta kinds.DirTree = inr (λ e. omega (arith, ap (λ (p : ℕ × ℕ). p.0) e))
kind_cases kinds.DirMeta kinds.DirMeta = inl refl
kind_cases kinds.DirMeta kinds.File = inr (λ e. omega (arith, ap (λ (p : ℕ × ℕ). p.0) e))
kind_cases kinds.File kinds.Commit = inr (λ e. omega (arith, ap (λ (p : ℕ × ℕ). p.0) e))
kind_cases kinds.File kinds.DirTree = inr (λ e. omega (arith, ap (λ (p : ℕ × ℕ). p.0) e))
kind_cases kinds.File kinds.DirMeta = inr (λ e. omega (arith, ap (λ (p : ℕ × ℕ). p.0) e))
kind_cases kinds.File kinds.File = inl refl

last_name : (d : List ℕ) (k : ObjKind) → last_two (get_or (object_path repo d k) 0 []) 0 0 ≡ ends k
last_name d k = let two = last_two (drop 2 (hex d)) 0 0 in last_on (drop 2 (hex d)) (codes "." ++ kind_text k) 0 0 ∙ last_kind k two.0 two.1

pub kinds_same : (d e : List ℕ) (k m : ObjKind) → object_path repo d k ≡ object_path repo e m → k ≡ m
kinds_same d e k m same = elim (kind_cases k m) [
  | inl is ↦ is
  | inr off ↦ absurd (off (sym (last_name d k) ∙ ap (λ (p : Elements). last_two (get_or p 0 []) 0 0) same ∙ last_name e m))
]

-- ---- and its digest, where it has no fault

-- the object that a name without a fault has
record IsNamedBy (d : List ℕ) (o : Option Object) : Type 0 where
  object : Object
  is : o ≡ Some object
  digest : digest_of object ≡ d

named_by : (d : List ℕ) (kind : ObjKind) (o : Option Object) → name_fault d kind o ≡ None → IsNamedBy d o
named_by d kind None e = absurd (cc e)
named_by d kind (Some x) e =
    let content = (or_none (kind_fault kind x) (content_fault d kind x) e).1 in
    let mode = (or_none (length_fault x) (option_or (mode_fault x) (option_or (digest_fault d x) (rule_fault kind x))) content).1 in
    let digest = (or_none (mode_fault x) (option_or (digest_fault d x) (rule_fault kind x)) mode).1 in
    let same = (or_none (digest_fault d x) (rule_fault kind x) digest).0 in
    record { object = x; is = refl; digest = bytes_eq-true (digest_of x) d (unless_none (bytes_eq (digest_of x) d) (corrupt (digest_of x)) same) }

module _ (disk : Disk) (sound : IsStore repo disk) (d : List ℕ) (kind : ObjKind) (digits : is_digest d ≡ true) where
  -- what is there is an object
  pub object_there : disk (object_path repo d kind) ≢ gone → is_some (store repo disk d kind) ≡ true
  object_there some = elim (objects_are_named repo disk sound d kind digits) [
    | inl none ↦ absurd (some none)
    | inr named ↦ let n = named_by d kind (store repo disk d kind) named.good in ap is_some n.is
  ]

  -- a place without a fault that has this path is this object
  pub place_is : (place : Place) → object_fault place.digest place.kind (store repo disk place.digest place.kind) ≡ None → object_path repo place.digest place.kind ≡ object_path repo d kind
      → (d ≡ place.digest) × (kind ≡ place.kind)
  place_is place none same =
      let kk : place.kind ≡ kind = kinds_same place.digest d place.kind kind same in
      let there_ = named_by place.digest place.kind (store repo disk place.digest place.kind) (or_none (name_fault place.digest place.kind (store repo disk place.digest place.kind)) (dir_mode_fault place.kind (store repo disk place.digest place.kind)) none).0 in
      let objects : store repo disk place.digest place.kind ≡ store repo disk d kind = (λ i. object_at (kk i) (disk (same i))) in
      elim (objects_are_named repo disk sound d kind digits) [
        | inl away ↦ absurd (some_none (sym there_.is ∙ objects ∙ ap (object_at kind) away))
        | inr named ↦
            let here = named_by d kind (store repo disk d kind) named.good in
            let one : there_.object ≡ here.object = some_is (sym there_.is ∙ objects ∙ here.is) in
            let dd : place.digest ≡ d = sym there_.digest ∙ ap digest_of one ∙ here.digest in
            (sym dd, sym kk)
      ]

-- ---- the rows of a state, as they are shown

seen_some : {row : RefRow} (o : Option RefRow) → seen_of o ≡ there row → o ≡ Some row
seen_some None e = absurd (cc e)
seen_some (Some b) e = ap Some (there_is e)

-- what is shown is the row of the state
pub row_by_seen : {disk : Disk} {s : State} → Shows disk s → (name : Ref) (row : RefRow) → ref_seen disk name ≡ there row → row_at s name ≡ Some row
row_by_seen {disk = disk} {s = s} shown name row is = seen_some (row_at s name) (sym (shown.refs (ref_text name)) ∙ ap (row_seen disk) (ref_of-ref_text name (shown_good disk name is)) ∙ is)

pub seen_by_row : {disk : Disk} {s : State} → Shows disk s → (name : Ref) (row : RefRow) → is_ref name ≡ true → row_at s name ≡ Some row → ref_seen disk name ≡ there row
seen_by_row {disk = disk} shown name row good has = sym (ap (row_seen disk) (ref_of-ref_text name good)) ∙ shown.refs (ref_text name) ∙ ap seen_of has

-- ---- the commits that a state keeps

module _ {disk : Disk} {s : State} (shown : Shows disk s) where
  -- a row of the state is shown
  pub row_shown : (row : RefRow) → Contains s.refs row → IsThere disk row
  row_shown row has = row_there disk (ref_of (ref_key row)) row (shown.refs (ref_key row) ∙ ap seen_of (in_at s.refs row shown.refs_ascend has))

  pub row_keeps : (row : RefRow) (commit : List ℕ) → Contains s.refs row → IsKeptBy row commit → Keeps disk row.name commit
  row_keeps row commit has by = record { row = row; shown = (row_shown row has).is; of_row = by }

  -- and what it keeps is in the list
  pub keeps_listed : (name : Ref) (commit : List ℕ) → Keeps disk name commit → Contains (kept_of s.refs) commit
  keeps_listed name commit k = let in_state = kept_of_state shown k in to_kept commit s.refs in_state.row (at_in s.refs (ref_text name) in_state.row in_state.has).0 in_state.of_row

-- ---- what goes

module _ {s : State} {v : View} (opens : Opens s v) where
  abbrev keep : List (List ℕ)
  keep = kept_of s.refs

  -- at the name of an object of a kept commit no unused one is
  apart_in : (disk : Disk) → Leaves v disk → (name : Ref) (commit : List ℕ) (place : Place) → Keeps disk name commit → In (order (store repo disk) commit) place
      → (d : List ℕ) (kind : ObjKind) → is_digest d ≡ true → object_path repo place.digest place.kind ≡ object_path repo d kind → IsUsed (store repo disk) keep (d, kind)
  apart_in disk left name commit place k h d kind digits same =
      let sound = opens.sound disk left in
      let whole = (sound.commits name commit k).whole in
      let none = (faultless (store repo disk) 0 (order (store repo disk) commit) whole place h).1 in
      record { commit = commit; place = place; kept = keeps_listed (opens.shown disk left) name commit k; within = h; is = let one = place_is disk (sound_store disk sound) d kind digits place none same in (λ i. (one.0 i, one.1 i)) }

  module _ (steady : IsSteady v) where
    store_same : (disk : Disk) → Leaves v disk → store repo disk ≡ store repo (shows v)
    store_same disk left = λ i d kind. object_at kind (steady.objects disk left d kind i)

    unused_by : (d : List ℕ) (kind : ObjKind) → IsUnused repo keep v (d, kind) → IsUnusedBy v d kind
    unused_by d kind unused disk left name commit place k h same = unused.unused (subst (λ have. IsUsed have keep (d, kind)) (store_same disk left) (apart_in disk left name commit place k h d kind unused.digits same))

    prune_spare : Spares v (PrunesAt repo keep v)
    prune_spare = record {
      avoids = λ disk left p spot fixed given. let n = given.0 in (prune_spares n.object.0 n.object.1 (unused_by n.object.0 n.object.1 n.unused)).avoids disk left p spot fixed (n.name, given.1);
      permits = λ disk left p spot given. permits_gone p spot given.1;
    }

    pub opens_pruned : {w : View} → Prunes repo keep v w → Opens s w
    opens_pruned pruned = frame_law prune_spare pruned.keeps.follows opens

    -- what a kept commit uses is as it was
    pub used_stays : {w : View} → Prunes repo keep v w → (d : List ℕ) (kind : ObjKind) → Used (shows v) d kind → store repo (shows w) d kind ≡ store repo (shows v) d kind
    used_stays {w = w} pruned d kind used =
        let path : object_path repo used.place.digest used.place.kind ≡ object_path repo d kind = (λ i. object_path repo (used.digest_is i) (used.kind_is i)) in
        let b = pruned.keeps.follows.from (shows w) (now_left w) in
        ap (object_at kind) (elim (b.2 (object_path repo d kind)) [
          | inl same ↦ same ∙ steady.objects b.0 b.1 d kind
          | inr given ↦ absurd (given.0.unused.unused (apart_in (shows v) (now_left v) used.name used.commit used.place used.kept used.inside given.0.object.0 given.0.object.1 given.0.unused.digits (path ∙ given.0.name)))
        ])

  pub are_whole : IsTree v → AreWhole repo keep v
  are_whole tree = record {
    whole = λ commit has.
        let row = from_kept commit s.refs has in
        ((sound_now tree opens).commits row.0.name commit (row_keeps (opens.shown (shows v) (now_left v)) row.0 commit row.1 row.2)).whole;
  }

  pub can_list : IsTree v → CanList repo v
  can_list tree = record { short = λ q above. (can_empty tree opens _).short q above }

-- ---- used, in another view of the same state

pub used_on : {s : State} {u v : View} → Opens s u → Opens s v → ((d : List ℕ) (kind : ObjKind) → Used (shows u) d kind → store repo (shows v) d kind ≡ store repo (shows u) d kind)
    → (d : List ℕ) (kind : ObjKind) → Used (shows u) d kind → Used (shows v) d kind
used_on {s = s} {u = u} {v = v} before after same d kind used =
    let in_state = kept_of_state (before.shown (shows u) (now_left u)) used.kept in
    let whole = order_same (store repo (shows u)) (store repo (shows v)) used.commit (λ p h. same p.digest p.kind (record { name = used.name; commit = used.commit; place = p; kept = used.kept; inside = h; digest_is = refl; kind_is = refl })) in
    record {
      name = used.name;
      commit = used.commit;
      place = used.place;
      kept = state_of_kept (shown_good (shows u) used.name used.kept.shown) (after.shown (shows v) (now_left v)) in_state;
      inside = subst (λ (l : List Place). In l used.place) (sym whole) used.inside;
      digest_is = used.digest_is;
      kind_is = used.kind_is;
    }

-- ---- used or not

object_cases : (d e : List ℕ) (k m : ObjKind) → ((d ≡ e) × (k ≡ m)) ⊎ (d ≡ e → k ≡ m → ⊥)
object_cases d e k m = elim (cases_Bool (bytes_eq d e)) [
  | inr f ↦ inr (λ dd kk. cc (f, (bytes_eq-Decides d e).1 dd))
  | inl t ↦ elim (kind_cases k m) [
    | inr off ↦ inr (λ dd kk. off (ap ends kk))
    | inl kk ↦ inl (bytes_eq-true d e t, kk)
  ]
]

-- a place of the object
record HasPlace (ps : List Place) (d : List ℕ) (kind : ObjKind) : Type 0 where
  place : Place
  within : In ps place
  digest : d ≡ place.digest
  of_kind : kind ≡ place.kind

place_cases : (ps : List Place) (d : List ℕ) (kind : ObjKind) → HasPlace ps d kind ⊎ (HasPlace ps d kind → ⊥)
place_cases [] d kind = inr (λ h. h.within)
place_cases (p ∷ ps) d kind = elim (object_cases d p.digest kind p.kind) [
  | inl is ↦ inl (record { place = p; within = inl refl; digest = is.0; of_kind = is.1 })
  | inr off ↦ elim (place_cases ps d kind) [
    | inl more ↦ inl (record { place = more.place; within = inr more.within; digest = more.digest; of_kind = more.of_kind })
    | inr none ↦ inr (λ h. elim h.within [
      | inl here ↦ off (h.digest ∙ ap (λ (r : Place). r.digest) (sym here)) (h.of_kind ∙ ap (λ (r : Place). r.kind) (sym here))
      | inr later ↦ none (record { place = h.place; within = later; digest = h.digest; of_kind = h.of_kind })
    ])
  ]
]

pub used_cases : (have : Have) (commits : List (List ℕ)) (d : List ℕ) (kind : ObjKind) → IsUsed have commits (d, kind) ⊎ (IsUsed have commits (d, kind) → ⊥)
used_cases have [] d kind = inr (λ used. in_none used.commit used.kept)
used_cases have (c ∷ commits) d kind = elim (place_cases (order have c) d kind) [
  | inl at ↦ inl (record { commit = c; place = at.place; kept = in_first c commits; within = at.within; is = (λ i. (at.digest i, at.of_kind i)) })
  | inr off ↦ elim (used_cases have commits d kind) [
    | inl used ↦ inl (record { commit = used.commit; place = used.place; kept = in_rest c commits used.commit used.kept; within = used.within; is = used.is })
    | inr none ↦ inr (λ used. elim (in_cases c commits used.commit used.kept) [
      | inl here ↦ off (record {
        place = used.place;
        within = subst (λ x. In (order have x) used.place) here used.within;
        digest = ap (λ (o : List ℕ × ObjKind). o.0) used.is;
        of_kind = ap (λ (o : List ℕ × ObjKind). o.1) used.is;
      })
      | inr later ↦ none (record { commit = used.commit; place = used.place; kept = later; within = used.within; is = used.is })
    ])
  ]
]

-- ---- what is left

module _ {s : State} {v : View} (opens : Opens s v) where
  -- the objects that the commits of the list use
  pub from_list : (d : List ℕ) (kind : ObjKind) → IsUsed (store repo (shows v)) (kept_of s.refs) (d, kind) → Used (shows v) d kind
  from_list d kind used =
      let row = from_kept used.commit s.refs used.kept in
      record {
        name = row.0.name;
        commit = used.commit;
        place = used.place;
        kept = row_keeps (opens.shown (shows v) (now_left v)) row.0 used.commit row.1 row.2;
        inside = used.within;
        digest_is = ap (λ (o : List ℕ × ObjKind). o.0) (sym used.is);
        kind_is = ap (λ (o : List ℕ × ObjKind). o.1) (sym used.is);
      }

  -- where all is used, none is unused
  pub none_unused : ((d : List ℕ) (kind : ObjKind) → is_digest d ≡ true → shows v (object_path repo d kind) ≢ gone → Used (shows v) d kind) → (q : Elements) → IsUnusedName repo (kept_of s.refs) v q → ⊥
  none_unused all q n =
      let some : shows v (object_path repo n.object.0 n.object.1) ≢ gone = (λ none. no_object (sym n.unused.there ∙ ap (λ (x : Spot). is_some (object_at n.object.1 x)) none)) in
      let used = all n.object.0 n.object.1 n.unused.digits some in
      n.unused.unused (record {
        commit = used.commit;
        place = used.place;
        kept = keeps_listed (opens.shown (shows v) (now_left v)) used.name used.commit used.kept;
        within = used.inside;
        is = (λ i. (sym used.digest_is i, sym used.kind_is i));
      })
    where
      no_object : true ≡ is_some (object_at n.object.1 gone) → ⊥
      no_object e = cc e

  -- each object that is left is used
  pub used_end : {w : View} → IsTree v → IsTree w → IsSteady v → Opens s w → Prunes repo (kept_of s.refs) v w → IsPruned (kept_of s.refs) v w
      → (d : List ℕ) (kind : ObjKind) → is_digest d ≡ true → shows w (object_path repo d kind) ≢ gone → Used (shows w) d kind
  used_end {w = w} tree next steady after pruned done d kind digits some =
      let p = object_path repo d kind in
      let left : w.names p ≢ absent = some_there next p some in
      let name : w.names p ≡ v.names p = elim (pruned.keeps.names p) [ inl same ↦ same | inr put ↦ absurd (left put.1) ] in
      let shown : shows v p ≢ gone = (λ none. some (same_shows tree next (files_kept pruned.keeps) p name ∙ none)) in
      elim (used_cases (store repo (shows v)) (kept_of s.refs) d kind) [
        | inl used ↦ used_on opens after (used_stays opens steady pruned) d kind (from_list d kind used)
        | inr none ↦ absurd (left ((done.was (are_whole opens tree)).1.gone (d, kind) (record { digits = digits; there = object_there (shows v) (sound_store (shows v) (sound_now tree opens)) d kind digits shown; unused = none })))
      ]

-- ---- over the moments, of the installation's store

pub prunes_start : {root : Elements} {keep : List (List ℕ)} {a : Option Moments} → IsTold a → Goes a a (Prunes root keep) (Prunes root keep)
prunes_start told = stays told (λ u. record { keeps = keeps_same refl }) (λ u t. record { keeps = keeps_same refl })

pub prunes_of : {root : Elements} {keep kept : List (List ℕ)} {a b : Option Moments} → root ≡ repo → keep ≡ kept → Goes a b (Prunes root keep) (Prunes root keep) → Goes a b (Prunes repo kept) (Prunes repo kept)
prunes_of {root = root} {kept = kept} {a = a} {b = b} at same goes = subst (λ r. Goes a b (Prunes r kept) (Prunes r kept)) at (subst (λ k. Goes a b (Prunes root k) (Prunes root k)) same goes)

-- this many, or none where a commit has a fault
abbrev Took : Elements → List (List ℕ) → Option ℕ → View → View → Type 0
Took root keep pruned u w = UnlessFaulty root keep u (λ number. WasPruned root keep number u w) pruned

is_pruned : (keep : List (List ℕ)) (pruned : Option ℕ) (u w : View) → Took repo keep pruned u w → IsPruned keep u w
is_pruned commits None u w faulty = record { was = λ whole. absurd (faulty whole) }
is_pruned commits (Some number) u w was = record { was = λ whole. (number, was) }

pub pruned_of : {root : Elements} {keep kept : List (List ℕ)} (pruned : Option ℕ) {a b : Option Moments} → root ≡ repo → keep ≡ kept → AtEnd (Took root keep pruned) a b → AtEnd (IsPruned kept) a b
pruned_of {root = root} {kept = kept} pruned at same done = ends_to done (λ u w took. is_pruned kept pruned u w (subst (λ r. Took r kept pruned u w) at (subst (λ k. Took root k pruned u w) same took)))

pub can_list_of : {root : Elements} {v : View} → root ≡ repo → CanList repo v → CanList root v
can_list_of {v = v} at can = subst (λ r. CanList r v) (sym at) can
