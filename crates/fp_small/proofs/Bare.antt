-- Views of which little is asked.
use Rattle.std.proofs.Common.{◌≡◌, ◌≢◌, ◌⊎◌, inl, inr, ℕ, ◌≤◌, List, [], ◌∷◌, length, Bool, true, false, Option, Some, None, Ok, codes, refl, sym, ◌∙◌, ap, subst, Contains, arith}
use Rattle.std.proofs.lemmas.List.Elements.{Contains-append_left, Contains-push}
use Rattle.fp_host.specs.Paths.{Elements, Slot, absent, file, IsAbove}
use Rattle.fp_host.specs.View.{View, Inode, IsTree}
use Rattle.fp_host.specs.Outcome.{IsSettled}
use Rattle.fp_host.specs.Calls.{creates, appends, syncs, done, with_file, CanCreate, Step}
use Rattle.fp_small.specs.Places.{IsBare}
use Rattle.fp_small.specs.Files.{MakesFile}
use Rattle.fp_small.specs.Stage.{IsReady}
use Rattle.fp_small.specs.Folders.{IsFree, AreFree}
use Rattle.fp_small.specs.Replace.{CanReplace, folders_of}
use Rattle.fp_small.specs.Clear.{CanClear, CanEmpty}
use Rattle.fp_small.specs.Unsynced.{Unsynced, MakesOneFile}
use Rattle.fp_small.proofs.Unsynced.{one_on, put_none, with_file_one}
use Rattle.fp_small.proofs.Staging.{Written, Begun, begun_create, begun_append, made_synced, staged_sync, can_append}

pub created_one : (v : View) (p : Elements) (id mode : ℕ) → v.files id ≡ None → MakesOneFile v (done (creates p mode id) v)
created_one v p id mode free = one_on (with_file_one id mode v free) (put_none p (file id) (with_file id mode v))

first_in : (e : Slot) (es : List Slot) → Contains (e ∷ es) e
first_in e es = Contains-append_left (e ∷ []) es e (Contains-push [] e)

none_held : (es : List Slot) → ((e : Slot) → Contains es e → ⊥) → es ≡ []
none_held [] none = refl
none_held (e ∷ es) none = absurd (none e (first_in e es))

-- where nothing was synced and all is settled, all was settled before
pub settled_before : {u w : View} → IsTree u → Unsynced u w → IsSettled w → IsSettled u
settled_before {u = u} {w = w} tree still settled = record {
  earlier = λ q. none_held (u.earlier q) (λ e has. omega (arith, (subst (λ (l : List Slot). Contains l e) (settled.earlier q) (still.earlier q e has)).1));
  dirty = λ id. by_row id (u.files id) refl;
}
  where
    by_flag : (id : ℕ) → u.files id ≡ None → (b : Bool) → u.dirty id ≡ b → u.dirty id ≡ false
    by_flag id none false is = is
    by_flag id none true is = absurd (tree.known_dirty id is none)

    by_row : (id : ℕ) (row : Option Inode) → u.files id ≡ row → u.dirty id ≡ false
    by_row id (Some f) is = sym (still.dirty id f is) ∙ settled.dirty id
    by_row id None is = by_flag id is (u.dirty id) refl

-- ---- a file that is created, written and synced

module _ (v : View) (p : Elements) (bytes : List ℕ) (id : ℕ) (can : CanCreate p 420 v) (free : v.files id ≡ None) where
  empty : View
  empty = done (creates p 420 id) v

  begun : Begun p [] v (done (creates p 420 id) v)
  begun = begun_create (record { how = (id, ((can, free), refl)) })

  appended : Step (appends p bytes) (Ok tt) (done (creates p 420 id) v) (done (appends p bytes) (done (creates p 420 id) v))
  appended = record { how = (can_append begun.written, refl) }

  synced : Step syncs (Ok tt) (done (appends p bytes) (done (creates p 420 id) v)) (done syncs (done (appends p bytes) (done (creates p 420 id) v)))
  synced = record { how = (tt, refl) }

  pub file_made : MakesFile p bytes v (done syncs (done (appends p bytes) (done (creates p 420 id) v)))
  file_made = made_synced (begun_append begun appended) synced

  pub file_written : Written p bytes v (done (appends p bytes) (done (creates p 420 id) v))
  file_written = (begun_append begun appended).written

  pub file_ready : IsReady p bytes (done syncs (done (appends p bytes) (done (creates p 420 id) v)))
  file_ready = (staged_sync (begun_append begun appended).written synced).ready

-- ---- nothing but the root

module _ (v : View) (bare : IsBare v) where
  free_at : (q : Elements) → IsFree v q
  free_at [] = inr bare.root
  free_at (x ∷ up) = inl (bare.none x up)

  pub all_free : (paths : List Elements) → AreFree paths v
  all_free paths = record { free = λ q has. free_at q }

  empty_below : (p : Elements) → CanEmpty p v
  empty_below p = record { short = gone }
    where
      gone : (q : Elements) → IsAbove p q → (v.names q ≡ absent) ⊎ (length q ≤ 128)
      gone [] above = absurd above
      gone (x ∷ up) above = inl (bare.none x up)

  pub may_clear : (x : List ℕ) (up : Elements) → CanClear (x ∷ up) v
  may_clear x up = record { no_root = λ root. cc root; below = empty_below (x ∷ up) }

  pub may_replace : (name : List ℕ) → name ≢ codes "repo" → CanReplace (name ∷ []) v
  may_replace name other = record {
    entry = inl (bare.none name []);
    folders = all_free (folders_of (name ∷ []));
    no_root = λ root. cc root;
    no_repo = λ is. other (first is);
    no_tmp = λ is. omega (arith, ap (λ (q : Elements). length q) is);
    no_work = λ above. elim above [ inl is ↦ cc is | inr none ↦ none ];
  }
    where
      first : {x : List ℕ} → name ∷ [] ≡ x ∷ [] → name ≡ x
      first is = cc is

pub not_so_deep : (v : View) (p q : Elements) → IsAbove p q → v.names q ≢ absent → length q ≡ 129 → CanEmpty p v → ⊥
not_so_deep v p q above there long can = elim (can.short q above) [ inl none ↦ there none | inr short ↦ omega (arith, short, long) ]

pub bare_free : (v : View) → IsBare v → (q : Elements) → IsFree v q
bare_free v bare [] = inr bare.root
bare_free v bare (x ∷ up) = inl (bare.none x up)
