-- The views that the events of a log lead to.
use Rattle.std.specs.Prelude.{◌≡◌, ◌<◌, ◌-◌, ◌^◌, ℕ, Bool, true, false, List, [], ◌∷◌, reverse, filter, nat_lt, if◌then◌else◌}
use Rattle.std.specs.List.{list_all}
use Rattle.fp_host.specs.View.{View, IsTree}
use Rattle.fp_host.specs.Moments.{Moments}
use Rattle.fp_host.specs.Calls.{Change, makes_dir, creates, appends, links, makes_link, renames, unlinks, removes_dir, syncs, says, done, half}
use Rattle.fp_memhost.specs.declared.event.Event.{Event}
use Rattle.fp_memhost.specs.declared.event.Event.TheVariants.{MakeDir, Create, Append, Link, Symlink, Rename, Unlink, RemoveDir, Sync, Say}
use Rattle.fp_memhost.specs.declared.event.Noted.{Noted}

-- The model's change for an event
abbrev pub change_of : Event → Change
change_of (MakeDir p) = makes_dir p
change_of (Create p mode id) = creates p mode id
change_of (Append p bytes) = appends p bytes
change_of (Link from to) = links from to
change_of (Symlink text p) = makes_link text p
change_of (Rename from to) = renames from to
change_of (Unlink p) = unlinks p
change_of (RemoveDir p) = removes_dir p
change_of Sync = syncs
change_of (Say piece) = says piece

-- Tests whether an event is a sync
abbrev pub is_sync : Event → Bool
is_sync Sync = true
is_sync (MakeDir p) = false
is_sync (Create p mode id) = false
is_sync (Append p bytes) = false
is_sync (Link from to) = false
is_sync (Symlink text p) = false
is_sync (Rename from to) = false
is_sync (Unlink p) = false
is_sync (RemoveDir p) = false
is_sync (Say piece) = false

-- The view after a logged event, which was done or failed
abbrev pub stepped : Noted → View → View
stepped e v = if e.is_done then done (change_of e.event) v else half (change_of e.event) v

-- The view after a log, whose newest event comes first
abbrev pub view_of : View → List Noted → View
view_of start [] = start
view_of start (e ∷ log) = stepped e (view_of start log)

-- The view after a log, whose oldest event comes first
abbrev pub view_now : View → List Noted → View
view_now start log = view_of start (reverse log)

-- Tests whether an event is of one of the first `n` calls
abbrev pub is_before : ℕ → Noted → Bool
is_before n e = nat_lt e.call n

-- The view after the first `n` calls
abbrev pub view_after : View → List Noted → ℕ → View
view_after start log n = view_now start (filter (is_before n) log)

-- The views before each event of a log, whose newest event comes first
abbrev pub past_of : View → List Noted → List View
past_of start [] = []
past_of start (e ∷ log) = view_of start log ∷ past_of start log

-- All views so far: the present one, and one before each event
abbrev pub moments_of : View → List Noted → Moments
moments_of start log = record { now = view_now start log; past = past_of start (reverse log) }

-- The numbers of the logged events are below the number of calls, unless that is at its maximum
pub record IsNumbered (calls : ℕ) (log : List Noted) : Type 0 where
  pub fits : list_all (is_before (2 ^ 64)) log ≡ true
  pub below : calls < 2 ^ 64 - 1 → list_all (is_before calls) log ≡ true

-- The present view is a well-formed tree, and so is the view after each number of calls
pub record AreTrees (start : View) (log : List Noted) : Type 0 where
  pub now : IsTree (view_now start log)
  pub after : (n : ℕ) → IsTree (view_after start log n)
