-- Runs one after another.
use Rattle.std.proofs.Common.{◌≡◌, List, [], ◌∷◌, ◌++◌, ℕ, Result, refl, sym, ◌∙◌, ap}
use Rattle.fp_host.specs.Paths.{Elements}
use Rattle.fp_host.specs.View.{View}
use Rattle.fp_host.specs.Outcome.{Disk, Leaves, shows, spot_of}
use Rattle.fp_host.proofs.Settled.{at_tree, settled_disk}
use Rattle.fp_host.proofs.Shown.{now_left}
use Rattle.fp_small.specs.declared.state.State.{State}
use Rattle.dep_states.specs.Shown.{Shows}
use Rattle.dep_states.specs.Sound.{IsSound}
use Rattle.dep_states.specs.After.{Done, after_all}
use Rattle.dep_states.proofs.Single.{one_state}
use Rattle.fl_change.specs.World.{World}
use Rattle.fl_top.specs.Answer.{answer, Given}
use Rattle.fl_change.specs.Answer.{ops_in, ops_of}
use Rattle.fl_top.specs.Moment.{Runs, ShowsAfter}
use Rattle.fl_top.specs.History.{Stretch, Reopens, History, begins, runs, stops, IsReached}
use Rattle.fl_change.proofs.Same.{same_shown, same_sound}
use Rattle.fl_top.proofs.Ending.{runs_sound}

-- a reopened view has one outcome: what the stop left
one_outcome : {w v : View} (r : Reopens w v) (disk : Disk) → Leaves v disk → (q : Elements) → disk q ≡ r.disk q
one_outcome {v = v} r disk left q = settled_disk v r.tree r.settled disk left q ∙ ap (spot_of v.files) (sym (at_tree v r.tree q)) ∙ r.same q

reopened_sound : {w v : View} → Reopens w v → IsSound w → IsSound v
reopened_sound r sound = record {
  shown = λ disk left. let was = sound.shown r.disk r.left in record { state = was.state; shows = same_shown (one_outcome r disk left) was.shows };
  sound = λ disk left. same_sound (one_outcome r disk left) (sound.sound r.disk r.left);
}

pub history_sound : {u w : View} {stretches : List Stretch} → IsSound u → History u stretches w → IsSound w
history_sound sound begins = sound
history_sound sound (runs stretches v w words given result history counts run) = runs_sound run (history_sound sound history)
history_sound sound (stops stretches v w history reopens) = reopened_sound reopens (history_sound sound history)

-- the operations that were done lead on from where the run began
leads_on : (stretches : List Stretch) {u v w : View} (words : List (List ℕ)) (given : Given) (result : Result World Elements) (run : Runs (answer words given result) v w) (disk : Disk) (t : State) (done : List Done) → (undone more : List Done) → ops_of (answer words given result) ≡ done ++ undone → done ≡ ops_in run.said ++ more
    → ShowsAfter v done disk → Shows disk t → ((before : Disk) → Leaves v before → (s : State) → Shows before s → IsReached u stretches before s)
    → IsReached u (record { ops = ops_of (answer words given result); acknowledged = ops_in run.said } ∷ stretches) disk t
leads_on stretches words given result run disk t [] undone more prefix holds at shown reached =
    let r = reached at.0 at.1 at.2 at.3 in
    record { before = r.before; left = r.left; state = r.state; shown = r.shown; leads = (at.2, r.leads, record { done = []; undone = undone; prefix = prefix; more = more; holds = holds; after = one_state disk t at.2 shown at.4 }) }
leads_on stretches {v = v} words given result run disk t (op ∷ ops) undone more prefix holds at shown reached =
    let r = reached (shows v) (now_left v) at.0 at.1 in
    record { before = r.before; left = r.left; state = r.state; shown = r.shown; leads = (at.0, r.leads, record { done = op ∷ ops; undone = undone; prefix = prefix; more = more; holds = holds; after = one_state disk t (after_all at.0 (op ∷ ops)) shown at.2 }) }

pub history_reached : {u w : View} {stretches : List Stretch} → IsSound u → History u stretches w → (disk : Disk) → Leaves w disk → (t : State) → Shows disk t → IsReached u stretches disk t
history_reached sound begins disk left t shown = record { before = disk; left = left; state = t; shown = shown; leads = refl }
history_reached sound (runs stretches v w words given result history counts run) disk left t shown =
    let p = run.prefix (history_sound sound history) disk left in
    leads_on stretches words given result run disk t p.done p.undone p.more p.prefix p.holds p.shown shown (history_reached sound history)
history_reached sound (stops stretches v w history reopens) disk left t shown =
    let r = history_reached sound history reopens.disk reopens.left t (same_shown (λ q. sym (one_outcome reopens disk left q)) shown) in
    record { before = r.before; left = r.left; state = r.state; shown = r.shown; leads = r.leads }
