-- Commands that are run one after another on one installation, with crashes and without.
use Rattle.std.specs.Prelude.{◌≡◌, List, [], ◌∷◌, ◌++◌, ℕ, Result}
use Rattle.fp_host.specs.Paths.{Elements}
use Rattle.fp_host.specs.View.{View, IsTree}
use Rattle.fp_host.specs.Outcome.{Disk, Leaves, IsSettled, shows}
use Rattle.fp_small.specs.declared.state.State.{State}
use Rattle.dep_states.specs.Shown.{Shows}
use Rattle.dep_states.specs.After.{Done, after_all}
use Rattle.fl_change.specs.World.{World}
use Rattle.fl_top.specs.Answer.{answer, Given, IsOver}
use Rattle.fl_change.specs.Answer.{ops_in, ops_of}
use Rattle.fl_top.specs.Moment.{Runs}

-- The operations of one command's answer, and those of them that it acknowledged
pub record Stretch : Type 0 where
  pub ops : List Done
  pub acknowledged : List Done

-- The installation is opened again as the view `v` after a crash at the view `w`
pub record Reopens (w v : View) : Type 0 where
  pub disk : Disk
  pub left : Leaves w disk
  pub tree : IsTree v
  pub settled : IsSettled v
  pub same : (q : Elements) → shows v q ≡ disk q

-- The view `v` is reached from the view `u` by these stretches, the latest one first. A command,
-- whose answer is any answer that counts, starts from the view that the previous command left, at
-- its return or at any moment before, or from what a crash left.
pub data History (u : View) : List Stretch → View → Type 0 where
  begins : History u [] u
  runs : (stretches : List Stretch) (v w : View) (words : List (List ℕ)) (given : Given)
      (shown : Result World Elements)
      → History u stretches v → IsOver (answer words given) (shows v) shown
      → (run : Runs (answer words given shown) v w)
      → History u (record {
        ops = ops_of (answer words given shown);
        acknowledged = ops_in run.said;
      } ∷ stretches) w
  stops : (stretches : List Stretch) (v w : View) → History u stretches w → Reopens w v
      → History u stretches v

-- The state `t` is `s` after a prefix of the stretch's operations that includes all acknowledged
-- ones
pub record Leads (stretch : Stretch) (s t : State) : Type 0 where
  pub done : List Done
  pub undone : List Done
  pub prefix : stretch.ops ≡ done ++ undone
  pub more : List Done
  pub holds : done ≡ stretch.acknowledged ++ more
  pub after : t ≡ after_all s done

-- The state `t` is `s` after such prefixes of all stretches, in the order of time
abbrev pub LeadsAll : List Stretch → State → State → Type 0
LeadsAll [] s t = t ≡ s
LeadsAll (stretch ∷ earlier) s t = (m : State) × LeadsAll earlier s m × Leads stretch m t

-- The state `t`, which the image shows, is reached by these stretches from a state that a crash at
-- the start could have left
pub record IsReached (u : View) (stretches : List Stretch) (disk : Disk) (t : State) : Type 0 where
  pub before : Disk
  pub left : Leaves u before
  pub state : State
  pub shown : Shows before state
  pub leads : LeadsAll stretches state t
