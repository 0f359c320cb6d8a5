-- The operations that a command may do, and what it asks of the remotes.
use Rattle.std.specs.Prelude.{◌≡◌, ◌≤◌, ℕ, List, true, Option, Some, None, Ok}
use Rattle.fp_host.specs.Moments.{Rose}
use Rattle.fp_host.specs.Remote.{Holdings}
use Rattle.fp_small.specs.declared.op.Op.{Op}
use Rattle.fl_words.specs.declared.command.Command.{Command}
use Rattle.fl_words.specs.declared.command.Command.TheVariants.{Exercise as Exercising}
use Rattle.fl_words.specs.declared.command.Change.{Change}
use Rattle.fl_words.specs.Batch.{batch_of}
use Rattle.fl_gen.specs.Exercise.{exercise_changes}
use Rattle.fl_change.specs.Current.{updates_all}
use Rattle.fl_change.specs.Performs.{AsksBy}
use Rattle.fl_change.specs.Turns.{MayDo}
use Rattle.fl_top.specs.Answer.{How, how, by_changes, by_batch, by_exercise, by_world, by_input}
use Rattle.fl_top.specs.Input.{IsWhole}

-- The input is a batch with these changes; if the source tells what is left, these bytes are all of
-- it
pub record IsBatch (left : Option (List ℕ)) (changes : List Change) : Type 0 where
  pub bytes : List ℕ
  pub whole : IsWhole left bytes
  pub read : batch_of bytes ≡ Ok changes

-- The operations that a command with this form of answer may do, by what is left of the input
abbrev pub OpsAs : How → Option (List ℕ) → Op → Type 0
OpsAs (by_changes changes) left op = MayDo changes op
OpsAs by_batch left op = (changes : List Change) × IsBatch left changes × MayDo changes op
OpsAs (by_exercise apps) left op = MayDo (exercise_changes apps) op
OpsAs (by_world f) left op = ⊥
OpsAs (by_input f) left op = ⊥

-- The operations that this command may do, by what is left of the input
abbrev pub OpsBy : Command → Option (List ℕ) → Op → Type 0
OpsBy command left op = OpsAs (how command) left op

-- The operations that these words may do, by what is left of the input; none if they are no command
abbrev pub OpsFor : Option Command → Option (List ℕ) → Op → Type 0
OpsFor None left op = ⊥
OpsFor (Some command) left op = OpsBy command left op

-- The answer is by one change, the update of all refs, or by a batch of just that change
abbrev pub UpdatesAs : How → Option (List ℕ) → Type 0
UpdatesAs (by_changes changes) left = updates_all changes ≡ true
UpdatesAs by_batch left =
    (changes : List Change) × IsBatch left changes × (updates_all changes ≡ true)
UpdatesAs (by_exercise apps) left = ⊥
UpdatesAs (by_world f) left = ⊥
UpdatesAs (by_input f) left = ⊥

-- The command is the update of all refs, or a batch of just that
abbrev pub UpdatesBy : Command → Option (List ℕ) → Type 0
UpdatesBy command left = UpdatesAs (how command) left

-- The words are the update of all refs, or a batch of just that
abbrev pub UpdatesFor : Option Command → Option (List ℕ) → Type 0
UpdatesFor None left = ⊥
UpdatesFor (Some command) left = UpdatesBy command left

-- The operations for which a command may ask the remotes that `run` is given. An exercise asks none
-- of these: it asks the remotes that are generated for it.
abbrev pub AsksFor : Option Command → Option (List ℕ) → Op → Type 0
AsksFor (Some (Exercising apps)) left op = ⊥
AsksFor command left op = OpsFor command left op

-- The use of the remotes by these operations. What the remotes hold stays unchanged, and their
-- count of faults never falls. `failed` holds only if the count rose. If none of the operations
-- brings a commit, the remotes aren't asked: their count stays equal, and `failed` doesn't hold.
pub record AsksRemotes (May : Op → Type 0) (failed : Type 0) (old new : Option Holdings)
    (before now : ℕ) : Type 0 where
  pub same : new ≡ old
  pub later : before ≤ now
  pub rose : failed → Rose before now
  pub unasked : (AsksBy May → ⊥) → (now ≡ before) × (failed → ⊥)
