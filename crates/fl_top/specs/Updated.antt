-- Changes that were done, and the work that is left after an update of all refs.
use Rattle.std.specs.Prelude.{◌≡◌, ℕ, List, [], Option, Some, None}
use Rattle.fp_host.specs.Remote.{Holdings}
use Rattle.fp_host.specs.View.{View}
use Rattle.dep_states.specs.Sound.{IsSound}
use Rattle.fl_words.specs.Forms.{command_of}
use Rattle.fl_words.specs.declared.command.Change.TheVariants.{UpdateAll}
use Rattle.fl_words.specs.declared.command.Command.{Command}
use Rattle.fl_words.specs.declared.command.Command.TheVariants.{Change as Changing}
use Rattle.fl_change.specs.Answer.{Answer, ops_of}
use Rattle.fl_change.specs.Performs.{AreToldFor}
use Rattle.fl_top.specs.Asked.{AsksFor, UpdatesFor}
use Rattle.fl_top.specs.Exports.{IsInStep}
use Rattle.fl_top.specs.Told.{Told, IsChange}
use Rattle.fl_top.specs.Return.{WordsWereRun}

-- The words are an update of all refs. It was done with status 0, from a sound installation at `u`
-- to `v`, with remotes that hold this.
pub record WasUpdated (words : List (List ℕ)) (t : Told) (held : Holdings) (u v : View) : Type 0
  where
    pub update : command_of words ≡ Some (Changing UpdateAll)
    pub sound : IsSound u
    pub holds : t.holds ≡ Some held
    pub ran : WordsWereRun words t 0 u v

-- The answer has no operation and no refusal
abbrev pub HasNothingToDo : Answer → Type 0
HasNothingToDo a = (ops_of a ≡ []) × (a.refusal ≡ None)

-- ---- a change that was done

-- `R` holds, if the command may change the state, its status is 0, and the remotes tell what they
-- hold where it may bring a commit
abbrev pub WhereDone : Option Command → Option (List ℕ) → ℕ → Option Holdings → Type 0 → Type 0
WhereDone asked left status holds R =
    IsChange asked → status ≡ 0 → AreToldFor (AsksFor asked left) holds → R

-- Over a sound start, each crash at the return leaves the exports of the state, and the image is
-- settled; after an update of all refs, if it was settled before
abbrev pub EndsInStep : Option Command → Option (List ℕ) → Option Holdings → View → View → Type 0
EndsInStep asked left holds u w = IsSound u → IsInStep (UpdatesFor asked left) holds u w
