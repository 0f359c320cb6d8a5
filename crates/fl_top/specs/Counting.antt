-- The answers that count: those over a result that the image at the start gives, and those that are
-- the same over every result. Each `Each..` states that all of them have a property, and each
-- `One..` that there is one, so that `Each..` is never said of nothing.
use Rattle.std.specs.Prelude.{◌≡◌, ℕ, List, Option, Some, Result}
use Rattle.fp_host.specs.Paths.{Elements}
use Rattle.fp_host.specs.Remote.{Holdings}
use Rattle.fp_host.specs.View.{View}
use Rattle.fp_host.specs.Outcome.{shows}
use Rattle.ost_fsck.specs.declared.report.Report.{Report}
use Rattle.fl_words.specs.Forms.{command_of}
use Rattle.fl_words.specs.declared.command.Command.{Command}
use Rattle.fl_change.specs.World.{World}
use Rattle.fl_change.specs.Answer.{Answer}
use Rattle.fl_top.specs.Answer.{Given, answer, answer_over, shown_answer, checked, IsOver}
use Rattle.fl_top.specs.Fsck.{Finds, HasReport}
use Rattle.fl_top.specs.Told.{Told, IsGiven, IsGivenTo, IsReady, MayAnswer}

-- ---- over what the image at the start gives

-- Each answer that counts has the property `Is`: each one over a result that the image of `u`
-- gives, and each one that is the same over every result
abbrev pub EachOver : (Result World Elements → Answer) → View → (Answer → Type 0) → Type 0
EachOver by u Is = (shown : Result World Elements) → IsOver by (shows u) shown → Is (by shown)

-- There is an answer that counts over the image of `u`
abbrev pub OneOver : (Result World Elements → Answer) → View → Type 0
OneOver by u = (shown : Result World Elements) × IsOver by (shows u) shown

-- ---- of words, by all that their command may be given

-- Each answer of these words that counts has the property `Is`, for everything that their command
-- may be given
abbrev pub EachOfWords : List (List ℕ) → Told → View → (Holdings → Answer → Type 0) → Type 0
EachOfWords words t u Is = (given : Given) → IsGiven t (command_of words) given
    → (shown : Result World Elements) → IsOver (answer words given) (shows u) shown
    → MayAnswer (command_of words) u (answer words given shown)
    → Is given.held (answer words given shown)

-- The words have an answer that counts, whatever their command is given
abbrev pub OneOfWords : List (List ℕ) → Told → View → Type 0
OneOfWords words t u =
    (given : Given) → IsGiven t (command_of words) given → OneOver (answer words given) u

-- ---- of a command

-- Each answer of this command that counts has the property `Is`, for everything that it may be
-- given
abbrev pub EachOfCommand : Command → Told → View → (Holdings → Answer → Type 0) → Type 0
EachOfCommand asked t u Is = (given : Given) → IsGivenTo asked t given
    → (shown : Result World Elements) → IsOver (answer_over asked given) (shows u) shown
    → MayAnswer (Some asked) u (answer_over asked given shown)
    → Is given.held (answer_over asked given shown)

-- The command has an answer that counts, whatever it is given
abbrev pub OneOfCommand : Command → Told → View → Type 0
OneOfCommand asked t u =
    (given : Given) → IsGivenTo asked t given → OneOver (answer_over asked given) u

-- ---- of changes, where the installation is ready and the remotes tell what they hold

-- If the installation is ready and the remotes tell what they hold, each answer of these changes
-- that counts has the property `Is`
abbrev pub EachOfChanges : Option Holdings → (Holdings → World → Answer) → View
    → (Holdings → Answer → Type 0) → Type 0
EachOfChanges holds f u Is = IsReady u → (held : Holdings) → holds ≡ Some held
    → EachOver (shown_answer (f held)) u (λ a. Is held a)

-- The changes have an answer that counts, whatever the remotes hold
abbrev pub OneOfChanges : (Holdings → World → Answer) → View → Type 0
OneOfChanges f u = (held : Holdings) → OneOver (shown_answer (f held)) u

-- ---- of a look, whatever the installation, and whatever the remotes hold

-- Each answer of a look that counts has the property `Is`, whatever the installation and whatever
-- the remotes hold
abbrev pub EachOfLook : (Result World Elements → Answer) → View → (Holdings → Answer → Type 0)
    → Type 0
EachOfLook by u Is = EachOver by u (λ a. (held : Holdings) → Is held a)

-- ---- of a look at each object of the store, by its reports

-- Each answer of `fsck` that counts has the property `Is`, for each report of the store
abbrev pub EachOfReport : View → (Holdings → Answer → Type 0) → Type 0
EachOfReport u Is = (report : Report) → Finds (shows u) report
    → EachOfLook (shown_answer (checked report)) u Is

-- The store has a report, and there is an answer that counts for each report
pub record OneOfReport (u : View) : Type 0 where
  pub found : HasReport (shows u)
  pub counts : (report : Report) → OneOver (shown_answer (checked report)) u
