-- The command of the form that was found.
use Rattle.std.proofs.Common.{◌≡◌, List, ℕ, Some, Result, Ok, Err, IfErr, sym, ◌∙◌}
use Rattle.std.specs.List.{find}
use Rattle.std.proofs.lemmas.Bool.{false≢true}
use Rattle.fl_words.specs.declared.command.Command.{Command}
use Rattle.fl_words.specs.declared.command.WordsError.{WordsError}
use Rattle.fl_words.specs.declared.command.WordsError.TheVariants.{BadWords, NoMemory}
use Rattle.fl_words.specs.declared.forms.Form.{Form}
use Rattle.fl_words.specs.Forms.{forms, reads}
use Rattle.fl_words.specs.Reading.{IsMisfit, IsNoCommand}
use Rattle.fl_words.proofs.ReadBack.{found}

-- words that are of the form are no misfit
no_misfit : (words : List (List ℕ)) (form : Form) (e : WordsError) → find (reads words) forms ≡ Some form → IsMisfit form words e → IsNoCommand words e
no_misfit words form (BadWords index) h bad = absurd (false≢true (sym bad ∙ found words forms form h))
no_misfit words form NoMemory h bad = tt

pub passed_on : (r : Result Command WordsError) (words : List (List ℕ)) (form : Form) → find (reads words) forms ≡ Some form → IfErr r (IsMisfit form words) → IfErr r (IsNoCommand words)
passed_on (Ok c) words form h bad = tt
passed_on (Err e) words form h bad = no_misfit words form e h bad
