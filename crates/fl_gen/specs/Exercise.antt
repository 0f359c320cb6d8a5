-- The commands that are run over the generated remotes.
use Rattle.std.specs.Prelude.{ℕ, ◌+◌, ◌*◌, ◌/◌, List, [], ◌∷◌, ◌++◌, codes}
use Rattle.fp_small.specs.declared.state.RemoteRow.{RemoteRow}
use Rattle.fl_words.specs.declared.command.Change.{Change}
use Rattle.fl_words.specs.declared.command.Change.TheVariants as change
use Rattle.fl_gen.specs.Made.{each_of, app_ref}
use Rattle.fl_gen.specs.Generator.{first_url, second_url}

-- The remote `gen` with this URL
abbrev pub gen_at : List ℕ → RemoteRow
gen_at url = record { name = codes "gen"; url = url }

-- The install of the application k
abbrev pub install_of : ℕ → Change
install_of k = change.Install (codes "gen") (app_ref k)

-- The uninstall of the application with the odd number 2 * half + 1
abbrev pub uninstall_of : ℕ → Change
uninstall_of half = change.Uninstall (app_ref (2 * half + 1))

-- The commands of an exercise with this number of applications
abbrev pub exercise_changes : ℕ → List Change
exercise_changes apps =
    change.RemoteAdd (gen_at first_url) ∷ (each_of install_of apps
    ++ (change.RemoteModify (gen_at second_url)
    ∷ (change.UpdateAll ∷ (each_of uninstall_of (apps / 2) ++ change.UninstallUnused ∷ []))))
