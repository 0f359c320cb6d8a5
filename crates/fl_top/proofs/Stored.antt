-- The deployed files that a host has; and that over a sound installation they are those that the store's
-- objects give.
use Rattle.std.proofs.Common.{◌≡◌, inl, ℕ, List, Option, Some, None, refl, sym, ◌∙◌, ap}
use Rattle.std.specs.Option.{option_map_or}
use Rattle.fp_host.specs.Moments.{Moments}
use Rattle.fp_host.specs.Outcome.{shows}
use Rattle.fp_name.specs.Refs.{Ref, ref_text}
use Rattle.fp_small.specs.Places.{repo}
use Rattle.fp_small.specs.declared.refusal.Refusal.TheVariants.{NotInstalled}
use Rattle.fp_small.specs.declared.state.RefRow.{RefRow}
use Rattle.ost_model.specs.Objects.{store}
use Rattle.dep_states.specs.After.{row_at}
use Rattle.dep_states.specs.Names.{commit_dir}
use Rattle.dep_states.specs.Shown.{ref_key}
use Rattle.dep_states.specs.Sound.{reads_as}
use Rattle.dep_tidy.proofs.Pruned.{seen_by_row}
use Rattle.dep_switch.proofs.Named.{at_name-find}
use Rattle.fl_installed.specs.Deployed.{DeployedFiles, deployed_files, stored_files}
use Rattle.fl_installed.specs.Described.{by_file, as_info, info_in}
use Rattle.fl_installed.proofs.LocalPoints.{launch_is_local}
use Rattle.fl_installed.proofs.Standing.{standing_is_stored}
use Rattle.fl_change.specs.Answer.{Answer, refusal_answer}
use Rattle.fl_top.specs.Answer.{told_of}
use Rattle.fl_top.specs.Told.{files_at}
use Rattle.fl_top.specs.Stored.{FilesAreStored, KnownIsStored, LaunchIsStored}

-- ---- what a host has

-- where it tells its content, these are the deployed files
abbrev pub HasFiles : Option Moments → DeployedFiles → Type 0
HasFiles told files = (m : Moments) → told ≡ Some m → files ≡ deployed_files (shows m.now)

pub has_files : (told : Option Moments) → HasFiles told (files_at told)
has_files told m is = ap files_at is

-- ---- over a sound installation

pub files_are_stored : FilesAreStored
files_are_stored disk s sound shown name row good has =
    standing_is_stored (reads_as name.kind) repo disk row.commit (commit_dir name row.commit)
    (sound.commits name row.commit (record { row = row; shown = seen_by_row shown name row good has; of_row = inl refl }))

module _ (name : Ref) where
  abbrev told_by : DeployedFiles → Option RefRow → Answer
  told_by files o = option_map_or (λ row. told_of row (info_in files name row.commit)) o (refusal_answer (NotInstalled name))

  told_same : (i j : DeployedFiles) (o : Option RefRow) → ((row : RefRow) → o ≡ Some row → j name row.commit ≡ i name row.commit) → told_by j o ≡ told_by i o
  told_same i j None same = refl
  told_same i j (Some row) same = ap (λ (file : Option (List ℕ)). told_of row (as_info (by_file name file))) (same row refl)

pub known_is_stored : KnownIsStored
known_is_stored disk x sound shown name good =
    told_same name (stored_files (store repo disk)) (deployed_files disk) (row_at x.state name) (λ row has. files_are_stored disk x.state sound shown name row good has)

pub launch_is_stored : LaunchIsStored
launch_is_stored disk s sound shown name options good =
    launch_is_local (stored_files (store repo disk)) (deployed_files disk) s name options good
    (λ other row fine has. files_are_stored disk s sound shown other row fine (sym (at_name-find ref_key s.refs (ref_text other)) ∙ has))
