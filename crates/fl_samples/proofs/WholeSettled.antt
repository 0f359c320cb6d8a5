-- The small installation is settled.
use Rattle.std.proofs.Common.{◌≡◌, inl, inr, ℕ, List, [], ◌∷◌, ◌++◌, true, refl}
use Rattle.std.specs.List.{AllByRecursion, list_all}
use Rattle.std.specs.Str.{is_utf8, chars}
use lib.Utf8.{encode}
use Rattle.fp_base.proofs.Lists.{all_append}
use Rattle.fp_host.specs.Outcome.{folder}
use Rattle.fp_name.specs.Hex.{hex}
use Rattle.fp_name.specs.Refs.{Ref}
use Rattle.fp_small.specs.Places.{repo, tmp}
use Rattle.ost_model.specs.Objects.{store}
use Rattle.ost_model.specs.Order.{order}
use Rattle.dep_states.specs.Settled.{Settled}
use Rattle.dep_states.specs.Sound.{Keeps}
use Rattle.fl_samples.specs.Objects as objects
use Rattle.fl_samples.specs.Image.{app, locale, platform, app_row, row_of, ref_rows, app_objects, old_objects, locale_objects, platform_objects, stored_objects, whole_rows, whole_disk, whole_state}
use Rattle.fl_samples.proofs.Below.{below}
use Rattle.fl_samples.proofs.Tidied.{is_known, is_folder, is_ref_file, all_at, all_used, IsUsed, IsKept, HasRefFile, settled_tidy}
use Rattle.fl_samples.proofs.WholeShown.{app_good, locale_good, platform_good, app_there, locale_there, platform_there, whole_shows}

no_work : below tmp whole_rows ≡ ([], folder) ∷ []
no_work = refl

known : list_all (λ r. is_known stored_objects r.0) whole_rows ≡ true
unfolding hex
known = refl

-- ---- the kept commits

app_kept : Keeps whole_disk app objects.app_commit.digest
app_kept = record { row = app_row; shown = app_there; of_row = inl refl }

old_kept : Keeps whole_disk app objects.old_commit.digest
old_kept = record { row = app_row; shown = app_there; of_row = inr (record { commit = objects.old_commit.digest; timestamp = 1 }, refl, refl) }

locale_kept : Keeps whole_disk locale objects.locale_commit.digest
locale_kept = record { row = row_of locale objects.locale_commit 1; shown = locale_there; of_row = inl refl }

platform_kept : Keeps whole_disk platform objects.platform_commit.digest
platform_kept = record { row = row_of platform objects.platform_commit 1; shown = platform_there; of_row = inl refl }

app_at : all_at (order (store repo whole_disk) objects.app_commit.digest) app_objects ≡ true
unfolding hex is_utf8 chars encode
app_at = refl

old_at : all_at (order (store repo whole_disk) objects.old_commit.digest) old_objects ≡ true
unfolding hex is_utf8 chars encode
old_at = refl

locale_at : all_at (order (store repo whole_disk) objects.locale_commit.digest) locale_objects ≡ true
unfolding hex is_utf8 chars encode
locale_at = refl

platform_at : all_at (order (store repo whole_disk) objects.platform_commit.digest) platform_objects ≡ true
unfolding hex is_utf8 chars encode
platform_at = refl

used : AllByRecursion (IsUsed whole_disk) stored_objects
used = all_append (IsUsed whole_disk) app_objects (old_objects ++ (locale_objects ++ platform_objects)) (all_used app_kept app_objects app_at)
    (all_append (IsUsed whole_disk) old_objects (locale_objects ++ platform_objects) (all_used old_kept old_objects old_at)
    (all_append (IsUsed whole_disk) locale_objects platform_objects (all_used locale_kept locale_objects locale_at) (all_used platform_kept platform_objects platform_at)))

-- ---- folders and ref files

abbrev pub kept_commits : List (Ref × List ℕ)
kept_commits = (app, objects.app_commit.digest) ∷ (app, objects.old_commit.digest) ∷ (locale, objects.locale_commit.digest) ∷ (platform, objects.platform_commit.digest) ∷ []

folders : list_all (λ r. is_folder kept_commits r.0) whole_rows ≡ true
unfolding hex
folders = refl

files : list_all (λ r. is_ref_file ref_rows r.0) whole_rows ≡ true
files = refl

app_file : HasRefFile whole_disk app_row
unfolding hex
app_file = refl

locale_file : HasRefFile whole_disk (row_of locale objects.locale_commit 1)
unfolding hex
locale_file = refl

platform_file : HasRefFile whole_disk (row_of platform objects.platform_commit 1)
unfolding hex
platform_file = refl

keeps : AllByRecursion (IsKept whole_disk) kept_commits
keeps = (
  record { digits = refl; kept = app_kept },
  (record { digits = refl; kept = old_kept }, (record { digits = refl; kept = locale_kept }, (record { digits = refl; kept = platform_kept }, tt))),
)

pub whole_settled : Settled whole_disk
whole_settled = settled_tidy {rs = whole_rows} {s = whole_state} {os = stored_objects} {kept = kept_commits} whole_shows (record {
  work = no_work;
  known = known;
  used = used;
  folders = folders;
  keeps = keeps;
  refs = files;
  shown = (record { shown = app_there }, (record { shown = locale_there }, (record { shown = platform_there }, tt)));
  files = (record { good = app_good; holds = app_file }, (record { good = locale_good; holds = locale_file }, (record { good = platform_good; holds = platform_file }, tt)));
  old = λ is. (refl, refl);
})
