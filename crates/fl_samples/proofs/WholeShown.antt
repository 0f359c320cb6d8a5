-- The small installation shows its state, and is sound.
use Rattle.std.proofs.Common.{◌≡◌, ℕ, List, [], ◌∷◌, true, Some, refl, sym, subst}
use Rattle.std.specs.List.{list_all, AllByRecursion}
use Rattle.std.specs.Str.{is_utf8, chars}
use lib.Utf8.{encode}
use Rattle.fp_base.proofs.Options.{none_some}
use Rattle.fp_keyfile.specs.KeyFile.{file_of, with_pair, with_group, keys_at}
use Rattle.fp_keyfile.specs.Lines.{line_says}
use Rattle.fp_name.specs.Grammar.{is_id, is_arch, is_branch, is_remote_name, is_url}
use Rattle.fp_name.specs.Hex.{hex, unhex, bytes_of}
use Rattle.fp_name.specs.Pins.{is_pin}
use Rattle.fp_name.specs.Refs.{Ref, is_ref}
use Rattle.fp_small.specs.Config.{config_of, is_config, remote_of}
use Rattle.fp_small.specs.Places.{repo}
use Rattle.fp_small.specs.declared.state.Previous.{Previous}
use Rattle.ost_model.specs.Standing.{Stands}
use Rattle.dep_states.specs.Deploy.{deploy_of}
use Rattle.dep_states.specs.Names.{commit_dir, text_dir, deploy}
use Rattle.dep_states.specs.Shown.{there, deploy_at, override_at, config_at, settings_seen, ref_seen, override_seen, setup_of, Shows}
use Rattle.dep_states.specs.Sound.{reads_as, Keeps, Sound}
use Rattle.dep_states.specs.Zones.{IsFileOrGone}
use Rattle.dep_states.proofs.Single.{some_is}
use Rattle.fl_samples.specs.Objects as objects
use Rattle.fl_samples.specs.Objects.{Stored}
use Rattle.fl_samples.specs.Image.{app, locale, platform, app_row, row_of, ref_rows, layer, stored_objects, whole_rows, whole_disk, whole_state}
use Rattle.fl_samples.proofs.Seen.{is_active, is_layer, shows_listed, KeepsWith, each_kept}
use Rattle.fl_samples.proofs.Placing.{all_allowed}
use Rattle.fl_samples.proofs.WholeApp.{app_stands}
use Rattle.fl_samples.proofs.WholeKinds.{all_stand}
use Rattle.fl_samples.proofs.WholeLocale.{locale_stands}
use Rattle.fl_samples.proofs.WholeOld.{old_stands}
use Rattle.fl_samples.proofs.WholePlatform.{platform_stands}

-- ---- what computes

settings_there : settings_seen whole_disk ≡ there (setup_of whole_state)
unfolding config_at config_of is_config remote_of file_of line_says with_pair with_group keys_at is_remote_name is_url is_pin is_id is_utf8 chars encode
settings_there = refl

pub app_good : is_ref app ≡ true
unfolding is_id is_arch is_branch
app_good = refl

pub locale_good : is_ref locale ≡ true
unfolding is_id is_arch is_branch
locale_good = refl

pub platform_good : is_ref platform ≡ true
unfolding is_id is_arch is_branch
platform_good = refl

pub app_there : ref_seen whole_disk app ≡ there app_row
unfolding deploy_at deploy_of hex unhex bytes_of is_remote_name is_id is_arch is_branch is_utf8 chars encode
app_there = refl

pub locale_there : ref_seen whole_disk locale ≡ there (row_of locale objects.locale_commit 1)
unfolding deploy_at deploy_of hex unhex bytes_of is_remote_name is_id is_arch is_branch is_utf8 chars encode
locale_there = refl

pub platform_there : ref_seen whole_disk platform ≡ there (row_of platform objects.platform_commit 1)
unfolding deploy_at deploy_of hex unhex bytes_of is_remote_name is_id is_arch is_branch is_utf8 chars encode
platform_there = refl

layer_there : override_seen whole_disk layer.name ≡ there layer
unfolding override_at file_of line_says with_pair with_group is_utf8 chars encode
layer_there = refl

actives : list_all (λ r. is_active ref_rows r.0) whole_rows ≡ true
actives = refl

layers : list_all (λ r. is_layer (layer ∷ []) r.0) whole_rows ≡ true
layers = refl

-- ---- the state

pub whole_shows : Shows whole_disk whole_state
whole_shows = shows_listed {rs = whole_rows} {s = whole_state} (record {
  settings = settings_there;
  refs = (record { good = app_good; is = app_there }, (record { good = locale_good; is = locale_there }, (record { good = platform_good; is = platform_there }, tt)));
  actives = actives;
  refs_ascend = refl;
  overrides = (record { is = layer_there }, tt);
  layers = layers;
  overrides_ascend = refl;
})

-- ---- the commits

pub record IsWhole (name : Ref) (commit : List ℕ) : Type 0 where
  pub stands : Stands (reads_as name.kind) repo whole_disk commit (commit_dir name commit)
  pub recorded : IsFileOrGone (whole_disk (deploy (commit_dir name commit)))

-- by the digits of its digest
stands_at : (name : Ref) (o : Stored) (text : List ℕ) → hex o.digest ≡ text → Stands (reads_as name.kind) repo whole_disk o.digest (text_dir name text) → IsFileOrGone (whole_disk (deploy (text_dir name text))) → IsWhole name o.digest
stands_at name o text same stands recorded = record {
  stands = subst (λ t. Stands (reads_as name.kind) repo whole_disk o.digest (text_dir name t)) (sym same) stands;
  recorded = subst (λ t. IsFileOrGone (whole_disk (deploy (text_dir name t)))) (sym same) recorded;
}

app_digits : hex objects.app_commit.digest ≡ objects.app_text
unfolding hex
app_digits = refl

old_digits : hex objects.old_commit.digest ≡ objects.old_text
unfolding hex
old_digits = refl

locale_digits : hex objects.locale_commit.digest ≡ objects.locale_text
unfolding hex
locale_digits = refl

platform_digits : hex objects.platform_commit.digest ≡ objects.platform_text
unfolding hex
platform_digits = refl

old_whole : IsWhole app objects.old_commit.digest
old_whole = stands_at app objects.old_commit objects.old_text old_digits old_stands tt

before_app : (p : Previous) → app_row.previous ≡ Some p → IsWhole app p.commit
before_app p e = subst (λ (q : Previous). IsWhole app q.commit) (some_is e) old_whole

each_whole : AllByRecursion (KeepsWith IsWhole) ref_rows
each_whole = (
  record { good = app_good; now = stands_at app objects.app_commit objects.app_text app_digits app_stands tt; before = before_app },
  (
    record { good = locale_good; now = stands_at locale objects.locale_commit objects.locale_text locale_digits locale_stands tt; before = λ p e. absurd (none_some e) },
    (
      record { good = platform_good; now = stands_at platform objects.platform_commit objects.platform_text platform_digits platform_stands tt; before = λ p e. absurd (none_some e) },
      tt,
    ),
  ),
)

kept_whole : (name : Ref) (commit : List ℕ) → Keeps whole_disk name commit → IsWhole name commit
kept_whole name commit k = each_kept IsWhole whole_shows each_whole name commit k

pub whole_sound : Sound whole_disk
whole_sound = record {
  kinds = all_allowed stored_objects whole_rows all_stand;
  commits = λ name commit k. (kept_whole name commit k).stands;
  deploys = λ name commit k. (kept_whole name commit k).recorded;
}
