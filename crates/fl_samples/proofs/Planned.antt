-- What an update of the small installation is: by computing.
use Rattle.std.proofs.Common.{◌≡◌, [], ◌∷◌, Ok, refl}
use Rattle.std.specs.Str.{is_utf8, chars}
use lib.Utf8.{encode}
use Rattle.fp_keyfile.specs.KeyFile.{file_of, value_at, with_group, with_pair}
use Rattle.fp_keyfile.specs.Lines.{line_says}
use Rattle.fp_name.specs.Grammar.{is_id, is_arch, is_branch}
use Rattle.fp_name.specs.Hex.{hex, unhex, bytes_of}
use Rattle.fp_name.specs.Refs.{ref_of}
use Rattle.fp_small.specs.Places.{repo}
use Rattle.fl_meta.specs.Metadata.{meta_of, runtime_in, command_in, extensions_of}
use Rattle.ost_model.specs.Contents.{file_digest, meta_digest, link_digest, header, link_header}
use Rattle.ost_model.specs.Objects.{store}
use Rattle.sha2.specs.Sha256.{sha256, digest_bytes, hash_after, compress, rounds, schedule, first_words}
use Rattle.fl_extension.specs.Points.{candidates_of, point_of, points_of}
use Rattle.fl_installed.specs.Metadata.{meta_said, runtime_named, points_in}
use Rattle.fl_plan.specs.Extensions.{extension_at, with_extensions}
use Rattle.fl_plan.specs.Offers.{chosen}
use Rattle.fl_plan.specs.Plans.{extended, planned, target_of, planned_at, plan_of}
use Rattle.fl_plan.specs.Runtimes.{runtime_for}
use Rattle.fl_samples.specs.Image.{app, locale, platform, hub, whole_disk, whole_state}
use Rattle.fl_samples.specs.Operations.{onward}
use Rattle.fl_samples.specs.Remote.{holdings}

pub app_planned : plan_of holdings (store repo whole_disk) whole_state hub app ≡ Ok (onward ∷ [])
unfolding plan_of planned_at target_of planned extended with_extensions extension_at chosen runtime_for meta_said runtime_named points_in candidates_of point_of points_of meta_of runtime_in command_in extensions_of ref_of is_id is_arch is_branch value_at file_of line_says with_pair with_group hex unhex bytes_of file_digest meta_digest link_digest header link_header sha256 digest_bytes hash_after compress rounds schedule first_words is_utf8 chars encode
app_planned = refl

pub locale_planned : plan_of holdings (store repo whole_disk) whole_state hub locale ≡ Ok []
unfolding plan_of planned_at target_of planned extended with_extensions extension_at chosen runtime_for meta_said runtime_named points_in candidates_of point_of points_of meta_of runtime_in command_in extensions_of ref_of is_id is_arch is_branch value_at file_of line_says with_pair with_group hex unhex bytes_of file_digest meta_digest link_digest header link_header sha256 digest_bytes hash_after compress rounds schedule first_words is_utf8 chars encode
locale_planned = refl

pub platform_planned : plan_of holdings (store repo whole_disk) whole_state hub platform ≡ Ok []
unfolding plan_of planned_at target_of planned extended with_extensions extension_at chosen runtime_for meta_said runtime_named points_in candidates_of point_of points_of meta_of runtime_in command_in extensions_of ref_of is_id is_arch is_branch value_at file_of line_says with_pair with_group hex unhex bytes_of file_digest meta_digest link_digest header link_header sha256 digest_bytes hash_after compress rounds schedule first_words is_utf8 chars encode
platform_planned = refl
