-- The worked installation. All is closed by computing.
use Rattle.std.proofs.Common.{◌≡◌, [], map, Some, None, Ok, Err, refl}
use Rattle.std.specs.Str.{is_utf8, chars}
use lib.Utf8.{encode}
use Rattle.sha2.specs.Sha256.{sha256, digest_bytes, hash_after, compress, rounds, schedule, first_words}
use Rattle.ost_model.specs.Contents.{meta_digest}
use Rattle.fl_installed.specs.Files.{metadata_digest, metadata_file}
use Rattle.fp_keyfile.specs.KeyFile.{file_of, value_at, with_group, with_pair}
use Rattle.fp_keyfile.specs.Lines.{line_says}
use Rattle.fp_name.specs.Grammar.{is_id, is_arch, is_branch}
use Rattle.fp_name.specs.Refs.{ref_of}
use Rattle.fl_meta.specs.Metadata.{meta_of, extensions_of, command_in, runtime_in as runtime_said}
use Rattle.fl_meta.specs.Mentions.{file_mentions, group_mentions, pair_mentions}
use Rattle.fl_extension.specs.Points.{points_of, point_of, candidates_of}
use Rattle.fl_installed.specs.Metadata.{meta_said, runtime_named, points_in}
use Rattle.fl_installed.specs.Users.{first_user, runtime_at, installed_metas, installed_points}
use Rattle.fp_base.specs.declared.meta_rule.MetaRule.TheVariants as rules
use Rattle.fl_installed.specs.Deployed.{stored_files}
use Rattle.fl_installed.specs.Described.{broken, info_in}
use Rattle.fl_installed.specs.Sample as sample

pub first_is : metadata_file sample.have sample.first_commit ≡ Some sample.first_metadata
unfolding metadata_file metadata_digest meta_digest sha256 digest_bytes hash_after compress rounds schedule first_words is_utf8 chars encode
first_is = refl

pub second_is : metadata_file sample.have sample.second_commit ≡ Some sample.second_metadata
unfolding metadata_file metadata_digest meta_digest sha256 digest_bytes hash_after compress rounds schedule first_words is_utf8 chars encode
second_is = refl

pub none_without_tree : metadata_file sample.without_tree sample.first_commit ≡ None
unfolding metadata_file metadata_digest meta_digest sha256 digest_bytes hash_after compress rounds schedule first_words is_utf8 chars encode
none_without_tree = refl

pub none_absent : metadata_file sample.have [] ≡ None
unfolding metadata_file metadata_digest meta_digest sha256 digest_bytes hash_after compress rounds schedule first_words is_utf8 chars encode
none_absent = refl

pub base_user : first_user sample.have sample.base sample.rows ≡ Some sample.first
unfolding metadata_file metadata_digest meta_digest sha256 digest_bytes hash_after compress rounds schedule first_words is_utf8 chars encode runtime_named meta_of runtime_said file_of line_says with_pair with_group value_at ref_of is_id is_arch is_branch
base_user = refl

pub platform_user : first_user sample.have sample.platform sample.rows ≡ Some sample.second
unfolding metadata_file metadata_digest meta_digest sha256 digest_bytes hash_after compress rounds schedule first_words is_utf8 chars encode runtime_named meta_of runtime_said file_of line_says with_pair with_group value_at ref_of is_id is_arch is_branch
platform_user = refl

pub no_user : first_user sample.have sample.other sample.rows ≡ None
unfolding metadata_file metadata_digest meta_digest sha256 digest_bytes hash_after compress rounds schedule first_words is_utf8 chars encode runtime_named meta_of runtime_said file_of line_says with_pair with_group value_at ref_of is_id is_arch is_branch
no_user = refl

pub runtime_none : runtime_at sample.have sample.other sample.second_commit ≡ None
unfolding metadata_file metadata_digest meta_digest sha256 digest_bytes hash_after compress rounds schedule first_words is_utf8 chars encode runtime_named meta_of runtime_said file_of line_says with_pair with_group value_at ref_of is_id is_arch is_branch
runtime_none = refl

pub metas_are : map sample.runtime_of (installed_metas sample.have sample.rows) ≡ sample.runtimes
unfolding metadata_file metadata_digest meta_digest sha256 digest_bytes hash_after compress rounds schedule first_words is_utf8 chars encode runtime_named meta_of runtime_said file_of line_says with_pair with_group value_at ref_of is_id is_arch is_branch meta_said extensions_of command_in file_mentions group_mentions pair_mentions
metas_are = refl

pub points_are : map sample.names_of (installed_points sample.have sample.rows) ≡ sample.points
unfolding metadata_file metadata_digest meta_digest sha256 digest_bytes hash_after compress rounds schedule first_words is_utf8 chars encode points_in points_of point_of candidates_of file_of line_says with_pair with_group is_id is_arch is_branch
points_are = refl

-- ---- what is told of a commit

pub info_told : info_in (stored_files sample.have) sample.second sample.second_commit ≡ Ok (record { runtime = Some sample.platform; extensions = sample.names })
unfolding metadata_file metadata_digest meta_digest sha256 digest_bytes hash_after compress rounds schedule first_words is_utf8 chars encode meta_of runtime_said extensions_of command_in file_of line_says with_pair with_group value_at ref_of is_id is_arch is_branch
info_told = refl

pub info_absent : info_in (stored_files sample.have) sample.other [] ≡ Err (broken sample.other rules.Absent)
unfolding metadata_file metadata_digest meta_digest sha256 digest_bytes hash_after compress rounds schedule first_words is_utf8 chars encode
info_absent = refl

pub info_of_kind : info_in (stored_files sample.have) sample.other sample.second_commit ≡ Err (broken sample.other rules.Group)
unfolding metadata_file metadata_digest meta_digest sha256 digest_bytes hash_after compress rounds schedule first_words is_utf8 chars encode meta_of file_of line_says with_pair with_group
info_of_kind = refl
