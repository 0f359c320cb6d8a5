-- The application's commit of before stands in the small installation. Each step is closed by computing.
use Rattle.std.proofs.Common.{◌≡◌, [], true, None, refl}
use Rattle.std.specs.List.{AllByRecursion}
use Rattle.std.specs.Str.{is_utf8, chars}
use lib.Utf8.{encode}
use Rattle.fp_keyfile.specs.KeyFile.{file_of, value_at, with_pair, with_group}
use Rattle.fp_keyfile.specs.Lines.{line_says}
use Rattle.fp_name.specs.Grammar.{is_id, is_arch, is_branch}
use Rattle.fp_name.specs.Hex.{hex}
use Rattle.fp_name.specs.Refs.{ref_of}
use Rattle.fp_small.specs.Places.{repo}
use Rattle.fl_meta.specs.Metadata.{meta_of, runtime_in}
use Rattle.ost_model.specs.Contents.{file_digest, meta_digest, link_digest, header, link_header}
use Rattle.ost_model.specs.Look.{look, nothing}
use Rattle.ost_model.specs.Objects.{Have, store}
use Rattle.ost_model.specs.Order.{first_fault}
use Rattle.ost_model.specs.Standing.{Stands, expected, is_metadata, deploy_name, metadata_name}
use Rattle.sha2.specs.Sha256.{sha256, digest_bytes, hash_after, compress, rounds, schedule, first_words}
use Rattle.dep_states.specs.Names.{text_dir}
use Rattle.dep_states.specs.Sound.{reads_as}
use Rattle.fl_samples.specs.Objects as objects
use Rattle.fl_samples.specs.Image.{app, whole_rows, whole_disk}
use Rattle.fl_samples.proofs.Below.{below, without}
use Rattle.fl_samples.proofs.Tables.{Table, found_in, names_in, entries, is_closed, expected_rows, IsLaidOut, stands_laid}
use Rattle.fl_samples.proofs.WholeTables.{app_table}

abbrev pub have : Have
have = store repo whole_disk

abbrev pub table : Table
table = app_table objects.old_root objects.old_files objects.old_program

root_is : look have objects.old_commit.digest [] ≡ found_in table []
unfolding hex is_utf8 chars encode
root_is = refl

closed : is_closed table ≡ true
closed = refl

names_are : AllByRecursion (λ t. names_in t.0 table ≡ entries have t.1) table
unfolding hex is_utf8 chars encode
names_are = (refl, (refl, (refl, (refl, (refl, (refl, (refl, (refl, (refl, (refl, (refl, (refl, (refl, (refl, tt))))))))))))))

rows_are : without deploy_name (below (text_dir app objects.old_text) whole_rows) ≡ expected_rows whole_disk table
unfolding hex
rows_are = refl

whole : first_fault have objects.old_commit.digest ≡ None
unfolding hex file_digest meta_digest link_digest header link_header sha256 digest_bytes hash_after compress rounds schedule first_words is_utf8 chars encode
whole = refl

described : is_metadata (reads_as app.kind) (expected repo whole_disk (found_in table metadata_name)) ≡ true
unfolding reads_as meta_of runtime_in value_at ref_of is_id is_arch is_branch file_of line_says with_pair with_group hex is_utf8 chars encode
described = refl

no_deploy : found_in table deploy_name ≡ nothing
no_deploy = refl

laid : IsLaidOut (reads_as app.kind) whole_rows objects.old_commit.digest (text_dir app objects.old_text) table
laid = record {
  table = record { root = root_is; closed = closed; rows = names_are };
  rows = rows_are;
  whole = whole;
  described = described;
  no_deploy = no_deploy;
}

pub old_stands : Stands (reads_as app.kind) repo whole_disk objects.old_commit.digest (text_dir app objects.old_text)
old_stands = stands_laid laid
