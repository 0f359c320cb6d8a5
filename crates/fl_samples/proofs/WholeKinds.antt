-- Each row of the small installation may stand where it stands: by computing.
use Rattle.std.proofs.Common.{◌≡◌, true, refl}
use Rattle.std.specs.List.{list_all}
use Rattle.std.specs.Str.{is_utf8, chars}
use lib.Utf8.{encode}
use Rattle.fp_name.specs.Grammar.{is_id, is_arch, is_branch, is_remote_name}
use Rattle.fp_name.specs.Hex.{hex, unhex, bytes_of}
use Rattle.ost_model.specs.Contents.{file_digest, meta_digest, link_digest, header, link_header}
use Rattle.sha2.specs.Sha256.{sha256, digest_bytes, hash_after, compress, rounds, schedule, first_words}
use Rattle.fl_samples.specs.Image.{stored_objects, whole_rows}
use Rattle.fl_samples.proofs.Placing.{may_stand}

pub all_stand : list_all (may_stand stored_objects) whole_rows ≡ true
unfolding is_id is_arch is_branch is_remote_name unhex bytes_of hex file_digest meta_digest link_digest header link_header sha256 digest_bytes hash_after compress rounds schedule first_words is_utf8 chars encode
all_stand = refl
