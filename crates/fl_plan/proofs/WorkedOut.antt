-- The head of a commit that a store has, and plans by it, computed.
use Rattle.std.proofs.Common.{◌≡◌, [], ◌∷◌, Some, None, Ok, Err, refl, arith}
use Rattle.std.specs.Prelude.{codes}
use Rattle.std.specs.Str.{is_utf8, chars}
use lib.Utf8.{encode}
use Rattle.fp_keyfile.specs.KeyFile.{file_of, with_pair, with_group, value_at}
use Rattle.fp_keyfile.specs.Lines.{line_says}
use Rattle.fp_name.specs.Hex.{hex, unhex, bytes_of}
use Rattle.fp_small.specs.declared.op.Op.TheVariants.{Install, Update}
use Rattle.fp_small.specs.declared.refusal.Refusal.TheVariants as refusals
use Rattle.fl_meta.specs.Metadata.{meta_of}
use Rattle.fl_extension.specs.Points.{point_of, points_of}
use Rattle.ost_model.specs.Contents.{file_digest, meta_digest, header}
use Rattle.ost_model.specs.Objects.{Have}
use Rattle.sha2.specs.Sha256.{sha256, digest_bytes, hash_after, compress, rounds, schedule, first_words}
use Rattle.ost_refs.specs.Offers.{offered}
use Rattle.ost_head.specs.Heads.{head_of}
use Rattle.ost_head.specs.declared.head.Head.{Head}
use Rattle.dep_states.specs.Samples.{hub}
use Rattle.dep_states.specs.Deployed.{platform, commit, metadata_bytes, deployed_state}
use Rattle.fl_plan.specs.Offers.{have_at}
use Rattle.fl_installed.specs.Metadata.{runtime_named, points_in}
use Rattle.fl_plan.specs.Plans.{plan_of}
use Rattle.fl_plan.specs.Worked.{Says}
use Rattle.fl_plan.specs.Offered.{stored, holdings, row_since, with_rows}
use Rattle.fl_plan.proofs.Rows.{runtime_alone, head_refuses, up_to_date}

pub offers : offered holdings hub platform ≡ Ok commit
unfolding file_of line_says with_pair with_group value_at hex unhex bytes_of is_utf8 chars encode
offers = refl

abbrev pub have : Have
have = have_at holdings stored hub

abbrev pub head : Head
head = record { commit = commit; timestamp = 7; metadata = metadata_bytes }

head_new : head_of have platform commit None ≡ Ok head
unfolding hex file_digest meta_digest header sha256 digest_bytes hash_after compress rounds schedule first_words file_of line_says with_pair with_group meta_of is_utf8 chars encode
head_new = refl

head_same : head_of have platform commit (Some 7) ≡ Ok head
unfolding hex file_digest meta_digest header sha256 digest_bytes hash_after compress rounds schedule first_words file_of line_says with_pair with_group meta_of is_utf8 chars encode
head_same = refl

head_old : head_of have platform commit (Some 8) ≡ Err (refusals.Older platform 8 7)
unfolding hex file_digest meta_digest header sha256 digest_bytes hash_after compress rounds schedule first_words file_of line_says with_pair with_group meta_of is_utf8 chars encode
head_old = refl

says : Says platform head None []
unfolding runtime_named points_in points_of point_of meta_of file_of line_says with_pair with_group is_utf8 chars encode
says = record { runtime_is = refl; points_are = refl }

pub installs : plan_of holdings stored (with_rows []) hub platform ≡ Ok (Install platform (codes "hub") commit ∷ [])
installs = runtime_alone holdings stored (with_rows []) hub platform commit head (record { heads = record { offers = offers; heads = head_new }; moves = refl }) says (omega arith)

pub updates : plan_of holdings stored (with_rows (row_since 7 ∷ [])) hub platform ≡ Ok (Update platform (codes "hub") commit ∷ [])
updates = runtime_alone holdings stored (with_rows (row_since 7 ∷ [])) hub platform commit head (record { heads = record { offers = offers; heads = head_same }; moves = refl }) says (omega arith)

pub refuses_older : plan_of holdings stored (with_rows (row_since 8 ∷ [])) hub platform ≡ Err (refusals.Older platform 8 7)
refuses_older = head_refuses holdings stored (with_rows (row_since 8 ∷ [])) hub platform commit (refusals.Older platform 8 7) offers refl head_old

pub stays : plan_of holdings stored deployed_state hub platform ≡ Ok []
stays = up_to_date holdings stored deployed_state hub platform commit offers refl
