-- An install and updates of a runtime from a remote that has all its objects, computed.
use Rattle.std.proofs.Common.{◌≡◌, [], ◌∷◌, true, Some, None, Ok, Err, refl, arith}
use Rattle.std.specs.Prelude.{codes}
use Rattle.std.specs.Str.{is_utf8, chars}
use lib.Utf8.{encode}
use Rattle.sha2.specs.Sha256.{sha256, digest_bytes, hash_after, compress, rounds, schedule, first_words}
use Rattle.fp_keyfile.specs.KeyFile.{file_of, with_pair, with_group, value_at}
use Rattle.fp_keyfile.specs.Lines.{line_says}
use Rattle.fp_base.specs.declared.object.ObjKind.TheVariants as kinds
use Rattle.fp_name.specs.Hex.{hex, unhex, bytes_of, is_digest}
use Rattle.fp_small.specs.declared.op.Op.TheVariants.{Install, Update, Uninstall}
use Rattle.fp_small.specs.declared.refusal.Refusal.TheVariants as refusals
use Rattle.fl_meta.specs.Metadata.{meta_of}
use Rattle.fl_extension.specs.Points.{point_of, points_of}
use Rattle.ost_model.specs.Contents.{file_digest, meta_digest, header}
use Rattle.ost_model.specs.Objects.{Have}
use Rattle.ost_model.specs.Order.{first_fault}
use Rattle.ost_refs.specs.Offers.{offered}
use Rattle.ost_head.specs.Heads.{head_of}
use Rattle.ost_head.specs.declared.head.Head.{Head}
use Rattle.dep_states.specs.Samples.{hub}
use Rattle.dep_states.specs.Deployed.{platform, commit, metadata_bytes}
use Rattle.op_change.specs.Applied.{done_with, op_refusal}
use Rattle.op_change.specs.Brought.{commit_time}
use Rattle.fl_installed.specs.Files.{metadata_file, metadata_digest}
use Rattle.fl_installed.specs.Metadata.{runtime_named, points_in}
use Rattle.fl_installed.specs.Users.{first_user}
use Rattle.fl_plan.specs.Offers.{have_at}
use Rattle.fl_words.specs.declared.command.Change.TheVariants as changes
use Rattle.fl_change.specs.Answer.{op_answer}
use Rattle.fl_change.specs.Turns.{change_over}
use Rattle.fl_change.specs.World.{used_of}
use Rattle.fl_plan.specs.Plans.{plan_of}
use Rattle.fl_plan.specs.Worked.{Says}
use Rattle.fl_plan.proofs.Rows.{runtime_alone, head_refuses}
use Rattle.fl_change.specs.Sample.{holdings, fresh, install, installed, world_since, update}

pub offers : offered holdings hub platform ≡ Ok commit
unfolding file_of line_says with_pair with_group value_at hex unhex bytes_of is_utf8 chars encode
offers = refl

abbrev pub have : Have
have = have_at holdings fresh.have hub

abbrev pub head : Head
head = record { commit = commit; timestamp = 7; metadata = metadata_bytes }

head_is : head_of have platform commit None ≡ Ok head
unfolding hex file_digest meta_digest header sha256 digest_bytes hash_after compress rounds schedule first_words file_of line_says with_pair with_group meta_of is_utf8 chars encode
head_is = refl

head_same : head_of have platform commit (Some 7) ≡ Ok head
unfolding hex file_digest meta_digest header sha256 digest_bytes hash_after compress rounds schedule first_words file_of line_says with_pair with_group meta_of is_utf8 chars encode
head_same = refl

head_old : head_of have platform commit (Some 8) ≡ Err (refusals.Older platform 8 7)
unfolding hex file_digest meta_digest header sha256 digest_bytes hash_after compress rounds schedule first_words file_of line_says with_pair with_group meta_of is_utf8 chars encode
head_old = refl

no_fault : first_fault have commit ≡ None
unfolding hex file_digest meta_digest header sha256 digest_bytes hash_after compress rounds schedule first_words is_utf8 chars encode
no_fault = refl

time_is : commit_time have commit ≡ 7
unfolding hex is_utf8 chars encode
time_is = refl

says : Says platform head None []
unfolding runtime_named points_in points_of point_of meta_of file_of line_says with_pair with_group is_utf8 chars encode
says = record { runtime_is = refl; points_are = refl }

pub plan : plan_of holdings fresh.have fresh.state hub platform ≡ Ok (Install platform (codes "hub") commit ∷ [])
plan = runtime_alone holdings fresh.have fresh.state hub platform commit head (record { heads = record { offers = offers; heads = head_is }; moves = refl }) says (omega arith)

pub not_refused : op_refusal have (Install platform (codes "hub") commit) ≡ None
not_refused = rw (head_is, no_fault) refl

pub is_done : done_with have (Install platform (codes "hub") commit) ≡ install
is_done = rw time_is refl

-- ---- where it is deployed at another commit

pub update_plan : plan_of holdings (world_since 7).have (world_since 7).state hub platform ≡ Ok (Update platform (codes "hub") commit ∷ [])
update_plan = runtime_alone holdings (world_since 7).have (world_since 7).state hub platform commit head (record { heads = record { offers = offers; heads = head_same }; moves = refl }) says (omega arith)

pub update_not_refused : op_refusal have (Update platform (codes "hub") commit) ≡ None
update_not_refused = rw (head_is, no_fault) refl

pub update_is_done : done_with have (Update platform (codes "hub") commit) ≡ update
update_is_done = rw time_is refl

pub older_plan : plan_of holdings (world_since 8).have (world_since 8).state hub platform ≡ Err (refusals.Older platform 8 7)
older_plan = head_refuses holdings (world_since 8).have (world_since 8).state hub platform commit (refusals.Older platform 8 7) offers refl head_old

-- ---- where it is installed

no_user : first_user installed.have platform installed.state.refs ≡ None
unfolding runtime_named metadata_file metadata_digest used_of hex meta_digest sha256 digest_bytes hash_after compress rounds schedule first_words file_of line_says with_pair with_group meta_of is_utf8 chars encode
no_user = refl

pub goes : change_over (changes.Uninstall platform) holdings installed ≡ op_answer (Uninstall platform)
goes = rw no_user refl

-- ---- the object of its commit

pub commit_good : is_digest commit ≡ true
unfolding hex unhex bytes_of is_utf8 chars encode
commit_good = refl

pub installed_has : installed.have commit kinds.Commit ≡ None → ⊥
unfolding used_of hex is_utf8 chars encode
installed_has none = cc none
