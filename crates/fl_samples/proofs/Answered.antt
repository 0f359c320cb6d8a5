-- What an update of the application answers.
use Rattle.std.proofs.Common.{◌≡◌, inl, true, List, [], ◌∷◌, Option, Some, None, Result, Ok, refl, ◌∙◌, ap}
use Rattle.std.specs.Str.{is_utf8, chars}
use Rattle.std.proofs.lemmas.Bool.{and_from}
use lib.Utf8.{encode}
use Rattle.fp_host.specs.Remote.{Holdings}
use Rattle.fp_keyfile.specs.KeyFile.{file_of, value_at, with_group, with_pair}
use Rattle.fp_keyfile.specs.Lines.{line_says}
use Rattle.fp_name.specs.Grammar.{is_id, is_arch, is_branch}
use Rattle.fp_name.specs.Hex.{hex, unhex, bytes_of}
use Rattle.fp_name.specs.Refs.{is_ref, ref_of}
use Rattle.fp_small.specs.declared.op.Op.{Op}
use Rattle.fp_small.specs.declared.refusal.Refusal.{Refusal}
use Rattle.fl_meta.specs.Metadata.{meta_of, runtime_in, command_in, extensions_of}
use Rattle.ost_model.specs.Contents.{file_digest, meta_digest, link_digest, header, link_header}
use Rattle.sha2.specs.Sha256.{sha256, digest_bytes, hash_after, compress, rounds, schedule, first_words}
use Rattle.fl_extension.specs.Points.{candidates_of, point_of, points_of}
use Rattle.fl_installed.specs.Metadata.{meta_said, runtime_named, points_in}
use Rattle.fl_plan.specs.Extensions.{extension_at, with_extensions}
use Rattle.fl_plan.specs.Offers.{chosen}
use Rattle.fl_plan.specs.Plans.{extended, planned, target_of, planned_at, plan_of}
use Rattle.fl_plan.specs.Runtimes.{runtime_for}
use Rattle.op_change.specs.Applied.{op_refusal, done_with}
use Rattle.fl_words.specs.Forms.{command_of}
use Rattle.fl_words.specs.declared.command.Change.TheVariants.{UpdateOne}
use Rattle.fl_words.specs.declared.command.Command.{Command}
use Rattle.fl_words.specs.declared.command.Command.TheVariants.{Change as Changing}
use Rattle.fl_words.proofs.ReadBack.{written}
use Rattle.fl_change.specs.World.{used_of, supplied, worlds_after}
use Rattle.fl_change.specs.Answer.{Answer, nothing, done_answer, unless, followed, each_over, ops_of}
use Rattle.fl_change.specs.Refs.{op_over, planned as ops_planned, update_over}
use Rattle.fl_change.specs.Turns.{change_over, changing}
use Rattle.fl_top.specs.Answer.{answer, answer_to, Given, IsOver}
use Rattle.fl_samples.specs.Image.{app, hub, whole_disk, whole_state}
use Rattle.fl_samples.specs.Operations.{onward}
use Rattle.fl_samples.specs.Remote.{holdings}
use Rattle.fl_samples.specs.Update.{update_words, whole_world, moved_on}
use Rattle.fl_samples.proofs.WholeShown.{app_good, whole_shows}

plan_is : plan_of holdings whole_world.have whole_state hub app ≡ Ok (onward ∷ [])
unfolding used_of plan_of planned_at target_of planned extended with_extensions extension_at chosen runtime_for meta_said runtime_named points_in candidates_of point_of points_of meta_of runtime_in command_in extensions_of ref_of is_id is_arch is_branch value_at file_of line_says with_pair with_group hex unhex bytes_of file_digest meta_digest link_digest header link_header sha256 digest_bytes hash_after compress rounds schedule first_words is_utf8 chars encode
plan_is = refl

not_refused : op_refusal (supplied holdings whole_world onward) onward ≡ None
unfolding used_of meta_of runtime_in ref_of is_id is_arch is_branch value_at file_of line_says with_pair with_group hex unhex bytes_of file_digest meta_digest link_digest header link_header sha256 digest_bytes hash_after compress rounds schedule first_words is_utf8 chars encode
not_refused = refl

time_is : done_with (supplied holdings whole_world onward) onward ≡ moved_on
unfolding used_of hex is_utf8 chars encode
time_is = refl

op_is : op_over onward holdings whole_world ≡ done_answer moved_on
op_is = (λ i. unless (not_refused i) (done_answer (time_is i)))

-- the operations in turn, and then nothing
after_op : Answer → Answer
after_op a = followed a (each_over op_over [] holdings (worlds_after holdings whole_world (ops_of a)))

update_is : update_over app holdings whole_world ≡ done_answer moved_on
unfolding after_op
update_is = ap (λ (r : Result (List Op) Refusal). ops_planned r holdings whole_world) plan_is ∙ ap after_op op_is

-- the one change, and then nothing
after_change : Answer → Answer
after_change a = followed nothing (followed a (each_over change_over [] holdings (worlds_after holdings whole_world (ops_of a))))

changing_is : changing (UpdateOne app ∷ []) holdings whole_world ≡ done_answer moved_on
unfolding after_change
changing_is = ap after_change update_is

command_is : command_of update_words ≡ Some (Changing (UpdateOne app))
command_is = written (Changing (UpdateOne app)) (and_from (is_ref app) true app_good refl)

pub answered : (given : Given) → given.held ≡ holdings → answer update_words given (Ok whole_world) ≡ done_answer moved_on
answered given held =
    ap (λ (c : Option Command). answer_to update_words c given (Ok whole_world)) command_is
    ∙ ap (λ (h : Holdings). changing (UpdateOne app ∷ []) h whole_world) held
    ∙ changing_is

pub counts : (given : Given) → IsOver (answer update_words given) whole_disk (Ok whole_world)
counts given = inl (whole_shows, refl)
