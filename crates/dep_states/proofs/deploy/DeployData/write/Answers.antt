use Rattle.std.proofs.Common.{◌∙◌, Err, ap}
use Rattle.gv_encode.specs.declared.error.EncodeError.{EncodeError}
use Rattle.dep_states.proofs.DeployWrites.{written_says, written_small, written_fits, written_short}
use Rattle.dep_states.proofs.deploy.DeployData.write.Goals as goal

pub returns-in-Ok-clause-says : goal.returns-in-Ok-clause-says
returns-in-Ok-clause-says c =
    written_says c.args.self.now c.in_ok-of.ensures c.in_ok-value.ensures.value
    (record { origin = c.in_ok-value.ensures.origin; commit = c.in_ok-value.ensures.commit; previous = c.in_ok-value.ensures.previous; moves = c.requires.moves; time = c.in_ok-value.ensures.time }) c.in-Ok.bytes c.in-Ok.ensures.spelled

pub returns-in-Ok-clause-short : goal.returns-in-Ok-clause-short
returns-in-Ok-clause-short c =
    written_small c.args.self.now c.in_ok-of.ensures c.in_ok-value.ensures.value
    (record { origin = c.in_ok-value.ensures.origin; commit = c.in_ok-value.ensures.commit; previous = c.in_ok-value.ensures.previous; moves = c.requires.moves; time = c.in_ok-value.ensures.time }) c.in-Ok.bytes c.in-Ok.ensures.spelled

pub unreachable-requires : goal.unreachable-requires
unreachable-requires c =
    written_fits c.args.self.now c.in_ok-of.ensures c.in_ok-value.ensures.value
    (record { origin = c.in_ok-value.ensures.origin; commit = c.in_ok-value.ensures.commit; previous = c.in_ok-value.ensures.previous; moves = c.requires.moves; time = c.in_ok-value.ensures.time }) (c.encode.ensures.not_of_type.0 (c.in-Err-NotOfType.is ∙ ap (λ (e : EncodeError). Err e) c.in-Err-NotOfType.field-0-is))

pub unreachable-requires-in-Err-TooLong : goal.unreachable-requires-in-Err-TooLong
unreachable-requires-in-Err-TooLong c =
    written_short c.args.self.now c.in_ok-of.ensures c.in_ok-value.ensures.value
    (record { origin = c.in_ok-value.ensures.origin; commit = c.in_ok-value.ensures.commit; previous = c.in_ok-value.ensures.previous; moves = c.requires.moves; time = c.in_ok-value.ensures.time }) (c.encode.ensures.too_long (c.in-Err-TooLong.is ∙ ap (λ (e : EncodeError). Err e) c.in-Err-TooLong.field-0-is)).1
