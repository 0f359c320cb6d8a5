-- The answer of an exercise.
use Rattle.std.specs.Prelude.{ℕ, List, Bool, count_by}
use Rattle.fp_host.specs.Remote.{Holdings}
use Rattle.fp_name.specs.Pins.{same_kind}
use Rattle.fp_name.specs.declared.kind.RefKind.{RefKind}
use Rattle.fp_name.specs.declared.kind.RefKind.TheVariants.{App, Runtime}
use Rattle.fp_small.specs.declared.state.RefRow.{RefRow}
use Rattle.fp_small.specs.declared.state.State.{State}
use Rattle.fl_lines.specs.Lines.{exercise_text}
use Rattle.fl_gen.specs.Exercise.{exercise_changes}
use Rattle.fl_change.specs.Answer.{Answer, ops_of, text_answer, then_over}
use Rattle.fl_change.specs.Turns.{changing}
use Rattle.fl_change.specs.World.{World, worlds_after}

-- Tests whether a row is of a ref of this kind
abbrev pub is_of : RefKind → RefRow → Bool
is_of kind row = same_kind kind row.name.kind

-- The number of deployed refs of this kind
abbrev pub deployed : RefKind → State → ℕ
deployed kind s = count_by (is_of kind) s.refs

-- The answer of the exercise's changes
abbrev pub changes_answer : ℕ → Holdings → World → Answer
changes_answer apps held x = changing (exercise_changes apps) held x

-- The state after the exercise's changes
abbrev pub changed_state : ℕ → Holdings → World → State
changed_state apps held x = (worlds_after held x (ops_of (changes_answer apps held x))).state

-- The text of the exercise's last line
abbrev pub end_text : ℕ → State → List ℕ
end_text apps s = exercise_text apps (deployed App s) (deployed Runtime s)

-- The answer that is the last line alone
abbrev pub end_answer : ℕ → Holdings → World → Answer
end_answer apps held x = text_answer (end_text apps x.state)

-- The answer of an exercise: its changes one after another up to the first refusal, and the last
-- line if none is refused
abbrev pub exercising : ℕ → Holdings → World → Answer
exercising apps held x =
    then_over held x (changes_answer apps held x) (end_answer apps held)
