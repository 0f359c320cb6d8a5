-- What changes, exercises and listings are refused for: their refusals have status 1, and none is one of the words or of the
-- input.
use Rattle.std.proofs.Common.{◌≡◌, ℕ, List, Option, Some, None, Result, Ok, Err, refl}
use Rattle.fp_host.specs.Remote.{Holdings}
use Rattle.fp_base.specs.declared.what.What.TheVariants as whats
use Rattle.fp_name.specs.Refs.{Ref}
use Rattle.fp_small.specs.declared.state.RefRow.{RefRow}
use Rattle.fp_small.specs.declared.refusal.Refusal.{Refusal}
use Rattle.fp_small.specs.declared.refusal.Refusal.TheVariants as refusals
use Rattle.dep_states.specs.After.{row_at}
use Rattle.fl_meta.specs.declared.meta.Meta.{Meta}
use Rattle.fl_launch.specs.declared.launching.LaunchText.{LaunchText}
use Rattle.fl_installed.specs.Described.{by_file, info_in, as_info}
use Rattle.fl_installed.specs.Launching.{launch_in}
use Rattle.fl_installed.specs.Refusals.{MayRefuse}
use Rattle.fl_installed.specs.declared.info.Info.{Info}
use Rattle.fl_installed.proofs.Refusing.{file_may, launch_refuses}
use Rattle.fl_words.specs.declared.command.Change.{Change}
use Rattle.fl_gen.specs.Exercise.{exercise_changes}
use Rattle.fl_change.specs.World.{World, worlds_after}
use Rattle.fl_change.specs.Answer.{Answer, ops_of, refusal_answer}
use Rattle.fl_change.specs.Turns.{changing}
use Rattle.fl_change.proofs.Pulled.{AllOf}
use Rattle.fl_change.proofs.Refusing.{IsLater, Refuses, Fails, none_later, one_later, err_later, continued_later, found_later, changing_later}
use Rattle.fl_installed.specs.Deployed.{DeployedFiles}
use Rattle.fl_top.specs.Answer.{IsAtOnce, told_of, known_of, launched_of}
use Rattle.fl_top.specs.Exercising.{end_answer, exercising}
use Rattle.fl_top.specs.Status.{status_of}

pub has_status_one : (r : Refusal) → IsLater r → 1 ≡ status_of r
has_status_one (refusals.BadWords index) later = absurd later
has_status_one r later = refl

not_at_once : (r : Refusal) → IsLater r → IsAtOnce (Some r) → ⊥
not_at_once (refusals.BadWords index) later at_once = later
not_at_once (refusals.Limit whats.Input number) later at_once = later
not_at_once (refusals.BadRecord line) later at_once = later
not_at_once r later at_once = at_once

pub exercising_later : (apps : ℕ) (held : Holdings) (x : World) → Refuses (exercising apps held x)
exercising_later apps held x =
    let a = changing (exercise_changes apps) held x in
    continued_later a.pieces a.refusal (end_answer apps held (worlds_after held x (ops_of a))) (changing_later (exercise_changes apps) held x) none_later

-- ---- what is told of deployed refs

may_later : (r : Refusal) → MayRefuse r → IsLater r
may_later (refusals.NotInstalled name) may = tt
may_later (refusals.RuntimeMissing name) may = tt
may_later (refusals.BadMetadata name line rule) may = tt
may_later r may = absurd may

as_info_later : (m : Result Meta Refusal) → Fails m → Fails (as_info m)
as_info_later (Ok meta) later = λ r is. absurd (cc is)
as_info_later (Err q) later = err_later q (later q refl)

told_later : (row : RefRow) (info : Result Info Refusal) → Fails info → Refuses (told_of row info)
told_later row (Ok info) later = none_later
told_later row (Err q) later = one_later q (later q refl)

pub known_later : (files : DeployedFiles) (name : Ref) (x : World) → Refuses (known_of files name x)
known_later files name x = found_later (λ row. told_of row (info_in files name row.commit)) (refusal_answer (refusals.NotInstalled name)) (row_at x.state name)
    (λ row. told_later row (info_in files name row.commit) (as_info_later (by_file name (files name row.commit)) (λ r is. may_later r (file_may name (files name row.commit) r is))))
    (one_later (refusals.NotInstalled name) (tt))

-- ---- a launch

launched_later : (launch : Result LaunchText Refusal) → ((r : Refusal) → launch ≡ Err r → MayRefuse r) → Refuses (launched_of launch)
launched_later (Ok launch) may = none_later
launched_later (Err q) may = one_later q (may_later q (may q refl))

pub launch_later : (files : DeployedFiles) (name : Ref) (options : List (List ℕ)) (x : World) → Refuses (launched_of (launch_in files x.state name options))
launch_later files name options x = launched_later (launch_in files x.state name options) (launch_refuses files x.state name options)

-- ---- none of them is one of the words or of the input

late_by : (o : Option Refusal) → AllOf IsLater o → IsAtOnce o → ⊥
late_by None all at_once = at_once
late_by (Some r) all at_once = not_at_once r (all r refl) at_once

pub answer_late : (a : Answer) → Refuses a → IsAtOnce a.refusal → ⊥
answer_late a all at_once = late_by a.refusal all at_once

pub changing_late : (changes : List Change) (held : Holdings) (x : World) → IsAtOnce (changing changes held x).refusal → ⊥
changing_late changes held x = answer_late (changing changes held x) (changing_later changes held x)

pub exercising_late : (apps : ℕ) (held : Holdings) (x : World) → IsAtOnce (exercising apps held x).refusal → ⊥
exercising_late apps held x = answer_late (exercising apps held x) (exercising_later apps held x)
