-- A command that forwards what its input records.
use Rattle.std.proofs.Common.{◌≡◌, inl, inr, ℕ, List, [], ◌∷◌, ◌++◌, map, Option, Result, Ok, Err, refl, sym, ◌∙◌, ap, subst, append_assoc, true}
use Rattle.std.specs.List.{concat}
use Rattle.std.specs.Prelude.{IsErrAnd}
use Rattle.std.proofs.lemmas.Bool.{false≢true}
use Rattle.std.proofs.lemmas.List.{map-append}
use Rattle.fp_host.specs.Paths.{Elements}
use Rattle.fp_host.specs.View.{View}
use Rattle.fp_host.specs.Frame.{Observes}
use Rattle.fp_host.specs.Outcome.{Disk, Follows, Nothing, shows}
use Rattle.fp_host.specs.Moments.{Moments, Goes}
use Rattle.fp_host.proofs.Follow.{follows_say}
use Rattle.fp_host.proofs.Framed.{IsTold}
use Rattle.fp_host.proofs.Goes.{begins, stays, goes_on}
use Rattle.fp_small.specs.declared.refusal.Refusal.{Refusal}
use Rattle.dep_states.specs.Shown.{Shows}
use Rattle.dep_states.specs.After.{Done, after_all}
use Rattle.bus_stream.specs.declared.recording.Recording.{Recording}
use Rattle.bus_stream.specs.Recordings.{recording_of}
use Rattle.bus_policy.specs.declared.policy.PolicyRule.{PolicyRule}
use Rattle.fl_filter.specs.Filtered.{Filtered, filtered}
use Rattle.fl_filter.specs.Printed.{with_lines, PrintsFirst, Printed}
use Rattle.fl_filter.specs.declared.end.FilterEnd.{FilterEnd}
use Rattle.fl_filter.specs.declared.end.FilterEnd.TheVariants as filter
use Rattle.fl_words.specs.declared.command.Command.{Command}
use Rattle.fl_words.specs.declared.command.Command.TheVariants.{Filter as Filtering}
use Rattle.fl_words.specs.declared.command.PolicySource.{PolicySource}
use Rattle.fl_change.specs.World.{World, world_at}
use Rattle.fl_change.specs.Answer.{Answer, Piece, pieces_text, ops_in, ops_of, set_config, refusal_answer, last_of}
use Rattle.fl_change.specs.Changes.{IsUntouched}
use Rattle.fl_change.specs.Performs.{Printed as SaysPieces}
use Rattle.fl_change.specs.declared.end.RunEnd.{RunEnd}
use Rattle.fl_change.specs.declared.end.RunEnd.TheVariants as run
use Rattle.fl_change.proofs.Changing.{none_made, same_untouched, still_untouched, keeps_files}
use Rattle.fl_top.proofs.Altering.{alter_untouched, rest_none}
use Rattle.fl_change.proofs.Same.{same_shown, same_settled}
use Rattle.fl_change.proofs.Working.{is_err}
use Rattle.fl_installed.specs.Deployed.{DeployedFiles}
use Rattle.fl_top.specs.Status.{only_looks}
use Rattle.fl_top.specs.Answer.{Given, piece_of, forwarding, rules_over, by_rules, of_recording, filtered_by, filter_by, answer_over, IsOver}
use Rattle.fl_top.specs.Ends.{end_of_run}
use Rattle.fl_top.specs.Input.{IsWhole}
use Rattle.fl_top.specs.Moment.{IsPrefix, IsJust, Runs, RunsCommand, RunsLook}
use Rattle.fl_top.specs.Return.{Stands, Completes, Ended, CommandHasEnded, Closed, IsGivenBy, IsClosedBy, EndsAnyway, LookHasEnded}
use Rattle.fl_top.specs.Told.{Told, IsGivenTo, files_at}
use Rattle.fl_top.specs.Telling.{Tells, IsRecording, IsFound, Finds, end_of_filter}
use Rattle.fl_top.specs.declared.command_end.CommandEnd.{CommandEnd}
use Rattle.fl_top.proofs.Over.{Counts, counts_constant, over_given, over_same, counts_same}
use Rattle.fl_top.proofs.Starting.{begun, unchanged, stood, finishes_none, refused_at_once, shows_before}
use Rattle.fl_top.proofs.Looking.{still_look}
use Rattle.fl_top.proofs.Finishing.{is_end, closed, given_by, ByInput, given_files, read_is, made_where, look_made}
use Rattle.fp_host.specs.Remote.{Holdings}
use Rattle.fl_change.proofs.Created.{none_created, no_ops_created}

-- ---- lines as pieces

ops_none : (lines : List (List ℕ)) → ops_in (map piece_of lines) ≡ []
ops_none [] = refl
ops_none (line ∷ lines) = ops_none lines

joined_is : (lines : List (List ℕ)) → concat lines ≡ pieces_text (map piece_of lines)
joined_is [] = refl
joined_is (line ∷ lines) = ap (λ (l : List ℕ). line ++ l) (joined_is lines)

-- ---- views with lines printed

untouched_by : (said : List (List ℕ)) {u w : View} → w ≡ with_lines said u → IsUntouched u w
untouched_by said {u = u} is = subst (IsUntouched u) (sym is) (record { names = λ q. refl; earlier = λ q. refl; files = λ id. refl; dirty = λ id. refl; stood = refl })

follows_by : (said : List (List ℕ)) {u w : View} → w ≡ with_lines said u → Follows Nothing u w
follows_by said {u = u} is = subst (Follows Nothing u) (sym is) (follows_say u (u.printed ++ concat said))

seen_by : (said : List (List ℕ)) (u w : View) → w ≡ with_lines said u → (q : Elements) → shows w q ≡ shows u q
seen_by said u w is = subst (λ (x : View). (q : Elements) → shows x q ≡ shows u q) (sym is) (λ q. refl)

printed_by : (said : List (List ℕ)) (u w : View) → w ≡ with_lines said u → w.printed ≡ u.printed ++ pieces_text (map piece_of said)
printed_by said u w is = ap (λ (x : View). x.printed) is ∙ ap (λ (l : List ℕ). u.printed ++ l) (joined_is said)

-- ---- the answer of lines

module _ (f : Filtered) where
  abbrev a : Answer
  a = forwarding f

  so_far : (u w : View) → (p : PrintsFirst f.lines u w) → SaysPieces a (map piece_of p.said) u w
  so_far u w p = record {
    left = map piece_of p.left ++ last_of f.refusal;
    pieces =
        ap (λ (l : List (List ℕ)). map piece_of l ++ last_of f.refusal) p.first
        ∙ ap (λ (l : List Piece). l ++ last_of f.refusal) (map-append piece_of p.said p.left)
        ∙ append_assoc (map piece_of p.said) (map piece_of p.left) (last_of f.refusal);
    printed = printed_by p.said u w p.is;
  }

  runs_first : {u w : View} → PrintsFirst f.lines u w → Runs a u w
  runs_first {u = u} {w = w} p = record {
    said = map piece_of p.said;
    so_far = so_far u w p;
    prefix = λ sound disk left.
        let just = shows_before (follows_by p.said p.is) sound disk left in
        subst (λ (ops : List Done). IsPrefix a ops u disk) (sym (ops_none p.said)) (record { done = []; undone = ops_of a; prefix = refl; more = []; holds = refl; shown = just.shown; sound = just.sound });
    only_rests = λ none s at. rest_none (untouched_by p.said p.is).names;
    untouched = λ why. untouched_by p.said p.is;
  }

  stands_first : {u w : View} → PrintsFirst f.lines u w → Stands a u w
  stands_first {u = u} {w = w} p = record {
    said = map piece_of p.said;
    so_far = so_far u w p;
    just = λ sound disk left. subst (λ (ops : List Done). IsJust ops u disk) (sym (ops_none p.said)) (shows_before (follows_by p.said p.is) sound disk left);
  }

  completes_all : (held : Holdings) {u w : View} → w ≡ with_lines f.lines u → Completes held a u w
  completes_all held {u = u} {w = w} is = record {
    printed = printed_by f.lines u w is;
    just = λ sound disk left. subst (λ (ops : List Done). IsJust ops u disk) (sym (ops_none f.lines)) (shows_before (follows_by f.lines is) sound disk left);
    shown = λ sound s at. subst (λ (ops : List Done). Shows (shows w) (after_all s ops)) (sym (ops_none f.lines)) (same_shown (seen_by f.lines u w is) at);
    tidied = λ sound why. elim why [ inl settled ↦ same_settled (seen_by f.lines u w is) settled | inr some ↦ absurd (some (ops_none f.lines)) ];
    text = λ some s at. absurd (false≢true (sym (ap set_config (ops_none f.lines)) ∙ some));
    files = keeps_files (untouched_by f.lines is);
    shares = λ no. none_made (untouched_by f.lines is);
    creates = λ no s at. no_ops_created held (world_at s u) (ops_of a) (ops_none f.lines) (none_created (untouched_by f.lines is));
  }

  -- the end of a filter, as one of a run
  abbrev pub ended_as : Result (Unit {0}) FilterEnd → Result (Unit {0}) RunEnd
  ended_as (Ok t) = Ok t
  ended_as (Err e) = Err (end_of_filter e)

  ended : (r : Result (Unit {0}) FilterEnd) (u w : View) → Printed f r u w → EndsAnyway a (ended_as r) u w
  ended (Ok t) u w p held = (p.0, finishes_none held a (ops_none f.lines) (completes_all held p.1))
  ended (Err (filter.Refused refusal)) u w p held = (p.0, finishes_none held a (ops_none f.lines) (completes_all held p.1))
  ended (Err filter.Fault) u w p held = tt
  ended (Err filter.NoMemory) u w p held = stands_first p

  pub goes_forwarded : {m n : Option Moments} (r : Result (Unit {0}) FilterEnd) → IsTold m → Goes m n (PrintsFirst f.lines) (Printed f r) → Goes m n (Tells a) (EndsAnyway a (ended_as r))
  goes_forwarded r told goes = begins told goes (λ u w t p. record { runs = runs_first p; untouched = untouched_by p.said p.is }) (λ u w t p q. ended r u w q)

-- ---- what is found over the image

-- what a call found, by its clause
abbrev pub Looking : {A : Type 0} → (Result World Elements → Result A Refusal) → Result A RunEnd → Option Moments → Option Moments → Type 0
Looking by r a b = Observes (λ v. Finds by r (shows v)) a b

found_is : {A : Type 0} (by : Result World Elements → A) (to : A → Answer) (found : A) (disk : Disk) (shown : Result World Elements) → IsFound by found disk → IsOver (λ x. to (by x)) disk shown → to (by shown) ≡ to found
found_is by to found disk shown is counts = elim is [
  | inl at ↦ over_given (λ x. to (by x)) disk shown at.0 at.1 counts ∙ ap to at.2
  | inr always ↦ ap to (always shown)
]

found_counts : {A : Type 0} (by : Result World Elements → A) (to : A → Answer) (found : A) (disk : Disk) → IsFound by found disk → Counts (λ x. to (by x)) disk
found_counts by to found disk is = elim is [
  | inl at ↦ (at.0, inl at.1)
  | inr always ↦ counts_constant (λ x. to (by x)) disk (λ shown other. ap to (always other ∙ sym (always shown)))
]

-- ---- nothing is printed yet

looks_none : (by : Result World Elements → Answer) (u : View) → RunsLook by u u
looks_none by u = still_look by (λ shown counts. begun (by shown) unchanged (λ why. same_untouched refl)) (same_untouched refl)

looks_same : (by : Result World Elements → Answer) {u w : View} → w ≡ u → RunsLook by u w
looks_same by {u = u} same = subst (RunsLook by u) (sym same) (looks_none by u)

halted : (by : Result World Elements → Answer) (u : View) → LookHasEnded by (Err run.NoMemory) u u
halted by u = record { ended = λ shown counts held. stood (by shown) unchanged; given = λ why. absurd why; made = tt }

refused : (by : Result World Elements → Answer) (refusal : Refusal) (u : View) → ((shown : Result World Elements) → IsOver by (shows u) shown → by shown ≡ refusal_answer refusal) → Counts by (shows u) → LookHasEnded by (Err (run.Refused refusal)) u u
refused by refusal u is counts = record {
  ended = λ shown over held. subst (λ (x : Answer). Ended held x (Err (run.Refused refusal)) u u) (sym (is shown over)) (refl, refused_at_once held refusal u);
  given = λ why. counts;
  made = tt;
}

-- ---- the recording isn't one

abbrev pub answers : DeployedFiles → PolicySource → List ℕ → Result World Elements → Answer
answers files source bytes shown = filter_by files source shown bytes

unread_is : (files : DeployedFiles) (source : PolicySource) (bytes : List ℕ) (refusal : Refusal) → IsRecording (recording_of bytes) (Err (run.Refused refusal)) → (shown : Result World Elements) → answers files source bytes shown ≡ refusal_answer refusal
unfolding filtered_by
unread_is files source bytes refusal read shown = ap (of_recording (rules_over files source shown)) read.1 ∙ ap refusal_answer (sym read.2)

unread : (files : DeployedFiles) (source : PolicySource) (bytes : List ℕ) (e : RunEnd) → IsRecording (recording_of bytes) (Err e) → (u : View) → LookHasEnded (answers files source bytes) (Err e) u u
unread files source bytes (run.Refused refusal) read u =
    let all = unread_is files source bytes refusal read in
    refused (answers files source bytes) refusal u (λ shown over. all shown) (counts_constant (answers files source bytes) (shows u) (λ shown other. all other ∙ sym (all shown)))
unread files source bytes run.Fault read u = absurd read
unread files source bytes run.RemoteFault read u = absurd read
unread files source bytes run.NoMemory read u = halted (answers files source bytes) u

pub goes_unread : {m : Option Moments} (files : DeployedFiles) (source : PolicySource) (bytes : List ℕ) (e : RunEnd) (r : Result (Unit {0}) RunEnd) → IsTold m → IsRecording (recording_of bytes) (Err e) → IsErrAnd r (λ x. x ≡ e)
    → Goes m m (RunsLook (answers files source bytes)) (LookHasEnded (answers files source bytes) r)
goes_unread {m = m} files source bytes e r told read err =
    subst (λ (x : Result (Unit {0}) RunEnd). Goes m m (RunsLook (answers files source bytes)) (LookHasEnded (answers files source bytes) x)) (sym (is_err r e err))
    (stays told (λ u. looks_none (answers files source bytes) u) (λ u t. unread files source bytes e read u))

-- ---- it is one

module _ (files : DeployedFiles) (source : PolicySource) (bytes : List ℕ) (recording : Recording) (read : recording_of bytes ≡ Ok recording) where
  abbrev by : Result World Elements → Answer
  by = answers files source bytes

  abbrev to : Result (List PolicyRule) Refusal → Answer
  to rules = filtered_by rules bytes

  to_is : (rules : Result (List PolicyRule) Refusal) → to rules ≡ by_rules recording rules
  unfolding filtered_by
  to_is rules = ap (of_recording rules) read

  -- the rules weren't found
  no_rules : (e : RunEnd) {u w : View} → w ≡ u → Finds (rules_over files source) (Err e) (shows u) → LookHasEnded by (Err e) u w
  no_rules (run.Refused refusal) {u = u} same found =
      subst (LookHasEnded by (Err (run.Refused refusal)) u) (sym same)
      (refused by refusal u (λ shown over. found_is (rules_over files source) to (Err refusal) (shows u) shown found over ∙ to_is (Err refusal)) (found_counts (rules_over files source) to (Err refusal) (shows u) found))
  no_rules run.Fault same found = record { ended = λ shown counts held. tt; given = λ why. absurd why; made = tt }
  no_rules run.RemoteFault same found = absurd found
  no_rules run.NoMemory {u = u} same found = subst (LookHasEnded by (Err run.NoMemory) u) (sym same) (halted by u)

  pub goes_unfound : {a b : Option Moments} (e : RunEnd) (r : Result (Unit {0}) RunEnd) → IsTold a → Looking (rules_over files source) (Err e) a b → IsErrAnd r (λ x. x ≡ e) → Goes a b (RunsLook by) (LookHasEnded by r)
  goes_unfound {a = a} {b = b} e r told looking err =
      subst (λ (x : Result (Unit {0}) RunEnd). Goes a b (RunsLook by) (LookHasEnded by x)) (sym (is_err r e err))
      (begins told looking.goes (λ u w t same. looks_same by same) (λ u w t same q. no_rules e q.0 q.1))

  -- they were
  module _ (rules : List PolicyRule) where
    abbrev given : Answer
    given = forwarding (filtered rules recording)

    answer_is : (u : View) (shown : Result World Elements) → IsFound (rules_over files source) (Ok rules) (shows u) → IsOver by (shows u) shown → by shown ≡ given
    answer_is u shown found counts = found_is (rules_over files source) to (Ok rules) (shows u) shown found counts ∙ to_is (Ok rules)

    looks_on : {u v w : View} → v ≡ u → IsFound (rules_over files source) (Ok rules) (shows u) → Tells given v w → RunsLook by u w
    looks_on {u = u} {w = w} same found told =
        let from : Tells given u w = subst (λ (x : View). Tells given x w) same told in
        still_look by (λ shown counts. subst (λ (x : Answer). Runs x u w) (sym (answer_is u shown found counts)) from.runs) from.untouched

    looked_on : (r : Result (Unit {0}) RunEnd) {u v w : View} → v ≡ u → IsFound (rules_over files source) (Ok rules) (shows u) → EndsAnyway given r v w → LookHasEnded by r u w
    looked_on r {u = u} {w = w} same found ended =
        let from : EndsAnyway given r u w = subst (λ (x : View). EndsAnyway given r x w) same ended in
        record {
          ended = λ shown counts. subst (λ (x : Answer). EndsAnyway x r u w) (sym (answer_is u shown found counts)) from;
          given = λ why. found_counts (rules_over files source) to (Ok rules) (shows u) found;
          made = tt;
        }

    pub goes_found : {a b c : Option Moments} (r : Result (Unit {0}) RunEnd) → IsTold a → IsTold b → Looking (rules_over files source) (Ok rules) a b → Goes b c (Tells given) (EndsAnyway given r) → Goes a c (RunsLook by) (LookHasEnded by r)
    goes_found r told told_b looking goes =
        goes_on told_b (begins told looking.goes (λ u w t same. looks_same by same) (λ u w t same q. q)) goes (λ u v w t p q s. looks_on q.0 q.1 s) (λ u v w t p q s last. looked_on r q.0 q.1 last)

-- reading a recording asks no host and no remotes
pub read_no_fault : (bytes : List ℕ) (e : RunEnd) → IsRecording (recording_of bytes) (Err e) → e ≡ run.Fault → ⊥
read_no_fault bytes (run.Refused refusal) read is = cc is
read_no_fault bytes run.Fault read is = read
read_no_fault bytes run.RemoteFault read is = read
read_no_fault bytes run.NoMemory read is = cc is

pub read_no_remote_fault : (bytes : List ℕ) (e : RunEnd) → IsRecording (recording_of bytes) (Err e) → e ≡ run.RemoteFault → ⊥
read_no_remote_fault bytes (run.Refused refusal) read is = cc is
read_no_remote_fault bytes run.Fault read is = read
read_no_remote_fault bytes run.RemoteFault read is = read
read_no_remote_fault bytes run.NoMemory read is = cc is

-- ---- the command

abbrev pub by_source : PolicySource → Given → Result World Elements → List ℕ → Answer
by_source source given shown bytes = filter_by given.files source shown bytes

pub source_input : (source : PolicySource) → ByInput (Filtering source) (by_source source)
source_input source = record { reads = refl; is = λ given shown. refl }

-- the answer to it, whose bytes were read
abbrev pub IsAnswerTo : Command → Told → (Result World Elements → Answer) → Type 0
IsAnswerTo command t by = (given : Given) → IsGivenTo command t given → (shown : Result World Elements) → by shown ≡ answer_over command given shown

pub source_answer : (source : PolicySource) (t : Told) (bytes : List ℕ) → IsWhole t.left bytes → IsAnswerTo (Filtering source) t (answers (files_at t.moments) source bytes)
source_answer source t bytes whole given gave shown =
    sym (ap (λ (files : DeployedFiles). filter_by files source shown bytes) (given_files (Filtering source) t given refl gave))
    ∙ read_is (Filtering source) (by_source source) (source_input source) t bytes whole given gave shown

runs_told : (command : Command) (t : Told) (by : Result World Elements → Answer) → IsAnswerTo command t by → (u w : View) → RunsLook by u w → RunsCommand command t u w
runs_told command t by is u w looks = record {
  runs = λ given gave shown counts may. subst (λ (x : Answer). Runs x u w) (is given gave shown) (looks.runs shown (over_same by (answer_over command given) (shows u) shown (is given gave) counts) given.held);
  changes = λ known. alter_untouched (looks.untouched tt);
  rests = λ change given gave shown counts may rest idle. still_untouched (looks.untouched tt);
  untouched = λ why. looks.untouched tt;
}

ended_told : (command : Command) (t : Told) (by : Result World Elements → Answer) (r : Result (Unit {0}) RunEnd) (s : Result (Unit {0}) CommandEnd) → only_looks command ≡ true → IsAnswerTo command t by → (u w : View)
    → ((held : Holdings) (x : Answer) → Ended held x r u w → Closed held x s u w) → (IsClosedBy s → IsGivenBy r) → LookHasEnded by r u w → CommandHasEnded command t s u w
ended_told command t by r s quiet is u w turned give looked = record {
  ended = λ given gave shown counts may. subst (λ (x : Answer). Closed given.held x s u w) (is given gave shown) (turned given.held (by shown) (looked.ended shown (over_same by (answer_over command given) (shows u) shown (is given gave) counts) given.held));
  given = λ why given gave. counts_same (answer_over command given) by (shows u) (λ x. sym (is given gave x)) (looked.given (give why));
  made = made_where s command t.left u w (look_made command t.left u w quiet);
}

pub goes_told : {m n : Option Moments} (command : Command) (t : Told) (by : Result World Elements → Answer) → IsTold m → only_looks command ≡ true → IsAnswerTo command t by → Goes m n (RunsLook by) (LookHasEnded by (Ok tt)) → Goes m n (RunsCommand command t) (CommandHasEnded command t (Ok tt))
goes_told command t by told quiet is goes = begins told goes (λ u w tree p. runs_told command t by is u w p) (λ u w tree p q. ended_told command t by (Ok tt) (Ok tt) quiet is u w (λ held x e. e) (λ why. why) q)

pub goes_not_told : {m n : Option Moments} (command : Command) (t : Told) (by : Result World Elements → Answer) (e : RunEnd) (s : Result (Unit {0}) CommandEnd) → IsTold m → only_looks command ≡ true → IsAnswerTo command t by → IsErrAnd s (λ end. end ≡ end_of_run e)
    → Goes m n (RunsLook by) (LookHasEnded by (Err e)) → Goes m n (RunsCommand command t) (CommandHasEnded command t s)
goes_not_told {m = m} {n = n} command t by e s told quiet is err goes =
    subst (λ (x : Result (Unit {0}) CommandEnd). Goes m n (RunsCommand command t) (CommandHasEnded command t x)) (sym (is_end s (end_of_run e) err))
    (begins told goes (λ u w tree p. runs_told command t by is u w p) (λ u w tree p q. ended_told command t by (Err e) (Err (end_of_run e)) quiet is u w (λ held x k. closed held x e u w k) (given_by e) q))
