-- A command that only looks, and prints.
use Rattle.std.proofs.Common.{◌≡◌, inl, inr, ℕ, List, [], ◌∷◌, Option, Result, Ok, Err, IsErrAnd, refl, sym, ◌∙◌, ap, subst}
use Rattle.fp_host.specs.View.{View}
use Rattle.fp_host.specs.Outcome.{shows}
use Rattle.fp_host.specs.Calls.{says, Step}
use Rattle.fp_host.specs.Causes.{end_of}
use Rattle.fp_host.specs.Moments.{Moments, Makes, Goes}
use Rattle.fp_host.specs.Frame.{AtEnd, Unchanged}
use Rattle.fp_host.specs.declared.host.HostError.{HostError}
use Rattle.fp_host.specs.declared.host.HostError.TheVariants as error
use Rattle.fp_host.proofs.Framed.{IsTold}
use Rattle.fp_host.proofs.Goes.{begins, goes_on, knowing, makes_goes}
use Rattle.fp_host.proofs.Ending.{goes_known}
use Rattle.fp_small.specs.declared.state.State.{State}
use Rattle.fp_small.specs.Places.{repo}
use Rattle.ost_model.specs.Objects.{Have, store}
use Rattle.ost_model.specs.Remotes.{Stores}
use Rattle.dep_states.specs.Shown.{Shows}
use Rattle.dep_open.specs.Open.{Opened, Reads}
use Rattle.dep_open.specs.declared.open_end.OpenEnd.{OpenEnd}
use Rattle.dep_open.specs.declared.open_end.OpenEnd.TheVariants as open_end
use Rattle.fl_change.specs.World.{World, world_in, world_at}
use Rattle.fl_installed.specs.Deployed.{DeployedFiles, Deploys, deployed_files}
use Rattle.fl_words.specs.declared.command.Listing.{Listing}
use Rattle.fl_change.specs.Answer.{Answer, text_answer, refusal_answer}
use Rattle.fl_top.specs.Answer.{shown_answer, listing_answer}
use Rattle.fl_top.specs.Ends.{PrintsOf}
use Rattle.fl_change.specs.Ends.{end_of_host, end_of_open}
use Rattle.fl_top.specs.Moment.{Runs, RunsLook}
use Rattle.fl_top.specs.Return.{Ended, LookHasEnded, Completes, Finishes}
use Rattle.fl_change.specs.Says.{Says, WasSaid}
use Rattle.fl_change.specs.declared.end.RunEnd.{RunEnd}
use Rattle.fl_change.specs.declared.end.RunEnd.TheVariants as run
use Rattle.fl_change.proofs.Saying.{says_step, was_said}
use Rattle.fl_change.proofs.Same.{same_shown, same_settled}
use Rattle.fl_change.proofs.Changing.{keeps_files, none_made, same_untouched, still_untouched}
use Rattle.fl_top.proofs.Altering.{rest_none}
use Rattle.fl_top.proofs.Looking.{still_look}
use Rattle.fl_top.proofs.Starting.{Keeping, begun, unchanged, look_not_open, halted_look, shows_before, finishes_none, refused_at_once}
use Rattle.fl_top.proofs.Described.{listed_world}
use Rattle.fl_top.proofs.Stored.{HasFiles}
use Rattle.fl_top.proofs.Over.{over_is, counts_shown}
use Rattle.fl_change.proofs.Working.{is_err}
use Rattle.fp_host.specs.Remote.{Holdings}
use Rattle.fl_change.proofs.Created.{none_created, no_ops_created}
use Rattle.fl_change.proofs.Skipping.{piece_of, said_text}

-- ---- a text that acknowledges nothing

pub telling : (text : List ℕ) {u w : View} → Says text u w → Runs (text_answer text) u w
telling text {u = u} {w = w} says_it = elim (says_it.printed) [
  | inl none ↦ begun (text_answer text) (record { printed = none; follows = says_it.follows; names = says_it.untouched.names; files = keeps_files says_it.untouched; empty = (still_untouched says_it.untouched).unwritten; creates = none_created says_it.untouched }) (λ why. says_it.untouched)
  | inr more ↦ record {
    said = piece_of text ∷ [];
    so_far = said_text text u w more;
    prefix = λ sound disk left. let just = shows_before says_it.follows sound disk left in record { done = []; undone = []; prefix = refl; more = []; holds = refl; shown = just.shown; sound = just.sound };
    only_rests = λ none s at. rest_none says_it.untouched.names;
    untouched = λ why. says_it.untouched;
  }
]

all_told : (held : Holdings) (text : List ℕ) {u w : View} → WasSaid text u w → Completes held (text_answer text) u w
all_told held text {u = u} {w = w} said_it = record {
  printed = (said_text text u w said_it.printed).printed;
  just = λ sound disk left. shows_before said_it.follows sound disk left;
  shown = λ sound s at. same_shown said_it.shown at;
  tidied = λ sound why. elim why [ inl settled ↦ same_settled said_it.shown settled | inr some ↦ absurd (some refl) ];
  text = λ some s at. absurd (cc some);
  files = keeps_files said_it.untouched;
  shares = λ no. none_made said_it.untouched;
  creates = λ no s at. no_ops_created held (world_at s u) [] refl (none_created said_it.untouched);
}

pub tells : (held : Holdings) (text : List ℕ) {u w : View} → WasSaid text u w → Finishes held (text_answer text) u w
tells held text said_it = finishes_none held (text_answer text) refl (all_told held text said_it)

-- ---- what was read

pub reads_opened : (e : OpenEnd) (u w : View) → Reads u (Err e) → Opened (Err e) u w
reads_opened (open_end.Damaged path) u w is = is
reads_opened open_end.Fault u w is = tt
reads_opened open_end.NoMemory u w is = tt

pub keeping : {u w : View} → w ≡ u → Keeping u w
keeping {u = u} same = subst (Keeping u) (sym same) unchanged

-- nothing is done yet
pub looks : (f : World → Answer) {u w : View} → w ≡ u → RunsLook (shown_answer f) u w
looks f same = still_look (shown_answer f) (λ shown counts. begun (shown_answer f shown) (keeping same) (λ why. same_untouched same)) (same_untouched same)

pub goes_not_read : {a b : Option Moments} (f : World → Answer) (e : OpenEnd) (r : Result (Unit {0}) RunEnd) → IsTold a → Unchanged a b → AtEnd (λ u w. Reads u (Err e)) a b → IsErrAnd r (λ end. end ≡ end_of_open e) → Goes a b (RunsLook (shown_answer f)) (LookHasEnded (shown_answer f) r)
goes_not_read {a = a} {b = b} f e r known still tell is =
    subst (λ (x : Result (Unit {0}) RunEnd). Goes a b (RunsLook (shown_answer f)) (LookHasEnded (shown_answer f) x)) (sym (is_err r (end_of_open e) is))
    (begins known (goes_known still.goes tell) (λ u w t same. looks f same) (λ u w t same q. look_not_open f e (keeping same) (reads_opened e u w q.1)))

-- ---- what is listed of the state that was read

-- the state was read, and this is said of it
record HasTold (files : DeployedFiles) (listing : Listing) (s : State) (r : Result (List ℕ) RunEnd) (u w : View) : Type 0 where
  same : w ≡ u
  shown : Shows (shows u) s
  tells : PrintsOf (listing_answer files listing (world_in s (shows u))) r

-- what is known of it over what each host has deployed and stores
abbrev pub TellsOver : Listing → State → Option Moments → Result (List ℕ) RunEnd → Type 0
TellsOver listing s told r = (files : DeployedFiles) → Deploys told files → (have : Have) → Stores repo told have → PrintsOf (listing_answer files listing (record { state = s; have = have })) r

module _ (files : DeployedFiles) (listing : Listing) (s : State) where
  abbrev f : World → Answer
  f = listing_answer files listing

  abbrev over_store : Result (List ℕ) RunEnd → View → Type 0
  over_store r v = PrintsOf (listing_answer (deployed_files (shows v)) listing (record { state = s; have = store repo (shows v) })) r

  read : {a b : Option Moments} → HasFiles a files → Unchanged a b → AtEnd (λ u w. Reads u (Ok s)) a b → Goes a b (RunsLook (shown_answer f)) (λ u w. (w ≡ u) × (Shows (shows u) s × (files ≡ deployed_files (shows u))))
  read has still tell = knowing {P = λ v. files ≡ deployed_files (shows v)} has (goes_known still.goes tell) (λ u w k same. looks f same) (λ u w k q. (q.0.0, (q.1, k)))

  text_of : {b c : Option Moments} (r : Result (List ℕ) RunEnd) → Unchanged b c → TellsOver listing s b r → Goes b c (λ v w. w ≡ v) (λ v w. (w ≡ v) × over_store r v)
  text_of r still tells = knowing {P = over_store r} (λ m is. tells (deployed_files (shows m.now)) (record { moments = m; told_is = is; is = refl }) (store repo (shows m.now)) (record { moments = m; told_is = is; is = refl })) still.goes (λ v w k same. same) (λ v w k q. (q.0, k))

  told : {u v w : View} (r : Result (List ℕ) RunEnd) → v ≡ u → Shows (shows u) s → files ≡ deployed_files (shows u) → w ≡ v → over_store r v → HasTold files listing s r u w
  told {u = u} r first shown known second tells = record {
    same = second ∙ first;
    shown = shown;
    tells = subst (λ (a : Answer). PrintsOf a r) (sym (ap (λ (x : DeployedFiles). listing_answer x listing (world_in s (shows u))) known ∙ listed_world (deployed_files (shows u)) listing s (shows u))) (subst (over_store r) first tells);
  }

  read_told : {a b c : Option Moments} (r : Result (List ℕ) RunEnd) → HasFiles a files → IsTold b → Unchanged a b → AtEnd (λ u w. Reads u (Ok s)) a b → Unchanged b c → TellsOver listing s b r → Goes a c (RunsLook (shown_answer f)) (HasTold files listing s r)
  read_told r has known_b still tell quiet tells =
      goes_on known_b (read has still tell) (text_of r quiet tells) (λ u v w t p q n. looks f (n ∙ q.0)) (λ u v w t p q n l. told r q.0 q.1.0 q.1.1 l.0 l.1)

  -- it is refused, or comes to no end
  no_text : (e : RunEnd) {u w : View} → HasTold files listing s (Err e) u w → LookHasEnded (shown_answer f) (Err e) u w
  no_text (run.Refused refusal) {u = u} {w = w} q = record {
    ended = λ shown counts held. subst (λ (a : Answer). Ended held a (Err (run.Refused refusal)) u w) (sym q.tells ∙ sym (over_is f (shows u) shown s q.shown counts))
        (refl, subst (Finishes held (refusal_answer refusal) u) (sym q.same) (refused_at_once held refusal u));
    given = λ by. counts_shown (shown_answer f) (shows u) s q.shown;
    made = tt;
  }
  no_text run.Fault q = record { ended = λ shown counts held. tt; given = λ by. absurd by; made = tt }
  no_text run.RemoteFault q = absurd q.tells
  no_text run.NoMemory q = halted_look f (keeping q.same)

  pub goes_not_listed : {a b c : Option Moments} (e : RunEnd) (r : Result (Unit {0}) RunEnd) → IsTold a → HasFiles a files → IsTold b → Unchanged a b → AtEnd (λ u w. Reads u (Ok s)) a b → Unchanged b c → TellsOver listing s b (Err e) → IsErrAnd r (λ end. end ≡ e) → Goes a c (RunsLook (shown_answer f)) (LookHasEnded (shown_answer f) r)
  goes_not_listed {a = a} {c = c} e r known has known_b still tell quiet tells is =
      subst (λ (x : Result (Unit {0}) RunEnd). Goes a c (RunsLook (shown_answer f)) (LookHasEnded (shown_answer f) x)) (sym (is_err r e is))
      (begins known (read_told (Err e) has known_b still tell quiet tells) (λ u w t p. p) (λ u w t p q. no_text e q))

  -- ---- and it is printed

  module _ (text : List ℕ) where
    is_told : {u v w : View} → HasTold files listing s (Ok text) u v → Says text v w → RunsLook (shown_answer f) u w
    is_told {u = u} {w = w} q says_it =
        let from : Says text u w = subst (λ (x : View). Says text x w) q.same says_it in
        still_look (shown_answer f) (λ shown counts. subst (λ (a : Answer). Runs a u w) (sym q.tells ∙ sym (over_is f (shows u) shown s q.shown counts)) (telling text from)) from.untouched

    was_told : {u v w : View} → HasTold files listing s (Ok text) u v → WasSaid text v w → LookHasEnded (shown_answer f) (Ok tt) u w
    was_told {u = u} {w = w} q said_it = record {
      ended = λ shown counts held. subst (λ (a : Answer). Ended held a (Ok tt) u w) (sym q.tells ∙ sym (over_is f (shows u) shown s q.shown counts)) (refl, tells held text (subst (λ (x : View). WasSaid text x w) q.same said_it));
      given = λ by. counts_shown (shown_answer f) (shows u) s q.shown;
      made = tt;
    }

    not_told : (e : HostError) (u v w : View) → Step (says text) (Err e) v w → LookHasEnded (shown_answer f) (Err (end_of_host (end_of e))) u w
    not_told error.Failed u v w step = record { ended = λ shown counts held. tt; given = λ by. absurd by; made = tt }
    not_told error.Clash u v w step = record { ended = λ shown counts held. tt; given = λ by. absurd by; made = tt }
    not_told error.NoMemory u v w step = absurd step.how

    pub goes_not_told : {a b c d : Option Moments} (e : HostError) (r : Result (Unit {0}) RunEnd) → HasFiles a files → IsTold b → IsTold c → Unchanged a b → AtEnd (λ u w. Reads u (Ok s)) a b → Unchanged b c → TellsOver listing s b (Ok text)
        → Makes (Step (says text) (Err e)) c d → IsErrAnd r (λ end. end ≡ end_of_host (end_of e)) → Goes a d (RunsLook (shown_answer f)) (LookHasEnded (shown_answer f) r)
    goes_not_told {a = a} {d = d} e r has known_b known_c still tell quiet tells call err =
        subst (λ (x : Result (Unit {0}) RunEnd). Goes a d (RunsLook (shown_answer f)) (LookHasEnded (shown_answer f) x)) (sym (is_err r (end_of_host (end_of e)) err))
        (goes_on known_c (read_told (Ok text) has known_b still tell quiet tells) (makes_goes call) (λ u v w t p q step. is_told q (says_step step)) (λ u v w t p q step last. not_told e u v w last))

    pub goes_told : {a b c d : Option Moments} → HasFiles a files → IsTold b → IsTold c → Unchanged a b → AtEnd (λ u w. Reads u (Ok s)) a b → Unchanged b c → TellsOver listing s b (Ok text)
        → Makes (Step (says text) (Ok tt)) c d → Goes a d (RunsLook (shown_answer f)) (LookHasEnded (shown_answer f) (Ok tt))
    goes_told has known_b known_c still tell quiet tells call =
        goes_on known_c (read_told (Ok text) has known_b still tell quiet tells) (makes_goes call) (λ u v w t p q step. is_told q (says_step step)) (λ u v w t p q step last. was_told q (was_said last))
