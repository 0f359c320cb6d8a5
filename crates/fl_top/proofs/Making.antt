-- A command that makes a remote.
use Rattle.std.proofs.Common.{◌≡◌, inl, inr, ℕ, List, [], ◌∷◌, ◌++◌, codes, Option, Result, Ok, Err, IsErrAnd, IsErrOf, refl, sym, ◌∙◌, ap, subst}
use Rattle.fp_base.proofs.Texts.{bytes_eq-false}
use Rattle.fp_host.specs.Paths.{Elements, Slot}
use Rattle.fp_host.specs.View.{View}
use Rattle.fp_host.specs.Outcome.{Disk, Leaves, shows}
use Rattle.fp_host.specs.Frame.{AtEnd, Unchanged}
use Rattle.fp_host.specs.Moments.{Moments, Goes, Always}
use Rattle.fp_host.specs.declared.host.HostEnd.{HostEnd}
use Rattle.fp_host.specs.declared.host.HostEnd.TheVariants as host
use Rattle.fp_host.proofs.Ending.{ends_looks, goes_known}
use Rattle.fp_host.proofs.Framed.{IsTold}
use Rattle.fp_host.proofs.Goes.{begins, goes_on}
use Rattle.fp_host.proofs.Above.{below_child}
use Rattle.fp_host.proofs.Shown.{now_left}
use Rattle.fp_name.specs.Refs.{Ref}
use Rattle.dep_states.proofs.SharedAs.{shared_on, shared_by}
use Rattle.fp_small.specs.declared.refusal.Refusal.TheVariants.{BadRecord}
use Rattle.fp_small.specs.declared.state.State.{State}
use Rattle.ost_commit.specs.Objects.{have_of}
use Rattle.ost_description.specs.Commits.{IsDescribed, IsRead}
use Rattle.ost_description.specs.Descriptions.{described}
use Rattle.ost_export.specs.Exports.{IsOffered}
use Rattle.dep_states.specs.Lasting.IsLasting.{a_made_one}
use Rattle.dep_states.specs.Shown.{Shows}
use Rattle.dep_states.specs.Sound.{IsSound}
use Rattle.fl_lines.specs.Lines.{made_text}
use Rattle.fl_words.specs.declared.command.Command.TheVariants.{Export as Exporting}
use Rattle.fl_make.specs.Making.{remote_store, MayMake, in_store, in_work, above_store, of_work, Makes, WasMade, IsMakeFault}
use Rattle.fl_make.specs.declared.end.MakeEnd.{MakeEnd}
use Rattle.fl_make.specs.declared.end.MakeEnd.TheVariants as make
use Rattle.fl_change.specs.World.{World, world_at}
use Rattle.fl_change.specs.Answer.{Answer, text_answer, refusal_answer}
use Rattle.fl_change.specs.Ends.{end_of_host}
use Rattle.fl_change.specs.Says.{Says, WasSaid, SaidBy}
use Rattle.fl_change.proofs.Changing.{keeps_files, none_made, same_untouched}
use Rattle.fl_change.proofs.Doing.{none_yet}
use Rattle.fl_change.proofs.Same.{unmoved, same_shown, same_settled}
use Rattle.fl_top.specs.Answer.{Given, of_description, commit_made, answer_over}
use Rattle.fl_top.specs.Asked.{OpsBy}
use Rattle.fl_top.specs.Ends.{end_of_run, end_of_make}
use Rattle.fl_top.specs.Exports.{made_by, Alters, made_at, OnlyRests}
use Rattle.fl_top.specs.Input.{IsWhole}
use Rattle.fl_top.specs.Remotes.{MakesBy, MadeBy}
use Rattle.fl_top.specs.Moment.{Runs, IsJust, RunsCommand}
use Rattle.fl_top.specs.Return.{Stands, CommandHasEnded, Closed, Completes}
use Rattle.fl_top.specs.Told.{Told, IsGivenTo}
use Rattle.fl_top.specs.declared.command_end.CommandEnd.{CommandEnd}
use Rattle.fl_top.specs.declared.command_end.CommandEnd.TheVariants.{Fault, RemoteFault, InputFault}
use Rattle.dep_states.specs.Names.{repo_config}
use Rattle.fl_top.proofs.Altering.{no_tmp, alter_on, alter_untouched, rest_none, rest_on}
use Rattle.fl_top.proofs.Ending.{just_on}
use Rattle.fl_top.proofs.Finishing.{is_end, ByInput, read_is, given_all}
use Rattle.fl_top.proofs.Listed.{keeping}
use Rattle.fl_top.proofs.Over.{counts_constant}
use Rattle.fl_top.proofs.Starting.{begun, finishes_none, refused_at_once}
use Rattle.fp_host.specs.Remote.{Holdings}
use Rattle.fl_change.proofs.Created.{none_created, no_ops_created}
use Rattle.fl_change.proofs.Skipping.{piece_of, said_text}
use Rattle.ost_store.proofs.Creating.{creates_on}
use Rattle.fp_small.proofs.Keeping.{files_on}

-- ---- its answer

abbrev pub made_in : Given → Result World Elements → List ℕ → Answer
made_in given shown bytes = commit_made given.commit bytes

-- the name at the top of a path, and what is above it
abbrev top : Elements → List ℕ
top [] = []
top (x ∷ up) = x

abbrev above : Elements → Elements
above [] = []
above (x ∷ up) = up

-- the store of a remote is not the installation's own
not_made : (remote : List ℕ) → repo_config ≡ remote_store remote → ⊥
not_made remote at = bytes_eq-false (codes "repo") (codes "made") refl (ap (λ (q : Elements). top (above q)) at)

-- nothing that makes a remote touches the installation's own store
no_made : (remote : List ℕ) (r : Ref) (e : Slot) → MayMake remote r repo_config e → ⊥
no_made remote r e (in_store (inl at) off) = not_made remote at
no_made remote r e (in_store (inr (inl at)) off) = cc at
no_made remote r e (in_store (inr (inr (inl at))) off) = cc at
no_made remote r e (in_store (inr (inr (inr none))) off) = none
no_made remote r e (in_work above) = no_tmp above
no_made remote r e (above_store (inl at) is) = cc at
no_made remote r e (above_store (inr (inl at)) is) = cc at
no_made remote r e (above_store (inr (inr none)) is) = none
no_made remote r e (of_work (inl at) is) = cc at
no_made remote r e (of_work (inr at) is) = bytes_eq-false (codes "config") (codes "tmp") refl (ap top at)

pub make_input : (remote : List ℕ) (r : Ref) → ByInput (Exporting remote r) made_in
make_input remote r = record { reads = refl; is = λ given shown. refl }

good_answer : (commit bytes : List ℕ) → IsRead (described bytes) → text_answer (made_text commit) ≡ commit_made commit bytes
unfolding commit_made
good_answer commit bytes read = sym (ap (of_description commit) read.is)

bad_answer : (commit bytes : List ℕ) (line : ℕ) → described bytes ≡ Err line → refusal_answer (BadRecord line) ≡ commit_made commit bytes
unfolding commit_made
bad_answer commit bytes line is = sym (ap (of_description commit) is)

module _ (remote : List ℕ) (r : Ref) (t : Told) (bytes : List ℕ) (whole : IsWhole t.left bytes) where
  answer_is : (given : Given) → IsGivenTo (Exporting remote r) t given → (shown : Result World Elements) → commit_made given.commit bytes ≡ answer_over (Exporting remote r) given shown
  answer_is given gave shown = read_is (Exporting remote r) made_in (make_input remote r) t bytes whole given gave shown

  line_is : (given : Given) → IsGivenTo (Exporting remote r) t given → IsRead (described bytes) → (shown : Result World Elements) → text_answer (made_text given.commit) ≡ answer_over (Exporting remote r) given shown
  line_is given gave read shown = good_answer given.commit bytes read ∙ answer_is given gave shown

  all_given : (given : Given) → IsGivenTo (Exporting remote r) t given → bytes ≡ given.input
  all_given given gave = (whole given.input (given_all (Exporting remote r) t given refl gave)).0

  -- ---- at every moment

  just_made : {u w : View} → Makes remote r bytes u w → IsSound u → (disk : Disk) → Leaves w disk → IsJust [] u disk
  just_made {u = u} {w = w} makes sound disk left =
      let at = sound.shown (shows u) (now_left u) in
      elim (makes.opens sound at.state at.shows) [
        | inl same ↦ before (subst (λ (v : View). Leaves v disk) same left)
        | inr opens ↦ record { shown = (shows u, now_left u, at.state, at.shows, opens.shown disk left); sound = opens.sound disk left }
      ]
    where
      before : Leaves u disk → IsJust [] u disk
      before l = let was = sound.shown disk l in record { shown = (disk, l, was.state, was.shows, was.shows); sound = sound.sound disk l }

  alter_made : {u w : View} → Makes remote r bytes u w → Alters (OpsBy (Exporting remote r) t.left) (MakesBy (Exporting remote r)) u w
  alter_made makes = record { names = λ q. elim (makes.names q) [ inl same ↦ inl same | inr may ↦ inr (made_by may) ]; config_stays = λ there. elim (makes.names repo_config) [ inl same ↦ same | inr may ↦ absurd (no_made remote r _ may) ]; files = makes.files; links = makes.links }

  rest_made : (commit : List ℕ) (s : State) {u w : View} → Makes remote r bytes u w → OnlyRests (text_answer (made_text commit)) s u w
  rest_made commit s makes = record { names = λ q. elim (makes.names q) [ inl same ↦ inl same | inr may ↦ inr (made_at remote r (record { commit = commit; is = refl }) may) ] }

  runs_line : (commit : List ℕ) {u w : View} → Makes remote r bytes u w → Runs (text_answer (made_text commit)) u w
  runs_line commit makes = record {
    said = [];
    so_far = none_yet (text_answer (made_text commit)) makes.printed;
    prefix = λ sound disk left. let just = just_made makes sound disk left in record { done = []; undone = []; prefix = refl; more = []; holds = refl; shown = just.shown; sound = just.sound };
    only_rests = λ none s at. rest_made commit s makes;
    untouched = λ why. absurd why;
  }

  runs_made : {u w : View} → Makes remote r bytes u w → (given : Given) → IsGivenTo (Exporting remote r) t given → (shown : Result World Elements) → Runs (answer_over (Exporting remote r) given shown) u w
  runs_made {u = u} {w = w} makes given gave shown = elim makes.good [
    | inl same ↦ begun (answer_over (Exporting remote r) given shown) (keeping same) (λ why. same_untouched same)
    | inr read ↦ subst (λ (a : Answer). Runs a u w) (line_is given gave read shown) (runs_line given.commit makes)
  ]

  made_on : {u w : View} → Makes remote r bytes u w → RunsCommand (Exporting remote r) t u w
  made_on makes = record {
    runs = λ given gave shown counts may. runs_made makes given gave shown;
    changes = λ known. alter_made makes;
    rests = λ change. absurd (cc change);
    untouched = λ why. elim why [ inl looks ↦ absurd (cc looks) | inr none ↦ absurd (cc none.0) ];
  }

  -- ---- it wasn't made

  stands_made : (a : Answer) {u w : View} → Makes remote r bytes u w → Stands a u w
  stands_made a makes = record { said = []; so_far = none_yet a makes.printed; just = λ sound disk left. just_made makes sound disk left }

  bad_closed : (line : ℕ) → described bytes ≡ Err line → {u w : View} → w ≡ u → (given : Given) → IsGivenTo (Exporting remote r) t given → (shown : Result World Elements) → Closed given.held (answer_over (Exporting remote r) given shown) (Err (end_of_make (make.BadRecord line))) u w
  bad_closed line bad {u = u} same given gave shown =
      subst (λ (v : View). Closed given.held (answer_over (Exporting remote r) given shown) (Err (end_of_make (make.BadRecord line))) u v) (sym same)
      (subst (λ (a : Answer). Closed given.held a (Err (end_of_make (make.BadRecord line))) u u) (bad_answer given.commit bytes line bad ∙ answer_is given gave shown) (refl, refused_at_once given.held (BadRecord line) u))

  ended_not : (e : MakeEnd) → IsMakeFault bytes e → {u w : View} → ((line : ℕ) → e ≡ make.BadRecord line → w ≡ u) → Makes remote r bytes u w → CommandHasEnded (Exporting remote r) t (Err (end_of_make e)) u w
  ended_not (make.BadRecord line) bad {u = u} same makes = record {
    ended = λ given gave shown counts may. bad_closed line bad (same line refl) given gave shown;
    given = λ by given gave. counts_constant (answer_over (Exporting remote r) given) (shows u) (λ shown other. refl);
    made = tt;
  }
  ended_not make.Fault bad same makes = record { ended = λ given gave shown counts may. tt; given = λ by given gave. absurd by; made = tt }
  ended_not make.NoMemory bad same makes = record { ended = λ given gave shown counts may. stands_made (answer_over (Exporting remote r) given shown) makes; given = λ by given gave. absurd by; made = tt }

  pub goes_not_made : {a b : Option Moments} (e : MakeEnd) (result : Result (Unit {0}) CommandEnd) → IsTold a → Always (Makes remote r bytes) a b → IsMakeFault bytes e → ((line : ℕ) → e ≡ make.BadRecord line → Unchanged a b)
      → IsErrAnd result (λ end. end ≡ end_of_make e) → Goes a b (RunsCommand (Exporting remote r) t) (CommandHasEnded (Exporting remote r) t result)
  goes_not_made {a = a} {b = b} e result known makes bad still err =
      subst (λ (x : Result (Unit {0}) CommandEnd). Goes a b (RunsCommand (Exporting remote r) t) (CommandHasEnded (Exporting remote r) t x)) (sym (is_end result (end_of_make e) err)) (by_end e bad still)
    where
      by_end : (e : MakeEnd) → IsMakeFault bytes e → ((line : ℕ) → e ≡ make.BadRecord line → Unchanged a b) → Goes a b (RunsCommand (Exporting remote r) t) (CommandHasEnded (Exporting remote r) t (Err (end_of_make e)))
      by_end (make.BadRecord line) bad still = begins known (goes_known makes (ends_looks known (still line refl))) (λ u w tree p. made_on p) (λ u w tree p q. ended_not (make.BadRecord line) bad (λ other is. q.1.0) q.0)
      by_end make.Fault bad still = begins known makes (λ u w tree p. made_on p) (λ u w tree p q. ended_not make.Fault bad (λ other is. absurd (cc is)) q)
      by_end make.NoMemory bad still = begins known makes (λ u w tree p. made_on p) (λ u w tree p q. ended_not make.NoMemory bad (λ other is. absurd (cc is)) q)

  -- ---- it was made, and its line is said

  module _ (line : List ℕ) where
    record HasMade (u v : View) : Type 0 where
      makes : Makes remote r bytes u v
      was : WasMade remote r bytes line u v

    first : {a b : Option Moments} → IsTold a → Always (Makes remote r bytes) a b → AtEnd (WasMade remote r bytes line) a b → Goes a b (RunsCommand (Exporting remote r) t) HasMade
    first known makes was = begins known (goes_known makes was) (λ u w tree p. made_on p) (λ u w tree p q. record { makes = q.0; was = q.1 })

    line_given : {u v : View} → HasMade u v → (given : Given) → IsGivenTo (Exporting remote r) t given → line ≡ made_text given.commit
    line_given h given gave =
        let same = (gave.commit given.input (given_all (Exporting remote r) t given refl gave)).each h.was.built (subst (λ (b : List ℕ). IsDescribed b r h.was.built) (all_given given gave) h.was.described_by) in
        h.was.line_is ∙ ap made_text same

    is_read : {u v : View} → HasMade u v → IsRead (described bytes)
    is_read h = record { description = h.was.described_by.description; is = h.was.described_by.reads }

    said_answer : {u v : View} → HasMade u v → (given : Given) → IsGivenTo (Exporting remote r) t given → (shown : Result World Elements) → text_answer line ≡ answer_over (Exporting remote r) given shown
    said_answer h given gave shown = ap text_answer (line_given h given gave) ∙ line_is given gave (is_read h) shown

    runs_said : {u v w : View} → HasMade u v → Says line v w → Runs (text_answer line) u w
    runs_said {u = u} {v = v} {w = w} h says = elim says.printed [
      | inl none ↦ record {
        said = [];
        so_far = none_yet (text_answer line) (none ∙ h.makes.printed);
        prefix = λ sound disk left. let just = just_on [] says.follows (just_made h.makes sound) disk left in record { done = []; undone = []; prefix = refl; more = []; holds = refl; shown = just.shown; sound = just.sound };
        only_rests = λ idle s at. rests s;
        untouched = λ why. absurd why;
      }
      | inr more ↦ record {
        said = piece_of line ∷ [];
        so_far = said_text line u w (more ∙ ap (λ (p : List ℕ). p ++ line) h.makes.printed);
        prefix = λ sound disk left. let just = just_on [] says.follows (just_made h.makes sound) disk left in record { done = []; undone = []; prefix = refl; more = []; holds = refl; shown = just.shown; sound = just.sound };
        only_rests = λ idle s at. rests s;
        untouched = λ why. absurd why;
      }
    ]
      where
        rests : (s : State) → OnlyRests (text_answer line) s u w
        rests s = rest_on (subst (λ (x : List ℕ). OnlyRests (text_answer x) s u v) (sym h.was.line_is) (rest_made h.was.built.commit s h.makes)) (rest_none says.untouched.names)

    said_on : {u v w : View} → HasMade u v → Says line v w → RunsCommand (Exporting remote r) t u w
    said_on {u = u} {v = v} {w = w} h says = record {
      runs = λ given gave shown counts may. subst (λ (a : Answer). Runs a u w) (said_answer h given gave shown) (runs_said h says);
      changes = λ known. alter_on u v w (alter_made h.makes) (alter_untouched says.untouched);
      rests = λ change. absurd (cc change);
      untouched = λ why. elim why [ inl looks ↦ absurd (cc looks) | inr none ↦ absurd (cc none.0) ];
    }

    shown_made : {u v : View} → HasMade u v → IsSound u → (s : State) → Shows (shows u) s → Shows (shows v) s
    shown_made {u = u} {v = v} h sound s at = elim (h.makes.opens sound s at) [
      | inl same ↦ subst (λ (x : View). Shows (shows x) s) (sym same) at
      | inr opens ↦ opens.shown (shows v) (now_left v)
    ]

    completes_said : (held : Holdings) {u v w : View} → HasMade u v → WasSaid line v w → Completes held (text_answer line) u w
    completes_said held {u = u} {v = v} {w = w} h said = record {
      printed = (said_text line u w (said.printed ∙ ap (λ (p : List ℕ). p ++ line) h.makes.printed)).printed;
      just = λ sound disk left. just_on [] said.follows (just_made h.makes sound) disk left;
      shown = λ sound s at. same_shown said.shown (shown_made h sound s at);
      tidied = λ sound why. elim why [ inl settled ↦ same_settled said.shown (h.was.settled settled) | inr some ↦ absurd (some refl) ];
      text = λ some s at. absurd (cc some);
      shares = λ no. shared_on (shared_by (λ q f above. a_made_one (below_child remote (codes "made" ∷ []) q above)) h.was.shares) (none_made said.untouched) (keeps_files said.untouched);
      files = files_on h.makes.files (keeps_files said.untouched);
      creates = λ no s at. no_ops_created held (world_at s u) [] refl (creates_on h.was.creates (none_created said.untouched) h.makes.files (keeps_files said.untouched));
    }

    leaves : {u v w : View} → HasMade u v → WasSaid line v w → MadeBy (Exporting remote r) t.left u w
    leaves {u = u} {v = v} {w = w} h said all told =
        let same = (whole all told).0 in
        let b = h.was.built in
        record {
          built = b;
          described_by = subst (λ (x : List ℕ). IsDescribed x r b) same h.was.described_by;
          printed = said.printed ∙ ap (λ (p : List ℕ). p ++ line) h.makes.printed ∙ ap (λ (l : List ℕ). u.printed ++ l) h.was.line_is;
          offered = λ fit disk left.
              let from = said.follows.from disk left in
              subst (IsOffered (have_of b.objects) (remote_store remote) r b.commit) (λ k q. (sym (unmoved from.2 q)) k) (h.was.exported.offered fit from.0 from.1);
          remotes_there = λ can none. said.untouched.names _ ∙ h.was.exported.remotes can none;
        }

    pub goes_made : {a b c : Option Moments} → IsTold a → IsTold b → Always (Makes remote r bytes) a b → AtEnd (WasMade remote r bytes line) a b → Goes b c (Says line) (SaidBy line (Ok tt))
        → Goes a c (RunsCommand (Exporting remote r) t) (CommandHasEnded (Exporting remote r) t (Ok tt))
    goes_made known known_b makes was says = goes_on known_b (first known makes was) says
        (λ u v w tree p h s. said_on h s)
        (λ u v w tree p h s said. record {
          ended = λ given gave shown counts may. subst (λ (a : Answer). Closed given.held a (Ok tt) u w) (said_answer h given gave shown) (refl, finishes_none given.held (text_answer line) refl (completes_said given.held h said));
          given = λ by given gave. counts_constant (answer_over (Exporting remote r) given) (shows u) (λ shown other. refl);
          made = leaves h said;
        })

    not_said : (e : HostEnd) (s : Result (Unit {0}) HostEnd) → s ≡ Err e → {u v w : View} → HasMade u v → SaidBy line s v w → CommandHasEnded (Exporting remote r) t (Err (end_of_run (end_of_host e))) u w
    not_said host.Fault s was h said = record { ended = λ given gave shown counts may. tt; given = λ by given gave. absurd by; made = tt }
    not_said host.NoMemory s was {u = u} {v = v} {w = w} h said =
        let same : w ≡ v = subst (λ (x : Result (Unit {0}) HostEnd). SaidBy line x v w) was said in
        record {
          ended = λ given gave shown counts may. subst (λ (x : View). Stands (answer_over (Exporting remote r) given shown) u x) (sym same) (stands_made (answer_over (Exporting remote r) given shown) h.makes);
          given = λ by given gave. absurd by;
          made = tt;
        }

    pub goes_not_said : {a b c : Option Moments} (e : HostEnd) (s : Result (Unit {0}) HostEnd) (result : Result (Unit {0}) CommandEnd) → IsTold a → IsTold b → Always (Makes remote r bytes) a b → AtEnd (WasMade remote r bytes line) a b → s ≡ Err e
        → Goes b c (Says line) (SaidBy line s) → IsErrAnd result (λ end. end ≡ end_of_run (end_of_host e)) → Goes a c (RunsCommand (Exporting remote r) t) (CommandHasEnded (Exporting remote r) t result)
    goes_not_said {a = a} {c = c} e s result known known_b makes was is says err =
        subst (λ (x : Result (Unit {0}) CommandEnd). Goes a c (RunsCommand (Exporting remote r) t) (CommandHasEnded (Exporting remote r) t x)) (sym (is_end result (end_of_run (end_of_host e)) err))
        (goes_on known_b (first known makes was) says (λ u v w tree p h q. said_on h q) (λ u v w tree p h q said. not_said e s is h said))

-- ---- why it fails

pub make_fault : {A : Type 0} (s : Result A MakeEnd) (result : Result (Unit {0}) CommandEnd) (e : MakeEnd) → s ≡ Err e → IsErrAnd result (λ end. end ≡ end_of_make e) → IsErrOf result Fault → IsErrOf s make.Fault
make_fault s result e was err fault = was ∙ ap (λ (x : MakeEnd). Err x) (of_make e (let both : Err (end_of_make e) ≡ Err Fault = sym (is_end result (end_of_make e) err) ∙ fault in cc both))
  where
    of_make : (e : MakeEnd) → end_of_make e ≡ Fault → e ≡ make.Fault
    of_make (make.BadRecord line) same = absurd (cc same)
    of_make make.Fault same = refl
    of_make make.NoMemory same = absurd (cc same)

-- and it is none of the remotes or of the input
pub make_remote_fault : (result : Result (Unit {0}) CommandEnd) (e : MakeEnd) → IsErrAnd result (λ end. end ≡ end_of_make e) → IsErrOf result RemoteFault → ⊥
make_remote_fault result e err fault = of_make e (let both : Err (end_of_make e) ≡ Err RemoteFault = sym (is_end result (end_of_make e) err) ∙ fault in cc both)
  where
    of_make : (e : MakeEnd) → end_of_make e ≡ RemoteFault → ⊥
    of_make (make.BadRecord line) same = cc same
    of_make make.Fault same = cc same
    of_make make.NoMemory same = cc same

pub make_input_fault : (result : Result (Unit {0}) CommandEnd) (e : MakeEnd) → IsErrAnd result (λ end. end ≡ end_of_make e) → IsErrOf result InputFault → ⊥
make_input_fault result e err fault = of_make e (let both : Err (end_of_make e) ≡ Err InputFault = sym (is_end result (end_of_make e) err) ∙ fault in cc both)
  where
    of_make : (e : MakeEnd) → end_of_make e ≡ InputFault → ⊥
    of_make (make.BadRecord line) same = cc same
    of_make make.Fault same = cc same
    of_make make.NoMemory same = cc same
