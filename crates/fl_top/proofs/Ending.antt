-- The end of a run: the line of its refusal, and its status.
use Rattle.std.proofs.Common.{◌≡◌, ◌≤◌, ◌+◌, arith, Result, Err, inl, inr, ℕ, List, [], ◌∷◌, ◌++◌, Bool, true, false, nat_le, length, append_assoc, Option, Some, None, Ok, if◌then◌else◌, refl, sym, ◌∙◌, ap, subst}
use Rattle.std.specs.Prelude.{option_map, reverse}
use Rattle.std.proofs.lemmas.List.{append-nil}
use Rattle.std.proofs.lemmas.List.Elements.{filter_map-append}
use Rattle.fp_host.specs.Paths.{Elements}
use Rattle.fp_host.specs.Remote.{Holdings}
use Rattle.fp_host.specs.View.{View}
use Rattle.fp_host.specs.Outcome.{Disk, Leaves, Follows, Nothing}
use Rattle.dep_states.proofs.SharedAs.{shared_on}
use Rattle.fp_small.specs.declared.refusal.Refusal.{Refusal}
use Rattle.fp_small.specs.declared.refusal.Refusal.TheVariants.{MalformedObject, MalformedValue, Limit, BadRecord, Damaged}
use Rattle.fp_small.specs.declared.refusal.Refusal.TheVariants as refusals
use Rattle.fp_base.specs.declared.what.What.TheVariants.{Input}
use Rattle.fp_name.specs.Refs.{Ref}
use Rattle.dep_states.specs.Shown.{IsShown}
use Rattle.dep_states.specs.Sound.{IsSound}
use Rattle.dep_states.specs.After.{Done, after_all}
use Rattle.fl_lines.specs.Lines.{refusal_text, refs_text, pins_text, remotes_text}
use Rattle.fl_words.specs.Batch.{batch_of}
use Rattle.fl_words.specs.declared.command.Command.{Command}
use Rattle.fl_words.specs.declared.command.Command.TheVariants.{List as Listed, Show as Showing, Filter as Filtering, Fsck, Export as Exporting}
use Rattle.fl_words.specs.declared.command.Change.{Change}
use Rattle.fl_words.specs.declared.command.Listing.{Listing}
use Rattle.fl_words.specs.declared.command.Listing.TheVariants as listings
use Rattle.fl_words.specs.declared.command.Shown.{Shown}
use Rattle.fl_words.specs.declared.command.Shown.TheVariants as things
use Rattle.fl_words.specs.declared.command.PolicySource.{PolicySource}
use Rattle.fl_words.specs.declared.command.PolicySource.TheVariants as sources
use Rattle.bus_stream.specs.declared.recording.Recording.{Recording}
use Rattle.bus_stream.specs.Recordings.{recording_of}
use Rattle.bus_policy.specs.declared.policy.PolicyRule.{PolicyRule}
use Rattle.ost_description.specs.declared.description.Description.{Description}
use Rattle.ost_description.specs.Descriptions.{described}
use Rattle.bus_proxy.specs.Arrivals.{End, end_of}
use Rattle.fl_filter.specs.Filtered.{broken}
use Rattle.fl_launch.specs.declared.launching.LaunchText.{LaunchText}
use Rattle.fl_installed.specs.Refusals.{MayRefuse}
use Rattle.fl_installed.proofs.Refusing.{launch_refuses}
use Rattle.fl_change.specs.World.{World, world_at}
use Rattle.fl_change.specs.Answer.{Answer, Piece, lines_of, last_of, pieces_text, ops_in, ops_of, text_answer, refusal_answer}
use Rattle.fl_export.specs.Exported.{exported}
use Rattle.fl_top.specs.Fsck.{report_text}
use Rattle.fl_top.specs.Exports.{exports_text, HasExports, LeavesExports}
use Rattle.fl_installed.specs.Deployed.{DeployedFiles}
use Rattle.fl_top.specs.Answer.{Given, listing_answer, override_text, shown_by, shown_answer, of_batch, How, how, by_changes, by_batch, by_exercise, by_world, by_input, answer_by, answer_over, by_read, by_value, by_type, commit_shown, tree_shown, meta_shown, value_shown, over_input, launch_over, of_launch, on_session, on_system, rules_over, by_rules, of_recording, filtered_by, filter_by, of_description, commit_made}
use Rattle.fl_change.specs.Turns.{changing}
use Rattle.fl_top.specs.Objects.{commit_lines, tree_lines, meta_lines}
use Rattle.gv_value.specs.Shape.{Shape}
use Rattle.gv_value.specs.Tree.{Tree}
use Rattle.gv_value.specs.TypeText.{type_of}
use Rattle.gv_value.specs.Reading.{value_of}
use Rattle.fp_base.specs.declared.object.ObjKind.{ObjKind}
use Rattle.fp_base.specs.declared.object.ObjKind.TheVariants as kinds
use Rattle.fp_base.specs.declared.rule.Rule.{Rule}
use Rattle.ost_model.specs.Contents.{meta_digest}
use Rattle.ost_model.specs.Readers.{commit_read, tree_read, meta_read}
use Rattle.fl_top.specs.Input.{input_most}
use Rattle.fl_top.specs.Moment.{ShowsAfter, IsPrefix, IsJust, Runs}
use Rattle.fl_top.specs.Return.{Stands, Answers, WasRun, Completes, Finishes, Ended}
use Rattle.fl_change.specs.Performs.{Printed}
use Rattle.fl_change.specs.Says.{Says, WasSaid, Refuses}
use Rattle.fl_change.specs.Changes.{IsUntouched}
use Rattle.dep_states.specs.Names.{config}
use Rattle.fl_top.specs.Status.{status_of, status_by, IsAnswered}
use Rattle.fl_change.proofs.Same.{unmoved, same_shown, same_sound, same_settled}
use Rattle.fl_top.proofs.Starting.{stood, unchanged}
use Rattle.fl_change.proofs.Changing.{untouched_both, text_on, keeps_files, none_made}
use Rattle.fl_change.proofs.Created.{none_created, created_on}
use Rattle.fl_top.proofs.Altering.{rest_none, rest_on}
use Rattle.fl_change.proofs.Turning.{joined-append}
use Rattle.fl_top.specs.Exercising.{exercising}
use Rattle.fl_change.proofs.Refusing.{changing_later}
use Rattle.fl_top.proofs.Refusing.{has_status_one, exercising_later, known_later, launch_later}

-- ---- pieces

-- the line of a refusal acknowledges nothing
ops_last : (o : Option Refusal) → ops_in (last_of o) ≡ []
ops_last None = refl
ops_last (Some r) = refl

pub ops_lines : (a : Answer) → ops_in (lines_of a) ≡ ops_of a
ops_lines a = filter_map-append (λ (piece : Piece). piece.op) a.pieces (last_of a.refusal) ∙ ap (λ (l : List Done). ops_of a ++ l) (ops_last a.refusal) ∙ append-nil (ops_of a)

-- ---- what every stop leaves shows a state and is sound

after_shown : (u : View) (ops : List Done) (disk : Disk) → ShowsAfter u ops disk → IsShown disk
after_shown u [] disk at = record { state = at.2; shows = at.4 }
after_shown u (op ∷ ops) disk at = record { state = after_all at.0 (op ∷ ops); shows = at.2 }

pub runs_sound : {a : Answer} {u w : View} → Runs a u w → IsSound u → IsSound w
runs_sound {u = u} runs sound = record {
  shown = λ disk left. let p = runs.prefix sound disk left in after_shown u p.done disk p.shown;
  sound = λ disk left. (runs.prefix sound disk left).sound;
}

-- ---- a step that only prints

after_on : (u : View) (ops : List Done) (disk before : Disk) → ((p : Elements) → disk p ≡ before p) → ShowsAfter u ops before → ShowsAfter u ops disk
after_on u [] disk before same at = (at.0, at.1, at.2, at.3, same_shown same at.4)
after_on u (op ∷ ops) disk before same at = (at.0, at.1, same_shown same at.2)

pub just_on : (ops : List Done) {u v w : View} → Follows Nothing v w → ((disk : Disk) → Leaves v disk → IsJust ops u disk) → (disk : Disk) → Leaves w disk → IsJust ops u disk
just_on ops {u = u} follows just disk left =
    let from = follows.from disk left in
    let was = just from.0 from.1 in
    record { shown = after_on u ops disk from.0 (unmoved from.2) was.shown; sound = same_sound (unmoved from.2) was.sound }

-- all operations are done, and acknowledged by what was said
pub prefix_all : (a : Answer) (said : List Piece) {u : View} {disk : Disk} → ops_in said ≡ ops_of a → IsJust (ops_of a) u disk → IsPrefix a (ops_in said) u disk
prefix_all a said all just = record {
  done = ops_of a;
  undone = [];
  prefix = sym (append-nil (ops_of a));
  more = [];
  holds = sym all ∙ sym (append-nil (ops_in said));
  shown = just.shown;
  sound = just.sound;
}

-- the pieces before the line of the refusal
pub before_last : (a : Answer) {u w : View} → w.printed ≡ u.printed ++ pieces_text a.pieces → Printed a a.pieces u w
before_last a printed = record { left = last_of a.refusal; pieces = refl; printed = printed }

-- and all of them
all_lines : (a : Answer) {u w : View} → w.printed ≡ u.printed ++ pieces_text (lines_of a) → Printed a (lines_of a) u w
all_lines a printed = record { left = []; pieces = sym (append-nil (lines_of a)); printed = printed }

-- what is printed with the line of the refusal
with_last : (a : Answer) (r : Refusal) (u v w : View) → a.refusal ≡ Some r → v.printed ≡ u.printed ++ pieces_text a.pieces → w.printed ≡ v.printed ++ refusal_text r → w.printed ≡ u.printed ++ pieces_text (lines_of a)
with_last a r u v w is first more =
    more ∙ ap (λ (p : List ℕ). p ++ refusal_text r) first ∙ append_assoc u.printed (pieces_text a.pieces) (refusal_text r)
    ∙ ap (λ (t : List ℕ). u.printed ++ t) (ap (λ (t : List ℕ). pieces_text a.pieces ++ t) (last_text a r is) ∙ sym (joined-append a.pieces (last_of a.refusal)))
  where
    last_text : (a : Answer) (r : Refusal) → a.refusal ≡ Some r → refusal_text r ≡ pieces_text (last_of a.refusal)
    last_text a r is = sym (append-nil (refusal_text r)) ∙ ap (λ (o : Option Refusal). pieces_text (last_of o)) (sym is)

-- the exported files stand as they stood
exports_on : {v w : View} → Follows Nothing v w → LeavesExports v → LeavesExports w
exports_on follows exports disk left =
    let from = follows.from disk left in
    subst HasExports (λ k p. (sym (unmoved from.2 p)) k) (exports from.0 from.1)

pub untouched_on : {text : List ℕ} {u v w : View} → IsUntouched u v → Says text v w → IsUntouched u w
untouched_on is says = untouched_both is says.untouched

pub refusing : (held : Holdings) (a : Answer) (r : Refusal) {u v w : View} → a.refusal ≡ Some r → Runs a u v → Completes held a u v → Says (refusal_text r) v w → Runs a u w
refusing held a r {u = u} {v = v} {w = w} is runs done says = elim (says.printed) [
  | inl none ↦ record {
    said = a.pieces;
    so_far = before_last a (none ∙ done.printed);
    prefix = λ sound disk left. prefix_all a a.pieces refl (just_on (ops_of a) says.follows (done.just sound) disk left);
    only_rests = λ none s at. rest_on (runs.only_rests none s at) (rest_none says.untouched.names);
    untouched = λ why. untouched_on (runs.untouched why) says;
  }
  | inr more ↦ record {
    said = lines_of a;
    so_far = all_lines a (with_last a r u v w is done.printed more);
    prefix = λ sound disk left. prefix_all a (lines_of a) (ops_lines a) (just_on (ops_of a) says.follows (done.just sound) disk left);
    only_rests = λ none s at. rest_on (runs.only_rests none s at) (rest_none says.untouched.names);
    untouched = λ why. untouched_on (runs.untouched why) says;
  }
]

-- ---- at the return

stands_before : (held : Holdings) (a : Answer) {u w : View} → Completes held a u w → Stands a u w
stands_before held a done = record { said = a.pieces; so_far = before_last a done.printed; just = done.just }

stands_all : (held : Holdings) (a : Answer) (r : Refusal) {u v w : View} → a.refusal ≡ Some r → Completes held a u v → WasSaid (refusal_text r) v w → Stands a u w
stands_all held a r {u = u} {v = v} {w = w} is done said = record {
  said = lines_of a;
  so_far = all_lines a (with_last a r u v w is done.printed said.printed);
  just = λ sound disk left. subst (λ (ops : List Done). IsJust ops u disk) (sym (ops_lines a)) (just_on (ops_of a) said.follows (done.just sound) disk left);
}

answers_all : (held : Holdings) (a : Answer) (r : Refusal) (status : ℕ) {u v w : View} → a.refusal ≡ Some r → status ≡ status_of r → Finishes held a u v → WasSaid (refusal_text r) v w → Answers held a status u w
answers_all held a r status {u = u} {v = v} {w = w} is status_is finished said = record {
  status_is = status_is ∙ ap status_by (sym is);
  printed = with_last a r u v w is done.printed said.printed;
  shown = λ sound s at. same_shown said.shown (done.shown sound s at);
  tidied = λ sound why. same_settled said.shown (done.tidied sound why);
  exports = λ some sound. exports_on said.follows (finished.exports some sound);
  text = λ some s at. text_on (said.untouched.names config) (keeps_files said.untouched) (done.text some s at);
  shares = λ unpulled. shared_on (done.shares unpulled) (none_made said.untouched) (keeps_files said.untouched);
  creates = λ unpulled s at. created_on held (world_at s u) (ops_of a) (done.creates unpulled s at) (none_created said.untouched) done.files (keeps_files said.untouched);
}
  where
    done : Completes held a u v
    done = finished.completes

pub ran_done : (held : Holdings) (a : Answer) {u w : View} → Runs a u w → Ended held a (Ok tt) u w → WasRun held a 0 u w
ran_done held a {u = u} runs ended = record {
  answers = λ answered. record {
    status_is = ap status_by (sym ended.0);
    printed = ended.1.completes.printed ∙ ap (λ (t : List Piece). u.printed ++ pieces_text t) (sym (append-nil a.pieces) ∙ ap (λ (o : Option Refusal). a.pieces ++ last_of o) (sym ended.0));
    shown = ended.1.completes.shown;
    tidied = ended.1.completes.tidied;
    exports = ended.1.exports;
    text = ended.1.completes.text;
    shares = ended.1.completes.shares;
    creates = ended.1.completes.creates;
  };
  stands = λ three. stands_before held a ended.1.completes;
  sound = runs_sound runs;
}

pub not_answered : (n : ℕ) → 3 ≤ n → IsAnswered n → ⊥
not_answered n high answered = elim answered [
  | inl is ↦ omega (arith, high, is)
  | inr more ↦ elim more [ inl is ↦ omega (arith, high, is) | inr is ↦ omega (arith, high, is) ]
]

pub ran_fault : (held : Holdings) (a : Answer) {u w : View} → Runs a u w → WasRun held a 3 u w
ran_fault held a runs = record { answers = λ answered. absurd (not_answered 3 (omega arith) answered); stands = λ three. absurd (three refl); sound = runs_sound runs }

-- the input failed, and nothing was done
pub ran_input : (held : Holdings) (a : Answer) {u w : View} → Runs a u w → w ≡ u → WasRun held a 5 u w
ran_input held a {u = u} runs same = record { answers = λ answered. absurd (not_answered 5 (omega arith) answered); stands = λ three. subst (λ (x : View). Stands a u x) (sym same) (stood a unchanged); sound = runs_sound runs }

-- the remotes failed, or there was no memory
pub ran_halted : (held : Holdings) (a : Answer) (status : ℕ) {u w : View} → 4 ≤ status → Runs a u w → Stands a u w → WasRun held a status u w
ran_halted held a status high runs stands = record { answers = λ answered. absurd (not_answered status (omega (arith, high)) answered); stands = λ three. stands; sound = runs_sound runs }

pub ran_refused : (held : Holdings) (a : Answer) (r : Refusal) (status result : ℕ) {u v w : View} → a.refusal ≡ Some r → status ≡ status_of r → Finishes held a u v → Runs a u w → Refuses (refusal_text r) status result v w → WasRun held a result u w
ran_refused held a r status result {u = u} {w = w} is status_is done runs refuses = elim refuses [
  | inl said ↦ subst (λ (n : ℕ). WasRun held a n u w) (sym said.0) (record {
    answers = λ answered. answers_all held a r status is status_is done said.1;
    stands = λ three. stands_all held a r is done.completes said.1;
    sound = runs_sound runs;
  })
  | inr other ↦ elim other [
    | inl three ↦ subst (λ (n : ℕ). WasRun held a n u w) (sym three) (ran_fault held a runs)
    | inr six ↦ subst (λ (n : ℕ). WasRun held a n u w) (sym six.0) (ran_halted held a 6 (omega arith) runs (subst (λ (x : View). Stands a u x) (sym six.1) (stands_before held a done.completes)))
  ]
]

-- ---- a command is never refused as no command

one_of_some : (r q : Refusal) → Some r ≡ Some q → 1 ≡ status_of r → 1 ≡ status_of q
one_of_some r q is one = let same : r ≡ q = cc is in subst (λ (x : Refusal). 1 ≡ status_of x) same one

-- each refusal of the answer has the status 1
abbrev IsPlain : Answer → Type 0
IsPlain a = (r : Refusal) → a.refusal ≡ Some r → 1 ≡ status_of r

changing_plain : (changes : List Change) (held : Holdings) (x : World) → IsPlain (changing changes held x)
changing_plain changes held x r is = has_status_one r (changing_later changes held x r is)

over_plain : (f : World → Answer) (shown : Result World Elements) → ((x : World) → IsPlain (f x)) → IsPlain (shown_answer f shown)
over_plain f (Err path) plain r is = one_of_some (Damaged path) r is refl
over_plain f (Ok x) plain r is = plain x r is

exercising_plain : (apps : ℕ) (held : Holdings) (x : World) → IsPlain (exercising apps held x)
exercising_plain apps held x r is = has_status_one r (exercising_later apps held x r is)

batch_plain : (read : Result (List Change) ℕ) (held : Holdings) (shown : Result World Elements) → IsPlain (of_batch read held shown)
batch_plain (Err line) held shown r is = one_of_some (BadRecord line) r is refl
batch_plain (Ok changes) held shown r is = over_plain (changing changes held) shown (changing_plain changes held) r is

if_plain : (b : Bool) (x y : Answer) → IsPlain x → IsPlain y → IsPlain (if b then x else y)
if_plain true x y first second = first
if_plain false x y first second = second

told_plain : (text : List ℕ) → IsPlain (text_answer text)
told_plain text r is = absurd (cc is)

read_plain : {A : Type 0} (digest : List ℕ) (kind : ObjKind) (lines : A → List ℕ) (read : Result A Rule) → IsPlain (by_read digest kind lines read)
read_plain digest kind lines (Ok a) r is = absurd (cc is)
read_plain digest kind lines (Err rule) r is = one_of_some (MalformedObject digest kind rule) r is refl

tree_plain : (bytes : List ℕ) (value : Option Tree) → IsPlain (by_value bytes value)
tree_plain bytes None r is = one_of_some (MalformedValue (meta_digest bytes)) r is refl
tree_plain bytes (Some value) r is = absurd (cc is)

type_plain : (of : Option Shape) (bytes : List ℕ) → IsPlain (by_type of bytes)
type_plain None bytes = tree_plain bytes None
type_plain (Some of) bytes = tree_plain bytes (value_of of bytes)

commit_plain : (bytes : List ℕ) → IsPlain (commit_shown bytes)
unfolding commit_shown
commit_plain bytes = read_plain (meta_digest bytes) kinds.Commit commit_lines (commit_read bytes)

dirtree_plain : (bytes : List ℕ) → IsPlain (tree_shown bytes)
unfolding tree_shown
dirtree_plain bytes = read_plain (meta_digest bytes) kinds.DirTree tree_lines (tree_read bytes)

dirmeta_plain : (bytes : List ℕ) → IsPlain (meta_shown bytes)
unfolding meta_shown
dirmeta_plain bytes = read_plain (meta_digest bytes) kinds.DirMeta meta_lines (meta_read bytes)

value_plain : (of bytes : List ℕ) → IsPlain (value_shown of bytes)
unfolding value_shown
value_plain of bytes = type_plain (type_of of) bytes

input_plain : (f : List ℕ → Answer) (input : List ℕ) → IsPlain (f input) → IsPlain (over_input f input)
input_plain f input plain = if_plain (nat_le (length input) input_most) (f input) (refusal_answer (Limit Input (input_most + 1))) plain (λ r is. one_of_some (Limit Input (input_most + 1)) r is refl)

shown_plain : (thing : Shown) (bytes : List ℕ) → IsPlain (shown_by thing bytes)
shown_plain things.Commit bytes = commit_plain bytes
shown_plain things.DirTree bytes = dirtree_plain bytes
shown_plain things.DirMeta bytes = dirmeta_plain bytes
shown_plain (things.Value of) bytes = value_plain of bytes

listed_plain : (files : DeployedFiles) (listing : Listing) (x : World) → IsPlain (listing_answer files listing x)
listed_plain files listings.Refs x = told_plain (refs_text x.state.refs)
listed_plain files listings.Pins x = told_plain (pins_text x.state.pins)
listed_plain files listings.Remotes x = told_plain (remotes_text x.state.remotes)
listed_plain files listings.Exports x = told_plain (exports_text (exported x.have x.state))
listed_plain files (listings.Info name) x = λ r is. has_status_one r (known_later files name x r is)
listed_plain files (listings.Launch name options) x = λ r is. has_status_one r (launch_later files name options x r is)
listed_plain files (listings.OverrideShow name) x = told_plain (override_text x.state name)

end_plain : (end : Option End) → IsPlain (record { pieces = []; refusal = option_map broken end })
end_plain None r is = absurd (cc is)
end_plain (Some end) r is = one_of_some (broken end) r is refl

-- what speaks against rules
abbrev IsLaunchPlain : {A : Type 0} → Result A Refusal → Type 0
IsLaunchPlain read = (r : Refusal) → read ≡ Err r → 1 ≡ status_of r

may_plain : (r : Refusal) → MayRefuse r → 1 ≡ status_of r
may_plain (refusals.NotInstalled name) may = refl
may_plain (refusals.RuntimeMissing name) may = refl
may_plain (refusals.BadMetadata name line rule) may = refl
may_plain (refusals.BadWords index) may = absurd may
may_plain (refusals.NoSuchRemote remote) may = absurd may
may_plain (refusals.RemoteExists remote) may = absurd may
may_plain (refusals.RemoteInUse remote name) may = absurd may
may_plain (refusals.WrongMode remote mode) may = absurd may
may_plain (refusals.NoSuchRef remote name) may = absurd may
may_plain (refusals.AlreadyInstalled name) may = absurd may
may_plain (refusals.RuntimeInUse runtime app) may = absurd may
may_plain (refusals.MissingObject digest kind) may = absurd may
may_plain (refusals.CorruptObject digest kind got) may = absurd may
may_plain (refusals.MalformedObject digest kind rule) may = absurd may
may_plain (refusals.MalformedValue digest) may = absurd may
may_plain (refusals.ModeRefused digest kind mode) may = absurd may
may_plain (refusals.ReservedName commit) may = absurd may
may_plain (refusals.RefBinding name) may = absurd may
may_plain (refusals.Older name have offered) may = absurd may
may_plain (refusals.PinExists pin) may = absurd may
may_plain (refusals.NoSuchPin pin) may = absurd may
may_plain (refusals.Limit what number) may = absurd may
may_plain (refusals.BadRecord line) may = absurd may
may_plain (refusals.BadMessage side index rule) may = absurd may
may_plain (refusals.Damaged path) may = absurd may
may_plain (refusals.NoPrevious name) may = absurd may

err_plain : {A : Type 0} (read : Result A Refusal) (q r : Refusal) → 1 ≡ status_of q → read ≡ Err q → read ≡ Err r → 1 ≡ status_of r
err_plain read q r one first second = let both : Err q ≡ Err r = sym first ∙ second in let same : q ≡ r = cc both in subst (λ (x : Refusal). 1 ≡ status_of x) same one

launch_plain : (files : DeployedFiles) (name : Ref) (shown : Result World Elements) → IsLaunchPlain (launch_over files name shown)
launch_plain files name (Err path) r is = err_plain (launch_over files name (Err path)) (Damaged path) r refl refl is
launch_plain files name (Ok x) r is = may_plain r (launch_refuses files x.state name [] r is)

of_launch_plain : (rules : LaunchText → List PolicyRule) (launch : Result LaunchText Refusal) → IsLaunchPlain launch → IsLaunchPlain (of_launch rules launch)
of_launch_plain rules (Err q) plain r is = err_plain (of_launch rules (Err q)) q r (plain q refl) refl is
of_launch_plain rules (Ok launch) plain r is = absurd (cc is)

rules_plain : (files : DeployedFiles) (source : PolicySource) (shown : Result World Elements) → IsLaunchPlain (rules_over files source shown)
rules_plain files (sources.Rules words) shown r is = absurd (cc is)
rules_plain files (sources.Session name) shown r is = of_launch_plain (on_session name) (launch_over files name shown) (launch_plain files name shown) r is
rules_plain files (sources.System name) shown r is = of_launch_plain on_system (launch_over files name shown) (launch_plain files name shown) r is

by_rules_plain : (recording : Recording) (rules : Result (List PolicyRule) Refusal) → IsLaunchPlain rules → IsPlain (by_rules recording rules)
by_rules_plain recording (Err q) plain r is = one_of_some q r is (plain q refl)
by_rules_plain recording (Ok rules) plain r is = end_plain (end_of (reverse recording.pieces)) r is

recording_plain : (rules : Result (List PolicyRule) Refusal) (read : Result Recording ℕ) → IsLaunchPlain rules → IsPlain (of_recording rules read)
recording_plain rules (Err line) plain r is = one_of_some (BadRecord line) r is refl
recording_plain rules (Ok recording) plain r is = by_rules_plain recording rules plain r is

filtered_plain : (rules : Result (List PolicyRule) Refusal) (bytes : List ℕ) → IsLaunchPlain rules → IsPlain (filtered_by rules bytes)
unfolding filtered_by
filtered_plain rules bytes plain = recording_plain rules (recording_of bytes) plain

filter_plain : (files : DeployedFiles) (source : PolicySource) (shown : Result World Elements) (bytes : List ℕ) → IsPlain (filter_by files source shown bytes)
filter_plain files source shown bytes = filtered_plain (rules_over files source shown) bytes (rules_plain files source shown)

description_plain : (commit : List ℕ) (read : Result Description ℕ) → IsPlain (of_description commit read)
description_plain commit (Err line) r is = one_of_some (BadRecord line) r is refl
description_plain commit (Ok description) r is = absurd (cc is)

made_plain : (commit bytes : List ℕ) → IsPlain (commit_made commit bytes)
unfolding commit_made
made_plain commit bytes = description_plain commit (described bytes)

-- what a command answers by the world, or by the input, is plain
abbrev IsPlainly : How → Type 0
IsPlainly (by_world f) = (given : Given) (x : World) → IsPlain (f given x)
IsPlainly (by_input f) = (given : Given) (shown : Result World Elements) (bytes : List ℕ) → IsPlain (f given shown bytes)
IsPlainly _ = Unit {0}

plainly : (command : Command) → IsPlainly (how command)
plainly (Listed listing) = λ given. listed_plain given.files listing
plainly (Showing thing) = λ given shown. shown_plain thing
plainly (Filtering source) = λ given. filter_plain given.files source
plainly Fsck = λ given x. told_plain (report_text given.report)
plainly (Exporting remote name) = λ given shown. made_plain given.commit
plainly _ = tt

by_plain : (way : How) → IsPlainly way → (given : Given) (shown : Result World Elements) → IsPlain (answer_by way given shown)
by_plain (by_changes changes) plain given shown = over_plain (changing changes given.held) shown (changing_plain changes given.held)
by_plain by_batch plain given shown = input_plain (λ bytes. of_batch (batch_of bytes) given.held shown) given.input (batch_plain (batch_of given.input) given.held shown)
by_plain (by_exercise apps) plain given shown = over_plain (exercising apps given.held) shown (exercising_plain apps given.held)
by_plain (by_world f) plain given shown = over_plain (f given) shown (plain given)
by_plain (by_input f) plain given shown = input_plain (f given shown) given.input (plain given shown given.input)

pub command_plain : (command : Command) (given : Given) (shown : Result World Elements) → IsPlain (answer_over command given shown)
command_plain command given shown = by_plain (how command) (plainly command) given shown
