-- What changes are refused for: never for the words or the input.
use Rattle.std.proofs.Common.{◌≡◌, ◌++◌, ℕ, List, [], ◌∷◌, Bool, true, false, nat_le, leb, length, Option, Some, None, option_map, Result, Ok, Err, if◌then◌else◌, refl, subst}
use Rattle.std.specs.Prelude.{option_to_list, map}
use Rattle.std.specs.Option.{option_map_or}
use Rattle.fp_host.specs.Remote.{Holdings}
use Rattle.fp_base.specs.declared.object.ObjKind.{ObjKind}
use Rattle.fp_base.specs.declared.object.ObjKind.TheVariants as kinds
use Rattle.fp_base.specs.declared.meta_rule.MetaRule.{MetaRule}
use Rattle.fp_base.specs.declared.meta_rule.MetaRule.TheVariants as rules
use Rattle.fp_base.specs.declared.meta_rule.MetadataRule.TheVariants as metadata_rules
use Rattle.fp_base.specs.declared.what.What.TheVariants as whats
use Rattle.fp_keyfile.specs.declared.group.Group.{Group}
use Rattle.fp_keyfile.specs.declared.fault.KeyFault.{KeyFault}
use Rattle.fp_keyfile.specs.KeyFile.{file_of, text_of}
use Rattle.fp_name.specs.Refs.{Ref}
use Rattle.fp_small.specs.Config.{name_of}
use Rattle.fp_small.specs.Order.{has_name}
use Rattle.fp_small.specs.declared.state.State.{State}
use Rattle.fp_small.specs.declared.state.Layout.{Layout}
use Rattle.fp_small.specs.declared.state.Layout.TheVariants.{One, Two}
use Rattle.fp_small.specs.declared.state.RefRow.{RefRow}
use Rattle.fp_small.specs.declared.state.RemoteRow.{RemoteRow}
use Rattle.fp_small.specs.declared.state.Previous.{Previous}
use Rattle.fp_small.specs.declared.op.Op.{Op}
use Rattle.fp_small.specs.declared.op.Op.TheVariants as ops
use Rattle.fp_small.specs.declared.refusal.Refusal.{Refusal}
use Rattle.fp_small.specs.declared.refusal.Refusal.TheVariants as refusals
use Rattle.ost_model.specs.Objects.{Have, Fault, too_many, too_deep, missing, too_long, refused_mode, corrupt, malformed}
use Rattle.ost_head.specs.Heads.{head_of}
use Rattle.ost_refs.specs.Offers.{offered, after_mode, commit_said, wrong_mode, ref_at}
use Rattle.ost_walk.specs.Refusals.{refusal_of}
use Rattle.ost_refs.specs.declared.place.RefFile.{RefFile}
use Rattle.ost_refs.specs.declared.place.RefFile.TheVariants as files
use Rattle.dep_states.specs.After.{row_at}
use Rattle.dep_states.specs.Shown.{at_name, override_key, small_most}
use Rattle.op_change.specs.Applied.{op_refusal, done_with}
use Rattle.fl_meta.specs.declared.meta.Meta.{Meta}
use Rattle.fl_meta.specs.Metadata.{meta_of, meta_kind}
use Rattle.fl_extension.specs.declared.point.Point.{Point}
use Rattle.fl_extension.specs.Found.{has_ref, row_of}
use Rattle.fl_installed.specs.Described.{by_rules, by_lines, by_file, broken, described}
use Rattle.fl_installed.specs.Files.{metadata_file}
use Rattle.fl_installed.specs.Metadata.{runtime_named, points_in}
use Rattle.fl_installed.specs.Users.{first_user}
use Rattle.fl_plan.specs.Answers.{and_then, mapped}
use Rattle.fl_plan.specs.Offers.{offer_with, offer_of, have_at, chosen_with, chosen, first_of, in_turn as remotes_in_turn, first_offer}
use Rattle.fl_plan.specs.Runtimes.{if_offered, runtime_for, if_named}
use Rattle.fl_plan.specs.Extensions.{is_done, if_any, extension_at, with_points, with_extensions, with_runtime}
use Rattle.fl_plan.specs.Plans.{number_after, op_of, ops_within_limit, begun, extended, plan_with, planned as target_planned, is_at, time_of, target_of, planned_at, plan_of}
use Rattle.fl_plan.specs.Targets.{targets_of}
use Rattle.fl_words.specs.declared.command.Change.{Change}
use Rattle.fl_words.specs.declared.command.Change.TheVariants.{Pin, Unpin, RemoteAdd, RemoteModify, RemoteDelete, Install, UpdateAll, UpdateOne, Uninstall, UninstallUnused, Rollback, OverrideChange, OverrideReset}
use Rattle.fl_meta.specs.Names.{is_among}
use Rattle.fl_change.specs.World.{World, supplied, worlds_after}
use Rattle.fl_change.specs.Answer.{Answer, Piece, ops_of, done_answer, op_answer, refusal_answer, continued, each_over, unless, nothing}
use Rattle.fl_change.specs.Settings.{add_pin_refusal, drop_pin_refusal, add_remote_refusal, remote_refusal, first_from, in_use_refusal, drop_remote_refusal}
use Rattle.fl_change.specs.Overrides.{changed_row, long_refusal}
use Rattle.fl_change.specs.Refs.{op_over, ops_over, planned, if_remote, from_remote, installed_refusal, install_over, update_over, skipped, is_no_offer, unless_skipped, updated_from, target_over, used_refusal, uninstall_over, unused_in, drop_over, missing_refusal, back_to, previous_commit, previous_in, going_back, reset_over}
use Rattle.fl_change.specs.Turns.{change_over, in_turn, by_layout, migrating, changing}
use Rattle.fl_change.proofs.Pulled.{AllOf, OfHead, of_head, of_op}

-- no refusal of the words or of the input
abbrev pub IsLater : Refusal → Type 0
IsLater (refusals.BadWords index) = ⊥
IsLater (refusals.Limit whats.Input number) = ⊥
IsLater (refusals.BadRecord line) = ⊥
IsLater _ = Unit {0}

-- so it is for each refusal of an answer
abbrev pub Refuses : Answer → Type 0
Refuses a = AllOf IsLater a.refusal

-- and for one of these
abbrev pub Fails : {A : Type 0} → Result A Refusal → Type 0
Fails a = (r : Refusal) → a ≡ Err r → IsLater r

pub none_later : AllOf IsLater None
none_later r is = absurd (cc is)

pub one_later : (q : Refusal) → IsLater q → AllOf IsLater (Some q)
one_later q later r is = let same : q ≡ r = cc is in subst IsLater same later

pub err_later : {A : Type 0} (q : Refusal) → IsLater q → Fails {A = A} (Err q)
err_later q later r is = let same : q ≡ r = cc is in subst IsLater same later

ok_later : {A : Type 0} (a : A) → Fails {A = A} (Ok a)
ok_later a r is = absurd (cc is)

if_later : {A : Type 0} (b : Bool) (x y : Result A Refusal) → Fails x → Fails y → Fails (if b then x else y)
if_later true x y first second = first
if_later false x y first second = second

mapped_later : {A B : Type 0} (f : A → B) (a : Result A Refusal) → Fails a → Fails (mapped f a)
mapped_later f (Ok a) all = ok_later (f a)
mapped_later f (Err q) all = err_later q (all q refl)

then_later : {A B : Type 0} (a : Result A Refusal) (next : A → Result B Refusal) → Fails a → ((x : A) → Fails (next x)) → Fails (and_then a next)
then_later (Ok a) next first second = second a
then_later (Err q) next first second = err_later q (first q refl)

-- ---- heads, and commits that are brought

object_later : (d : List ℕ) (kind : ObjKind) (fault : Fault) → IsLater (refusal_of d kind fault)
object_later d kind too_many = tt
object_later d kind too_deep = tt
object_later d kind missing = tt
object_later d kinds.File (too_long size) = tt
object_later d kinds.Commit (too_long size) = tt
object_later d kinds.DirTree (too_long size) = tt
object_later d kinds.DirMeta (too_long size) = tt
object_later d kind (refused_mode mode) = tt
object_later d kind (corrupt got) = tt
object_later d kind (malformed rule) = tt

head_refusals : (since : Option ℕ) → OfHead IsLater since
head_refusals since = record {
  object = object_later;
  binding = λ name. tt;
  older = λ name have offered is. tt;
  reserved = λ commit. tt;
  metadata = λ name number rule. tt;
  long = λ size. tt;
}

head_later : (have : Have) (name : Ref) (commit : List ℕ) (since : Option ℕ) → Fails (head_of have name commit since)
head_later have name commit since = of_head IsLater since (head_refusals since) have name commit

-- ---- metadata

rules_later : (name : Ref) (m : Result Meta MetaRule) → Fails (by_rules name m)
rules_later name (Ok meta) = ok_later meta
rules_later name (Err rule) = err_later (broken name rule) (tt)

lines_later : (name : Ref) (f : Result (List Group) KeyFault) → Fails (by_lines name f)
lines_later name (Ok file) = rules_later name (meta_of (meta_kind name.kind) file)
lines_later name (Err fault) = err_later (refusals.BadMetadata name fault.line (metadata_rules.Key fault.rule)) (tt)

file_later : (name : Ref) (o : Option (List ℕ)) → Fails (by_file name o)
file_later name None = err_later (broken name rules.Absent) (tt)
file_later name (Some bytes) = lines_later name (file_of bytes)

pub described_later : (have : Have) (name : Ref) (commit : List ℕ) → Fails (described have name commit)
unfolding described
described_later have name commit = file_later name (metadata_file have commit)

-- ---- what a target is

declined_later : (remote : RemoteRow) (name : Ref) (f : RefFile) → Fails (commit_said remote name f)
declined_later remote name (files.Digest d) = ok_later d
declined_later remote name files.Absent = err_later (refusals.NoSuchRef remote.name name) (tt)
declined_later remote name files.Bad = err_later (refusals.NoSuchRef remote.name name) (tt)

mode_later : (remote : RemoteRow) (mode : Option (List ℕ)) (answer : Result (List ℕ) Refusal) → Fails answer → Fails (after_mode remote mode answer)
mode_later remote (Some mode) answer all = err_later (refusals.WrongMode remote.name mode) (tt)
mode_later remote None answer all = all

offered_later : (held : Holdings) (remote : RemoteRow) (name : Ref) → Fails (offered held remote name)
offered_later held remote name = mode_later remote (wrong_mode held remote.url) (commit_said remote name (ref_at held remote.url name)) (declined_later remote name (ref_at held remote.url name))

module _ (held : Holdings) (stored : Have) where
  chosen_later : (offer : _) → Fails (chosen held stored offer)
  unfolding chosen
  chosen_later offer = mapped_later (chosen_with offer) (head_of (have_at held stored offer.remote) offer.name offer.commit None) (head_later (have_at held stored offer.remote) offer.name offer.commit None)

  runtime_offered : (runtime : Ref) (o : Option _) → Fails (if_offered held stored runtime o)
  runtime_offered runtime None = err_later (refusals.RuntimeMissing runtime) (tt)
  runtime_offered runtime (Some offer) = mapped_later (λ c. Some c) (chosen held stored offer) (chosen_later offer)

  any_later : (o : Option _) → Fails (if_any held stored o)
  any_later None = ok_later None
  any_later (Some offer) = mapped_later (λ c. Some c.offer) (chosen held stored offer) (chosen_later offer)

  module _ (s : State) where
    runtime_later : (own : List ℕ) (runtime : Ref) → Fails (runtime_for held stored s own runtime)
    unfolding runtime_for
    runtime_later own runtime =
        let found = first_offer held (remotes_in_turn own s.remotes) runtime in
        if_later (has_ref s runtime) (Ok None) (if_offered held stored runtime found) (ok_later None) (runtime_offered runtime found)

    named_later : (own : List ℕ) (o : Option Ref) → Fails (if_named held stored s own o)
    named_later own None = ok_later None
    named_later own (Some runtime) = runtime_later own runtime

    extension_later : (remote : RemoteRow) (plan : List _) (point : Point) → Fails (extension_at held stored s remote plan point)
    unfolding extension_at
    extension_later remote plan point =
        let found = first_of (offer_of held remote) point.candidates in
        if_later (is_done s plan point) (Ok None) (if_any held stored found) (ok_later None) (any_later found)

    points_later : (remote : RemoteRow) (points : List Point) (plan : List _) → Fails (with_points held stored s remote points plan)
    points_later remote [] plan = ok_later plan
    points_later remote (point ∷ points) plan = then_later (extension_at held stored s remote plan point) (λ more. with_points held stored s remote points (plan ++ option_to_list more))
        (extension_later remote plan point) (λ more. points_later remote points (plan ++ option_to_list more))

    extensions_later : (owner : _) (plan : List _) → Fails (with_extensions held stored s owner plan)
    unfolding with_extensions
    extensions_later owner plan = points_later owner.offer.remote (points_in owner.offer.name owner.metadata) plan

    of_runtime : (runtime : Option _) (plan : List _) → Fails (with_runtime held stored s runtime plan)
    of_runtime None plan = ok_later plan
    of_runtime (Some runtime) plan = extensions_later runtime plan

    extended_later : (target : _) (runtime : Option _) → Fails (extended held stored s target runtime)
    unfolding extended
    extended_later target runtime = then_later (with_runtime held stored s runtime (begun runtime target)) (with_extensions held stored s target) (of_runtime runtime (begun runtime target)) (extensions_later target)

    within_later : (plan : List _) → Fails (ops_within_limit s plan)
    within_later plan = if_later (leb (number_after s plan) 4096) (Ok (map (op_of s) plan)) (Err (refusals.Limit whats.Refs 4097)) (ok_later (map (op_of s) plan))
        (err_later (refusals.Limit whats.Refs 4097) (tt))

    planned_later : (target : _) → Fails (target_planned held stored s target)
    unfolding target_planned
    planned_later target =
        let own = target.offer.remote.name in
        let named = runtime_named target.offer.name target.metadata in
        then_later (if_named held stored s own named) (plan_with held stored s target) (named_later own named)
        (λ runtime. then_later (extended held stored s target runtime) (ops_within_limit s) (extended_later target runtime) within_later)

    target_later : (offer : _) → Fails (target_of held stored s offer)
    unfolding target_of
    target_later offer =
        let since = time_of (row_of s offer.name) in
        mapped_later (chosen_with offer) (head_of (have_at held stored offer.remote) offer.name offer.commit since) (head_later (have_at held stored offer.remote) offer.name offer.commit since)

    at_offer : (offer : _) → Fails (planned_at held stored s offer)
    unfolding planned_at
    at_offer offer = if_later (is_at offer.commit (row_of s offer.name)) (Ok []) (and_then (target_of held stored s offer) (target_planned held stored s)) (ok_later [])
        (then_later (target_of held stored s offer) (target_planned held stored s) (target_later offer) planned_later)

    plan_later : (remote : RemoteRow) (name : Ref) → Fails (plan_of held stored s remote name)
    unfolding plan_of
    plan_later remote name = then_later (offered held remote name) (λ commit. planned_at held stored s (offer_with remote name commit)) (offered_later held remote name) (λ commit. at_offer (offer_with remote name commit))

-- ---- answers in turn

unless_later : (o : Option Refusal) (a : Answer) → AllOf IsLater o → Refuses a → Refuses (unless o a)
unless_later None a first second = second
unless_later (Some q) a first second = one_later q (first q refl)

pub continued_later : (pieces : List Piece) (o : Option Refusal) (b : Answer) → AllOf IsLater o → Refuses b → Refuses (continued pieces o b)
continued_later pieces None b first second = second
continued_later pieces (Some q) b first second = one_later q (first q refl)

each_later : {A : Type 0} (item : A → Holdings → World → Answer) → ((a : A) (held : Holdings) (x : World) → Refuses (item a held x)) → (xs : List A) (held : Holdings) (x : World) → Refuses (each_over item xs held x)
each_later item all [] held x = none_later
each_later item all (a ∷ more) held x =
    let y = worlds_after held x (ops_of (item a held x)) in
    continued_later (item a held x).pieces (item a held x).refusal (each_over item more held y) (all a held x) (each_later item all more held y)

pub found_later : {A : Type 0} (found : A → Answer) (none : Answer) (o : Option A) → ((a : A) → Refuses (found a)) → Refuses none → Refuses (option_map_or found o none)
found_later found none None first second = second
found_later found none (Some a) first second = first a

answer_if : (b : Bool) (x y : Answer) → Refuses x → Refuses y → Refuses (if b then x else y)
answer_if true x y first second = first
answer_if false x y first second = second

mapped_some : {A : Type 0} (f : A → Refusal) (o : Option A) → ((a : A) → IsLater (f a)) → AllOf IsLater (option_map f o)
mapped_some f None all = none_later
mapped_some f (Some a) all = one_later (f a) (all a)

-- ---- changes of refs

op_later : (op : Op) (held : Holdings) (x : World) → Refuses (op_over op held x)
op_later op held x = unless_later (op_refusal (supplied held x op) op) (done_answer (done_with (supplied held x op) op)) (of_op IsLater (head_refusals None) (supplied held x op) op) none_later

ops_later : (all : List Op) (held : Holdings) (x : World) → Refuses (ops_over all held x)
ops_later all held x = each_later op_over op_later all held x

module _ (held : Holdings) (x : World) where
  plan_answered : (r : Result (List Op) Refusal) → Fails r → Refuses (planned r held x)
  plan_answered (Ok all) later = ops_later all held x
  plan_answered (Err q) later = one_later q (later q refl)

  from_later : (remote : RemoteRow) (name : Ref) → Refuses (from_remote remote name held x)
  from_later remote name = plan_answered (plan_of held x.have x.state remote name) (plan_later held x.have x.state remote name)

  gone_later : (remote : List ℕ) → Refuses (refusal_answer (refusals.NoSuchRemote remote))
  gone_later remote = one_later (refusals.NoSuchRemote remote) (tt)

  absent_later : (name : Ref) → Refuses (refusal_answer (refusals.NotInstalled name))
  absent_later name = one_later (refusals.NotInstalled name) (tt)

  install_later : (remote : List ℕ) (name : Ref) → Refuses (install_over remote name held x)
  install_later remote name = found_later (λ row. unless (installed_refusal name (row_at x.state name)) (from_remote row name held x)) (refusal_answer (refusals.NoSuchRemote remote)) (at_name name_of x.state.remotes remote)
      (λ row. unless_later (installed_refusal name (row_at x.state name)) (from_remote row name held x) (mapped_some (λ (r : RefRow). refusals.AlreadyInstalled name) (row_at x.state name) (λ r. tt)) (from_later row name))
      (gone_later remote)

  update_later : (name : Ref) → Refuses (update_over name held x)
  update_later name = found_later (λ row. if_remote x row.origin (λ remote. from_remote remote name held x) (refusal_answer (refusals.NoSuchRemote row.origin))) (refusal_answer (refusals.NotInstalled name)) (row_at x.state name)
      (λ row. found_later (λ remote. from_remote remote name held x) (refusal_answer (refusals.NoSuchRemote row.origin)) (at_name name_of x.state.remotes row.origin) (λ remote. from_later remote name) (gone_later row.origin))
      (absent_later name)

  skipping_later : (name : Ref) (r : Result (List Op) Refusal) → Fails r → Refuses (unless_skipped name r held x)
  skipping_later name (Ok all) later = ops_later all held x
  skipping_later name (Err q) later = answer_if (is_no_offer q) (skipped name) (refusal_answer q) none_later (one_later q (later q refl))

  uninstall_later : (name : Ref) → Refuses (uninstall_over name held x)
  uninstall_later name = found_later (λ row. unless (used_refusal name (first_user x.have name x.state.refs)) (op_over (ops.Uninstall name) held x)) (refusal_answer (refusals.NotInstalled name)) (row_at x.state name)
      (λ row. unless_later (used_refusal name (first_user x.have name x.state.refs)) (op_over (ops.Uninstall name) held x) (mapped_some (λ (app : Ref). refusals.RuntimeInUse name app) (first_user x.have name x.state.refs) (λ app. tt)) (op_later (ops.Uninstall name) held x))
      (absent_later name)

  missing_later : (o : Option Ref) → AllOf IsLater (missing_refusal x.state o)
  missing_later None = none_later
  missing_later (Some runtime) = by (has_ref x.state runtime)
    where
      by : (b : Bool) → AllOf IsLater (if b then None else Some (refusals.RuntimeMissing runtime))
      by true = none_later
      by false = one_later (refusals.RuntimeMissing runtime) (tt)

  back_later : (name : Ref) (commit : List ℕ) (m : Result Meta Refusal) → Fails m → Refuses (back_to name commit m held x)
  back_later name commit (Ok meta) later = unless_later (missing_refusal x.state meta.runtime) (op_over (ops.Rollback name commit) held x) (missing_later meta.runtime) (op_later (ops.Rollback name commit) held x)
  back_later name commit (Err q) later = one_later q (later q refl)

  no_previous : (name : Ref) (o : Option Previous) → Fails (previous_commit name o)
  no_previous name None = err_later (refusals.NoPrevious name) (tt)
  no_previous name (Some p) = ok_later p.commit

  previous_later : (name : Ref) (o : Option RefRow) → Fails (previous_in name o)
  previous_later name None = err_later (refusals.NotInstalled name) (tt)
  previous_later name (Some row) = no_previous name row.previous

  going_later : (name : Ref) (r : Result (List ℕ) Refusal) → Fails r → Refuses (going_back name r held x)
  going_later name (Ok commit) later = back_later name commit (described x.have name commit) (described_later x.have name commit)
  going_later name (Err q) later = one_later q (later q refl)

  reset_later : (name : List ℕ) → Refuses (reset_over name held x)
  reset_later name = found_later (λ row. op_over (ops.DropOverride name) held x) nothing (at_name override_key x.state.overrides name) (λ row. op_later (ops.DropOverride name) held x) none_later

target_later_all : (name : Ref) (held : Holdings) (x : World) → Refuses (target_over name held x)
target_later_all name held x = found_later (λ row. if_remote x row.origin (λ remote. updated_from remote name held x) (skipped name)) nothing (row_at x.state name)
    (λ row. found_later (λ remote. updated_from remote name held x) (skipped name) (at_name name_of x.state.remotes row.origin) (λ remote. skipping_later held x name (plan_of held x.have x.state remote name) (plan_later held x.have x.state remote name)) none_later)
    none_later

drop_later : (name : Ref) (held : Holdings) (x : World) → Refuses (drop_over name held x)
drop_later name held x = found_later (λ row. op_over (ops.Uninstall name) held x) nothing (row_at x.state name) (λ row. op_later (ops.Uninstall name) held x) none_later

-- ---- changes of the settings

refused_if : (b : Bool) (q : Refusal) → IsLater q → AllOf IsLater (if b then None else Some q)
refused_if true q later = none_later
refused_if false q later = one_later q later

refused_or : (b c : Bool) (q r : Refusal) → IsLater q → IsLater r → AllOf IsLater (if b then Some q else (if c then Some r else None))
refused_or true c q r first second = one_later q first
refused_or false true q r first second = one_later r second
refused_or false false q r first second = none_later

drop_remote_later : (s : State) (name : List ℕ) (b : Bool) → AllOf IsLater (if b then in_use_refusal name (first_from name s.refs) else Some (refusals.NoSuchRemote name))
drop_remote_later s name true = mapped_some (λ (user : Ref). refusals.RemoteInUse name user) (first_from name s.refs) (λ user. tt)
drop_remote_later s name false = one_later (refusals.NoSuchRemote name) (tt)

change_later : (change : Change) (held : Holdings) (x : World) → Refuses (change_over change held x)
change_later (Pin pin) held x = unless_later (add_pin_refusal x.state.pins pin) (op_answer (ops.AddPin pin))
    (refused_or (is_among x.state.pins pin) (nat_le 1024 (length x.state.pins)) (refusals.PinExists pin) (refusals.Limit whats.Pins 1025) (tt) (tt)) none_later
change_later (Unpin pin) held x = unless_later (drop_pin_refusal x.state.pins pin) (op_answer (ops.DropPin pin)) (refused_if (is_among x.state.pins pin) (refusals.NoSuchPin pin) (tt)) none_later
change_later (RemoteAdd row) held x = unless_later (add_remote_refusal x.state.remotes row.name) (op_answer (ops.AddRemote row))
    (refused_or (has_name name_of x.state.remotes row.name) (nat_le 256 (length x.state.remotes)) (refusals.RemoteExists row.name) (refusals.Limit whats.Remotes 257) (tt) (tt)) none_later
change_later (RemoteModify row) held x = unless_later (remote_refusal x.state.remotes row.name) (op_answer (ops.ModifyRemote row)) (refused_if (has_name name_of x.state.remotes row.name) (refusals.NoSuchRemote row.name) (tt)) none_later
change_later (RemoteDelete name) held x = unless_later (drop_remote_refusal x.state name) (op_answer (ops.DropRemote name)) (drop_remote_later x.state name (has_name name_of x.state.remotes name)) none_later
change_later (Install remote name) held x = install_later held x remote name
change_later UpdateAll held x = each_later target_over target_later_all (targets_of x.state None) held x
change_later (UpdateOne name) held x = update_later held x name
change_later (Uninstall name) held x = uninstall_later held x name
change_later UninstallUnused held x = each_later drop_over drop_later (unused_in x) held x
change_later (Rollback name) held x = going_later held x name (previous_in name (row_at x.state name)) (previous_later held x name (row_at x.state name))
change_later (OverrideChange name options) held x =
    let row = changed_row x.state.overrides name options in
    let size = length (text_of row.file) in
    unless_later (long_refusal row) (op_answer (ops.SetOverride row)) (refused_if (nat_le size small_most) (refusals.Limit whats.Override size) (tt)) none_later
change_later (OverrideReset name) held x = reset_later held x name

-- ---- all changes

layout_later : (layout : Layout) → Refuses (by_layout layout)
layout_later One = none_later
layout_later Two = none_later

pub changing_later : (changes : List Change) (held : Holdings) (x : World) → Refuses (changing changes held x)
changing_later changes held x =
    let a = migrating held x in
    let y = worlds_after held x (ops_of a) in
    continued_later a.pieces a.refusal (in_turn changes held y) (layout_later x.state.layout) (each_later change_over change_later changes held y)
