-- A launch of refs, digests and values reads back.
use Rattle.std.proofs.Common.{◌≡◌, ◌==◌, ℕ, Bool, true, false, ◌&&◌, cond, List, [], ◌∷◌, ◌++◌, length, codes, Option, Some, None, refl, ◌∙◌}
use Rattle.std.specs.List.{list_all}
use Rattle.std.specs.Str.{is_utf8}
use Rattle.std.proofs.lemmas.Bool.{and_from}
use Rattle.std.proofs.lemmas.List.Folds.{list_all-append}
use Rattle.fp_keyfile.specs.Grammar.{is_key, is_value}
use Rattle.fp_keyfile.specs.KeyFile.{is_good_pair}
use Rattle.fp_keyfile.proofs.Good.{good_pair_from}
use Rattle.fp_name.specs.Refs.{Ref, ref_text}
use Rattle.fp_small.specs.declared.state.State.{State}
use Rattle.fl_meta.specs.declared.permission.Mention.{Mention}
use Rattle.fl_context.proofs.Ascending.{merged_ascends}
use Rattle.fl_context.proofs.Merging.{value_in-merged}
use Rattle.fl_extension.specs.declared.point.Point.{Point}
use Rattle.fl_override.specs.Overrides.{AllCanWrite}
use Rattle.fl_override.specs.Written.{pair_if}
use Rattle.fl_override.proofs.Reading.{utf8_ascii}
use Rattle.fl_override.proofs.Sets.{last_written}
use Rattle.fl_launch.specs.Extensions.{commit_of, extensions_of}
use Rattle.fl_launch.specs.Granted.{has_session_bus}
use Rattle.fl_launch.specs.Groups.{pair_of, command_pairs, application_pairs, instance_pairs, IsCommand, IsLaunchable, LaunchReadsBack}
use Rattle.fl_launch.specs.Launch.{word}
use Rattle.fl_launch.specs.Layers.{granted_by}
use Rattle.fl_launch.proofs.GoodGroups.{groups_read_back}
use Rattle.fl_launch.proofs.Values.{is_dark, value_dark, utf8_dark, ref_dark, commit_dark, extensions_dark}

good_value : (key value : List ℕ) → is_key key ≡ true → is_utf8 key ≡ true → is_value value ≡ true → is_utf8 value ≡ true → is_good_pair (pair_of key value) ≡ true
good_value key value k u v t = good_pair_from (pair_of key value) (record { key = k; value = v; key_text = u; value_text = t })

good_dark : (key value : List ℕ) → is_key key ≡ true → is_utf8 key ≡ true → list_all is_dark value ≡ true → is_good_pair (pair_of key value) ≡ true
good_dark key value k u d = good_value key value k u (value_dark value d) (utf8_dark value d)

if_dark : (key value : List ℕ) → is_key key ≡ true → is_utf8 key ≡ true → list_all is_dark value ≡ true → list_all is_good_pair (pair_if key value) ≡ true
if_dark key value k u d = by (length value == 0)
  where
    by : (b : Bool) → list_all is_good_pair (cond b [] (pair_of key value ∷ [])) ≡ true
    by true = refl
    by false = and_from (is_good_pair (pair_of key value)) true (good_dark key value k u d) refl

command_good : (command : Option (List ℕ)) → IsCommand command → list_all is_good_pair (command_pairs command) ≡ true
command_good None h = refl
command_good (Some command) h = and_from (is_good_pair (pair_of (codes "command") command)) true (good_value (codes "command") command refl (utf8_ascii _ refl) h.0 h.1) refl

word_dark : (b : Bool) → list_all is_dark (word b) ≡ true
unfolding is_dark
word_dark true = refl
word_dark false = refl

application_good : (name runtime : Ref) (command : Option (List ℕ)) → list_all is_dark name.id ≡ true → list_all is_dark (ref_text runtime) ≡ true → IsCommand command → list_all is_good_pair (application_pairs name runtime command) ≡ true
application_good name runtime command id text h =
    and_from (is_good_pair (pair_of (codes "name") name.id)) _ (good_dark (codes "name") name.id refl (utf8_ascii _ refl) id)
    (and_from (is_good_pair (pair_of (codes "runtime") (ref_text runtime))) _ (good_dark (codes "runtime") (ref_text runtime) refl (utf8_ascii _ refl) text) (command_good command h))

ends_good : (app runtime proxy : List ℕ) → list_all is_dark app ≡ true → list_all is_dark runtime ≡ true → list_all is_dark proxy ≡ true
    → list_all is_good_pair (pair_if (codes "app-extensions") app ++ (pair_if (codes "runtime-extensions") runtime ++ pair_of (codes "session-bus-proxy") proxy ∷ [])) ≡ true
ends_good app runtime proxy a r p =
    let last = pair_of (codes "session-bus-proxy") proxy ∷ [] in
    let front = pair_if (codes "app-extensions") app in
    let middle = pair_if (codes "runtime-extensions") runtime in
    list_all-append is_good_pair front (middle ++ last)
    ∙ and_from (list_all is_good_pair front) (list_all is_good_pair (middle ++ last)) (if_dark (codes "app-extensions") app refl (utf8_ascii _ refl) a)
    (list_all-append is_good_pair middle last
    ∙ and_from (list_all is_good_pair middle) (list_all is_good_pair last) (if_dark (codes "runtime-extensions") runtime refl (utf8_ascii _ refl) r)
    (and_from (is_good_pair (pair_of (codes "session-bus-proxy") proxy)) true (good_dark (codes "session-bus-proxy") proxy refl (utf8_ascii _ refl) p) refl))

instance_good : (state : State) (name runtime : Ref) (app_points runtime_points : List Point) (command : Option (List ℕ)) (grants : List Mention) → IsLaunchable state name runtime app_points runtime_points command
    → list_all is_good_pair (instance_pairs state name runtime app_points runtime_points grants) ≡ true
instance_good state name runtime app_points runtime_points command grants h =
    let own = ref_dark name h.name_is in
    and_from (is_good_pair (pair_of (codes "app-commit") (commit_of state name))) _ (good_dark (codes "app-commit") (commit_of state name) refl (utf8_ascii _ refl) (commit_dark state name h.commits))
    (and_from (is_good_pair (pair_of (codes "runtime-commit") (commit_of state runtime))) _ (good_dark (codes "runtime-commit") (commit_of state runtime) refl (utf8_ascii _ refl) (commit_dark state runtime h.commits))
    (and_from (is_good_pair (pair_of (codes "arch") name.arch)) _ (good_dark (codes "arch") name.arch refl (utf8_ascii _ refl) own.arch)
    (and_from (is_good_pair (pair_of (codes "branch") name.branch)) _ (good_dark (codes "branch") name.branch refl (utf8_ascii _ refl) own.branch)
    (ends_good (extensions_of state app_points) (extensions_of state runtime_points) (word (has_session_bus grants)) (extensions_dark state app_points h.commits h.of_app) (extensions_dark state runtime_points h.commits h.of_runtime) (word_dark (has_session_bus grants))))))

pub launch_reads_back : LaunchReadsBack
launch_reads_back state name runtime app_points runtime_points command mentions h can =
    let grants = granted_by mentions in
    let up = merged_ascends mentions in
    groups_read_back state name runtime app_points runtime_points command grants
    (application_good name runtime command (ref_dark name h.name_is).id (ref_dark runtime h.runtime_is).text h.command_is)
    (instance_good state name runtime app_points runtime_points command grants h)
    (last_written grants mentions up (value_in-merged mentions) can) up
