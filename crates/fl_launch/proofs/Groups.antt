-- A launch's text is that of its groups, with the mounts after them.
use Rattle.std.proofs.Common.{◌≡◌, ◌==◌, ℕ, Bool, true, false, cond, List, [], ◌∷◌, ◌++◌, length, codes, Option, Some, None, refl, sym, ap, ◌∙◌, append_assoc, append-nil}
use Rattle.std.specs.List.{flat_map}
use Rattle.std.proofs.lemmas.List.Concat.{flat_map-append}
use Rattle.fp_keyfile.specs.declared.group.Pair.{Pair}
use Rattle.fp_keyfile.specs.KeyFile.{pair_text, group_text, text_of}
use Rattle.fp_name.specs.Refs.{Ref, ref_text}
use Rattle.fp_small.specs.declared.state.State.{State}
use Rattle.fl_meta.specs.declared.permission.Mention.{Mention}
use Rattle.fl_extension.specs.declared.point.Point.{Point}
use Rattle.fl_override.specs.Written.{pair_if}
use Rattle.fl_launch.specs.Granted.{granted_groups, has_session_bus}
use Rattle.fl_launch.specs.Extensions.{commit_of, extensions_of, mount_lines}
use Rattle.fl_launch.specs.Launch.{header, line, line_if, command_line, application, commits, extension_lines, word, proxy_line, mounts}
use Rattle.fl_launch.specs.Groups.{pair_of, command_pairs, application_pairs, instance_pairs, group, launch_groups, TextIsOfGroups}

-- ---- lines

group_as : (name : List ℕ) (pairs : List Pair) → header name ++ flat_map pair_text pairs ≡ group_text (group name pairs)
unfolding header
group_as name pairs = ap (λ (t : List ℕ). 91 ∷ t) (append_assoc name (93 ∷ 10 ∷ []) (flat_map pair_text pairs))

command_as : (command : Option (List ℕ)) → command_line command ≡ flat_map pair_text (command_pairs command)
unfolding command_line line
command_as None = refl
command_as (Some command) = sym (append-nil (pair_text (pair_of (codes "command") command)))

if_as : (key value : List ℕ) → line_if key value ≡ flat_map pair_text (pair_if key value)
unfolding line_if line
if_as key value = by (length value == 0)
  where
    by : (b : Bool) → cond b [] (pair_text (pair_of key value)) ≡ flat_map pair_text (cond b [] (pair_of key value ∷ []))
    by true = refl
    by false = sym (append-nil (pair_text (pair_of key value)))

-- ---- groups

application_as : (name runtime : Ref) (command : Option (List ℕ)) → application name runtime command ≡ group_text (group (codes "Application") (application_pairs name runtime command))
unfolding application line
application_as name runtime command =
    ap (λ (t : List ℕ). header (codes "Application") ++ (pair_text (pair_of (codes "name") name.id) ++ (pair_text (pair_of (codes "runtime") (ref_text runtime)) ++ t))) (command_as command)
    ∙ group_as (codes "Application") (application_pairs name runtime command)

-- lines one after another
in_turn : (h a b d e x y p : List ℕ) → (h ++ (a ++ (b ++ (d ++ e)))) ++ ((x ++ y) ++ p) ≡ h ++ (a ++ (b ++ (d ++ (e ++ (x ++ (y ++ (p ++ [])))))))
in_turn h a b d e x y p = simp (append_assoc, append-nil) refl

pairs_in_turn : (xs ys : List Pair) (p : Pair) → flat_map pair_text (xs ++ (ys ++ p ∷ [])) ≡ flat_map pair_text xs ++ (flat_map pair_text ys ++ (pair_text p ++ []))
pairs_in_turn xs ys p = flat_map-append pair_text xs (ys ++ p ∷ []) ∙ ap (λ (t : List ℕ). flat_map pair_text xs ++ t) (flat_map-append pair_text ys (p ∷ []))

instance_as : (state : State) (name runtime : Ref) (app_points runtime_points : List Point) (grants : List Mention)
    → commits state name runtime ++ (extension_lines state app_points runtime_points ++ proxy_line grants) ≡ group_text (group (codes "Instance") (instance_pairs state name runtime app_points runtime_points grants))
unfolding commits extension_lines proxy_line line
instance_as state name runtime app_points runtime_points grants =
    let h = header (codes "Instance") in
    let a = pair_text (pair_of (codes "app-commit") (commit_of state name)) in
    let b = pair_text (pair_of (codes "runtime-commit") (commit_of state runtime)) in
    let d = pair_text (pair_of (codes "arch") name.arch) in
    let e = pair_text (pair_of (codes "branch") name.branch) in
    let of_app = extensions_of state app_points in
    let of_runtime = extensions_of state runtime_points in
    let proxy = pair_of (codes "session-bus-proxy") (word (has_session_bus grants)) in
    in_turn h a b d e (line_if (codes "app-extensions") of_app) (line_if (codes "runtime-extensions") of_runtime) (pair_text proxy)
    ∙ ap (λ (t : List ℕ). h ++ (a ++ (b ++ (d ++ (e ++ (t ++ (line_if (codes "runtime-extensions") of_runtime ++ (pair_text proxy ++ [])))))))) (if_as (codes "app-extensions") of_app)
    ∙ ap (λ (t : List ℕ). h ++ (a ++ (b ++ (d ++ (e ++ (flat_map pair_text (pair_if (codes "app-extensions") of_app) ++ (t ++ (pair_text proxy ++ [])))))))) (if_as (codes "runtime-extensions") of_runtime)
    ∙ ap (λ (t : List ℕ). h ++ (a ++ (b ++ (d ++ (e ++ t))))) (sym (pairs_in_turn (pair_if (codes "app-extensions") of_app) (pair_if (codes "runtime-extensions") of_runtime) proxy))
    ∙ group_as (codes "Instance") (instance_pairs state name runtime app_points runtime_points grants)

-- ---- the text

regroup : (a c e p g m : List ℕ) → a ++ (c ++ (e ++ (p ++ (g ++ m)))) ≡ (a ++ ((c ++ (e ++ p)) ++ g)) ++ m
regroup a c e p g m = simp append_assoc refl

pub text_is_of_groups : TextIsOfGroups
unfolding launch_groups text_of
text_is_of_groups state name runtime app_points runtime_points command grants =
    let g = text_of (granted_groups grants) in
    let m = mounts (mount_lines state app_points runtime_points) in
    regroup (application name runtime command) (commits state name runtime) (extension_lines state app_points runtime_points) (proxy_line grants) g m
    ∙ ap (λ (t : List ℕ). (t ++ ((commits state name runtime ++ (extension_lines state app_points runtime_points ++ proxy_line grants)) ++ g)) ++ m) (application_as name runtime command)
    ∙ ap (λ (t : List ℕ). (group_text (group (codes "Application") (application_pairs name runtime command)) ++ (t ++ g)) ++ m) (instance_as state name runtime app_points runtime_points grants)
