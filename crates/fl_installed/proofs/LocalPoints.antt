-- A launch depends on the files `metadata` of the deployed commits, and on the state.
use Rattle.std.proofs.Common.{◌≡◌, ℕ, List, true, Option, Some, None, Result, Ok, Err, refl, ap, ◌∙◌}
use Rattle.std.specs.Option.{option_map_or}
use Rattle.fp_base.specs.declared.meta_rule.MetaRule.TheVariants as rules
use Rattle.fp_base.specs.declared.meta_rule.MetaRule.{MetaRule}
use Rattle.fp_keyfile.specs.declared.fault.KeyFault.{KeyFault}
use Rattle.fp_keyfile.specs.declared.group.Group.{Group}
use Rattle.fp_keyfile.specs.KeyFile.{file_of}
use Rattle.fp_name.specs.Refs.{Ref, is_ref}
use Rattle.fp_small.specs.declared.refusal.Refusal.{Refusal}
use Rattle.fp_small.specs.declared.refusal.Refusal.TheVariants.{NotInstalled, RuntimeMissing}
use Rattle.fp_small.specs.declared.state.RefRow.{RefRow}
use Rattle.fp_small.specs.declared.state.State.{State}
use Rattle.fl_meta.specs.declared.meta.Meta.{Meta}
use Rattle.fl_meta.specs.Metadata.{meta_of, meta_kind}
use Rattle.fl_extension.specs.declared.point.Point.{Point}
use Rattle.fl_installed.specs.Deployed.{DeployedFiles}
use Rattle.fl_installed.specs.Described.{broken, by_rules, by_lines}
use Rattle.fl_installed.specs.Metadata.{runtime_in, points_in}
use Rattle.fl_installed.proofs.Named.{named_good}
use Rattle.fl_extension.specs.Found.{row_of}
use Rattle.fl_installed.specs.declared.parts.DeployedMeta.{DeployedMeta}
use Rattle.fl_installed.specs.Parts.{with_points, said_by, deployed, app_in, runtime_in as runtime_in_state, runtime_of, with_runtime, with_app, parts_in}
use Rattle.fl_installed.specs.Launching.{with_parts, launch_in}
use Rattle.fl_installed.specs.Local.{SayAlike, LaunchIsLocal}

deployed_same : (i j : DeployedFiles) (name : Ref) (commit : List ℕ) → j name commit ≡ i name commit → deployed j name commit ≡ deployed i name commit
deployed_same i j name commit same = ap (said_by name) same

-- ---- what metadata names is a ref

abbrev IsNamedWell : Result DeployedMeta Refusal → Type 0
IsNamedWell (Ok said) = (r : Ref) → said.meta.runtime ≡ Some r → is_ref r ≡ true
IsNamedWell (Err refusal) = Unit {0}

by_rules_well : (name : Ref) (points : List Point) (m : Result Meta MetaRule) → ((r : Ref) → runtime_in m ≡ Some r → is_ref r ≡ true) → IsNamedWell (with_points points (by_rules name m))
by_rules_well name points (Ok meta) named = named
by_rules_well name points (Err rule) named = tt

by_lines_well : (name : Ref) (points : List Point) (file : Result (List Group) KeyFault) → IsNamedWell (with_points points (by_lines name file))
by_lines_well name points (Ok file) = by_rules_well name points (meta_of (meta_kind name.kind) file) (named_good name.kind file)
by_lines_well name points (Err fault) = tt

said_well : (name : Ref) (file : Option (List ℕ)) → IsNamedWell (said_by name file)
said_well name None = tt
said_well name (Some bytes) = by_lines_well name (points_in name bytes) (file_of bytes)

-- ---- a launch

module _ (i j : DeployedFiles) (state : State) (same : SayAlike i j state) where
  at_row : (name : Ref) → is_ref name ≡ true → (none : Result DeployedMeta Refusal) (o : Option RefRow) → row_of state name ≡ o
      → option_map_or (λ (row : RefRow). deployed j name row.commit) o none ≡ option_map_or (λ (row : RefRow). deployed i name row.commit) o none
  at_row name good none None is = refl
  at_row name good none (Some row) is = deployed_same i j name row.commit (same name row good is)

  row_well : (name : Ref) (missing : Refusal) (o : Option RefRow) → IsNamedWell (option_map_or (λ (row : RefRow). deployed i name row.commit) o (Err missing))
  row_well name missing None = tt
  row_well name missing (Some row) = said_well name (i name row.commit)

  app_same : (name : Ref) → is_ref name ≡ true → app_in j state name ≡ app_in i state name
  unfolding app_in
  app_same name good = at_row name good (Err (NotInstalled name)) (row_of state name) refl

  app_well : (name : Ref) → IsNamedWell (app_in i state name)
  unfolding app_in
  app_well name = row_well name (NotInstalled name) (row_of state name)

  runtime_same : (name : Ref) → is_ref name ≡ true → runtime_in_state j state name ≡ runtime_in_state i state name
  unfolding runtime_in_state
  runtime_same name good = at_row name good (Err (RuntimeMissing name)) (row_of state name) refl

  named_same : (none : Result DeployedMeta Refusal) (o : Option Ref) → ((r : Ref) → o ≡ Some r → is_ref r ≡ true) → option_map_or (runtime_in_state j state) o none ≡ option_map_or (runtime_in_state i state) o none
  named_same none None well = refl
  named_same none (Some runtime) well = runtime_same runtime (well runtime refl)

  of_same : (name : Ref) (app : Meta) → ((r : Ref) → app.runtime ≡ Some r → is_ref r ≡ true) → runtime_of j state name app ≡ runtime_of i state name app
  unfolding runtime_of
  of_same name app well = named_same (Err (broken name rules.Runtime)) app.runtime well

  with_same : (name : Ref) (app : Result DeployedMeta Refusal) → IsNamedWell app → with_app j state name app ≡ with_app i state name app
  with_same name (Err refusal) well = refl
  with_same name (Ok app) well = ap (with_runtime app) (of_same name app.meta well)

  parts_same : (name : Ref) → is_ref name ≡ true → parts_in j state name ≡ parts_in i state name
  unfolding parts_in
  parts_same name good = ap (with_app j state name) (app_same name good) ∙ with_same name (app_in i state name) (app_well name)

pub launch_is_local : LaunchIsLocal
unfolding launch_in
launch_is_local i j state name options good same = ap (with_parts state name options) (parts_same i j state same name good)
