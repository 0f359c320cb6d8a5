-- A launch is refused for its metadata, and for what isn't installed.
use Rattle.std.proofs.Common.{◌≡◌, ℕ, List, Option, Some, None, Result, Ok, Err, refl, subst}
use Rattle.std.specs.Option.{option_map_or}
use Rattle.fp_base.specs.declared.meta_rule.MetaRule.{MetaRule}
use Rattle.fp_base.specs.declared.meta_rule.MetaRule.TheVariants as rules
use Rattle.fp_base.specs.declared.meta_rule.MetadataRule.TheVariants as metadata_rules
use Rattle.fp_keyfile.specs.declared.fault.KeyFault.{KeyFault}
use Rattle.fp_keyfile.specs.declared.group.Group.{Group}
use Rattle.fp_keyfile.specs.KeyFile.{file_of}
use Rattle.fp_name.specs.Refs.{Ref}
use Rattle.fp_small.specs.declared.refusal.Refusal.{Refusal}
use Rattle.fp_small.specs.declared.refusal.Refusal.TheVariants.{NotInstalled, RuntimeMissing, BadMetadata}
use Rattle.fp_small.specs.declared.state.RefRow.{RefRow}
use Rattle.fp_small.specs.declared.state.State.{State}
use Rattle.fl_meta.specs.declared.meta.Meta.{Meta}
use Rattle.fl_meta.specs.Metadata.{meta_of, meta_kind}
use Rattle.fl_extension.specs.declared.point.Point.{Point}
use Rattle.fl_installed.specs.Deployed.{DeployedFiles}
use Rattle.fl_installed.specs.Described.{broken, by_rules, by_lines, by_file}
use Rattle.fl_installed.specs.Metadata.{points_in}
use Rattle.fl_extension.specs.Found.{row_of}
use Rattle.fl_installed.specs.declared.parts.DeployedMeta.{DeployedMeta}
use Rattle.fl_installed.specs.declared.parts.LaunchParts.{LaunchParts}
use Rattle.fl_installed.specs.Parts.{with_points, said_by, deployed, app_in, runtime_in, runtime_of, with_runtime, with_app, parts_in}
use Rattle.fl_installed.specs.Launching.{launch_of, with_parts, launch_in}
use Rattle.fl_installed.specs.Refusals.{MayRefuse, LaunchRefuses}

abbrev Refuses : {A : Type 0} → Result A Refusal → Type 0
Refuses a = (r : Refusal) → a ≡ Err r → MayRefuse r

ok_may : {A : Type 0} (a : A) → Refuses {A = A} (Ok a)
ok_may a r is = absurd (cc is)

err_may : {A : Type 0} (q : Refusal) → MayRefuse q → Refuses {A = A} (Err q)
err_may q may r is = let same : q ≡ r = cc is in subst MayRefuse same may

-- ---- metadata

rules_may : (name : Ref) (m : Result Meta MetaRule) → Refuses (by_rules name m)
rules_may name (Ok meta) = ok_may meta
rules_may name (Err rule) = err_may (broken name rule) tt

lines_may : (name : Ref) (f : Result (List Group) KeyFault) → Refuses (by_lines name f)
lines_may name (Ok file) = rules_may name (meta_of (meta_kind name.kind) file)
lines_may name (Err fault) = err_may (BadMetadata name fault.line (metadata_rules.Key fault.rule)) tt

pub file_may : (name : Ref) (file : Option (List ℕ)) → Refuses (by_file name file)
file_may name None = err_may (broken name rules.Absent) tt
file_may name (Some bytes) = lines_may name (file_of bytes)

points_may : (points : List Point) (m : Result Meta Refusal) → Refuses m → Refuses (with_points points m)
points_may points (Ok meta) may = ok_may (record { meta = meta; points = points })
points_may points (Err q) may = err_may q (may q refl)

said_may : (name : Ref) (file : Option (List ℕ)) → Refuses (said_by name file)
said_may name None = err_may (broken name rules.Absent) tt
said_may name (Some bytes) = points_may (points_in name bytes) (by_lines name (file_of bytes)) (lines_may name (file_of bytes))

-- ---- what a launch stands on

module _ (files : DeployedFiles) (state : State) where
  row_may : (name : Ref) (missing : Refusal) (o : Option RefRow) → MayRefuse missing → Refuses (option_map_or (λ (row : RefRow). deployed files name row.commit) o (Err missing))
  row_may name missing None may = err_may missing may
  row_may name missing (Some row) may = said_may name (files name row.commit)

  app_may : (name : Ref) → Refuses (app_in files state name)
  unfolding app_in
  app_may name = row_may name (NotInstalled name) (row_of state name) tt

  runtime_may : (name : Ref) → Refuses (runtime_in files state name)
  unfolding runtime_in
  runtime_may name = row_may name (RuntimeMissing name) (row_of state name) tt

  named_may : (name : Ref) (o : Option Ref) → Refuses (option_map_or (runtime_in files state) o (Err (broken name rules.Runtime)))
  named_may name None = err_may (broken name rules.Runtime) tt
  named_may name (Some runtime) = runtime_may runtime

  of_may : (name : Ref) (app : Meta) → Refuses (runtime_of files state name app)
  unfolding runtime_of
  of_may name app = named_may name app.runtime

  both_may : (app : DeployedMeta) (runtime : Result DeployedMeta Refusal) → Refuses runtime → Refuses (with_runtime app runtime)
  both_may app (Ok runtime) may = ok_may (record { app = app; runtime = runtime })
  both_may app (Err q) may = err_may q (may q refl)

  with_may : (name : Ref) (app : Result DeployedMeta Refusal) → Refuses app → Refuses (with_app files state name app)
  with_may name (Ok app) may = both_may app (runtime_of files state name app.meta) (of_may name app.meta)
  with_may name (Err q) may = err_may q (may q refl)

  parts_may : (name : Ref) → Refuses (parts_in files state name)
  unfolding parts_in
  parts_may name = with_may name (app_in files state name) (app_may name)

launch_may : (state : State) (name : Ref) (options : List (List ℕ)) (parts : Result LaunchParts Refusal) → Refuses parts → Refuses (with_parts state name options parts)
launch_may state name options (Ok parts) may = ok_may (launch_of state name options parts)
launch_may state name options (Err q) may = err_may q (may q refl)

pub launch_refuses : LaunchRefuses
unfolding launch_in
launch_refuses files state name options = launch_may state name options (parts_in files state name) (parts_may files state name)
