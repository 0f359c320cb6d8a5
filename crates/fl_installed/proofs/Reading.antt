-- What is read for a launch, one call after another.
use Rattle.std.proofs.Common.{◌≡◌, ℕ, List, Option, Result, IfOk, ap, subst, ◌∙◌}
use Rattle.fp_host.specs.declared.host.HostEnd.{HostEnd}
use Rattle.fp_name.specs.Refs.{Ref}
use Rattle.fp_small.specs.declared.refusal.Refusal.{Refusal}
use Rattle.fp_small.specs.declared.state.State.{State}
use Rattle.fl_installed.specs.Deployed.{DeployedFiles}
use Rattle.fl_meta.specs.declared.permission.Mention.{Mention}
use Rattle.fl_options.specs.Options.{layer_of, last_command}
use Rattle.fl_launch.specs.Launch.{launch_text}
use Rattle.fl_launch.specs.Layers.{all_mentions, granted_by}
use Rattle.fl_launch.specs.declared.launching.LaunchText.{LaunchText}
use Rattle.fl_installed.specs.Launching.{grants_with, text_with, launch_of}
use Rattle.fl_installed.specs.declared.parts.DeployedMeta.{DeployedMeta}
use Rattle.fl_installed.specs.declared.parts.LaunchParts.{LaunchParts}
use Rattle.fl_installed.specs.Parts.{app_in, with_app, parts_in}

pub parts_from : (files : DeployedFiles) (state : State) (name : Ref) (app : Result DeployedMeta Refusal) (result : Result (Result LaunchParts Refusal) HostEnd)
    → app ≡ app_in files state name → IfOk result (λ parts. parts ≡ with_app files state name app) → IfOk result (λ parts. parts ≡ parts_in files state name)
unfolding parts_in
parts_from files state name app result is h = subst (λ (a : Result DeployedMeta Refusal). IfOk result (λ parts. parts ≡ with_app files state name a)) is h

pub launch_from : (state : State) (name : Ref) (options : List (List ℕ)) (parts : LaunchParts) (layer : List Mention) (command : Option (List ℕ)) (launch : LaunchText)
    → layer ≡ layer_of options → command ≡ last_command options
    → launch.text ≡ launch_text state name parts.app.meta parts.app.points parts.runtime.points command launch.grants
    → launch.grants ≡ granted_by (all_mentions state name.id parts.app.meta parts.runtime.meta layer) → launch ≡ launch_of state name options parts
unfolding launch_of
launch_from state name options parts layer command launch first second text_is grants_are =
    let grants : launch.grants ≡ grants_with state name options parts =
    grants_are ∙ ap (λ (l : List Mention). granted_by (all_mentions state name.id parts.app.meta parts.runtime.meta l)) first in
    let text : launch.text ≡ text_with state name options parts (grants_with state name options parts) =
    text_is ∙ ap (λ (o : Option (List ℕ)). launch_text state name parts.app.meta parts.app.points parts.runtime.points o launch.grants) second ∙ ap (text_with state name options parts) grants in
    λ i. record { text = text i; grants = grants i }
