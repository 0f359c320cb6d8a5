use Rattle.std.proofs.Common.{inl, inr, refl, subst, Result, Ok, Err}
use Rattle.fp_host.specs.declared.host.HostEnd.{HostEnd}
use Rattle.fp_small.specs.declared.op.Op.TheVariants.{Install, Update}
use Rattle.fp_small.specs.declared.state.State.{State}
use Rattle.ost_walk.specs.Ends.{outside}
use Rattle.op_change.specs.Applied.{Brings}
use Rattle.op_change.proofs.Brought.{no_brings, install_moves, update_moves}
use Rattle.op_change.proofs.Joined.{allowed}
use Rattle.op_change.proofs.Plain.{Plainly, attempts_plain, attempts_not_plain}
use Rattle.op_change.proofs.applying.apply.Goals as goal

pub bring-requires : goal.bring-requires
bring-requires g c =
    let may = allowed c.args.opened c.args.op.now (Install c.in-Install.name c.in-Install.remote c.in-Install.commit) c.in-Install.is c.requires.may in
    (c.type_bounds.sync-typeof-rt, (may.2, (install_moves c.args.opened c.in-Install.name may.1, c.requires.good)))

pub returns-in-Install-clause-made : goal.returns-in-Install-clause-made
returns-in-Install-clause-made g c = c.bring.ensures.made c.args.op.now c.requires.may (inl c.in-Install.is)

pub returns-in-Install-clause-attempts : goal.returns-in-Install-clause-attempts
returns-in-Install-clause-attempts g c = c.bring.ensures.attempts c.args.op.now c.requires.may (inl c.in-Install.is)

pub bring-requires-in-Update : goal.bring-requires-in-Update
bring-requires-in-Update g c =
    let may = allowed c.args.opened c.args.op.now (Update c.in-Update.name c.in-Update.remote c.in-Update.commit) c.in-Update.is c.requires.may in
    (c.type_bounds.sync-typeof-rt, (may.1, (update_moves c.args.opened c.in-Update.name may.0, c.requires.good)))

pub returns-in-Update-clause-made : goal.returns-in-Update-clause-made
returns-in-Update-clause-made g c = c.bring-in-Update.ensures.made c.args.op.now c.requires.may (inr c.in-Update.is)

pub returns-in-Update-clause-attempts : goal.returns-in-Update-clause-attempts
returns-in-Update-clause-attempts g c = c.bring-in-Update.ensures.attempts c.args.op.now c.requires.may (inr c.in-Update.is)

pub apply_plainly-requires : goal.apply_plainly-requires
apply_plainly-requires g c =
    let off : Brings c.args.op.now → ⊥ = elim c.in-Uninstall.is [ inl x ↦ no_brings c.args.op.now _ x.1 (λ b. b) | inr o1 ↦ elim o1 [ inl x ↦ no_brings c.args.op.now _ x.1 (λ b. b) | inr o2 ↦ elim o2 [ inl x ↦ no_brings c.args.op.now _ x.1 (λ b. b) | inr o3 ↦ elim o3 [ inl x ↦ no_brings c.args.op.now _ x.1 (λ b. b) | inr o4 ↦ elim o4 [ inl x ↦ no_brings c.args.op.now _ x.1 (λ b. b) | inr o5 ↦ elim o5 [ inl x ↦ no_brings c.args.op.now _ x.1 (λ b. b) | inr o6 ↦ elim o6 [ inl x ↦ no_brings c.args.op.now _ x.1 (λ b. b) | inr o7 ↦ elim o7 [ inl x ↦ no_brings c.args.op.now _ x.1 (λ b. b) | inr o8 ↦ elim o8 [ inl e ↦ no_brings c.args.op.now _ e (λ b. b) | inr x ↦ no_brings c.args.op.now _ x.2 (λ b. b) ] ] ] ] ] ] ] ] ] in
    record { may = c.requires.may; good = c.requires.good; short = c.requires.short; brings_none = off }

pub returns-in-Ok-clause-made : goal.returns-in-Ok-clause-made
returns-in-Ok-clause-made g c = (0, c.in-Ok.ensures.state)

pub returns-in-Ok-clause-attempts : goal.returns-in-Ok-clause-attempts
returns-in-Ok-clause-attempts g c =
    let off : Brings c.args.op.now → ⊥ = elim c.in-Uninstall.is [ inl x ↦ no_brings c.args.op.now _ x.1 (λ b. b) | inr o1 ↦ elim o1 [ inl x ↦ no_brings c.args.op.now _ x.1 (λ b. b) | inr o2 ↦ elim o2 [ inl x ↦ no_brings c.args.op.now _ x.1 (λ b. b) | inr o3 ↦ elim o3 [ inl x ↦ no_brings c.args.op.now _ x.1 (λ b. b) | inr o4 ↦ elim o4 [ inl x ↦ no_brings c.args.op.now _ x.1 (λ b. b) | inr o5 ↦ elim o5 [ inl x ↦ no_brings c.args.op.now _ x.1 (λ b. b) | inr o6 ↦ elim o6 [ inl x ↦ no_brings c.args.op.now _ x.1 (λ b. b) | inr o7 ↦ elim o7 [ inl x ↦ no_brings c.args.op.now _ x.1 (λ b. b) | inr o8 ↦ elim o8 [ inl e ↦ no_brings c.args.op.now _ e (λ b. b) | inr x ↦ no_brings c.args.op.now _ x.2 (λ b. b) ] ] ] ] ] ] ] ] ] in
    let s = c.args.opened in
    let op = c.args.op.now in
    let u = outside (g.H.Host.moments c.args.host.now) (g.H.Host.faults c.args.host.now) (g.R.Remotes.holds c.args.remotes.now) (g.R.Remotes.faults c.args.remotes.now) in
    let w = outside (g.H.Host.moments c.apply_plainly.new.host) (g.H.Host.faults c.apply_plainly.new.host) (g.R.Remotes.holds c.args.remotes.now) (g.R.Remotes.faults c.args.remotes.now) in
    let e = c.apply_plainly.ensures in
    let p : Plainly s op c.apply_plainly.result u w = record { told = g.met.H.Host.is_tree c.args.host.now; state = e.state; moments = e.any_moment; success = e.on_success; starved = e.starved; host = e.fault_has_cause; holdings = refl; remote_faults = refl } in
    attempts_plain s op off c.in-Ok.done (subst (λ (r : Result State HostEnd). Plainly s op r u w) c.in-Ok.is p)

pub returns-in-Err-clause-attempts : goal.returns-in-Err-clause-attempts
returns-in-Err-clause-attempts g c =
    let off : Brings c.args.op.now → ⊥ = elim c.in-Uninstall.is [ inl x ↦ no_brings c.args.op.now _ x.1 (λ b. b) | inr o1 ↦ elim o1 [ inl x ↦ no_brings c.args.op.now _ x.1 (λ b. b) | inr o2 ↦ elim o2 [ inl x ↦ no_brings c.args.op.now _ x.1 (λ b. b) | inr o3 ↦ elim o3 [ inl x ↦ no_brings c.args.op.now _ x.1 (λ b. b) | inr o4 ↦ elim o4 [ inl x ↦ no_brings c.args.op.now _ x.1 (λ b. b) | inr o5 ↦ elim o5 [ inl x ↦ no_brings c.args.op.now _ x.1 (λ b. b) | inr o6 ↦ elim o6 [ inl x ↦ no_brings c.args.op.now _ x.1 (λ b. b) | inr o7 ↦ elim o7 [ inl x ↦ no_brings c.args.op.now _ x.1 (λ b. b) | inr o8 ↦ elim o8 [ inl e ↦ no_brings c.args.op.now _ e (λ b. b) | inr x ↦ no_brings c.args.op.now _ x.2 (λ b. b) ] ] ] ] ] ] ] ] ] in
    let s = c.args.opened in
    let op = c.args.op.now in
    let u = outside (g.H.Host.moments c.args.host.now) (g.H.Host.faults c.args.host.now) (g.R.Remotes.holds c.args.remotes.now) (g.R.Remotes.faults c.args.remotes.now) in
    let w = outside (g.H.Host.moments c.apply_plainly.new.host) (g.H.Host.faults c.apply_plainly.new.host) (g.R.Remotes.holds c.args.remotes.now) (g.R.Remotes.faults c.args.remotes.now) in
    let e = c.apply_plainly.ensures in
    let p : Plainly s op c.apply_plainly.result u w = record { told = g.met.H.Host.is_tree c.args.host.now; state = e.state; moments = e.any_moment; success = e.on_success; starved = e.starved; host = e.fault_has_cause; holdings = refl; remote_faults = refl } in
    attempts_not_plain s op off c.in-Err.end c.from.result c.from.ensures (subst (λ (r : Result State HostEnd). Plainly s op r u w) c.in-Err.is p)
