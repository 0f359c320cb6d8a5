use Rattle.std.proofs.Common.{List, ℕ, refl, sym, subst}
use Rattle.fp_small.specs.declared.op.Op.TheVariants as ops
use Rattle.fp_small.specs.declared.state.State.{State}
use Rattle.fl_words.specs.declared.command.Change.{Change}
use Rattle.fl_words.specs.declared.command.Change.TheVariants as changes
use Rattle.ost_walk.specs.Ends.{outside}
use Rattle.fl_change.specs.Answer.{op_answer, unless}
use Rattle.fl_change.specs.Performs.{Acts, Rests, Just}
use Rattle.fl_change.specs.Ends.{IsAsked}
use Rattle.fl_change.specs.Settings.{add_pin_refusal, drop_pin_refusal, add_remote_refusal, remote_refusal, drop_remote_refusal}
use Rattle.fl_change.specs.Overrides.{changed_row, long_refusal}
use Rattle.fl_change.specs.Refs.{reset_over}
use Rattle.fl_change.specs.Turns.{change_over, OpsOf}
use Rattle.fl_change.proofs.Working.{works_to}
use Rattle.fl_change.proofs.Acting.{acts_same}
use Rattle.fl_change.proofs.change.do_change.Goals as goal

pub returns-in-Install-clause-acts : goal.returns-in-Install-clause-acts
returns-in-Install-clause-acts g c = subst (λ (x : Change). Acts (Rests c.args.opened) (OpsOf x) (change_over x) c.args.opened c.args.acted.now c.install.new.acted c.install.result (outside (g.H.Host.moments c.args.host.now) (g.H.Host.faults c.args.host.now) (g.R.Remotes.holds c.args.remotes.now) (g.R.Remotes.faults c.args.remotes.now)) (outside (g.H.Host.moments c.install.new.host) (g.H.Host.faults c.install.new.host) (g.R.Remotes.holds c.install.new.remotes) (g.R.Remotes.faults c.install.new.remotes))) (sym c.in-Install.is) c.install.ensures.acts

pub returns-in-UpdateAll-clause-acts : goal.returns-in-UpdateAll-clause-acts
returns-in-UpdateAll-clause-acts g c = subst (λ (x : Change). Acts (Rests c.args.opened) (OpsOf x) (change_over x) c.args.opened c.args.acted.now c.update_all.new.acted c.update_all.result (outside (g.H.Host.moments c.args.host.now) (g.H.Host.faults c.args.host.now) (g.R.Remotes.holds c.args.remotes.now) (g.R.Remotes.faults c.args.remotes.now)) (outside (g.H.Host.moments c.update_all.new.host) (g.H.Host.faults c.update_all.new.host) (g.R.Remotes.holds c.update_all.new.remotes) (g.R.Remotes.faults c.update_all.new.remotes))) (sym c.in-UpdateAll.is) c.update_all.ensures.acts

pub returns-in-UpdateOne-clause-acts : goal.returns-in-UpdateOne-clause-acts
returns-in-UpdateOne-clause-acts g c = subst (λ (x : Change). Acts (Rests c.args.opened) (OpsOf x) (change_over x) c.args.opened c.args.acted.now c.update_one.new.acted c.update_one.result (outside (g.H.Host.moments c.args.host.now) (g.H.Host.faults c.args.host.now) (g.R.Remotes.holds c.args.remotes.now) (g.R.Remotes.faults c.args.remotes.now)) (outside (g.H.Host.moments c.update_one.new.host) (g.H.Host.faults c.update_one.new.host) (g.R.Remotes.holds c.update_one.new.remotes) (g.R.Remotes.faults c.update_one.new.remotes))) (sym c.in-UpdateOne.is) c.update_one.ensures.acts

pub returns-in-Uninstall-clause-acts : goal.returns-in-Uninstall-clause-acts
returns-in-Uninstall-clause-acts g c = subst (λ (x : Change). Acts (Rests c.args.opened) (OpsOf x) (change_over x) c.args.opened c.args.acted.now c.uninstall.new.acted c.uninstall.result (outside (g.H.Host.moments c.args.host.now) (g.H.Host.faults c.args.host.now) (g.R.Remotes.holds c.args.remotes.now) (g.R.Remotes.faults c.args.remotes.now)) (outside (g.H.Host.moments c.uninstall.new.host) (g.H.Host.faults c.uninstall.new.host) (g.R.Remotes.holds c.uninstall.new.remotes) (g.R.Remotes.faults c.uninstall.new.remotes))) (sym c.in-Uninstall.is) c.uninstall.ensures.acts

pub returns-in-UninstallUnused-clause-acts : goal.returns-in-UninstallUnused-clause-acts
returns-in-UninstallUnused-clause-acts g c = subst (λ (x : Change). Acts (Rests c.args.opened) (OpsOf x) (change_over x) c.args.opened c.args.acted.now c.uninstall_unused.new.acted c.uninstall_unused.result (outside (g.H.Host.moments c.args.host.now) (g.H.Host.faults c.args.host.now) (g.R.Remotes.holds c.args.remotes.now) (g.R.Remotes.faults c.args.remotes.now)) (outside (g.H.Host.moments c.uninstall_unused.new.host) (g.H.Host.faults c.uninstall_unused.new.host) (g.R.Remotes.holds c.uninstall_unused.new.remotes) (g.R.Remotes.faults c.uninstall_unused.new.remotes))) (sym c.in-UninstallUnused.is) c.uninstall_unused.ensures.acts

pub returns-in-Rollback-clause-acts : goal.returns-in-Rollback-clause-acts
returns-in-Rollback-clause-acts g c = subst (λ (x : Change). Acts (Rests c.args.opened) (OpsOf x) (change_over x) c.args.opened c.args.acted.now c.roll_back.new.acted c.roll_back.result (outside (g.H.Host.moments c.args.host.now) (g.H.Host.faults c.args.host.now) (g.R.Remotes.holds c.args.remotes.now) (g.R.Remotes.faults c.args.remotes.now)) (outside (g.H.Host.moments c.roll_back.new.host) (g.H.Host.faults c.roll_back.new.host) (g.R.Remotes.holds c.roll_back.new.remotes) (g.R.Remotes.faults c.roll_back.new.remotes))) (sym c.in-Rollback.is) c.roll_back.ensures.acts

pub returns-in-OverrideReset-clause-acts : goal.returns-in-OverrideReset-clause-acts
returns-in-OverrideReset-clause-acts g c = subst (λ (x : Change). Acts (Rests c.args.opened) (OpsOf x) (change_over x) c.args.opened c.args.acted.now c.reset.new.acted c.reset.result (outside (g.H.Host.moments c.args.host.now) (g.H.Host.faults c.args.host.now) (g.R.Remotes.holds c.args.remotes.now) (g.R.Remotes.faults c.args.remotes.now)) (outside (g.H.Host.moments c.reset.new.host) (g.H.Host.faults c.reset.new.host) (g.R.Remotes.holds c.reset.new.remotes) (g.R.Remotes.faults c.reset.new.remotes))) (sym c.in-OverrideReset.is) (subst (λ (n : List ℕ). Acts (Rests c.args.opened) (Just (ops.DropOverride n)) (reset_over n) c.args.opened c.args.acted.now c.reset.new.acted c.reset.result (outside (g.H.Host.moments c.args.host.now) (g.H.Host.faults c.args.host.now) (g.R.Remotes.holds c.args.remotes.now) (g.R.Remotes.faults c.args.remotes.now)) (outside (g.H.Host.moments c.reset.new.host) (g.H.Host.faults c.reset.new.host) (g.R.Remotes.holds c.reset.new.remotes) (g.R.Remotes.faults c.reset.new.remotes))) c.as_text.ensures.text c.reset.ensures.acts)

pub returns-in-Pin-clause-acts : goal.returns-in-Pin-clause-acts
returns-in-Pin-clause-acts g c =
    let asked = subst (λ (s : State). IsAsked (add_pin_refusal s.pins c.in-Pin.pin) (ops.AddPin c.in-Pin.pin) c.add_pin-asked.result) c.state.ensures c.add_pin-asked.ensures.asked in
    subst (λ (x : Change). Acts (Rests c.args.opened) (OpsOf x) (change_over x) c.args.opened c.args.acted.now c.do_asked.new.acted c.do_asked.result (outside (g.H.Host.moments c.args.host.now) (g.H.Host.faults c.args.host.now) (g.R.Remotes.holds c.args.remotes.now) (g.R.Remotes.faults c.args.remotes.now)) (outside (g.H.Host.moments c.do_asked.new.host) (g.H.Host.faults c.do_asked.new.host) (g.R.Remotes.holds c.do_asked.new.remotes) (g.R.Remotes.faults c.do_asked.new.remotes))) (sym c.in-Pin.is) (acts_same (change_over (changes.Pin c.in-Pin.pin)) (λ held x. unless (add_pin_refusal c.args.opened.pins c.in-Pin.pin) (op_answer (ops.AddPin c.in-Pin.pin))) (λ x first held known rests. refl) (c.do_asked.ensures.acts (add_pin_refusal c.args.opened.pins c.in-Pin.pin) (ops.AddPin c.in-Pin.pin) asked))

pub returns-in-Unpin-clause-acts : goal.returns-in-Unpin-clause-acts
returns-in-Unpin-clause-acts g c =
    let asked = subst (λ (s : State). IsAsked (drop_pin_refusal s.pins c.in-Unpin.pin) (ops.DropPin c.in-Unpin.pin) c.drop_pin-asked.result) c.state-in-Unpin.ensures c.drop_pin-asked.ensures.asked in
    subst (λ (x : Change). Acts (Rests c.args.opened) (OpsOf x) (change_over x) c.args.opened c.args.acted.now c.do_asked-in-Unpin.new.acted c.do_asked-in-Unpin.result (outside (g.H.Host.moments c.args.host.now) (g.H.Host.faults c.args.host.now) (g.R.Remotes.holds c.args.remotes.now) (g.R.Remotes.faults c.args.remotes.now)) (outside (g.H.Host.moments c.do_asked-in-Unpin.new.host) (g.H.Host.faults c.do_asked-in-Unpin.new.host) (g.R.Remotes.holds c.do_asked-in-Unpin.new.remotes) (g.R.Remotes.faults c.do_asked-in-Unpin.new.remotes))) (sym c.in-Unpin.is) (acts_same (change_over (changes.Unpin c.in-Unpin.pin)) (λ held x. unless (drop_pin_refusal c.args.opened.pins c.in-Unpin.pin) (op_answer (ops.DropPin c.in-Unpin.pin))) (λ x first held known rests. refl) (c.do_asked-in-Unpin.ensures.acts (drop_pin_refusal c.args.opened.pins c.in-Unpin.pin) (ops.DropPin c.in-Unpin.pin) asked))

pub returns-in-RemoteAdd-clause-acts : goal.returns-in-RemoteAdd-clause-acts
returns-in-RemoteAdd-clause-acts g c =
    let asked = subst (λ (s : State). IsAsked (add_remote_refusal s.remotes c.in-RemoteAdd.row.name) (ops.AddRemote c.in-RemoteAdd.row) c.add_remote-asked.result) c.state-in-RemoteAdd.ensures c.add_remote-asked.ensures.asked in
    subst (λ (x : Change). Acts (Rests c.args.opened) (OpsOf x) (change_over x) c.args.opened c.args.acted.now c.do_asked-in-RemoteAdd.new.acted c.do_asked-in-RemoteAdd.result (outside (g.H.Host.moments c.args.host.now) (g.H.Host.faults c.args.host.now) (g.R.Remotes.holds c.args.remotes.now) (g.R.Remotes.faults c.args.remotes.now)) (outside (g.H.Host.moments c.do_asked-in-RemoteAdd.new.host) (g.H.Host.faults c.do_asked-in-RemoteAdd.new.host) (g.R.Remotes.holds c.do_asked-in-RemoteAdd.new.remotes) (g.R.Remotes.faults c.do_asked-in-RemoteAdd.new.remotes))) (sym c.in-RemoteAdd.is) (acts_same (change_over (changes.RemoteAdd c.in-RemoteAdd.row)) (λ held x. unless (add_remote_refusal c.args.opened.remotes c.in-RemoteAdd.row.name) (op_answer (ops.AddRemote c.in-RemoteAdd.row))) (λ x first held known rests. refl) (c.do_asked-in-RemoteAdd.ensures.acts (add_remote_refusal c.args.opened.remotes c.in-RemoteAdd.row.name) (ops.AddRemote c.in-RemoteAdd.row) asked))

pub returns-in-RemoteModify-clause-acts : goal.returns-in-RemoteModify-clause-acts
returns-in-RemoteModify-clause-acts g c =
    let asked = subst (λ (s : State). IsAsked (remote_refusal s.remotes c.in-RemoteModify.row.name) (ops.ModifyRemote c.in-RemoteModify.row) c.modify_remote-asked.result) c.state-in-RemoteModify.ensures c.modify_remote-asked.ensures.asked in
    subst (λ (x : Change). Acts (Rests c.args.opened) (OpsOf x) (change_over x) c.args.opened c.args.acted.now c.do_asked-in-RemoteModify.new.acted c.do_asked-in-RemoteModify.result (outside (g.H.Host.moments c.args.host.now) (g.H.Host.faults c.args.host.now) (g.R.Remotes.holds c.args.remotes.now) (g.R.Remotes.faults c.args.remotes.now)) (outside (g.H.Host.moments c.do_asked-in-RemoteModify.new.host) (g.H.Host.faults c.do_asked-in-RemoteModify.new.host) (g.R.Remotes.holds c.do_asked-in-RemoteModify.new.remotes) (g.R.Remotes.faults c.do_asked-in-RemoteModify.new.remotes))) (sym c.in-RemoteModify.is) (acts_same (change_over (changes.RemoteModify c.in-RemoteModify.row)) (λ held x. unless (remote_refusal c.args.opened.remotes c.in-RemoteModify.row.name) (op_answer (ops.ModifyRemote c.in-RemoteModify.row))) (λ x first held known rests. refl) (c.do_asked-in-RemoteModify.ensures.acts (remote_refusal c.args.opened.remotes c.in-RemoteModify.row.name) (ops.ModifyRemote c.in-RemoteModify.row) asked))

pub returns-in-OverrideChange-clause-acts : goal.returns-in-OverrideChange-clause-acts
returns-in-OverrideChange-clause-acts g c =
    let name = c.in-OverrideChange.name in
    let options = c.in-OverrideChange.options in
    let row = changed_row c.args.opened.overrides name options in
    let asked = subst (λ (s : State). IsAsked (long_refusal (changed_row s.overrides name options)) (ops.SetOverride (changed_row s.overrides name options)) c.change_override-asked.result) c.state-in-OverrideChange.ensures c.change_override-asked.ensures.asked in
    subst (λ (x : Change). Acts (Rests c.args.opened) (OpsOf x) (change_over x) c.args.opened c.args.acted.now c.do_asked-in-OverrideChange.new.acted c.do_asked-in-OverrideChange.result (outside (g.H.Host.moments c.args.host.now) (g.H.Host.faults c.args.host.now) (g.R.Remotes.holds c.args.remotes.now) (g.R.Remotes.faults c.args.remotes.now)) (outside (g.H.Host.moments c.do_asked-in-OverrideChange.new.host) (g.H.Host.faults c.do_asked-in-OverrideChange.new.host) (g.R.Remotes.holds c.do_asked-in-OverrideChange.new.remotes) (g.R.Remotes.faults c.do_asked-in-OverrideChange.new.remotes))) (sym c.in-OverrideChange.is) (works_to (λ op may. (row.file, may)) (acts_same (change_over (changes.OverrideChange name options)) (λ held x. unless (long_refusal row) (op_answer (ops.SetOverride row))) (λ x first held known rests. refl) (c.do_asked-in-OverrideChange.ensures.acts (long_refusal row) (ops.SetOverride row) asked)))

pub returns-in-RemoteDelete-clause-acts : goal.returns-in-RemoteDelete-clause-acts
returns-in-RemoteDelete-clause-acts g c =
    let asked = subst (λ (s : State). IsAsked (drop_remote_refusal s c.in-RemoteDelete.name) (ops.DropRemote c.in-RemoteDelete.name) c.drop_remote-asked.result) c.state-in-RemoteDelete.ensures c.drop_remote-asked.ensures.asked in
    subst (λ (x : Change). Acts (Rests c.args.opened) (OpsOf x) (change_over x) c.args.opened c.args.acted.now c.do_asked-in-RemoteDelete.new.acted c.do_asked-in-RemoteDelete.result (outside (g.H.Host.moments c.args.host.now) (g.H.Host.faults c.args.host.now) (g.R.Remotes.holds c.args.remotes.now) (g.R.Remotes.faults c.args.remotes.now)) (outside (g.H.Host.moments c.do_asked-in-RemoteDelete.new.host) (g.H.Host.faults c.do_asked-in-RemoteDelete.new.host) (g.R.Remotes.holds c.do_asked-in-RemoteDelete.new.remotes) (g.R.Remotes.faults c.do_asked-in-RemoteDelete.new.remotes))) (sym c.in-RemoteDelete.is) (acts_same (change_over (changes.RemoteDelete c.in-RemoteDelete.name)) (λ held x. unless (drop_remote_refusal c.args.opened c.in-RemoteDelete.name) (op_answer (ops.DropRemote c.in-RemoteDelete.name))) (λ x first held known rests. refl) (c.do_asked-in-RemoteDelete.ensures.acts (drop_remote_refusal c.args.opened c.in-RemoteDelete.name) (ops.DropRemote c.in-RemoteDelete.name) asked))
