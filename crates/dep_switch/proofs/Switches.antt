-- The rename of the link onto `active`.
use Rattle.std.proofs.Common.{◌≡◌, ◌≢◌, ◌⊎◌, inl, inr, ℕ, List, [], ◌∷◌, ◌++◌, Option, Some, None, Result, Ok, true, ◌&&◌, codes, refl, sym, ◌∙◌, ap, subst}
use Rattle.std.proofs.lemmas.Bool.{and_parts}
use Rattle.fp_host.specs.Paths.{Elements, Slot, absent, dir, file, link, set_at}
use Rattle.fp_host.specs.View.{View, IsTree}
use Rattle.fp_host.specs.Calls.{renames, syncs, put, Can, Step, HasFolder, IsFile, IsLeaf, IsNoDir}
use Rattle.fp_host.specs.Outcome.{Spot, gone, points, spot_of, GivesOf, Nothing, Disk, Leaves, Follows, IsSettled, shows}
use Rattle.fp_host.specs.Frame.{Keeps, NoPath}
use Rattle.fp_host.specs.declared.host.HostError.{HostError}
use Rattle.fp_host.proofs.Follow.{follows_call, follows_to, called}
use Rattle.fp_host.proofs.Filed.{PutsOf, puts_call, put_call}
use Rattle.fp_host.proofs.Keep.{printed_kept, names_kept}
use Rattle.fp_host.proofs.Separate.{set_same, set_other}
use Rattle.fp_host.specs.Frame.{AtEnd}
use Rattle.fp_host.specs.Moments.{Moments, Makes}
use Rattle.fp_host.proofs.Framed.{IsTold}
use Rattle.fp_host.proofs.Goes.{begins, makes_goes}
use Rattle.fp_host.proofs.Settled.{settled_disk}
use Rattle.fp_host.proofs.Shown.{now_left}
use Rattle.fp_name.specs.declared.kind.RefKind.{RefKind}
use Rattle.fp_name.specs.declared.kind.RefKind.TheVariants.{App, Runtime}
use Rattle.fp_name.specs.Grammar.{is_id, is_arch, is_branch}
use Rattle.fp_name.specs.Kinds.{kind_word}
use Rattle.fp_name.specs.Hex.{hex, is_digest}
use Rattle.fp_name.specs.Refs.{Ref, is_ref}
use Rattle.fp_small.specs.Places.{repo, tmp}
use Rattle.fp_small.specs.declared.state.State.{State}
use Rattle.fp_small.specs.declared.state.RefRow.{RefRow}
use Rattle.fp_small.proofs.Keeping.{files_renamed, files_synced}
use Rattle.fp_small.proofs.Staging.{synced}
use Rattle.dep_states.specs.Names.{active, branch_dir, commit_dir}
use Rattle.dep_states.specs.Deploy.{deploy_of}
use Rattle.dep_states.specs.Shown.{there, deploy_at, small_most, Shows}
use Rattle.dep_states.specs.Sound.{Sound, Opens}
use Rattle.dep_states.specs.Switch.{IsWith, SwitchesAt, Stages, Prepared, OpensEither}
use Rattle.dep_states.specs.Zones.{a_link, IsLinkOrGone, Fits, zone, outward, Allowed}
use Rattle.dep_states.proofs.Changes as changes
use Rattle.dep_states.proofs.Deploys.{deploy_reads}
use Rattle.dep_states.proofs.Good.{row_in_good, file_says}
use Rattle.dep_states.proofs.Switching.{switch_law}
use Rattle.dep_states.proofs.Zones.{unless_any}
use Rattle.dep_switch.specs.Rows.{with_row, IsAt}
use Rattle.dep_switch.specs.Writing.{new_link}
use Rattle.dep_switch.specs.Staging.{IsStaged, LeadsTo, CanSwitch, SwitchesName, Switches, WasSwitched}
use Rattle.dep_switch.specs.declared.staged.Staged.{Staged}
use Rattle.dep_switch.proofs.Readying.{folder_stands}
use Rattle.dep_switch.proofs.Sparing.{linked_at}
use Rattle.dep_switch.proofs.Spots.{folder_dir, link_free, leaf_no_dir}

-- what stands at the end of nothing
pub either_follows : {s t : State} {v w : View} → Follows Nothing v w → OpensEither s t v → OpensEither s t w
either_follows {s = s} {t = t} {w = w} follows either = record {
  shown = λ disk left. let b = follows.from disk left in subst (λ (i : Disk). Shows i s ⊎ Shows i t) (same disk left) (either.shown b.0 b.1);
  sound = λ disk left. let b = follows.from disk left in subst Sound (same disk left) (either.sound b.0 b.1);
}
  where
    each : (disk : Disk) (left : Leaves w disk) (p : Elements) → (follows.from disk left).0 p ≡ disk p
    each disk left p = elim ((follows.from disk left).2 p) [ inl is ↦ sym is | inr none ↦ absurd none ]

    same : (disk : Disk) (left : Leaves w disk) → (follows.from disk left).0 ≡ disk
    same disk left = λ k p. each disk left p k

-- the state after is the one of before with the row
pub is_with : {s : State} {row : RefRow} {staged : Staged} {v : View} → LeadsTo s row staged → Opens s v → IsWith s row.name (Some row) staged.state
is_with {s = s} {row = row} {v = v} leads opens =
    subst (λ (t : State). IsWith s row.name (Some row) t) (sym leads.state) (changes.with_row s ((opens.shown (shows v) (now_left v)).refs_ascend) row)

good_ref : {s : State} {row : RefRow} {v : View} → IsStaged s row v → is_ref row.name ≡ true
good_ref {v = v} ready = (ready.stages.prepared (shows v) (now_left v)).good

row_digest : (name : Ref) (text : List ℕ) (spot : Spot) (row : RefRow) → is_ref name ≡ true → deploy_at name text spot ≡ there row → is_digest row.commit ≡ true
unfolding deploy_at
row_digest name text spot row good e = (row_in_good name text _ row good (λ d says. let f = file_says small_most deploy_of spot d says in deploy_reads f.0 d f.1) e).commit

commit_digest : {s : State} {row : RefRow} {v : View} → IsStaged s row v → is_digest row.commit ≡ true
commit_digest {row = row} {v = v} ready = row_digest row.name (hex row.commit) _ row (good_ref ready) ((ready.stages.prepared (shows v) (now_left v)).recorded)

-- the rename gives the link to `active`
given : (staged : Staged) (row : RefRow) (v : View) → staged.from ≡ new_link → staged.to ≡ active row.name → v.names new_link ≡ link (hex row.commit)
    → (q : Elements) (spot : Spot) → GivesOf (renames staged.from staged.to) v q spot → SwitchesAt row.name row ([] ++ (codes "active" ∷ tmp)) q spot
given staged row v from to linked q spot (inl h) = inl (h.0 ∙ to, h.1.2 ∙ ap (spot_of h.1.0) (ap v.names from ∙ linked))
given staged row v from to linked q spot (inr h) = inr (h.0 ∙ from, h.1)

pub switches_rename : {staged : Staged} {r : Result (Unit {0}) HostError} {v w : View} → IsTree v → Step (renames staged.from staged.to) r v w → Switches staged v w
switches_rename {staged = staged} {v = v} {w = w} tree step = record {
  either = λ s row leads ready. switch_law {s = s} {t = staged.state} {name = row.name} {row = row} {u = v} {w = w} (codes "active" ∷ []) (good_ref ready) (is_with leads ready.stages.opens)
      (follows_to (given staged row v leads.from leads.to ready.linked) (follows_call tree (called step))) ready.stages;
  names = λ q. elim (puts_call (called step) q) [ inl same ↦ inl same | inr h ↦ inr h ];
  puts = λ x had. elim (put_call (called step) x had) [ inl before ↦ inl before | inr h ↦ inr h ];
  files = (files_renamed step).rows;
  stood = (files_renamed step).stood;
  printed = printed_kept (called step) tt;
}

pub switches_sync : {staged : Staged} {r : Result (Unit {0}) HostError} {u v w : View} → IsTree v → Switches staged u v → Step syncs r v w → Switches staged u w
switches_sync {staged = staged} {u = u} {w = w} tree first step = record {
  either = λ s row leads ready. either_follows (follows_to (λ q spot h. h) (follows_call tree (called step))) (first.either s row leads ready);
  names = λ q. let same = names_kept (called step) q (λ none. none) in elim (first.names q) [ inl was ↦ inl (same ∙ was) | inr h ↦ inr (subst (SwitchesName staged u q) (sym same) h) ];
  puts = λ x had. elim (put_call (called step) x had) [ inl before ↦ first.puts x before | inr none ↦ absurd none ];
  files = λ id. (files_synced step).rows id ∙ first.files id;
  stood = λ x had. (files_synced step).stood x (first.stood x had);
  printed = printed_kept (called step) tt ∙ first.printed;
}

-- ---- done

pub record IsRenamed (staged : Staged) (u v : View) : Type 0 where
  pub switches : Switches staged u v
  pub moved : v.names staged.to ≡ u.names staged.from

pub renamed : {staged : Staged} {v w : View} → IsTree v → Step (renames staged.from staged.to) (Ok tt) v w → IsRenamed staged v w
renamed {staged = staged} {v = v} {w = w} tree step = record {
  switches = switches_rename tree step;
  moved = ap (λ (x : View). x.names staged.to) step.how.1 ∙ set_other (set_at v.names staged.to (v.names staged.from)) staged.from absent staged.to (λ e. step.how.0.3 (sym e)) ∙ set_same v.names staged.to (v.names staged.from) staged.to refl;
}

pub renamed_end : {staged : Staged} {a b : Option Moments} → IsTold a → Makes (Step (renames staged.from staged.to) (Ok tt)) a b → AtEnd (IsRenamed staged) a b
renamed_end told call = record { goes = begins told (makes_goes call) (λ u w tree s. tt) (λ u w tree s e. renamed tree e) }

module _ {staged : Staged} {u v w : View} (tree : IsTree v) (after : IsTree w) (first : IsRenamed staged u v) (step : Step syncs (Ok tt) v w) where
  module _ (can : CanSwitch staged u) where
    either_now : OpensEither can.old staged.state w
    either_now = (switches_sync tree first.switches step).either can.old can.row can.leads can.ready

    linked_now : w.names (active can.row.name) ≡ link (hex can.row.commit)
    linked_now = ap w.names (sym can.leads.to) ∙ ap (λ (x : View). x.names staged.to) step.how.1 ∙ first.moved ∙ ap u.names can.leads.from ∙ can.ready.linked

    shown_new : (disk : Disk) → Leaves w disk → Shows disk staged.state
    shown_new disk left = elim (either_now.shown disk left) [
      | inl old ↦ absurd (can.ready.moves (linked_at can.row.name can.row.commit (good_ref can.ready) (commit_digest can.ready) old (settled_disk w after (synced step) disk left (active can.row.name) ∙ ap (spot_of w.files) linked_now)))
      | inr new ↦ new
    ]

    opens_new : Opens staged.state w
    opens_new = record { shown = shown_new; sound = either_now.sound }

  pub was_switched : WasSwitched staged u w
  was_switched = record { opens = opens_new; settled = synced step }

-- ---- where it may be

active_fits : (k : RefKind) (id arch branch : List ℕ) (p : Elements) (spot : Spot) → is_id id ≡ true → is_arch arch ≡ true → is_branch branch ≡ true
    → Fits (zone (outward (codes "active" ∷ (branch ∷ (arch ∷ (id ∷ (kind_word k ∷ []))))))) p spot → IsLinkOrGone spot
active_fits App id arch branch p spot i a b fits = unless_any (is_branch branch) a_link p spot b (unless_any (is_arch arch) _ p spot a (unless_any (is_id id) _ p spot i fits))
active_fits Runtime id arch branch p spot i a b fits = unless_any (is_branch branch) a_link p spot b (unless_any (is_arch arch) _ p spot a (unless_any (is_id id) _ p spot i fits))

pub active_link : (name : Ref) {spot : Spot} → is_ref name ≡ true → Allowed (active name) spot → IsLinkOrGone spot
active_link name {spot = spot} good allowed =
    let id = and_parts (is_id name.id) (is_arch name.arch && is_branch name.branch) good in
    let more = and_parts (is_arch name.arch) (is_branch name.branch) id.1 in
    active_fits name.kind name.id name.arch name.branch (active name) spot id.0 more.0 more.1 allowed.fits

pub can_rename : {staged : Staged} {v : View} → IsTree v → CanSwitch staged v → Can (renames staged.from staged.to) v
can_rename {staged = staged} {v = v} tree can =
    subst (λ (p : Elements). Can (renames p staged.to) v) (sym can.leads.from) (subst (λ (p : Elements). Can (renames new_link p) v) (sym can.leads.to) can_now)
  where
    row : RefRow
    row = can.row

    sound : Sound (shows v)
    sound = can.ready.stages.opens.sound (shows v) (now_left v)

    prepared : Prepared (shows v) row.name row
    prepared = can.ready.stages.prepared (shows v) (now_left v)

    commit_there : v.names (commit_dir row.name row.commit) ≡ dir
    commit_there = folder_dir tree (commit_dir row.name row.commit) (folder_stands prepared.stands)

    branch_there : v.names (branch_dir row.name) ≡ dir
    branch_there = elim (tree.above (hex row.commit) (branch_dir row.name)) [ inl none ↦ absurd (cc (sym commit_there ∙ none)) | inr is ↦ is ]

    no_dir : IsNoDir (v.names (active row.name))
    no_dir = leaf_no_dir (v.names (active row.name)) (link_free tree (active row.name) (active_link row.name (good_ref can.ready) (sound.kinds (active row.name))))

    can_now : Can (renames new_link (active row.name)) v
    can_now = (subst IsLeaf (sym can.ready.linked) tt, branch_there, no_dir, (λ e. cc e), λ is. absurd (cc (sym can.ready.linked ∙ is.1)))
