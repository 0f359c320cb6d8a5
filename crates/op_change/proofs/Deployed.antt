-- A row that is deployed.
use Rattle.std.proofs.Common.{◌≡◌, ◌⊎◌, inl, inr, ℕ, List, Option, sym, ◌∙◌, ap, subst, Contains}
use Rattle.fp_host.specs.Paths.{Elements, Slot, file, link, IsAbove}
use Rattle.fp_host.specs.View.{View}
use Rattle.fp_host.specs.Frame.{AtEnd}
use Rattle.fp_host.specs.Moments.{Moments, Goes}
use Rattle.fp_host.proofs.Ending.{ends_on, goes_known}
use Rattle.fp_host.proofs.Framed.{IsTold}
use Rattle.fp_host.proofs.Goes.{begins, goes_on}
use Rattle.fp_name.specs.Hex.{hex}
use Rattle.fp_name.specs.Refs.{Ref}
use Rattle.fp_small.specs.Clear.{IsWithin}
use Rattle.fp_small.specs.Files.{KeepsFiles}
use Rattle.fp_small.specs.Places.{repo, tmp}
use Rattle.fp_small.specs.declared.state.State.{State}
use Rattle.fp_small.specs.declared.state.RefRow.{RefRow}
use Rattle.fp_small.proofs.Keeping.{files_on}
use Rattle.ost_model.specs.Stores.{objects_folder}
use Rattle.ost_store.specs.Created.{Creates, NoObject}
use Rattle.ost_store.proofs.Creating.{creates_none, creates_on}
use Rattle.dep_states.specs.Links.{Links}
use Rattle.dep_states.specs.Names.{commit_dir, deploy}
use Rattle.dep_states.specs.Sound.{Opens}
use Rattle.dep_states.specs.Switch.{OpensEither}
use Rattle.dep_states.proofs.Elsewhere.{off_record}
use Rattle.dep_states.proofs.Lasting.{TakesFiles, a_record}
use Rattle.dep_states.proofs.Linked.{links_lasting}
use Rattle.dep_states.proofs.SharedAs.{shared_none, shared_on}
use Rattle.dep_switch.specs.Staging.{CanStage, Readies, WasStaged, LeadsTo, CanSwitch, Switches, SwitchesName, WasSwitched}
use Rattle.dep_switch.specs.Writing.{PreparesName, new_deploy, new_folder, the_link}
use Rattle.dep_switch.specs.declared.staged.Staged.{Staged}
use Rattle.op_change.specs.Deploys.{DeploysName, work_goes, before_switch, at_active, Deploys, WasDeployed}

-- the only file that comes to a name is the record
pub deploys_file : (name : Ref) (commit : List ℕ) (q : Elements) (id : ℕ) → DeploysName name commit q (file id) → TakesFiles q ⊎ IsWithin tmp q
deploys_file name commit q id (work_goes within none) = absurd (cc none)
deploys_file name commit q id (before_switch (new_deploy at is)) = inl (a_record name commit at)
deploys_file name commit q id (before_switch (new_folder has is)) = absurd (cc is)
deploys_file name commit q id (before_switch (the_link at is)) = absurd (cc is)
deploys_file name commit q id (at_active at is) = absurd (cc is)

pub deploys_links : (name : Ref) (commit : List ℕ) {u w : View} → ((q : Elements) → (w.names q ≡ u.names q) ⊎ DeploysName name commit q (w.names q)) → Links u w
deploys_links name commit names = links_lasting (DeploysName name commit) names (deploys_file name commit)

-- none of the files that are put is an object
pub prepares_creates : (name : Ref) (commit text : List ℕ) {u w : View} → ((x : Elements × Slot) → Contains w.stood x → Contains u.stood x ⊎ PreparesName (deploy (commit_dir name commit)) text x.0 x.1) → Creates repo NoObject u w
prepares_creates name commit text puts = creates_none (PreparesName (deploy (commit_dir name commit)) text) puts off
  where
    off : (q : Elements) (id : ℕ) → IsAbove (objects_folder repo) q → PreparesName (deploy (commit_dir name commit)) text q (file id) → ⊥
    off q id below (new_deploy at is) = off_record q below name commit at
    off q id below (new_folder has is) = cc is
    off q id below (the_link at is) = cc is

module _ {s : State} {row : RefRow} where
  -- while it is staged
  pub deploys_readies : {u w : View} → Readies s row u w → Deploys s row u w
  deploys_readies {u = u} {w = w} readies = record {
    either = λ can. let opens = readies.opens can.opens can.moves in record { shown = λ disk left. inl (opens.shown disk left); sound = opens.sound };
    names = names;
    files = readies.prepares.files;
    shares = readies.shares;
    links = deploys_links row.name row.commit names;
    creates = prepares_creates row.name row.commit (hex row.commit) readies.prepares.puts;
    printed = readies.prepares.printed;
  }
    where
      names : (q : Elements) → (w.names q ≡ u.names q) ⊎ DeploysName row.name row.commit q (w.names q)
      names q = elim (readies.prepares.names q) [ inl same ↦ inl same | inr may ↦ inr (before_switch may) ]

  module _ {staged : Staged} (leads : LeadsTo s row staged) where
    pub can_now : {u v : View} → WasStaged s row u v → CanStage s row u → CanSwitch staged v
    can_now was can = record { old = s; row = row; leads = leads; ready = was.staged can }

    -- and switched
    pub deploys_switches : {u v w : View} → Readies s row u v → WasStaged s row u v → Switches staged v w → Deploys s row u w
    deploys_switches {u = u} {v = v} {w = w} readies was switches = record {
      either = λ can. subst (λ (t : State). OpensEither s t w) leads.state (switches.either s row leads (was.staged can));
      names = names;
      files = files_on readies.prepares.files keeps;
      shares = shared_on readies.shares (shared_none (λ id none. switches.files id ∙ none)) keeps;
      links = deploys_links row.name row.commit names;
      creates = creates_on (prepares_creates row.name row.commit (hex row.commit) readies.prepares.puts) (creates_none (SwitchesName staged v) switches.puts no_file) readies.prepares.files keeps;
      printed = switches.printed ∙ readies.prepares.printed;
    }
      where
        keeps : KeepsFiles v w
        keeps = record { rows = λ id f some. switches.files id ∙ some; stood = switches.stood }

        linked : v.names staged.from ≡ link (hex row.commit)
        linked = ap v.names leads.from ∙ was.linked

        no_file : (q : Elements) (id : ℕ) → IsAbove (objects_folder repo) q → SwitchesName staged v q (file id) → ⊥
        no_file q id below (inl here) = cc (here.1 ∙ linked)
        no_file q id below (inr gone) = cc gone.1

        names : (q : Elements) → (w.names q ≡ u.names q) ⊎ DeploysName row.name row.commit q (w.names q)
        names q = elim (switches.names q) [
          | inl same ↦ elim (readies.prepares.names q) [ inl was_so ↦ inl (same ∙ was_so) | inr may ↦ inr (subst (DeploysName row.name row.commit q) (sym same) (before_switch may)) ]
          | inr put ↦ inr (elim put [
            | inl here ↦ at_active (here.0 ∙ leads.to) (here.1 ∙ linked)
            | inr gone ↦ work_goes (inl (gone.0 ∙ leads.from)) gone.1
          ])
        ]

    was_deployed : {u v w : View} → WasStaged s row u v → WasSwitched staged v w → WasDeployed s row u w
    was_deployed {w = w} was done = record {
      opens = λ can. subst (λ (t : State). Opens t w) leads.state (done.opens (can_now was can));
      settled = done.settled;
    }

    pub deployed : {a b c : Option Moments} → IsTold b → Goes a b (Readies s row) (Readies s row) → AtEnd (WasStaged s row) a b → Goes b c (Switches staged) (Switches staged) → IsTold a → Goes a c (Deploys s row) (Deploys s row)
    deployed mid first was second told =
        goes_on mid (begins told (goes_known first was) (λ u w t r. deploys_readies r) (λ u w t r q. q)) second
        (λ u v w tree r q x. deploys_switches q.0 q.1 x) (λ u v w tree r q x e. deploys_switches q.0 q.1 e)

    pub deployed_end : {a b c : Option Moments} → IsTold b → AtEnd (WasStaged s row) a b → AtEnd (WasSwitched staged) b c → AtEnd (WasDeployed s row) a c
    deployed_end mid was done = ends_on done was mid (λ u v w tree q e. was_deployed q e)
