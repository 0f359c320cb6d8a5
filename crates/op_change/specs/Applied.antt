-- The effect of one operation on an installation.
use Rattle.std.specs.Prelude.{◌≡◌, ◌≢◌, ◌≤◌, ◌⊎◌, ⊤, ℕ, List, length, Option, Some, None, Result, Ok, Err, IsErrOf, option_map}
use Rattle.fp_host.specs.Paths.{Elements, Slot, absent}
use Rattle.fp_host.specs.View.{View}
use Rattle.fp_host.specs.Outcome.{IsSettled}
use Rattle.fp_host.specs.Remote.{Holdings}
use Rattle.fp_keyfile.specs.KeyFile.{text_of}
use Rattle.fp_small.specs.Clear.{AbsentAt}
use Rattle.fp_small.specs.Config.{config_text, name_of}
use Rattle.fp_small.specs.Files.{KeepsFiles}
use Rattle.fp_small.specs.Move.{HasNew}
use Rattle.fp_small.specs.Replace.{IsStaging, ReplacesName}
use Rattle.fp_small.specs.declared.refusal.Refusal.{Refusal}
use Rattle.fp_small.specs.declared.state.RemoteRow.{RemoteRow}
use Rattle.fp_small.specs.declared.state.State.{State}
use Rattle.fp_small.specs.declared.op.Op.{Op}
use Rattle.fp_base.specs.declared.object.ObjKind.{ObjKind}
use Rattle.fp_small.specs.Places.{repo}
use Rattle.ost_model.specs.Objects.{Have}
use Rattle.ost_pull.specs.Pulls.{IsLacked}
use Rattle.ost_store.specs.Created.{Creates}
use Rattle.dep_states.specs.After.{Done, state_after, plain, May, IsOnConfig, IsGood}
use Rattle.dep_states.specs.Effects.{Effect, Write, effect_of, BringsCommit, brings, writes, moves, leaves, sets, migrates, layers, bares}
use Rattle.dep_states.specs.Lasting.{IsLasting, SharesAs}
use Rattle.dep_states.specs.Links.{Links}
use Rattle.dep_states.specs.Names.{config, override_path, active}
use Rattle.dep_states.specs.Shown.{at_name, settings_of, small_most}
use Rattle.dep_states.specs.Sound.{Opens, HasConfig}
use Rattle.dep_states.specs.Switch.{OpensEither}
use Rattle.op_change.specs.Readying.{store_config}
use Rattle.op_change.specs.Deploys.{DeploysName, SameObjects, WasDone}
use Rattle.op_change.specs.Brought.{brought_refusal, commit_time, supply_at, HasObjects}
use Rattle.op_change.specs.Bringing.{BringsName, AreTold}
use Rattle.op_change.specs.declared.ending.ApplyEnd.{ApplyEnd}
use Rattle.op_change.specs.declared.ending.ApplyEnd.TheVariants as ends

-- The operation brings a commit: it is an install or an update
abbrev pub Brings : Op → Type 0
Brings op = BringsCommit (effect_of op)

-- If the effect sets an override, its file has at most 1 MiB, so that it can be read
abbrev pub FitsFile : Effect → Type 0
FitsFile (writes (layers row)) = length (text_of row.file) ≤ small_most
FitsFile _ = Unit {0}

-- If the operation sets an override, its file has at most 1 MiB
abbrev pub IsShort : Op → Type 0
IsShort op = FitsFile (effect_of op)

-- The operation is one on the settings that the state allows, and the state can be written
pub record MaySet (s : State) (op : Op) : Type 0 where
  pub may : May s op
  pub here : IsOnConfig op
  pub good : IsGood s

-- ---- what an operation brings

-- The URL of a remote
abbrev pub url_in : RemoteRow → List ℕ
url_in row = row.url

-- The URL of the state's remote with this name; nothing if there is none
abbrev pub url_of : State → List ℕ → Option (List ℕ)
url_of s origin = option_map url_in (at_name name_of s.remotes origin)

-- The URL of the remote that an effect brings a commit from; nothing if it brings none or the state
-- lacks the remote
abbrev pub url_by : State → Effect → Option (List ℕ)
url_by s (brings name remote commit) = url_of s remote
url_by s (writes write) = None

-- The URL of the remote that an operation brings a commit from; nothing if it brings none or the
-- state lacks the remote
abbrev pub url_for : State → Op → Option (List ℕ)
url_for s op = url_by s (effect_of op)

-- The objects of the store, and those of the operation's remote where the store has none
abbrev pub have_for : State → Op → Holdings → View → Have
have_for s op held v = supply_at held (url_for s op) v

-- The timestamp of the commit that an effect brings; 0 if it brings none
abbrev pub time_by : Have → Effect → ℕ
time_by have (brings name remote commit) = commit_time have commit
time_by have (writes write) = 0

-- The operation, with the timestamp of the commit that it brings
abbrev pub done_with : Have → Op → Done
done_with have op = record { op = op; timestamp = time_by have (effect_of op) }

-- The refusal of the commit that an effect brings; nothing if there is none
abbrev pub refusal_by : Have → Effect → Option Refusal
refusal_by have (brings name remote commit) = brought_refusal have name commit
refusal_by have (writes write) = None

-- The refusal of the commit that an operation brings; nothing if there is none
abbrev pub op_refusal : Have → Op → Option Refusal
op_refusal have op = refusal_by have (effect_of op)

-- The result is the state after the operation if nothing is refused, else the refusal. A fault, or
-- running out of memory, promises nothing.
abbrev pub AppliesWith : Have → State → Op → Result State ApplyEnd → Type 0
AppliesWith have s op (Ok t) = (op_refusal have op ≡ None) × (t ≡ state_after s (done_with have op))
AppliesWith have s op (Err (ends.Refused refusal)) = op_refusal have op ≡ Some refusal
AppliesWith have s op (Err ends.Fault) = ⊤
AppliesWith have s op (Err ends.RemoteFault) = ⊤
AppliesWith have s op (Err ends.NoMemory) = ⊤

-- The result of an operation that brings no commit: the state after it, but never a refusal or a
-- fault of a remote
abbrev pub AppliesPlainly : State → Op → Result State ApplyEnd → Type 0
AppliesPlainly s op (Ok t) = t ≡ state_after s (plain op)
AppliesPlainly s op (Err (ends.Refused refusal)) = ⊥
AppliesPlainly s op (Err ends.Fault) = ⊤
AppliesPlainly s op (Err ends.RemoteFault) = ⊥
AppliesPlainly s op (Err ends.NoMemory) = ⊤

-- ---- what changes

-- A write may give the name `q` this entry, compared to the view `u` before it
abbrev pub MayWrite : Write → View → Elements → Slot → Type 0
MayWrite (moves name commit) u q e = DeploysName name commit q e
MayWrite (leaves name) u q e = AbsentAt (active name) q e
MayWrite sets u q e = ReplacesName config u q e
MayWrite migrates u q e = ReplacesName config u q e
MayWrite (layers row) u q e = ReplacesName (override_path row.name) u q e
MayWrite (bares name) u q e = AbsentAt (override_path name) q e

-- An effect may give the name `q` this entry, compared to the view `u` before it
abbrev pub ChangesName : State → Effect → View → Elements → Slot → Type 0
ChangesName s (brings name remote commit) u q e = BringsName s name commit q e
ChangesName s (writes write) u q e = MayWrite write u q e

-- An operation on the state `s` may give the name `q` this entry, compared to the view `u` before
-- it
abbrev pub MayChange : State → Op → View → Elements → Slot → Type 0
MayChange s op u q e = ChangesName s (effect_of op) u q e

-- An operation changes no names but those of `MayChange`. The store's `config` keeps its entry if
-- it exists, each file keeps its mode and its bytes, and nothing is printed. A file that is new in
-- a commit's directory is the record `deploy`, or was put below the store's objects.
pub record ChangesBy (s : State) (op : Op) (u w : View) : Type 0 where
  pub names : (q : Elements) → (w.names q ≡ u.names q) ⊎ MayChange s op u q (w.names q)
  pub config_stays : u.names store_config ≢ absent
      → w.names store_config ≡ u.names store_config
  pub files : KeepsFiles u w
  pub links : Links u w
  pub printed : w.printed ≡ u.printed

-- If the operation brings a commit, the remotes report the content `held`
abbrev pub IsHeldFor : Op → Option Holdings → Holdings → Type 0
IsHeldFor op holds held = Brings op → holds ≡ Some held

-- An operation at each moment, if every crash left the state `s` before, and if the remotes report
-- their content in case it brings a commit: every crash leaves `s` or the new state, and only `s`
-- if the operation is refused. It changes nothing but what `ChangesBy` allows.
pub record Applies (s : State) (op : Op) (holds : Option Holdings) (u w : View) : Type 0 where
  pub either : (held : Holdings) → IsHeldFor op holds held → Opens s u
      → OpensEither s (state_after s (done_with (have_for s op held u) op)) w
  pub refused : (held : Holdings) → IsHeldFor op holds held → (r : Refusal)
      → op_refusal (have_for s op held u) op ≡ Some r → Opens s u → Opens s w
  pub changes : (Brings op → Opens s u) → ChangesBy s op u w

-- ---- in the end

-- After an operation on the settings, every crash leaves `config` with exactly the text of the
-- state's settings, and nothing is left at the staging path
pub record HasSettings (s : State) (u w : View) : Type 0 where
  pub text : HasNew config (config_text (settings_of s)) w
  pub config : HasConfig w
  pub work : (q : Elements) → IsStaging u q → w.names q ≡ absent

-- An operation on the settings succeeded: the state `s` became `t`, and `config` has its text
pub record SettingsDone (s t : State) (u w : View) : Type 0 where
  pub done : WasDone s t u w
  pub settings : HasSettings t u w

-- The store has the objects of the commit that an effect brings, and those that it had; if no
-- commit is brought, it has the same objects as before
abbrev pub HasObjectsBy : Have → Effect → View → View → Type 0
HasObjectsBy have (brings name remote commit) u w = HasObjects have commit u w
HasObjectsBy have (writes write) u w = SameObjects u w

-- The store has the objects of the commit that an operation brings, and those that it had; if no
-- commit is brought, it has the same objects as before
abbrev pub HasObjectsFor : Have → Op → View → View → Type 0
HasObjectsFor have op u w = HasObjectsBy have (effect_of op) u w

-- The object is one of the commit that an effect brings, and the store lacked it
abbrev pub IsLackedBy : Have → Effect → View → List ℕ × ObjKind → Type 0
IsLackedBy have (brings name remote commit) u o = IsLacked repo have commit u o
IsLackedBy have (writes write) u o = ⊥

-- The object is one of the commit that an operation brings, and the store lacked it
abbrev pub IsBroughtFor : Have → Op → View → List ℕ × ObjKind → Type 0
IsBroughtFor have op u o = IsLackedBy have (effect_of op) u o

-- The operation succeeded, and every crash leaves exactly the present content. If every crash left
-- the state `s` before, and if the remotes report their content in case the operation brings a
-- commit: every crash leaves the new state, the store has the commit's objects, each new file that
-- has bytes was put at a path where it lasts, and exactly those of the commit's objects were made
-- that the store lacked. An operation on the settings left `config` with their text.
pub record WasApplied (s : State) (op : Op) (holds : Option Holdings) (u w : View) : Type 0 where
  pub opens : (held : Holdings) → IsHeldFor op holds held → Opens s u
      → Opens (state_after s (done_with (have_for s op held u) op)) w
  pub objects : (held : Holdings) → IsHeldFor op holds held → (Brings op → Opens s u)
      → HasObjectsFor (have_for s op held u) op u w
  pub shares : (held : Holdings) → IsHeldFor op holds held → (Brings op → Opens s u)
      → SharesAs IsLasting u w
  pub creates : (held : Holdings) → IsHeldFor op holds held → (Brings op → Opens s u)
      → Creates repo (IsBroughtFor (have_for s op held u) op u) u w
  pub settled : IsSettled w
  pub settings : IsOnConfig op → HasSettings (state_after s (plain op)) u w

-- Memory ran out. If every crash left the state `s` before, it still does, for an operation that
-- brings a commit if the remotes report their content. An operation on the settings changed
-- nothing.
pub record IsStarved (s : State) (op : Op) (holds : Option Holdings) (u w : View) : Type 0 where
  pub opens : (Brings op → AreTold holds) → Opens s u → Opens s w
  pub settings : IsOnConfig op → w ≡ u

-- The result is a fault of the host; if the operation brings a commit, the remotes report their
-- content
abbrev pub HostFaulted : {A : Type 0} → Op → Option Holdings → Result A ApplyEnd → Type 0
HostFaulted op holds result = (Brings op → AreTold holds) × IsErrOf result ends.Fault
