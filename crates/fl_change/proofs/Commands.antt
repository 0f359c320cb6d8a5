-- What commands on refs answer, by what the state has.
use Rattle.std.proofs.Common.{◌≡◌, inl, inr, ℕ, zero, suc, List, [], ◌∷◌, drop, Bool, true, false, ◌||◌, Option, Some, None, option_map, Result, Ok, Err, if◌then◌else◌, refl, sym, ◌∙◌, ap, subst}
use Rattle.std.specs.Option.{option_map_or}
use Rattle.fp_host.specs.Remote.{Holdings}
use Rattle.fp_name.specs.Refs.{Ref}
use Rattle.fp_small.specs.Config.{name_of}
use Rattle.fp_small.specs.Order.{has_name}
use Rattle.std.specs.Str.{bytes_eq}
use Rattle.std.proofs.lemmas.Slice.Eq.{bytes_eq-Decides}
use Rattle.fp_small.specs.declared.state.RefRow.{RefRow}
use Rattle.fp_small.specs.declared.state.RemoteRow.{RemoteRow}
use Rattle.fp_small.specs.declared.state.OverrideRow.{OverrideRow}
use Rattle.fp_small.specs.declared.op.Op.{Op}
use Rattle.fp_small.specs.declared.op.Op.TheVariants.{Uninstall, DropOverride, Rollback}
use Rattle.fp_small.specs.declared.state.State.{State}
use Rattle.fp_small.specs.declared.state.Layout.TheVariants.{Two}
use Rattle.fp_small.specs.declared.refusal.Refusal.{Refusal}
use Rattle.fp_small.specs.declared.refusal.Refusal.TheVariants as refusals
use Rattle.fl_meta.specs.declared.meta.Meta.{Meta}
use Rattle.fl_installed.specs.Described.{described}
use Rattle.fl_installed.specs.Users.{first_user}
use Rattle.fp_name.specs.Refs.{ref_text}
use Rattle.fp_name.specs.Grammar.{is_override}
use Rattle.dep_states.specs.Shown.{at_name, ref_key, override_key}
use Rattle.std.specs.List.{AllByRecursion}
use Rattle.fp_small.specs.declared.state.Previous.{Previous}
use Rattle.dep_states.specs.After.{row_at, Allows, May, IsGoodLayer, HasPrevious}
use Rattle.dep_states.specs.Effects.{Effect, effect_of, layout_before, BringsCommit, brings, writes}
use Rattle.fl_plan.specs.Allowed.{IsComing}
use Rattle.op_change.specs.Applied.{Brings, IsShort, FitsFile}
use Rattle.fl_words.specs.declared.command.Change.{Change}
use Rattle.fl_change.specs.Turns.{OpsOf, OpsOfAny}
use Rattle.fl_change.specs.World.{World}
use Rattle.fl_change.specs.Answer.{Answer, nothing, refusal_answer, unless}
use Rattle.fl_change.specs.Ends.{or_refuse}
use Rattle.fl_change.specs.Refs.{previous_commit, op_over, if_remote, from_remote, installed_refusal, install_over, update_over, skipped, updated_from, target_over, used_refusal, uninstall_over, drop_over, missing_refusal, back_to, previous_in, going_back, rollback_over, reset_over}
use Rattle.fl_change.proofs.Asking.{refuse_none, refuse_some}

found_none : {A : Type 0} (found : A → Answer) (none : Answer) (o : Option A) → o ≡ None → option_map_or found o none ≡ none
found_none found none o is = ap (λ (q : Option _). option_map_or found q none) is

found_some : {A : Type 0} (found : A → Answer) (none : Answer) (a : A) (o : Option A) → o ≡ Some a → option_map_or found o none ≡ found a
found_some found none a o is = ap (λ (q : Option _). option_map_or found q none) is

refused_by : (o : Option Refusal) (r : Refusal) (a : Answer) → o ≡ Some r → unless o a ≡ refusal_answer r
refused_by o r a is = ap (λ (q : Option Refusal). unless q a) is

allowed_by : (o : Option Refusal) (a : Answer) → o ≡ None → unless o a ≡ a
allowed_by o a is = ap (λ (q : Option Refusal). unless q a) is

module _ (held : Holdings) (x : World) where
  -- ---- `install`

  abbrev installing : Ref → RemoteRow → Answer
  installing name row = unless (installed_refusal name (row_at x.state name)) (from_remote row name held x)

  pub install_no_remote : (origin : List ℕ) (name : Ref) (r : Refusal) → or_refuse (refusals.NoSuchRemote origin) (at_name name_of x.state.remotes origin) ≡ Err r → install_over origin name held x ≡ refusal_answer r
  install_no_remote origin name r is =
      let none = refuse_none (refusals.NoSuchRemote origin) r (at_name name_of x.state.remotes origin) is in
      found_none (installing name) (refusal_answer (refusals.NoSuchRemote origin)) (at_name name_of x.state.remotes origin) none.0 ∙ ap refusal_answer none.1

  install_at : (origin : List ℕ) (name : Ref) (row : RemoteRow) → or_refuse (refusals.NoSuchRemote origin) (at_name name_of x.state.remotes origin) ≡ Ok row → install_over origin name held x ≡ installing name row
  install_at origin name row is = found_some (installing name) (refusal_answer (refusals.NoSuchRemote origin)) row (at_name name_of x.state.remotes origin) (refuse_some (refusals.NoSuchRemote origin) row (at_name name_of x.state.remotes origin) is)

  pub install_again : (origin : List ℕ) (name : Ref) (row : RemoteRow) (r : Refusal) → or_refuse (refusals.NoSuchRemote origin) (at_name name_of x.state.remotes origin) ≡ Ok row → installed_refusal name (row_at x.state name) ≡ Some r → install_over origin name held x ≡ refusal_answer r
  install_again origin name row r is there = install_at origin name row is ∙ refused_by (installed_refusal name (row_at x.state name)) r (from_remote row name held x) there

  pub install_new : (origin : List ℕ) (name : Ref) (row : RemoteRow) → or_refuse (refusals.NoSuchRemote origin) (at_name name_of x.state.remotes origin) ≡ Ok row → installed_refusal name (row_at x.state name) ≡ None → install_over origin name held x ≡ from_remote row name held x
  install_new origin name row is new = install_at origin name row is ∙ allowed_by (installed_refusal name (row_at x.state name)) (from_remote row name held x) new

  -- ---- `update REF`

  -- the remote that a ref comes from
  abbrev pub origin_in : Ref → Option (List ℕ)
  origin_in name = option_map (λ row. row.origin) (row_at x.state name)

  abbrev update_at : Ref → List ℕ → Answer
  update_at name origin = if_remote x origin (λ remote. from_remote remote name held x) (refusal_answer (refusals.NoSuchRemote origin))

  by_origin : (name : Ref) (f : List ℕ → Answer) (none : Answer) (o : Option RefRow) (origin : List ℕ) → option_map (λ row. row.origin) o ≡ Some origin → option_map_or (λ row. f row.origin) o none ≡ f origin
  by_origin name f none None origin is = absurd (cc is)
  by_origin name f none (Some row) origin is = let same : row.origin ≡ origin = cc is in ap f same

  no_origin : (f : RefRow → Answer) (none : Answer) (o : Option RefRow) → option_map (λ row. row.origin) o ≡ None → option_map_or f o none ≡ none
  no_origin f none None is = refl
  no_origin f none (Some row) is = absurd (cc is)

  pub update_not_there : (name : Ref) (r : Refusal) → or_refuse (refusals.NotInstalled name) (origin_in name) ≡ Err r → update_over name held x ≡ refusal_answer r
  update_not_there name r is =
      let none = refuse_none (refusals.NotInstalled name) r (origin_in name) is in
      no_origin (λ row. update_at name row.origin) (refusal_answer (refusals.NotInstalled name)) (row_at x.state name) none.0 ∙ ap refusal_answer none.1

  update_origin : (name : Ref) (origin : List ℕ) → or_refuse (refusals.NotInstalled name) (origin_in name) ≡ Ok origin → update_over name held x ≡ update_at name origin
  update_origin name origin is = by_origin name (update_at name) (refusal_answer (refusals.NotInstalled name)) (row_at x.state name) origin (refuse_some (refusals.NotInstalled name) origin (origin_in name) is)

  pub update_no_remote : (name : Ref) (origin : List ℕ) (r : Refusal) → or_refuse (refusals.NotInstalled name) (origin_in name) ≡ Ok origin → or_refuse (refusals.NoSuchRemote origin) (at_name name_of x.state.remotes origin) ≡ Err r → update_over name held x ≡ refusal_answer r
  update_no_remote name origin r is gone =
      let none = refuse_none (refusals.NoSuchRemote origin) r (at_name name_of x.state.remotes origin) gone in
      update_origin name origin is ∙ found_none (λ remote. from_remote remote name held x) (refusal_answer (refusals.NoSuchRemote origin)) (at_name name_of x.state.remotes origin) none.0 ∙ ap refusal_answer none.1

  pub update_there : (name : Ref) (origin : List ℕ) (remote : RemoteRow) → or_refuse (refusals.NotInstalled name) (origin_in name) ≡ Ok origin → or_refuse (refusals.NoSuchRemote origin) (at_name name_of x.state.remotes origin) ≡ Ok remote → update_over name held x ≡ from_remote remote name held x
  update_there name origin remote is there = update_origin name origin is
      ∙ found_some (λ remote. from_remote remote name held x) (refusal_answer (refusals.NoSuchRemote origin)) remote (at_name name_of x.state.remotes origin) (refuse_some (refusals.NoSuchRemote origin) remote (at_name name_of x.state.remotes origin) there)

  -- ---- `update`

  abbrev target_at : Ref → List ℕ → Answer
  target_at name origin = if_remote x origin (λ remote. updated_from remote name held x) (skipped name)

  pub target_none : (name : Ref) → row_at x.state name ≡ None → target_over name held x ≡ nothing
  target_none name is = found_none (λ row. target_at name row.origin) nothing (row_at x.state name) is

  pub target_gone : (name : Ref) (row : RefRow) → row_at x.state name ≡ Some row → at_name name_of x.state.remotes row.origin ≡ None → target_over name held x ≡ skipped name
  target_gone name row is gone = found_some (λ row. target_at name row.origin) nothing row (row_at x.state name) is ∙ found_none (λ remote. updated_from remote name held x) (skipped name) (at_name name_of x.state.remotes row.origin) gone

  pub target_there : (name : Ref) (row : RefRow) (remote : RemoteRow) → row_at x.state name ≡ Some row → at_name name_of x.state.remotes row.origin ≡ Some remote → target_over name held x ≡ updated_from remote name held x
  target_there name row remote is there = found_some (λ row. target_at name row.origin) nothing row (row_at x.state name) is ∙ found_some (λ remote. updated_from remote name held x) (skipped name) remote (at_name name_of x.state.remotes row.origin) there

  pub target_from : (name : Ref) (row : RefRow) (origin : List ℕ) (remote : RemoteRow) → row_at x.state name ≡ Some row → origin ≡ row.origin → at_name name_of x.state.remotes origin ≡ Some remote → target_over name held x ≡ updated_from remote name held x
  target_from name row origin remote is same there = target_there name row remote is (subst (λ (o : List ℕ). at_name name_of x.state.remotes o ≡ Some remote) same there)

  pub target_passed : (name : Ref) (row : RefRow) (origin : List ℕ) → row_at x.state name ≡ Some row → origin ≡ row.origin → at_name name_of x.state.remotes origin ≡ None → target_over name held x ≡ skipped name
  target_passed name row origin is same gone = target_gone name row is (subst (λ (o : List ℕ). at_name name_of x.state.remotes o ≡ None) same gone)

  -- ---- `uninstall`

  abbrev uninstalling : Ref → Answer
  uninstalling name = unless (used_refusal name (first_user x.have name x.state.refs)) (op_over (Uninstall name) held x)

  pub uninstall_not_there : (name : Ref) (r : Refusal) → or_refuse (refusals.NotInstalled name) (origin_in name) ≡ Err r → uninstall_over name held x ≡ refusal_answer r
  uninstall_not_there name r is =
      let none = refuse_none (refusals.NotInstalled name) r (origin_in name) is in
      no_origin (λ row. uninstalling name) (refusal_answer (refusals.NotInstalled name)) (row_at x.state name) none.0 ∙ ap refusal_answer none.1

  uninstall_at : (name : Ref) (origin : List ℕ) → or_refuse (refusals.NotInstalled name) (origin_in name) ≡ Ok origin → uninstall_over name held x ≡ uninstalling name
  uninstall_at name origin is = by_origin name (λ o. uninstalling name) (refusal_answer (refusals.NotInstalled name)) (row_at x.state name) origin (refuse_some (refusals.NotInstalled name) origin (origin_in name) is)

  pub uninstall_used : (name app : Ref) (origin : List ℕ) → or_refuse (refusals.NotInstalled name) (origin_in name) ≡ Ok origin → first_user x.have name x.state.refs ≡ Some app → uninstall_over name held x ≡ refusal_answer (refusals.RuntimeInUse name app)
  uninstall_used name app origin is used = uninstall_at name origin is ∙ ap (λ (o : Option Ref). unless (used_refusal name o) (op_over (Uninstall name) held x)) used

  pub uninstall_free : (name : Ref) (origin : List ℕ) → or_refuse (refusals.NotInstalled name) (origin_in name) ≡ Ok origin → first_user x.have name x.state.refs ≡ None → uninstall_over name held x ≡ op_over (Uninstall name) held x
  uninstall_free name origin is free = uninstall_at name origin is ∙ ap (λ (o : Option Ref). unless (used_refusal name o) (op_over (Uninstall name) held x)) free

  pub drop_there : (name : Ref) (row : RefRow) → row_at x.state name ≡ Some row → drop_over name held x ≡ op_over (Uninstall name) held x
  drop_there name row is = found_some (λ r. op_over (Uninstall name) held x) nothing row (row_at x.state name) is

  pub drop_none : (name : Ref) → row_at x.state name ≡ None → drop_over name held x ≡ nothing
  drop_none name is = found_none (λ r. op_over (Uninstall name) held x) nothing (row_at x.state name) is

  -- ---- `rollback`

  pub rollback_no_previous : (name : Ref) (r : Refusal) → previous_in name (row_at x.state name) ≡ Err r → rollback_over name held x ≡ refusal_answer r
  rollback_no_previous name r is = ap (λ (p : Result (List ℕ) Refusal). going_back name p held x) is

  pub rollback_at : (name : Ref) (commit : List ℕ) (said : Result Meta Refusal) → previous_in name (row_at x.state name) ≡ Ok commit → described x.have name commit ≡ said → rollback_over name held x ≡ back_to name commit said held x
  rollback_at name commit said is says = ap (λ (p : Result (List ℕ) Refusal). going_back name p held x) is ∙ ap (λ (m : Result Meta Refusal). back_to name commit m held x) says

  pub rollback_missing : (name : Ref) (commit : List ℕ) (meta : Meta) (r : Refusal) → previous_in name (row_at x.state name) ≡ Ok commit → described x.have name commit ≡ Ok meta → missing_refusal x.state meta.runtime ≡ Some r → rollback_over name held x ≡ refusal_answer r
  rollback_missing name commit meta r is says missing = rollback_at name commit (Ok meta) is says ∙ refused_by (missing_refusal x.state meta.runtime) r (op_over (Rollback name commit) held x) missing

  pub rollback_there : (name : Ref) (commit : List ℕ) (meta : Meta) → previous_in name (row_at x.state name) ≡ Ok commit → described x.have name commit ≡ Ok meta → missing_refusal x.state meta.runtime ≡ None → rollback_over name held x ≡ op_over (Rollback name commit) held x
  rollback_there name commit meta is says there = rollback_at name commit (Ok meta) is says ∙ allowed_by (missing_refusal x.state meta.runtime) (op_over (Rollback name commit) held x) there

  -- ---- `override --reset`

  pub reset_there : (name : List ℕ) (row : OverrideRow) → at_name override_key x.state.overrides name ≡ Some row → reset_over name held x ≡ op_over (DropOverride name) held x
  reset_there name row is = found_some (λ r. op_over (DropOverride name) held x) nothing row (at_name override_key x.state.overrides name) is

  pub reset_none : (name : List ℕ) → at_name override_key x.state.overrides name ≡ None → reset_over name held x ≡ nothing
  reset_none name is = found_none (λ r. op_over (DropOverride name) held x) nothing (at_name override_key x.state.overrides name) is

-- ---- the operations of a list of changes

pub any_at : (op : Op) (all : List Change) (i : ℕ) (change : Change) (rest : List Change) → drop i all ≡ change ∷ rest → OpsOf change op → OpsOfAny all op
any_at op [] zero change rest is may = absurd (cc is)
any_at op [] (suc i) change rest is may = absurd (cc is)
any_at op (c ∷ cs) zero change rest is may = let same : c ≡ change = cc is in inl (subst (λ (x : Change). OpsOf x op) (sym same) may)
any_at op (c ∷ cs) (suc i) change rest is may = inr (any_at op cs i change rest is may)

-- ---- operations of a plan

pub comes : (op : Op) → IsComing op → Brings op
comes op coming = coming

short_by : (e : Effect) → BringsCommit e → FitsFile e
short_by (brings name origin commit) coming = tt
short_by (writes write) coming = absurd coming

pub comes_short : (op : Op) → IsComing op → IsShort op
comes_short op coming = short_by (effect_of op) coming

layout_by : (e : Effect) → BringsCommit e → layout_before e ≡ Two
layout_by (brings name origin commit) coming = refl
layout_by (writes write) coming = absurd coming

pub may_come : (s : State) (op : Op) → s.layout ≡ Two → IsComing op → Allows s op → May s op
may_come s op two coming allows = record { layout = two ∙ sym (layout_by (effect_of op) coming); allows = allows }

-- ---- a remote that is found has its name

has_by : (y row : RemoteRow) (ys : List RemoteRow) (o : Option RemoteRow) (b : Bool) → (o ≡ Some row → has_name name_of ys row.name ≡ true) → (if b then Some y else o) ≡ Some row → has_name name_of (y ∷ ys) row.name ≡ true
has_by y row ys o true later is =
    let same : y ≡ row = cc is in
    ap (λ (c : Bool). c || has_name name_of ys row.name) ((bytes_eq-Decides row.name y.name).1 (ap (λ (r : RemoteRow). r.name) (sym same)))
has_by y row ys o false later is = either (bytes_eq row.name y.name) (has_name name_of ys row.name) (later is)
  where
    either : (b c : Bool) → c ≡ true → (b || c) ≡ true
    either true c is = refl
    either false c is = is

pub has_found : (rows : List RemoteRow) (name : List ℕ) (row : RemoteRow) → at_name name_of rows name ≡ Some row → has_name name_of rows row.name ≡ true
has_found [] name row is = absurd (cc is)
has_found (y ∷ ys) name row is = has_by y row ys (at_name name_of ys name) (bytes_eq (name_of y) name) (λ more. has_found ys name row more) is

pub has_said : (rows : List RemoteRow) (name : List ℕ) (row : RemoteRow) → or_refuse (refusals.NoSuchRemote name) (at_name name_of rows name) ≡ Ok row → has_name name_of rows row.name ≡ true
has_said rows name row is = has_found rows name row (refuse_some (refusals.NoSuchRemote name) row (at_name name_of rows name) is)

-- ---- what is found in a state

pub remote_at : (t s : State) (origin : List ℕ) (found o : Option RemoteRow) → t ≡ s → found ≡ at_name name_of t.remotes origin → found ≡ o → at_name name_of s.remotes origin ≡ o
remote_at t s origin found o same is was = subst (λ (x : State). at_name name_of x.remotes origin ≡ o) same (sym is ∙ was)

pub row_found : (t s : State) (name : Ref) (rows : List RefRow) (found o : Option RefRow) → t ≡ s → rows ≡ t.refs → found ≡ at_name ref_key rows (ref_text name) → found ≡ o → row_at s name ≡ o
row_found t s name rows found o same these is was = subst (λ (x : State). row_at x name ≡ o) same (subst (λ (l : List RefRow). at_name ref_key l (ref_text name) ≡ o) these (sym is ∙ was))

pub override_found : (t s : State) (name : List ℕ) (rows : List OverrideRow) (found o : Option OverrideRow) → t ≡ s → rows ≡ t.overrides → found ≡ at_name override_key rows name → found ≡ o → at_name override_key s.overrides name ≡ o
override_found t s name rows found o same these is was = subst (λ (x : State). at_name override_key x.overrides name ≡ o) same (subst (λ (l : List OverrideRow). at_name override_key l name ≡ o) these (sym is ∙ was))

-- the name of an override that is there
layer_by : (y row : OverrideRow) (name : List ℕ) (o : Option OverrideRow) (b : Bool) → bytes_eq y.name name ≡ b → IsGoodLayer y → (o ≡ Some row → is_override name ≡ true) → (if b then Some y else o) ≡ Some row → is_override name ≡ true
layer_by y row name o true eq good later is = subst (λ (n : List ℕ). is_override n ≡ true) ((bytes_eq-Decides y.name name).0 eq) good.name
layer_by y row name o false eq good later is = later is

pub is_layer : (rows : List OverrideRow) (name : List ℕ) (row : OverrideRow) → AllByRecursion IsGoodLayer rows → at_name override_key rows name ≡ Some row → is_override name ≡ true
is_layer [] name row good is = absurd (cc is)
is_layer (y ∷ ys) name row good is = layer_by y row name (at_name override_key ys name) (bytes_eq y.name name) refl good.0 (λ more. is_layer ys name row good.1 more) is

-- a previous commit that is there
was_at : (name : Ref) (o : Option Previous) (commit : List ℕ) → previous_commit name o ≡ Ok commit → (p : Previous) × (o ≡ Some p) × (p.commit ≡ commit)
was_at name None commit is = absurd (cc is)
was_at name (Some p) commit is = (p, refl, cc is)

pub has_previous : (name : Ref) (o : Option RefRow) (commit : List ℕ) → previous_in name o ≡ Ok commit → (row : RefRow) × (o ≡ Some row) × HasPrevious commit row
has_previous name None commit is = absurd (cc is)
has_previous name (Some row) commit is = (row, refl, was_at name row.previous commit is)
