-- Which names the parts of a run change, a refresh of the exported files among them.
use Rattle.std.proofs.Common.{◌≡◌, ◌≢◌, ◌⊎◌, inl, inr, None, sym, ◌∙◌, subst}
use Rattle.fp_host.specs.Paths.{Elements, Slot, absent}
use Rattle.fp_host.specs.View.{View}
use Rattle.fp_small.specs.Files.{KeepsFiles}
use Rattle.fp_small.proofs.Keeping.{files_on}
use Rattle.fp_small.specs.declared.op.Op.{Op}
use Rattle.fp_small.specs.declared.state.State.{State}
use Rattle.dep_states.proofs.Linked.{links_still, links_on}
use Rattle.fl_export.specs.Steps.{MayRefresh, some_export, some_work, store_folder, work_folder, Refreshes}
use Rattle.dep_states.specs.Names.{repo_config}
use Rattle.fp_host.specs.Paths.{IsAbove}
use Rattle.fp_small.specs.Places.{tmp}
use Rattle.fl_change.proofs.StoreConfig.{stays_on}
use Rattle.fl_change.specs.Answer.{Answer}
use Rattle.fl_change.specs.Changes.{Changes, OnlyTidied, IsUntouched}
use Rattle.fl_change.proofs.Changing.{keeps_files, may_hold, not_touched}
use Rattle.fp_host.specs.Frame.{NoName}
use Rattle.fl_top.specs.Exports.{MayCome, changed, refreshed, made_by, Alters, MayRest, tidied_at, refreshed_at, OnlyRests, RefreshesShown}

pub no_tmp : IsAbove tmp repo_config → ⊥
no_tmp (inl at) = cc at
no_tmp (inr (inl at)) = cc at
no_tmp (inr (inr none)) = none

-- a refresh of the exported files leaves the store's `config`
no_refreshed : (e : Slot) → MayRefresh repo_config e → ⊥
no_refreshed e (some_export (inl at)) = cc at
no_refreshed e (some_export (inr (inl at))) = cc at
no_refreshed e (some_export (inr (inr (inl at)))) = cc at
no_refreshed e (some_export (inr (inr (inr none)))) = none
no_refreshed e (some_work above) = no_tmp above
no_refreshed e (store_folder at is) = cc at
no_refreshed e (work_folder at is) = cc at

refreshed_stays : (u w : View) → ((q : Elements) → (w.names q ≡ u.names q) ⊎ MayRefresh q (w.names q)) → u.names repo_config ≢ absent → w.names repo_config ≡ u.names repo_config
refreshed_stays u w names there = elim (names repo_config) [ inl same ↦ same | inr may ↦ absurd (no_refreshed _ may) ]

pub alter_none : {May : Op → Type 0} {Make : Elements → Slot → Type 0} {u w : View} → ((q : Elements) → w.names q ≡ u.names q) → KeepsFiles u w → Alters May Make u w
alter_none names files = record { names = λ q. inl (names q); config_stays = λ there. names repo_config; files = files; links = links_still names }

pub alter_untouched : {May : Op → Type 0} {Make : Elements → Slot → Type 0} {u w : View} → IsUntouched u w → Alters May Make u w
alter_untouched same = alter_none same.names (keeps_files same)

-- nothing is done
pub alter_not : {May : Op → Type 0} {Make : Elements → Slot → Type 0} {v : View} → Alters May Make v v
alter_not = alter_untouched not_touched

pub alter_on : {May : Op → Type 0} {Make : Elements → Slot → Type 0} (u v w : View) → Alters May Make u v → Alters May Make v w → Alters May Make u w
alter_on {May = May} {Make = Make} u v w first second = record {
  names = λ q. elim (second.names q) [
    | inl same ↦ elim (first.names q) [ inl was ↦ inl (same ∙ was) | inr may ↦ inr (subst (MayCome May Make q) (sym same) may) ]
    | inr may ↦ inr may
  ];
  config_stays = stays_on u v w first.config_stays second.config_stays;
  files = files_on first.files second.files;
  links = links_on first.links second.links second.files;
}

come_to : {A B : Op → Type 0} {Make : Elements → Slot → Type 0} {q : Elements} {e : Slot} → ((op : Op) → A op → B op) → MayCome A NoName q e → MayCome B Make q e
come_to wider (changed may) = changed (may_hold wider may)
come_to wider (refreshed may) = refreshed may
come_to wider (made_by none) = absurd none

-- by more operations
pub alter_to : {A B : Op → Type 0} {Make : Elements → Slot → Type 0} {u w : View} → ((op : Op) → A op → B op) → Alters A NoName u w → Alters B Make u w
alter_to wider alters = record { names = λ q. elim (alters.names q) [ inl same ↦ inl same | inr may ↦ inr (come_to wider may) ]; config_stays = alters.config_stays; files = alters.files; links = alters.links }

pub alter_changes : {May : Op → Type 0} {Make : Elements → Slot → Type 0} {u w : View} → Changes May u w → Alters May Make u w
alter_changes changes = record { names = λ q. elim (changes.names q) [ inl same ↦ inl same | inr may ↦ inr (changed may) ]; config_stays = changes.config_stays; files = changes.files; links = changes.links }

pub alter_refreshes : {May : Op → Type 0} {Make : Elements → Slot → Type 0} {s : State} {u w : View} → Refreshes s u w → Alters May Make u w
alter_refreshes {u = u} {w = w} refreshes = record { names = λ q. elim (refreshes.names q) [ inl same ↦ inl same | inr may ↦ inr (refreshed may) ]; config_stays = refreshed_stays u w refreshes.names; files = refreshes.files; links = refreshes.links }

pub alter_refreshed : {May : Op → Type 0} {Make : Elements → Slot → Type 0} {u w : View} → RefreshesShown u w → Alters May Make u w
alter_refreshed {u = u} {w = w} step = record { names = λ q. elim (step.names q) [ inl same ↦ inl same | inr may ↦ inr (refreshed may) ]; config_stays = refreshed_stays u w step.names; files = step.files; links = step.links }

-- ---- where no operation is done

pub rest_none : {a : Answer} {s : State} {u w : View} → ((q : Elements) → w.names q ≡ u.names q) → OnlyRests a s u w
rest_none names = record { names = λ q. inl (names q) }

pub rest_on : {a : Answer} {s : State} {u v w : View} → OnlyRests a s u v → OnlyRests a s v w → OnlyRests a s u w
rest_on {a = a} {s = s} first second = record {
  names = λ q. elim (second.names q) [
    | inl same ↦ elim (first.names q) [ inl was ↦ inl (same ∙ was) | inr may ↦ inr (subst (MayRest a s q) (sym same) may) ]
    | inr may ↦ inr may
  ];
}

pub rest_tidied : {a : Answer} {s : State} {u w : View} → OnlyTidied s u w → OnlyRests a s u w
rest_tidied only = record { names = λ q. elim (only.names q) [ inl same ↦ inl same | inr may ↦ inr (tidied_at may) ] }

-- where nothing is refused
pub rest_refreshes : {a : Answer} {s t : State} {u w : View} → a.refusal ≡ None → Refreshes t u w → OnlyRests a s u w
rest_refreshes none refreshes = record { names = λ q. elim (refreshes.names q) [ inl same ↦ inl same | inr may ↦ inr (refreshed_at none may) ] }
