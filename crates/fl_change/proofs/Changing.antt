-- Which names the parts of a run change.
use Rattle.std.proofs.Common.{◌≡◌, ◌≤◌, inl, inr, ℕ, List, [], ◌∷◌, length, get_or, false, Contains, refl, sym, ◌∙◌, ap, subst, arith}
use Rattle.std.proofs.lemmas.Bool.{false≢true}
use Rattle.fp_base.proofs.Lists.{in_none, in_cases}
use Rattle.fp_host.specs.Paths.{Elements, Slot}
use Rattle.fp_host.specs.View.{View, Inode}
use Rattle.fp_host.specs.Outcome.{shows}
use Rattle.fp_name.specs.Refs.{Ref}
use Rattle.fp_name.specs.declared.kind.RefKind.{RefKind}
use Rattle.fp_name.specs.declared.kind.RefKind.TheVariants.{App, Runtime}
use Rattle.fp_small.specs.Clear.{IsWithin}
use Rattle.fp_small.specs.Files.{KeepsFiles}
use Rattle.fp_small.specs.Folders.{ancestors}
use Rattle.fp_small.specs.Places.{repo, tmp}
use Rattle.fp_small.specs.Replace.{ReplacesName, folders_of}
use Rattle.fp_small.proofs.Keeping.{files_stay, files_on}
use Rattle.fp_small.proofs.Sharing.{shares_none, shares_refl, shares_on}
use Rattle.dep_states.specs.Lasting.{SharesAs}
use Rattle.dep_states.proofs.SharedAs.{shared_none}
use Rattle.fp_small.specs.declared.state.State.{State}
use Rattle.fp_small.specs.declared.op.Op.{Op}
use Rattle.dep_states.specs.Effects.{Effect, Write, effect_of, is_of_config, writes_config, brings, writes, moves, leaves, sets, migrates, layers, bares}
use Rattle.fp_name.specs.Kinds.{kind_word}
use Rattle.dep_states.specs.Names.{config, commit_dir, override_path}
use Rattle.dep_states.specs.Settled.{Settled}
use Rattle.dep_states.specs.Sound.{Opens}
use Rattle.dep_states.proofs.Linked.{links_still, links_on}
use Rattle.dep_states.proofs.Work.{no_config_above}
use Rattle.dep_switch.specs.Writing.{new_deploy, new_folder, the_link, new_link}
use Rattle.dep_tidy.specs.Tidy.{MayTidy, Tidies}
use Rattle.dep_tidy.proofs.Left.{config_left}
use Rattle.op_change.specs.Deploys.{DeploysName, work_goes, before_switch, at_active as link_at}
use Rattle.op_change.specs.Bringing.{IsFolderFor, above_commit, above_object, above_head, for_work, BringsName, some_work, in_folder, a_record, at_active, an_object, a_config, a_folder}
use Rattle.op_change.specs.Applied.{MayChange, MayWrite, ChangesName, ChangesBy}
use Rattle.dep_states.specs.Names.{repo_config}
use Rattle.fl_change.proofs.StoreConfig.{stays_on, tidied_stays}
use Rattle.fl_change.specs.Answer.{sets_config}
use Rattle.fl_change.specs.Changes.{MayHold, operated, tidied, Changes, OnlyTidied, IsStill, IsUntouched, HasText}

pub change_on : {May : Op → Type 0} (u v w : View) → Changes May u v → Changes May v w → Changes May u w
change_on {May = May} u v w first second = record {
  names = λ q. elim (second.names q) [
    | inl same ↦ elim (first.names q) [ inl was ↦ inl (same ∙ was) | inr may ↦ inr (subst (MayHold May q) (sym same) may) ]
    | inr may ↦ inr may
  ];
  config_stays = stays_on u v w first.config_stays second.config_stays;
  files = files_on first.files second.files;
  links = links_on first.links second.links second.files;
}

pub change_none : {May : Op → Type 0} {u w : View} → ((q : Elements) → w.names q ≡ u.names q) → KeepsFiles u w → Changes May u w
change_none names files = record { names = λ q. inl (names q); config_stays = λ there. names repo_config; files = files; links = links_still names }

pub may_hold : {A B : Op → Type 0} {q : Elements} {e : Slot} → ((op : Op) → A op → B op) → MayHold A q e → MayHold B q e
may_hold wider (operated s op v may put) = operated s op v (wider op may) put
may_hold wider (tidied s may) = tidied s may

-- by more operations
pub change_to : {A B : Op → Type 0} {u w : View} → ((op : Op) → A op → B op) → Changes A u w → Changes B u w
change_to wider changes = record { names = λ q. elim (changes.names q) [ inl same ↦ inl same | inr may ↦ inr (may_hold wider may) ]; config_stays = changes.config_stays; files = changes.files; links = changes.links }

-- ---- nothing but what is printed

pub not_touched : {v : View} → IsUntouched v v
not_touched = record { names = λ q. refl; earlier = λ q. refl; files = λ id. refl; dirty = λ id. refl; stood = refl }

pub same_untouched : {u w : View} → w ≡ u → IsUntouched u w
same_untouched {u = u} same = subst (IsUntouched u) (sym same) not_touched

pub untouched_both : {u v w : View} → IsUntouched u v → IsUntouched v w → IsUntouched u w
untouched_both first second = record {
  names = λ q. second.names q ∙ first.names q;
  earlier = λ q. second.earlier q ∙ first.earlier q;
  files = λ id. second.files id ∙ first.files id;
  dirty = λ id. second.dirty id ∙ first.dirty id;
  stood = second.stood ∙ first.stood;
}

pub keeps_files : {u w : View} → IsUntouched u w → KeepsFiles u w
keeps_files same = record { rows = λ id f some. same.files id ∙ some; stood = λ x had. subst (λ (l : List (Elements × Slot)). Contains l x) (sym same.stood) had }

-- and none is made
pub none_made : {L : Elements → Inode → Type 0} {u w : View} → IsUntouched u w → SharesAs L u w
none_made same = shared_none (λ id none. same.files id ∙ none)

pub change_untouched : {May : Op → Type 0} {u w : View} → IsUntouched u w → Changes May u w
change_untouched same = change_none same.names (keeps_files same)

-- nothing is done
pub change_not : {May : Op → Type 0} {v : View} → Changes May v v
change_not = change_none (λ q. refl) files_stay

pub change_same : {May : Op → Type 0} {u w : View} → w ≡ u → Changes May u w
change_same same = change_untouched (same_untouched same)

-- ---- an operation, and a tidying

pub applied_changes : {May : Op → Type 0} (s : State) (op : Op) (u w : View) → May op → ChangesBy s op u w → Changes May u w
applied_changes s op u w may changes = record {
  names = λ q. elim (changes.names q) [ inl same ↦ inl same | inr put ↦ inr (operated s op u may put) ];
  config_stays = changes.config_stays;
  files = changes.files;
  links = changes.links;
}

pub tidied_changes : {May : Op → Type 0} (s : State) (u w : View) → Tidies s u w → Changes May u w
tidied_changes s u w tidies = record {
  names = λ q. elim (tidies.names q) [ inl same ↦ inl same | inr may ↦ inr (tidied s may) ];
  config_stays = tidied_stays u w tidies.names;
  files = tidies.files;
  links = tidies.links;
}

-- ---- where no operation is done

pub tidied_on : {s : State} {u v w : View} → OnlyTidied s u v → OnlyTidied s v w → OnlyTidied s u w
tidied_on {s = s} first second = record {
  names = λ q. elim (second.names q) [
    | inl same ↦ elim (first.names q) [ inl was ↦ inl (same ∙ was) | inr may ↦ inr (subst (MayTidy s q) (sym same) may) ]
    | inr may ↦ inr may
  ];
}

pub tidied_none : {s : State} {u w : View} → ((q : Elements) → w.names q ≡ u.names q) → OnlyTidied s u w
tidied_none names = record { names = λ q. inl (names q) }

-- nothing is done
pub tidied_not : {s : State} {v : View} → OnlyTidied s v v
tidied_not = tidied_none (λ q. refl)

pub tidies_only : {s : State} {u w : View} → Tidies s u w → OnlyTidied s u w
tidies_only tidies = record { names = tidies.names }

-- ---- where nothing is written

pub still_on : {u v w : View} → IsStill u v → IsStill v w → KeepsFiles v w → IsStill u w
still_on first second kept = record {
  names = λ q. second.names q ∙ first.names q;
  unwritten = shares_on first.unwritten second.unwritten kept;
}

-- nothing is done
pub still_not : {v : View} → IsStill v v
still_not = record { names = λ q. refl; unwritten = shares_refl }

pub still_untouched : {u w : View} → IsUntouched u w → IsStill u w
still_untouched same = record { names = same.names; unwritten = shares_none (λ id none. same.files id ∙ none) }

-- where all was settled
pub tidies_still : {s : State} {u w : View} → Tidies s u w → Opens s u → Settled (shows u)
    → IsStill u w
tidies_still tidies opens settled = record {
  names = tidies.idle opens settled;
  unwritten = tidies.unwritten opens settled;
}

-- ---- `config`

pub text_on : {s : State} {v w : View} → w.names config ≡ v.names config → KeepsFiles v w → HasText s v → HasText s w
text_on same kept text = record { id = text.id; name = same ∙ text.name; row = kept.rows text.id _ text.row }

pub config_tidied : {s : State} {v w : View} → Tidies s v w → w.names config ≡ v.names config
config_tidied {s = s} tidies = elim (tidies.names config) [ inl same ↦ same | inr may ↦ absurd (config_left s _ may) ]

-- its first byte is no other name's
differs : (q : Elements) → config ≡ q → get_or (get_or q 0 []) 0 0 ≡ 99
differs q same = sym (ap (λ (p : Elements). get_or (get_or p 0 []) 0 0) same)

no_kind : (kind : RefKind) → config ≡ kind_word kind ∷ [] → ⊥
no_kind App same = omega (arith, differs (kind_word App ∷ []) same)
no_kind Runtime same = omega (arith, differs (kind_word Runtime ∷ []) same)

no_within : (p : Elements) → 2 ≤ length p → IsWithin p config → ⊥
no_within p long (inl is) = omega (arith, long, ap length is)
no_within p long (inr (inl is)) = omega (arith, long, ap length is)
no_within p long (inr (inr none)) = none

no_folder : (name : Ref) (commit : List ℕ) → IsFolderFor name commit config → ⊥
no_folder name commit (above_commit (inl is)) = omega (arith, ap length is)
no_folder name commit (above_commit (inr (inl is))) = omega (arith, ap length is)
no_folder name commit (above_commit (inr (inr (inl is)))) = omega (arith, ap length is)
no_folder name commit (above_commit (inr (inr (inr (inl is))))) = no_kind name.kind is
no_folder name commit (above_commit (inr (inr (inr (inr (inl is)))))) = omega (arith, ap length is)
no_folder name commit (above_commit (inr (inr (inr (inr (inr none)))))) = none
no_folder name commit (above_object d kind digits (inl is)) = omega (arith, ap length is)
no_folder name commit (above_object d kind digits (inr (inl is))) = omega (arith, ap length is)
no_folder name commit (above_object d kind digits (inr (inr (inl is)))) = omega (arith, differs repo is)
no_folder name commit (above_object d kind digits (inr (inr (inr (inl is))))) = omega (arith, ap length is)
no_folder name commit (above_object d kind digits (inr (inr (inr (inr none))))) = none
no_folder name commit (above_head (inl is)) = omega (arith, ap length is)
no_folder name commit (above_head (inr (inl is))) = omega (arith, ap length is)
no_folder name commit (above_head (inr (inr (inl is)))) = omega (arith, differs repo is)
no_folder name commit (above_head (inr (inr (inr (inl is))))) = omega (arith, ap length is)
no_folder name commit (above_head (inr (inr (inr (inr none))))) = none
no_folder name commit (for_work is) = omega (arith, ap length is)

no_bring : (s : State) (name : Ref) (commit : List ℕ) (e : Slot) → BringsName s name commit config e → ⊥
no_bring s name commit e (some_work above) = no_config_above above
no_bring s name commit e (in_folder unkept within) = no_within (commit_dir name commit) (omega arith) within
no_bring s name commit e (a_record is put) = omega (arith, ap length is)
no_bring s name commit e (at_active is put) = omega (arith, ap length is)
no_bring s name commit e (an_object d kind digits is) = omega (arith, ap length is)
no_bring s name commit e (a_config is put) = omega (arith, ap length is)
no_bring s name commit e (a_folder folder put) = no_folder name commit folder

no_ancestor : Contains (ancestors new_link) config → ⊥
no_ancestor has = elim (in_cases repo (tmp ∷ []) config has) [
  | inl is ↦ omega (arith, differs repo is)
  | inr more ↦ elim (in_cases tmp [] config more) [ inl is ↦ omega (arith, ap length is) | inr none ↦ in_none config none ]
]

no_deploy : (name : Ref) (commit : List ℕ) (e : Slot) → DeploysName name commit config e → ⊥
no_deploy name commit e (work_goes within none) = no_within new_link (omega arith) within
no_deploy name commit e (before_switch (new_deploy is put)) = omega (arith, ap length is)
no_deploy name commit e (before_switch (new_folder has put)) = no_ancestor has
no_deploy name commit e (before_switch (the_link is put)) = omega (arith, ap length is)
no_deploy name commit e (link_at is put) = omega (arith, ap length is)

no_override : (name : List ℕ) (u : View) (e : Slot) → ReplacesName (override_path name) u config e → ⊥
no_override name u e (inl new) = omega (arith, ap length new.0)
no_override name u e (inr (inl made)) = elim (in_cases (get_or (folders_of (override_path name)) 0 []) (repo ∷ tmp ∷ []) config made.0) [
  | inl is ↦ omega (arith, differs (get_or (folders_of (override_path name)) 0 []) is)
  | inr more ↦ elim (in_cases repo (tmp ∷ []) config more) [
    | inl is ↦ omega (arith, differs repo is)
    | inr last ↦ elim (in_cases tmp [] config last) [ inl is ↦ omega (arith, ap length is) | inr none ↦ in_none config none ]
  ]
]
no_override name u e (inr (inr work)) = omega (arith, ap length work.is)

-- what doesn't write it leaves it
no_write : (write : Write) (u : View) (e : Slot) → is_of_config write ≡ false → MayWrite write u config e → ⊥
no_write (moves name commit) u e not put = no_deploy name commit e put
no_write (leaves name) u e not put = omega (arith, ap length put.0)
no_write (layers row) u e not put = no_override row.name u e put
no_write (bares name) u e not put = omega (arith, ap length put.0)
no_write sets u e not put = absurd (false≢true (sym not))
no_write migrates u e not put = absurd (false≢true (sym not))

no_effect : (s : State) (effect : Effect) (u : View) (e : Slot) → writes_config effect ≡ false → ChangesName s effect u config e → ⊥
no_effect s (brings name origin commit) u e not put = no_bring s name commit e put
no_effect s (writes write) u e not put = no_write write u e not put

no_config : (s : State) (op : Op) (u : View) (e : Slot) → sets_config op ≡ false → MayChange s op u config e → ⊥
no_config s op u e not put = no_effect s (effect_of op) u e not put

pub config_kept : (s : State) (op : Op) {u w : View} → sets_config op ≡ false → ChangesBy s op u w → w.names config ≡ u.names config
config_kept s op {u = u} {w = w} not changes = elim (changes.names config) [ inl same ↦ same | inr put ↦ absurd (no_config s op u (w.names config) not put) ]
