-- A store that is made ready spares what is shown.
use Rattle.std.proofs.Common.{◌≡◌, ◌≢◌, ◌⊎◌, inl, inr, ℕ, List, [], ◌∷◌, codes, refl, sym, ◌∙◌, ap, subst, arith, Contains}
use Rattle.std.proofs.lemmas.List.Elements.{Contains-push_cases}
use Rattle.fp_host.specs.Paths.{Elements}
use Rattle.fp_host.specs.View.{View}
use Rattle.fp_host.specs.Outcome.{Spot, folder, holds, Disk, Leaves}
use Rattle.fp_small.specs.Places.{repo, tmp, new_name}
use Rattle.fp_small.specs.Replace.{folders_of}
use Rattle.fp_small.specs.declared.state.State.{State}
use Rattle.dep_states.specs.Zones.{Allowed, outward}
use Rattle.dep_states.specs.Sound.{Fixed, Permits, Opens, Spares}
use Rattle.dep_states.proofs.Deployed.{top}
use Rattle.dep_states.proofs.Law.{frame_law}
use Rattle.dep_states.proofs.Sparing.{none_in_repo, repo_spared}
use Rattle.dep_states.proofs.Switching.{none_in_tmp, second, word_no_repo}
use Rattle.op_change.specs.Readying.{store_config, refs_folder, heads_folder, ReadiesAt, ReadiesStore}
use Rattle.op_change.proofs.Readied.{which}

pub permits_in_repo : (i : Disk) (p other : Elements) (spot : Spot) → p ≡ other → top other ≡ codes "repo" → Allowed other spot → Permits i p spot
permits_in_repo i p other spot at in_repo allowed = record {
  allowed = subst (λ q. Allowed q spot) (sym at) allowed;
  deploy = λ n c k is. absurd (word_no_repo n.kind (sym (ap top is) ∙ ap top at ∙ in_repo));
}

pub unfixed : (i : Disk) (p other : Elements) → p ≡ other → top other ≡ codes "repo" → second (outward other) ≢ codes "objects" → Fixed i p → ⊥
unfixed i p other at in_repo off f = none_in_repo f (ap top at ∙ in_repo) (λ is. off (sym (ap (λ (q : Elements). second (outward q)) at) ∙ is))

-- ---- `config`

config_spared : (i : Disk) (p : Elements) → p ≡ store_config → Fixed i p → ⊥
config_spared i p at f = unfixed i p store_config at refl (λ is. cc is) f

config_permitted : (i : Disk) (p : Elements) (spot : Spot) → p ≡ store_config → (id : ℕ) → (bytes : List ℕ) → spot ≡ holds id 420 bytes → Permits i p spot
config_permitted i p spot at id bytes is = permits_in_repo i p store_config spot at refl (subst (Allowed store_config) (sym is) (record { fits = tt; short = inr (omega arith) }))

-- ---- folders

pub tmp_spared : (i : Disk) (p : Elements) → p ≡ tmp → Fixed i p → ⊥
tmp_spared i p at f = unfixed i p tmp at refl (λ is. cc is) f

refs_spared : (i : Disk) (p : Elements) → p ≡ refs_folder → Fixed i p → ⊥
refs_spared i p at f = unfixed i p refs_folder at refl (λ is. cc is) f

heads_spared : (i : Disk) (p : Elements) → p ≡ heads_folder → Fixed i p → ⊥
heads_spared i p at f = unfixed i p heads_folder at refl (λ is. cc is) f

pub a_folder : (i : Disk) (p other : Elements) (spot : Spot) → p ≡ other → top other ≡ codes "repo" → Allowed other folder → spot ≡ folder → Permits i p spot
a_folder i p other spot at in_repo allowed is = permits_in_repo i p other spot at in_repo (subst (Allowed other) (sym is) allowed)

-- the folders of a file in `repo`
pub which_of : (q : Elements) → Contains (folders_of store_config) q → (q ≡ repo) ⊎ (q ≡ tmp)
which_of q has = elim (Contains-push_cases (repo ∷ repo ∷ []) tmp q has) [
  | inl first ↦ elim (Contains-push_cases (repo ∷ []) repo q first) [
    | inl second ↦ elim (Contains-push_cases [] repo q second) [ inl none ↦ absurd (omega (arith, none.1)) | inr is ↦ inl (sym is) ]
    | inr is ↦ inl (sym is)
  ]
  | inr is ↦ inr (sym is)
]

pub folder_spared : (i : Disk) (p : Elements) → (p ≡ repo) ⊎ (p ≡ tmp) → Fixed i p → ⊥
folder_spared i p (inl at) f = repo_spared i p at f
folder_spared i p (inr at) f = tmp_spared i p at f

pub folder_permitted : (i : Disk) (p : Elements) (spot : Spot) → (p ≡ repo) ⊎ (p ≡ tmp) → spot ≡ folder → Permits i p spot
folder_permitted i p spot (inl at) is = a_folder i p repo spot at refl (record { fits = tt; short = inr (omega arith) }) is
folder_permitted i p spot (inr at) is = a_folder i p tmp spot at refl (record { fits = tt; short = inr (omega arith) }) is

head_spared : (i : Disk) (p : Elements) → (repo ≡ p) ⊎ ((refs_folder ≡ p) ⊎ (heads_folder ≡ p)) → Fixed i p → ⊥
head_spared i p (inl at) f = repo_spared i p (sym at) f
head_spared i p (inr (inl at)) f = refs_spared i p (sym at) f
head_spared i p (inr (inr at)) f = heads_spared i p (sym at) f

head_permitted : (i : Disk) (p : Elements) (spot : Spot) → (repo ≡ p) ⊎ ((refs_folder ≡ p) ⊎ (heads_folder ≡ p)) → spot ≡ folder → Permits i p spot
head_permitted i p spot (inl at) is = a_folder i p repo spot (sym at) refl (record { fits = tt; short = inr (omega arith) }) is
head_permitted i p spot (inr (inl at)) is = a_folder i p refs_folder spot (sym at) refl (record { fits = tt; short = inr (omega arith) }) is
head_permitted i p spot (inr (inr at)) is = a_folder i p heads_folder spot (sym at) refl (record { fits = tt; short = inr (omega arith) }) is

-- ---- new names in repo/tmp

work_permitted : (i : Disk) (p : Elements) (spot : Spot) (k : ℕ) → p ≡ new_name k ∷ tmp → Permits i p spot
work_permitted i p spot k at = permits_in_repo i p (new_name k ∷ tmp) spot at refl (record { fits = tt; short = inr (omega arith) })

-- ---- all of it

module _ {v : View} where
  avoids : (disk : Disk) → Leaves v disk → (p : Elements) (spot : Spot) → Fixed disk p → ReadiesAt v p spot → ⊥
  avoids disk left p spot f given = elim given [
    | inl config ↦ elim config [
      | inl new ↦ config_spared disk p new.0 f
      | inr other ↦ elim other [ inl made ↦ folder_spared disk p (which_of p made.0) f | inr work ↦ none_in_tmp (new_name work.number ∷ []) work.is f ]
    ]
    | inr made ↦ head_spared disk p (which p made.0) f
  ]

  permits : (disk : Disk) → Leaves v disk → (p : Elements) (spot : Spot) → ReadiesAt v p spot → Permits disk p spot
  permits disk left p spot given = elim given [
    | inl config ↦ elim config [
      | inl new ↦ config_permitted disk p spot new.0 new.1.0 _ new.1.1
      | inr other ↦ elim other [ inl made ↦ folder_permitted disk p spot (which_of p made.0) made.1 | inr work ↦ work_permitted disk p spot work.number work.is ]
    ]
    | inr made ↦ head_permitted disk p spot (which p made.0) made.1
  ]

  pub ready_spares : Spares v (ReadiesAt v)
  ready_spares = record { avoids = avoids; permits = permits }

-- every stop leaves the state that it left before
pub ready_opens : {s : State} {u w : View} → ReadiesStore u w → Opens s u → Opens s w
ready_opens ready opens = frame_law ready_spares ready.keeps.follows opens
