-- The store of an installation, made ready.
use Rattle.std.proofs.Common.{◌≡◌, ◌⊎◌, inl, inr, ℕ, List, [], ◌∷◌, Option, Result, Ok, refl, sym, ◌∙◌, ap, subst, Contains, arith}
use Rattle.std.proofs.lemmas.List.Elements.{Contains-push_cases}
use Rattle.fp_host.specs.Paths.{Elements, Slot, absent, dir}
use Rattle.fp_host.specs.View.{View}
use Rattle.fp_host.specs.Calls.{IsFile}
use Rattle.fp_host.specs.Outcome.{Spot}
use Rattle.fp_host.specs.Frame.{Frame, Keeps, AtEnd, NoPath}
use Rattle.fp_host.specs.Moments.{Moments, Goes, Makes}
use Rattle.fp_host.specs.Reads.{StatOf}
use Rattle.fp_host.specs.declared.host.HostError.{HostError}
use Rattle.fp_host.specs.declared.host.Stat.{Stat}
use Rattle.fp_host.specs.declared.host.Stat.TheVariants.{Absent}
use Rattle.fp_host.proofs.Ending.{ends_both, ends_frame, ends_goes, ends_on}
use Rattle.fp_host.proofs.Framed.{IsTold, keeps_on, keeps_to, keeps_same}
use Rattle.fp_host.proofs.Goes.{begins, goes_on, makes_goes}
use Rattle.fp_small.specs.Places.{repo, tmp, new_name}
use Rattle.fp_small.specs.Folders.{FoldersAt, DirsAt, AreFree, AreDirs}
use Rattle.fp_small.specs.Replace.{IsStaging, ReplacesAt, ReplacesName, Replaces, WasReplaced, CanReplace, IsFreeFile}
use Rattle.fp_small.proofs.Making.{stat_there, stat_gone}
use Rattle.fp_small.proofs.Keeping.{files_same, files_on, files_kept}
use Rattle.dep_states.proofs.SharedAs.{shared_start, shared_empty, shared_on, shared_made}
use Rattle.dep_states.specs.Lasting.IsLasting.{store_config as lasts_config}
use Rattle.op_change.specs.Readying.{store_config, store_text, refs_folder, heads_folder, heads_folders, Configures, ReadiesStore, ReadiesAt, ReadiesName, HasConfigured, CanReady, WasReadied}

-- nothing is written
configures_none : {u w : View} → w ≡ u → Configures u w
configures_none same = record { writes = record { keeps = keeps_same same; files = files_same same }; stays = λ there. ap (λ (x : View). x.names store_config) same }

pub stat_only : {a b : Option Moments} {p : Elements} {r : Result Stat HostError} → IsTold a → Makes (StatOf p r) a b → Goes a b Configures Configures
stat_only told call = begins told (makes_goes call) (λ u w t s. configures_none s.same) (λ u w t s e. configures_none e.same)

-- after a look that found nothing at its name
from_none : {u v w : View} → (v ≡ u) × (v.names store_config ≡ absent) → Replaces store_config store_text v w → Configures u w
from_none {w = w} q writes = record {
  writes = subst (λ (x : View). Replaces store_config store_text x w) q.0 writes;
  stays = λ there. absurd (there (sym (ap (λ (x : View). x.names store_config) q.0) ∙ q.1));
}

pub stat_writes : {a b c : Option Moments} {p : Elements} {s : Stat} → p ≡ store_config → s ≡ Absent → IsTold a → IsTold b → Makes (StatOf p (Ok s)) a b → Goes b c (Replaces store_config store_text) (Replaces store_config store_text) → Goes a c Configures Configures
stat_writes at is start told call goes =
    goes_on {Q = λ u v. (v ≡ u) × (v.names store_config ≡ absent)} told (begins start (makes_goes call) (λ u w t s. configures_none s.same) (λ u w t s e. (e.same, subst (λ (q : Elements). w.names q ≡ absent) at (stat_gone is e)))) goes
    (λ u v w t p q s. from_none q s) (λ u v w t p q s last. from_none q last)

-- ---- what is made first is no name of `config`, nor one of work

pub which : (q : Elements) → Contains heads_folders q → (repo ≡ q) ⊎ ((refs_folder ≡ q) ⊎ (heads_folder ≡ q))
which q has = elim (Contains-push_cases (repo ∷ refs_folder ∷ []) heads_folder q has) [
  | inl first ↦ elim (Contains-push_cases (repo ∷ []) refs_folder q first) [
    | inl second ↦ elim (Contains-push_cases [] repo q second) [ inl none ↦ absurd (omega (arith, none.1)) | inr is ↦ inl is ]
    | inr is ↦ inr (inl is)
  ]
  | inr is ↦ inr (inr is)
]

-- no other name of what is made ready
apart : (other : Elements) → (repo ≡ other → ⊥) → (refs_folder ≡ other → ⊥) → (heads_folder ≡ other → ⊥) → Contains heads_folders other → ⊥
apart other no_repo no_refs no_heads has = elim (which other has) [ inl is ↦ no_repo is | inr more ↦ elim more [ inl is ↦ no_refs is | inr is ↦ no_heads is ] ]

no_config : Contains heads_folders store_config → ⊥
no_config has = apart store_config (λ is. cc is) (λ is. cc is) (λ is. cc is) has

no_work : (k : ℕ) → Contains heads_folders (new_name k ∷ tmp) → ⊥
no_work k has = apart (new_name k ∷ tmp) (λ is. cc is) (λ is. cc is) (λ is. cc is) has

-- ---- both

abbrev MakesFolders : View → View → Type 0
MakesFolders u w = Keeps (FoldersAt heads_folders) (DirsAt heads_folders) NoPath u w

pub readies_folders : {u w : View} → MakesFolders u w → ReadiesStore u w
readies_folders folders = record { keeps = keeps_to (λ q spot h. inr h) (λ q e h. inr h) (λ q b. absurd b) (λ q id a h. absurd (cc h.1)) folders; files = files_kept folders; stays = λ there. elim (folders.names store_config) [ inl same ↦ same | inr put ↦ absurd (no_config put.0) ] }

module _ {u v : View} (folders : MakesFolders u v) where
  work_same : (k : ℕ) → v.names (new_name k ∷ tmp) ≡ u.names (new_name k ∷ tmp)
  work_same k = elim (folders.names (new_name k ∷ tmp)) [ inl same ↦ same | inr put ↦ absurd (no_work k put.0) ]

  staged_same : {q : Elements} (k : ℕ) → q ≡ new_name k ∷ tmp → v.names q ≡ u.names q
  staged_same k at = ap v.names at ∙ work_same k ∙ sym (ap u.names at)

  -- so the new file is staged at the name that was free before
  staging_before : {q : Elements} → IsStaging v q → IsStaging u q
  staging_before {q = q} staging = record {
    number = staging.number;
    is = staging.is;
    free = sym (staged_same staging.number staging.is) ∙ staging.free;
    first = λ k low none. staging.first k low (work_same k ∙ none);
  }

  staging_after : {q : Elements} → IsStaging u q → IsStaging v q
  staging_after {q = q} staging = record {
    number = staging.number;
    is = staging.is;
    free = staged_same staging.number staging.is ∙ staging.free;
    first = λ k low none. staging.first k low (sym (work_same k) ∙ none);
  }

  at_before : (q : Elements) (spot : Spot) → ReplacesAt store_config store_text v q spot → ReadiesAt u q spot
  at_before q spot given = inl (elim given [ inl new ↦ inl new | inr other ↦ inr (elim other [ inl made ↦ inl made | inr work ↦ inr (staging_before work) ]) ])

  name_before : (q : Elements) (e : Slot) → ReplacesName store_config v q e → ReadiesName u q e
  name_before q e put = inl (elim put [ inl new ↦ inl new | inr other ↦ inr (elim other [ inl made ↦ inl made | inr work ↦ inr (staging_before work) ]) ])

  pub readies_both : {w : View} → Configures v w → ReadiesStore u w
  readies_both configures = record {
    keeps = keeps_on (readies_folders folders).keeps (keeps_to at_before name_before (λ q work. staging_before work) (λ q id work h. staging_after work) configures.writes.keeps);
    files = files_on (files_kept folders) configures.writes.files;
    stays = λ there. let before = (readies_folders folders).stays there in configures.stays (λ none. there (sym before ∙ none)) ∙ before;
  }

pub goes_folders : {a b : Option Moments} → IsTold a → Frame (FoldersAt heads_folders) (DirsAt heads_folders) NoPath a b → Goes a b ReadiesStore ReadiesStore
goes_folders told frame = begins told frame.goes (λ u w t r. readies_folders r) (λ u w t r e. readies_folders e)

pub goes_both : {a b c : Option Moments} → IsTold a → IsTold b → Frame (FoldersAt heads_folders) (DirsAt heads_folders) NoPath a b → Goes b c Configures Configures → Goes a c ReadiesStore ReadiesStore
goes_both start told first second = goes_on {Q = MakesFolders} told (begins start first.goes (λ u w t r. readies_folders r) (λ u w t r e. e)) second (λ u v w t p q s. readies_both q s) (λ u v w t p q s last. readies_both q last)

-- ---- what stands in the end

pub made_there : {bytes : List ℕ} {u w : View} → WasReplaced store_config bytes u w → IsFile (w.names store_config)
made_there put = (put.made.id, put.made.name)

pub was_there : {p : Elements} {s : Stat} {u w : View} → p ≡ store_config → StatOf p (Ok s) u w → (s ≡ Absent → ⊥) → IsFreeFile store_config u → IsFile (w.names store_config)
was_there {s = s} {u = u} {w = w} at stat off free = elim free [
  | inl none ↦ absurd (stat_there (subst (λ (q : Elements). StatOf q (Ok s) u w) at stat) off none)
  | inr there ↦ subst (λ (x : View). IsFile (x.names store_config)) (sym stat.same) there
]

-- a new `config` came to its name
pub made_config : {u w : View} → WasReplaced store_config store_text u w → HasConfigured u w
made_config put = record { there = λ free. made_there put; shares = shared_made (λ f says. lasts_config refl says) put.made }

pub config_there : {p : Elements} {s : Stat} {u w : View} → p ≡ store_config → StatOf p (Ok s) u w → (s ≡ Absent → ⊥) → HasConfigured u w
config_there at stat off = record { there = λ free. was_there at stat off free; shares = shared_start stat.same }

still_dirs : {v w : View} → AreDirs heads_folders v → Replaces store_config store_text v w → AreDirs heads_folders w
still_dirs folders writes = record {
  dirs = λ q has. elim (writes.keeps.names q) [
    | inl same ↦ same ∙ folders.dirs q has
    | inr put ↦ elim put [
      | inl new ↦ absurd (no_config (subst (Contains heads_folders) new.0 has))
      | inr other ↦ elim other [ inl made ↦ made.1 | inr work ↦ absurd (no_work work.number (subst (Contains heads_folders) work.is has)) ]
    ]
  ];
}

module _ {u v : View} (folders : MakesFolders u v) where
  still_free : IsFreeFile store_config u → IsFreeFile store_config v
  still_free free = elim (folders.names store_config) [ inl same ↦ subst (λ (e : Slot). (e ≡ absent) ⊎ IsFile e) (sym same) free | inr put ↦ absurd (no_config put.0) ]

  -- where it can be made ready, `config` can be written afterwards
  pub can_write : CanReady u → CanReplace store_config v
  can_write can = record {
    entry = still_free can.config.entry;
    folders = record { free = λ q has. elim (folders.names q) [ inl same ↦ subst (λ (e : Slot). (e ≡ absent) ⊎ (e ≡ dir)) (sym same) (can.config.folders.free q has) | inr put ↦ inr put.1 ] };
    no_root = can.config.no_root;
    no_repo = can.config.no_repo;
    no_tmp = can.config.no_tmp;
    no_work = can.config.no_work;
  }

  ready : {w : View} → (AreFree heads_folders u → AreDirs heads_folders v) → Replaces store_config store_text v w → HasConfigured v w → WasReadied u w
  ready dirs writes configured = record {
    store = λ can. record { config = configured.there (still_free can.config.entry); heads = still_dirs (dirs can.folders) writes };
    shares = shared_on (shared_empty folders) configured.shares writes.files;
  }

pub ends_ready : {a b c : Option Moments} → IsTold a → IsTold b → Frame (FoldersAt heads_folders) (DirsAt heads_folders) NoPath a b → AtEnd (λ u w. AreFree heads_folders u → AreDirs heads_folders w) a b
    → Goes b c Configures Configures → AtEnd HasConfigured b c → AtEnd WasReadied a c
ends_ready start told frame dirs goes configured =
    ends_on (ends_both (ends_goes told goes) configured) (ends_both (ends_frame start frame) dirs) told (λ u v w tree first second. ready first.0 first.1 second.0.writes second.1)
