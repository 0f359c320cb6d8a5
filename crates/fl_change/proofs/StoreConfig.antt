-- The store's `config` among the names that tidying changes.
use Rattle.std.proofs.Common.{◌≡◌, ◌≢◌, ◌⊎◌, inl, inr, ℕ, List, refl, sym, ◌∙◌, Contains}
use Rattle.fp_host.specs.Paths.{Elements, Slot, absent}
use Rattle.fp_host.specs.View.{View}
use Rattle.fp_name.specs.Refs.{Ref}
use Rattle.fp_small.specs.Replace.{folders_of}
use Rattle.fp_small.specs.declared.state.State.{State}
use Rattle.dep_states.specs.Names.{repo_config, ref_file}
use Rattle.dep_states.specs.Sound.{is_remotes, is_pins}
use Rattle.dep_tidy.specs.Tidy.{MayTidy, some_work, commit_gone, old_gone, ref_gone, ref_written, ref_folder, object_gone}
use Rattle.dep_tidy.proofs.Apart.{each_of}
use Rattle.op_change.proofs.StoreConfig.{no_tmp, no_dir}

-- what stood there stays, one step after another
pub stays_on : (u v w : View) → (u.names repo_config ≢ absent → v.names repo_config ≡ u.names repo_config) → (v.names repo_config ≢ absent → w.names repo_config ≡ v.names repo_config)
    → u.names repo_config ≢ absent → w.names repo_config ≡ u.names repo_config
stays_on u v w first second there = let before = first there in second (λ none. there (sym before ∙ none)) ∙ before

no_ref_folder : (origin : List ℕ) (name : Ref) (q : Elements) → Contains (folders_of (ref_file origin name)) q → q ≢ repo_config
no_ref_folder origin name = each_of (λ q. q ≢ repo_config) (folders_of (ref_file origin name)) ((λ e. cc e), ((λ e. cc e), ((λ e. cc e), ((λ e. cc e), ((λ e. cc e), ((λ e. cc e), ((λ e. cc e), ((λ e. cc e), ((λ e. cc e), tt)))))))))

no_tidied : (s : State) (e : Slot) → MayTidy s repo_config e → ⊥
no_tidied s e (some_work above) = no_tmp above
no_tidied s e (commit_gone name commit good digits off within is) = no_dir name commit within
no_tidied s e (old_gone (is_remotes at) is) = cc at
no_tidied s e (old_gone (is_pins at) is) = cc at
no_tidied s e (ref_gone origin name remote good off at none) = cc at
no_tidied s e (ref_written row has at f) = cc at
no_tidied s e (ref_folder row has within is) = no_ref_folder row.origin row.name repo_config within refl
no_tidied s e (object_gone d kind digits at none) = cc at

pub tidied_stays : {s : State} (u w : View) → ((q : Elements) → (w.names q ≡ u.names q) ⊎ MayTidy s q (w.names q)) → u.names repo_config ≢ absent → w.names repo_config ≡ u.names repo_config
tidied_stays {s = s} u w names there = elim (names repo_config) [ inl same ↦ same | inr may ↦ absurd (no_tidied s _ may) ]
