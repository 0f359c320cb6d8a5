-- What the usual steps spare, and what holds of a sound image.
use Rattle.std.proofs.Common.{◌≡◌, ◌≢◌, inr, ℕ, List, [], ◌∷◌, ◌++◌, codes, refl, sym, ◌∙◌, ap, subst}
use Rattle.fp_base.proofs.Texts.{bytes_eq-false}
use Rattle.fp_host.specs.Paths.{Elements}
use Rattle.fp_host.specs.View.{View, IsTree}
use Rattle.fp_host.specs.Outcome.{Spot, Disk, Follows, IsSettled, gone, shows, spot_of}
use Rattle.fp_host.proofs.Settled.{settled_disk, at_tree}
use Rattle.fp_name.specs.declared.kind.RefKind.{RefKind}
use Rattle.fp_name.specs.declared.kind.RefKind.TheVariants.{App, Runtime}
use Rattle.fp_name.specs.Kinds.{kind_word}
use Rattle.fp_small.specs.Places.{repo, tmp}
use Rattle.ost_model.specs.Stores.{objects_folder, IsStore}
use Rattle.fp_small.specs.declared.state.State.{State}
use Rattle.dep_states.specs.Names.{config, commit_dir}
use Rattle.dep_states.specs.Zones.{Zone, anything, a_folder, an_object, here, Fits, zone, outward, outward_onto}
use Rattle.dep_states.specs.Sound.{Sound, IsOld, is_remotes, is_pins, Fixed, is_config, is_old, is_active, is_deploy, is_layer, is_inside, is_object, Opens, IsSound, Spares, HasConfig, OldGone, InTmp}
use Rattle.dep_states.proofs.Deployed.{outward_append, top}
use Rattle.dep_states.proofs.Law.{still}
use Rattle.dep_states.proofs.Rows.{head_of}
use Rattle.dep_states.proofs.Switching.{none_in_tmp, permits_gone, word_no_repo}

-- ---- work

here_some : (z : Zone) (r : Elements) (x : List ℕ) (l : List (List ℕ)) → here z (outward_onto r (x ∷ l)) ≡ anything
here_some z [] x l = refl
here_some z (y ∷ r) x l = here_some z r y (x ∷ l)

here_deep : (z : Zone) (r : Elements) (x : List ℕ) → here z (outward_onto (r ++ (x ∷ [])) []) ≡ anything
here_deep z r x = ap (here z) (outward_append r (x ∷ []) [])

pub tmp_spares : {v : View} → Spares v InTmp
tmp_spares = record {
  avoids = λ disk left p spot f given. none_in_tmp (given.rest ++ (given.name ∷ [])) given.is f;
  permits = λ disk left p spot given. record {
    allowed = record { fits = fits p spot given; short = inr given.short };
    deploy = λ n commit k at. absurd (word_no_repo n.kind (sym (ap top at) ∙ ap top given.is ∙ ap head_of (outward_append (given.rest ++ (given.name ∷ [])) tmp [])));
  };
}
  where
    fits : (p : Elements) (spot : Spot) (g : InTmp p spot) → Fits (zone (outward p)) p spot
    fits p spot g = subst (λ (z : Zone). Fits z p spot) (sym (ap zone (ap outward g.is ∙ outward_append (g.rest ++ (g.name ∷ [])) tmp []) ∙ here_deep a_folder g.rest g.name)) tt

-- ---- the files of layout 1

word_no_remotes : (k : RefKind) → kind_word k ≢ codes "remotes.conf"
word_no_remotes App = bytes_eq-false (codes "app") (codes "remotes.conf") refl
word_no_remotes Runtime = bytes_eq-false (codes "runtime") (codes "remotes.conf") refl

word_no_pins : (k : RefKind) → kind_word k ≢ codes "pins"
word_no_pins App = bytes_eq-false (codes "app") (codes "pins") refl
word_no_pins Runtime = bytes_eq-false (codes "runtime") (codes "pins") refl

no_word : (k : RefKind) {p : Elements} → IsOld p → top p ≡ kind_word k → ⊥
no_word k (is_remotes e) t = word_no_remotes k (sym t ∙ ap top e)
no_word k (is_pins e) t = word_no_pins k (sym t ∙ ap top e)

no_text : (text : List ℕ) → text ≢ codes "remotes.conf" → text ≢ codes "pins" → {p : Elements} → IsOld p → top p ≡ text → ⊥
no_text text a b (is_remotes e) t = a (sym t ∙ ap top e)
no_text text a b (is_pins e) t = b (sym t ∙ ap top e)

unfixed : {disk : Disk} {p : Elements} → (disk config ≡ gone → ⊥) → IsOld p → Fixed disk p → ⊥
unfixed has old (is_config e) = no_text (codes "config") (bytes_eq-false (codes "config") (codes "remotes.conf") refl) (bytes_eq-false (codes "config") (codes "pins") refl) old (ap top e)
unfixed has old (is_old none same) = has none
unfixed has old (is_active name good e) = no_word name.kind old (ap top e)
unfixed has old (is_deploy name text good link e) = no_word name.kind old (ap top e)
unfixed has old (is_layer name good e) = no_text (codes "overrides") (bytes_eq-false (codes "overrides") (codes "remotes.conf") refl) (bytes_eq-false (codes "overrides") (codes "pins") refl) old (ap top e)
unfixed has old (is_inside name commit rest k off e) = no_word name.kind old (ap top e ∙ ap head_of (outward_append rest (commit_dir name commit) []))
unfixed has old (is_object name commit place k h e) = no_text (codes "repo") (bytes_eq-false (codes "repo") (codes "remotes.conf") refl) (bytes_eq-false (codes "repo") (codes "pins") refl) old (ap top e)

pub old_go : (v : View) → HasConfig v → Spares v OldGone
old_go v has = record {
  avoids = λ disk left p spot fixed given. unfixed (has disk left) given.0 fixed;
  permits = λ disk left p spot given. permits_gone p spot given.1;
}

-- ---- `config`

module _ {G : Elements → Spot → Type 0} {u w : View} (spares : Spares u G) (follows : Follows G u w) where
  pub keeps_config : HasConfig u → HasConfig w
  keeps_config has disk left none = let b = follows.from disk left in has b.0 b.1 (sym (still spares follows disk left config (is_config refl)) ∙ none)

pub settled_config : (v : View) → IsTree v → IsSettled v → (shows v config ≡ gone → ⊥) → HasConfig v
settled_config v tree settled here disk left none =
    here (ap (spot_of v.files) (at_tree v tree config) ∙ sym (settled_disk v tree settled disk left config) ∙ none)

pub opens_sound : {s : State} {v : View} → Opens s v → IsSound v
opens_sound {s = s} opens = record { shown = λ disk left. record { state = s; shows = opens.shown disk left }; sound = opens.sound }

-- ---- the store

in_store : (rest : Elements) (name xx : List ℕ) → zone (outward (rest ++ (name ∷ (xx ∷ objects_folder repo)))) ≡ an_object
in_store rest name xx = ap zone (outward_append rest (name ∷ (xx ∷ objects_folder repo)) [])

pub sound_store : (disk : Disk) → Sound disk → IsStore repo disk
sound_store disk sound = record {
  prefixes = λ xx. (sound.kinds (xx ∷ objects_folder repo)).fits;
  objects = λ rest name xx. let p : Elements = rest ++ (name ∷ (xx ∷ objects_folder repo)) in
      subst (λ (z : Zone). Fits z p (disk p)) (in_store rest name xx) (sound.kinds p).fits;
}
