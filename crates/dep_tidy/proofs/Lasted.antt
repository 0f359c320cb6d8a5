-- What tidying makes, step by step.
use Rattle.std.proofs.Common.{◌≡◌, inl, inr, ℕ, List, true, refl, sym, subst}
use Rattle.fp_host.specs.Paths.{Elements, Slot, file, IsAbove}
use Rattle.fp_host.specs.View.{View}
use Rattle.fp_host.specs.Outcome.{Spot}
use Rattle.fp_host.specs.Frame.{Keeps, NoPath}
use Rattle.fp_name.specs.Grammar.{is_remote_name}
use Rattle.fp_name.specs.Hex.{is_digest}
use Rattle.fp_name.specs.Refs.{Ref, is_ref}
use Rattle.fp_small.specs.Clear.{IsWithin}
use Rattle.fp_small.specs.Places.{repo, tmp}
use Rattle.fp_small.specs.Replace.{Replaces, ReplacesName, WasReplaced}
use Rattle.fp_small.proofs.Keeping.{files_stay, files_on, files_kept}
use Rattle.ost_model.specs.Stores.{objects_folder}
use Rattle.ost_refs.specs.Files.{ref_bytes}
use Rattle.ost_refs.specs.declared.place.RefPlace.TheVariants.{Remote}
use Rattle.ost_store.proofs.Creating.{creates_refl, creates_on, creates_frame}
use Rattle.dep_states.specs.Names.{ref_file}
use Rattle.dep_states.proofs.Elsewhere.{off_work, off_ref}
use Rattle.dep_states.specs.Lasting.IsLasting.{a_ref}
use Rattle.dep_states.proofs.SharedAs.{shared_refl, shared_on, shared_empty, shared_made}
use Rattle.dep_tidy.specs.Lasts.{Lasts}

pub lasts_same : {u w : View} → w ≡ u → Lasts u w
lasts_same {u = u} same = subst (Lasts u) (sym same) (record { files = files_stay; shares = shared_refl; creates = creates_refl })

pub lasts_on : {u v w : View} → Lasts u v → Lasts v w → Lasts u w
lasts_on first second = record {
  files = files_on first.files second.files;
  shares = shared_on first.shares second.shares second.files;
  creates = creates_on first.creates second.creates first.files second.files;
}

-- where no file is put anywhere
pub lasts_frame : {G : Elements → Spot → Type 0} (W : Elements → Slot → Type 0) {u w : View} → Keeps G W NoPath u w → ((q : Elements) (id : ℕ) → W q (file id) → ⊥) → Lasts u w
lasts_frame W keeps off = record { files = files_kept keeps; shares = shared_empty keeps; creates = creates_frame W keeps (λ q id below put. off q id put) }

-- a ref file that is written
pub lasts_ref : (origin : List ℕ) (name : Ref) (commit : List ℕ) → is_remote_name origin ≡ true → is_ref name ≡ true → is_digest commit ≡ true → {u w : View}
    → Replaces (ref_file origin name) (ref_bytes commit) u w → WasReplaced (ref_file origin name) (ref_bytes commit) u w → Lasts u w
lasts_ref origin name commit remote good digits {u = u} replaces was = record {
  files = replaces.files;
  shares = shared_made (λ f says. a_ref origin name commit remote good digits refl says) was.made;
  creates = creates_frame (ReplacesName (ref_file origin name) u) replaces.keeps off;
}
  where
    off : (q : Elements) (id : ℕ) → IsAbove (objects_folder repo) q → ReplacesName (ref_file origin name) u q (file id) → ⊥
    off q id below (inl here) = off_ref q below (Remote origin name) here.0
    off q id below (inr (inl made)) = cc made.1
    off q id below (inr (inr staging)) = off_work q below (subst (IsWithin tmp) (sym staging.is) (inr (inl refl)))
