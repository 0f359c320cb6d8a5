-- The empty image shows the empty state of layout 2, and is Sound.
use Rattle.std.proofs.Common.{◌≡◌, inl, inr, ℕ, List, [], ◌∷◌, ◌++◌, Option, Some, None, refl, sym, ◌∙◌, arith}
use Rattle.fp_host.specs.Paths.{Elements}
use Rattle.fp_host.specs.Outcome.{gone}
use Rattle.fp_name.specs.Refs.{Ref, is_ref, ref_of}
use Rattle.fp_small.specs.declared.state.RefRow.{RefRow}
use Rattle.fp_name.specs.Grammar.{is_override}
use Rattle.dep_states.specs.Shown.{away, there, ref_seen, row_seen, override_at, remotes_at, pins_at, Shows}
use Rattle.dep_states.specs.Zones.{Zone, anything, a_file, a_link, a_leaf, a_folder, a_prefix, an_object, Fits, Allowed, zone, outward}
use Rattle.fp_small.specs.Places.{tmp}
use Rattle.dep_states.specs.Settled.{Settled}
use Rattle.dep_states.specs.Sound.{Keeps, Sound}
use Rattle.dep_states.specs.Samples.{empty_disk, empty_state}
use Rattle.dep_states.proofs.Away.{if_away}

row_away : (name : Option Ref) → row_seen empty_disk name ≡ away
row_away None = refl
row_away (Some name) = if_away (is_ref name)

pub empty_shows : Shows empty_disk empty_state
unfolding override_at remotes_at pins_at
empty_shows = record {
  settings = refl;
  refs = λ text. row_away (ref_of text);
  refs_ascend = refl;
  overrides = λ name. if_away (is_override name);
  overrides_ascend = refl;
}

none_kept : {X : Type 0} {name : Ref} {commit : List ℕ} → Keeps empty_disk name commit → X
none_kept {name = name} k = absurd (away_there (sym (if_away (is_ref name)) ∙ k.shown))
  where
    away_there : {r : RefRow} → away ≡ there r → ⊥
    away_there e = cc

-- nothing may stand anywhere
pub fits_gone : (z : Zone) (p : Elements) → Fits z p gone
fits_gone anything p = tt
fits_gone a_file p = tt
fits_gone a_link p = tt
fits_gone a_leaf p = tt
fits_gone a_folder p = tt
fits_gone (a_prefix xx) p = inl refl
fits_gone an_object p = inl refl

pub allowed_gone : (p : Elements) → Allowed p gone
allowed_gone p = record { fits = fits_gone (zone (outward p)) p; short = inl refl }

pub empty_sound : Sound empty_disk
empty_sound = record {
  kinds = λ p. at p;
  commits = λ name commit k. none_kept k;
  deploys = λ name commit k. none_kept k;
}
  where
    at : (p : Elements) → Allowed p (empty_disk p)
    at [] = record { fits = tt; short = inr (omega arith) }
    at (x ∷ up) = allowed_gone (x ∷ up)

no_row : {X : Type 0} (name : Ref) (row : RefRow) → ref_seen empty_disk name ≡ there row → X
no_row name row e = none_kept {name = name} {commit = row.commit} (record { row = row; shown = e; of_row = inl refl })

no_work : (x : List ℕ) (rest : Elements) → empty_disk (rest ++ (x ∷ tmp)) ≡ gone
no_work x [] = refl
no_work x (y ∷ rest) = refl

pub empty_settled : Settled empty_disk
empty_settled = record {
  no_work = no_work;
  used = λ d kind good is. absurd (is refl);
  dirs = λ name commit good digest is. absurd (is refl);
  ref_files = λ name row e. no_row name row e;
  no_other = λ origin name good ref is. absurd (is refl);
  no_old = λ is. absurd (is refl);
}
