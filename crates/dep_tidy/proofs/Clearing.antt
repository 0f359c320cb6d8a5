-- What the steps of tidying spare.
use Rattle.std.proofs.Common.{◌≡◌, ◌≤◌, inl, inr, ℕ, List, [], ◌∷◌, Bool, true, false, sym, ◌∙◌, ap, subst, codes, length, Contains, arith}
use Rattle.std.specs.Prelude.{if◌then◌else◌, ◌&&◌, ◌⊎◌}
use Rattle.std.proofs.lemmas.Bool.{and_parts}
use Rattle.fp_host.specs.Paths.{Elements}
use Rattle.fp_host.specs.View.{View, IsTree}
use Rattle.fp_host.specs.Outcome.{Spot, Follows, gone, folder, holds, shows}
use Rattle.fp_host.proofs.Above.{above_rest}
use Rattle.fp_host.proofs.Shown.{now_left}
use Rattle.fp_name.specs.declared.kind.RefKind.{RefKind}
use Rattle.fp_name.specs.declared.kind.RefKind.TheVariants.{App, Runtime}
use Rattle.fp_name.specs.Grammar.{is_id, is_arch, is_branch, is_remote_name}
use Rattle.fp_name.specs.Kinds.{kind_word}
use Rattle.fp_name.specs.Refs.{Ref, is_ref}
use Rattle.fp_small.specs.Places.{repo, tmp, new_name}
use Rattle.fp_small.specs.Clear.{IsWithin, GoneBelow, CanEmpty, CanClear}
use Rattle.fp_small.specs.Folders.{IsFree}
use Rattle.fp_small.specs.Replace.{folders_of, IsFreeFile}
use Rattle.fp_small.specs.declared.state.State.{State}
use Rattle.fp_small.specs.declared.state.RefRow.{RefRow}
use Rattle.fp_small.proofs.Within.{within_rest}
use Rattle.ost_refs.specs.Files.{ref_bytes}
use Rattle.ost_refs.specs.Changes.{CanWrite}
use Rattle.ost_refs.specs.declared.place.RefPlace.TheVariants.{Remote}
use Rattle.dep_states.specs.Names.{remotes_conf, pins_file, commit_dir, ref_file}
use Rattle.dep_states.specs.Zones.{Zone, anything, a_folder, IsFileOrGone, IsFolderOrGone, Fits, Allowed, zone, outward}
use Rattle.dep_states.specs.Sound.{Sound, Opens, Spares, InTmp}
use Rattle.dep_states.specs.Frames.{InDir}
use Rattle.dep_states.proofs.Deployed.{top}
use Rattle.dep_states.proofs.Empty.{allowed_gone}
use Rattle.dep_states.proofs.Law.{frame_law}
use Rattle.dep_states.proofs.Sparing.{dir_spares, none_in_repo, spares_to, spares_both}
use Rattle.dep_states.proofs.Switching.{none_in_tmp, permits_gone, word_no_repo}
use Rattle.dep_states.proofs.Usual.{tmp_spares}
use Rattle.dep_states.proofs.Zones.{fits_if}
use Rattle.dep_states.proofs.Openings.{short_follows}
use Rattle.dep_tidy.specs.Steps.{InUnkept, UnkeptGone, OtherGone, RefAt, file_at, folder_at, work_at, CanTakeOld}
use Rattle.dep_tidy.proofs.Views.{gone_absent, no_dir_by, free_file_by, free_by}
use Rattle.dep_tidy.proofs.Apart.{IsBeside, each_of, file_beside, folder_beside}

-- ---- work

pub work_goes : (v : View) → Spares v (GoneBelow tmp)
work_goes v = record {
  avoids = λ disk left p spot fixed given. let below = above_rest tmp p given.0 in none_in_tmp below.0 below.1 fixed;
  permits = λ disk left p spot given. permits_gone p spot given.1;
}

-- ---- folders

in_dir : {s : State} {p : Elements} {spot : Spot} (u : InUnkept s p) → spot ≡ gone → length p ≤ 128 → InDir u.name u.commit p spot
in_dir {p = p} u is short = let w = within_rest (commit_dir u.name u.commit) p u.within in
    record { rest = w.0; is = w.1; short = short; itself = λ e. subst IsFolderOrGone (sym is) tt }

pub unkept_spares : {s : State} {v : View} → Opens s v → Spares v (λ q spot. UnkeptGone s q spot × (length q ≤ 128))
unkept_spares opens = record {
  avoids = λ disk left p spot fixed given. let u = given.0.0 in (dir_spares u.is.digits opens u.is.unkept).avoids disk left p spot fixed (in_dir u given.0.1 given.1);
  permits = λ disk left p spot given. permits_gone p spot given.0.1;
}

pub opens_unkept : {s : State} {u w : View} → Follows (UnkeptGone s) u w → Opens s u → Opens s w
opens_unkept {s = s} follows opens = frame_law (unkept_spares opens) (short_follows {G = UnkeptGone s} (λ q spot given. given.1) opens follows) opens

-- ---- below `repo`, beside the objects

-- what may come there
record IsHarmless (q : Elements) (spot : Spot) : Type 0 where
  beside : IsBeside q
  allowed : Allowed q spot

harmless_spares : {v : View} {G : Elements → Spot → Type 0} → ((q : Elements) (spot : Spot) → G q spot → IsHarmless q spot) → Spares v G
harmless_spares harmless = record {
  avoids = λ disk left p spot fixed given. let h = harmless p spot given in none_in_repo fixed h.beside.0 h.beside.1;
  permits = λ disk left p spot given. let h = harmless p spot given in record {
    allowed = h.allowed;
    deploy = λ name commit k at. absurd (word_no_repo name.kind (sym (ap top at) ∙ h.beside.0));
  };
}

pub other_spares : {s : State} {v : View} → Spares v (OtherGone s)
other_spares = harmless_spares (λ q spot given. record {
  beside = subst IsBeside (sym given.0.at) (file_beside given.0.origin given.0.name);
  allowed = subst (Allowed q) (sym given.1) (allowed_gone q);
})

-- a file at a ref's place
file_fits : (kind : RefKind) (origin id arch branch : List ℕ) (p : Elements) (spot : Spot) → IsFileOrGone spot → Fits (zone (codes "repo" ∷ (codes "refs" ∷ (codes "remotes" ∷ (origin ∷ (kind_word kind ∷ (id ∷ (arch ∷ (branch ∷ []))))))))) p spot
file_fits App origin id arch branch p spot f = fits_if (is_remote_name origin) _ p spot (fits_if (is_id id) _ p spot (fits_if (is_arch arch) _ p spot (fits_if (is_branch branch) _ p spot f)))
file_fits Runtime origin id arch branch p spot f = fits_if (is_remote_name origin) _ p spot (fits_if (is_id id) _ p spot (fits_if (is_arch arch) _ p spot (fits_if (is_branch branch) _ p spot f)))

-- folders above it
arch_fits : (kind : RefKind) (origin id arch : List ℕ) (p : Elements) → Fits (zone (codes "repo" ∷ (codes "refs" ∷ (codes "remotes" ∷ (origin ∷ (kind_word kind ∷ (id ∷ (arch ∷ [])))))))) p folder
arch_fits App origin id arch p = fits_if (is_remote_name origin) _ p folder (fits_if (is_id id) _ p folder (fits_if (is_arch arch) _ p folder tt))
arch_fits Runtime origin id arch p = fits_if (is_remote_name origin) _ p folder (fits_if (is_id id) _ p folder (fits_if (is_arch arch) _ p folder tt))

id_fits : (kind : RefKind) (origin id : List ℕ) (p : Elements) → Fits (zone (codes "repo" ∷ (codes "refs" ∷ (codes "remotes" ∷ (origin ∷ (kind_word kind ∷ (id ∷ []))))))) p folder
id_fits App origin id p = fits_if (is_remote_name origin) _ p folder (fits_if (is_id id) _ p folder tt)
id_fits Runtime origin id p = fits_if (is_remote_name origin) _ p folder (fits_if (is_id id) _ p folder tt)

kind_fits : (kind : RefKind) (origin : List ℕ) (p : Elements) → Fits (zone (codes "repo" ∷ (codes "refs" ∷ (codes "remotes" ∷ (origin ∷ (kind_word kind ∷ [])))))) p folder
kind_fits App origin p = fits_if (is_remote_name origin) _ p folder tt
kind_fits Runtime origin p = fits_if (is_remote_name origin) _ p folder tt

origin_fits : (origin : List ℕ) (p : Elements) → Fits (zone (codes "repo" ∷ (codes "refs" ∷ (codes "remotes" ∷ (origin ∷ []))))) p folder
origin_fits origin p = fits_if (is_remote_name origin) _ p folder tt

folder_allowed : (origin : List ℕ) (name : Ref) (q : Elements) → Contains (folders_of (ref_file origin name)) q → Allowed q folder
folder_allowed origin name = each_of (λ q. Allowed q folder) (folders_of (ref_file origin name)) (
  record { fits = tt; short = inr (omega arith) },
  (
    record { fits = tt; short = inr (omega arith) },
    (
      record { fits = tt; short = inr (omega arith) },
      (
        record { fits = origin_fits origin _; short = inr (omega arith) },
        (
          record { fits = kind_fits name.kind origin _; short = inr (omega arith) },
          (
            record { fits = id_fits name.kind origin name.id _; short = inr (omega arith) },
            (
              record { fits = arch_fits name.kind origin name.id name.arch _; short = inr (omega arith) },
              (
                record { fits = tt; short = inr (omega arith) },
                (record { fits = tt; short = inr (omega arith) }, tt),
              ),
            ),
          ),
        ),
      ),
    ),
  ),
)

file_allowed : (origin : List ℕ) (name : Ref) (id mode : ℕ) (bytes : List ℕ) → Allowed (ref_file origin name) (holds id mode bytes)
file_allowed origin name id mode bytes = record { fits = file_fits name.kind origin name.id name.arch name.branch _ (holds id mode bytes) tt; short = inr (omega arith) }

ref_cases : {rows : List RefRow} (p : Elements) (spot : Spot) → RefAt rows p spot → IsHarmless p spot ⊎ InTmp p spot
ref_cases p spot (file_at row has at new) = inl (record {
  beside = subst IsBeside (sym at) (file_beside row.origin row.name);
  allowed = subst (λ (q : Elements). Allowed q spot) (sym at) (subst (Allowed (ref_file row.origin row.name)) (sym new.1) (file_allowed row.origin row.name new.0 420 (ref_bytes row.commit)));
})
ref_cases p spot (folder_at row has at is) = inl (record {
  beside = folder_beside row.origin row.name p at;
  allowed = subst (Allowed p) (sym is) (folder_allowed row.origin row.name p at);
})
ref_cases p spot (work_at k at) = inr (record { name = new_name k; rest = []; is = at; short = omega (arith, ap length at) })

pub refs_spare : {rows : List RefRow} {v : View} → Spares v (RefAt rows)
refs_spare = spares_to ref_cases (spares_both (harmless_spares (λ q spot h. h)) tmp_spares)

-- ---- an installation that opens

module _ {s : State} {v : View} (tree : IsTree v) (opens : Opens s v) where
  pub sound_now : Sound (shows v)
  sound_now = opens.sound (shows v) (now_left v)

  pub can_empty : (p : Elements) → CanEmpty p v
  can_empty p = record { short = λ q above. elim ((sound_now.kinds q).short) [ inl none ↦ inl (gone_absent tree q none) | inr short ↦ inr short ] }

  pub can_clear : (name : Ref) (commit : List ℕ) → CanClear (commit_dir name commit) v
  can_clear name commit = record { no_root = λ e. cc e; below = can_empty (commit_dir name commit) }

  pub can_take_old : CanTakeOld v
  can_take_old = record { remotes = no_dir_by tree remotes_conf ((sound_now.kinds remotes_conf).fits); pins = no_dir_by tree pins_file ((sound_now.kinds pins_file).fits) }

  at_if : (b : Bool) (z : Zone) (p : Elements) (spot : Spot) → b ≡ true → Fits (if b then z else anything) p spot → Fits z p spot
  at_if true z p spot e f = f
  at_if false z p spot e f = absurd (cc e)

  -- what may stand at a ref's place, and above it
  file_seen : (kind : RefKind) (origin id arch branch : List ℕ) (p : Elements) (spot : Spot) → is_remote_name origin ≡ true → is_id id ≡ true → is_arch arch ≡ true → is_branch branch ≡ true
      → Fits (zone (codes "repo" ∷ (codes "refs" ∷ (codes "remotes" ∷ (origin ∷ (kind_word kind ∷ (id ∷ (arch ∷ (branch ∷ []))))))))) p spot → IsFileOrGone spot
  file_seen App origin id arch branch p spot o i a b f = at_if (is_branch branch) _ p spot b (at_if (is_arch arch) _ p spot a (at_if (is_id id) _ p spot i (at_if (is_remote_name origin) _ p spot o f)))
  file_seen Runtime origin id arch branch p spot o i a b f = at_if (is_branch branch) _ p spot b (at_if (is_arch arch) _ p spot a (at_if (is_id id) _ p spot i (at_if (is_remote_name origin) _ p spot o f)))

  arch_seen : (kind : RefKind) (origin id arch : List ℕ) (p : Elements) (spot : Spot) → is_remote_name origin ≡ true → is_id id ≡ true → is_arch arch ≡ true
      → Fits (zone (codes "repo" ∷ (codes "refs" ∷ (codes "remotes" ∷ (origin ∷ (kind_word kind ∷ (id ∷ (arch ∷ [])))))))) p spot → IsFolderOrGone spot
  arch_seen App origin id arch p spot o i a f = at_if (is_arch arch) _ p spot a (at_if (is_id id) _ p spot i (at_if (is_remote_name origin) _ p spot o f))
  arch_seen Runtime origin id arch p spot o i a f = at_if (is_arch arch) _ p spot a (at_if (is_id id) _ p spot i (at_if (is_remote_name origin) _ p spot o f))

  id_seen : (kind : RefKind) (origin id : List ℕ) (p : Elements) (spot : Spot) → is_remote_name origin ≡ true → is_id id ≡ true
      → Fits (zone (codes "repo" ∷ (codes "refs" ∷ (codes "remotes" ∷ (origin ∷ (kind_word kind ∷ (id ∷ []))))))) p spot → IsFolderOrGone spot
  id_seen App origin id p spot o i f = at_if (is_id id) _ p spot i (at_if (is_remote_name origin) _ p spot o f)
  id_seen Runtime origin id p spot o i f = at_if (is_id id) _ p spot i (at_if (is_remote_name origin) _ p spot o f)

  kind_seen : (kind : RefKind) (origin : List ℕ) (p : Elements) (spot : Spot) → is_remote_name origin ≡ true
      → Fits (zone (codes "repo" ∷ (codes "refs" ∷ (codes "remotes" ∷ (origin ∷ (kind_word kind ∷ [])))))) p spot → IsFolderOrGone spot
  kind_seen App origin p spot o f = at_if (is_remote_name origin) _ p spot o f
  kind_seen Runtime origin p spot o f = at_if (is_remote_name origin) _ p spot o f

  module _ (origin : List ℕ) (name : Ref) (remote : is_remote_name origin ≡ true) (good : is_ref name ≡ true) where
    of_id : is_id name.id ≡ true
    of_id = (and_parts (is_id name.id) (is_arch name.arch && is_branch name.branch) good).0

    rest_good : (is_arch name.arch && is_branch name.branch) ≡ true
    rest_good = (and_parts (is_id name.id) (is_arch name.arch && is_branch name.branch) good).1

    of_arch : is_arch name.arch ≡ true
    of_arch = (and_parts (is_arch name.arch) (is_branch name.branch) rest_good).0

    of_branch : is_branch name.branch ≡ true
    of_branch = (and_parts (is_arch name.arch) (is_branch name.branch) rest_good).1

    pub file_spot : IsFileOrGone (shows v (ref_file origin name))
    file_spot = file_seen name.kind origin name.id name.arch name.branch (ref_file origin name) (shows v (ref_file origin name)) remote of_id of_arch of_branch ((sound_now.kinds (ref_file origin name)).fits)

    pub can_drop : IsFreeFile (ref_file origin name) v
    can_drop = free_file_by tree (ref_file origin name) file_spot

    -- one folder
    free_at : (q : Elements) → (Fits (zone (outward q)) q (shows v q) → IsFolderOrGone (shows v q)) → IsFree v q
    free_at q seen = free_by tree q (seen ((sound_now.kinds q).fits))

    frees : (q : Elements) → Contains (folders_of (ref_file origin name)) q → IsFree v q
    frees = each_of (IsFree v) (folders_of (ref_file origin name)) (
      free_at _ (λ f. f),
      (
        free_at _ (λ f. f),
        (
          free_at _ (λ f. f),
          (
            free_at _ (λ f. at_if (is_remote_name origin) a_folder _ _ remote f),
            (
              free_at _ (λ f. kind_seen name.kind origin _ _ remote f),
              (
                free_at _ (λ f. id_seen name.kind origin name.id _ _ remote of_id f),
                (
                  free_at _ (λ f. arch_seen name.kind origin name.id name.arch _ _ remote of_id of_arch f),
                  (
                    free_at _ (λ f. f),
                    (free_at _ (λ f. f), tt),
                  ),
                ),
              ),
            ),
          ),
        ),
      ),
    )

    pub can_write : CanWrite repo (Remote origin name) v
    can_write = record { entry = can_drop; folders = record { free = frees }; no_work = no_repo }
      where
        no_repo : IsWithin tmp repo → ⊥
        no_repo (inl e) = cc e
        no_repo (inr (inl e)) = cc e
        no_repo (inr (inr none)) = none
