-- What is made before a switch.
use Rattle.std.proofs.Common.{◌≡◌, ◌≢◌, ◌⊎◌, ◌<◌, inl, inr, ℕ, List, [], ◌∷◌, Option, Some, None, Result, Ok, true, refl, sym, ◌∙◌, ap, subst, Contains, codes, arith}
use Rattle.std.proofs.lemmas.List.Elements.{Contains-push_cases}
use Rattle.fp_host.specs.Paths.{Elements, Slot, absent, dir, file, link, is_link_text, set_at}
use Rattle.fp_host.specs.View.{View, Inode, IsTree}
use Rattle.fp_host.specs.Calls.{makes_link, syncs, put, Can, Step, HasFolder, IsFile}
use Rattle.fp_host.specs.Outcome.{Spot, folder, points, Follows, IsSettled}
use Rattle.fp_host.specs.Frame.{Keeps, NoPath}
use Rattle.fp_host.specs.declared.host.HostError.{HostError}
use Rattle.fp_host.proofs.Follow.{follows_on, follows_to, follows_refl, called}
use Rattle.fp_host.proofs.Framed.{keeps_call}
use Rattle.fp_host.proofs.Separate.{set_same, set_other, path_cases}
use Rattle.fp_host.specs.Frame.{Frame, AtEnd}
use Rattle.fp_host.specs.Moments.{Moments, Goes, Makes}
use Rattle.fp_host.proofs.Ending.{ends_frame, ends_both, ends_to}
use Rattle.fp_host.proofs.Framed.{IsTold}
use Rattle.fp_host.proofs.Goes.{begins, goes_on, makes_goes}
use Rattle.fp_small.specs.Folders.{ancestors, FoldersAt, DirsAt, AreFree, AreDirs}
use Rattle.fp_small.specs.Places.{repo, tmp}
use Rattle.fp_small.specs.Replace.{IsFreeFile}
use Rattle.fp_small.proofs.Keeping.{files_stay, files_on, files_kept}
use Rattle.fp_small.proofs.Staging.{synced}
use Rattle.dep_states.proofs.SharedAs.{shared_refl, shared_empty, shared_on}
use Rattle.dep_switch.specs.Writing.{new_link, FileName, WritesFile, HasFile, CanWrite, PreparesAt, a_deploy, a_folder, a_link, PreparesName, new_deploy, new_folder, the_link, Prepares, WasPrepared, CanPrepare}
use Rattle.dep_switch.proofs.Sparing.{which}

module _ {deploy : Elements} {text : List ℕ} where
  pub prepares_start : {u : View} → Prepares deploy text u u
  prepares_start = record { follows = follows_refl; names = λ q. inl refl; puts = λ x had. inl had; files = files_stay; shares = shared_refl; printed = refl }

  pub prepares_same : {u w : View} → w ≡ u → Prepares deploy text u w
  prepares_same {u = u} same = subst (Prepares deploy text u) (sym same) prepares_start

  pub prepares_on : {u v w : View} → Prepares deploy text u v → Prepares deploy text v w → Prepares deploy text u w
  prepares_on first second = record {
    follows = follows_on first.follows second.follows;
    names = λ q. elim (second.names q) [
      | inl same ↦ elim (first.names q) [ inl was ↦ inl (same ∙ was) | inr may ↦ inr (subst (PreparesName deploy text q) (sym same) may) ]
      | inr may ↦ inr may
    ];
    puts = λ x had. elim (second.puts x had) [ inl before ↦ first.puts x before | inr may ↦ inr may ];
    files = files_on first.files second.files;
    shares = shared_on first.shares second.shares second.files;
    printed = second.printed ∙ first.printed;
  }

  pub prepares_keeps : {G : Elements → Spot → Type 0} {W : Elements → Slot → Type 0} {u w : View} → ((q : Elements) (spot : Spot) → G q spot → PreparesAt deploy text q spot) → ((q : Elements) (e : Slot) → W q e → PreparesName deploy text q e)
      → Keeps G W NoPath u w → Prepares deploy text u w
  prepares_keeps given may keeps = record {
    follows = follows_to given keeps.follows;
    names = λ q. elim (keeps.names q) [ inl same ↦ inl same | inr h ↦ inr (may q _ h) ];
    puts = λ x had. elim (keeps.puts x had) [ inl before ↦ inl before | inr h ↦ inr (may x.0 x.1 h) ];
    files = files_kept keeps;
    shares = shared_empty keeps;
    printed = keeps.printed;
  }

  pub prepares_folders : {l : Elements} {u w : View} → l ≡ new_link → Keeps (FoldersAt (ancestors l)) (DirsAt (ancestors l)) NoPath u w → Prepares deploy text u w
  prepares_folders is keeps = prepares_keeps
      (λ q spot h. a_folder (subst (λ (l : Elements). Contains (ancestors l) q) is h.0) h.1)
      (λ q e h. new_folder (subst (λ (l : Elements). Contains (ancestors l) q) is h.0) h.1) keeps

  pub prepares_writes : {u w : View} → WritesFile deploy u w → Prepares deploy text u w
  prepares_writes writes = record {
    follows = follows_to (λ q spot h. a_deploy h.0 h.1) writes.follows;
    names = λ q. elim (writes.names q) [ inl same ↦ inl same | inr h ↦ inr (new_deploy h.0 h.1) ];
    puts = λ x had. elim (writes.puts x had) [ inl before ↦ inl before | inr h ↦ inr (new_deploy h.0 h.1) ];
    files = writes.files;
    shares = writes.shares;
    printed = writes.printed;
  }

  pub prepares_link : {l : Elements} {r : Result (Unit {0}) HostError} {v w : View} → l ≡ new_link → IsTree v → Step (makes_link text l) r v w → Prepares deploy text v w
  prepares_link {l = l} is tree step = prepares_keeps (λ q spot h. a_link (h.0 ∙ is) h.1) (λ q e h. the_link (h.0 ∙ is) h.1)
      (keeps_call {G = λ q spot. (q ≡ l) × (spot ≡ points text)} {W = λ q e. (q ≡ l) × (e ≡ link text)} {A = NoPath} tree (λ q spot h. h) (λ q e h. h) (λ x i h. absurd h) tt tt (called step))

  pub prepares_sync : {r : Result (Unit {0}) HostError} {v w : View} → IsTree v → Step syncs r v w → Prepares deploy text v w
  prepares_sync tree step = prepares_keeps (λ q spot h. absurd h) (λ q e h. absurd h)
      (keeps_call {G = λ q spot. ⊥} {W = λ q e. ⊥} {A = NoPath} tree (λ q spot h. h) (λ q e h. h) (λ x i h. absurd h) tt tt (called step))

-- ---- in the end

file_not_absent : {e : Slot} {id : ℕ} → e ≡ file id → e ≡ absent → ⊥
file_not_absent is none = cc (sym is ∙ none)

-- the file and the link are there
pub record IsLinked (deploy : Elements) (text bytes : List ℕ) (w : View) : Type 0 where
  pub there : HasFile deploy bytes w
  pub linked : w.names new_link ≡ link text

pub linked : {deploy l : Elements} {text bytes : List ℕ} {v w : View} → l ≡ new_link → HasFile deploy bytes v → Step (makes_link text l) (Ok tt) v w → IsLinked deploy text bytes w
linked {deploy = deploy} {l = l} {text = text} {v = v} {w = w} is made step =
    let done = step.how.1 in
    let off : deploy ≢ l = λ same. file_not_absent made.name (ap v.names same ∙ step.how.0.2) in
    record {
      there = record {
        id = made.id;
        name = ap (λ (x : View). x.names deploy) done ∙ set_other v.names l (link text) deploy off ∙ made.name;
        row = ap (λ (x : View). x.files made.id) done ∙ made.row;
      };
      linked = ap w.names (sym is) ∙ ap (λ (x : View). x.names l) done ∙ set_same v.names l (link text) l refl;
    }

pub was_prepared : {deploy : Elements} {text bytes : List ℕ} {v w : View} → IsLinked deploy text bytes v → Step syncs (Ok tt) v w → WasPrepared deploy text bytes w
was_prepared {deploy = deploy} first step =
    let done = step.how.1 in
    record {
      written = record {
        id = first.there.id;
        name = ap (λ (x : View). x.names deploy) done ∙ first.there.name;
        row = ap (λ (x : View). x.files first.there.id) done ∙ first.there.row;
      };
      linked = ap (λ (x : View). x.names new_link) done ∙ first.linked;
      settled = synced step;
    }

-- ---- where it may be

pub can_fold : {deploy l : Elements} {v : View} → l ≡ new_link → CanPrepare deploy v → AreFree (ancestors l) v
can_fold {v = v} is can = subst (λ (l : Elements). AreFree (ancestors l) v) (sym is) can.folders

-- after the folders
pub record IsHoused (deploy : Elements) (u v : View) : Type 0 where
  pub write : CanPrepare deploy u → CanWrite deploy v
  pub dirs : CanPrepare deploy u → AreDirs (ancestors new_link) v
  pub link_free : CanPrepare deploy u → v.names new_link ≡ absent

dir_stays : {G : Elements → Spot → Type 0} {A : Elements → Type 0} (paths : List Elements) (p : Elements) {u v : View} → Keeps G (DirsAt paths) A u v → HasFolder u p → HasFolder v p
dir_stays paths [] keeps above = above
dir_stays paths (x ∷ up) keeps above = elim (keeps.names up) [ inl same ↦ same ∙ above | inr made ↦ made.1 ]

same_or_made : {G : Elements → Spot → Type 0} {A : Elements → Type 0} (paths : List Elements) {u v : View} (p : Elements) → Keeps G (DirsAt paths) A u v → (Contains paths p → ⊥) → v.names p ≡ u.names p
same_or_made paths p keeps off = elim (keeps.names p) [ inl same ↦ same | inr made ↦ absurd (off made.0) ]

free_stays : (p : Elements) (u v : View) → v.names p ≡ u.names p → IsFreeFile p u → IsFreeFile p v
free_stays p u v same (inl none) = inl (same ∙ none)
free_stays p u v same (inr is) = inr (is.0, same ∙ is.1)

link_no_folder : Contains (ancestors new_link) new_link → ⊥
link_no_folder has = elim (which new_link has) [ inl is ↦ cc is | inr is ↦ cc is ]

pub housed : {deploy l : Elements} {u v : View} → l ≡ new_link → Keeps (FoldersAt (ancestors l)) (DirsAt (ancestors l)) NoPath u v → (AreFree (ancestors l) u → AreDirs (ancestors l) v) → IsHoused deploy u v
housed {deploy = deploy} {l = l} {u = u} {v = v} is keeps made = record {
  write = λ can. record { above = dir_stays (ancestors l) deploy keeps can.write.above; free = free_stays deploy u v (same_or_made (ancestors l) deploy keeps (λ has. can.apart (subst (λ (p : Elements). Contains (ancestors p) deploy) is has))) can.write.free };
  dirs = λ can. subst (λ (p : Elements). AreDirs (ancestors p) v) is (made (can_fold is can));
  link_free = λ can. same_or_made (ancestors l) new_link keeps (λ has. link_no_folder (subst (λ (p : Elements). Contains (ancestors p) new_link) is has)) ∙ can.link_free;
}

tmp_in : Contains (ancestors new_link) tmp
tmp_in = (1, omega arith, refl)

-- and after the file
pub can_link : {deploy l : Elements} (text : List ℕ) {u v w : View} → l ≡ new_link → is_link_text text ≡ true → IsHoused deploy u v → WritesFile deploy v w → CanPrepare deploy u → Can (makes_link text l) w
can_link {deploy = deploy} text {v = v} {w = w} is good house writes can =
    let off_tmp : tmp ≢ deploy = λ same. can.apart (subst (Contains (ancestors new_link)) same tmp_in) in
    let dir_there : w.names tmp ≡ dir = kept tmp off_tmp ∙ (house.dirs can).dirs tmp tmp_in in
    subst (λ (p : Elements). Can (makes_link text p) w) (sym is) (good, dir_there, kept new_link (λ same. can.other (sym same)) ∙ house.link_free can)
  where
    kept : (q : Elements) → q ≢ deploy → w.names q ≡ v.names q
    kept q off = elim (writes.names q) [ inl same ↦ same | inr h ↦ absurd (off h.0) ]

-- ---- call by call

pub housed_end : {deploy l : Elements} {a b : Option Moments} → l ≡ new_link → IsTold a → Frame (FoldersAt (ancestors l)) (DirsAt (ancestors l)) NoPath a b → AtEnd (λ u w. AreFree (ancestors l) u → AreDirs (ancestors l) w) a b → AtEnd (IsHoused deploy) a b
housed_end is told frame made = ends_to (ends_both (ends_frame told frame) made) (λ u w q. housed is q.0 q.1)

module _ {deploy l : Elements} {text : List ℕ} (is : l ≡ new_link) where
  pub prepared_above : {a b : Option Moments} → IsTold a → Frame (FoldersAt (ancestors l)) (DirsAt (ancestors l)) NoPath a b → Goes a b (Prepares deploy text) (Prepares deploy text)
  prepared_above told frame = begins told frame.goes (λ u w t k. prepares_folders is k) (λ u w t k e. prepares_folders is e)

  pub prepared_file : {a b c : Option Moments} → IsTold b → Goes a b (Prepares deploy text) (Prepares deploy text) → Goes b c (WritesFile deploy) (WritesFile deploy) → Goes a c (Prepares deploy text) (Prepares deploy text)
  prepared_file told first writes = goes_on told first writes (λ u v w tree r q s. prepares_on q (prepares_writes s)) (λ u v w tree r q s e. prepares_on q (prepares_writes e))

  pub prepared_link : {r : Result (Unit {0}) HostError} {a b c : Option Moments} → IsTold b → Goes a b (Prepares deploy text) (Prepares deploy text) → Makes (Step (makes_link text l) r) b c → Goes a c (Prepares deploy text) (Prepares deploy text)
  prepared_link told first call = goes_on told first (makes_goes call) (λ u v w tree r q s. prepares_on q (prepares_link is tree s)) (λ u v w tree r q s e. prepares_on q (prepares_link is tree e))

  pub prepared_sync : {r : Result (Unit {0}) HostError} {a b c : Option Moments} → IsTold b → Goes a b (Prepares deploy text) (Prepares deploy text) → Makes (Step syncs r) b c → Goes a c (Prepares deploy text) (Prepares deploy text)
  prepared_sync told first call = goes_on told first (makes_goes call) (λ u v w tree r q s. prepares_on q (prepares_sync tree s)) (λ u v w tree r q s e. prepares_on q (prepares_sync tree e))
