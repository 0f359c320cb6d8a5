-- What `active` leads to.
use Rattle.std.proofs.Common.{◌≡◌, inl, inr, ℕ, List, ◌∷◌, true, Option, Some, None, Ok, refl, sym, ◌∙◌, ap}
use Rattle.std.specs.Str.{bytes_eq}
use Rattle.std.proofs.lemmas.Bool.{cases_Bool}
use Rattle.fp_host.specs.Paths.{Elements, Slot, absent, dir, file, link}
use Rattle.fp_host.specs.View.{View, Inode, IsTree}
use Rattle.fp_host.specs.Outcome.{Spot, Disk, gone, folder, holds, points, holding, shows, spot_of}
use Rattle.fp_host.specs.Reads.{StatOf, LinkOf, IsStat}
use Rattle.fp_host.specs.declared.host.Stat.{Stat}
use Rattle.fp_host.specs.declared.host.Stat.TheVariants as stats
use Rattle.fp_host.proofs.Settled.{at_tree}
use Rattle.std.proofs.lemmas.Slice.Eq.{bytes_eq-Decides}
use Rattle.fp_name.specs.Hex.{hex, unhex}
use Rattle.fp_name.specs.Refs.{Ref, is_ref}
use Rattle.fp_name.proofs.HexTexts.{unhex-hex, unhex-some}
use Rattle.fp_small.specs.Load.{Loads, loaded_of}
use Rattle.fp_small.specs.declared.loading.Loaded.{Loaded}
use Rattle.fp_small.specs.declared.loading.Loaded.TheVariants.{Bytes, Absent, TooLong, NotFile}
use Rattle.fp_small.specs.declared.state.RefRow.{RefRow}
use Rattle.dep_states.specs.declared.deploy.DeployData.{DeployData}
use Rattle.dep_states.specs.Deploy.{deploy_of}
use Rattle.dep_states.specs.Names.{active, branch_dir, text_dir, deploy}
use Rattle.dep_states.specs.Shown.{Seen, away, bad, there, small_most, row_in, deploy_at, by_active}
use Rattle.dep_states.proofs.Deploys.{IsRead, deploy_reads}
use Rattle.dep_states.proofs.Good.{row_in_good, read_there}
use Rattle.dep_states.proofs.Total.{row_in_name}
use Rattle.dep_open.specs.Parts.{seen_as, text_seen, IsRowOf}
use Rattle.dep_open.proofs.SetUp.{file_seen}

-- ---- the link

text_is : {v : View} → IsTree v → (p : Elements) (e : Slot) → v.names p ≡ e → text_seen (shows v p) ≡ text_seen (spot_of v.files e)
text_is {v = v} tree p e is = ap (λ s. text_seen (spot_of v.files s)) (at_tree v tree p ∙ is)

held_text : (id : ℕ) (row : Option Inode) → (row ≡ None → ⊥) → text_seen (holding id row) ≡ bad
held_text id None none = absurd (none refl)
held_text id (Some f) none = refl

stat_absent_of : (v : View) (e : Slot) → IsStat v e stats.Absent → e ≡ absent
stat_absent_of v absent s = refl
stat_absent_of v dir s = absurd (cc s)
stat_absent_of v (link text) s = absurd (cc s)
stat_absent_of v (file id) s = absurd (cc s.2)

pub nothing_there : {p : Elements} {v w : View} → IsTree v → StatOf p (Ok stats.Absent) v w → text_seen (shows v p) ≡ away
nothing_there {p = p} {v = v} tree stat = text_is tree p absent (stat_absent_of v (v.names p) stat.tells.1)

other_of : {v : View} (tree : IsTree v) (p : Elements) (e : Slot) (s : Stat) → v.names p ≡ e → IsStat v e s → (s ≡ stats.Absent → ⊥) → (s ≡ stats.Link → ⊥) → text_seen (shows v p) ≡ bad
other_of tree p absent s is told none off = absurd (none told)
other_of tree p dir s is told none off = text_is tree p dir is
other_of tree p (link text) s is told none off = absurd (off told)
other_of {v = v} tree p (file id) s is told none off = text_is tree p (file id) is ∙ held_text id (v.files id) (tree.known p id (inl (sym is)))

pub other_there : {p : Elements} {s : Stat} {v w : View} → IsTree v → StatOf p (Ok s) v w → (s ≡ stats.Absent → ⊥) → (s ≡ stats.Link → ⊥) → text_seen (shows v p) ≡ bad
other_there {p = p} {s = s} {v = v} tree stat none off = other_of tree p (v.names p) s refl stat.tells.1 none off

pub link_there : {p : Elements} {text : List ℕ} {v w : View} → IsTree v → LinkOf p (Ok text) v w → text_seen (shows v p) ≡ there text
link_there {p = p} {text = text} tree reads = text_is tree p (link text) reads.tells.1

-- ---- by its text

abbrev pub by_seen_text : Disk → Ref → Seen (List ℕ) → Seen RefRow
by_seen_text disk name away = away
by_seen_text disk name bad = bad
by_seen_text disk name (there text) = deploy_at name text (disk (deploy (text_dir name text)))

pub by_text : (disk : Disk) (name : Ref) (spot : Spot) (s : Seen (List ℕ)) → text_seen spot ≡ s → by_active disk name spot ≡ by_seen_text disk name s
by_text disk name gone s is = ap (by_seen_text disk name) is
by_text disk name folder s is = ap (by_seen_text disk name) is
by_text disk name (holds id mode bytes) s is = ap (by_seen_text disk name) is
by_text disk name (points text) s is = ap (by_seen_text disk name) is

deploy_as : (name : Ref) (text : List ℕ) (spot : Spot) → deploy_at name text spot ≡ row_in name text (seen_as deploy_of (loaded_of small_most spot))
unfolding deploy_at
deploy_as name text spot = ap (row_in name text) (file_seen small_most deploy_of spot)

said_reads : (loaded : Loaded) (d : DeployData) → seen_as deploy_of loaded ≡ there d → IsRead d
said_reads Absent d e = absurd (cc e)
said_reads (Bytes bytes) d e = deploy_reads bytes d (read_there (deploy_of bytes) d e)
said_reads (TooLong size) d e = absurd (cc e)
said_reads NotFile d e = absurd (cc e)

-- a text that is no digest's leads to no row
no_row : (name : Ref) (text : List ℕ) (s : Seen DeployData) → unhex text ≡ None → ((d : DeployData) → s ≡ there d → IsRead d) → row_in name text s ≡ bad
no_row name text away none reads = refl
no_row name text bad none reads = refl
no_row name text (there d) none reads = elim (cases_Bool (bytes_eq (hex d.commit) text)) [
  | inl t ↦ absurd (cc (sym (unhex-hex d.commit (reads d refl).commit) ∙ ap unhex (same (hex d.commit) text t) ∙ none))
  | inr f ↦ rw f refl
]
  where
    same : (a b : List ℕ) → bytes_eq a b ≡ true → a ≡ b
    same a b t = (bytes_eq-Decides a b).0 t

pub no_digest : (name : Ref) (text : List ℕ) (spot : Spot) → unhex text ≡ None → deploy_at name text spot ≡ bad
no_digest name text spot none = deploy_as name text spot ∙ no_row name text (seen_as deploy_of (loaded_of small_most spot)) none (said_reads (loaded_of small_most spot))

-- what was loaded at the `deploy` is what stands there
pub deploy_there : {v : View} (name : Ref) (text commit : List ℕ) (dir_ path : Elements) (loaded : Loaded) → dir_ ≡ branch_dir name → path ≡ deploy (text ∷ dir_) → unhex text ≡ Some commit → Loads path small_most v loaded
    → deploy_at name text (shows v (deploy (text_dir name text))) ≡ row_in name (hex commit) (seen_as deploy_of loaded)
deploy_there {v = v} name text commit dir_ path loaded at_dir at is loads =
    let here : path ≡ deploy (text_dir name text) = at ∙ ap (λ (d : Elements). deploy (text ∷ d)) at_dir in
    deploy_as name text (shows v (deploy (text_dir name text))) ∙ ap (λ l. row_in name text (seen_as deploy_of l)) (sym (loads.is ∙ ap (λ q. loaded_of small_most (shows v q)) here))
    ∙ ap (λ t. row_in name t (seen_as deploy_of loaded)) (unhex-some text commit is).0

-- a row that was read is good
pub row_good : (name : Ref) (text : List ℕ) (loaded : Loaded) → is_ref name ≡ true → IsRowOf name (row_in name text (seen_as deploy_of loaded))
row_good name text loaded good = go (row_in name text (seen_as deploy_of loaded)) refl
  where
    go : (s : Seen RefRow) → row_in name text (seen_as deploy_of loaded) ≡ s → IsRowOf name s
    go away e = tt
    go bad e = tt
    go (there row) e = (row_in_good name text (seen_as deploy_of loaded) row good (said_reads loaded) e, row_in_name name text (seen_as deploy_of loaded) row e)

-- ---- what the calls tell

link_of : (v : View) (e : Slot) → IsStat v e stats.Link → (text : List ℕ) × (e ≡ link text)
link_of v absent s = absurd (cc s)
link_of v dir s = absurd (cc s)
link_of v (link text) s = (text, refl)
link_of v (file id) s = absurd (cc s.2)

pub stat_link : {p : Elements} {v w : View} → StatOf p (Ok stats.Link) v w → (text : List ℕ) × (v.names p ≡ link text)
stat_link {p = p} {v = v} stat = link_of v (v.names p) stat.tells.1

-- where `active` is a link, what its text leads to is what stands at the ref
pub active_there : (u v : View) (name : Ref) (path : Elements) (text : List ℕ) {s : Seen RefRow} → path ≡ active name → v ≡ u → text_seen (shows u path) ≡ there text
    → s ≡ deploy_at name text (shows v (deploy (text_dir name text))) → s ≡ by_active (shows u) name (shows u (active name))
active_there u v name path text at same link_ is =
    is ∙ ap (λ x. deploy_at name text (shows x (deploy (text_dir name text)))) same
    ∙ sym (by_text (shows u) name (shows u (active name)) (there text) (ap (λ q. text_seen (shows u q)) (sym at) ∙ link_))
