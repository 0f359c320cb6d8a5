-- What is put at its place.
use Rattle.std.proofs.Common.{◌≡◌, ◌≢◌, ◌⊎◌, inl, inr, ℕ, List, [], ◌∷◌, true, Option, Ok, refl, sym, ◌∙◌, ap, subst, Contains}
use Rattle.std.proofs.lemmas.List.Elements.{Contains-append_left, Contains-append_cases}
use Rattle.fp_host.specs.Paths.{Elements, Slot, absent, dir, file, link, is_link_text, IsAbove}
use Rattle.fp_host.specs.View.{View, IsTree}
use Rattle.fp_host.specs.Calls.{Can, HasFolder, IsFile, makes_link, Step}
use Rattle.fp_host.specs.Outcome.{Spot, points, shows, spot_of}
use Rattle.fp_host.specs.Reads.{IsStat, StatOf}
use Rattle.fp_host.specs.declared.host.Stat.{Stat}
use Rattle.fp_host.specs.Frame.{Keeps, Frame, NoPath}
use Rattle.fp_host.specs.Moments.{Moments, Always}
use Rattle.std.specs.Str.{is_utf8}
use Rattle.std.specs.List.{list_all}
use Rattle.std.specs.Prelude.{◌==◌, not}
use Rattle.fp_base.proofs.Lists.{in_none, in_cases}
use Rattle.fp_host.proofs.LinkTexts.{link_text_is}
use Rattle.fp_host.proofs.Follow.{follows_to}
use Rattle.fp_host.proofs.Framed.{IsTold}
use Rattle.fp_host.proofs.Goes.{begins}
use Rattle.fp_host.proofs.Separate.{set_same}
use Rattle.fp_host.proofs.Settled.{at_tree}
use Rattle.fp_host.proofs.Above.{not_above}
use Rattle.fp_host.proofs.Shown.{now_left}
use Rattle.fp_small.specs.Places.{repo, tmp}
use Rattle.fp_small.specs.Clear.{IsWithin, GoneWithin, AbsentWithin, IsCleared, CanClear}
use Rattle.fp_small.specs.Folders.{ancestors, FoldersAt, DirsAt, IsFree, AreFree, AreDirs}
use Rattle.fp_small.specs.Replace.{folders_of, IsFreeFile, ReplacesAt, ReplacesName, Replaces, WasReplaced, CanReplace}
use Rattle.fp_small.proofs.Replacement.{ancestors_above, parent_in}
use Rattle.fp_small.proofs.Sharing.{shares_on, shares_empty, shares_made}
use Rattle.fp_small.proofs.Within.{within_on}
use Rattle.fl_export.specs.declared.rows.ExportWhat.{ExportWhat}
use Rattle.fl_export.specs.declared.rows.ExportWhat.TheVariants as what
use Rattle.fl_export.specs.Placed.{exports}
use Rattle.fl_export.specs.Steps.{Alters, PutAt, it_at, gone_at, folder_at, work_at, PutName, it_name, gone_name, folder_name, work_name, MayStay, PutsAt, WasPut, HasLinkText}
use Rattle.fl_export.proofs.Alter.{alters_kept, alters_to}
use Rattle.fl_export.proofs.Spared.{apart_from_work, apart_from_repo}

-- a frame holds at every moment
pub always_kept : {G : Elements → Spot → Type 0} {W : Elements → Slot → Type 0} {a b : Option Moments} → IsTold a → Frame G W NoPath a b → Always (Alters G W) a b
always_kept told frame = begins told frame.goes (λ u w t r. alters_kept r) (λ u w t r q. alters_kept q)

-- ---- the steps

pub gives_gone : {place : Elements} {what : ExportWhat} (q : Elements) (spot : Spot) → GoneWithin place q spot → PutAt place what q spot
gives_gone q spot h = gone_at h.0 h.1

pub puts_gone : {place : Elements} (q : Elements) (e : Slot) → AbsentWithin place q e → PutName place q e
puts_gone q e h = gone_name h.0 h.1

pub gives_folders : {place : Elements} {what : ExportWhat} (q : Elements) (spot : Spot) → FoldersAt (ancestors place) q spot → PutAt place what q spot
gives_folders {place = place} q spot h = folder_at (Contains-append_left (ancestors place) (repo ∷ (tmp ∷ [])) q h.0) h.1

gives : (place : Elements) (bytes : List ℕ) (u : View) (q : Elements) (spot : Spot) → ReplacesAt place bytes u q spot → PutAt place (what.Text bytes) q spot
gives place bytes u q spot (inl h) = it_at h.0 h.1
gives place bytes u q spot (inr (inl h)) = folder_at h.0 h.1
gives place bytes u q spot (inr (inr h)) = work_at h.number h.is

puts : (place : Elements) (u : View) (q : Elements) (e : Slot) → ReplacesName place u q e → PutName place q e
puts place u q e (inl h) = it_name h.0
puts place u q e (inr (inl h)) = folder_name h.0 h.1
puts place u q e (inr (inr h)) = work_name h.number h.is

pub put_text : {place : Elements} {bytes : List ℕ} {u w : View} → Replaces place bytes u w → PutsAt place (what.Text bytes) u w
put_text {place = place} {bytes = bytes} {u = u} {w = w} r = record {
  follows = follows_to (gives place bytes u) r.keeps.follows;
  names = λ q. elim (r.keeps.names q) [ inl same ↦ inl same | inr put ↦ inr (puts place u q (w.names q) put) ];
  puts = λ x had. elim (r.keeps.puts x had) [ inl before ↦ inl before | inr put ↦ inr (puts place u x.0 x.1 put) ];
  files = r.files;
  printed = r.keeps.printed;
}

pub put_gone : {place : Elements} {what : ExportWhat} {u w : View} → Keeps (GoneWithin place) (AbsentWithin place) NoPath u w → PutsAt place what u w
put_gone keeps = alters_to gives_gone puts_gone (alters_kept keeps)

-- ---- names of work

-- a folder above a path within a folder is within it, or above it
pub above_within : (t : Elements) (p q : Elements) → IsWithin t p → IsAbove q p → IsWithin t q ⊎ IsAbove q t
above_within t [] q (inl is) above = absurd above
above_within t [] q (inr below) above = absurd below
above_within t (x ∷ up) q (inl is) above = inr (subst (IsAbove q) is above)
above_within t (x ∷ up) q (inr below) above = elim above [
  | inl is ↦ inl (elim below [ inl same ↦ inl (is ∙ sym same) | inr more ↦ inr (subst (IsAbove t) (sym is) more) ])
  | inr more ↦ elim below [ inl same ↦ inr (subst (IsAbove q) (sym same) more) | inr further ↦ above_within t up q (inr further) more ]
]

pub root_above : (q : Elements) → IsAbove q exports → q ≡ []
root_above q (inl is) = is
root_above q (inr none) = absurd none

root_no_work : IsAbove tmp [] → ⊥
root_no_work above = above

module _ (place : Elements) (within : IsWithin exports place) where
  -- a folder that is made isn't one of work
  pub folder_no_work : (q : Elements) → Contains (folders_of place) q → IsAbove tmp q → ⊥
  folder_no_work q has work = elim (Contains-append_cases (ancestors place) (repo ∷ (tmp ∷ [])) q has) [
    | inl above ↦ elim (above_within exports place q within (ancestors_above place q above)) [
      | inl here ↦ apart_from_work q here (inr work)
      | inr root ↦ root_no_work (subst (IsAbove tmp) (root_above q root) work)
    ]
    | inr folders ↦ elim (in_cases repo (tmp ∷ []) q folders) [
      | inl is ↦ no_repo (subst (IsAbove tmp) is work)
      | inr more ↦ elim (in_cases tmp [] q more) [ inl is ↦ no_tmp (subst (IsAbove tmp) is work) | inr none ↦ in_none q none ]
    ]
  ]
    where
      no_repo : IsAbove tmp repo → ⊥
      no_repo (inl e) = cc e
      no_repo (inr e) = e

      no_tmp : IsAbove tmp tmp → ⊥
      no_tmp (inl e) = cc e
      no_tmp (inr e) = no_repo e

  pub within_no_work : (q : Elements) → IsWithin place q → IsAbove tmp q → ⊥
  within_no_work q below work = apart_from_work q (within_on exports place q within below) (inr work)

  -- ---- where it may be put

  free_still : (u v : View) (q : Elements) → ((v.names q ≡ u.names q) ⊎ AbsentWithin place q (v.names q)) → IsFree u q → IsFree v q
  free_still u v q (inl same) (inl none) = inl (same ∙ none)
  free_still u v q (inl same) (inr folder) = inr (same ∙ folder)
  free_still u v q (inr put) free = inl put.1

  module _ {u v : View} (keeps : Keeps (GoneWithin place) (AbsentWithin place) NoPath u v) where
    pub can_replace : CanClear place u → AreFree (folders_of place) u → IsFreeFile place v → CanReplace place v
    can_replace clear free entry = record {
      entry = entry;
      folders = record { free = λ q has. free_still u v q (keeps.names q) (free.free q has) };
      no_root = clear.no_root;
      no_repo = λ is. apart_from_repo place within is;
      no_tmp = λ is. apart_from_work place within (inl is);
      no_work = λ above. apart_from_work place within (inr above);
    }

    pub can_fold : AreFree (folders_of place) u → AreFree (ancestors place) v
    can_fold free = record { free = λ q has. free_still u v q (keeps.names q) (free.free q (Contains-append_left (ancestors place) (repo ∷ (tmp ∷ [])) q has)) }

pub was_text : {place : Elements} {bytes : List ℕ} {u v w : View} → Keeps (GoneWithin place) (AbsentWithin place) NoPath u v → Replaces place bytes v w → WasReplaced place bytes v w → WasPut place (what.Text bytes) u w
was_text {place = place} {u = u} {v = v} {w = w} keeps r was = record { there = was.new.each (shows w) (now_left w); work = work; shares = shares_on (shares_empty keeps) (shares_made refl was.made) r.files }
  where
    work_still : IsWithin exports place → (q : Elements) → IsAbove tmp q → v.names q ≡ u.names q
    work_still inside q above = elim (keeps.names q) [ inl same ↦ same | inr put ↦ absurd (within_no_work place inside q put.0 above) ]

    work : IsWithin exports place → (q : Elements) → IsAbove tmp q → w.names q ≡ u.names q
    work inside q above = elim (r.keeps.names q) [
      | inl same ↦ same ∙ work_still inside q above
      | inr put ↦ elim put [
        | inl it ↦ absurd (within_no_work place inside q (inl it.0) above)
        | inr more ↦ elim more [ inl folder ↦ absurd (folder_no_work place inside q folder.0 above) | inr staging ↦ was.work q staging ∙ sym staging.free ∙ work_still inside q above ]
      ]
    ]

-- ---- a link

-- what its names come to hold
pub data LinkName (place q : Elements) (e : Slot) : Type 0 where
  link_it : q ≡ place → LinkName place q e
  link_gone : AbsentWithin place q e → LinkName place q e
  link_folder : DirsAt (ancestors place) q e → LinkName place q e

pub link_puts : {place : Elements} (q : Elements) (e : Slot) → LinkName place q e → PutName place q e
link_puts q e (link_it is) = it_name is
link_puts q e (link_gone h) = gone_name h.0 h.1
link_puts q e (link_folder h) = folder_name (Contains-append_left _ (repo ∷ (tmp ∷ [])) q h.0) h.1

module _ (place : Elements) (within : IsWithin exports place) where
  pub link_work : {G : Elements → Spot → Type 0} {u w : View} → Keeps G (LinkName place) NoPath u w → (q : Elements) → IsAbove tmp q → w.names q ≡ u.names q
  link_work {w = w} keeps q work = elim (keeps.names q) [ inl same ↦ same | inr put ↦ absurd (none (w.names q) put) ]
    where
      none : (e : Slot) → LinkName place q e → ⊥
      none e (link_it is) = within_no_work place within q (inl is) work
      none e (link_gone h) = within_no_work place within q h.0 work
      none e (link_folder h) = folder_no_work place within q (Contains-append_left (ancestors place) (repo ∷ (tmp ∷ [])) q h.0) work

pub linked : {place : Elements} {text : List ℕ} {v w : View} → IsTree w → Step (makes_link text place) (Ok tt) v w → shows w place ≡ points text
linked {place = place} {text = text} {v = v} {w = w} tree step =
    let name : w.names place ≡ link text = ap (λ (x : View). x.names place) step.how.1 ∙ set_same v.names place (link text) place refl in
    ap (spot_of w.files) (at_tree w tree place ∙ name)

has_folder : (p : Elements) {v : View} → p ≢ [] → IsTree v → AreDirs (ancestors p) v → HasFolder v p
has_folder [] off tree dirs = absurd (off refl)
has_folder (x ∷ up) {v = v} off tree dirs = elim (parent_in x up) [ inl root ↦ ap v.names root ∙ tree.root | inr among ↦ dirs.dirs up among ]

-- the frame of a link's steps
pub always_link : {place : Elements} {what : ExportWhat} {a b : Option Moments} → IsTold a → Frame (PutAt place what) (LinkName place) NoPath a b → Always (PutsAt place what) a b
always_link told frame = begins told frame.goes (λ u w t r. alters_to (λ q spot h. h) link_puts (alters_kept r)) (λ u w t r q. alters_to (λ q spot h. h) link_puts (alters_kept q))

-- nothing stands at the place, and folders above it
pub record IsCleanAt (place : Elements) (v : View) : Type 0 where
  pub none : v.names place ≡ absent
  pub dirs : AreFree (ancestors place) v

pub record IsHousedAt (place : Elements) (w : View) : Type 0 where
  pub none : w.names place ≡ absent
  pub dirs : AreDirs (ancestors place) w

pub housed : {place : Elements} {v w : View} → IsCleanAt place v → Keeps (FoldersAt (ancestors place)) (DirsAt (ancestors place)) NoPath v w → (AreFree (ancestors place) v → AreDirs (ancestors place) w) → IsHousedAt place w
housed {place = place} clean keeps made = record {
  none = elim (keeps.names place) [ inl same ↦ same ∙ clean.none | inr put ↦ absurd (not_above place (ancestors_above place place put.0)) ];
  dirs = made clean.dirs;
}

pub can_link : {place : Elements} {w : View} (text : List ℕ) → is_link_text text ≡ true → place ≢ [] → IsTree w → IsHousedAt place w → Can (makes_link text place) w
can_link {place = place} text good off tree h = (good, has_folder place off tree h.dirs, h.none)

-- ---- texts as the code has them

pub text_good : {text now : List ℕ} → text ≡ now → points text ≡ points now
text_good is = ap points is

pub good_text : {text now : List ℕ} → HasLinkText (what.Link now) → text ≡ now → is_utf8 text ≡ true → is_link_text text ≡ true
good_text {text = text} {now = now} good is utf8 =
    let g = subst (λ (l : List ℕ). HasLinkText (what.Link l)) (sym is) good in
    sym (sym g.2 ∙ link_text_is text (list_all (λ b. not (b == 0)) text) g.0 g.1 utf8 refl)

-- ---- what may stay

free_by_stat : (v : View) (e : Slot) (s : Stat) → MayStay s → IsStat v e s → (e ≡ absent) ⊎ IsFile e
free_by_stat v absent s may is = inl refl
free_by_stat v (file id) s may is = inr (id, refl)
free_by_stat v dir s may is = absurd (subst MayStay is may)
free_by_stat v (link text) s may is = absurd (subst MayStay is may)

pub stays_free : {place : Elements} {s : Stat} {u w : View} → MayStay s → StatOf place (Ok s) u w → IsFreeFile place w
stays_free {place = place} {s = s} {u = u} may stat = subst (IsFreeFile place) (sym stat.same) (free_by_stat u (u.names place) s may stat.tells.1)

pub cleared_free : {place : Elements} {w : View} → IsCleared place w → IsFreeFile place w
cleared_free {place = place} cleared = inl (cleared.gone place (inl refl))
