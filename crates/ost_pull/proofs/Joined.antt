-- Batches that are taken one after another.
use Rattle.std.proofs.Common.{◌≡◌, ◌⊎◌, ◌≤◌, inl, inr, ℕ, List, [], ◌∷◌, ◌++◌, take, drop, Option, Some, None, sym, ◌∙◌, ap, subst}
use Rattle.std.specs.Option.{option_or}
use Rattle.std.specs.List.{between}
use Rattle.std.proofs.lemmas.List.{take-append-drop, take-take}
use Rattle.std.proofs.lemmas.List.Edits.{split_between}
use Rattle.std.proofs.lemmas.Slice.{between_is}
use Rattle.fp_host.specs.Paths.{Elements}
use Rattle.fp_host.specs.View.{View, IsTree}
use Rattle.fp_host.specs.Remote.{Holdings}
use Rattle.ost_model.specs.Objects.{Have}
use Rattle.ost_model.specs.Order.{In}
use Rattle.ost_model.proofs.Members.{in_left, in_right}
use Rattle.ost_walk.specs.declared.ends.WalkEnd.{WalkEnd}
use Rattle.ost_walk.specs.declared.ends.WalkEnd.TheVariants as ends
use Rattle.ost_walk.specs.Ends.{RefusesBy}
use Rattle.ost_walk.specs.Surveys.{first_bad, told_fault}
use Rattle.ost_pull.specs.Pulls.{IsApart}
use Rattle.ost_pull.specs.Takes.{AddsAmong, StaysNoted, TakesAll}
use Rattle.ost_pull.specs.Work.{Adds, Works}
use Rattle.ost_pull.proofs.Gathered.{gathered_on}
use Rattle.ost_pull.proofs.Apart.{works_object}
use Rattle.ost_pull.proofs.Kept.{Named}
use Rattle.ost_pull.proofs.Taken.{bad_append, in_before}

in_either : (xs ys : List Named) (o : Named) → In (xs ++ ys) o → In xs o ⊎ In ys o
in_either [] ys o has = inr has
in_either (x ∷ xs) ys o (inl is) = inl (inl is)
in_either (x ∷ xs) ys o (inr has) = elim (in_either xs ys o has) [ inl h ↦ inl (inr h) | inr h ↦ inr h ]

-- ---- what was noted

pub noted_next : (o : Named) (start before after : List Named) → Adds o before after → StaysNoted start before → StaysNoted start after
noted_next o start before after adds so_far p has = in_before o before after adds p (so_far p has)

pub noted_more : (start before after : List Named) → StaysNoted start before → StaysNoted before after → StaysNoted start after
noted_more start before after first second p has = second p (first p has)

-- ---- the next batch

-- the objects up to its end
up_to : (objects : List Named) (i j : ℕ) → i ≤ j → take j objects ≡ take i objects ++ between i j objects
up_to objects i j le =
    sym (take-append-drop i (take j objects)) ∙ ap (λ (l : List Named). l ++ drop i (take j objects)) (take-take i j objects le)
    ∙ ap (λ (l : List Named). take i objects ++ l) (sym (between_is objects i j))

module _ (objects : List Named) (i j : ℕ) (le : i ≤ j) (start before after : List Named) where
  pub taken_more : {root t : Elements} {url : List ℕ} {holds : Option Holdings} → IsApart root t → {u v w : View} → IsTree v → IsTree w → StaysNoted before after → TakesAll root t url holds (take i objects) start before u v → Works t v w
      → TakesAll root t url holds (between i j objects) before after v w → TakesAll root t url holds (take j objects) start after u w
  taken_more {root = root} {t = t} {url = url} {holds = holds} apart {u = u} {v = v} {w = w} tree tree' noted so_far works next = subst (λ (l : List Named). TakesAll root t url holds l start after u w) (sym (up_to objects i j le)) (record {
    taken = λ taken. next.taken (so_far.taken taken);
    covered = λ taken o has. elim (in_either (take i objects) (between i j objects) o has) [
      | inl had ↦
          let c = so_far.covered taken o had in
          record {
            digits = c.digits;
            there = elim c.there [
              | inl there ↦ inl (λ none. there (sym (works_object root t apart works o.0 o.1 tree tree') ∙ none))
              | inr kept ↦ inr (noted o kept)
            ];
          }
      | inr new ↦ next.covered (so_far.taken taken) o new
    ];
    gathers = gathered_on so_far.gathers next.gathers works.files;
  })

  pub added_more : AddsAmong (take i objects) start before → AddsAmong (between i j objects) before after → AddsAmong (take j objects) start after
  added_more so_far next o has = elim (next o has) [
    | inl had ↦ elim (so_far o had) [
      | inl was ↦ inl was
      | inr among ↦ inr (subst (λ (l : List Named). In l o) (sym (up_to objects i j le)) (in_left (take i objects) (between i j objects) o among))
    ]
    | inr among ↦ inr (subst (λ (l : List Named). In l o) (sym (up_to objects i j le)) (in_right (take i objects) (between i j objects) o among))
  ]

module _ (have : Have) (objects : List Named) (i j : ℕ) (le : i ≤ j) (so_far : first_bad have (take i objects) ≡ None) where
  pub good_more : first_bad have (between i j objects) ≡ None → first_bad have (take j objects) ≡ None
  good_more next =
      ap (first_bad have) (up_to objects i j le) ∙ bad_append have (take i objects) (between i j objects) ∙ ap (λ f. option_or f (first_bad have (between i j objects))) so_far ∙ next

  pub bad_more : (end : WalkEnd) → RefusesBy (λ w. first_bad have (between i j objects) ≡ Some (told_fault w)) end → RefusesBy (λ w. first_bad have objects ≡ Some (told_fault w)) end
  bad_more (ends.Refused w) is =
      ap (first_bad have) (split_between objects i j le)
      ∙ bad_append have (take i objects) (between i j objects ++ drop j objects)
      ∙ ap (λ f. option_or f (first_bad have (between i j objects ++ drop j objects))) so_far
      ∙ bad_append have (between i j objects) (drop j objects)
      ∙ ap (λ f. option_or f (first_bad have (drop j objects))) is
  bad_more ends.HostFault is = tt
  bad_more ends.RemoteFault is = tt
  bad_more ends.NoMemory is = tt
