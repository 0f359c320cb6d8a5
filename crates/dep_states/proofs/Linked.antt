-- Files that stand in the folders of commits.
use Rattle.std.proofs.Common.{◌≡◌, ◌≢◌, ◌⊎◌, inl, inr, ℕ, List, [], ◌∷◌, ◌++◌, None, refl, sym, ◌∙◌, ap, subst, codes, arith, Contains}
use Rattle.std.proofs.lemmas.List.Elements.{Contains-push, Contains-push_cases, Contains-append_left}
use Rattle.fp_host.specs.Paths.{Elements, Slot, absent, file, IsAbove}
use Rattle.fp_host.specs.View.{View, IsTree}
use Rattle.fp_host.specs.Calls.{CanCreate, creates, appends, links, done, grow}
use Rattle.fp_host.proofs.Keep.{grow_stood}
use Rattle.fp_host.proofs.Separate.{set_same, set_other, path_cases}
use Rattle.fp_base.specs.declared.object.ObjKind.{ObjKind}
use Rattle.fp_name.specs.Refs.{Ref}
use Rattle.fp_small.specs.Clear.{IsWithin}
use Rattle.fp_small.specs.Files.{KeepsFiles}
use Rattle.fp_small.specs.Places.{repo, tmp}
use Rattle.ost_model.specs.Objects.{object_path}
use Rattle.dep_states.specs.Links.{WasStored, Links}
use Rattle.dep_states.specs.Names.{commit_dir, deploy}
use Rattle.dep_states.proofs.Lasting.{TakesFiles, an_object, takes_record, commit_no_work}

pub links_refl : {v : View} → Links v v
links_refl = record { each = λ name commit q id above is. inl is }

-- where no name changes
pub links_still : {u w : View} → ((q : Elements) → w.names q ≡ u.names q) → Links u w
links_still same = record { each = λ name commit q id above is. inl (sym (same q) ∙ is) }

-- what was put stays so
pub stored_on : {v w : View} {id : ℕ} → KeepsFiles v w → WasStored id v → WasStored id w
stored_on {id = id} keeps was = record { at = was.at; below = was.below; put = keeps.stood (was.at, file id) was.put }

pub links_on : {u v w : View} → Links u v → Links v w → KeepsFiles v w → Links u w
links_on first second keeps = record {
  each = λ name commit q id above is. elim (second.each name commit q id above is) [
    | inl was ↦ elim (first.each name commit q id above was) [
      | inl old ↦ inl old
      | inr new ↦ elim new [ inl record_ ↦ inr (inl record_) | inr stored ↦ inr (inr (stored_on keeps stored)) ]
    ]
    | inr new ↦ inr new
  ];
}

-- where files come to lasting names and to work alone
pub links_lasting : (W : Elements → Slot → Type 0) {u w : View} → ((q : Elements) → (w.names q ≡ u.names q) ⊎ W q (w.names q)) → ((q : Elements) (id : ℕ) → W q (file id) → TakesFiles q ⊎ IsWithin tmp q) → Links u w
links_lasting W names where_files = record {
  each = λ name commit q id above is. elim (names q) [
    | inl same ↦ inl (sym same ∙ is)
    | inr put ↦ elim (where_files q id (subst (W q) is put)) [
      | inl lasts ↦ inr (inl (takes_record name commit q above lasts))
      | inr work ↦ absurd (commit_no_work name commit q above work)
    ]
  ];
}

-- where no file comes to a name
pub links_no_file : (W : Elements → Slot → Type 0) {u w : View} → ((q : Elements) → (w.names q ≡ u.names q) ⊎ W q (w.names q)) → ((q : Elements) (id : ℕ) → W q (file id) → ⊥) → Links u w
links_no_file W names none = links_lasting W names (λ q id put. absurd (none q id put))

-- an object's file was put at its name
pub object_stored : (v : View) (d : List ℕ) (kind : ObjKind) (id : ℕ) → IsTree v → v.names (object_path repo d kind) ≡ file id → WasStored id v
object_stored v d kind id tree is = elim (at_name (object_path repo d kind) refl) [ inl gone ↦ absurd (cc (sym is ∙ gone)) | inr put ↦ record { at = object_path repo d kind; below = inr (inl refl); put = subst (λ (e : Slot). Contains v.stood (object_path repo d kind, e)) is put } ]
  where
    at_name : (q : Elements) → q ≡ object_path repo d kind → (v.names q ≡ absent) ⊎ Contains v.stood (q, v.names q)
    at_name [] e = absurd (cc e)
    at_name (x ∷ up) e = tree.remembered x up

-- ---- worked steps

-- an object's file is linked
pub linked_links : (v : View) (d : List ℕ) (kind : ObjKind) (q : Elements) → IsTree v → Links v (done (links (object_path repo d kind) q) v)
linked_links v d kind q tree = record {
  each = λ name commit p id above is. elim (path_cases p q) [
    | inl here ↦
        let from : v.names (object_path repo d kind) ≡ file id = sym (set_same v.names q (v.names (object_path repo d kind)) p here) ∙ is in
        let was = object_stored v d kind id tree from in
        inr (inr (record { at = was.at; below = was.below; put = Contains-append_left v.stood ((q, v.names (object_path repo d kind)) ∷ []) (was.at, file id) was.put }))
    | inr off ↦ inl (sym (set_other v.names q (v.names (object_path repo d kind)) p off) ∙ is)
  ];
}

-- a file that is written there is not
pub written_no_links : (v : View) (name : Ref) (commit bytes : List ℕ) (q : Elements) (mode id : ℕ) → CanCreate q mode v → (WasStored id v → ⊥) → IsAbove (commit_dir name commit) q → q ≢ deploy (commit_dir name commit)
    → Links v (done (appends q bytes) (done (creates q mode id) v)) → ⊥
written_no_links v name commit bytes q mode id can none above off linked =
    let made = done (creates q mode id) v in
    let at : made.names q ≡ file id = set_same v.names q (file id) q refl in
    let grown : (grow (made.names q) bytes made).names q ≡ file id = ap (λ (e : Slot). (grow e bytes made).names q) at ∙ at in
    elim (linked.each name commit q id above grown) [
      | inl was ↦ cc (sym was ∙ can.1)
      | inr new ↦ elim new [
        | inl record_ ↦ off record_
        | inr stored ↦
            let had : Contains (v.stood ++ (q, file id) ∷ []) (stored.at, file id) = subst (λ (l : List (Elements × Slot)). Contains l (stored.at, file id)) (grow_stood (made.names q) bytes made) stored.put in
            elim (Contains-push_cases v.stood (q, file id) (stored.at, file id) had) [
              | inl old ↦ none (record { at = stored.at; below = stored.below; put = old })
              | inr is ↦ off (takes_record name commit q above (subst TakesFiles (ap (λ (x : Elements × Slot). x.0) (sym is)) (an_object stored.below)))
            ]
      ]
    ]
