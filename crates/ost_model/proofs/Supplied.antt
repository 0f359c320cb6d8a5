-- The sample commit, offered by a remote.
use Rattle.std.proofs.Common.{◌≡◌, inl, inr, ℕ, List, [], ◌∷◌, Option, Some, None, if◌then◌else◌, refl, ◌∙◌, ap, subst}
use Rattle.std.specs.Option.{option_or}
use Rattle.fp_host.specs.Paths.{Elements, path_eq}
use Rattle.fp_host.specs.Moments.{Moments}
use Rattle.fp_host.specs.Outcome.{shows}
use Rattle.fp_host.specs.Remote.{Held, nothing, contents, Holdings}
use Rattle.fp_name.specs.Hex.{hex}
use Rattle.fp_base.specs.declared.object.ObjKind.{ObjKind}
use Rattle.fp_base.specs.declared.object.ObjKind.TheVariants as kinds
use Rattle.ost_model.specs.declared.object.Object.{Object}
use Rattle.ost_model.specs.Objects.{Have, object_path, store, supply}
use Rattle.ost_model.specs.Order.{Place, In, first_fault}
use Rattle.ost_model.specs.Remotes.{remote, remote_at}
use Rattle.ost_model.proofs.Places.{first_same}
use Rattle.ost_model.proofs.Sample.{commit_bytes, commit, tree_bytes, tree, meta_bytes, meta, empty_tree, empty_file, have, place, the_order, no_fault}

-- the objects of the sample at their names
abbrev at_names : Elements → Held
at_names p =
    if path_eq p (object_path [] commit kinds.Commit) then contents 420 commit_bytes
    else (if path_eq p (object_path [] tree kinds.DirTree) then contents 420 tree_bytes
    else (if path_eq p (object_path [] empty_tree kinds.DirTree) then contents 420 (0 ∷ [])
    else (if path_eq p (object_path [] meta kinds.DirMeta) then contents 420 meta_bytes
    else (if path_eq p (object_path [] empty_file kinds.File) then contents 420 [] else nothing))))

pub offered : Holdings
offered url p = at_names p

-- each object of the order is offered
commit_offered : (url : List ℕ) → remote_at offered url commit kinds.Commit ≡ have commit kinds.Commit
unfolding offered hex
commit_offered url = refl

tree_offered : (url : List ℕ) → remote_at offered url tree kinds.DirTree ≡ have tree kinds.DirTree
unfolding offered hex
tree_offered url = refl

empty_tree_offered : (url : List ℕ) → remote_at offered url empty_tree kinds.DirTree ≡ have empty_tree kinds.DirTree
unfolding offered hex
empty_tree_offered url = refl

meta_offered : (url : List ℕ) → remote_at offered url meta kinds.DirMeta ≡ have meta kinds.DirMeta
unfolding offered hex
meta_offered url = refl

file_offered : (url : List ℕ) → remote_at offered url empty_file kinds.File ≡ have empty_file kinds.File
unfolding offered hex
file_offered url = refl

module _ (m : Moments) (url : List ℕ) (none : (d : List ℕ) (kind : ObjKind) → store [] (shows m.now) d kind ≡ None) where
  supplied : Have
  supplied = supply (store [] (shows m.now)) (remote offered (Some url))

  -- what the store lacks is the remote's
  from_remote : (d : List ℕ) (kind : ObjKind) → supply (store [] (shows m.now)) (remote offered (Some url)) d kind ≡ remote_at offered url d kind
  from_remote d kind = ap (λ (o : Option Object). option_or o (remote_at offered url d kind)) (none d kind)

  agrees : (p : Place) → In (place commit kinds.Commit 0 ∷ place tree kinds.DirTree 0 ∷ place meta kinds.DirMeta 0 ∷ place empty_file kinds.File 0 ∷ place empty_tree kinds.DirTree 1 ∷ place meta kinds.DirMeta 1 ∷ []) p
      → supply (store [] (shows m.now)) (remote offered (Some url)) p.digest p.kind ≡ have p.digest p.kind
  agrees p within = elim within [
    | inl is ↦ at p is (commit_offered url)
    | inr a ↦ elim a [
      | inl is ↦ at p is (tree_offered url)
      | inr b ↦ elim b [
        | inl is ↦ at p is (meta_offered url)
        | inr c ↦ elim c [
          | inl is ↦ at p is (file_offered url)
          | inr d ↦ elim d [
            | inl is ↦ at p is (empty_tree_offered url)
            | inr e ↦ elim e [ inl is ↦ at p is (meta_offered url) | inr no_more ↦ absurd no_more ]
          ]
        ]
      ]
    ]
  ]
    where
      at : {q : Place} (p : Place) → q ≡ p → remote_at offered url q.digest q.kind ≡ have q.digest q.kind → supply (store [] (shows m.now)) (remote offered (Some url)) p.digest p.kind ≡ have p.digest p.kind
      at {q = q} p is there = subst (λ (r : Place). supply (store [] (shows m.now)) (remote offered (Some url)) r.digest r.kind ≡ have r.digest r.kind) is (from_remote q.digest q.kind ∙ there)

  pub no_fault_supplied : first_fault (supply (store [] (shows m.now)) (remote offered (Some url))) commit ≡ None
  no_fault_supplied = first_same have (supply (store [] (shows m.now)) (remote offered (Some url))) commit (λ p within. agrees p (subst (λ ps. In ps p) the_order within)) ∙ no_fault
