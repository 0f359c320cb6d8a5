use Rattle.std.proofs.Common.{◌≡◌, ◌∙◌, List, ℕ, Contains, refl, sym, ap, subst, true}
use Rattle.std.specs.List.{list_all}
use Rattle.fp_host.specs.Paths.{is_element}
use Rattle.fp_host.specs.Reads.{is_ascending}
use Rattle.fp_memhost.specs.declared.names.Name.{Name}
use Rattle.fp_memhost.specs.Folders.{children_of}
use Rattle.fp_memhost.proofs.Judging.{looked_up}
use Rattle.fp_memhost.proofs.Children.{children_ascend, listed_stands, stands_listed}
use Rattle.fp_memhost.proofs.reads.list_of.Goals as goal
use Rattle.fp_memhost.proofs.reads.list_of.Goals.{After-from_vec}

listed : (c : After-from_vec) → c.from_vec.result ≡ children_of c.args.scene.now.names.items c.args.path.now
listed c = c.from_vec.ensures ∙ c.in-Ok.ensures.names ∙ ap (λ (l : List Name). children_of l c.args.path.now) c.deref-2.ensures.value

pub returns-in-Ok-clause-tells : goal.returns-in-Ok-clause-tells
returns-in-Ok-clause-tells c =
    let names = c.args.scene.now.names.items in
    let p = c.args.path.now in (
      sym (looked_up names c.deref.result.now p c.text.result.now _ c.entry.ensures c.deref.ensures.value c.text.ensures.back) ∙ c.if-not-is_dir.ensures.0 refl,
      λ x. (
        λ has. listed_stands p x names c.args.scene.now.ascending.each (subst (λ (l : List (List ℕ)). Contains l x) (listed c) has),
        λ there. subst (λ (l : List (List ℕ)). Contains l x) (sym (listed c)) (stands_listed p x names there),
      ),
    )

pub returns-in-Ok-clause-names : goal.returns-in-Ok-clause-names
returns-in-Ok-clause-names c = record {
  each = subst (λ (l : List (List ℕ)). list_all is_element l ≡ true) (sym c.from_vec.ensures) c.in-Ok.ensures.good;
  ascending = ap is_ascending (listed c) ∙ children_ascend c.args.path.now c.args.scene.now.names.items c.args.scene.now.ascending.each;
}
