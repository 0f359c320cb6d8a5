use Rattle.std.proofs.Common.{◌≡◌, Some, length, sym, ap, subst, ◌∙◌, refl, arith}
use Rattle.std.proofs.lemmas.List.{length-map}
use Rattle.fp_keyfile.specs.declared.draft.Draft.{Draft}
use Rattle.fp_keyfile.specs.Index.{Places}
use Rattle.fp_keyfile.specs.Draft.{group_of, groups_of}
use Rattle.fp_keyfile.proofs.Drafts.{IsBegun, IsBegun-from, begun_leaves, HasGroup, HasGroup-found, HasGroup-fresh}
use Rattle.fp_keyfile.proofs.draft.Draft.begin.Goals as goal
use Rattle.fp_keyfile.proofs.draft.Draft.begin.Goals.{then-at-next+in_ok-new+in_ok-push, else-at-next}

pub returns : goal.returns
returns c =
    let d = c.args.self.now in
    let s = c.if-at-next.self in
    let new = c.place_or_next.new.places in
    let name = c.args.name.now in
    let at = c.in_ok-at.at in
    let each : length (groups_of d) ≡ length d.tables.items = length-map d.tables.items group_of in
    let all : c.len-next.result ≡ length (groups_of d) = omega (arith, each) in
    let begun : IsBegun (groups_of d) new name at = IsBegun-from d.places new (groups_of d) name at c.len-next.result c.requires.groups all c.in_ok-at.ensures.place c.in_ok-at.ensures.after in
    let has : HasGroup s (groups_of d) new name =
    elim c.if-at-next.branch [
      | then-at-next+in_ok-new+in_ok-push w ↦ HasGroup-fresh d s new name at w.in_ok-new.field-0 begun c.requires (omega (arith, each, all)) w.in_ok-new.ensures.group w.in_ok-new.ensures.indexed (ap (λ (x : Draft). x.tables.items) w.self-is ∙ w.in_ok-push.ensures.items) (ap (λ (x : Draft). x.places) w.self-is)
      | else-at-next w ↦ HasGroup-found d s new name at begun c.requires (omega (arith, each, all)) (ap (λ (x : Draft). x.tables.items) w.self-is) (ap (λ (x : Draft). x.places) w.self-is)
    ] in
    let left = begun_leaves (record { tables = s.tables; places = s.places; current = Some at }) (groups_of d) name at (subst (λ (p : Places). IsBegun (groups_of d) p name at) (sym has.places) begun) has.groups has.tables refl in
    record { reading = left.0; indexed = left.1 }
