use Rattle.std.proofs.Common.{◌∙◌, inl, inr, refl, sym, ap, subst, arith, List}
use Rattle.std.proofs.lemmas.Bool.{cases_Bool}
use Rattle.fp_memhost.specs.declared.event.Noted.{Noted}
use Rattle.fp_memhost.specs.Images.{opened}
use Rattle.fp_memhost.specs.Replay.{view_now, IsNumbered, AreTrees}
use Rattle.fp_memhost.proofs.Logging.{numbered_skip, agrees_more, numbered_kept, trees_kept}
use Rattle.fp_memhost.proofs.history.History.note.Goals as goal

pub invariant_of-self : goal.invariant_of-self
invariant_of-self c =
    let h = c.args.self.now in
    let start = opened h.start in
    let log = h.log.items in
    let e : Noted = record { call = h.calls; is_done = c.args.is_done; event = c.args.event } in
    let n = c.saturating_add-self.result in
    let next = c.saturating_add-self.ensures in
    elim (cases_Bool c.keep.result) [
      | inl t ↦
          let grew = c.keep.ensures.yes_log t in
          let steps = c.keep.ensures.yes_scene t in
          record {
            agrees = agrees_more start h.calls n log _ e _ _ h.agrees grew steps;
            numbered = numbered_kept start h.calls n log _ e _ _ h.agrees grew steps next refl (omega arith) h.numbered;
            trees = trees_kept start h.calls n log _ e _ _ h.agrees grew steps refl (omega arith) c.requires h.numbered h.trees;
          }
      | inr f ↦
          let same = c.keep.ensures.no_log f in
          record {
            agrees = c.keep.ensures.no_scene f ∙ h.agrees ∙ sym (ap (λ (l : List Noted). view_now start l) same);
            numbered = subst (λ (l : List Noted). IsNumbered c.saturating_add-self.result l) (sym same) (numbered_skip h.calls _ log next h.numbered);
            trees = subst (λ (l : List Noted). ∥ AreTrees start l ∥₁) (sym same) h.trees;
          }
    ]
