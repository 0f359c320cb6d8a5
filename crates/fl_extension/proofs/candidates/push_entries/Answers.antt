use Rattle.std.proofs.Common.{◌≡◌, ℕ, List, ◌∷◌, ◌++◌, sym, ap, ◌∙◌, append_assoc}
use Rattle.std.specs.List.{flat_map}
use Rattle.std.specs.Option.{option_copied}
use Rattle.fl_meta.specs.Separators.{other_entries}
use Rattle.fp_name.specs.Refs.{Ref}
use Rattle.fl_extension.specs.Points.{candidate_of, each_new}
use Rattle.fl_extension.specs.Seen.{has_seen, new_candidates}
use Rattle.fl_extension.proofs.Seen.{new_first}
use Rattle.fl_extension.proofs.candidates.push_entries.Goals as goal

pub loop-left-preserved : goal.loop-left-preserved
loop-left-preserved c =
    let name = c.args.name.now in
    let arch = c.args.arch.now in
    let before = c.loop-left.seen in
    let entry = c.first_entry.result.0.now in
    let others = other_entries (option_copied c.first_entry.result.1) in
    let rest = flat_map (candidate_of name arch) (each_new (has_seen c.push_new.new.seen) others) in
    let first = new_first name arch before c.push_new.new.seen entry others c.in_ok-push_new.ensures.seen in
    let left : other_entries (option_copied c.loop-left.left) ≡ entry ∷ others = ap (λ o. other_entries (option_copied o)) c.in-Some.is ∙ c.first_entry.ensures.entries in
    ap (λ (refs : List Ref). refs ++ rest) c.in_ok-push_new.ensures.refs
    ∙ append_assoc c.loop-left.out.items (new_candidates name arch before entry) rest
    ∙ ap (λ (refs : List Ref). c.loop-left.out.items ++ refs) (sym first)
    ∙ ap (λ (texts : List (List ℕ)). c.loop-left.out.items ++ flat_map (candidate_of name arch) (each_new (has_seen before) texts)) (sym left)
    ∙ c.loop-left.invariant
