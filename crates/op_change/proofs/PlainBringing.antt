-- The root, `repo` and `repo/tmp` may be made.
use Rattle.std.proofs.Common.{◌≡◌, ◌⊎◌, inl, inr, [], ◌++◌, length, sym, ◌∙◌, ap, subst, arith}
use Rattle.std.proofs.lemmas.List.{length-append}
use Rattle.fp_host.specs.Paths.{Elements}
use Rattle.fp_host.specs.Outcome.{Spot, folder, Disk}
use Rattle.fp_small.specs.Places.{repo, tmp}
use Rattle.dep_states.specs.Names.{commit_dir}
use Rattle.dep_states.specs.Sound.{Fixed, is_config, is_old, is_remotes, is_pins, is_active, is_deploy, is_layer, is_inside, is_object, Permits}
use Rattle.dep_states.specs.Zones.{Allowed}
use Rattle.op_change.proofs.Sparing.{folder_spared, folder_permitted}

root_spared : (i : Disk) (p : Elements) → p ≡ [] → Fixed i p → ⊥
root_spared i p at (is_config e) = cc (sym at ∙ e)
root_spared i p at (is_old none (is_remotes e)) = cc (sym at ∙ e)
root_spared i p at (is_old none (is_pins e)) = cc (sym at ∙ e)
root_spared i p at (is_active name good e) = cc (sym at ∙ e)
root_spared i p at (is_deploy name text good link e) = cc (sym at ∙ e)
root_spared i p at (is_layer name good e) = cc (sym at ∙ e)
root_spared i p at (is_inside name commit rest k off e) =
    let long : 0 ≡ length (rest ++ commit_dir name commit) = ap length (sym at ∙ e) in
    let sum = length-append rest (commit_dir name commit) in
    absurd (omega (arith, long, sum))
root_spared i p at (is_object name commit place k h e) = cc (sym at ∙ e)

root_permitted : (i : Disk) (p : Elements) (spot : Spot) → p ≡ [] → spot ≡ folder → Permits i p spot
root_permitted i p spot at is = record {
  allowed = subst (λ (q : Elements). Allowed q spot) (sym at) (subst (Allowed []) (sym is) (record { fits = tt; short = inr (omega arith) }));
  deploy = λ n c k e. absurd (cc (sym at ∙ e));
}

-- one of the three
abbrev pub IsPlain : Elements → Type 0
IsPlain q = (q ≡ []) ⊎ ((q ≡ repo) ⊎ (q ≡ tmp))

pub plain_spared : (i : Disk) (p : Elements) → IsPlain p → Fixed i p → ⊥
plain_spared i p (inl at) f = root_spared i p at f
plain_spared i p (inr at) f = folder_spared i p at f

pub plain_permitted : (i : Disk) (p : Elements) (spot : Spot) → IsPlain p → spot ≡ folder → Permits i p spot
plain_permitted i p spot (inl at) is = root_permitted i p spot at is
plain_permitted i p spot (inr at) is = folder_permitted i p spot at is
