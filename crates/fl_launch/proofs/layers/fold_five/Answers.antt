use Rattle.std.proofs.Common.{◌≡◌, ◌++◌, List, [], append-nil, ap, ◌∙◌}
use Rattle.fl_meta.specs.declared.permission.Mention.{Mention}
use Rattle.fl_meta.specs.declared.permission.Permission.{Permission}
use Rattle.fl_context.specs.Grants.{last_mention, value_in}
use Rattle.fl_launch.specs.Layers.{five}
use Rattle.fl_launch.proofs.Granting.{merged_alone}
use Rattle.fl_launch.proofs.layers.fold_five.Goals as goal

-- a list of layers ends in no layer
without_none : (runtime app global own words grants : List Mention) → ((p : Permission) → value_in grants p ≡ last_mention (five runtime app global own (words ++ [])) p)
    → (p : Permission) → value_in grants p ≡ last_mention (five runtime app global own words) p
without_none runtime app global own words grants h p = h p ∙ ap (λ (ws : List Mention). last_mention (five runtime app global own ws) p) (append-nil words)

pub returns-clause-last : goal.returns-clause-last
returns-clause-last c =
    without_none c.args.runtime.now c.args.app.now c.args.global.now c.args.own.now c.args.words.now c.in_ok-grants.grants c.in_ok-grants.ensures.last

pub returns-clause-granted : goal.returns-clause-granted
returns-clause-granted c =
    merged_alone (five c.args.runtime.now c.args.app.now c.args.global.now c.args.own.now c.args.words.now) c.in_ok-grants.grants c.in_ok-grants.ensures.ascending
    (without_none c.args.runtime.now c.args.app.now c.args.global.now c.args.own.now c.args.words.now c.in_ok-grants.grants c.in_ok-grants.ensures.last)
