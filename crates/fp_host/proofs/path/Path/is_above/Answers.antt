use Rattle.std.proofs.Common.{◌∙◌, ap, string_bytes, refl}
use Rattle.std.specs.Str.{bytes_eq}
use Rattle.fp_host.proofs.PathTexts.{is_found, is_other}
use Rattle.fp_host.proofs.path.Path.is_above.Goals as goal

pub returns-then-eq : goal.returns-then-eq
returns-then-eq c =
    let own = string_bytes c.self.inside.text in
    let same = c.if-eq.ensures ∙ ap (bytes_eq c.front-up.result.now) c.as_str.ensures.value in
    let found = is_found c.loop-up.up.now c.front-up.result.now own c.args.self.now c.self.view_is c.loop-up-test.ensures c.front-up.ensures.front same in
    (λ t. c.loop-up.invariant.2.1 found, λ a. refl)

pub loop-up-preserved : goal.loop-up-preserved
loop-up-preserved c =
    let own = string_bytes c.self.inside.text in
    let differ = c.if-eq.ensures ∙ ap (bytes_eq c.front-up.result.now) c.as_str.ensures.value in
    let other = is_other c.loop-up.up.now c.front-up.result.now own c.args.self.now c.self.view_is c.loop-up-test.ensures c.front-up.ensures.front differ in
    let before = c.loop-up.invariant.2 in
    (c.front-up.utf8, c.front-up.ensures.good, (λ a. other.0 (before.0 a), λ a. before.1 (other.1 a)))
