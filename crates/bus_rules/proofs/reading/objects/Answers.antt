use Rattle.std.proofs.Common.{rules, ◌≡◌, ◌++◌, ◌∙◌, List, ℕ, ap, sym, length, false, eqb}
use Rattle.std.specs.Prelude.{codes}
use Rattle.bus_frame.specs.Names.{is_path}
use Rattle.bus_rules.proofs.Spelling.{neither, no_path}
use Rattle.bus_rules.proofs.reading.objects.Goals as goal

pub returns-then-not-is_object_path-2 : goal.returns-then-not-is_object_path-2
returns-then-not-is_object_path-2 c =
    let path = c.in-Some.path.now in
    let parts : c.args.text.now ≡ path ++ codes "/*" = c.in-Some.ensures.cases.1.1 ∙ ap (λ (l : List ℕ). l ++ codes "/*") (sym c.in-Some.ensures.cases.2) in
    let some : eqb (length path) 0 ≡ false = search rules in
    let bad : is_path path ≡ false = search rules in
    no_path c.args.text.now path parts (neither (eqb (length path) 0) (is_path path) some bad)
