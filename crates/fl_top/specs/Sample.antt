-- A sample state with two applications and one runtime.
use Rattle.std.specs.Prelude.{ℕ, List, [], ◌∷◌, replicate, None, codes}
use Rattle.fp_name.specs.Refs.{ref_with}
use Rattle.fp_name.specs.declared.kind.RefKind.{RefKind}
use Rattle.fp_name.specs.declared.kind.RefKind.TheVariants.{App, Runtime}
use Rattle.fp_small.specs.declared.state.Layout.TheVariants.{Two}
use Rattle.fp_small.specs.declared.state.RefRow.{RefRow}
use Rattle.fp_small.specs.declared.state.State.{State}

-- The row of a deployed ref of this kind and ID
abbrev row : RefKind → List ℕ → RefRow
row kind id = record {
  name = ref_with kind id (codes "x86_64") (codes "1");
  origin = codes "gen";
  commit = replicate 32 17;
  timestamp = 2;
  previous = None;
}

-- The state with the refs of two applications and one runtime, and nothing else
abbrev pub three_refs : State
three_refs = record {
  layout = Two;
  refs = row App (codes "org.gen.App0") ∷ row App (codes "org.gen.App2")
      ∷ row Runtime (codes "org.gen.Run0") ∷ [];
  pins = [];
  remotes = [];
  overrides = [];
}
