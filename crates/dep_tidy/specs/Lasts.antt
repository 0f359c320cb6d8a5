-- The files that tidying creates.
use Rattle.fp_host.specs.View.{View}
use Rattle.fp_small.specs.Files.{KeepsFiles}
use Rattle.fp_small.specs.Places.{repo}
use Rattle.ost_store.specs.Created.{Creates, NoObject}
use Rattle.dep_states.specs.Lasting.{IsLasting, SharesAs}

-- Each file keeps its mode and its bytes, each new file that has bytes was put at a path where it
-- lasts, and no object was made
pub record Lasts (u w : View) : Type 0 where
  pub files : KeepsFiles u w
  pub shares : SharesAs IsLasting u w
  pub creates : Creates repo NoObject u w
