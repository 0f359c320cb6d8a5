-- Each part of a ref and the name of a remote may be an element of a path.
use Rattle.std.proofs.Common.{◌≡◌, ℕ, List, true}
use Rattle.fp_host.specs.Paths.{is_element}
use Rattle.fp_name.specs.Grammar.{is_remote_name}
use Rattle.fp_name.proofs.Files.{file_remote}
use Rattle.fp_small.proofs.Elements.{element_file}

pub element_remote : (text : List ℕ) → is_remote_name text ≡ true → is_element text ≡ true
element_remote text h = element_file text (file_remote text h)
