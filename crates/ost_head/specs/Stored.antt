-- Objects of the store.
use Rattle.std.specs.Prelude.{◌≡◌, ℕ, List, length, Option, Some}
use Rattle.ost_model.specs.declared.object.Object.{Object}
use Rattle.ost_model.specs.declared.object.Object.TheVariants as objects

-- The object is a file with these permission bits and of this size
pub record IsFileOf (mode size : ℕ) (there : Option Object) : Type 0 where
  pub bytes : List ℕ
  pub is : there ≡ Some (objects.File mode bytes)
  pub long : size ≡ length bytes
