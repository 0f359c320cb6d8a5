-- Worked rows, closed by computing.
use Rattle.std.proofs.Common.{◌≡◌, [], ◌∷◌, refl}
use Rattle.std.specs.Prelude.{codes}
use Rattle.ost_model.specs.Contents.{header, link_header}

-- a file whose permission bits are 0644 (octal)
file_of_0644 : header 0x1A4 ≡ 0 ∷ 0 ∷ 0 ∷ 0x12 ∷ 0 ∷ 0 ∷ 0 ∷ 0
    ∷ 0 ∷ 0 ∷ 0 ∷ 0 ∷ 0 ∷ 0 ∷ 0 ∷ 0 ∷ 0 ∷ 0 ∷ 0x81 ∷ 0xa4 ∷ 0 ∷ 0 ∷ 0 ∷ 0 ∷ 0 ∷ 0x11 ∷ []
unfolding header
file_of_0644 = refl

-- a link with the text `f0`
link_to_f0 : link_header (codes "f0") ≡ 0 ∷ 0 ∷ 0 ∷ 0x14 ∷ 0 ∷ 0 ∷ 0 ∷ 0
    ∷ 0 ∷ 0 ∷ 0 ∷ 0 ∷ 0 ∷ 0 ∷ 0 ∷ 0 ∷ 0 ∷ 0 ∷ 0xa1 ∷ 0xff ∷ 0 ∷ 0 ∷ 0 ∷ 0 ∷ 0x66 ∷ 0x30 ∷ 0 ∷ 0x13 ∷ []
unfolding link_header
link_to_f0 = refl
