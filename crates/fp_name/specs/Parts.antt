-- The parts that the code splits a text into, as a ref.
use Rattle.fp_name.specs.declared.parts.Parts.{Parts}
use Rattle.fp_name.specs.Refs.{Ref, ref_with}

-- The ref with these parts
abbrev pub ref_in : Parts → Ref
ref_in p = ref_with p.kind p.id.now p.arch.now p.branch.now
