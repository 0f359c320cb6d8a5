-- Where the folder of work stands.
use Rattle.std.proofs.Common.{ap, ◌≡◌, [], ◌∙◌, codes, inr, ◌≢◌, inl, length, arith, List, ℕ, refl}
use Rattle.fp_base.specs.declared.object.ObjKind.{ObjKind}
use Rattle.fp_base.proofs.Texts.{bytes_eq-false}
use Rattle.fp_host.specs.Paths.{Elements, IsAbove}
use Rattle.fp_host.proofs.Above.{above_rest}
use Rattle.fp_small.specs.Clear.{IsWithin}
use Rattle.fp_small.specs.Places.{tmp, repo}
use Rattle.fp_small.proofs.Within.{within_rest}
use Rattle.ost_model.specs.Objects.{object_path}
use Rattle.dep_states.specs.Zones.{outward_onto, outward}
use Rattle.dep_states.specs.Names.{config}
use Rattle.dep_states.proofs.Deployed.{outward_append, top}
use Rattle.dep_states.proofs.Rows.{head_of}
use Rattle.dep_states.proofs.Switching.{second}

pub outward_is : (t q : Elements) → IsWithin t q → (rest : Elements) × (outward q ≡ outward_onto t (outward rest))
outward_is t q within = let is = within_rest t q within in (is.0, ap outward is.1 ∙ outward_append is.0 t [])

-- the outermost elements of what is below work
pub work_top : (q : Elements) → IsWithin tmp q → top q ≡ codes "repo"
work_top q within = let is = within_rest tmp q within in ap top is.1 ∙ ap head_of (outward_append is.0 tmp [])

pub work_second : (q : Elements) → IsWithin tmp q → second (outward q) ≡ codes "tmp"
work_second q within = let is = within_rest tmp q within in ap (λ (p : Elements). second (outward p)) is.1 ∙ ap second (outward_append is.0 tmp [])

-- none is below work
pub no_second : (p : Elements) → second (outward p) ≢ codes "tmp" → IsAbove tmp p → ⊥
no_second p off up = off (work_second p (inr up))

pub no_config_above : IsAbove tmp config → ⊥
no_config_above (inl is) = omega (arith, ap length is)
no_config_above (inr none) = none

pub no_object_above : (d : List ℕ) (kind : ObjKind) → IsAbove tmp (object_path repo d kind) → ⊥
no_object_above d kind above =
    let below = above_rest tmp (object_path repo d kind) above in
    bytes_eq-false (codes "objects") (codes "tmp") refl (ap (λ (q : Elements). second (outward q)) below.1 ∙ ap second (outward_append below.0 tmp []))
