-- A worked image: two refs, one of which was updated, an override, and a `config`.
use Rattle.std.proofs.Common.{◌≡◌, inl, inr, ℕ, List, [], ◌∷◌, Bool, true, false, Some, None, ◌≢◌, refl, sym, ◌∙◌, ap}
use Rattle.std.specs.Prelude.{codes, if◌then◌else◌}
use Rattle.std.specs.Str.{is_utf8, chars}
use Rattle.std.specs.List.{AllByRecursion}
use lib.Utf8.{encode}
use Rattle.std.proofs.lemmas.Bool.{cases_Bool}
use Rattle.fp_base.proofs.Options.{some_none}
use Rattle.fp_base.proofs.Booleans.{if_true}
use Rattle.fp_host.specs.Paths.{Elements, path_eq}
use Rattle.fp_host.specs.Outcome.{Spot, gone, holds}
use Rattle.fp_host.proofs.Separate.{path_decides}
use Rattle.fp_keyfile.specs.KeyFile.{file_of, with_pair, with_group, keys_at}
use Rattle.fp_keyfile.specs.Lines.{line_says}
use Rattle.fp_name.specs.Grammar.{is_id, is_arch, is_branch, is_remote_name, is_url}
use Rattle.fp_name.specs.Pins.{is_pin}
use Rattle.fp_name.specs.Hex.{hex, unhex, bytes_of}
use Rattle.fp_name.specs.Kinds.{kind_word}
use Rattle.fp_name.specs.Refs.{Ref, is_ref, ref_text}
use Rattle.fp_small.specs.Config.{config_of, is_config, remote_of}
use Rattle.fp_small.specs.declared.state.OverrideRow.{OverrideRow}
use Rattle.dep_states.specs.Names.{active, override_path}
use Rattle.fp_name.specs.Grammar.{is_override}
use Rattle.fp_name.proofs.Refs.{kind_same}
use Rattle.dep_states.specs.Deploy.{deploy_of}
use Rattle.dep_states.specs.Shown.{away, there, Seen, deploy_at, override_at, config_at, by_active, ref_seen, override_seen, setup_of, at_name, ref_key, override_key, Shows}
use Rattle.dep_states.specs.Samples.{app, platform, one, two, three, two_text, three_text, app_bytes, platform_bytes, rows_at, rows, config_bytes, layer_bytes, app_row, platform_row, layer, worked_disk, worked_state}
use Rattle.dep_states.proofs.Listed.{refs_listed, overrides_listed}
use Rattle.dep_states.proofs.Away.{override_away, layer_away as if_away}

pub app_reads : deploy_of app_bytes ≡ Some (record { origin = codes "hub"; commit = two; timestamp = 1000; previous = Some (record { commit = one; timestamp = 500 }) })
unfolding deploy_of unhex bytes_of is_remote_name is_utf8 chars encode
app_reads = refl

platform_reads : deploy_of platform_bytes ≡ Some (record { origin = codes "hub"; commit = three; timestamp = 7; previous = None })
unfolding deploy_of unhex bytes_of is_remote_name is_utf8 chars encode
platform_reads = refl

-- ---- its parts

app_good : is_ref app ≡ true
unfolding is_id is_arch is_branch
app_good = refl

platform_good : is_ref platform ≡ true
unfolding is_id is_arch is_branch
platform_good = refl

app_there : deploy_at app two_text (holds 3 420 app_bytes) ≡ there app_row
unfolding deploy_at hex
app_there = rw app_reads refl

platform_there : deploy_at platform three_text (holds 4 420 platform_bytes) ≡ there platform_row
unfolding deploy_at hex
platform_there = rw platform_reads refl

app_seen : ref_seen worked_disk app ≡ there app_row
app_seen = if_true (is_ref app) (deploy_at app two_text (holds 3 420 app_bytes)) away app_good ∙ app_there

platform_seen : ref_seen worked_disk platform ≡ there platform_row
platform_seen = if_true (is_ref platform) (deploy_at platform three_text (holds 4 420 platform_bytes)) away platform_good ∙ platform_there

pub layer_there : (id : ℕ) → override_at (codes "global") (holds id 420 layer_bytes) ≡ there layer
unfolding override_at file_of line_says with_pair with_group is_utf8 chars encode
layer_there id = refl

pub config_there : (id : ℕ) → config_at (holds id 420 config_bytes) ≡ there (setup_of worked_state)
unfolding config_at config_of is_config remote_of file_of line_says with_pair with_group keys_at is_remote_name is_url is_pin is_id is_utf8 chars encode
config_there id = refl

-- ---- what isn't there

pub none_at : (p : Elements) (rs : List (Elements × Spot)) → AllByRecursion (λ row. p ≢ row.0) rs → rows_at rs p ≡ gone
none_at p [] off = refl
none_at p (row ∷ rs) off = elim (cases_Bool (path_eq p row.0)) [
  | inl t ↦ absurd (off.0 ((path_decides p row.0).0 t))
  | inr f ↦ rw f (none_at p rs off.1)
]

pub active_same : (a b : Ref) → active a ≡ active b → a ≡ b
active_same a b e =
    let branch : a.branch ≡ b.branch = cc in
    let arch : a.arch ≡ b.arch = cc in
    let id : a.id ≡ b.id = cc in
    let word : kind_word a.kind ≡ kind_word b.kind = cc in
    let kind = kind_same a.kind b.kind word in
    (λ k. record { kind = kind k; id = id k; arch = arch k; branch = branch k })

layer_away : (b : Bool) (x : Seen OverrideRow) → x ≡ away → if b then x else away ≡ away
layer_away true x e = e
layer_away false x e = refl

others : (name : Ref) → is_ref name ≡ true → at_name ref_key (app_row ∷ platform_row ∷ []) (ref_text name) ≡ None → ref_seen worked_disk name ≡ away
others name good none =
    let at_app : active name ≢ active app = λ e. some_none (sym (ap (λ n. at_name ref_key (app_row ∷ platform_row ∷ []) (ref_text n)) (active_same name app e)) ∙ none) in
    let at_platform : active name ≢ active platform = λ e. some_none (sym (ap (λ n. at_name ref_key (app_row ∷ platform_row ∷ []) (ref_text n)) (active_same name platform e)) ∙ none) in
    let off : worked_disk (active name) ≡ gone = none_at (active name) rows (λ e. cc, (λ e. cc, (λ e. cc, (λ e. cc, (at_app, (at_platform, (λ e. cc, (λ e. cc, tt)))))))) in
    if_away (is_ref name) (by_active worked_disk name (worked_disk (active name))) (ap (by_active worked_disk name) off)

other_layers : (name : List ℕ) → at_name override_key (layer ∷ []) name ≡ None → override_seen worked_disk name ≡ away
other_layers name none =
    let at_global : override_path name ≢ override_path (codes "global") = λ e. let same : name ≡ codes "global" = cc in some_none (sym (ap (at_name override_key (layer ∷ [])) same) ∙ none) in
    let off : worked_disk (override_path name) ≡ gone = none_at (override_path name) rows (λ e. cc, (λ e. cc, (λ e. cc, (at_global, (λ e. cc, (λ e. cc, (λ e. cc, (λ e. cc, tt)))))))) in
    layer_away (is_override name) (override_at name (worked_disk (override_path name))) (ap (override_at name) off ∙ override_away name)

-- the image shows the state
pub worked_shows : Shows worked_disk worked_state
worked_shows = record {
  settings = config_there 1;
  refs = refs_listed worked_disk (app_row ∷ platform_row ∷ []) (record { good = app_good; is = app_seen }, (record { good = platform_good; is = platform_seen }, tt)) others;
  refs_ascend = refl;
  overrides = overrides_listed worked_disk (layer ∷ []) (record { is = layer_there 2 }, tt) other_layers;
  overrides_ascend = refl;
}
