-- Each refusal is explained.
use Rattle.std.proofs.Common.{◌≡◌, true, refl}
use Rattle.std.specs.Option.{is_some}
use Rattle.fp_small.specs.declared.refusal.Refusal.{Refusal}
use Rattle.fp_small.specs.declared.refusal.Refusal.TheVariants as refusals
use Rattle.fp_base.specs.declared.what.What.TheVariants as things
use Rattle.fl_lines.specs.Lines.{refusal_text}
use Rattle.fl_lines.specs.Advice.{advice_of}

pub explained : (refusal : Refusal) → is_some (advice_of (refusal_text refusal)) ≡ true
explained (refusals.BadWords index) = refl
explained (refusals.NoSuchRemote remote) = refl
explained (refusals.RemoteExists remote) = refl
explained (refusals.RemoteInUse remote name) = refl
explained (refusals.WrongMode remote mode) = refl
explained (refusals.NoSuchRef remote name) = refl
explained (refusals.AlreadyInstalled name) = refl
explained (refusals.NotInstalled name) = refl
explained (refusals.RuntimeMissing name) = refl
explained (refusals.RuntimeInUse runtime app) = refl
explained (refusals.MissingObject digest kind) = refl
explained (refusals.CorruptObject digest kind got) = refl
explained (refusals.MalformedObject digest kind rule) = refl
explained (refusals.MalformedValue digest) = refl
explained (refusals.ModeRefused digest kind mode) = refl
explained (refusals.ReservedName commit) = refl
explained (refusals.BadMetadata name number rule) = refl
explained (refusals.RefBinding name) = refl
explained (refusals.Older name have offered) = refl
explained (refusals.PinExists pin) = refl
explained (refusals.NoSuchPin pin) = refl
explained (refusals.Limit things.Pins number) = refl
explained (refusals.Limit things.Remotes number) = refl
explained (refusals.Limit things.Refs number) = refl
explained (refusals.Limit things.Input number) = refl
explained (refusals.Limit things.Object number) = refl
explained (refusals.Limit things.MetadataObject number) = refl
explained (refusals.Limit things.Objects number) = refl
explained (refusals.Limit things.Depth number) = refl
explained (refusals.Limit things.MetadataFile number) = refl
explained (refusals.Limit things.Override number) = refl
explained (refusals.BadRecord number) = refl
explained (refusals.BadMessage side index rule) = refl
explained (refusals.Damaged path) = refl
explained (refusals.NoPrevious name) = refl
