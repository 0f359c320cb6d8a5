-- The offers of remotes.
use Rattle.std.specs.Prelude.{ℕ, Bool, not, List, [], ◌∷◌, ◌++◌, filter, Option, Some, None, Result, Ok, Err, if◌then◌else◌}
use Rattle.std.specs.Option.{option_or}
use Rattle.std.specs.Str.{bytes_eq}
use Rattle.fp_host.specs.Remote.{Holdings}
use Rattle.fp_name.specs.Refs.{Ref}
use Rattle.fp_small.specs.declared.refusal.Refusal.{Refusal}
use Rattle.fp_small.specs.declared.state.RemoteRow.{RemoteRow}
use Rattle.ost_model.specs.Objects.{Have, supply}
use Rattle.ost_model.specs.Remotes.{remote as objects_of}
use Rattle.ost_walk.specs.declared.pull_end.PullEnd.{PullEnd}
use Rattle.ost_walk.specs.declared.pull_end.PullEnd.TheVariants as ends
use Rattle.ost_head.specs.declared.head.Head.{Head}
use Rattle.ost_head.specs.Heads.{head_of}
use Rattle.ost_refs.specs.Offers.{offered}
use Rattle.fl_plan.specs.Answers.{mapped}
use Rattle.fl_plan.specs.declared.offer.Offer.{Offer}
use Rattle.fl_plan.specs.declared.offer.Chosen.{Chosen}

-- ---- offers

-- The offer of this commit
abbrev pub offer_with : RemoteRow → Ref → List ℕ → Offer
offer_with remote name commit = record { name = name; remote = remote; commit = commit }

-- The offer of the commit that was looked up; none if the remote was refused or has no such ref
abbrev pub unless_declined : RemoteRow → Ref → Result (List ℕ) Refusal → Option Offer
unless_declined remote name (Ok commit) = Some (offer_with remote name commit)
unless_declined remote name (Err refusal) = None

-- The remote's offer of the ref, if there is one
abbrev pub offer_of : Holdings → RemoteRow → Ref → Option Offer
offer_of held remote name = unless_declined remote name (offered held remote name)

-- The first value that the function has for an element of the list
abbrev pub first_of : {A B : Type 0} → (A → Option B) → List A → Option B
first_of f [] = None
first_of f (x ∷ xs) = option_or (f x) (first_of f xs)

-- ---- lookup of a runtime

-- Tests whether the remote has this name
abbrev pub is_remote : List ℕ → RemoteRow → Bool
is_remote name row = bytes_eq row.name name

-- The remote with this name, then the others in their order
abbrev pub in_turn : List ℕ → List RemoteRow → List RemoteRow
in_turn own rows = filter (is_remote own) rows ++ filter (λ row. not (is_remote own row)) rows

-- Tests whether a remote is asked: with `others`, each remote but the one with this name, else only
-- that one
abbrev pub is_in_turn : List ℕ → Bool → RemoteRow → Bool
is_in_turn own others row = if others then not (is_remote own row) else is_remote own row

-- The remote's offer of the ref, if the remote is asked
abbrev pub offer_if : Holdings → List ℕ → Bool → Ref → RemoteRow → Option Offer
offer_if held own others name row =
    if is_in_turn own others row then offer_of held row name else None

-- The first offer of the ref by one of these remotes
abbrev pub first_offer : Holdings → List RemoteRow → Ref → Option Offer
first_offer held rows name = first_of (λ row. offer_of held row name) rows

-- ---- checked offers

-- The objects of the store, and else those of the remote
abbrev pub have_at : Holdings → Have → RemoteRow → Have
have_at held stored remote = supply stored (objects_of held (Some remote.url))

-- The offer with the metadata of its head
abbrev pub chosen_with : Offer → Head → Chosen
chosen_with offer head = record { offer = offer; metadata = head.metadata }

-- The offer of a ref that isn't deployed, with its head checked
unfoldable pub chosen : Holdings → Have → Offer → Result Chosen Refusal
chosen held stored offer = mapped (chosen_with offer)
    (head_of (have_at held stored offer.remote) offer.name offer.commit None)

-- The result of a lookup that ended with an error: no offer if it was refused, else the error
abbrev pub declined : PullEnd → Result (Option Offer) PullEnd
declined (ends.Refused refusal) = Ok None
declined ends.HostFault = Err ends.HostFault
declined ends.RemoteFault = Err ends.RemoteFault
declined ends.NoMemory = Err ends.NoMemory
