-- The explanation of a refusal, for people: what it means and what helps. It is found by the
-- beginning of the refusal's line.
use Rattle.std.specs.Prelude.{ℕ, List, [], ◌∷◌, Option, Some, None, nat_eq, codes, if◌then◌else◌}
use Rattle.std.specs.List.{starts_with}
use Rattle.fl_lines.specs.declared.advice.Saying.{Saying}

-- A beginning of lines, and the explanation of the lines that begin with it
pub record Said : Type 0 where
  pub begins : List ℕ
  pub says : List ℕ

-- The row that a value of `Saying` in the code stands for
abbrev pub said_in : Saying → Said
said_in saying = record { begins = saying.begins.now; says = saying.says.now }

-- The explanation in the first row whose beginning the line has
abbrev pub said_by : List Said → List ℕ → Option (List ℕ)
said_by [] line = None
said_by (said ∷ more) line =
    if starts_with nat_eq line said.begins then Some said.says else said_by more line

-- The explanations of all refusals
abbrev pub refusals_said : List Said
refusals_said =
    record {
      begins = codes "error: words ";
      says = codes "`fpk --help` prints every command";
    }
    ∷ record {
      begins = codes "error: no remote ";
      says = codes "there is no remote of this name; `fpk list --remotes` prints those that there are, and `fpk remote-add NAME URL` adds one";
    }
    ∷ record {
      begins = codes "error: remote exists ";
      says = codes "there is a remote of this name already; `fpk remote-modify NAME URL` gives it another URL";
    }
    ∷ record {
      begins = codes "error: remote in use ";
      says = codes "this ref was installed from the remote; uninstall the ref first, or give the remote another URL by `fpk remote-modify NAME URL`";
    }
    ∷ record {
      begins = codes "error: remote mode ";
      says = codes "the remote has to be a repository of the mode bare-user-only; `ostree init --mode=bare-user-only --repo=NEW` and `ostree pull-local --repo=NEW OLD REF` make one of a repository of another mode";
    }
    ∷ record {
      begins = codes "error: no ref ";
      says = codes "the remote does not offer this ref; `ostree refs --repo=FOLDER` prints what a repository offers";
    }
    ∷ record {
      begins = codes "error: installed ";
      says = codes "this ref is installed already; `fpk update REF` brings what its remote offers now";
    }
    ∷ record {
      begins = codes "error: not installed ";
      says = codes "this ref is not installed; `fpk list` prints those that are";
    }
    ∷ record {
      begins = codes "error: runtime missing ";
      says = codes "the application needs this runtime, and no remote offers it; `fpk remote-add NAME URL` adds a remote that does";
    }
    ∷ record {
      begins = codes "error: runtime in use ";
      says = codes "the application needs this runtime; uninstall the application first";
    }
    ∷ record {
      begins = codes "error: missing object ";
      says = codes "the remote lacks an object that the ref needs; `ostree fsck --repo=FOLDER` says more, and the ref has to be pulled into it again";
    }
    ∷ record {
      begins = codes "error: corrupt object ";
      says = codes "the bytes of this object have another digest than its name says, so the remote is damaged; `ostree fsck --repo=FOLDER` says more";
    }
    ∷ record {
      begins = codes "error: malformed object ";
      says = codes "these bytes are no such object as OSTree writes it";
    }
    ∷ record {
      begins = codes "error: mode refused ";
      says = codes "permission bits have to be within 0775, and the owner has to be allowed to read; set them by `chmod`, and commit the tree again";
    }
    ∷ record {
      begins = codes "error: reserved name ";
      says = codes "the tree has an entry `deploy` at its top, where fpk keeps its own record; commit the tree again without it";
    }
    ∷ record {
      begins = codes "error: metadata ";
      says = codes "the file `metadata` of this ref does not read; the number is that of the line, or 0 for the whole file";
    }
    ∷ record {
      begins = codes "error: ref binding ";
      says = codes "the commit was made for other refs than this one, so the remote's ref may lead to a wrong commit; `ostree show --print-metadata-key=ostree.ref-binding` prints which";
    }
    ∷ record {
      begins = codes "error: older ";
      says = codes "the remote offers an older commit than the one that is installed (both times are seconds since 1970), so nothing was changed; `fpk rollback REF` goes back to the commit before";
    }
    ∷ record {
      begins = codes "error: pin exists ";
      says = codes "this pattern is pinned already; `fpk list --pins` prints the patterns";
    }
    ∷ record {
      begins = codes "error: no pin ";
      says = codes "this pattern is not pinned; `fpk list --pins` prints those that are, and each is unpinned as it stands there";
    }
    ∷ record {
      begins = codes "error: limit pins ";
      says = codes "an installation has at most 1,024 pins; `fpk unpin PATTERN` makes room";
    }
    ∷ record {
      begins = codes "error: limit remotes ";
      says = codes "an installation has at most 256 remotes; `fpk remote-delete NAME` makes room";
    }
    ∷ record {
      begins = codes "error: limit refs ";
      says = codes "an installation has at most 4,096 refs; `fpk uninstall REF` and `fpk uninstall --unused` make room";
    }
    ∷ record {
      begins = codes "error: limit input ";
      says = codes "the input has more bytes than this command takes; divide it";
    }
    ∷ record {
      begins = codes "error: limit object ";
      says = codes "a file of a repository has at most 1 GiB";
    }
    ∷ record {
      begins = codes "error: limit metadata-object ";
      says = codes "a commit, a dirtree and a dirmeta have at most 16 MiB each; divide the folder with the most names";
    }
    ∷ record {
      begins = codes "error: limit objects ";
      says = codes "a commit has at most 200,000 objects, repeats counted; divide the tree into several refs";
    }
    ∷ record {
      begins = codes "error: limit depth ";
      says = codes "folders stand at most 64 deep in a tree";
    }
    ∷ record {
      begins = codes "error: limit metadata-file ";
      says = codes "the file `metadata` of a commit has at most 1 MiB";
    }
    ∷ record {
      begins = codes "error: limit override ";
      says = codes "the file of an override has at most 1 MiB; `fpk override --reset` begins anew";
    }
    ∷ record {
      begins = codes "error: record ";
      says = codes "this line of the input, counted from 1, is none that may stand there, and nothing was done";
    }
    ∷ record {
      begins = codes "error: message ";
      says = codes "this side's message, counted from 0, is no message of D-Bus";
    }
    ∷ record {
      begins = codes "error: damaged ";
      says = codes "this file of the installation does not read, so nothing was changed; put back the text that it had";
    }
    ∷ record {
      begins = codes "error: no previous ";
      says = codes "no commit is known that this ref was at before the one that is installed";
    }
    ∷ []

-- The explanation of a refusal's line; None if the line begins like no refusal's
abbrev pub advice_of : List ℕ → Option (List ℕ)
advice_of line = said_by refusals_said line
