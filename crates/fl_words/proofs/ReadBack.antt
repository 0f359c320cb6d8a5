-- Words that are a command are the words of that command.
use Rattle.std.proofs.Common.{◌≡◌, ℕ, Bool, true, false, cond, ◌&&◌, ◌||◌, List, [], ◌∷◌, ◌++◌, drop, Option, Some, None, refl, ap, sym, ◌∙◌, subst, arith}
use Rattle.std.specs.Prelude.{codes}
use Rattle.std.specs.List.{find, list_all}
use Rattle.std.specs.Option.{option_map, option_map_or, is_some}
use Rattle.std.proofs.lemmas.List.{append-nil}
use Rattle.std.specs.Str.{bytes_eq}
use Rattle.fp_name.specs.Grammar.{is_remote_name, is_id}
use Rattle.fl_words.specs.declared.command.Command.{Command}
use Rattle.fl_words.specs.declared.command.Command.TheVariants as commands
use Rattle.fl_words.specs.declared.command.Command.TheVariants.{Change as Changing, List as Listed, Filter as Filtering}
use Rattle.fl_words.specs.declared.command.Change.{Change}
use Rattle.fl_words.specs.declared.command.Listing.{Listing}
use Rattle.fl_words.specs.declared.command.PolicySource.{PolicySource}
use Rattle.fl_words.specs.declared.command.PolicySource.TheVariants as sources
use Rattle.fl_words.specs.declared.command.Change.TheVariants as changes
use Rattle.fl_words.specs.declared.command.Listing.TheVariants as listings
use Rattle.std.proofs.lemmas.Bool.{and_parts, false≢true}
use Rattle.fp_base.proofs.Texts.{bytes_eq-true as is_word}
use Rattle.fl_words.specs.declared.forms.Form.{Form}
use Rattle.fl_words.specs.declared.forms.Form.TheVariants.{Pin, Unpin, RemoteAdd, RemoteModify, RemoteDelete, Install, UpdateAll, UpdateOne, Uninstall, UninstallUnused, Rollback, Override, OverrideApp, OverrideReset, OverrideResetApp, ListRefs, ListRemotes, ListPins, ListExports, Info, Launch, OverrideShow, OverrideShowApp, Filter, FilterFrom, FilterSystemFrom, Batch, Fsck, Export, Exercise, ShowCommit, ShowDirTree, ShowDirMeta, ShowValue}
use Rattle.fl_words.specs.Forms.{literal, pattern, remote, url, ref_name, app, app_id, type_string, permission, permissions, launch_options, filter_rules, from_app, app_count, fits, forms, slots_of, form_command, reads, command_of}
use Rattle.fp_name.specs.Pins.{is_app}
use Rattle.fl_options.specs.Options.{is_option, is_launch_option}
use Rattle.fl_options.specs.Rules.{is_rule}
use Rattle.fl_options.proofs.Lines.{uncut_no_option}
use Rattle.fl_words.specs.Words.{words_of, is_command, is_change, override_word, are_options}
use Rattle.fp_name.specs.Grammar.{is_override}
use Rattle.fp_name.specs.Refs.{Ref, is_ref, ref_text, ref_of, ref_at}
use Rattle.fp_name.proofs.Refs.{ref_of-ref_text}
use Rattle.fl_words.proofs.Names.{other_than_global, id_names}
use Rattle.fl_words.specs.Counts.{is_app_count}
use Rattle.fl_words.proofs.Counts.{count_back, is_number, same_text as same_number, decimal_fits}
use Rattle.fl_words.proofs.Filters.{no_from_rule, no_system_rule, from_same, from_good, from_is_app}
use Rattle.fl_words.proofs.RefTexts.{same_text, is_good, ref_back, app_is_ref, app_at, unused_is_none}
use Rattle.fl_words.proofs.Reaching.{Fit, next, one, two, three, all_taken, takes_all}
use Rattle.fl_words.proofs.Options.{WithId, with_id, fits_id, no_more_options, app_made}

-- the words of a form are those of its command
abbrev Speaks : Form → List (List ℕ) → Type 0
Speaks form words = (words ≡ words_of (form_command form words)) × (is_command (form_command form words) ≡ true)

after_word : (w a b : List ℕ) → bytes_eq a w ≡ true → a ∷ b ∷ [] ≡ w ∷ b ∷ []
after_word w a b h = ap (λ (x : List ℕ). x ∷ b ∷ []) (is_word a w h)

both_words : (v w a b : List ℕ) → bytes_eq a v ≡ true → bytes_eq b w ≡ true → a ∷ b ∷ [] ≡ v ∷ w ∷ []
both_words v w a b h g = after_word v a b h ∙ ap (λ (x : List ℕ). v ∷ x ∷ []) (is_word b w g)

-- a word and a ref
word_and_ref : (w a r : List ℕ) → bytes_eq a w ≡ true → is_some (ref_of r) ≡ true → a ∷ r ∷ [] ≡ w ∷ ref_text (ref_at r) ∷ []
word_and_ref w a r h g = after_word w a r h ∙ ap (λ (x : List ℕ). w ∷ x ∷ []) (same_text r g)

-- a command on the override of an application
id_words : (w a b i : List ℕ) → bytes_eq a (codes "override") ≡ true → bytes_eq b w ≡ true → is_id i ≡ true → a ∷ b ∷ i ∷ [] ≡ codes "override" ∷ w ∷ (override_word i ++ [])
id_words w a b i h g k = rw (other_than_global i k) (ap (λ (x : List ℕ). x ∷ b ∷ i ∷ []) (is_word a (codes "override") h) ∙ ap (λ (x : List ℕ). codes "override" ∷ x ∷ i ∷ []) (is_word b w g))

both_true : {a b : Bool} → a ≡ true → b ≡ true → (a && b) ≡ true
both_true h g = rw (h, g) refl

-- the last filling is such, or the last two are
kept : {a : Bool} → a ≡ true → (a && true) ≡ true
kept h = rw h refl

both_kept : {a b : Bool} → a ≡ true → b ≡ true → (a && (b && true)) ≡ true
both_kept h g = rw (h, g) refl

more_words : (w : List ℕ) (ws : List (List ℕ)) → w ∷ ws ≡ w ∷ (ws ++ [])
more_words w ws = ap (λ (l : List (List ℕ)). w ∷ l) (sym (append-nil ws))

-- the words of a change of an override by options, of all applications and of one
all_words : (a o : List ℕ) (ws : List (List ℕ)) → bytes_eq a (codes "override") ≡ true → a ∷ o ∷ ws ≡ codes "override" ∷ o ∷ (ws ++ [])
all_words a o ws h = ap (λ (x : List ℕ). x ∷ o ∷ ws) (is_word a (codes "override") h) ∙ ap (λ (l : List (List ℕ)). codes "override" ∷ o ∷ l) (sym (append-nil ws))

app_words : (a o : List ℕ) (ws : List (List ℕ)) → bytes_eq a (codes "override") ≡ true → is_option o ≡ true → WithId ws → Speaks OverrideApp (a ∷ o ∷ ws)
app_words a o ws h is w =
    let words : List (List ℕ) = a ∷ o ∷ (w.options ++ w.id ∷ []) in
    let same : words ≡ codes "override" ∷ o ∷ (w.options ++ (override_word w.id ++ [])) = rw (other_than_global w.id w.named) (ap (λ (x : List ℕ). x ∷ o ∷ (w.options ++ w.id ∷ [])) (is_word a (codes "override") h)) in
    let good = both_kept (both_true is w.all) (id_names w.id w.named) in
    subst (λ (l : List (List ℕ)). Speaks OverrideApp (a ∷ o ∷ l)) (sym w.is) (subst (λ (x : Command). (words ≡ words_of x) × (is_command x ≡ true)) (sym (app_made a o w.options w.id)) (same, good))

-- and of a launch
launch_words : (a r : List ℕ) (ws : List (List ℕ)) → bytes_eq a (codes "launch") ≡ true → option_map_or is_app (ref_of r) false ≡ true → list_all is_launch_option ws ≡ true → Speaks Launch (a ∷ r ∷ ws)
launch_words a r ws h is all =
    let good = app_is_ref r is in (
      ap (λ (x : List ℕ). x ∷ r ∷ ws) (is_word a (codes "launch") h) ∙ ap (λ (x : List ℕ). codes "launch" ∷ x ∷ ws) (same_text r good) ∙ ap (λ (l : List (List ℕ)). codes "launch" ∷ l) (more_words (ref_text (ref_at r)) ws),
      both_kept (both_true (is_good r good) (app_at r is)) all,
    )

from_kept : (r : List ℕ) → fits from_app r ≡ true → (is_ref (ref_at (drop 7 r)) && is_app (ref_at (drop 7 r))) ≡ true
from_kept r h = both_true (from_good r h) (from_is_app r h)

speaks : (form : Form) (words : List (List ℕ)) → Fit (slots_of form) words → Speaks form words
speaks Pin = two (literal (codes "pin")) pattern refl refl (Speaks Pin) (λ a p h g. (after_word (codes "pin") a p h, kept g))
speaks Unpin = two (literal (codes "unpin")) pattern refl refl (Speaks Unpin) (λ a p h g. (after_word (codes "unpin") a p h, kept g))
speaks RemoteAdd = three (literal (codes "remote-add")) remote url refl refl refl (Speaks RemoteAdd) (λ a n u h g k. (ap (λ (x : List ℕ). x ∷ n ∷ u ∷ []) (is_word a (codes "remote-add") h), both_kept g k))
speaks RemoteModify = three (literal (codes "remote-modify")) remote url refl refl refl (Speaks RemoteModify) (λ a n u h g k. (ap (λ (x : List ℕ). x ∷ n ∷ u ∷ []) (is_word a (codes "remote-modify") h), both_kept g k))
speaks RemoteDelete = two (literal (codes "remote-delete")) remote refl refl (Speaks RemoteDelete) (λ a n h g. (after_word (codes "remote-delete") a n h, kept g))
speaks Install = three (literal (codes "install")) remote ref_name refl refl refl (Speaks Install) (λ a n r h g k. (ap (λ (x : List ℕ). x ∷ n ∷ r ∷ []) (is_word a (codes "install") h) ∙ ap (λ (x : List ℕ). codes "install" ∷ n ∷ x ∷ []) (same_text r k), both_kept g (is_good r k)))
speaks UpdateAll = one (literal (codes "update")) refl (Speaks UpdateAll) (λ a h. (ap (λ (x : List ℕ). x ∷ []) (is_word a (codes "update") h), refl))
speaks UpdateOne = two (literal (codes "update")) ref_name refl refl (Speaks UpdateOne) (λ a r h g. (word_and_ref (codes "update") a r h g, kept (is_good r g)))
speaks Uninstall = two (literal (codes "uninstall")) ref_name refl refl (Speaks Uninstall) (λ a r h g. (word_and_ref (codes "uninstall") a r h g, kept (is_good r g)))
speaks UninstallUnused = two (literal (codes "uninstall")) (literal (codes "--unused")) refl refl (Speaks UninstallUnused) (λ a b h g. (both_words (codes "uninstall") (codes "--unused") a b h g, refl))
speaks Rollback = two (literal (codes "rollback")) ref_name refl refl (Speaks Rollback) (λ a r h g. (word_and_ref (codes "rollback") a r h g, kept (is_good r g)))
speaks Override = next (literal (codes "override")) (permission ∷ permissions ∷ []) refl (Speaks Override) (λ a h. next permission (permissions ∷ []) refl (λ (ws : List (List ℕ)). Speaks Override (a ∷ ws)) (λ o is ws fit. (all_words a o ws h, kept (both_true is (all_taken permissions ws refl fit)))))
speaks OverrideApp = next (literal (codes "override")) (permission ∷ permissions ∷ app_id ∷ []) refl (Speaks OverrideApp) (λ a h. next permission (permissions ∷ app_id ∷ []) refl (λ (ws : List (List ℕ)). Speaks OverrideApp (a ∷ ws)) (λ o is ws fit. app_words a o ws h is (with_id ws fit)))
speaks OverrideReset = two (literal (codes "override")) (literal (codes "--reset")) refl refl (Speaks OverrideReset) (λ a b h g. (both_words (codes "override") (codes "--reset") a b h g, refl))
speaks OverrideResetApp = three (literal (codes "override")) (literal (codes "--reset")) app_id refl refl refl (Speaks OverrideResetApp) (λ a b i h g k. (id_words (codes "--reset") a b i h g k, kept (id_names i k)))
speaks ListRefs = one (literal (codes "list")) refl (Speaks ListRefs) (λ a h. (ap (λ (x : List ℕ). x ∷ []) (is_word a (codes "list") h), refl))
speaks Launch = next (literal (codes "launch")) (app ∷ launch_options ∷ []) refl (Speaks Launch) (λ a h. next app (launch_options ∷ []) refl (λ (ws : List (List ℕ)). Speaks Launch (a ∷ ws)) (λ r is ws fit. launch_words a r ws h is (all_taken launch_options ws refl fit)))
speaks Info = two (literal (codes "info")) ref_name refl refl (Speaks Info) (λ a r h g. (word_and_ref (codes "info") a r h g, kept (is_good r g)))
speaks OverrideShow = two (literal (codes "override")) (literal (codes "--show")) refl refl (Speaks OverrideShow) (λ a b h g. (both_words (codes "override") (codes "--show") a b h g, refl))
speaks OverrideShowApp = three (literal (codes "override")) (literal (codes "--show")) app_id refl refl refl (Speaks OverrideShowApp) (λ a b i h g k. (id_words (codes "--show") a b i h g k, kept (id_names i k)))
speaks ListRemotes = two (literal (codes "list")) (literal (codes "--remotes")) refl refl (Speaks ListRemotes) (λ a b h g. (both_words (codes "list") (codes "--remotes") a b h g, refl))
speaks ListPins = two (literal (codes "list")) (literal (codes "--pins")) refl refl (Speaks ListPins) (λ a b h g. (both_words (codes "list") (codes "--pins") a b h g, refl))
speaks ListExports = two (literal (codes "list")) (literal (codes "--exports")) refl refl (Speaks ListExports) (λ a b h g. (both_words (codes "list") (codes "--exports") a b h g, refl))
speaks Filter = next (literal (codes "filter")) (filter_rules ∷ []) refl (Speaks Filter) (λ a h ws fit. (ap (λ (x : List ℕ). x ∷ ws) (is_word a (codes "filter") h) ∙ more_words (codes "filter") ws, kept (all_taken filter_rules ws refl fit)))
speaks FilterFrom = two (literal (codes "filter")) from_app refl refl (Speaks FilterFrom) (λ a r h g. (after_word (codes "filter") a r h ∙ ap (λ (x : List ℕ). codes "filter" ∷ x ∷ []) (from_same r g), kept (from_kept r g)))
speaks FilterSystemFrom = three (literal (codes "filter")) (literal (codes "--system")) from_app refl refl refl (Speaks FilterSystemFrom) (λ a b r h g k. (ap (λ (x : List ℕ). x ∷ b ∷ r ∷ []) (is_word a (codes "filter") h) ∙ ap (λ (x : List ℕ). codes "filter" ∷ x ∷ r ∷ []) (is_word b (codes "--system") g) ∙ ap (λ (x : List ℕ). codes "filter" ∷ codes "--system" ∷ x ∷ []) (from_same r k), kept (from_kept r k)))
speaks Batch = one (literal (codes "batch")) refl (Speaks Batch) (λ a h. (ap (λ (x : List ℕ). x ∷ []) (is_word a (codes "batch") h), refl))
speaks Fsck = one (literal (codes "fsck")) refl (Speaks Fsck) (λ a h. (ap (λ (x : List ℕ). x ∷ []) (is_word a (codes "fsck") h), refl))
speaks Export = three (literal (codes "export")) remote ref_name refl refl refl (Speaks Export) (λ a n r h g k. (ap (λ (x : List ℕ). x ∷ n ∷ r ∷ []) (is_word a (codes "export") h) ∙ ap (λ (x : List ℕ). codes "export" ∷ n ∷ x ∷ []) (same_text r k), both_kept g (is_good r k)))
speaks Exercise = two (literal (codes "exercise")) app_count refl refl (Speaks Exercise) (λ a n h g. (after_word (codes "exercise") a n h ∙ ap (λ (x : List ℕ). codes "exercise" ∷ x ∷ []) (same_number n g), kept (is_number n g)))
speaks ShowCommit = two (literal (codes "show")) (literal (codes "commit")) refl refl (Speaks ShowCommit) (λ a b h g. (both_words (codes "show") (codes "commit") a b h g, refl))
speaks ShowDirTree = two (literal (codes "show")) (literal (codes "dirtree")) refl refl (Speaks ShowDirTree) (λ a b h g. (both_words (codes "show") (codes "dirtree") a b h g, refl))
speaks ShowDirMeta = two (literal (codes "show")) (literal (codes "dirmeta")) refl refl (Speaks ShowDirMeta) (λ a b h g. (both_words (codes "show") (codes "dirmeta") a b h g, refl))
speaks ShowValue = three (literal (codes "show")) (literal (codes "value")) type_string refl refl refl (Speaks ShowValue) (λ a b t h g k. (ap (λ (x : List ℕ). x ∷ b ∷ t ∷ []) (is_word a (codes "show") h) ∙ ap (λ (x : List ℕ). codes "show" ∷ x ∷ t ∷ []) (is_word b (codes "value") g), kept k))

-- ---- the form that was found

found_by : (words : List (List ℕ)) (b : Bool) (f g : Form) (o : Option Form) → reads words f ≡ b → (o ≡ Some g → reads words g ≡ true) → cond b (Some f) o ≡ Some g → reads words g ≡ true
found_by words true f g o is next h = let same : f ≡ g = cc h in subst (λ (x : Form). reads words x ≡ true) same is
found_by words false f g o is next h = next h

pub found : (words : List (List ℕ)) (fs : List Form) (g : Form) → find (reads words) fs ≡ Some g → reads words g ≡ true
found words [] g h = absurd (cc h)
found words (f ∷ fs) g h = found_by words (reads words f) f g (find (reads words) fs) refl (found words fs g) h

read_by : (words : List (List ℕ)) (o : Option Form) (c : Command) → find (reads words) forms ≡ o → option_map (λ form. form_command form words) o ≡ Some c → (words ≡ words_of c) × (is_command c ≡ true)
read_by words None c is h = absurd (cc h)
read_by words (Some form) c is h =
    let same : form_command form words ≡ c = cc h in
    subst (λ (x : Command). (words ≡ words_of x) × (is_command x ≡ true)) same (speaks form words (found words forms form is))

pub read_back : (words : List (List ℕ)) (c : Command) → command_of words ≡ Some c → (words ≡ words_of c) × (is_command c ≡ true)
read_back words c h = read_by words (find (reads words) forms) c refl h

-- ---- the words of each command are read as it

reset_no_option : is_option (codes "--reset") ≡ false
reset_no_option = uncut_no_option (codes "--reset") refl

show_no_option : is_option (codes "--show") ≡ false
show_no_option = uncut_no_option (codes "--show") refl

-- what fills a last place, or two
one_filled : (a : Bool) → (a && true) ≡ true → a ≡ true
one_filled a h = (and_parts a true h).0

two_filled : (a b : Bool) → (a && (b && true)) ≡ true → (a ≡ true) × (b ≡ true)
two_filled a b h = let parts = and_parts a (b && true) h in (parts.0, one_filled b parts.1)

-- it is read as this command
abbrev Reads : List (List ℕ) → Command → Type 0
Reads words c = command_of words ≡ Some c

-- ---- changes

reset_by : (name : List ℕ) (b : Bool) → bytes_eq name (codes "global") ≡ b → (b || is_id name) ≡ true → Reads (codes "override" ∷ codes "--reset" ∷ (cond b [] (name ∷ []) ++ [])) (Changing (changes.OverrideReset name))
reset_by name true is h = rw reset_no_option (ap (λ (n : List ℕ). Some (Changing (changes.OverrideReset n))) (sym (is_word name (codes "global") is)))
reset_by name false is h = rw (reset_no_option, h) refl

change_by : (name o : List ℕ) (os : List (List ℕ)) (b : Bool) → bytes_eq name (codes "global") ≡ b → (b || is_id name) ≡ true → is_option o ≡ true → list_all is_option os ≡ true → Reads (codes "override" ∷ o ∷ (os ++ (cond b [] (name ∷ []) ++ []))) (Changing (changes.OverrideChange name (o ∷ os)))
change_by name o os true is h option all =
    rw (append-nil os, option, takes_all permissions os refl all) (ap (λ (n : List ℕ). Some (Changing (changes.OverrideChange n (o ∷ os)))) (sym (is_word name (codes "global") is)))
change_by name o os false is h option all = rw (option, no_more_options os name all h, fits_id os name all h) (ap Some (app_made (codes "override") o os name))

override_written : (name : List ℕ) (options : List (List ℕ)) → are_options options ≡ true → is_override name ≡ true → Reads (codes "override" ∷ (options ++ (override_word name ++ []))) (Changing (changes.OverrideChange name options))
override_written name [] are good = absurd (false≢true are)
override_written name (o ∷ os) are good =
    let each = and_parts (is_option o) (list_all is_option os) are in
    change_by name o os (bytes_eq name (codes "global")) refl good each.0 each.1

change_written : (c : Change) → is_change c ≡ true → Reads (words_of (Changing c)) (Changing c)
change_written (changes.Install origin name) h = let good = two_filled (is_remote_name origin) (is_ref name) h in rw (good.0, ref_of-ref_text name good.1) (ap (λ (r : Ref). Some (Changing (changes.Install origin r))) (ref_back name good.1))
change_written (changes.UpdateOne name) h = let good = one_filled (is_ref name) h in rw (ref_of-ref_text name good) (ap (λ (r : Ref). Some (Changing (changes.UpdateOne r))) (ref_back name good))
change_written (changes.Uninstall name) h = let good = one_filled (is_ref name) h in rw (ref_of-ref_text name good) (ap (λ (r : Ref). Some (Changing (changes.Uninstall r))) (ref_back name good))
change_written changes.UninstallUnused h = rw unused_is_none refl
change_written (changes.Rollback name) h = let good = one_filled (is_ref name) h in rw (ref_of-ref_text name good) (ap (λ (r : Ref). Some (Changing (changes.Rollback r))) (ref_back name good))
change_written (changes.OverrideChange name options) h = let good = two_filled (are_options options) (is_override name) h in override_written name options good.0 good.1
change_written (changes.OverrideReset name) h = reset_by name (bytes_eq name (codes "global")) refl (one_filled (is_override name) h)
-- the others hold no refs, so it is computed
change_written _ h = grind (arith, h)

-- ---- listings

show_by : (name : List ℕ) (b : Bool) → bytes_eq name (codes "global") ≡ b → (b || is_id name) ≡ true → Reads (codes "override" ∷ codes "--show" ∷ (cond b [] (name ∷ []) ++ [])) (Listed (listings.OverrideShow name))
show_by name true is h = rw show_no_option (ap (λ (n : List ℕ). Some (Listed (listings.OverrideShow n))) (sym (is_word name (codes "global") is)))
show_by name false is h = rw (show_no_option, h) refl

launch_written : (name : Ref) (options : List (List ℕ)) → (is_ref name && is_app name) ≡ true → list_all is_launch_option options ≡ true → Reads (codes "launch" ∷ ref_text name ∷ (options ++ [])) (Listed (listings.Launch name options))
launch_written name options are all =
    let good = and_parts (is_ref name) (is_app name) are in
    rw (append-nil options, ref_of-ref_text name good.0, good.1, takes_all launch_options options refl all) (ap (λ (r : Ref). Some (Listed (listings.Launch r options))) (ref_back name good.0))

listing_written : (l : Listing) → is_command (Listed l) ≡ true → Reads (words_of (Listed l)) (Listed l)
listing_written (listings.Info name) h = let good = one_filled (is_ref name) h in rw (ref_of-ref_text name good) (ap (λ (r : Ref). Some (Listed (listings.Info r))) (ref_back name good))
listing_written (listings.Launch name options) h = let good = two_filled (is_ref name && is_app name) (list_all is_launch_option options) h in launch_written name options good.0 good.1
listing_written (listings.OverrideShow name) h = show_by name (bytes_eq name (codes "global")) refl (one_filled (is_override name) h)
listing_written _ h = refl

-- ---- sources of policies

source_written : (s : PolicySource) → is_command (Filtering s) ≡ true → Reads (words_of (Filtering s)) (Filtering s)
source_written (sources.Rules words) h = rw (append-nil words, takes_all filter_rules words refl (one_filled (list_all is_rule words) h)) refl
source_written (sources.Session name) h =
    let good = and_parts (is_ref name) (is_app name) (one_filled (is_ref name && is_app name) h) in
    rw (no_from_rule (ref_text name), ref_of-ref_text name good.0, good.1) (ap (λ (r : Ref). Some (Filtering (sources.Session r))) (ref_back name good.0))
source_written (sources.System name) h =
    let good = and_parts (is_ref name) (is_app name) (one_filled (is_ref name && is_app name) h) in
    rw (no_system_rule, ref_of-ref_text name good.0, good.1) (ap (λ (r : Ref). Some (Filtering (sources.System r))) (ref_back name good.0))

-- ---- commands

export_written : (origin : List ℕ) (name : Ref) → is_remote_name origin ≡ true → is_ref name ≡ true → Reads (words_of (commands.Export origin name)) (commands.Export origin name)
export_written origin name named good = rw (named, ref_of-ref_text name good) (ap (λ (r : Ref). Some (commands.Export origin r)) (ref_back name good))

exercise_written : (apps : ℕ) → is_app_count apps ≡ true → Reads (words_of (commands.Exercise apps)) (commands.Exercise apps)
exercise_written apps good = rw (decimal_fits apps good) (ap (λ (n : ℕ). Some (commands.Exercise n)) (count_back apps good))

pub written : (c : Command) → is_command c ≡ true → Reads (words_of c) c
written (Changing change) h = change_written change h
written (Listed listing) h = listing_written listing h
written (Filtering source) h = source_written source h
written (commands.Export origin name) h = let good = two_filled (is_remote_name origin) (is_ref name) h in export_written origin name good.0 good.1
written (commands.Exercise apps) h = exercise_written apps (one_filled (is_app_count apps) h)
written _ h = grind (arith, h)
