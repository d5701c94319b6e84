-- The texts where one is opened.
use Rattle.std.proofs.Common.{◌≡◌, ◌≤◌, ◌||◌, ℕ, ℤ, pos, List, [], ◌∷◌, length, nat_lt, true, Option, is_some, nat_cmp, sym, ap, ◌∙◌}
use Rattle.std.specs.Cmp.Lexicographic.{slice_cmp, nat_list_cmp_total}
use Rattle.std.specs.FinMap.{empty, entries, entries-insert, get-empty, len, len-empty, len-entries}
use Rattle.std.specs.FinMap.Entries.{put}
use Rattle.std.proofs.lemmas.List.{nil_from_length}
use Rattle.ls_base.specs.Limits.{max_documents, max_text}
use Rattle.document_store.specs.Texts.{Document, Texts, Refusal, added, has_room}
use Rattle.document_store.proofs.Events.{adds}
use Rattle.file_commands.specs.Renaming.{one_document}

no_entries : entries (empty {X = Document} {R = slice_cmp nat_cmp}) ≡ []
no_entries = nil_from_length (entries (empty {X = Document} {R = slice_cmp nat_cmp})) (sym (len-entries (empty {X = Document} {R = slice_cmp nat_cmp})) ∙ len-empty (slice_cmp nat_cmp) Document)

-- there is room for the first
pub room : (uri : List ℕ) → has_room empty uri ≡ true
room uri = ap (λ (o : Option Document). is_some o || nat_lt (len (empty {K = List ℕ} {X = Document} {R = slice_cmp nat_cmp})) max_documents) (get-empty (slice_cmp nat_cmp) uri) ∙ ap (λ (n : ℕ). nat_lt n max_documents) (len-empty (slice_cmp nat_cmp) Document)

pub one_added : (uri : List ℕ) (version : ℤ) (text : List ℕ) → length text ≤ max_text → entries (added empty uri version text).0 ≡ (uri, (version, text)) ∷ []
one_added uri version text short =
    ap (λ (p : Texts × Option Refusal). entries p.0) (adds empty uri version text (room uri) short)
    ∙ entries-insert nat_list_cmp_total empty uri (version, text)
    ∙ ap (put (slice_cmp nat_cmp) uri (version, text)) no_entries

pub one_opened : (old after : Texts) (uri text name content : List ℕ) → old ≡ empty → uri ≡ name → text ≡ content → length content ≤ max_text → after ≡ (added old uri (pos 0) text).0 → entries after ≡ one_document name content
one_opened old after uri text name content none u t short is =
    ap (λ (x : Texts). entries x) is ∙ (λ i. entries (added (none i) (u i) (pos 0) (t i)).0) ∙ one_added name (pos 0) content short
