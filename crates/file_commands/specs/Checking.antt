-- What is printed of files (LSP 3.17, Diagnostic): all that is wrong in the program of those that are UTF-8, and that the others aren't.
use Rattle.std.specs.Prelude.{ℕ, pos, List, [], ◌∷◌, map, if◌then◌else◌}
use Rattle.std.specs.FinMap.{empty, entries, insert, put}
use Rattle.std.specs.List.{flat_map, fold, list_any, zip}
use Rattle.std.specs.Cmp.Lexicographic.{slice_cmp}
use Rattle.std.specs.Ordering.{nat_cmp}
use Rattle.std.specs.Str.{is_utf8}
use Rattle.std.specs.declared.alloc.Global.{Global}
use Rattle.std.specs.declared.vec.Vec.{Vec}
use Rattle.ls_base.specs.declared.answers.Diagnostic.{Diagnostic}
use Rattle.ls_base.specs.declared.encoding.Encoding.TheVariants.{Utf16}
use Rattle.document_store.specs.Texts.{Texts}
use Rattle.read_documents.specs.Listed.{lists_of}
use Rattle.read_documents.specs.Readings.{Read}
use Rattle.command_lines.specs.Diagnostics.{diagnostic_lines, has_error, not_utf8}
use Rattle.file_commands.specs.declared.checking.Checked.{Checked}

-- a file that is UTF-8 is an open document, of no version
abbrev pub open_file : Texts → List ℕ × List ℕ → Texts
open_file texts file = if is_utf8 file.1 then insert texts file.0 (pos 0, file.1) else texts

abbrev pub opened : (names contents : List (List ℕ)) → Texts
opened names contents = fold open_file empty (zip names contents)

-- the diagnostics of a file, by its name
abbrev pub Listed : Type 0
Listed = List ℕ × List Diagnostic

-- one that isn't has diagnostic 13
abbrev pub with_file : List Listed → List ℕ × List ℕ → List Listed
with_file lists file = if is_utf8 file.1 then lists else put (slice_cmp nat_cmp) file.0 (not_utf8 ∷ []) lists

-- the diagnostics of files, by their names in byte order
abbrev pub lists_in : List Read → (names contents : List (List ℕ)) → List Listed
lists_in rs names contents =
    fold with_file (map (λ l. (l.uri, l.list)) (lists_of Utf16 (entries (opened names contents)) rs)) (zip names contents)

-- what is printed of lists, in their order, and whether an Error is
abbrev pub printed : List Listed → Checked
printed lists = record { lines = flat_map (λ l. diagnostic_lines l.0 l.1) lists; has_error = list_any (λ l. has_error l.1) lists }

-- what is printed of files, where those that are opened are read so
abbrev pub checked_in : List Read → (names contents : List (List ℕ)) → Checked
checked_in rs names contents = printed (lists_in rs names contents)

-- the contents of files, as the code has them
abbrev pub bytes_in : List (Vec ℕ Global) → List (List ℕ)
bytes_in contents = map (λ (content : Vec ℕ Global). content.items) contents
