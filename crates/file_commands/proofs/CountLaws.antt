-- The macro uses that a rename in one text counts.
use Rattle.std.proofs.Common.{◌≡◌, ◌≤◌, ◌+◌, ℕ, pos, List, [], ◌∷◌, length, cond, true, false, Option, Result, Ok, Err, sym, ap, ◌∙◌, subst, arith}
use Rattle.std.specs.FinMap.{empty, entries}
use Rattle.std.specs.Str.{IsUtf8, is_utf8}
use Rattle.std.proofs.lemmas.Str.{is_utf8-from_IsUtf8}
use Rattle.ls_base.specs.Limits.{max_text}
use Rattle.ls_base.specs.declared.answers.DocEdits.{DocEdits}
use Rattle.ls_base.specs.declared.encoding.Encoding.{Encoding}
use Rattle.ls_base.specs.declared.encoding.Encoding.TheVariants.{Utf16}
use Rattle.ls_base.specs.declared.places.Pos.{Pos}
use Rattle.document_store.specs.Texts.{Added, Document, Refusal, Texts, after, has_room}
use Rattle.document_store.proofs.Events.{adds}
use Rattle.read_documents.specs.Readings.{AreReadAs, Read, uses_in}
use Rattle.program_answers.proofs.TextLists.{some_row}
use Rattle.document_changes.specs.Events.{leaves}
use Rattle.rename_conditions.specs.Readers.{IsReader, Reader}
use Rattle.rename_answers.specs.ToldRenames.{rename_uses, text_uses, texts_of, uris_of}
use Rattle.rename_answers.specs.declared.faults.RenameFault.{RenameFault}
use Rattle.rename_answers.specs.declared.faults.RenameFault.TheVariants as faults
use Rattle.rename_planner.proofs.ReadingLaws.{uses_one}
use Rattle.file_commands.specs.Renaming.{one_document, renaming_uses}
use Rattle.file_commands.proofs.FileLaws.{not_text}
use Rattle.file_commands.proofs.OneText.{room}

-- ---- where a text is opened

module _ (e : Encoding) (old : Texts) (uri text content : List ℕ) (none : old ≡ empty) (same : text ≡ content) (short : length content ≤ max_text) where
  not_left : leaves (Added uri (pos 0) text) (after e old (Added uri (pos 0) text)).1 ≡ false
  not_left =
      let has : has_room old uri ≡ true = ap (λ (t : Texts). has_room t uri) none ∙ room uri in
      ap (λ (o : Texts × Option Refusal). leaves (Added uri (pos 0) text) o.1) (adds old uri (pos 0) text has (subst (λ (t : List ℕ). length t ≤ max_text) (sym same) short))

  pub text_counted : (name : List ℕ) (now : Texts) → entries now ≡ one_document name content → (was then : ℕ) →
      (leaves (Added uri (pos 0) text) (after e old (Added uri (pos 0) text)).1 ≡ false → (rs : List Read) → AreReadAs (entries now) rs → then ≡ was + uses_in rs) →
      (r : Reader) → IsReader r → then ≡ was + text_uses r (name ∷ []) (content ∷ [])
  text_counted name now one was then h r is =
      let row = some_row (entries now) in
      h not_left row.0 row.1 ∙ ap (λ (n : ℕ). was + n) (sym (uses_one r is (entries now) row.0 row.1) ∙ ap (λ (ds : List (List ℕ × Document)). text_uses r (uris_of ds) (texts_of ds)) one)

-- ---- where it is renamed in

pub edited_counted : (e : Encoding) (ds : List (List ℕ × Document)) (name text : List ℕ) → e ≡ Utf16 → ds ≡ one_document name text → (position : Pos) (new : List ℕ) (r : Reader) (was then : ℕ) →
    then ≡ was + rename_uses r e ds name position new → then ≡ was + rename_uses r Utf16 (one_document name text) name position new
edited_counted e ds name text same one position new r was then h = h ∙ (λ i. was + rename_uses r (same i) (one i) name position new)

abbrev pub fault_in : Result (List DocEdits) RenameFault → RenameFault
fault_in (Ok edits) = faults.Memory
fault_in (Err fault) = fault

pub both_counted : (was u between v then : ℕ) → between ≡ was + u → then ≡ between + v → then ≡ was + (u + v)
both_counted was u between v then first second = omega arith

-- ---- of a content, which is a text or isn't UTF-8

if_text : (uses : List ℕ → ℕ) (content text : List ℕ) (was then : ℕ) → IsUtf8 content → text ≡ content → then ≡ was + uses text → then ≡ was + cond (is_utf8 content) (uses content) 0
if_text uses content text was then utf8 same h = h ∙ ap (λ (t : List ℕ). was + uses t) same ∙ ap (λ b. was + cond b (uses content) 0) (sym (is_utf8-from_IsUtf8 content utf8))

if_no_text : (uses : List ℕ → ℕ) (content : List ℕ) (was : ℕ) → (IsUtf8 content → ⊥) → was ≡ was + cond (is_utf8 content) (uses content) 0
if_no_text uses content was bad =
    let none : was ≡ was + 0 = omega arith in
    none ∙ ap (λ b. was + cond b (uses content) 0) (sym (not_text content bad))

module _ (r : Reader) (name content : List ℕ) (position : Pos) (new : List ℕ) where
  abbrev uses : List ℕ → ℕ
  uses t = text_uses r (name ∷ []) (t ∷ []) + rename_uses r Utf16 (one_document name t) name position new

  pub of_text_counted : (text : List ℕ) (was then : ℕ) → IsUtf8 content → text ≡ content → then ≡ was + uses text → then ≡ was + renaming_uses r name content position new
  of_text_counted text was then utf8 same h = if_text uses content text was then utf8 same h

  pub of_no_text_counted : (was : ℕ) → (IsUtf8 content → ⊥) → was ≡ was + renaming_uses r name content position new
  of_no_text_counted was bad = if_no_text uses content was bad
