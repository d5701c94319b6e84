-- What is printed of a rename in one text.
use Rattle.std.proofs.Common.{◌≡◌, ℕ, List, Result, Ok, Err, sym, ap, ◌∙◌, subst}
use Rattle.std.specs.FinMap.{entries}
use Rattle.ls_base.specs.declared.answers.DocEdits as told
use Rattle.ls_base.specs.declared.encoding.Encoding.{Encoding}
use Rattle.ls_base.specs.declared.encoding.Encoding.TheVariants.{Utf16}
use Rattle.ls_base.specs.declared.places.Pos.{Pos}
use Rattle.document_store.specs.Texts.{Document, Texts}
use Rattle.rename_conditions.specs.Opened.{Opened, DocEdits}
use Rattle.rename_conditions.specs.Readers.{Reader}
use Rattle.rename_conditions.specs.Renames.{Refusal}
use Rattle.rename_answers.specs.RenameOutcomes.{AnswersAs}
use Rattle.rename_answers.specs.ToldRenames.{opened_as, rename_at, rename_told, told_as}
use Rattle.rename_answers.specs.declared.faults.RenameFault.{RenameFault}
use Rattle.command_lines.specs.Edits.{edit_lines, refusal_line}
use Rattle.file_commands.specs.Renaming.{one_document, printed, rename_in_text}
use Rattle.file_commands.specs.declared.renaming.Renamed.TheVariants.{Edits, Refused}

told_edits : (e : Encoding) (ds : List (List ℕ × Document)) (w : Opened) (answer : Result (List DocEdits) Refusal) (edits : List told.DocEdits) → AnswersAs e ds answer (Ok edits) → told_as e ds w answer ≡ Ok edits
told_edits e ds w (Ok es) edits h = ap (λ (l : List told.DocEdits). Ok l) (sym h)
told_edits e ds w (Err refusal) edits h = absurd h

-- the one text is opened
module _ (e : Encoding) (texts : Texts) (name text : List ℕ) (same : e ≡ Utf16) (one : entries texts ≡ one_document name text) (position : Pos) (new : List ℕ) (r : Reader) where
  in_text : rename_told r e (entries texts) name position new ≡ rename_in_text r name text position new
  unfolding rename_in_text
  in_text = λ i. rename_told r (same i) (one i) name position new

  pub with_edits : (edits : List told.DocEdits) → AnswersAs e (entries texts) (rename_at r e (entries texts) name position new) (Ok edits) → rename_in_text r name text position new ≡ Ok edits
  with_edits edits h = sym in_text ∙ told_edits e (entries texts) (opened_as r (entries texts)) (rename_at r e (entries texts) name position new) edits h

  -- where the texts after it are these too
  pub with_refusal : (f : Encoding) (after : Texts) → f ≡ e → after ≡ texts → (fault : RenameFault) (refusal : List ℕ) → AnswersAs e (entries texts) (rename_at r e (entries texts) name position new) (Err fault) →
      ((a : Result (List DocEdits) Refusal) → AnswersAs f (entries after) a (Err fault) → told_as f (entries after) (opened_as r (entries after)) a ≡ Err refusal) →
      rename_in_text r name text position new ≡ Err refusal
  with_refusal f after d t fault refusal h says =
      let Says : Encoding × Texts → Type 0 = λ p. (a : Result (List DocEdits) Refusal) → AnswersAs p.0 (entries p.1) a (Err fault) → told_as p.0 (entries p.1) (opened_as r (entries p.1)) a ≡ Err refusal in
      let both : (f, after) ≡ (e, texts) = λ i. (d i, t i) in
      sym in_text ∙ subst Says both says (rename_at r e (entries texts) name position new) h

  pub edits_printed : (edits : List told.DocEdits) (lines : List ℕ) → lines ≡ edit_lines edits → AnswersAs e (entries texts) (rename_at r e (entries texts) name position new) (Ok edits) →
      Edits lines ≡ printed (rename_in_text r name text position new)
  unfolding printed
  edits_printed edits lines are h = ap (λ (l : List ℕ). Edits l) are ∙ sym (ap printed (with_edits edits h))

  pub refusal_printed : (f : Encoding) (after : Texts) → f ≡ e → after ≡ texts → (fault : RenameFault) (refusal line : List ℕ) → line ≡ refusal_line refusal →
      AnswersAs e (entries texts) (rename_at r e (entries texts) name position new) (Err fault) →
      ((a : Result (List DocEdits) Refusal) → AnswersAs f (entries after) a (Err fault) → told_as f (entries after) (opened_as r (entries after)) a ≡ Err refusal) →
      Refused line ≡ printed (rename_in_text r name text position new)
  unfolding printed
  refusal_printed f after d t fault refusal line is h says = ap (λ (l : List ℕ). Refused l) is ∙ sym (ap printed (with_refusal f after d t fault refusal h says))
