-- The edits of a rename, counted as they are told.
use Rattle.std.proofs.Common.{◌≡◌, ◌≢◌, ℕ, List, length, Result, Ok, Err, refl, ap, ◌∙◌}
use Rattle.std.specs.List.{sum_by}
use Rattle.ls_base.specs.declared.answers.DocEdits as told
use Rattle.ls_base.specs.declared.encoding.Encoding.{Encoding}
use Rattle.ls_base.specs.declared.places.Pos.{Pos}
use Rattle.document_store.specs.Texts.{Document}
use Rattle.rename_conditions.specs.Opened.{DocEdits, Opened}
use Rattle.rename_conditions.specs.Readers.{Reader}
use Rattle.rename_conditions.specs.Renames.{Refusal}
use Rattle.rename_answers.specs.RenameOutcomes.{AnswersAs}
use Rattle.rename_answers.specs.ToldRenames.{opened_as, rename_at, rename_told, told_as}
use Rattle.rename_answers.specs.declared.faults.RenameFault.{RenameFault}
use Rattle.rename_answers.specs.declared.faults.RenameFault.TheVariants as faults
use Rattle.generated_workspace.specs.Selfrun.{edits_in}

edits_told : (e : Encoding) (ds : List (List ℕ × Document)) (w : Opened) (answer : Result (List DocEdits) Refusal) (edits : List told.DocEdits) → AnswersAs e ds answer (Ok edits) →
    sum_by (λ (d : told.DocEdits). length d.edits) edits ≡ edits_in (told_as e ds w answer)
edits_told e ds w (Ok es) edits h = ap (sum_by (λ (d : told.DocEdits). length d.edits)) h
edits_told e ds w (Err refusal) edits h = absurd h

-- a fault other than want of memory is no edits
none_told : (e : Encoding) (ds : List (List ℕ × Document)) (w : Opened) (answer : Result (List DocEdits) Refusal) (fault : RenameFault) → fault ≢ faults.Memory → AnswersAs e ds answer (Err fault) → 0 ≡ edits_in (told_as e ds w answer)
none_told e ds w (Err refusal) fault free h = refl
none_told e ds w (Ok es) faults.Memory free h = absurd (free refl)
none_told e ds w (Ok es) faults.NotBound free h = absurd h
none_told e ds w (Ok es) (faults.Standard name) free h = absurd h
none_told e ds w (Ok es) faults.BadName free h = absurd h
none_told e ds w (Ok es) (faults.Unreadable uri) free h = absurd h
none_told e ds w (Ok es) (faults.PrefixLost prefix) free h = absurd h
none_told e ds w (Ok es) (faults.PrefixClash place) free h = absurd h
none_told e ds w (Ok es) (faults.BrokenUnit place code) free h = absurd h
none_told e ds w (Ok es) (faults.Limit uri) free h = absurd h
none_told e ds w (Ok es) (faults.Differs difference) free h = absurd h

-- ---- by the rename

module _ (r : Reader) (e : Encoding) (ds : List (List ℕ × Document)) (uri : List ℕ) (position : Pos) (name : List ℕ) (count : ℕ) where
  pub edits_counted : (edits : List told.DocEdits) → count ≡ sum_by (λ (d : told.DocEdits). length d.edits) edits → AnswersAs e ds (rename_at r e ds uri position name) (Ok edits) → count ≡ edits_in (rename_told r e ds uri position name)
  edits_counted edits is h = is ∙ edits_told e ds (opened_as r ds) (rename_at r e ds uri position name) edits h

  pub none_counted : (fault : RenameFault) → count ≡ 0 → fault ≢ faults.Memory → AnswersAs e ds (rename_at r e ds uri position name) (Err fault) → count ≡ edits_in (rename_told r e ds uri position name)
  none_counted fault is free h = is ∙ none_told e ds (opened_as r ds) (rename_at r e ds uri position name) fault free h

abbrev pub fault_in : Result (List told.DocEdits) RenameFault → RenameFault
fault_in (Ok edits) = faults.Memory
fault_in (Err fault) = fault
