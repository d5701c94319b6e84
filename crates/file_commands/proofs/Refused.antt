-- What a fault says is what the rename is refused with.
use Rattle.std.proofs.Common.{◌≡◌, ℕ, List, Result, Ok, Err, refl, sym, ap}
use Rattle.ls_base.specs.declared.encoding.Encoding.{Encoding}
use Rattle.document_store.specs.Texts.{Document}
use Rattle.rename_conditions.specs.Opened.{Opened, DocEdits}
use Rattle.rename_conditions.specs.Renames.{Refusal}
use Rattle.rename_answers.specs.RefusalTexts.{refusal_text}
use Rattle.rename_answers.specs.RenameOutcomes.{AnswersAs, IsFaultOf}
use Rattle.rename_answers.specs.ToldRenames.{told_as}
use Rattle.rename_answers.specs.declared.faults.RenameFault.{RenameFault}
use Rattle.rename_answers.specs.declared.faults.RenameFault.TheVariants as faults

pub refused_so : (e : Encoding) (ds : List (List ℕ × Document)) (w : Opened) (answer : Result (List DocEdits) Refusal) (fault : RenameFault) (text : List ℕ) → (fault ≡ faults.Memory → ⊥) → AnswersAs e ds answer (Err fault) →
    ((refusal : Refusal) → IsFaultOf e ds refusal fault → text ≡ refusal_text e ds w refusal) → told_as e ds w answer ≡ Err text
refused_so e ds w answer faults.Memory text free h k = absurd (free refl)
refused_so e ds w (Ok es) faults.NotBound text free h k = absurd h
refused_so e ds w (Err refusal) faults.NotBound text free h k = ap (λ (t : List ℕ). Err t) (sym (k refusal h))
refused_so e ds w (Ok es) (faults.Standard name) text free h k = absurd h
refused_so e ds w (Err refusal) (faults.Standard name) text free h k = ap (λ (t : List ℕ). Err t) (sym (k refusal h))
refused_so e ds w (Ok es) faults.BadName text free h k = absurd h
refused_so e ds w (Err refusal) faults.BadName text free h k = ap (λ (t : List ℕ). Err t) (sym (k refusal h))
refused_so e ds w (Ok es) (faults.Unreadable uri) text free h k = absurd h
refused_so e ds w (Err refusal) (faults.Unreadable uri) text free h k = ap (λ (t : List ℕ). Err t) (sym (k refusal h))
refused_so e ds w (Ok es) (faults.PrefixLost prefix) text free h k = absurd h
refused_so e ds w (Err refusal) (faults.PrefixLost prefix) text free h k = ap (λ (t : List ℕ). Err t) (sym (k refusal h))
refused_so e ds w (Ok es) (faults.PrefixClash place) text free h k = absurd h
refused_so e ds w (Err refusal) (faults.PrefixClash place) text free h k = ap (λ (t : List ℕ). Err t) (sym (k refusal h))
refused_so e ds w (Ok es) (faults.BrokenUnit place code) text free h k = absurd h
refused_so e ds w (Err refusal) (faults.BrokenUnit place code) text free h k = ap (λ (t : List ℕ). Err t) (sym (k refusal h))
refused_so e ds w (Ok es) (faults.Limit uri) text free h k = absurd h
refused_so e ds w (Err refusal) (faults.Limit uri) text free h k = ap (λ (t : List ℕ). Err t) (sym (k refusal h))
refused_so e ds w (Ok es) (faults.Differs difference) text free h k = absurd h
refused_so e ds w (Err refusal) (faults.Differs difference) text free h k = ap (λ (t : List ℕ). Err t) (sym (k refusal h))
