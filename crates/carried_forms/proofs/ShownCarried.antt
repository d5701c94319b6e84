-- Carried forms and the work of an event in the notation of rows; and which forms would be carried if questions of one kind weren't asked.
use Rattle.std.specs.Prelude.{ℕ, List, [], ◌∷◌, map, filter, Bool, true, false, ◌&&◌, Option, Some, None, if◌then◌else◌}
use Rattle.std.specs.List.{flat_map}
use Rattle.scheme_model.specs.Meaning.{same_meaning}
use Rattle.scheme_model.specs.Data.{Datum}
use Rattle.scheme_model.specs.Program.{enough_turns}
use Rattle.scheme_model.specs.Questions.{Around, Moment, Question, LooksUp, UsesRules, Compares, IsAssigned, Requires, Defines, Answer, Means, answer}
use Rattle.scheme_model.specs.FormsAlike.{questions_of_pass, questions_of_left}
use Rattle.renumbering_laws.specs.Renumbering.{Renumbering}
use Rattle.renumbering_laws.specs.Asked.{new_moment, new_question, new_answer}
use Rattle.carried_forms.specs.Paired.{UnitPair, unit_pairs, renumbering}
use Rattle.carried_forms.specs.Worked.{WorkedForm, WorkedUnit, OpenDocument, read_documents, units_at_work, unit_texts}
use Rattle.carried_forms.specs.Carried.{have_same_answers, worked_at, carried, work_beside}

-- uris with texts, in which no string means another
abbrev Texts : Type 0
Texts = List (List ℕ × Option (List Datum))

abbrev opened : Texts → List OpenDocument
opened ds = map (λ d. record { uri = d.0; data_in = record { read = d.1; meant = λ s. None } }) ds

abbrev counted_beside : List (ℕ × ℕ) → List OpenDocument → List (ℕ × ℕ) × ℕ
counted_beside cs ds = (cs, work_beside cs (units_at_work (read_documents ds)))

-- the carried forms and the work
abbrev pub carried_rows : (before after : Texts) → List (ℕ × ℕ) × ℕ
carried_rows before after = counted_beside (carried (opened before) (opened after)) (opened after)

-- ---- without questions of a kind

pub data Kind : Type 0 where
  LookUp : Kind
  Keyword : Kind
  Rules : Kind
  Comparison : Kind
  Assignment : Kind
  Library : Kind
  Outcome : Kind

-- of a look-up whether it is a keyword is a question of its own
abbrev is_asked : Kind → Question → Bool
is_asked LookUp (LooksUp i) = false
is_asked Rules (UsesRules m) = false
is_asked Comparison (Compares l i) = false
is_asked Assignment (IsAssigned i) = false
is_asked Library (Requires l) = false
is_asked Outcome (Defines fs x r ns) = false
is_asked k q = true

abbrev only_meaning : Answer → Answer → Bool
only_meaning (Means m k) (Means n j) = same_meaning m n
only_meaning a b = false

abbrev means_alike : Renumbering → Around → Around → Moment × Question → Bool
means_alike r w v q = only_meaning (new_answer r (answer w q.0 q.1)) (answer v (new_moment r q.0) (new_question r q.1))

abbrev alike_but : Kind → Renumbering → Around → Around → Moment × Question → Bool
alike_but Keyword r w v (n, LooksUp i) = means_alike r w v (n, LooksUp i)
alike_but k r w v q = have_same_answers r w v (q ∷ [])

abbrev all_alike_but : Kind → Renumbering → Around → Around → List (Moment × Question) → Bool
all_alike_but k r w v [] = true
all_alike_but k r w v (q ∷ qs) = (if is_asked k q.1 then alike_but k r w v q else true) && all_alike_but k r w v qs

abbrev asks_alike_but : Kind → Renumbering → Option WorkedForm → Option WorkedForm → Bool
asks_alike_but k r None g = false
asks_alike_but k r (Some f) None = false
asks_alike_but k r (Some f) (Some g) =
    all_alike_but k r f.around g.around (questions_of_pass f.around enough_turns f.tree)
    && all_alike_but k r f.later g.later (questions_of_left f.later enough_turns f.left)

abbrev kept_in : Kind → Renumbering → List WorkedUnit → List WorkedUnit → UnitPair → List (ℕ × ℕ)
kept_in k r us vs p = map (λ q. (p.after, q.1)) (filter (λ q. asks_alike_but k r (worked_at us p.before q.0) (worked_at vs p.after q.1)) p.forms)

abbrev kept_but : Kind → (before after : List OpenDocument) → List (ℕ × ℕ)
kept_but k before after =
    let ps = unit_pairs (unit_texts before) (unit_texts after) in
    flat_map (kept_in k (renumbering ps) (units_at_work (read_documents before)) (units_at_work (read_documents after))) ps

-- the forms that would be carried
abbrev pub without_rows : Kind → (before after : Texts) → List (ℕ × ℕ)
without_rows k before after = kept_but k (opened before) (opened after)
