-- The answer to a rename is the one message that is sent.
use Rattle.std.proofs.Common.{◌≡◌, ℕ, ◌+◌, List, [], ◌∷◌, Option, None, Result, Ok, Err, sym, ap, ◌∙◌, subst}
use Rattle.std.specs.FinMap.{entries}
use Rattle.ls_base.specs.declared.answers.DocEdits as told
use Rattle.ls_base.specs.declared.encoding.Encoding.{Encoding}
use Rattle.lsp_messages.specs.declared.message.At.{At}
use Rattle.lsp_messages.specs.declared.message.Id.{Id}
use Rattle.scheme_model.specs.Texts.{Texts}
use Rattle.document_store.specs.Texts.{Document}
use Rattle.workspace_state.specs.State.{State}
use Rattle.rename_conditions.specs.Opened.{Opened, DocEdits}
use Rattle.rename_conditions.specs.Readers.{Reader, IsReader}
use Rattle.rename_conditions.specs.Renames.{Refusal}
use Rattle.rename_answers.specs.RenameOutcomes.{AnswersAs}
use Rattle.rename_answers.specs.ToldRenames.{opened_as, rename_at, rename_uses, told_as}
use Rattle.rename_answers.specs.declared.faults.RenameFault.{RenameFault}
use Rattle.rename_answers.specs.declared.faults.RenameFault.TheVariants as faults
use Rattle.session_replies.specs.declared.out.Out.{Out}
use Rattle.session_replies.specs.Renamed.{IsRenamed}
use Rattle.session_replies.specs.ToWire.{rename_reply}

-- what is sent of an answer
abbrev pub sent_of : Id → Result (List told.DocEdits) (List ℕ) → Out
sent_of id answer = record { replies = rename_reply id answer ∷ []; end = None }

abbrev pub fault_in : Result (List told.DocEdits) RenameFault → RenameFault
fault_in (Ok edits) = faults.Memory
fault_in (Err fault) = fault

told_edits : (e : Encoding) (ds : List (List ℕ × Document)) (w : Opened) (answer : Result (List DocEdits) Refusal) (edits : List told.DocEdits) → AnswersAs e ds answer (Ok edits) → told_as e ds w answer ≡ Ok edits
told_edits e ds w (Ok es) edits h = ap (λ (l : List told.DocEdits). Ok l) (sym h)
told_edits e ds w (Err refusal) edits h = absurd h

-- a rename in documents, and the same documents once more
module _ (old now : State) (same : old ≡ now) (place : At) (new : List ℕ) where
  answers_now : (r : Reader) (result : Result (List told.DocEdits) RenameFault) → AnswersAs old.encoding (entries old.texts) (rename_at r old.encoding (entries old.texts) place.uri place.pos new) result →
      AnswersAs now.encoding (entries now.texts) (rename_at r now.encoding (entries now.texts) place.uri place.pos new) result
  answers_now r result h = subst (λ (s : State). AnswersAs s.encoding (entries s.texts) (rename_at r s.encoding (entries s.texts) place.uri place.pos new) result) same h

  pub accepted_so : (id : Id) (edits : List told.DocEdits) (out : Out) →
      ((r : Reader) → IsReader r → AnswersAs old.encoding (entries old.texts) (rename_at r old.encoding (entries old.texts) place.uri place.pos new) (Ok edits)) →
      out ≡ sent_of id (Ok edits) → IsRenamed now.encoding now.texts id place new out
  accepted_so id edits out answer sent = λ r is.
      sent ∙ ap (sent_of id) (sym (told_edits now.encoding (entries now.texts) (opened_as r (entries now.texts)) (rename_at r now.encoding (entries now.texts) place.uri place.pos new) edits (answers_now r (Ok edits) (answer r is))))

  -- where the documents after it are these too
  pub refused_with : (id : Id) (fault : RenameFault) (text : List ℕ) (out : Out) (after : State) → after.texts ≡ old.texts → after.encoding ≡ old.encoding →
      ((r : Reader) → IsReader r → AnswersAs old.encoding (entries old.texts) (rename_at r old.encoding (entries old.texts) place.uri place.pos new) (Err fault)) →
      ((r : Reader) (answer : Result (List DocEdits) Refusal) → IsReader r → AnswersAs after.encoding (entries after.texts) answer (Err fault) → told_as after.encoding (entries after.texts) (opened_as r (entries after.texts)) answer ≡ Err text) →
      out ≡ sent_of id (Err text) → IsRenamed now.encoding now.texts id place new out
  refused_with id fault text out after texts encoding answer says sent = λ r is.
      let t : after.texts ≡ now.texts = texts ∙ ap (λ (s : State). s.texts) same in
      let e : after.encoding ≡ now.encoding = encoding ∙ ap (λ (s : State). s.encoding) same in
      let Says : Encoding × Texts → Type 0 = λ p. (a : Result (List DocEdits) Refusal) → AnswersAs p.0 (entries p.1) a (Err fault) → told_as p.0 (entries p.1) (opened_as r (entries p.1)) a ≡ Err text in
      let both : (after.encoding, after.texts) ≡ (now.encoding, now.texts) = λ i. (e i, t i) in
      sent ∙ ap (sent_of id) (sym (subst Says both (λ a. says r a is) (rename_at r now.encoding (entries now.texts) place.uri place.pos new) (answers_now r (Err fault) (answer r is))))

  pub counted_so : (r : Reader) (from to : ℕ) → to ≡ from + rename_uses r old.encoding (entries old.texts) place.uri place.pos new → to ≡ from + rename_uses r now.encoding (entries now.texts) place.uri place.pos new
  counted_so r from to h = subst (λ (s : State). to ≡ from + rename_uses r s.encoding (entries s.texts) place.uri place.pos new) same h
