-- What the workspace answers is the answer to a session's question.
use Rattle.std.proofs.Common.{◌≡◌, ℕ, List, [], ◌∷◌, refl, sym, ap, ◌∙◌, subst}
use Rattle.std.specs.FinMap.{entries}
use Rattle.ls_base.specs.declared.answers.Answer.{Answer}
use Rattle.ls_base.specs.declared.encoding.Encoding.{Encoding}
use Rattle.ls_base.specs.declared.places.Pos.{Pos}
use Rattle.scheme_model.specs.Session as session
use Rattle.scheme_model.specs.Session.{Query, State, stays}
use Rattle.read_documents.specs.Readings.{Read, AreReadAs}
use Rattle.workspace_state.specs.State as workspace
use Rattle.program_answers.specs.ToldAnswers.{answer_of}
use Rattle.program_answers.proofs.TextLists.{some_row}
use Rattle.session_replies.specs.declared.mode.Mode.{Mode}
use Rattle.session_replies.specs.declared.out.Out.{Out}
use Rattle.session_replies.specs.Asked.{About, AnswersQuery, IsAnswerTo, Question}
use Rattle.session_replies.specs.FromWire.{said_encoding, said_position}
use Rattle.session_replies.specs.States.{state_of}
use Rattle.session_replies.specs.Stepped.{IsOutcome, Says}
use Rattle.session_replies.proofs.Evented.{encoding_of-said_encoding}

-- an answer to a query, however the documents are read
answers_query : (w : workspace.State) (uri : List ℕ) (pos : Pos) (query : Query) (answer : Answer) →
    ((rs : List Read) → AreReadAs (entries w.texts) rs → answer ≡ answer_of w.encoding (entries w.texts) rs uri pos query) →
    AnswersQuery (said_encoding w.encoding) w.texts uri (said_position pos) query answer
answers_query w uri pos query answer is =
    let row = some_row (entries w.texts) in
    (row.0, row.1, is row.0 row.1 ∙ ap (λ (e : Encoding). answer_of e (entries w.texts) row.0 uri pos query) (sym (encoding_of-said_encoding w.encoding)))

-- the reply to a question, where the workspace is as it was
pub replies_so : (mode : Mode) (new old : workspace.State) (now : State) (id : session.Id) (read uri : List ℕ) (pos : Pos) (query : Query) (answer : Answer) (out : Out) →
    new ≡ old → state_of mode old.encoding old.texts ≡ now → read ≡ uri →
    ((rs : List Read) → AreReadAs (entries new.texts) rs → answer ≡ answer_of new.encoding (entries new.texts) rs read pos query) →
    ((question : Question) → IsAnswerTo question answer → Says out (session.Result id question ∷ [])) →
    IsOutcome (stays now (session.Result id (About now.encoding now.texts uri (said_position pos) query) ∷ [])) out (state_of mode new.encoding new.texts)
replies_so mode new old now id read uri pos query answer out same view at is says =
    let Stands : State → List ℕ → Type 0 = λ s u. IsOutcome (stays s (session.Result id (About s.encoding s.texts u (said_position pos) query) ∷ [])) out (state_of mode new.encoding new.texts) in
    let said = says (About (said_encoding new.encoding) new.texts read (said_position pos) query) (answers_query new read pos query answer is) in
    let here : Stands (state_of mode new.encoding new.texts) read = record { state = refl; replies = said.0; end = said.1 } in
    subst (λ (s : State). Stands s uri) (ap (λ (w : workspace.State). state_of mode w.encoding w.texts) same ∙ view)
    (subst (λ (u : List ℕ). Stands (state_of mode new.encoding new.texts) u) at here)
