-- What requests ask of the texts and what answers queries (LSP 3.17, "Language Features"), and which lists are published after an
-- event (LSP 3.17, publishDiagnostics).
use Rattle.std.specs.Prelude.{◌≡◌, ℕ, List}
use Rattle.std.specs.FinMap.{entries}
use Rattle.ls_base.specs.declared.answers.Answer.{Answer}
use Rattle.ls_base.specs.declared.answers.Answer.TheVariants as answers
use Rattle.scheme_model.specs.Session.{Answers, Query}
use Rattle.scheme_model.specs.Texts.{Position, Encoding, Texts}
use Rattle.read_documents.specs.Readings.{Read, AreReadAs}
use Rattle.program_answers.specs.ToldAnswers.{answer_of}
use Rattle.program_answers.specs.Updates.{IsNewsOf}
use Rattle.program_answers.specs.declared.publications.Published.{Published}
use Rattle.session_replies.specs.FromWire.{encoding_of, pos_of}

-- a question about a position in a document among these texts, in an encoding; a rename of what stands there; what is news of texts
-- after an event about a document, by the texts before it; or none, which null answers
pub data Question : Type 0 where
  Nothing : Question
  About : Encoding → Texts → (uri : List ℕ) → Position → Query → Question
  Renaming : Encoding → Texts → (uri : List ℕ) → Position → (new_name : List ℕ) → Question
  News : Encoding → (before after : Texts) → (uri : List ℕ) → Question

-- a session that asks its questions without an answer yet
abbrev pub questions : Answers Question
questions = record { null = Nothing; query = About; rename = Renaming; lists = News }

-- the answer to a query at a position of a document: that of the program that the texts are, by how they are read
abbrev pub AnswersQuery : Encoding → Texts → (uri : List ℕ) → Position → Query → Answer → Type 0
AnswersQuery encoding texts uri position query answer =
    (rs : List Read) × AreReadAs (entries texts) rs × (answer ≡ answer_of (encoding_of encoding) (entries texts) rs uri (pos_of position) query)

abbrev pub IsAnswerTo : Question → Answer → Type 0
IsAnswerTo Nothing answer = answer ≡ answers.Nothing
IsAnswerTo (About encoding texts uri position query) answer = AnswersQuery encoding texts uri position query answer
IsAnswerTo (Renaming encoding texts uri position new_name) answer = ⊥
IsAnswerTo (News encoding before after uri) answer = ⊥

-- the lists that are published
abbrev pub ArePublishedFor : Question → List Published → Type 0
ArePublishedFor Nothing lists = ⊥
ArePublishedFor (About encoding texts uri position query) lists = ⊥
ArePublishedFor (Renaming encoding texts uri position new_name) lists = ⊥
ArePublishedFor (News encoding before after uri) lists = IsNewsOf (encoding_of encoding) before after uri lists
