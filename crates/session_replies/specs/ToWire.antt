-- The messages to the client that are the replies of a session (JSON-RPC 2.0 section 5; LSP 3.17).
use Rattle.std.specs.Prelude.{◌≡◌, ℕ, List, [], ◌∷◌, ◌++◌, map, Some, Result, Ok, Err}
use Rattle.std.specs.FinMap.{entries}
use Rattle.std.specs.Option.{option_map}
use Rattle.ls_base.specs.declared.answers.Answer.{Answer}
use Rattle.ls_base.specs.declared.answers.Answer.TheVariants as answers
use Rattle.ls_base.specs.declared.answers.DocEdits.{DocEdits}
use Rattle.lsp_messages.specs.declared.message.Id.{Id}
use Rattle.lsp_messages.specs.declared.message.Id.TheVariants as ids
use Rattle.lsp_messages.specs.declared.reply.Reply.{Reply}
use Rattle.lsp_messages.specs.declared.reply.Reply.TheVariants as replies
use Rattle.scheme_model.specs.Session as session
use Rattle.program_answers.specs.declared.publications.Published.{Published}
use Rattle.rename_conditions.specs.Readers.{Reader, IsReader}
use Rattle.rename_answers.specs.ToldRenames.{rename_told}
use Rattle.session_replies.specs.FromWire.{encoding_of, pos_of}
use Rattle.session_replies.specs.Asked.{Question, Nothing, About, Renaming, News, IsAnswerTo, ArePublishedFor}

-- an id as it is sent
abbrev pub sent_id : session.Id → Id
sent_id (session.Number n) = ids.Number n
sent_id (session.Name s) = ids.Name s

-- a list as it is sent
abbrev pub sent_list : Published → Reply
sent_list p = replies.Publish p.uri p.version p.list

-- the reply to a rename: its edits, or the error RequestFailed with why it is refused
abbrev pub rename_reply : Id → Result (List DocEdits) (List ℕ) → Reply
rename_reply id (Ok edits) = replies.Result id (answers.Edits edits)
rename_reply id (Err text) = replies.Error (Some id) (session.minus 32803) text

-- the messages are the reply to this rename, in the texts as they read
abbrev pub AreRenamed : session.Id → Question → List Reply → Type 0
AreRenamed id Nothing messages = ⊥
AreRenamed id (About encoding texts uri position query) messages = ⊥
AreRenamed id (Renaming encoding texts uri position new_name) messages =
    (r : Reader) × IsReader r × (messages ≡ rename_reply (sent_id id) (rename_told r (encoding_of encoding) (entries texts) uri (pos_of position) new_name) ∷ [])
AreRenamed id (News encoding before after uri) messages = ⊥

-- the messages that are this reply of a session, with an answer to what it asks; lists are a message each, in their order
abbrev pub AreMessages : session.Reply Question → List Reply → Type 0
AreMessages (session.Capabilities id prepare encoding) messages = messages ≡ replies.Capabilities (sent_id id) prepare (encoding_of encoding) ∷ []
AreMessages (session.Result id question) messages = (answer : Answer) × IsAnswerTo question answer × (messages ≡ replies.Result (sent_id id) answer ∷ [])
AreMessages (session.Renamed id question) messages = AreRenamed id question messages
AreMessages (session.Error id code text) messages = messages ≡ replies.Error (option_map sent_id id) code text ∷ []
AreMessages (session.Publish question) messages = (lists : List Published) × ArePublishedFor question lists × (messages ≡ map sent_list lists)
AreMessages (session.Log text) messages = messages ≡ replies.Log text ∷ []

-- the first of the messages are such, and the rest is such
pub record Follow (AreFirst AreRest : List Reply → Type 0) (messages : List Reply) : Type 0 where
  pub first : List Reply
  pub rest : List Reply
  pub split : messages ≡ first ++ rest
  pub are_first : AreFirst first
  pub are_rest : AreRest rest

-- the messages are those of these replies, one reply after another
abbrev pub AreReplies : List (session.Reply Question) → List Reply → Type 0
AreReplies [] messages = messages ≡ []
AreReplies (r ∷ rs) messages = Follow (AreMessages r) (AreReplies rs) messages
