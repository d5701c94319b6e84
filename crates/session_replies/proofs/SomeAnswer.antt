-- Each question that a body asks has an answer.
use Rattle.std.proofs.Common.{List, [], ◌∷◌, ◌++◌, map, refl}
use Rattle.std.specs.FinMap.{entries}
use Rattle.std.specs.List.{AllByRecursion}
use Rattle.ls_base.specs.declared.answers.Answer.{Answer}
use Rattle.ls_base.specs.declared.answers.Answer.TheVariants as answers
use Rattle.lsp_messages.specs.declared.reply.Reply.{Reply}
use Rattle.lsp_messages.specs.declared.reply.Reply.TheVariants as replies
use Rattle.scheme_model.specs.Session as session
use Rattle.program_answers.specs.ToldAnswers.{answer_of}
use Rattle.program_answers.proofs.NewsLaws.{some_news}
use Rattle.program_answers.proofs.TextLists.{some_row}
use Rattle.rename_conditions.proofs.ReaderLaws.{reader_is_there}
use Rattle.rename_answers.specs.ToldRenames.{rename_told}
use Rattle.session_replies.specs.ToWire.{AreMessages, AreReplies, rename_reply, sent_id, sent_list}
use Rattle.session_replies.specs.Asked.{About, IsAnswerTo, News, Nothing, Question, Renaming}
use Rattle.session_replies.specs.FromWire.{encoding_of, pos_of}

-- a question that one answer answers, or none
abbrev pub AsksAnswer : Question → Type 0
AsksAnswer Nothing = Unit {0}
AsksAnswer (About encoding texts uri position query) = Unit {0}
AsksAnswer (Renaming encoding texts uri position new_name) = ⊥
AsksAnswer (News encoding before after uri) = ⊥

pub some_answer : (question : Question) → AsksAnswer question → (answer : Answer) × IsAnswerTo question answer
some_answer Nothing asks = (answers.Nothing, refl)
some_answer (About encoding texts uri position query) asks =
    let row = some_row (entries texts) in (answer_of (encoding_of encoding) (entries texts) row.0 uri (pos_of position) query, (row.0, row.1, refl))
some_answer (Renaming encoding texts uri position new_name) asks = absurd asks
some_answer (News encoding before after uri) asks = absurd asks

-- a question about what is news
abbrev pub AsksNews : Question → Type 0
AsksNews Nothing = ⊥
AsksNews (About encoding texts uri position query) = ⊥
AsksNews (Renaming encoding texts uri position new_name) = ⊥
AsksNews (News encoding before after uri) = Unit {0}

-- a question that a rename answers
abbrev pub AsksRename : Question → Type 0
AsksRename Nothing = ⊥
AsksRename (About encoding texts uri position query) = ⊥
AsksRename (Renaming encoding texts uri position new_name) = Unit {0}
AsksRename (News encoding before after uri) = ⊥

-- a reply that asks such a question, or none
abbrev pub AsksThat : session.Reply Question → Type 0
AsksThat (session.Capabilities id prepare encoding) = Unit {0}
AsksThat (session.Result id question) = AsksAnswer question
AsksThat (session.Renamed id question) = AsksRename question
AsksThat (session.Error id code text) = Unit {0}
AsksThat (session.Publish question) = AsksNews question
AsksThat (session.Log text) = Unit {0}

some_messages : (reply : session.Reply Question) → AsksThat reply → (messages : List Reply) × AreMessages reply messages
some_messages (session.Capabilities id prepare encoding) asks = (_, refl)
some_messages (session.Result id question) asks = let found = some_answer question asks in (replies.Result (sent_id id) found.0 ∷ [], (found.0, found.1, refl))
some_messages (session.Renamed id (Renaming encoding texts uri position new_name)) asks =
    let r = reader_is_there in (rename_reply (sent_id id) (rename_told r.0 (encoding_of encoding) (entries texts) uri (pos_of position) new_name) ∷ [], (r.0, r.1, refl))
some_messages (session.Renamed id Nothing) asks = absurd asks
some_messages (session.Renamed id (About encoding texts uri position query)) asks = absurd asks
some_messages (session.Renamed id (News encoding before after uri)) asks = absurd asks
some_messages (session.Error id code text) asks = (_, refl)
some_messages (session.Publish (News encoding before after uri)) asks =
    let found = some_news (encoding_of encoding) before after uri in (map sent_list found.0, (found.0, found.1, refl))
some_messages (session.Publish Nothing) asks = absurd asks
some_messages (session.Publish (About encoding texts uri position query)) asks = absurd asks
some_messages (session.Publish (Renaming encoding texts uri position new_name)) asks = absurd asks
some_messages (session.Log text) asks = (_, refl)

-- replies that ask such questions have messages
pub some_replies : (rs : List (session.Reply Question)) → AllByRecursion AsksThat rs → (messages : List Reply) × AreReplies rs messages
some_replies [] asks = ([], refl)
some_replies (r ∷ rs) asks =
    let first = some_messages r asks.0 in
    let rest = some_replies rs asks.1 in
    (first.0 ++ rest.0, record { first = first.0; rest = rest.0; split = refl; are_first = first.1; are_rest = rest.1 })
