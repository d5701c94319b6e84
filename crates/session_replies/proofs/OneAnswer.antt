-- A question has one answer.
use Rattle.std.proofs.Common.{◌≡◌, List, [], ◌∷◌, ◌++◌, map, sym, ap, ◌∙◌}
use Rattle.std.specs.FinMap.{entries}
use Rattle.ls_base.specs.declared.answers.Answer.{Answer}
use Rattle.scheme_model.specs.Session as session
use Rattle.session_replies.specs.FromWire.{encoding_of, pos_of}
use Rattle.read_documents.specs.Readings.{Read}
use Rattle.program_answers.specs.ToldAnswers.{answer_of}
use Rattle.program_answers.specs.declared.publications.Published.{Published}
use Rattle.program_answers.proofs.NewsLaws.{one_news}
use Rattle.program_answers.proofs.TextLists as texts
use Rattle.rename_conditions.specs.Readers.{Reader}
use Rattle.rename_conditions.proofs.ReaderLaws.{readers_are_one}
use Rattle.rename_answers.specs.ToldRenames.{rename_told}
use Rattle.session_replies.specs.Asked.{IsAnswerTo, ArePublishedFor, Nothing, About, Renaming, News, Question}
use Rattle.lsp_messages.specs.declared.reply.Reply.{Reply}
use Rattle.lsp_messages.specs.declared.reply.Reply.TheVariants as replies
use Rattle.session_replies.specs.ToWire.{AreMessages, AreRenamed, AreReplies, rename_reply, sent_id, sent_list}

pub one_answer : (question : Question) (a b : Answer) → IsAnswerTo question a → IsAnswerTo question b → a ≡ b
one_answer Nothing a b h k = h ∙ sym k
one_answer (About encoding opened uri position query) a b h k =
    let told : List Read → Answer = λ rs. answer_of (encoding_of encoding) (entries opened) rs uri (pos_of position) query in
    h.2 ∙ ap told (texts.one_row (entries opened) h.0 k.0 h.1 k.1) ∙ sym k.2
one_answer (Renaming encoding opened uri position new_name) a b h k = absurd h
one_answer (News encoding before after uri) a b h k = absurd h

pub one_row : (question : Question) (a b : List Published) → ArePublishedFor question a → ArePublishedFor question b → a ≡ b
one_row Nothing a b h k = absurd h
one_row (About encoding texts uri position query) a b h k = absurd h
one_row (Renaming encoding texts uri position new_name) a b h k = absurd h
one_row (News encoding before after uri) a b h k = one_news (encoding_of encoding) before after uri a b h k

one_renamed : (id : session.Id) (question : Question) (a b : List Reply) → AreRenamed id question a → AreRenamed id question b → a ≡ b
one_renamed id Nothing a b h k = absurd h
one_renamed id (About encoding opened uri position query) a b h k = absurd h
one_renamed id (Renaming encoding opened uri position new_name) a b h k =
    let told : Reader → List Reply = λ r. rename_reply (sent_id id) (rename_told r (encoding_of encoding) (entries opened) uri (pos_of position) new_name) ∷ [] in
    h.2 ∙ ap told (readers_are_one h.0 k.0 h.1 k.1) ∙ sym k.2
one_renamed id (News encoding before after uri) a b h k = absurd h

one_message : (reply : session.Reply Question) (a b : List Reply) → AreMessages reply a → AreMessages reply b → a ≡ b
one_message (session.Capabilities id prepare encoding) a b h k = h ∙ sym k
one_message (session.Result id question) a b h k =
    h.2 ∙ ap (λ (answer : Answer). replies.Result (sent_id id) answer ∷ []) (one_answer question h.0 k.0 h.1 k.1) ∙ sym k.2
one_message (session.Renamed id question) a b h k = one_renamed id question a b h k
one_message (session.Error id code text) a b h k = h ∙ sym k
one_message (session.Publish question) a b h k = h.2 ∙ ap (map sent_list) (one_row question h.0 k.0 h.1 k.1) ∙ sym k.2
one_message (session.Log text) a b h k = h ∙ sym k

pub one_replies : (rs : List (session.Reply Question)) (a b : List Reply) → AreReplies rs a → AreReplies rs b → a ≡ b
one_replies [] a b h k = h ∙ sym k
one_replies (r ∷ rs) a b h k =
    h.split ∙ (λ j. one_message r h.first k.first h.are_first k.are_first j ++ one_replies rs h.rest k.rest h.are_rest k.are_rest j) ∙ sym k.split
