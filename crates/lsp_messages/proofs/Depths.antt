-- No message to the client nests deep, so each reads as its JSON.
use Rattle.std.proofs.Common.{ℕ, ℤ, ◌≤◌, List, [], ◌∷◌, map, Bool, true, false, Option, Some, None, Ordering, Less, Equal, Greater, arith, lit≤}
use Rattle.std.specs.Ordering.{nat_cmp, match_ordering}
use Rattle.std.specs.Cmp.Lexicographic.{slice_cmp}
use Rattle.serde_json.specs.Data.{Data, Members, no_members, member, put, depth, items_depth, members_depth}
use Rattle.serde_json.specs.View.{items_of}
use Rattle.ls_base.specs.declared.answers.DocEdits.{DocEdits}
use Rattle.ls_base.specs.declared.answers.Answer.{Answer}
use Rattle.ls_base.specs.declared.answers.Answer.TheVariants as answers
use Rattle.lsp_messages.specs.declared.message.Id.{Id}
use Rattle.lsp_messages.specs.declared.message.Id.TheVariants.{Number, Name}
use Rattle.lsp_messages.specs.declared.reply.Reply.{Reply}
use Rattle.lsp_messages.specs.declared.reply.Reply.TheVariants as replies
use Rattle.lsp_messages.specs.Replies.{list_json, place_json, highlight_json, arrow_json, text_edit_json, diagnostic_json, with_documents, id_json, optional_id_json, answer_json, rename_json, version_member, reply_json}

items_depth-map : {A : Type 0} (n : ℕ) (json : A → Data) (xs : List A) → ((x : A) → depth (json x) ≤ n) → items_depth (items_of (map json xs)) ≤ n
items_depth-map n json [] low = omega arith
items_depth-map n json (x ∷ xs) low = omega (arith, low x, items_depth-map n json xs low)

either : (n : ℕ) (o : Ordering) (a b c : Members) → members_depth a ≤ n → members_depth b ≤ n → members_depth c ≤ n → members_depth (match_ordering o a b c) ≤ n
either n Less a b c x y z = x
either n Equal a b c x y z = y
either n Greater a b c x y z = z

members_depth-put : (n : ℕ) (k : List ℕ) (d : Data) (ms : Members) → depth d ≤ n → members_depth ms ≤ n → members_depth (put k d ms) ≤ n
members_depth-put n k d no_members x y = omega (arith, x)
members_depth-put n k d (member l e ms) x y =
    let here : depth e ≤ n = omega (arith, y) in
    let rest : members_depth ms ≤ n = omega (arith, y) in
    let after = members_depth-put n k d ms x rest in
    either n (slice_cmp nat_cmp k l) (member k d (member l e ms)) (member l d ms) (member l e (put k d ms))
    (omega (arith, x, here, rest)) (omega (arith, x, rest)) (omega (arith, here, after))

members_depth-with_documents : (found : Members) (ds : List DocEdits) → members_depth found ≤ 4 → members_depth (with_documents found ds) ≤ 4
members_depth-with_documents found [] low = low
members_depth-with_documents found (d ∷ ds) low =
    let edits = items_depth-map 3 text_edit_json d.edits (λ e. lit≤ tt) in
    let listed : depth (list_json text_edit_json d.edits) ≤ 4 = omega (arith, edits) in
    members_depth-with_documents (put d.uri (list_json text_edit_json d.edits) found) ds (members_depth-put 4 d.uri (list_json text_edit_json d.edits) found listed low)

depth-id_json : (id : Id) → depth (id_json id) ≤ 0
depth-id_json (Number n) = lit≤ tt
depth-id_json (Name s) = lit≤ tt

depth-optional_id_json : (id : Option Id) → depth (optional_id_json id) ≤ 0
depth-optional_id_json None = lit≤ tt
depth-optional_id_json (Some id) = depth-id_json id

depth-rename_json : (prepare : Bool) → depth (rename_json prepare) ≤ 1
depth-rename_json true = lit≤ tt
depth-rename_json false = lit≤ tt

members_depth-version_member : (version : Option ℤ) → members_depth (version_member version) ≤ 0
members_depth-version_member None = lit≤ tt
members_depth-version_member (Some version) = lit≤ tt

depth-answer_json : (answer : Answer) → depth (answer_json answer) ≤ 9
depth-answer_json answers.Nothing = lit≤ tt
depth-answer_json (answers.Places places) = omega (arith, items_depth-map 3 place_json places (λ p. lit≤ tt))
depth-answer_json (answers.Highlights highlights) = omega (arith, items_depth-map 3 highlight_json highlights (λ h. lit≤ tt))
depth-answer_json (answers.Prepared range placeholder) = lit≤ tt
depth-answer_json (answers.Arrows arrows) = omega (arith, items_depth-map 4 arrow_json arrows (λ a. lit≤ tt))
depth-answer_json (answers.Edits edits) = omega (arith, members_depth-with_documents no_members edits (lit≤ tt))

pub depth-reply_json : (reply : Reply) → depth (reply_json reply) ≤ 127
depth-reply_json (replies.Capabilities id prepare encoding) = omega (arith, depth-id_json id, depth-rename_json prepare)
depth-reply_json (replies.Result id answer) = omega (arith, depth-id_json id, depth-answer_json answer)
depth-reply_json (replies.Error id code text) = omega (arith, depth-optional_id_json id)
depth-reply_json (replies.Publish uri version list) = omega (arith, items_depth-map 3 diagnostic_json list (λ d. lit≤ tt), members_depth-version_member version)
depth-reply_json (replies.Log text) = lit≤ tt
