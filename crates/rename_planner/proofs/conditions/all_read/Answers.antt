use Rattle.std.proofs.Common.{◌≡◌, ℕ, List, Option, Some, None, refl, sym, ap, ◌∙◌, subst, map}
use Rattle.std.specs.FinMap.{entries}
use Rattle.std.specs.Option.{option_map}
use Rattle.rename_conditions.specs.Renames.{Unreadable, first_unread}
use Rattle.rename_answers.specs.ReadDocuments.{reading_of}
use Rattle.rename_answers.proofs.ConditionLaws.{IsNumbered, unread_one}
use Rattle.rename_planner.proofs.StepLaws.{document_refuses, no_document}
use Rattle.rename_planner.proofs.conditions.all_read.Goals as goal

pub returns-in_ok-of-in-Some : goal.returns-in_ok-of-in-Some
returns-in_ok-of-in-Some c = λ rs are.
    let ds = entries c.args.ws.now.texts in
    let told = sym (c.unreadable.ensures rs are) ∙ ap (option_map (λ uri. uri.now)) c.in-Some.is in
    let o = first_unread 0 (map reading_of rs) in
    document_refuses _ c.args.ws.now.encoding ds c.in-Some.uri.now o Unreadable _
    (subst (λ (u : Option (List ℕ)). IsNumbered 0 ds u o) told (unread_one 0 ds rs are)) (λ m q. (m, refl, c.in_ok-of-in-Some.ensures ∙ q))

pub returns-in-None : goal.returns-in-None
returns-in-None c = λ rs are.
    let ds = entries c.args.ws.now.texts in
    let told = sym (c.unreadable.ensures rs are) ∙ ap (option_map (λ uri. uri.now)) c.in-None.is in
    let o = first_unread 0 (map reading_of rs) in
    no_document c.args.ws.now.encoding ds o Unreadable _ (subst (λ (u : Option (List ℕ)). IsNumbered 0 ds u o) told (unread_one 0 ds rs are))
