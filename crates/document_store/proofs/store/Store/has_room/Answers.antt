use Rattle.std.proofs.Common.{◌≡◌, ap, sym, ◌∙◌, nat_lt, ◌||◌}
use Rattle.std.specs.FinMap.{len}
use Rattle.document_store.specs.Texts.{Texts, is_open}
use Rattle.document_store.proofs.TextsOf.{open_texts, len_texts}
use Rattle.document_store.proofs.store.Store.has_room.Goals as goal
use Rattle.document_store.proofs.store.Store.has_room.Goals.{After-contains_key}

open_is : (c : After-contains_key) → c.contains_key.result ≡ is_open c.args.self.now c.args.uri.now
open_is c = c.contains_key.ensures ∙ sym (open_texts c.self.inside.docs c.args.uri.now) ∙ ap (λ (m : Texts). is_open m c.args.uri.now) c.self.view_is

pub returns-then-contains_key : goal.returns-then-contains_key
returns-then-contains_key c =
    c.if-contains_key.true ∙ ap (λ b. b || nat_lt (len c.args.self.now) 64) (sym c.if-contains_key.true ∙ open_is (goal.at.returns-then-contains_key c).After-contains_key)

pub returns-else-contains_key : goal.returns-else-contains_key
returns-else-contains_key c =
    let count : c.len.result ≡ len c.args.self.now = c.len.ensures.len ∙ sym (len_texts c.self.inside.docs c.len.ensures.ordered) ∙ ap (λ (m : Texts). len m) c.self.view_is in
    ap (λ n. nat_lt n 64) count
    ∙ ap (λ b. b || nat_lt (len c.args.self.now) 64) (sym c.if-contains_key.false ∙ open_is (goal.at.returns-else-contains_key c).After-contains_key)
