use Rattle.std.proofs.Common.{◌≡◌, ap, sym, ◌∙◌, List, ℕ, ℤ, None, is_some, nat_lt, length, ◌||◌, string_bytes, w64, to_z, of_z, refl}
use Rattle.std.proofs.lemmas.Int.{to_z-of_z}
use Rattle.std.specs.FinMap.{insert, len}
use Rattle.document_store.specs.Texts.{Texts, is_open}
use Rattle.document_store.specs.Docs.{texts_of}
use Rattle.document_store.proofs.Events.{adds, still_few}
use Rattle.document_store.proofs.TextsOf.{open_texts, len_texts, texts_put}
use Rattle.document_store.proofs.store.Store.add.Goals as goal

pub invariant_of-self-2 : goal.invariant_of-self-2
invariant_of-self-2 c =
    let there : is_some c.in_ok-insert.field-0 ≡ is_open c.args.self.now c.args.uri.now =
    ap is_some c.in_ok-insert.ensures.old ∙ sym (open_texts c.self.inside.docs (string_bytes c.in_ok-key.key)) ∙ ap (λ (m : Texts). is_open m (string_bytes c.in_ok-key.key)) c.self.view_is ∙ ap (is_open c.args.self.now) c.in_ok-key.ensures.ok in
    let count : len c.args.self.now ≡ length c.self.inside.docs.entries = ap (λ (m : Texts). len m) (sym c.self.view_is) ∙ len_texts c.self.inside.docs c.in_ok-insert.ensures.was_ordered in
    still_few (length c.self.inside.docs.entries) _ (is_some c.in_ok-insert.field-0) c.in_ok-insert.ensures.len c.self.invariant
    (ap (λ b. b || nat_lt (length c.self.inside.docs.entries) 64) there ∙ ap (λ n. is_open c.args.self.now c.args.uri.now || nat_lt n 64) (sym count) ∙ sym c.has_room.ensures ∙ c.if-not-has_room.false)

pub returns-clause-event : goal.returns-clause-event
returns-clause-event c =
    let put : texts_of c.insert.new.self.entries ≡ insert (texts_of c.self.inside.docs.entries) (string_bytes c.in_ok-key.key) (to_z w64 (of_z w64 c.args.version), c.in_ok-text.text) =
    texts_put c.self.inside.docs c.insert.new.self (string_bytes c.in_ok-key.key) _ c.in_ok-insert.ensures.updates _ refl in
    adds c.args.self.now c.args.uri.now c.args.version c.args.text.now (sym c.has_room.ensures ∙ c.if-not-has_room.false) c.if-text-gt-MAX_TEXT.false
    ∙ ap (λ (m : Texts). (m, None)) (sym (put
    ∙ ap (λ (m : Texts). insert m (string_bytes c.in_ok-key.key) (to_z w64 (of_z w64 c.args.version), c.in_ok-text.text)) c.self.view_is
    ∙ ap (λ (k : List ℕ). insert c.args.self.now k (to_z w64 (of_z w64 c.args.version), c.in_ok-text.text)) c.in_ok-key.ensures.ok
    ∙ ap (λ (v : ℤ). insert c.args.self.now c.args.uri.now (v, c.in_ok-text.text)) (to_z-of_z w64 c.args.version c.ranges.version)
    ∙ ap (λ (t : List ℕ). insert c.args.self.now c.args.uri.now (c.args.version, t)) c.in_ok-text.ensures))
