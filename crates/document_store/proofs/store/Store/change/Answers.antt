use Rattle.std.proofs.Common.{◌≡◌, ◌≢◌, ap, sym, ◌∙◌, List, ℕ, Option, Some, None, w64, refl, rules, subst}
use Rattle.std.proofs.lemmas.Int.{to_z-of_z}
use Rattle.std.specs.Option.{option_map}
use Rattle.std.specs.FinMap.{get, insert, remove}
use Rattle.document_store.specs.declared.faults.StoreFault.TheVariants as fault
use Rattle.document_store.specs.declared.kept.Kept.{Kept}
use Rattle.document_store.specs.Texts.{Texts, Document, text_at, changed, Refusal, changed_to, edits, NotOpen}
use Rattle.document_store.specs.Faults.{Refused}
use Rattle.document_store.specs.Docs.{texts_of, document}
use Rattle.document_store.proofs.Events.{left_after, change_refused, left_others, insert_same}
use Rattle.document_store.proofs.TextsOf.{get_seen, texts_put}
use Rattle.document_store.proofs.store.Store.change.Goals as goal
use Rattle.document_store.proofs.store.Store.change.Goals.{In-Some}

pub returns-in_default-clause-event : goal.returns-in_default-clause-event
returns-in_default-clause-event c =
    let absent : get c.args.self.now c.args.uri.now ≡ None = get_seen c.self.inside.docs c.args.self.now c.args.uri.now None c.self.view_is c.in_default.ensures.value in
    ap (λ o. changed c.args.encoding c.args.self.now c.args.uri.now c.args.version c.args.changes.now (option_map (λ d. d.1) o)) absent
    ∙ ap (λ (m : Texts). (m, Some NotOpen)) (sym (ap (λ docs. texts_of docs.entries) c.get_mut.follows.holds-at-none ∙ c.self.view_is))

-- what is there
there : (c : In-Some) → get c.args.self.now c.args.uri.now ≡ Some (document c.in-Some.doc.now)
there c = get_seen c.self.inside.docs c.args.self.now c.args.uri.now (Some c.in-Some.doc.now) c.self.view_is c.in-Some.ensures.value

-- what the edits are of
text_is : (c : In-Some) → text_at c.args.self.now c.args.uri.now ≡ Some c.in-Some.doc.now.text
text_is c = ap (option_map (λ d. d.1)) (there c)

-- the store as it is where the document stays
kept : (c : In-Some) → texts_of (c.get_mut.follows.lender c.in-Some.doc.now).entries ≡ c.args.self.now
kept c =
    let written = c.get_mut.follows.holds c.in-Some.doc.now in
    texts_put c.self.inside.docs (c.get_mut.follows.lender c.in-Some.doc.now) c.args.uri.now _ (written.3 (search rules)) c.in-Some.doc.now refl
    ∙ ap (λ (m : Texts). insert m c.args.uri.now (document c.in-Some.doc.now)) c.self.view_is
    ∙ insert_same c.args.self.now c.args.uri.now (document c.in-Some.doc.now) (there c)

-- the store as it is where the document gets a text
put : (c : In-Some) (w : Kept) (d : Document) → document w ≡ d → texts_of (c.get_mut.follows.lender w).entries ≡ insert c.args.self.now c.args.uri.now d
put c w d is =
    let written = c.get_mut.follows.holds w in
    texts_put c.self.inside.docs (c.get_mut.follows.lender w) c.args.uri.now _ (written.3 (search rules)) w refl
    ∙ ap (λ (m : Texts). insert m c.args.uri.now (document w)) c.self.view_is
    ∙ ap (insert c.args.self.now c.args.uri.now) is

pub returns-in-Ok-clause-event : goal.returns-in-Ok-clause-event
returns-in-Ok-clause-event c =
    let outcome : Option (List ℕ) → Texts × Option Refusal = changed c.args.encoding c.args.self.now c.args.uri.now c.args.version c.args.changes.now in
    ap outcome (text_is (goal.at.returns-in-Ok-clause-event c).In-Some)
    ∙ ap (λ t. outcome (Some t)) (sym c.as_str.ensures)
    ∙ ap (changed_to c.args.self.now c.args.uri.now c.args.version) c.in-Ok.ensures.edits
    ∙ ap (λ (m : Texts). (m, None)) (sym (put (goal.at.returns-in-Ok-clause-event c).In-Some _ _ (ap (λ v. (v, c.in-Ok.text)) (to_z-of_z w64 c.args.version c.ranges.version))))

pub returns-then-eq-clause-event : goal.returns-then-eq-clause-event
returns-then-eq-clause-event c =
    let too_long : c.in-Err.fault ≡ fault.TooLong = search rules in
    let outcome : Option (List ℕ) → Texts × Option Refusal = changed c.args.encoding c.args.self.now c.args.uri.now c.args.version c.args.changes.now in
    let left : c.close.new.self ≡ left_after c.in-Err.fault c.args.self.now c.args.uri.now =
    c.close.ensures.closed ∙ ap (λ (m : Texts). remove m c.args.uri.now) (kept (goal.at.returns-then-eq-clause-event c).In-Some) ∙ ap (λ f. left_after f c.args.self.now c.args.uri.now) (sym too_long) in
    subst (Refused c.in-Err.fault c.args.self.now c.close.new.self) (ap (λ t. outcome (Some t)) c.as_str.ensures ∙ sym (ap outcome (text_is (goal.at.returns-then-eq-clause-event c).In-Some)))
    (change_refused c.in-Err.fault c.args.self.now c.close.new.self c.args.uri.now c.args.version (edits c.args.encoding c.args.changes.now c.as_str.result.now) c.in-Err.ensures.edits left)

pub returns-else-eq-clause-event : goal.returns-else-eq-clause-event
returns-else-eq-clause-event c =
    let other : c.in-Err.fault ≢ fault.TooLong = λ e. search rules in
    let outcome : Option (List ℕ) → Texts × Option Refusal = changed c.args.encoding c.args.self.now c.args.uri.now c.args.version c.args.changes.now in
    let left : texts_of (c.get_mut.follows.lender c.in-Some.doc.now).entries ≡ left_after c.in-Err.fault c.args.self.now c.args.uri.now =
    kept (goal.at.returns-else-eq-clause-event c).In-Some ∙ sym (left_others c.in-Err.fault c.args.self.now c.args.uri.now other) in
    subst (Refused c.in-Err.fault c.args.self.now (texts_of (c.get_mut.follows.lender c.in-Some.doc.now).entries)) (ap (λ t. outcome (Some t)) c.as_str.ensures ∙ sym (ap outcome (text_is (goal.at.returns-else-eq-clause-event c).In-Some)))
    (change_refused c.in-Err.fault c.args.self.now _ c.args.uri.now c.args.version (edits c.args.encoding c.args.changes.now c.as_str.result.now) c.in-Err.ensures.edits left)

pub returns-in_default-clause-kept : goal.returns-in_default-clause-kept
returns-in_default-clause-kept c = λ other. ap (λ docs. texts_of docs.entries) c.get_mut.follows.holds-at-none ∙ c.self.view_is

pub returns-then-eq-clause-kept : goal.returns-then-eq-clause-kept
returns-then-eq-clause-kept c = λ other. absurd (other (search rules))

pub returns-then-eq-clause-gone : goal.returns-then-eq-clause-gone
returns-then-eq-clause-gone c = λ long. c.close.ensures.closed ∙ ap (λ (m : Texts). remove m c.args.uri.now) (kept (goal.at.returns-then-eq-clause-gone c).In-Some)

pub returns-else-eq-clause-kept : goal.returns-else-eq-clause-kept
returns-else-eq-clause-kept c = λ other. kept (goal.at.returns-else-eq-clause-kept c).In-Some

pub returns-else-eq-clause-gone : goal.returns-else-eq-clause-gone
returns-else-eq-clause-gone c = λ long. search rules
