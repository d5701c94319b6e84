-- What the event leaves, and what is published of it.
use Rattle.std.proofs.Common.{◌≡◌, ℕ, List, length, Bool, ap, sym, ◌∙◌, subst, arith, true≢false}
use Rattle.std.specs.Option.{option_map}
use Rattle.std.specs.FinMap.{entries}
use Rattle.ls_base.specs.declared.encoding.Encoding.{Encoding}
use Rattle.document_store.specs.Texts.{Texts, after}
use Rattle.document_changes.specs.Events.{event_of, fault_of, uri_of}
use Rattle.read_documents.specs.Listed.{AreFoundOf}
use Rattle.workspace_state.specs.ProgramOfTexts.{IsProgramOfTexts}
use Rattle.read_documents.specs.Readings.{AreReadAs}
use Rattle.workspace_state.specs.State.{State, AreListsFor, ArePartsOf}
use Rattle.program_answers.specs.Updates.{ArePublished, OthersStay, Publishes, entries_shown, list_at}
use Rattle.document_changes.proofs.LeavesLaws.{left_texts, not_left, is_left_so}
use Rattle.workspace_state.proofs.NewsTold.{are_keyed, are_news}
use Rattle.document_changes.proofs.OthersLaws.{others_stay}
use Rattle.program_answers.proofs.TextLaws.{as_many}
use Rattle.workspace_state.proofs.workspace.Workspace.update.Goals as goal

-- the encoding and the texts are those of the workspace
same_encoding : (s t : State) → s ≡ t → s.encoding ≡ t.encoding
same_encoding s t same = ap (λ (x : State). x.encoding) same

same_texts : (s t : State) → s ≡ t → s.texts ≡ t.texts
same_texts s t same = ap (λ (x : State). x.texts) same

pub returns-then-is_left-clause-texts : goal.returns-then-is_left-clause-texts
returns-then-is_left-clause-texts g c =
    let s = c.args.self.now in
    let m = c.store.result.now in
    let event = event_of c.args.event.now in
    left_texts s.encoding s.texts m event c.in_ok-after.after.refused c.is_left.result (c.store.ensures ∙ same_texts _ _ c.self.view_is)
    (c.in_ok-after.ensures.refused ∙ ap (λ (e : Encoding). option_map fault_of (after e m event).1) (same_encoding _ _ c.self.view_is)) c.is_left.ensures c.if-is_left.true

pub returns-then-is_left-clause-refused : goal.returns-then-is_left-clause-refused
returns-then-is_left-clause-refused g c =
    let event = event_of c.args.event.now in
    let texts : c.store.result.now ≡ c.args.self.now.texts = c.store.ensures ∙ same_texts _ _ c.self.view_is in
    c.in_ok-after.ensures.refused ∙ (λ j. option_map fault_of (after (same_encoding _ _ c.self.view_is j) (texts j) event).1)

pub returns-clause-texts : goal.returns-clause-texts
returns-clause-texts g c =
    let event = event_of c.args.event.now in
    let texts : c.store.result.now ≡ c.args.self.now.texts = c.store.ensures ∙ same_texts _ _ c.self.view_is in
    c.in_ok-read.ensures.texts ∙ c.in_ok-after.ensures.texts ∙ (λ j. (after (same_encoding _ _ c.self.view_is j) (texts j) event).0)

pub returns-clause-still : goal.returns-clause-still
returns-clause-still g c = λ yes.
    let s = c.args.self.now in
    let m = c.store.result.now in
    let event = event_of c.args.event.now in
    not_left s.encoding s.texts m event c.in_ok-after.after.refused c.is_left.result (c.store.ensures ∙ same_texts _ _ c.self.view_is)
    (c.in_ok-after.ensures.refused ∙ ap (λ (e : Encoding). option_map fault_of (after e m event).1) (same_encoding _ _ c.self.view_is)) c.is_left.ensures c.if-is_left.false yes

pub returns-clause-refused : goal.returns-clause-refused
returns-clause-refused g c =
    let event = event_of c.args.event.now in
    let texts : c.store.result.now ≡ c.args.self.now.texts = c.store.ensures ∙ same_texts _ _ c.self.view_is in
    c.in_ok-after.ensures.refused ∙ (λ j. option_map fault_of (after (same_encoding _ _ c.self.view_is j) (texts j) event).1)

pub invariant_of-self : goal.invariant_of-self
invariant_of-self g c = record {
  program = subst (λ (t : Texts). IsProgramOfTexts t c.in_ok-read.read.1.expansion.work c.in_ok-read.read.1.expansion.program) (sym c.in_ok-read.ensures.texts) c.in_ok-read.ensures.program;
  lists = λ rs are. c.in_ok-now.ensures.listed rs are (subst (AreFoundOf rs) (sym c.as_slice.ensures.value) (c.in_ok-read.ensures.found rs (subst (λ (t : Texts). AreReadAs (entries t) rs) c.in_ok-read.ensures.texts are)));
  parts = subst (λ (t : Texts). ArePartsOf t c.in_ok-read.read.1.parts.items) (sym c.in_ok-read.ensures.texts) c.in_ok-read.ensures.parts;
}

pub returns-clause-published : goal.returns-clause-published
returns-clause-published g c =
    let s = c.args.self.now in
    let m = c.store.result.now in
    let changed = c.args.event.now in
    let event = event_of changed in
    let new = c.in_ok-read.read.0 in
    let old_lists = c.self.inside.lists in
    let new_lists = c.in_ok-now.now in
    let e : c.self.inside.encoding ≡ s.encoding = same_encoding _ _ c.self.view_is in
    let texts : m ≡ s.texts = c.store.ensures ∙ same_texts _ _ c.self.view_is in
    let left : new ≡ (after s.encoding s.texts event).0 = c.in_ok-read.ensures.texts ∙ c.in_ok-after.ensures.texts ∙ (λ j. (after (e j) (texts j) event).0) in
    let was : AreListsFor s.encoding s.texts (entries_shown old_lists) = subst (λ (t : State). AreListsFor t.encoding t.texts (entries_shown old_lists)) c.self.view_is c.self.invariant.lists in
    let is : AreListsFor s.encoding new (entries_shown new_lists) =
    subst (λ (f : Encoding). AreListsFor f new (entries_shown new_lists)) e
    (λ rs are. c.in_ok-now.ensures.listed rs are (subst (AreFoundOf rs) (sym c.as_slice.ensures.value) (c.in_ok-read.ensures.found rs (subst (λ (t : Texts). AreReadAs (entries t) rs) c.in_ok-read.ensures.texts are)))) in
    let stay : OthersStay (uri_of changed) new (list_at old_lists) (list_at new_lists) =
    subst (λ (t : Texts). OthersStay (uri_of changed) t (list_at old_lists) (list_at new_lists)) (sym left)
    (others_stay s.encoding s.texts changed old_lists new_lists (are_keyed s.encoding s.texts old_lists was)
    (are_keyed s.encoding (after s.encoding s.texts event).0 new_lists (subst (λ (t : Texts). AreListsFor s.encoding t (entries_shown new_lists)) left is))) in
    let published : ArePublished (uri_of changed) new (list_at old_lists) (list_at new_lists) c.in_ok-lists.lists =
    subst (λ (u : List ℕ). ArePublished u new (list_at old_lists) (list_at new_lists) c.in_ok-lists.lists) c.uri.ensures
    (c.in_ok-lists.ensures.news new c.documents.ensures (subst (λ (u : List ℕ). OthersStay u new (list_at old_lists) (list_at new_lists)) (sym c.uri.ensures) stay)) in
    let told = is_left_so s.encoding s.texts m event c.in_ok-after.after.refused c.is_left.result texts
    (c.in_ok-after.ensures.refused ∙ ap (λ (f : Encoding). option_map fault_of (after f m event).1) e) c.is_left.ensures in
    subst (λ (l : Bool). Publishes l s.encoding s.texts new (uri_of changed) c.in_ok-lists.lists) (sym c.if-is_left.false ∙ told)
    (are_news s.encoding s.texts new (uri_of changed) old_lists new_lists was is c.in_ok-lists.lists published)

pub returns-clause-few : goal.returns-clause-few
returns-clause-few g c =
    let many = as_many (entries c.in_ok-read.read.0) c.documents.result.now c.documents.ensures in
    omega (arith, c.in_ok-lists.ensures.few, c.in_ok-read.ensures.few, many, ap (λ (t : Texts). length (entries t)) c.in_ok-read.ensures.texts)

-- ---- steps

pub returns-then-is_left-clause-steps : goal.returns-then-is_left-clause-steps
returns-then-is_left-clause-steps g c = λ no rs are.
    let s = c.args.self.now in
    let m = c.store.result.now in
    let event = event_of c.args.event.now in
    let told = is_left_so s.encoding s.texts m event c.in_ok-after.after.refused c.is_left.result (c.store.ensures ∙ same_texts _ _ c.self.view_is)
    (c.in_ok-after.ensures.refused ∙ ap (λ (e : Encoding). option_map fault_of (after e m event).1) (same_encoding _ _ c.self.view_is)) c.is_left.ensures in
    absurd (true≢false (sym c.if-is_left.true ∙ told ∙ no))

pub returns-clause-quiet : goal.returns-clause-quiet
returns-clause-quiet g c = λ yes.
    let s = c.args.self.now in
    let m = c.store.result.now in
    let event = event_of c.args.event.now in
    let told = is_left_so s.encoding s.texts m event c.in_ok-after.after.refused c.is_left.result (c.store.ensures ∙ same_texts _ _ c.self.view_is)
    (c.in_ok-after.ensures.refused ∙ ap (λ (e : Encoding). option_map fault_of (after e m event).1) (same_encoding _ _ c.self.view_is)) c.is_left.ensures in
    absurd (true≢false (sym yes ∙ sym told ∙ c.if-is_left.false))

pub returns-clause-steps : goal.returns-clause-steps
returns-clause-steps g c = λ no rs are. c.in_ok-read.ensures.steps rs (subst (λ (t : Texts). AreReadAs (entries t) rs) c.in_ok-read.ensures.texts are)
