-- Both definitions of what events make of the texts are one.
use Rattle.std.proofs.Common.{◌≡◌, ℕ, ℤ, ◌∙◌, ap, refl, arith, List, [], ◌∷◌, map, Bool, true, false, cond, not, ◌&&◌, ◌||◌, nat_lt, nat_le, Option, Some, None, Result, Ok, Err}
use Rattle.std.specs.FinMap.{insert, remove, len}
use Rattle.std.specs.Option.{option_map}
use Rattle.std.proofs.lemmas.Bool.Decides.{nat_tests}
use Rattle.ls_base.specs.declared.answers.Change.{Change}
use Rattle.ls_base.specs.declared.places.Range.{Range}
use Rattle.ls_base.specs.Limits.{max_documents}
use Rattle.document_store.specs.Texts as store
use Rattle.scheme_model.specs.Texts as texts
use Rattle.session_replies.specs.FromWire.{encoding_of, offsets, said_change, said_range}
use Rattle.session_replies.specs.Agreement.{said_event, said_refusal, said_after}

-- a text after edits, or the refusal
abbrev pub said_edit : Result (List ℕ) store.Refusal → Result (List ℕ) texts.Refusal
said_edit (Ok text) = Ok text
said_edit (Err refusal) = Err (said_refusal refusal)

cond-said_edit : (b : Bool) (x y : Result (List ℕ) store.Refusal) → cond b (said_edit x) (said_edit y) ≡ said_edit (cond b x y)
cond-said_edit true x y = refl
cond-said_edit false x y = refl

cond-said_after : (b : Bool) (x y : store.Texts × Option store.Refusal) → cond b (said_after x) (said_after y) ≡ said_after (cond b x y)
cond-said_after true x y = refl
cond-said_after false x y = refl

within_limit_agrees : (text : List ℕ) → texts.within_limit text ≡ said_edit (store.within_limit text)
within_limit_agrees text = cond-said_edit (store.is_long text) (Err store.TooLong) (Ok text)

edited_at : (e : texts.Encoding) (text new : List ℕ) (range : Option Range) →
    texts.edited offsets e text (record { range = option_map said_range range; text = new }) ≡ said_edit (store.edited (encoding_of e) text (record { range = range; text = new }))
edited_at e text new None = within_limit_agrees new
edited_at e text new (Some range) =
    ap (cond (store.is_before range.end range.start) (Err texts.BadRange)) (within_limit_agrees (store.replaced (encoding_of e) text (Some range) new))
    ∙ cond-said_edit (store.is_before range.end range.start) (Err store.BadRange) (store.within_limit (store.replaced (encoding_of e) text (Some range) new))

edited_agrees : (e : texts.Encoding) (text : List ℕ) (change : Change) → texts.edited offsets e text (said_change change) ≡ said_edit (store.edited (encoding_of e) text change)
edited_agrees e text change = edited_at e text change.text change.range

chained : (edit : Result (List ℕ) store.Refusal) (next : List ℕ → Result (List ℕ) texts.Refusal) (next' : List ℕ → Result (List ℕ) store.Refusal) →
    ((text : List ℕ) → next text ≡ said_edit (next' text)) → texts.◌>>=◌ (said_edit edit) next ≡ said_edit (store.◌>>=◌ edit next')
chained (Ok text) next next' same = same text
chained (Err refusal) next next' same = refl

edits_agree : (e : texts.Encoding) (changes : List Change) (text : List ℕ) → texts.edits offsets e (map said_change changes) text ≡ said_edit (store.edits (encoding_of e) changes text)
edits_agree e [] text = refl
edits_agree e (change ∷ changes) text =
    ap (λ edit. texts.◌>>=◌ edit (texts.edits offsets e (map said_change changes))) (edited_agrees e text change)
    ∙ chained (store.edited (encoding_of e) text change) (texts.edits offsets e (map said_change changes)) (store.edits (encoding_of e) changes) (edits_agree e changes)

changed_to_agrees : (old : store.Texts) (uri : List ℕ) (version : ℤ) (edit : Result (List ℕ) store.Refusal) →
    texts.changed_to old uri version (said_edit edit) ≡ said_after (store.changed_to old uri version edit)
changed_to_agrees old uri version (Ok text) = refl
changed_to_agrees old uri version (Err store.NotOpen) = refl
changed_to_agrees old uri version (Err store.BadRange) = refl
changed_to_agrees old uri version (Err store.TooLong) = refl
changed_to_agrees old uri version (Err store.TooMany) = refl

changed_agrees : (e : texts.Encoding) (old : store.Texts) (uri : List ℕ) (version : ℤ) (changes : List Change) (text : Option (List ℕ)) →
    texts.changed offsets e old uri version (map said_change changes) text ≡ said_after (store.changed (encoding_of e) old uri version changes text)
changed_agrees e old uri version changes None = refl
changed_agrees e old uri version changes (Some text) =
    ap (texts.changed_to old uri version) (edits_agree e changes text) ∙ changed_to_agrees old uri version (store.edits (encoding_of e) changes text)

no_room : (there : Bool) (n : ℕ) → (not there && nat_le texts.max_documents n) ≡ not (there || nat_lt n max_documents)
no_room true n = refl
no_room false n = grind (arith, nat_tests)

-- what events make of the texts
pub events_agree : (e : texts.Encoding) (old : store.Texts) (event : store.Event) → texts.after offsets e old (said_event event) ≡ said_after (store.after (encoding_of e) old event)
events_agree e old (store.Added uri version text) =
    ap (λ b. cond b (old, Some texts.TooMany) (cond (texts.is_long text) (old, Some texts.TooLong) (insert old uri (version, text), None))) (no_room (store.is_open old uri) (len old))
    ∙ ap (cond (not (store.has_room old uri)) (old, Some texts.TooMany)) (cond-said_after (store.is_long text) (old, Some store.TooLong) (insert old uri (version, text), None))
    ∙ cond-said_after (not (store.has_room old uri)) (old, Some store.TooMany) (cond (store.is_long text) (old, Some store.TooLong) (insert old uri (version, text), None))
events_agree e old (store.Changed uri version changes) = changed_agrees e old uri version changes (store.text_at old uri)
events_agree e old (store.Closed uri) = cond-said_after (store.is_open old uri) (remove old uri, None) (old, Some store.NotOpen)
