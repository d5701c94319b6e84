-- What an event of the workspace comes to in a session.
use Rattle.std.proofs.Common.{◌≡◌, ◌≢◌, ◌∙◌, ap, refl, sym, subst, ℕ, List, [], ◌∷◌, ◌++◌, map, append-nil, append_assoc, Bool, true, false, Option, Some, None}
use Rattle.std.specs.Option.{option_map}
use Rattle.ls_base.specs.declared.encoding.Encoding.{Encoding}
use Rattle.ls_base.specs.declared.encoding.Encoding.TheVariants as encodings
use Rattle.document_store.specs.declared.faults.StoreFault.{StoreFault}
use Rattle.document_store.specs.declared.faults.StoreFault.TheVariants as faults
use Rattle.document_store.specs.Texts as store
use Rattle.lsp_messages.specs.declared.reply.Reply.{Reply}
use Rattle.scheme_model.specs.Session as session
use Rattle.scheme_model.specs.Session.{evented, evented_to, logged, published, uri_of}
use Rattle.scheme_model.specs.Texts as texts
use Rattle.scheme_model.specs.Texts.{Texts, after}
use Rattle.document_changes.specs.Events as workspace
use Rattle.document_changes.specs.Events.{event_of, fault_of, leaves}
use Rattle.document_changes.specs.declared.events.DocEvent.{DocEvent}
use Rattle.document_changes.specs.declared.events.DocEvent.TheVariants as doc
use Rattle.program_answers.specs.Updates.{IsNewsOf, Publishes}
use Rattle.program_answers.specs.declared.publications.Published.{Published}
use Rattle.session_replies.specs.declared.out.Out.{Out}
use Rattle.session_replies.specs.Agreement.{said_event, said_after, said_refusal}
use Rattle.session_replies.specs.Asked.{News, Question, questions}
use Rattle.session_replies.specs.Events.{IsEvented, IsLogOf, LogsFault}
use Rattle.session_replies.specs.FromWire.{encoding_of, offsets, said_encoding}
use Rattle.session_replies.specs.States.{state_of}
use Rattle.session_replies.specs.Stepped.{IsOutcome}
use Rattle.session_replies.specs.ToWire.{AreReplies, sent_list}
use Rattle.session_replies.proofs.EventLaws.{events_agree}

pub encoding_of-said_encoding : (e : Encoding) → encoding_of (said_encoding e) ≡ e
encoding_of-said_encoding encodings.Utf8 = refl
encoding_of-said_encoding encodings.Utf16 = refl
encoding_of-said_encoding encodings.Utf32 = refl

-- ---- which events are left

pub leaves_agree : (event : store.Event) (r : Option store.Refusal) → session.leaves (said_event event) (option_map said_refusal r) ≡ leaves event r
leaves_agree (store.Added uri v t) None = refl
leaves_agree (store.Added uri v t) (Some store.NotOpen) = refl
leaves_agree (store.Added uri v t) (Some store.BadRange) = refl
leaves_agree (store.Added uri v t) (Some store.TooLong) = refl
leaves_agree (store.Added uri v t) (Some store.TooMany) = refl
leaves_agree (store.Changed uri v cs) None = refl
leaves_agree (store.Changed uri v cs) (Some store.NotOpen) = refl
leaves_agree (store.Changed uri v cs) (Some store.BadRange) = refl
leaves_agree (store.Changed uri v cs) (Some store.TooLong) = refl
leaves_agree (store.Changed uri v cs) (Some store.TooMany) = refl
leaves_agree (store.Closed uri) None = refl
leaves_agree (store.Closed uri) (Some store.NotOpen) = refl
leaves_agree (store.Closed uri) (Some store.BadRange) = refl
leaves_agree (store.Closed uri) (Some store.TooLong) = refl
leaves_agree (store.Closed uri) (Some store.TooMany) = refl

refusal_leaves : (event : store.Event) (r : store.Refusal) → r ≢ store.TooLong → leaves event (Some r) ≡ true
refusal_leaves (store.Added uri v t) store.NotOpen other = refl
refusal_leaves (store.Added uri v t) store.BadRange other = refl
refusal_leaves (store.Added uri v t) store.TooLong other = refl
refusal_leaves (store.Added uri v t) store.TooMany other = refl
refusal_leaves (store.Changed uri v cs) store.NotOpen other = refl
refusal_leaves (store.Changed uri v cs) store.BadRange other = refl
refusal_leaves (store.Changed uri v cs) store.TooLong other = absurd (other refl)
refusal_leaves (store.Changed uri v cs) store.TooMany other = refl
refusal_leaves (store.Closed uri) store.NotOpen other = refl
refusal_leaves (store.Closed uri) store.BadRange other = refl
refusal_leaves (store.Closed uri) store.TooLong other = refl
refusal_leaves (store.Closed uri) store.TooMany other = refl

-- an event that is refused for another reason than a long text is left
pub fault_leaves : (event : store.Event) (fault : StoreFault) (r : Option store.Refusal) → Some fault ≡ option_map fault_of r → fault ≢ faults.TooLong → leaves event r ≡ true
fault_leaves event fault None is other = cc
fault_leaves event fault (Some r) is other =
    let same : fault ≡ fault_of r = cc in refusal_leaves event r (λ long. other (same ∙ ap fault_of long))

-- ---- messages

pub replies_then : (a b : List (session.Reply Question)) (x y : List Reply) → AreReplies a x → AreReplies b y → AreReplies (a ++ b) (x ++ y)
replies_then [] b x y h k = subst (λ (z : List Reply). AreReplies b (z ++ y)) (sym h) k
replies_then (r ∷ a) b x y h k = record {
  first = h.first;
  rest = h.rest ++ y;
  split = ap (λ (z : List Reply). z ++ y) h.split ∙ append_assoc h.first h.rest y;
  are_first = h.are_first;
  are_rest = replies_then a b h.rest y h.are_rest k;
}

-- the lists of an event
are_published : (e : Encoding) (old new : Texts) (uri : List ℕ) (lists : List Published) (left : Bool) → Publishes left e old new uri lists →
    AreReplies (published left (News (said_encoding e) old new uri)) (map sent_list lists)
are_published e old new uri lists true none = ap (map sent_list) none
are_published e old new uri lists false news = record {
  first = map sent_list lists;
  rest = [];
  split = sym (append-nil (map sent_list lists));
  are_first = (lists, subst (λ (q : Encoding). IsNewsOf q old new uri lists) (sym (encoding_of-said_encoding e)) news, refl);
  are_rest = refl;
}

one_log : (refusal : texts.Refusal) (uri : List ℕ) (reply : Reply) → IsLogOf refusal uri reply → AreReplies (logged uri (Some refusal)) (reply ∷ [])
one_log refusal uri reply is = record { first = reply ∷ []; rest = []; split = refl; are_first = ap (λ (r : Reply). r ∷ []) is; are_rest = refl }

-- the log of an event
pub are_logged : (fault : StoreFault) (r : Option store.Refusal) (uri : List ℕ) (reply : Reply) → Some fault ≡ option_map fault_of r → LogsFault fault uri reply → AreReplies (logged uri (option_map said_refusal r)) (reply ∷ [])
are_logged fault None uri reply is log = cc
are_logged fault (Some store.NotOpen) uri reply is log = let same : fault ≡ faults.NotOpen = cc in one_log texts.NotOpen uri reply (subst (λ (f : StoreFault). LogsFault f uri reply) same log)
are_logged fault (Some store.BadRange) uri reply is log = let same : fault ≡ faults.BadRange = cc in one_log texts.BadRange uri reply (subst (λ (f : StoreFault). LogsFault f uri reply) same log)
are_logged fault (Some store.TooLong) uri reply is log = let same : fault ≡ faults.TooLong = cc in one_log texts.TooLong uri reply (subst (λ (f : StoreFault). LogsFault f uri reply) same log)
are_logged fault (Some store.TooMany) uri reply is log = let same : fault ≡ faults.TooMany = cc in one_log texts.TooMany uri reply (subst (λ (f : StoreFault). LogsFault f uri reply) same log)

pub no_log : (r : Option store.Refusal) (uri : List ℕ) → None ≡ option_map fault_of r → AreReplies (logged uri (option_map said_refusal r)) []
no_log None uri is = refl
no_log (Some r) uri is = cc

-- ---- the event

-- the texts that an event leaves, with its log and the lists behind it
pub comes_to : (e : Encoding) (old new : Texts) (event : store.Event) (lists : List Published) (log : List Reply) (out : Out) →
    new ≡ (store.after e old event).0 →
    Publishes (leaves event (store.after e old event).1) e old new (uri_of (said_event event)) lists →
    AreReplies (logged (uri_of (said_event event)) (option_map said_refusal (store.after e old event).1)) log →
    out.replies ≡ log ++ map sent_list lists → out.end ≡ None → IsEvented e old event out new
comes_to e old new event lists log out is news logs told goes = λ mode.
    let left = store.after e old event in
    let uri = uri_of (said_event event) in
    let state = state_of mode e old in
    let same : after offsets (said_encoding e) old (said_event event) ≡ said_after left =
    events_agree (said_encoding e) old event ∙ ap (λ (q : Encoding). said_after (store.after q old event)) (encoding_of-said_encoding e) in
    let to = subst (λ (b : Bool). AreReplies (published b (News (said_encoding e) old new uri)) (map sent_list lists)) (sym (leaves_agree event left.1))
    (are_published e old new uri lists (leaves event left.1) news) in
    let lists_told = subst (λ (t : Texts). AreReplies (published (session.leaves (said_event event) (option_map said_refusal left.1)) (News (said_encoding e) old t uri)) (map sent_list lists)) is to in
    let whole : IsOutcome (evented_to questions state (said_event event) (said_after left)) out (state_of mode e new) = record {
      state = ap (λ (t : Texts). state_of mode e t) is;
      replies = subst (λ (z : List Reply). AreReplies (evented_to questions state (said_event event) (said_after left)).replies z) (sym told) (replies_then _ _ log (map sent_list lists) logs lists_told);
      end = goes;
    } in
    subst (λ (l : Texts × Option texts.Refusal). IsOutcome (evented_to questions state (said_event event) l) out (state_of mode e new)) (sym same) whole

-- ---- the same, as the workspace answers

uri_same : (event : DocEvent) → workspace.uri_of event ≡ uri_of (said_event (event_of event))
uri_same (doc.Added uri v t) = refl
uri_same (doc.Changed uri v cs) = refl
uri_same (doc.Closed uri) = refl

-- what an event of the workspace leaves, with its refusal and the lists
pub record Updates (e : Encoding) (old new : Texts) (event : DocEvent) (refused : Option StoreFault) (lists : List Published) : Type 0 where
  pub texts : new ≡ (store.after e old (event_of event)).0
  pub refusal : refused ≡ option_map fault_of (store.after e old (event_of event)).1
  pub news : Publishes (leaves (event_of event) (store.after e old (event_of event)).1) e old new (workspace.uri_of event) lists

evented_with : (e : Encoding) (old new : Texts) (event : DocEvent) (refused : Option StoreFault) (lists : List Published) (log messages : List Reply) (out : Out) → Updates e old new event refused lists →
    AreReplies (logged (workspace.uri_of event) (option_map said_refusal (store.after e old (event_of event)).1)) log → messages ≡ log → out.replies ≡ messages ++ map sent_list lists → out.end ≡ None →
    IsEvented e old (event_of event) out new
evented_with e old new event refused lists log messages out w logs are told goes =
    let r = (store.after e old (event_of event)).1 in
    comes_to e old new (event_of event) lists log out w.texts
    (subst (λ (uri : List ℕ). Publishes (leaves (event_of event) r) e old new uri lists) (uri_same event) w.news)
    (subst (λ (uri : List ℕ). AreReplies (logged uri (option_map said_refusal r)) log) (uri_same event) logs)
    (told ∙ ap (λ (z : List Reply). z ++ map sent_list lists) are) goes

-- an event that isn't refused
pub accepts : (e : Encoding) (old new : Texts) (event : DocEvent) (refused : Option StoreFault) (lists : List Published) (messages : List Reply) (out : Out) → Updates e old new event refused lists →
    refused ≡ None → messages ≡ [] → out.replies ≡ messages ++ map sent_list lists → out.end ≡ None → IsEvented e old (event_of event) out new
accepts e old new event refused lists messages out w none empty told goes =
    evented_with e old new event refused lists [] messages out w
    (no_log (store.after e old (event_of event)).1 (workspace.uri_of event) (sym none ∙ w.refusal)) empty told goes

log_at : (e : Encoding) (old new : Texts) (event : DocEvent) (refused : Option StoreFault) (lists : List Published) (fault : StoreFault) (uri : List ℕ) (reply : Reply) → Updates e old new event refused lists →
    refused ≡ Some fault → uri ≡ workspace.uri_of event → LogsFault fault uri reply → AreReplies (logged (workspace.uri_of event) (option_map said_refusal (store.after e old (event_of event)).1)) (reply ∷ [])
log_at e old new event refused lists fault uri reply w some at log =
    are_logged fault (store.after e old (event_of event)).1 (workspace.uri_of event) reply (sym some ∙ w.refusal) (subst (λ (u : List ℕ). LogsFault fault u reply) at log)

-- one that is refused, with its log before its lists
pub refuses : (e : Encoding) (old new : Texts) (event : DocEvent) (refused : Option StoreFault) (lists : List Published) (fault : StoreFault) (uri : List ℕ) (reply : Reply) (messages more : List Reply) (out : Out) → Updates e old new event refused lists →
    refused ≡ Some fault → uri ≡ workspace.uri_of event → LogsFault fault uri reply → messages ≡ [] → more ≡ messages ++ reply ∷ [] → out.replies ≡ more ++ map sent_list lists → out.end ≡ None →
    IsEvented e old (event_of event) out new
refuses e old new event refused lists fault uri reply messages more out w some at log empty pushed told goes =
    evented_with e old new event refused lists (reply ∷ []) more out w (log_at e old new event refused lists fault uri reply w some at log) (pushed ∙ ap (λ (z : List Reply). z ++ reply ∷ []) empty) told goes

-- one that is refused for another reason than a long text leaves the texts
pub is_left : (e : Encoding) (old new : Texts) (event : DocEvent) (refused : Option StoreFault) (lists : List Published) (fault : StoreFault) → Updates e old new event refused lists →
    refused ≡ Some fault → fault ≢ faults.TooLong → leaves (event_of event) (store.after e old (event_of event)).1 ≡ true
is_left e old new event refused lists fault w some other = fault_leaves (event_of event) fault (store.after e old (event_of event)).1 (sym some ∙ w.refusal) other

-- and then publishes nothing
pub refuses_alone : (e : Encoding) (old new : Texts) (event : DocEvent) (refused : Option StoreFault) (lists : List Published) (fault : StoreFault) (uri : List ℕ) (reply : Reply) (out : Out) → Updates e old new event refused lists →
    refused ≡ Some fault → fault ≢ faults.TooLong → uri ≡ workspace.uri_of event → LogsFault fault uri reply → out ≡ record { replies = reply ∷ []; end = None } → IsEvented e old (event_of event) out new
refuses_alone e old new event refused lists fault uri reply out w some other at log is =
    let left = is_left e old new event refused lists fault w some other in
    let none : lists ≡ [] = subst (λ (b : Bool). Publishes b e old new (workspace.uri_of event) lists) left w.news in
    evented_with e old new event refused lists (reply ∷ []) (reply ∷ []) out w (log_at e old new event refused lists fault uri reply w some at log) refl
    (ap (λ (o : Out). o.replies) is ∙ ap (λ (ls : List Published). reply ∷ map sent_list ls) (sym none)) (ap (λ (o : Out). o.end) is)
