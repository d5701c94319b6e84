-- The steps that a message counts are the macro uses of its replies.
use Rattle.std.proofs.Common.{◌≡◌, ◌∙◌, ap, refl, sym, subst, ℕ, ◌+◌, List, [], ◌∷◌, ◌++◌, Bool, true, false, Option, Some, None, arith}
use Rattle.std.specs.FinMap.{entries}
use Rattle.std.specs.Option.{option_map}
use Rattle.ls_base.specs.declared.encoding.Encoding.{Encoding}
use Rattle.document_store.specs.Texts as store
use Rattle.scheme_model.specs.Session as session
use Rattle.scheme_model.specs.Session.{Reply, Id, Call, Note, Initialize, Shutdown, Ask, Rename, State, evented, evented_to, logged, published, uri_of}
use Rattle.scheme_model.specs.Texts as texts
use Rattle.scheme_model.specs.Texts.{Texts, after}
use Rattle.document_changes.specs.Events.{leaves}
use Rattle.read_documents.specs.Readings.{Read, AreReadAs, uses_in}
use Rattle.program_answers.proofs.TextLists.{some_row, one_row}
use Rattle.session_replies.specs.Agreement.{said_event, said_after, said_refusal}
use Rattle.rename_conditions.specs.Readers.{Reader, IsReader}
use Rattle.rename_conditions.proofs.ReaderLaws.{reader_is_there, readers_are_one}
use Rattle.rename_answers.specs.ToldRenames.{rename_uses}
use Rattle.session_replies.specs.Asked.{Question, Nothing, About, Renaming, News, questions}
use Rattle.session_replies.specs.Counted.{AreUsesOf, AreUsesFor, IsCounted, AreCounted}
use Rattle.session_replies.specs.FromWire.{encoding_of, offsets, pos_of, said_encoding}
use Rattle.session_replies.specs.States.{state_of}
use Rattle.session_replies.specs.declared.mode.Mode as code_mode
use Rattle.session_replies.proofs.EventLaws.{events_agree}
use Rattle.session_replies.proofs.Evented.{encoding_of-said_encoding, leaves_agree}

none_more : (n : ℕ) → n + 0 ≡ n
none_more n = omega arith

-- a reply for which nothing is expanded
pub one_still : (n : ℕ) → n ≡ n + 0
one_still n = omega arith

-- ---- rows of replies

pub counted_then : (a b : List (Reply Question)) (from mid to : ℕ) → AreCounted a from mid → AreCounted b mid to → AreCounted (a ++ b) from to
counted_then [] b from mid to h k = subst (λ (n : ℕ). AreCounted b n to) h k
counted_then (r ∷ a) b from mid to h k = (h.0, h.1, counted_then a b (from + h.0) mid to h.2 k)

-- ---- an event

logs_still : (uri : List ℕ) (r : Option texts.Refusal) (n : ℕ) → AreCounted (logged uri r) n n
logs_still uri None n = refl
logs_still uri (Some refusal) n = (0, refl, one_still n)

lists_counted : (e : Encoding) (old new : Texts) (uri : List ℕ) (left : Bool) (from to : ℕ) → (left ≡ true → to ≡ from) → (left ≡ false → (rs : List Read) → AreReadAs (entries new) rs → to ≡ from + uses_in rs) →
    AreCounted (published left (News (said_encoding e) old new uri)) from to
lists_counted e old new uri true from to quiet steps = quiet refl
lists_counted e old new uri false from to quiet steps = let row = some_row (entries new) in (uses_in row.0, (row.0, row.1, refl), steps refl row.0 row.1)

pub event_counted : (mode : code_mode.Mode) (e : Encoding) (old new : Texts) (event : store.Event) (from to : ℕ) → new ≡ (store.after e old event).0 → (leaves event (store.after e old event).1 ≡ true → to ≡ from) →
    (leaves event (store.after e old event).1 ≡ false → (rs : List Read) → AreReadAs (entries new) rs → to ≡ from + uses_in rs) →
    AreCounted (evented offsets questions (state_of mode e old) (said_event event)).replies from to
event_counted mode e old new event from to is quiet steps =
    let left = store.after e old event in
    let uri = uri_of (said_event event) in
    let state = state_of mode e old in
    let same : after offsets (said_encoding e) old (said_event event) ≡ said_after left =
    events_agree (said_encoding e) old event ∙ ap (λ (q : Encoding). said_after (store.after q old event)) (encoding_of-said_encoding e) in
    let lists : AreCounted (published (session.leaves (said_event event) (option_map said_refusal left.1)) (News (said_encoding e) old left.0 uri)) from to =
    subst (λ (b : Bool). AreCounted (published b (News (said_encoding e) old left.0 uri)) from to) (sym (leaves_agree event left.1))
    (subst (λ (t : Texts). AreCounted (published (leaves event left.1) (News (said_encoding e) old t uri)) from to) is (lists_counted e old new uri (leaves event left.1) from to quiet steps)) in
    let whole : AreCounted (evented_to questions state (said_event event) (said_after left)).replies from to =
    counted_then (logged uri (option_map said_refusal left.1)) _ from from to (logs_still uri (option_map said_refusal left.1) from) lists in
    subst (λ (l : Texts × Option texts.Refusal). AreCounted (evented_to questions state (said_event event) l).replies from to) (sym same) whole

-- ---- requests

pub fresh_still : (s : State) (id : Id) (call : Call) (n : ℕ) → AreCounted (session.called_fresh {A = Question} s id call).replies n n
fresh_still s id (Initialize prepare encoding) n = (0, refl, one_still n)
fresh_still s id Shutdown n = (0, refl, one_still n)
fresh_still s id (Ask uri position query) n = (0, refl, one_still n)
fresh_still s id (Rename uri position new_name) n = (0, refl, one_still n)

-- a rename, by how texts read
pub rename_counted : (s : State) (id : Id) (uri : List ℕ) (position : texts.Position) (new_name : List ℕ) (from to : ℕ) →
    ((r : Reader) → IsReader r → to ≡ from + rename_uses r (encoding_of s.encoding) (entries s.texts) uri (pos_of position) new_name) →
    AreCounted (session.called questions s id (Rename uri position new_name)).replies from to
rename_counted s id uri position new_name from to steps =
    let r = reader_is_there in (rename_uses r.0 (encoding_of s.encoding) (entries s.texts) uri (pos_of position) new_name, (r.0, r.1, refl), steps r.0 r.1)

-- a notification in another mode
pub dropped_still : (s : State) (note : Note) (n : ℕ) → AreCounted (session.dropped {A = Question} s note).replies n n
dropped_still s session.Exit n = refl
dropped_still s (session.Document event) n = refl
dropped_still s (session.BadParams method) n = refl
dropped_still s session.Other n = refl

-- ---- one count

uses_same : (t : Texts) (m n : ℕ) → AreUsesOf t m → AreUsesOf t n → m ≡ n
uses_same t m n a b = a.2 ∙ ap uses_in (one_row (entries t) a.0 b.0 a.1 b.1) ∙ sym b.2

question_same : (q : Question) (m n : ℕ) → AreUsesFor q m → AreUsesFor q n → m ≡ n
question_same Nothing m n a b = a ∙ sym b
question_same (About encoding t uri position query) m n a b = a ∙ sym b
question_same (Renaming encoding t uri position new_name) m n a b =
    let uses : Reader → ℕ = λ r. rename_uses r (encoding_of encoding) (entries t) uri (pos_of position) new_name in
    a.2 ∙ ap uses (readers_are_one a.0 b.0 a.1 b.1) ∙ sym b.2
question_same (News encoding before t uri) m n a b = uses_same t m n a b

reply_same : (r : Reply Question) (m n : ℕ) → IsCounted r m → IsCounted r n → m ≡ n
reply_same (session.Capabilities id prepare encoding) m n a b = a ∙ sym b
reply_same (session.Result id q) m n a b = a ∙ sym b
reply_same (session.Renamed id q) m n a b = question_same q m n a b
reply_same (session.Error id code text) m n a b = a ∙ sym b
reply_same (session.Publish q) m n a b = question_same q m n a b
reply_same (session.Log text) m n a b = a ∙ sym b

-- replies have one count at most
pub one_count : (rs : List (Reply Question)) (from to other : ℕ) → AreCounted rs from to → AreCounted rs from other → to ≡ other
one_count [] from to other a b = a ∙ sym b
one_count (r ∷ rs) from to other a b =
    one_count rs (from + a.0) to other a.2 (subst (λ (n : ℕ). AreCounted rs (from + n) other) (sym (reply_same r a.0 b.0 a.1 b.1)) b.2)
