-- What the workspace answers to a rename is the reply of a session.
use Rattle.std.proofs.Common.{◌≡◌, ℕ, ◌+◌, List, [], ◌∷◌, refl, sym, ap, ◌∙◌, subst, append-nil}
use Rattle.std.specs.FinMap.{entries}
use Rattle.ls_base.specs.declared.encoding.Encoding.{Encoding}
use Rattle.lsp_messages.specs.declared.message.At.{At}
use Rattle.lsp_messages.specs.declared.message.Id.{Id}
use Rattle.lsp_messages.specs.declared.message.Id.TheVariants as ids
use Rattle.scheme_model.specs.Session as session
use Rattle.scheme_model.specs.Session.{State, called}
use Rattle.scheme_model.specs.Texts.{Texts}
use Rattle.workspace_state.specs.State as workspace
use Rattle.rename_conditions.specs.Readers.{Reader, IsReader}
use Rattle.rename_conditions.proofs.ReaderLaws.{reader_is_there}
use Rattle.rename_answers.specs.ToldRenames.{rename_told, rename_uses}
use Rattle.session_replies.specs.declared.mode.Mode.{Mode}
use Rattle.session_replies.specs.declared.out.Out.{Out}
use Rattle.session_replies.specs.Asked.{questions}
use Rattle.session_replies.specs.Counted.{AreCounted}
use Rattle.session_replies.specs.FromWire.{said_id, said_position}
use Rattle.session_replies.specs.Renamed.{IsRenamed}
use Rattle.session_replies.specs.States.{state_of}
use Rattle.session_replies.specs.Stepped.{IsOutcome}
use Rattle.session_replies.specs.ToWire.{rename_reply, sent_id}
use Rattle.session_replies.proofs.CountedLaws.{rename_counted}
use Rattle.session_replies.proofs.Evented.{encoding_of-said_encoding}

sent_id-said_id : (id : Id) → sent_id (said_id id) ≡ id
sent_id-said_id (ids.Number n) = refl
sent_id-said_id (ids.Name s) = refl

pub renames_so : (mode : Mode) (e : Encoding) (t : Texts) (new : workspace.State) (now : State) (id : Id) (place : At) (new_name : List ℕ) (out : Out) → new.texts ≡ t → new.encoding ≡ e → state_of mode e t ≡ now → IsRenamed e t id place new_name out →
    IsOutcome (called questions now (said_id id) (session.Rename place.uri (said_position place.pos) new_name)) out (state_of mode new.encoding new.texts)
renames_so mode e t new now id place new_name out texts encoding view is =
    let Stands : State → Type 0 = λ s. IsOutcome (called questions s (said_id id) (session.Rename place.uri (said_position place.pos) new_name)) out (state_of mode new.encoding new.texts) in
    let r = reader_is_there in
    let told = is r.0 r.1 in
    let sent = sym (sent_id-said_id id) in
    let counts = sym (encoding_of-said_encoding e) in
    subst Stands view
    (record {
      state = λ i. state_of mode (encoding i) (texts i);
      replies = record {
        first = out.replies;
        rest = [];
        split = sym (append-nil out.replies);
        are_first = (r.0, r.1, ap (λ (o : Out). o.replies) told ∙ (λ i. rename_reply (sent i) (rename_told r.0 (counts i) (entries t) place.uri place.pos new_name) ∷ []));
        are_rest = refl;
      };
      end = ap (λ (o : Out). o.end) told;
    })

-- and counts the macro uses that it does
pub counts_so : (mode : Mode) (e : Encoding) (t : Texts) (now : State) (id : Id) (place : At) (new_name : List ℕ) (from to : ℕ) → state_of mode e t ≡ now →
    ((r : Reader) → IsReader r → to ≡ from + rename_uses r e (entries t) place.uri place.pos new_name) →
    AreCounted (called questions now (said_id id) (session.Rename place.uri (said_position place.pos) new_name)).replies from to
counts_so mode e t now id place new_name from to view steps =
    subst (λ (s : State). AreCounted (called questions s (said_id id) (session.Rename place.uri (said_position place.pos) new_name)).replies from to) view
    (rename_counted (state_of mode e t) (said_id id) place.uri (said_position place.pos) new_name from to
    (λ r is. steps r is ∙ ap (λ (q : Encoding). from + rename_uses r q (entries t) place.uri place.pos new_name) (sym (encoding_of-said_encoding e))))
