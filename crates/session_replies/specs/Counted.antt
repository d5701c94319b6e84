-- The macro uses that messages lead to (R7RS 4.3): those of the texts after each event that changes them, once for each such event, and
-- those of the texts that a rename would leave, once they are compared.
use Rattle.std.specs.Prelude.{◌≡◌, ℕ, ◌+◌, List, [], ◌∷◌}
use Rattle.std.specs.FinMap.{entries}
use Rattle.scheme_model.specs.Session.{Reply, Capabilities, Result, Renamed, Error, Publish, Log}
use Rattle.scheme_model.specs.Texts.{Texts}
use Rattle.read_documents.specs.Readings.{Read, AreReadAs, uses_in}
use Rattle.rename_conditions.specs.Readers.{Reader, IsReader}
use Rattle.rename_answers.specs.ToldRenames.{rename_uses}
use Rattle.session_replies.specs.Asked.{Question, Nothing, About, Renaming, News}
use Rattle.session_replies.specs.FromWire.{encoding_of, pos_of}

-- the macro uses of the program that texts are, by how they are read
abbrev pub AreUsesOf : Texts → ℕ → Type 0
AreUsesOf texts n = (rs : List Read) × AreReadAs (entries texts) rs × (n ≡ uses_in rs)

-- lists are published of texts that were expanded for them, and a rename expands the edited texts, where nothing refuses it before
abbrev pub AreUsesFor : Question → ℕ → Type 0
AreUsesFor Nothing n = n ≡ 0
AreUsesFor (About encoding texts uri position query) n = n ≡ 0
AreUsesFor (Renaming encoding texts uri position new_name) n =
    (r : Reader) × IsReader r × (n ≡ rename_uses r (encoding_of encoding) (entries texts) uri (pos_of position) new_name)
AreUsesFor (News encoding before after uri) n = AreUsesOf after n

abbrev pub IsCounted : Reply Question → ℕ → Type 0
IsCounted (Capabilities id prepare encoding) n = n ≡ 0
IsCounted (Result id question) n = n ≡ 0
IsCounted (Renamed id question) n = AreUsesFor question n
IsCounted (Error id code text) n = n ≡ 0
IsCounted (Publish question) n = AreUsesFor question n
IsCounted (Log text) n = n ≡ 0

-- a counter that goes from one number to another, by the macro uses of these replies
abbrev pub AreCounted : List (Reply Question) → (from to : ℕ) → Type 0
AreCounted [] from to = to ≡ from
AreCounted (r ∷ rs) from to = (n : ℕ) × IsCounted r n × AreCounted rs (from + n) to
