-- Bytes of documents, lit ones and drawn pairs, as the code keeps them.
use Rattle.std.specs.Prelude.{◌≡◌, ℕ, ◌<◌, List, Bool, ◌||◌}
use Rattle.scheme_model.specs.declared.Occ.{Occ}
use Rattle.scheme_model.specs.Diagnostics.{Bytes}
use Rattle.program_leaves.specs.Members.{IsIn}
use Rattle.program_leaves.specs.declared.pairs.Pair.{Pair}
use Rattle.scheme_model.specs.Answers.{is_in}
use Rattle.program_answers.specs.declared.bytes.Bytes as code_bytes
use Rattle.program_answers.specs.declared.bytes.Drawn as code_drawn
use Rattle.program_answers.specs.declared.bytes.Lit as code_lit

abbrev pub bytes_seen : code_bytes.Bytes → Bytes
bytes_seen b = record { document = b.document; span = record { start = b.start; end = b.end } }

abbrev pub lit_seen : code_lit.Lit → Bytes × ℕ
lit_seen l = (bytes_seen l.bytes, l.kind)

abbrev pub drawn_seen : code_drawn.Drawn → Bytes × Bytes
drawn_seen d = (bytes_seen d.from, bytes_seen d.to)

-- an end is in a document
abbrev pub has_end : (document : ℕ) → Bytes × Bytes → Bool
has_end document d = is_in document d.0 || is_in document d.1

-- the bytes of a pair of occurrences
abbrev pub pair_bytes : (Occ → Bytes) → Pair → Bytes × Bytes
pair_bytes bytes p = (bytes p.binder, bytes p.target)

-- ---- in so many documents

abbrev pub AreInside : (count : ℕ) → List Bytes → Type 0
AreInside count bs = (b : Bytes) → IsIn b bs → b.document < count

abbrev pub AreLitInside : (count : ℕ) → List (Bytes × ℕ) → Type 0
AreLitInside count ls = (l : Bytes × ℕ) → IsIn l ls → l.0.document < count

abbrev pub AreDrawnInside : (count : ℕ) → List (Bytes × Bytes) → Type 0
AreDrawnInside count ds = (d : Bytes × Bytes) → IsIn d ds → (d.0.document < count) × (d.1.document < count)

-- each use is an occurrence
abbrev pub HaveTokens : (Occ → Bytes) → List (Bytes × Bytes) → Type 0
HaveTokens bytes ds = (d : Bytes × Bytes) → IsIn d ds → (o : Occ) × (d.1 ≡ bytes o)
