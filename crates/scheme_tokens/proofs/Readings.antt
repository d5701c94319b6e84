-- A text has one reading at most, and how one is put together.
use Rattle.std.proofs.Common.{◌≡◌, ℕ, List, [], ◌∷◌, ◌++◌, Option, Some, None, Err, refl, sym, ap, ◌∙◌, subst, append_assoc, append-nil, ◌⊎◌, inl, inr}
use Rattle.std.proofs.lemmas.List.{map-append}
use Rattle.scheme_tokens.specs.Lexical.{byte_count, Token, behind_mark, IsSpelled}
use Rattle.scheme_tokens.specs.Faults.{FaultAt}
use Rattle.scheme_tokens.specs.Stopping.{IsRead, Stops}
use Rattle.scheme_tokens.specs.Mirror.Reading as mirror
use Rattle.scheme_tokens.specs.Mirror.Reading.{found, ended, next, Reads}
use Rattle.scheme_tokens.proofs.OneReading.{one_reading_from}
use Rattle.scheme_tokens.specs.Views.{token_of, tokens_of, read_fault, told_end, IsFront, Explains}
use Rattle.scheme_tokens.specs.Mirror.Told.{IsNext}
use Rattle.scheme_tokens.specs.declared.token.Token as code
use Rattle.scheme_tokens.proofs.Same.Reading.{spelled_read, read_spelled}
use Rattle.scheme_tokens.proofs.Same.Stops.{read_stops}
use Rattle.scheme_tokens.proofs.Same.OneStop.{stop_read}
use Rattle.scheme_tokens.specs.declared.fault.ReadFault as code_read
use Rattle.scheme_tokens.specs.declared.fault.ReadFault.TheVariants as told

-- what the code reads is what the grammar says, both ways
pub is_read : (ts : List Token) (end : Option FaultAt) (text : List ℕ) → mirror.IsRead ts end text → IsRead ts end text
is_read ts None text h = read_spelled ts text h
is_read ts (Some fault) text h = read_stops ts fault text h

pub read_is : (ts : List Token) (end : Option FaultAt) (text : List ℕ) → IsRead ts end text → mirror.IsRead ts end text
read_is ts None text h = spelled_read ts text h
read_is ts (Some fault) text h = stop_read ts fault text h

pub one_reading : (ts us : List Token) (end fin : Option FaultAt) (text : List ℕ) → IsRead ts end text → IsRead us fin text → (ts ≡ us) × (end ≡ fin)
one_reading ts us end fin text h k = one_reading_from (byte_count text) ts us end fin (behind_mark text) (read_is ts end text h) (read_is us fin text k)

-- with these tokens before, what is read of the rest is read of the whole
abbrev pub GoesOn : ℕ → List ℕ → List code.Token → List ℕ → Type 0
GoesOn size text so_far rest = (more : List Token) (end : Option FaultAt) → Reads size more end rest → Reads size (tokens_of so_far ++ more) end text

pub one_more : (size : ℕ) (text rest behind : List ℕ) (so_far : List code.Token) (t : code.Token) → GoesOn size text so_far rest → next size rest ≡ found (token_of t) behind →
    GoesOn size text (so_far ++ t ∷ []) behind
one_more size text rest behind so_far t goes h more end r =
    subst (λ (q : List Token). Reads size q end text) (sym (append_assoc (tokens_of so_far) (token_of t ∷ []) more) ∙ ap (λ (q : List Token). q ++ more) (sym (map-append token_of so_far (t ∷ []))))
    (goes (token_of t ∷ more) end (behind, h, r))

pub read_whole : (size : ℕ) (text : List ℕ) (so_far : List code.Token) (rest : List ℕ) (end : Option FaultAt) → GoesOn size (behind_mark text) so_far rest → next size rest ≡ ended end →
    byte_count text ≡ size → IsRead (tokens_of so_far) end text
read_whole size text so_far rest end goes h e =
    is_read (tokens_of so_far) end text (subst (λ (n : ℕ). Reads n (tokens_of so_far) end (behind_mark text)) (sym e) (subst (λ (q : List Token). Reads size q end (behind_mark text)) (append-nil (tokens_of so_far)) (goes [] end h)))

none_some : (f : FaultAt) → None ≡ Some f → ⊥
none_some f e = cc

some_same : (f g : FaultAt) → Some f ≡ Some g → f ≡ g
some_same f g e = cc

-- what is read is all that can be
pub only_tokens : (read us : List Token) (text : List ℕ) → IsSpelled read text → IsSpelled us text → read ≡ us
only_tokens read us text h k = (one_reading read us None None text h k).0

pub never_stops : (read : List Token) (f : FaultAt) (text : List ℕ) → IsSpelled read text → Stops f text → ⊥
never_stops read f text h k = none_some f (one_reading read k.0 None (Some f) text h k.1).1

pub one_stop : (f g : FaultAt) (text : List ℕ) → Stops f text → Stops g text → f ≡ g
one_stop f g text h k = some_same f g (one_reading h.0 k.0 (Some f) (Some g) text h.1 k.1).1

-- what the code tells of the next is where the text stops
pub explained : (fault : code_read.ReadFault) (size : ℕ) (text : List ℕ) (so_far : List code.Token) (rest : List ℕ) → GoesOn size (behind_mark text) so_far rest → byte_count text ≡ size →
    IsNext (Err fault) (next size rest) → Explains fault text
explained told.Memory size text so_far rest goes e h = tt
explained (told.At number span) size text so_far rest goes e h = (h.0, (tokens_of so_far, read_whole size text so_far rest (Some h.0) goes h.1 e), h.2)

-- a fault that the code tells of the next, as a front tells it
pub front_fault : (fault : code_read.ReadFault) (size : ℕ) (text : List ℕ) (so_far : List code.Token) (rest : List ℕ) → GoesOn size (behind_mark text) so_far rest → byte_count text ≡ size →
    (fault ≡ told.Memory → ⊥) → IsNext (Err fault) (next size rest) → IsFront so_far (Some fault) text
front_fault told.Memory size text so_far rest goes e apart h = absurd (apart refl)
front_fault (told.At number span) size text so_far rest goes e apart h =
    (Some h.0, read_whole size text so_far rest (Some h.0) goes h.1 e, ap (λ (f : code_read.ReadFault). Some f) h.2)

-- a front without a fault is the whole text, and one with a fault stops there
told_none : (end : Option FaultAt) → None ≡ told_end end → end ≡ None
told_none None h = refl
told_none (Some f) h = cc

told_some : (fault : code_read.ReadFault) (end : Option FaultAt) → Some fault ≡ told_end end → (f : FaultAt) × (end ≡ Some f) × (fault ≡ read_fault f)
told_some fault None h = cc
told_some fault (Some f) h = (f, refl, cc)

pub front_whole : (ts : List code.Token) (fault : Option code_read.ReadFault) (text : List ℕ) → fault ≡ None → IsFront ts fault text → IsSpelled (tokens_of ts) text
front_whole ts fault text none h = subst (λ (e : Option FaultAt). IsRead (tokens_of ts) e text) (told_none h.0 (sym none ∙ h.2)) h.1

pub front_stops : (ts : List code.Token) (fault : code_read.ReadFault) (end : Option code_read.ReadFault) (text : List ℕ) → end ≡ Some fault → IsFront ts end text →
    (f : FaultAt) × Stops f text × (fault ≡ read_fault f)
front_stops ts fault end text some h =
    let s = told_some fault h.0 (sym some ∙ h.2) in
    (s.0, (tokens_of ts, subst (λ (e : Option FaultAt). IsRead (tokens_of ts) e text) s.1 h.1), s.2)

pub front_explains : (ts : List code.Token) (fault : code_read.ReadFault) (end : Option code_read.ReadFault) (text : List ℕ) → end ≡ Some fault → IsFront ts end text → Explains fault text
front_explains ts told.Memory end text some h = tt
front_explains ts (told.At number span) end text some h = front_stops ts (told.At number span) end text some h

pub only_memory : (fault : code_read.ReadFault) (us : List Token) (text : List ℕ) → Explains fault text → IsSpelled us text → fault ≡ told.Memory
only_memory told.Memory us text h k = refl
only_memory (told.At number span) us text h k = absurd (never_stops us h.0 text k h.1)

pub stop_told : (fault : code_read.ReadFault) (f : FaultAt) (text : List ℕ) → Explains fault text → Stops f text → (fault ≡ told.Memory) ⊎ (fault ≡ read_fault f)
stop_told told.Memory f text h k = inl refl
stop_told (told.At number span) f text h k = inr (h.2 ∙ ap read_fault (one_stop h.0 f text h.1 k))
