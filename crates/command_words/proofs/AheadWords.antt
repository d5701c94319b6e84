-- The two words `serve --ahead`.
use Rattle.std.proofs.Common.{◌≡◌, ◌<◌, ◌≤◌, ◌⊎◌, ℕ, List, [], ◌∷◌, length, get_or, Bool, true, false, IsTrue, refl, sym, ap, ◌∙◌, inl, inr, arith, codes, String, Global}
use Rattle.std.specs.Str.{bytes_eq}
use Rattle.std.specs.String.{string_bytes}
use Rattle.std.proofs.lemmas.Slice.Eq.{bytes_eq-Decides}
use Rattle.std.proofs.lemmas.Bool.{false≢true}
use Rattle.command_words.specs.Commands.{Asks, CommandOf, IsServeAhead, PositionalOf, name_of}
use Rattle.command_words.specs.Words.{Word, are_taken, texts}
use Rattle.command_words.specs.declared.command.Command.{Command}
use Rattle.command_words.specs.declared.command.Command.TheVariants.{Arrows, Check, Rename, Replay, Selfrun, Serve, ServeAhead, TooManyFiles, Unknown}

-- ---- which command they ask for

tails : (a b : Word) (words others : List Word) → a ∷ words ≡ b ∷ others → words ≡ others
tails a b words others same = cc

-- they aren't positional words
pub not_positional : (words : List Word) (command : Command) → Asks words command → IsServeAhead words → ⊥
not_positional words command asks ahead =
    let rest : asks.rest ≡ codes "--ahead" ∷ [] = tails (name_of command) (codes "serve") asks.rest (codes "--ahead" ∷ []) (sym asks.words_are ∙ ahead) in
    false≢true (sym (ap are_taken rest) ∙ asks.taken)

pub is_ahead : (words : List Word) → IsServeAhead words → CommandOf words ServeAhead
is_ahead words ahead = inr (refl, ahead)

pub not_ahead : (words : List Word) (command : Command) → ¬ IsServeAhead words → PositionalOf words command → CommandOf words command
not_ahead words Arrows other h = inl h
not_ahead words Serve other h = inl h
not_ahead words ServeAhead other h = inl h
not_ahead words (Replay file) other h = inl h
not_ahead words (Check files) other h = inl h
not_ahead words TooManyFiles other h = inl h
not_ahead words (Rename file position name) other h = inl h
not_ahead words (Selfrun libraries) other h = inl h
not_ahead words Unknown other h = λ command asks. elim asks [
  | inl positional ↦ h command positional
  | inr ahead ↦ other ahead.1
]

-- ---- whether words are these two

no_two : (a b : Word) → [] ≡ a ∷ b ∷ [] → ⊥
no_two a b same = cc

one_two : (w a b : Word) → w ∷ [] ≡ a ∷ b ∷ [] → ⊥
one_two w a b same = cc

three_two : (u v w a b : Word) (words : List Word) → u ∷ v ∷ w ∷ words ≡ a ∷ b ∷ [] → ⊥
three_two u v w a b words same = cc

first_same : (u v a b : Word) → u ∷ v ∷ [] ≡ a ∷ b ∷ [] → u ≡ a
first_same u v a b same = cc

second_same : (u v a b : Word) → u ∷ v ∷ [] ≡ a ∷ b ∷ [] → v ≡ b
second_same u v a b same = cc

two_case : (u v : Word) (a b : Bool) → bytes_eq u (codes "serve") ≡ a → bytes_eq v (codes "--ahead") ≡ b → IsServeAhead (u ∷ v ∷ []) ⊎ ¬ IsServeAhead (u ∷ v ∷ [])
two_case u v true true first second = inl (λ j. (bytes_eq-Decides u (codes "serve")).0 first j ∷ (bytes_eq-Decides v (codes "--ahead")).0 second j ∷ [])
two_case u v true false first second = inr (λ same. false≢true (sym second ∙ (bytes_eq-Decides v (codes "--ahead")).1 (second_same u v (codes "serve") (codes "--ahead") same)))
two_case u v false b first second = inr (λ same. false≢true (sym first ∙ (bytes_eq-Decides u (codes "serve")).1 (first_same u v (codes "serve") (codes "--ahead") same)))

pub ahead_or_not : (words : List Word) → IsServeAhead words ⊎ ¬ IsServeAhead words
ahead_or_not [] = inr (no_two (codes "serve") (codes "--ahead"))
ahead_or_not (w ∷ []) = inr (one_two w (codes "serve") (codes "--ahead"))
ahead_or_not (u ∷ v ∷ []) = two_case u v (bytes_eq u (codes "serve")) (bytes_eq v (codes "--ahead")) refl refl
ahead_or_not (u ∷ v ∷ w ∷ words) = inr (three_two u v w (codes "serve") (codes "--ahead") words)

-- ---- lists of two words

pub two_texts : (words : List (String Global)) (first second : String Global) → 2 ≤ length words → length words < 3 → first ≡ get_or words 0 first → second ≡ get_or words 1 second → texts words ≡ string_bytes first ∷ string_bytes second ∷ []
two_texts [] first second some few one two = absurd (omega arith)
two_texts (x ∷ []) first second some few one two = absurd (omega arith)
two_texts (x ∷ y ∷ []) first second some few one two = λ j. string_bytes (sym one j) ∷ string_bytes (sym two j) ∷ []
two_texts (x ∷ y ∷ z ∷ words) first second some few one two = absurd (omega arith)

-- the first is `serve`
pub by_second : (words : List Word) (u v : Word) (r : Bool) → words ≡ u ∷ v ∷ [] → bytes_eq u (codes "serve") ≡ true → r ≡ bytes_eq v (codes "--ahead") → (IsTrue r → IsServeAhead words) × (IsServeAhead words → IsTrue r)
by_second words u v r two first tested = (
  λ t. two ∙ λ j. (bytes_eq-Decides u (codes "serve")).0 first j ∷ (bytes_eq-Decides v (codes "--ahead")).0 (sym tested ∙ t) j ∷ [],
  λ ahead. tested ∙ (bytes_eq-Decides v (codes "--ahead")).1 (second_same u v (codes "serve") (codes "--ahead") (sym two ∙ ahead)),
)

-- it isn't
pub by_first : (words : List Word) (u v : Word) (r : Bool) → words ≡ u ∷ v ∷ [] → r ≡ bytes_eq u (codes "serve") → r ≡ false → (IsTrue r → IsServeAhead words) × (IsServeAhead words → IsTrue r)
by_first words u v r two tested other = (
  λ t. absurd (false≢true (sym other ∙ t)),
  λ ahead. tested ∙ (bytes_eq-Decides u (codes "serve")).1 (first_same u v (codes "serve") (codes "--ahead") (sym two ∙ ahead)),
)

-- there are other than two
pub not_two : (words : List (String Global)) → length words < 2 → IsServeAhead (texts words) → ⊥
not_two [] few same = no_two (codes "serve") (codes "--ahead") same
not_two (w ∷ []) few same = one_two (string_bytes w) (codes "serve") (codes "--ahead") same
not_two (u ∷ v ∷ words) few same = absurd (omega arith)

pub over_two : (words : List (String Global)) → 3 ≤ length words → IsServeAhead (texts words) → ⊥
over_two [] many same = absurd (omega arith)
over_two (w ∷ []) many same = absurd (omega arith)
over_two (u ∷ v ∷ []) many same = absurd (omega arith)
over_two (u ∷ v ∷ w ∷ words) many same = three_two (string_bytes u) (string_bytes v) (string_bytes w) (codes "serve") (codes "--ahead") (texts words) same
