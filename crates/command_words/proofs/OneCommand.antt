-- Words ask for one command.
use Rattle.std.proofs.Common.{◌≡◌, ◌<◌, ◌≤◌, ◌⊎◌, ℕ, List, [], ◌∷◌, length, refl, ap, sym, ◌∙◌, subst, inl, inr, arith}
use Rattle.ls_base.specs.Limits.{max_documents}
use Rattle.ls_base.specs.declared.places.Pos.{Pos}
use Rattle.std.specs.Str.Parse.{digits_value}
use Rattle.command_words.specs.Commands.{AreRenameWords, AreSelfrunWords, AreWordsOf, Asks, AsksBy, AsksFor, CommandOf, Picks, name_of}
use Rattle.command_words.specs.Different.{different}
use Rattle.command_words.specs.Numbers.{IsNumber}
use Rattle.command_words.specs.Words.{Word, positional_words}
use Rattle.command_words.proofs.AheadWords.{not_positional}
use Rattle.command_words.proofs.Naming.{arrows_only, asked_by, check_only, rename_only, replay_only, selfrun_only, serve_only}
use Rattle.command_words.specs.declared.command.Command.{Command}
use Rattle.command_words.specs.declared.command.Command.TheVariants.{Arrows, Check, Rename, Replay, Selfrun, Serve, ServeAhead, TooManyFiles, Unknown}

only_word : (a b : Word) (words : List Word) → words ≡ a ∷ [] → words ≡ b ∷ [] → a ≡ b
only_word a b words one other = cc

same_number : (a b : Word) (m n : ℕ) → IsNumber a m → IsNumber b n → a ≡ b → m ≡ n
same_number a b m n one other same = one.value ∙ ap (λ (w : Word). digits_value 10 w) same ∙ sym other.value

-- four words are told by their list
pub record AreSame (a b c d a' b' c' d' : Word) : Type 0 where
  pub first : a ≡ a'
  pub second : b ≡ b'
  pub third : c ≡ c'
  pub fourth : d ≡ d'

four_same : (a b c d a' b' c' d' : Word) (words : List Word) → words ≡ a ∷ b ∷ c ∷ d ∷ [] → words ≡ a' ∷ b' ∷ c' ∷ d' ∷ [] → AreSame a b c d a' b' c' d'
four_same a b c d a' b' c' d' words one other = record { first = cc; second = cc; third = cc; fourth = cc }

same_position : (p q : Pos) → p.line ≡ q.line → p.character ≡ q.character → p ≡ q
same_position p q lines columns = λ j. record { line = lines j; character = columns j }

same_rename : (words : List Word) (f g : Word) (p q : Pos) (n m : Word) → AreRenameWords words f p n → AreRenameWords words g q m → Rename f p n ≡ Rename g q m
same_rename words f g p q n m one other =
    let same = four_same f one.line one.column n g other.line other.column m words one.words_are other.words_are in
    let at = same_position p q (same_number one.line other.line p.line q.line one.line_is other.line_is same.second) (same_number one.column other.column p.character q.character one.column_is other.column_is same.third) in
    λ j. Rename (same.first j) (at j) (same.fourth j)

same_selfrun : (words : List Word) (m n : ℕ) → AreSelfrunWords words m → AreSelfrunWords words n → m ≡ n
same_selfrun words m n one other = same_number one.count other.count m n one.count_is other.count_is (only_word one.count other.count words one.words_are other.words_are)

not_both : (files : List Word) (words : List Word) → files ≡ different words → length files ≤ max_documents → max_documents < length (different words) → ⊥
not_both files words are few many = let same = ap (λ (ws : List Word). length ws) are in omega arith

-- a first word and the words behind it
same_by : (words : List Word) (one other : Command) → AreWordsOf words one → AsksBy (name_of one) words other → other ≡ one
same_by words Arrows other h k = (arrows_only words other k).0
same_by words Serve other h k = (serve_only words other k).0
same_by words ServeAhead other h k = absurd h
same_by words (Replay file) other h k =
    let found = replay_only words other k in found.1 ∙ ap Replay (only_word found.0 file words found.2 h)
same_by words (Check files) other h k =
    elim (check_only words other k) [
      | inl found ↦ found.1 ∙ ap Check (found.3 ∙ sym h.1)
      | inr found ↦ absurd (not_both files words h.1 h.2 found.1)
    ]
same_by words TooManyFiles other h k =
    elim (check_only words other k) [
      | inl found ↦ absurd (not_both found.0 words found.3 found.4 h)
      | inr found ↦ found.0
    ]
same_by words (Rename file position name) other h k =
    let found = rename_only words other k in found.3 ∙ same_rename words found.0 file found.1 position found.2 name found.4 h
same_by words (Selfrun libraries) other h k =
    let found = selfrun_only words other k in found.1 ∙ ap Selfrun (same_selfrun words found.0 libraries found.2 h)
same_by words Unknown other h k = absurd h

same_asked : (words : List Word) (one other : Command) → Asks words one → Asks words other → other ≡ one
same_asked words one other h k =
    same_by (positional_words h.rest) one other h.asks
    (asked_by (name_of one) h.rest other (let P : List Word → Type 0 = λ ws. Asks ws other in subst P h.words_are k))

same_for : (words : List Word) (one other : Command) → AsksFor words one → AsksFor words other → other ≡ one
same_for words one other (inl h) (inl k) = same_asked words one other h k
same_for words one other (inl h) (inr k) = absurd (not_positional words one h k.1)
same_for words one other (inr h) (inl k) = absurd (not_positional words other k h.1)
same_for words one other (inr h) (inr k) = k.0 ∙ sym h.0

-- what is picked is asked for, or is `Unknown`
is_picked : (IsAsked : Command → Type 0) (command : Command) → Picks IsAsked command → IsAsked command ⊎ ((command ≡ Unknown) × ((other : Command) → ¬ IsAsked other))
is_picked IsAsked Arrows h = inl h
is_picked IsAsked Serve h = inl h
is_picked IsAsked ServeAhead h = inl h
is_picked IsAsked (Replay file) h = inl h
is_picked IsAsked (Check files) h = inl h
is_picked IsAsked TooManyFiles h = inl h
is_picked IsAsked (Rename file position name) h = inl h
is_picked IsAsked (Selfrun libraries) h = inl h
is_picked IsAsked Unknown h = inr (refl, h)

pub one_command : (words : List Word) (one other : Command) → CommandOf words one → CommandOf words other → one ≡ other
one_command words one other h k =
    elim (is_picked (AsksFor words) one h) [
      | inl asks ↦ elim (is_picked (AsksFor words) other k) [
        | inl others ↦ sym (same_for words one other asks others)
        | inr none ↦ absurd (none.1 one asks)
      ]
      | inr none ↦ elim (is_picked (AsksFor words) other k) [
        | inl others ↦ absurd (none.1 other others)
        | inr neither ↦ none.0 ∙ sym neither.0
      ]
    ]
