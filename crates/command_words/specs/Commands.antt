-- The commands that words ask for.
use Rattle.std.specs.Prelude.{◌≡◌, ◌⊎◌, ◌<◌, ◌≤◌, ℕ, List, [], ◌∷◌, length, true, codes}
use Rattle.ls_base.specs.Limits.{max_documents}
use Rattle.command_words.specs.Different.{different}
use Rattle.command_words.specs.Numbers.{IsNumber}
use Rattle.command_words.specs.Words.{Word, are_taken, positional_words}
use Rattle.command_words.specs.declared.command.Command.{Command}
use Rattle.command_words.specs.declared.command.Command.TheVariants.{Arrows, Check, Rename, Replay, Selfrun, Serve, ServeAhead, TooManyFiles, Unknown}
use Rattle.ls_base.specs.declared.places.Pos.{Pos}

-- FILE LINE COL NAME
pub record AreRenameWords (words : List Word) (file : Word) (position : Pos) (name : Word) : Type 0 where
  pub line : Word
  pub column : Word
  pub words_are : words ≡ file ∷ line ∷ column ∷ name ∷ []
  pub line_is : IsNumber line position.line
  pub column_is : IsNumber column position.character

-- N, from 1 to 60
pub record AreSelfrunWords (words : List Word) (libraries : ℕ) : Type 0 where
  pub count : Word
  pub words_are : words ≡ count ∷ []
  pub count_is : IsNumber count libraries
  pub some : 1 ≤ libraries
  pub most : libraries ≤ 60

-- the word of a command
abbrev pub name_of : Command → Word
name_of Arrows = codes "arrows"
name_of Serve = codes "serve"
name_of ServeAhead = codes "serve"
name_of (Replay file) = codes "replay"
name_of (Check files) = codes "check"
name_of TooManyFiles = codes "check"
name_of (Rename file position name) = codes "rename"
name_of (Selfrun libraries) = codes "selfrun"
name_of Unknown = []

-- positional words are those of a command. `--ahead` is none
abbrev pub AreWordsOf : List Word → Command → Type 0
AreWordsOf words Arrows = words ≡ []
AreWordsOf words Serve = words ≡ []
AreWordsOf words ServeAhead = ⊥
AreWordsOf words (Replay file) = words ≡ file ∷ []
AreWordsOf words (Check files) = (0 < length words) × (files ≡ different words) × (length files ≤ max_documents)
AreWordsOf words TooManyFiles = max_documents < length (different words)
AreWordsOf words (Rename file position name) = AreRenameWords words file position name
AreWordsOf words (Selfrun libraries) = AreSelfrunWords words libraries
AreWordsOf words Unknown = ⊥

-- words ask for a command of positional words: its word stands first, and its words behind it
pub record Asks (words : List Word) (command : Command) : Type 0 where
  pub rest : List Word
  pub words_are : words ≡ name_of command ∷ rest
  pub taken : are_taken rest ≡ true
  pub asks : AreWordsOf (positional_words rest) command

-- exactly `serve --ahead`
abbrev pub IsServeAhead : List Word → Type 0
IsServeAhead words = words ≡ codes "serve" ∷ codes "--ahead" ∷ []

-- words ask for a command that there is
abbrev pub AsksFor : List Word → Command → Type 0
AsksFor words command = Asks words command ⊎ ((command ≡ ServeAhead) × IsServeAhead words)

-- of commands that there are one is picked, or `Unknown` where none is asked for
abbrev pub Picks : (Command → Type 0) → Command → Type 0
Picks IsAsked Arrows = IsAsked Arrows
Picks IsAsked Serve = IsAsked Serve
Picks IsAsked ServeAhead = IsAsked ServeAhead
Picks IsAsked (Replay file) = IsAsked (Replay file)
Picks IsAsked (Check files) = IsAsked (Check files)
Picks IsAsked TooManyFiles = IsAsked TooManyFiles
Picks IsAsked (Rename file position name) = IsAsked (Rename file position name)
Picks IsAsked (Selfrun libraries) = IsAsked (Selfrun libraries)
Picks IsAsked Unknown = (command : Command) → ¬ IsAsked command

-- what words ask for
abbrev pub CommandOf : List Word → Command → Type 0
CommandOf words command = Picks (AsksFor words) command

-- ---- of the code

-- which command of positional words they ask for
abbrev pub PositionalOf : List Word → Command → Type 0
PositionalOf words command = Picks (Asks words) command

-- a first word, with the positional words behind it, asks for a command that there is
abbrev pub AsksBy : (first : Word) → (words : List Word) → Command → Type 0
AsksBy first words command = (first ≡ name_of command) × AreWordsOf words command
