-- The words of a command line (POSIX.1-2017, XBD 12.2, guideline 10): `--` ends the options, and there are no options. A word is
-- its bytes in UTF-8.
use Rattle.std.specs.Prelude.{ℕ, List, map, length, ◌++◌, ◌&&◌, ◌==◌, nat_eq, nat_lt, not, Bool, codes}
use Rattle.std.specs.List.{after_first, before_first, list_any, starts_with}
use Rattle.std.specs.Str.{bytes_eq}
use Rattle.std.specs.String.{string_bytes}
use Rattle.std.specs.declared.string.String.{String}
use Rattle.std.specs.declared.alloc.Global.{Global}

abbrev pub Word : Type 0
Word = List ℕ

abbrev pub texts : List (String Global) → List Word
texts words = map string_bytes words

-- `--`
abbrev pub is_dashes : Word → Bool
is_dashes word = bytes_eq word (codes "--")

-- two or more characters, of which the first is `-`
abbrev pub is_option : Word → Bool
is_option word = starts_with nat_eq word (codes "-") && nat_lt 1 (length word)

abbrev pub is_empty : Word → Bool
is_empty word = length word == 0

-- the words without the first `--`
abbrev pub positional_words : List Word → List Word
positional_words words = before_first is_dashes words ++ after_first is_dashes words

-- no word before the first `--` is an option, and none is empty
abbrev pub are_taken : List Word → Bool
are_taken words = not (list_any is_option (before_first is_dashes words)) && not (list_any is_empty words)
