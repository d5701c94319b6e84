-- The standard libraries and their names (R7RS Appendix A).
use Rattle.std.specs.Prelude.{ℕ, List, [], ◌∷◌, Option, Some, None, codes, if◌then◌else◌}
use Rattle.scheme_model.specs.Requirements.{LibraryName, Symbol, same_library}
use Rattle.scheme_model.specs.StandardNames.{base_names}

pub record StandardLibrary : Type 0 where
  pub name : LibraryName
  pub names : List (List ℕ)

-- `(scheme word)`
abbrev scheme : List ℕ → List (List ℕ) → StandardLibrary
scheme word names = record { name = Symbol (codes "scheme") ∷ Symbol word ∷ []; names = names }

unfoldable pub standard_libraries : List StandardLibrary
standard_libraries =
    scheme (codes "base") base_names ∷
    scheme (codes "case-lambda") (
    codes "case-lambda" ∷ []) ∷
    scheme (codes "char") (
    codes "char-alphabetic?" ∷ codes "char-ci<=?" ∷ codes "char-ci<?" ∷ codes "char-ci=?" ∷
    codes "char-ci>=?" ∷ codes "char-ci>?" ∷ codes "char-downcase" ∷ codes "char-foldcase" ∷
    codes "char-lower-case?" ∷ codes "char-numeric?" ∷ codes "char-upcase" ∷ codes "char-upper-case?" ∷
    codes "char-whitespace?" ∷ codes "digit-value" ∷ codes "string-ci<=?" ∷ codes "string-ci<?" ∷
    codes "string-ci=?" ∷ codes "string-ci>=?" ∷ codes "string-ci>?" ∷ codes "string-downcase" ∷
    codes "string-foldcase" ∷ codes "string-upcase" ∷ []) ∷
    scheme (codes "complex") (
    codes "angle" ∷ codes "imag-part" ∷ codes "magnitude" ∷ codes "make-polar" ∷
    codes "make-rectangular" ∷ codes "real-part" ∷ []) ∷
    scheme (codes "cxr") (
    codes "caaar" ∷ codes "caadr" ∷ codes "cadar" ∷ codes "caddr" ∷ codes "cdaar" ∷ codes "cdadr" ∷
    codes "cddar" ∷ codes "cdddr" ∷ codes "caaaar" ∷ codes "caaadr" ∷ codes "caadar" ∷ codes "caaddr" ∷
    codes "cadaar" ∷ codes "cadadr" ∷ codes "caddar" ∷ codes "cadddr" ∷ codes "cdaaar" ∷
    codes "cdaadr" ∷ codes "cdadar" ∷ codes "cdaddr" ∷ codes "cddaar" ∷ codes "cddadr" ∷
    codes "cdddar" ∷ codes "cddddr" ∷ []) ∷
    scheme (codes "eval") (
    codes "environment" ∷ codes "eval" ∷ []) ∷
    scheme (codes "file") (
    codes "call-with-input-file" ∷ codes "call-with-output-file" ∷ codes "delete-file" ∷
    codes "file-exists?" ∷ codes "open-binary-input-file" ∷ codes "open-binary-output-file" ∷
    codes "open-input-file" ∷ codes "open-output-file" ∷ codes "with-input-from-file" ∷
    codes "with-output-to-file" ∷ []) ∷
    scheme (codes "inexact") (
    codes "acos" ∷ codes "asin" ∷ codes "atan" ∷ codes "cos" ∷ codes "exp" ∷ codes "finite?" ∷
    codes "infinite?" ∷ codes "log" ∷ codes "nan?" ∷ codes "sin" ∷ codes "sqrt" ∷ codes "tan" ∷ []) ∷
    scheme (codes "lazy") (
    codes "delay" ∷ codes "delay-force" ∷ codes "force" ∷ codes "make-promise" ∷ codes "promise?" ∷ []) ∷
    scheme (codes "load") (
    codes "load" ∷ []) ∷
    scheme (codes "process-context") (
    codes "command-line" ∷ codes "emergency-exit" ∷ codes "exit" ∷ codes "get-environment-variable" ∷
    codes "get-environment-variables" ∷ []) ∷
    scheme (codes "read") (
    codes "read" ∷ []) ∷
    scheme (codes "repl") (
    codes "interaction-environment" ∷ []) ∷
    scheme (codes "time") (
    codes "current-jiffy" ∷ codes "current-second" ∷ codes "jiffies-per-second" ∷ []) ∷
    scheme (codes "write") (
    codes "display" ∷ codes "write" ∷ codes "write-shared" ∷ codes "write-simple" ∷ []) ∷ []

abbrev pub names_in : List StandardLibrary → LibraryName → Option (List (List ℕ))
names_in [] n = None
names_in (l ∷ ls) n = if same_library l.name n then Some l.names else names_in ls n

-- the names of a standard library
abbrev pub standard : LibraryName → Option (List (List ℕ))
standard n = names_in standard_libraries n
