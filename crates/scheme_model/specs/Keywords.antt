-- The keywords of core forms by their names in the standard libraries (R7RS 4.1 to 4.3, 5), and the auxiliary ones.
use Rattle.std.specs.Prelude.{ℕ, List, ◌||◌, Option, Some, None, codes, if◌then◌else◌}
use Rattle.std.specs.Str.{bytes_eq}

pub data CoreKeyword : Type 0 where
  IsQuote : CoreKeyword
  IsQuasiquote : CoreKeyword
  IsLambda : CoreKeyword
  IsCaseLambda : CoreKeyword
  IsIf : CoreKeyword
  IsSet : CoreKeyword
  IsBegin : CoreKeyword
  IsDefine : CoreKeyword
  IsDefineValues : CoreKeyword
  IsDefineRecordType : CoreKeyword
  IsDefineSyntax : CoreKeyword
  IsLetSyntax : CoreKeyword
  IsLetrecSyntax : CoreKeyword
  IsCondExpand : CoreKeyword
  IsSyntaxError : CoreKeyword
  IsInclude : CoreKeyword

abbrev pub core_named : List ℕ → Option CoreKeyword
core_named s =
    if bytes_eq s (codes "quote") then Some IsQuote
    else if bytes_eq s (codes "quasiquote") then Some IsQuasiquote
    else if bytes_eq s (codes "lambda") then Some IsLambda
    else if bytes_eq s (codes "case-lambda") then Some IsCaseLambda
    else if bytes_eq s (codes "if") then Some IsIf
    else if bytes_eq s (codes "set!") then Some IsSet
    else if bytes_eq s (codes "begin") then Some IsBegin
    else if bytes_eq s (codes "define") then Some IsDefine
    else if bytes_eq s (codes "define-values") then Some IsDefineValues
    else if bytes_eq s (codes "define-record-type") then Some IsDefineRecordType
    else if bytes_eq s (codes "define-syntax") then Some IsDefineSyntax
    else if bytes_eq s (codes "let-syntax") then Some IsLetSyntax
    else if bytes_eq s (codes "letrec-syntax") then Some IsLetrecSyntax
    else if bytes_eq s (codes "cond-expand") then Some IsCondExpand
    else if bytes_eq s (codes "syntax-error") then Some IsSyntaxError
    else if bytes_eq s (codes "include") then Some IsInclude
    else if bytes_eq s (codes "include-ci") then Some IsInclude
    else None

-- keywords that stand within other forms alone
pub data Auxiliary : Type 0 where
  IsSyntaxRules : Auxiliary
  IsUnquote : Auxiliary
  IsUnquoteSplicing : Auxiliary
  IsOther : Auxiliary

abbrev pub auxiliary_named : List ℕ → Option Auxiliary
auxiliary_named s =
    if bytes_eq s (codes "syntax-rules") then Some IsSyntaxRules
    else if bytes_eq s (codes "unquote") then Some IsUnquote
    else if bytes_eq s (codes "unquote-splicing") then Some IsUnquoteSplicing
    else if bytes_eq s (codes "else") || (bytes_eq s (codes "=>") || (bytes_eq s (codes "...") || bytes_eq s (codes "_"))) then Some IsOther
    else None
