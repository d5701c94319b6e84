-- The names of `(scheme base)` (R7RS Appendix A).
use Rattle.std.specs.Prelude.{ℕ, List, [], ◌∷◌, Bool, codes}
use Rattle.std.specs.List.{list_any}
use Rattle.std.specs.Str.{bytes_eq}

-- the names of `(scheme base)`
unfoldable pub base_names : List (List ℕ)
base_names =
    codes "*" ∷ codes "+" ∷ codes "-" ∷ codes "..." ∷ codes "/" ∷ codes "<" ∷ codes "<=" ∷ codes "=" ∷
    codes "=>" ∷ codes ">" ∷ codes ">=" ∷ codes "_" ∷ codes "abs" ∷ codes "and" ∷ codes "append" ∷
    codes "apply" ∷ codes "assoc" ∷ codes "assq" ∷ codes "assv" ∷ codes "begin" ∷ codes "binary-port?" ∷
    codes "boolean=?" ∷ codes "boolean?" ∷ codes "bytevector" ∷ codes "bytevector-append" ∷
    codes "bytevector-copy" ∷ codes "bytevector-copy!" ∷ codes "bytevector-length" ∷
    codes "bytevector-u8-ref" ∷ codes "bytevector-u8-set!" ∷ codes "bytevector?" ∷ codes "caar" ∷
    codes "cadr" ∷ codes "call-with-current-continuation" ∷ codes "call-with-port" ∷
    codes "call-with-values" ∷ codes "call/cc" ∷ codes "car" ∷ codes "case" ∷ codes "cdar" ∷ codes "cddr" ∷
    codes "cdr" ∷ codes "ceiling" ∷ codes "char->integer" ∷ codes "char-ready?" ∷ codes "char<=?" ∷
    codes "char<?" ∷ codes "char=?" ∷ codes "char>=?" ∷ codes "char>?" ∷ codes "char?" ∷
    codes "close-input-port" ∷ codes "close-output-port" ∷ codes "close-port" ∷ codes "complex?" ∷
    codes "cond" ∷ codes "cond-expand" ∷ codes "cons" ∷ codes "current-error-port" ∷
    codes "current-input-port" ∷ codes "current-output-port" ∷ codes "define" ∷ codes "define-record-type" ∷
    codes "define-syntax" ∷ codes "define-values" ∷ codes "denominator" ∷ codes "do" ∷ codes "dynamic-wind" ∷
    codes "else" ∷ codes "eof-object" ∷ codes "eof-object?" ∷ codes "eq?" ∷ codes "equal?" ∷ codes "eqv?" ∷
    codes "error" ∷ codes "error-object-irritants" ∷ codes "error-object-message" ∷ codes "error-object?" ∷
    codes "even?" ∷ codes "exact" ∷ codes "exact-integer-sqrt" ∷ codes "exact-integer?" ∷ codes "exact?" ∷
    codes "expt" ∷ codes "features" ∷ codes "file-error?" ∷ codes "floor" ∷ codes "floor-quotient" ∷
    codes "floor-remainder" ∷ codes "floor/" ∷ codes "flush-output-port" ∷ codes "for-each" ∷ codes "gcd" ∷
    codes "get-output-bytevector" ∷ codes "get-output-string" ∷ codes "guard" ∷ codes "if" ∷
    codes "include" ∷ codes "include-ci" ∷ codes "inexact" ∷ codes "inexact?" ∷ codes "input-port-open?" ∷
    codes "input-port?" ∷ codes "integer->char" ∷ codes "integer?" ∷ codes "lambda" ∷ codes "lcm" ∷
    codes "length" ∷ codes "let" ∷ codes "let*" ∷ codes "let*-values" ∷ codes "let-syntax" ∷
    codes "let-values" ∷ codes "letrec" ∷ codes "letrec*" ∷ codes "letrec-syntax" ∷ codes "list" ∷
    codes "list->string" ∷ codes "list->vector" ∷ codes "list-copy" ∷ codes "list-ref" ∷ codes "list-set!" ∷
    codes "list-tail" ∷ codes "list?" ∷ codes "make-bytevector" ∷ codes "make-list" ∷
    codes "make-parameter" ∷ codes "make-string" ∷ codes "make-vector" ∷ codes "map" ∷ codes "max" ∷
    codes "member" ∷ codes "memq" ∷ codes "memv" ∷ codes "min" ∷ codes "modulo" ∷ codes "negative?" ∷
    codes "newline" ∷ codes "not" ∷ codes "null?" ∷ codes "number->string" ∷ codes "number?" ∷
    codes "numerator" ∷ codes "odd?" ∷ codes "open-input-bytevector" ∷ codes "open-input-string" ∷
    codes "open-output-bytevector" ∷ codes "open-output-string" ∷ codes "or" ∷ codes "output-port-open?" ∷
    codes "output-port?" ∷ codes "pair?" ∷ codes "parameterize" ∷ codes "peek-char" ∷ codes "peek-u8" ∷
    codes "positive?" ∷ codes "procedure?" ∷ codes "quasiquote" ∷ codes "quote" ∷ codes "quotient" ∷
    codes "raise" ∷ codes "raise-continuable" ∷ codes "rational?" ∷ codes "rationalize" ∷
    codes "read-bytevector" ∷ codes "read-bytevector!" ∷ codes "read-char" ∷ codes "read-error?" ∷
    codes "read-line" ∷ codes "read-string" ∷ codes "read-u8" ∷ codes "real?" ∷ codes "remainder" ∷
    codes "reverse" ∷ codes "round" ∷ codes "set!" ∷ codes "set-car!" ∷ codes "set-cdr!" ∷ codes "square" ∷
    codes "string" ∷ codes "string->list" ∷ codes "string->number" ∷ codes "string->symbol" ∷
    codes "string->utf8" ∷ codes "string->vector" ∷ codes "string-append" ∷ codes "string-copy" ∷
    codes "string-copy!" ∷ codes "string-fill!" ∷ codes "string-for-each" ∷ codes "string-length" ∷
    codes "string-map" ∷ codes "string-ref" ∷ codes "string-set!" ∷ codes "string<=?" ∷ codes "string<?" ∷
    codes "string=?" ∷ codes "string>=?" ∷ codes "string>?" ∷ codes "string?" ∷ codes "substring" ∷
    codes "symbol->string" ∷ codes "symbol=?" ∷ codes "symbol?" ∷ codes "syntax-error" ∷
    codes "syntax-rules" ∷ codes "textual-port?" ∷ codes "truncate" ∷ codes "truncate-quotient" ∷
    codes "truncate-remainder" ∷ codes "truncate/" ∷ codes "u8-ready?" ∷ codes "unless" ∷ codes "unquote" ∷
    codes "unquote-splicing" ∷ codes "utf8->string" ∷ codes "values" ∷ codes "vector" ∷
    codes "vector->list" ∷ codes "vector->string" ∷ codes "vector-append" ∷ codes "vector-copy" ∷
    codes "vector-copy!" ∷ codes "vector-fill!" ∷ codes "vector-for-each" ∷ codes "vector-length" ∷
    codes "vector-map" ∷ codes "vector-ref" ∷ codes "vector-set!" ∷ codes "vector?" ∷ codes "when" ∷
    codes "with-exception-handler" ∷ codes "write-bytevector" ∷ codes "write-char" ∷ codes "write-string" ∷
    codes "write-u8" ∷ codes "zero?" ∷ []

abbrev pub is_base : List ℕ → Bool
is_base s = list_any (bytes_eq s) base_names
