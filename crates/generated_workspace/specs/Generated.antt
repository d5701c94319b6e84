-- A workspace made of a number: so many libraries, of which each uses the one before it, and a program that uses the last (R7RS 5.6).
use Rattle.std.specs.Prelude.{ℕ, zero, suc, pos, List, ◌++◌, codes}
use Rattle.std.specs.FinMap.{empty, insert}
use Rattle.std.specs.Fmt.{decimal}
use Rattle.document_store.specs.Texts.{Texts}

-- what library n imports besides the standard one, and the function that it calls
abbrev pub import_before : ℕ → List ℕ
import_before zero = codes ""
import_before (suc n) = codes " (gen l" ++ decimal n ++ codes ")"

abbrev pub function_before : ℕ → List ℕ
function_before zero = codes "abs"
function_before (suc n) = codes "f" ++ decimal n

-- what it exports and imports; its macro, and its function, which calls that of the library before. The macro's template and the function each bind a `t`
abbrev pub library_exports : ℕ → List ℕ
library_exports n = codes "(export f" ++ decimal n ++ codes " twice" ++ decimal n ++ codes ")"

abbrev pub library_imports : ℕ → List ℕ
library_imports n = codes "(import (scheme base)" ++ import_before n ++ codes ")"

abbrev pub library_macro : ℕ → List ℕ
library_macro n = codes "(define-syntax twice" ++ decimal n ++ codes " (syntax-rules () ((_ e) (let ((t e)) (+ t t)))))"

abbrev pub library_call : ℕ → List ℕ
library_call n = codes "(twice" ++ decimal n ++ codes " (" ++ function_before n ++ codes " t))"

abbrev pub library_function : ℕ → List ℕ
library_function n = codes "(define (f" ++ decimal n ++ codes " t) " ++ library_call n ++ codes ")"

abbrev pub library_begin : ℕ → List ℕ
library_begin n = codes "(begin " ++ library_macro n ++ codes " " ++ library_function n ++ codes ")"

abbrev pub library_declarations : ℕ → List ℕ
library_declarations n = library_exports n ++ codes " " ++ library_imports n ++ codes " " ++ library_begin n

unfoldable pub library_text : ℕ → List ℕ
library_text n = codes "(define-library (gen l" ++ decimal n ++ codes ") " ++ library_declarations n ++ codes ")"

-- the program that uses library n
abbrev pub main_import : ℕ → List ℕ
main_import n = codes "(import (scheme base) (gen l" ++ decimal n ++ codes "))"

abbrev pub main_definitions : ℕ → List ℕ
main_definitions n = codes "(define t 1) (define r (twice" ++ decimal n ++ codes " (f" ++ decimal n ++ codes " t)))"

unfoldable pub main_text : ℕ → List ℕ
main_text n = main_import n ++ codes " " ++ main_definitions n

abbrev pub main_uri : List ℕ
main_uri = codes "gen:/main"

abbrev pub library_uri : ℕ → List ℕ
library_uri n = codes "gen:/l" ++ decimal n

-- the first n libraries, opened in order
abbrev pub libraries : ℕ → Texts
libraries zero = empty
libraries (suc n) = insert (libraries n) (library_uri n) (pos 0, library_text n)

-- so many libraries, and the program that uses the last of them
abbrev pub selfrun_texts : ℕ → Texts
selfrun_texts zero = empty
selfrun_texts (suc n) = insert (libraries (suc n)) main_uri (pos 0, main_text n)
