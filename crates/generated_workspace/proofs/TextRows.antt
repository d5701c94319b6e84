-- Some texts and uris of workspaces, letter by letter.
use Rattle.std.specs.Prelude.{◌≡◌, codes, refl}
use Rattle.std.specs.Fmt.{digits}
use Rattle.generated_workspace.specs.Generated.{library_text, library_uri, main_text}

first_library : library_text 0 ≡ codes "(define-library (gen l0) (export f0 twice0) (import (scheme base)) (begin (define-syntax twice0 (syntax-rules () ((_ e) (let ((t e)) (+ t t))))) (define (f0 t) (twice0 (abs t)))))"
unfolding library_text digits
first_library = refl

second_library : library_text 1 ≡ codes "(define-library (gen l1) (export f1 twice1) (import (scheme base) (gen l0)) (begin (define-syntax twice1 (syntax-rules () ((_ e) (let ((t e)) (+ t t))))) (define (f1 t) (twice1 (f0 t)))))"
unfolding library_text digits
second_library = refl

eleventh_library : library_text 10 ≡ codes "(define-library (gen l10) (export f10 twice10) (import (scheme base) (gen l9)) (begin (define-syntax twice10 (syntax-rules () ((_ e) (let ((t e)) (+ t t))))) (define (f10 t) (twice10 (f9 t)))))"
unfolding library_text digits
eleventh_library = refl

main_of_one : main_text 0 ≡ codes "(import (scheme base) (gen l0)) (define t 1) (define r (twice0 (f0 t)))"
unfolding main_text digits
main_of_one = refl

main_of_two : main_text 1 ≡ codes "(import (scheme base) (gen l1)) (define t 1) (define r (twice1 (f1 t)))"
unfolding main_text digits
main_of_two = refl

eleventh_uri : library_uri 10 ≡ codes "gen:/l10"
unfolding digits
eleventh_uri = refl
