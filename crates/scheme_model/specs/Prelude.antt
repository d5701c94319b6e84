-- Derived forms as macros (R7RS 4.2, 7.3): of each the name, and what stands behind `syntax-rules`, as it is written. They keep
-- the regions that the report gives the binders, not its running. A name with `%` is in no library.
use Rattle.std.specs.Prelude.{ℕ, List, [], ◌∷◌, codes}
use Rattle.scheme_model.specs.Trees.{Trees}
use Rattle.scheme_model.specs.TreeTexts.{trees_of}

pub record PreludeMacro : Type 0 where
  pub name : List ℕ
  pub parts : Trees (List ℕ)

abbrev macro : List ℕ → List (List ℕ) → PreludeMacro
macro name lines = record { name = name; parts = trees_of lines }

unfoldable pub prelude : List PreludeMacro
prelude =
    macro (codes "let") (
    codes "()" ∷
    codes "((_ ((n v) ...) b0 b ...) ((lambda (n ...) b0 b ...) v ...))" ∷
    codes "((_ tag ((n v) ...) b0 b ...) ((letrec ((tag (lambda (n ...) b0 b ...))) tag) v ...))" ∷ []) ∷
    macro (codes "let*") (
    codes "()" ∷
    codes "((_ () b0 b ...) (let () b0 b ...))" ∷
    codes "((_ (x y ...) b0 b ...) (let (x) (let* (y ...) b0 b ...)))" ∷ []) ∷
    macro (codes "letrec") (
    codes "()" ∷
    codes "((_ ((n v) ...) b0 b ...) (let () (define n v) ... (let () b0 b ...)))" ∷ []) ∷
    macro (codes "letrec*") (
    codes "()" ∷
    codes "((_ ((n v) ...) b0 b ...) (let () (define n v) ... (let () b0 b ...)))" ∷ []) ∷
    macro (codes "do") (
    codes "()" ∷
    codes "((_ ((v i . s) ...) (t r ...) c ...) (let loop ((v i) ...) (if t (begin #f r ...) (begin #f c ..." ∷
    codes "(loop (%do v . s) ...)))))" ∷ []) ∷
    macro (codes "%do") (
    codes "()" ∷
    codes "((_ x) x)" ∷
    codes "((_ x y) y)" ∷ []) ∷
    macro (codes "cond") (
    codes "(else =>)" ∷
    codes "((_ (else e0 e ...)) (begin e0 e ...))" ∷
    codes "((_ (t => f)) (let ((x t)) (if x (f x))))" ∷
    codes "((_ (t => f) c0 c ...) (let ((x t)) (if x (f x) (cond c0 c ...))))" ∷
    codes "((_ (t)) t)" ∷
    codes "((_ (t) c0 c ...) (let ((x t)) (if x x (cond c0 c ...))))" ∷
    codes "((_ (t e0 e ...)) (if t (begin e0 e ...)))" ∷
    codes "((_ (t e0 e ...) c0 c ...) (if t (begin e0 e ...) (cond c0 c ...)))" ∷ []) ∷
    macro (codes "case") (
    codes "()" ∷
    codes "((_ k c0 c ...) (let ((x k)) (%case x c0 c ...)))" ∷ []) ∷
    macro (codes "%case") (
    codes "(else =>)" ∷
    codes "((_ x) #f)" ∷
    codes "((_ x (else => f)) (f x))" ∷
    codes "((_ x (else e0 e ...)) (begin e0 e ...))" ∷
    codes "((_ x ((d ...) => f) c ...) (if (memv x '(d ...)) (f x) (%case x c ...)))" ∷
    codes "((_ x ((d ...) e0 e ...) c ...) (if (memv x '(d ...)) (begin e0 e ...) (%case x c ...)))" ∷ []) ∷
    macro (codes "and") (
    codes "()" ∷
    codes "((_) #t)" ∷
    codes "((_ e) e)" ∷
    codes "((_ e f ...) (if e (and f ...) #f))" ∷ []) ∷
    macro (codes "or") (
    codes "()" ∷
    codes "((_) #f)" ∷
    codes "((_ e) e)" ∷
    codes "((_ e f ...) (let ((x e)) (if x x (or f ...))))" ∷ []) ∷
    macro (codes "when") (
    codes "()" ∷
    codes "((_ t e0 e ...) (if t (begin e0 e ...)))" ∷ []) ∷
    macro (codes "unless") (
    codes "()" ∷
    codes "((_ t e0 e ...) (if t #f (begin e0 e ...)))" ∷ []) ∷
    macro (codes "let-values") (
    codes "()" ∷
    codes "((_ (m ...) b0 b ...) (%lv (m ...) () (let () b0 b ...)))" ∷ []) ∷
    macro (codes "%lv") (
    codes "()" ∷
    codes "((_ () ((f e t) ...) b) (let ((t (lambda () e)) ...) (%lw ((f t) ...) b)))" ∷
    codes "((_ ((f e) m ...) (x ...) b) (%lv (m ...) (x ... (f e t)) b))" ∷ []) ∷
    macro (codes "%lw") (
    codes "()" ∷
    codes "((_ () b) b)" ∷
    codes "((_ ((f t) m ...) b) (call-with-values t (lambda f (%lw (m ...) b))))" ∷ []) ∷
    macro (codes "let*-values") (
    codes "()" ∷
    codes "((_ () b0 b ...) (let () b0 b ...))" ∷
    codes "((_ ((f e) m ...) b0 b ...) (call-with-values (lambda () e) (lambda f (let*-values (m ...) b0 b" ∷
    codes "...))))" ∷ []) ∷
    macro (codes "parameterize") (
    codes "()" ∷
    codes "((_ ((p v) ...) b0 b ...) (begin (cons p v) ... (let () b0 b ...)))" ∷ []) ∷
    macro (codes "guard") (
    codes "()" ∷
    codes "((_ (x c0 c ...) b0 b ...) ((lambda (x) (cond c0 c ...)) (let () b0 b ...)))" ∷ []) ∷
    macro (codes "delay") (
    codes "()" ∷
    codes "((_ e) (make-promise (lambda () e)))" ∷ []) ∷
    macro (codes "delay-force") (
    codes "()" ∷
    codes "((_ e) (make-promise (lambda () e)))" ∷ []) ∷ []
