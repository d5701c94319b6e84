-- What small forms ask, computed: latest first, by the words of what is asked.
use Rattle.std.proofs.Common.{◌≡◌, ℕ, List, [], ◌∷◌, ◌++◌, map, true, false, Option, Some, None, refl}
use Rattle.std.specs.Prelude.{codes, if◌then◌else◌}
use Rattle.std.specs.Str.{bytes_eq}
use Rattle.scheme_model.specs.Ident.{Ident, Written, symbol_of}
use Rattle.scheme_model.specs.Trees.{Tree, name, list, Trees, no_trees, tree, proper}
use Rattle.scheme_model.specs.Meaning.{Meaning, Standard}
use Rattle.scheme_model.specs.ScopedExpansion.{ScopedState}
use Rattle.scheme_model.specs.Questions.{Around, Moment, Question, LooksUp, UsesRules, Compares, IsAssigned, Requires, Defines}
use Rattle.scheme_model.specs.FormsAlike.{set_aside_asking, questions_of_pass, questions_of_left}

-- what a program imports here
abbrev pub imported : List (List ℕ) → List ℕ → Option Meaning
imported [] s = None
imported (n ∷ ns) s = if bytes_eq s n then Some (Standard n) else imported ns s

abbrev pub empty : ScopedState
empty = record { unit = 0; program = true; form = 0; locals = λ f. 0; uses = λ f. 0; nodes = λ f. 0; bodies = λ f. 0; keywords = λ f. []; met = λ f. []; table = []; entry = λ u s. imported (codes "define" ∷ codes "lambda" ∷ codes "define-syntax" ∷ codes "syntax-rules" ∷ codes "let-syntax" ∷ codes "cond-expand" ∷ []) s; macros = []; places = []; definitions = [] }

abbrev pub around : ScopedState → Around
around s = record { state = s; known = λ n. false; notes = [] }

abbrev pub word : List ℕ → Tree Ident
word s = name (Written 0 s) None

abbrev pub form : List (Tree Ident) → Tree Ident
form ts = list (go ts) proper None
  where
    go : List (Tree Ident) → Trees Ident
    go [] = no_trees
    go (t ∷ ts) = tree t (go ts)

-- what each asks, in words
abbrev shown : Moment × Question → List ℕ
shown (n, LooksUp i) = symbol_of i
shown (n, UsesRules m) = codes "rules"
shown (n, Compares l i) = codes "same " ++ symbol_of l ++ codes " " ++ symbol_of i
shown (n, IsAssigned i) = codes "assigned " ++ symbol_of i
shown (n, Requires l) = codes "library"
shown (n, Defines fs x r ns) = codes "defines " ++ symbol_of x.name

abbrev asks : Tree Ident → List (List ℕ)
asks t = map shown (questions_of_pass (around empty) 20 t)

abbrev items_ask : Tree Ident → List (List ℕ)
items_ask t = map shown (questions_of_left (around empty) 20 (set_aside_asking (around empty) 20 t).0.left)

-- (define (g x) (f x))
abbrev defining : Tree Ident
defining = form (word (codes "define") ∷ form (word (codes "g") ∷ word (codes "x") ∷ []) ∷ form (word (codes "f") ∷ word (codes "x") ∷ []) ∷ [])

pass_asks : asks defining ≡ codes "defines g" ∷ codes "assigned g" ∷ codes "define" ∷ []
pass_asks = refl

-- the parameter isn't asked
no_parameter : items_ask defining ≡ codes "f" ∷ codes "f" ∷ codes "f" ∷ []
no_parameter = refl

-- (lambda (x) (define y x) (x y z)): neither the parameter nor what the body defines, nor how the definition ends
abbrev with_body : Tree Ident
with_body = form (word (codes "lambda") ∷ form (word (codes "x") ∷ []) ∷ form (word (codes "define") ∷ word (codes "y") ∷ word (codes "x") ∷ []) ∷ form (word (codes "x") ∷ word (codes "y") ∷ word (codes "z") ∷ []) ∷ [])

no_definition : items_ask with_body ≡ codes "z" ∷ codes "define" ∷ codes "lambda" ∷ []
no_definition = refl

-- (let-syntax ((m (syntax-rules (k) ((_ k) (f t))))) (m k)): not the macro, nor its rules; but what its use inserted, at the root
abbrev with_macro : Tree Ident
with_macro =
    form (word (codes "let-syntax")
    ∷ form (form (word (codes "m") ∷ form (word (codes "syntax-rules") ∷ form (word (codes "k") ∷ []) ∷ form (form (word (codes "_") ∷ word (codes "k") ∷ []) ∷ form (word (codes "f") ∷ word (codes "t") ∷ []) ∷ []) ∷ []) ∷ []) ∷ [])
    ∷ form (word (codes "m") ∷ word (codes "k") ∷ []) ∷ [])

macro_asks : items_ask with_macro ≡ codes "t" ∷ codes "f" ∷ codes "f" ∷ codes "k" ∷ codes "f" ∷ codes "same k k" ∷ codes "k" ∷ codes "k" ∷ codes "f" ∷ codes "t" ∷ codes "syntax-rules" ∷ codes "let-syntax" ∷ []
macro_asks = refl
