-- What is noted for small forms, computed: latest first, by the words of what is asked, each with the form's own definitions by then.
use Rattle.std.proofs.Common.{◌≡◌, ℕ, List, [], ◌∷◌, ◌++◌, map, refl}
use Rattle.std.specs.Prelude.{codes}
use Rattle.scheme_model.specs.Ident.{Ident, Written, symbol_of}
use Rattle.scheme_model.specs.Trees.{Tree}
use Rattle.scheme_model.specs.Meaning.{Standard, Free}
use Rattle.scheme_model.specs.Substitution.{Defined}
use Rattle.scheme_model.specs.OwnAnswers.{root_means}
use Rattle.scheme_model.specs.Questions.{Around, Moment, Question, LooksUp, UsesRules, Compares, IsAssigned, Requires, Defines, Answer, answer}
use Rattle.scheme_model.specs.FormsAlike.{set_aside, questions_of_pass}
use Rattle.form_laws.proofs.QuestionRows.{imported, empty, around, word, form}
use Rattle.question_laws.specs.Noted.{before_uses, all_noted}

-- a program that imports these alone
abbrev first : Around
first = around (record empty { entry = λ u s. imported (codes "define" ∷ codes "begin" ∷ codes "define-syntax" ∷ codes "syntax-rules" ∷ []) s })

-- at the unit's form with this number, behind another
abbrev behind : Around → ℕ → Tree Ident → Around
behind w n t = let q = set_aside w 20 t in record { state = record q.1 { form = n }; known = w.known; notes = q.0.notes }

abbrev defined_word : Defined → List ℕ
defined_word d = symbol_of d.ident

-- the symbols that are defined by then, and what is asked
abbrev said : Moment × Question → List (List ℕ) × List ℕ
said (n, LooksUp i) = (map defined_word n.table, symbol_of i)
said (n, UsesRules m) = (map defined_word n.table, codes "rules")
said (n, Compares l i) = (map defined_word n.table, codes "same " ++ symbol_of l ++ codes " " ++ symbol_of i)
said (n, IsAssigned i) = (map defined_word n.table, codes "assigned " ++ symbol_of i)
said (n, Requires l) = (map defined_word n.table, codes "library")
said (n, Defines fs x r ns) = (map defined_word n.table, codes "defines " ++ symbol_of x.name)

abbrev asks : Around → Tree Ident → List (List (List ℕ) × List ℕ)
asks w t = map said (questions_of_pass w 20 t)

abbrev notes : Around → Tree Ident → List (List (List ℕ) × List ℕ)
notes w t = map said (all_noted w (questions_of_pass w 20 t))

-- (begin (define helper x) (helper))
abbrev helped : List ℕ → Tree Ident
helped s = form (word (codes "begin") ∷ form (word (codes "define") ∷ word (codes "helper") ∷ word (codes "x") ∷ []) ∷ form (word s ∷ []) ∷ [])

all_asked : asks first (helped (codes "helper"))
    ≡ (codes "helper" ∷ [], codes "helper") ∷ ([], codes "defines helper") ∷ ([], codes "assigned helper") ∷ ([], codes "define") ∷ ([], codes "begin") ∷ []
all_asked = refl

-- what the form answers itself isn't noted
own_not_noted : notes first (helped (codes "helper")) ≡ ([], codes "defines helper") ∷ ([], codes "assigned helper") ∷ ([], codes "define") ∷ ([], codes "begin") ∷ []
own_not_noted = refl

-- a later identifier is noted as it is asked when the form begins
later_noted : notes first (helped (codes "f")) ≡ ([], codes "f") ∷ ([], codes "defines helper") ∷ ([], codes "assigned helper") ∷ ([], codes "define") ∷ ([], codes "begin") ∷ []
later_noted = refl

-- (define-syntax def (syntax-rules () ((_ m) (define-syntax m (syntax-rules () ((_) (helper)))))))
abbrev defining : Tree Ident
defining =
    form (word (codes "define-syntax") ∷ word (codes "def")
    ∷ form (word (codes "syntax-rules") ∷ form [] ∷ form (form (word (codes "_") ∷ word (codes "m") ∷ [])
    ∷ form (word (codes "define-syntax") ∷ word (codes "m") ∷ form (word (codes "syntax-rules") ∷ form [] ∷ form (form (word (codes "_") ∷ []) ∷ form (word (codes "helper") ∷ []) ∷ []) ∷ []) ∷ []) ∷ []) ∷ []) ∷ [])

-- (def foo), behind it: so the rules of foo have a helper that a use of another form inserted
abbrev then_foo : Around
then_foo = behind (behind first 1 defining) 2 (form (word (codes "def") ∷ word (codes "foo") ∷ []))

-- whether that one is defined is asked at its moment, since the form's own helper is within it
within_noted : notes then_foo (helped (codes "foo"))
    ≡ (codes "helper" ∷ [], codes "helper") ∷ ([], codes "rules") ∷ ([], codes "foo") ∷ ([], codes "defines helper") ∷ ([], codes "assigned helper") ∷ ([], codes "define") ∷ ([], codes "begin") ∷ []
within_noted = refl

-- where helper is imported too, all answers are the same, though that identifier means something else when the form begins: so a note of what it
-- means then would ask too much
abbrev imports_more : Around
imports_more = record then_foo { state = record then_foo.state { entry = λ u s. imported (codes "helper" ∷ codes "define" ∷ codes "begin" ∷ codes "define-syntax" ∷ codes "syntax-rules" ∷ []) s } }

abbrev answers_in : Around → List Answer
answers_in v = map (λ q. answer v q.0 q.1) (questions_of_pass then_foo 20 (helped (codes "foo")))

answers_same : answers_in imports_more ≡ answers_in then_foo
answers_same = refl

abbrev latest : List (Moment × Question) → Ident
latest [] = Written 0 []
latest ((n, LooksUp i) ∷ qs) = i
latest (q ∷ qs) = Written 0 []

abbrev inserted : Ident
inserted = before_uses then_foo.state (latest (questions_of_pass then_foo 20 (helped (codes "foo"))))

free_at_first : root_means then_foo.state inserted ≡ Free (codes "helper")
free_at_first = refl

imported_at_first : root_means imports_more.state inserted ≡ Standard (codes "helper")
imported_at_first = refl
