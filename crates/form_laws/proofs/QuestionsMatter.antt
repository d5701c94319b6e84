-- Each question of a form matters: two surroundings that answer it otherwise, and all others of the form alike, and what a small form
-- comes to in each, computed.
use Rattle.std.proofs.Common.{◌≡◌, ℕ, zero, suc, List, [], ◌∷◌, map, Bool, true, false, Option, Some, None, Result, Ok, Err, refl}
use Rattle.std.specs.Prelude.{codes, ◌&&◌, if◌then◌else◌}
use Rattle.std.specs.Str.{bytes_eq}
use Rattle.scheme_model.specs.Ident.{Ident, Written}
use Rattle.scheme_model.specs.Trees.{Tree, name, atom, list, vector}
use Rattle.scheme_model.specs.Meaning.{Meaning, Local, Global, Standard, Free}
use Rattle.scheme_model.specs.Cores.{Core, Ref, Parts, no_parts, part, Part, Expression as expression_part}
use Rattle.scheme_model.specs.Steps.{Broken}
use Rattle.scheme_model.specs.Order.{Item, Expression, Value, Function, Assigned, AssignedFunction, ValuesOf, Record, Macro, Left}
use Rattle.scheme_model.specs.ScopedExpansion.{ScopedState}
use Rattle.scheme_model.specs.Questions.{Around}
use Rattle.scheme_model.specs.FormsAlike.{set_aside, finish}
use Rattle.form_laws.proofs.QuestionRows.{empty, around, word, form}

-- a form behind another of its unit
abbrev behind : Around → Tree Ident → Around
behind w t = let q = set_aside w 20 t in record { state = q.1; known = w.known; notes = q.0.notes }

abbrev item_word : Item Ident → List ℕ
item_word (Expression x) = tree_word x.tree
  where
    tree_word : Tree Ident → List ℕ
    tree_word (name i o) = codes "name"
    tree_word (atom a o) = codes "atom"
    tree_word (list ts tail o) = codes "list"
    tree_word (vector ts o) = codes "vector"
item_word (Value b x) = codes "value"
item_word (Function b here c) = codes "function"
item_word (Assigned n x) = codes "assigned"
item_word (AssignedFunction n here c) = codes "assigned function"
item_word (ValuesOf bs x) = codes "values"
item_word (Record r) = codes "record"
item_word (Macro b here) = codes "macro"

-- what a form sets aside, in words
abbrev said : Around → Tree Ident → List (List ℕ)
said w t = go (set_aside w 20 t).0.left
  where
    go : Result (Left Ident) Broken → List (List ℕ)
    go (Ok l) = map item_word l.items
    go (Err b) = codes "fault" ∷ []

-- what the identifiers mean that it then refers to
abbrev meant : Around → Tree Ident → List (List ℕ)
meant w t = go (finish w 20 (set_aside w 20 t).0.left).0
  where
    meaning_word : Meaning → List ℕ
    meaning_word (Local v) = codes "local"
    meaning_word (Global u i) = codes "global"
    meaning_word (Standard s) = codes "standard"
    meaning_word (Free s) = codes "free"

    core_word : Core → List ℕ
    core_word (Ref x) = meaning_word x.meaning
    core_word c = codes "other"

    part_word : Part → List ℕ
    part_word (expression_part c) = core_word c
    part_word p = codes "other"

    words : Parts → List (List ℕ)
    words no_parts = []
    words (part p ps) = part_word p ∷ words ps

    go : Result Parts Broken → List (List ℕ)
    go (Ok ps) = words ps
    go (Err b) = codes "fault" ∷ []

-- ---- the rows

-- (define x y), and (define x z) behind it
abbrev defines_x : Tree Ident
defines_x = form (word (codes "define") ∷ word (codes "x") ∷ word (codes "y") ∷ [])

abbrev again_x : Tree Ident
again_x = form (word (codes "define") ∷ word (codes "x") ∷ word (codes "z") ∷ [])

-- what x means
look_up_there : meant (around empty) (word (codes "x")) ≡ codes "free" ∷ []
look_up_there = refl

look_up_here : meant (behind (around empty) defines_x) (word (codes "x")) ≡ codes "global" ∷ []
look_up_here = refl

-- whether a definition is an assignment, in a program
assigned_there : said (around empty) again_x ≡ codes "value" ∷ []
assigned_there = refl

assigned_here : said (behind (around empty) defines_x) again_x ≡ codes "assigned" ∷ []
assigned_here = refl

-- how a definition ends, in a library
abbrev library : ScopedState
library = record empty { program = false }

ends_there : said (around library) again_x ≡ codes "value" ∷ []
ends_there = refl

ends_here : said (behind (around library) defines_x) again_x ≡ codes "fault" ∷ []
ends_here = refl

-- (m), where m is a variable, a macro that gives x, and one that gives (x)
abbrev uses_m : Tree Ident
uses_m = form (word (codes "m") ∷ [])

abbrev variable_m : Tree Ident
variable_m = form (word (codes "define") ∷ word (codes "m") ∷ word (codes "y") ∷ [])

abbrev macro_m : Tree Ident → Tree Ident
macro_m t = form (word (codes "define-syntax") ∷ word (codes "m") ∷ form (word (codes "syntax-rules") ∷ form [] ∷ form (form (word (codes "_") ∷ []) ∷ t ∷ []) ∷ []) ∷ [])

keyword_there : said (behind (around empty) variable_m) uses_m ≡ codes "list" ∷ []
keyword_there = refl

keyword_here : said (behind (around empty) (macro_m (word (codes "x")))) uses_m ≡ codes "name" ∷ []
keyword_here = refl

rules_here : said (behind (around empty) (macro_m (form (word (codes "x") ∷ [])))) uses_m ≡ codes "list" ∷ []
rules_here = refl

-- (cond-expand ((library (a)) x) (else (x)))
abbrev requires : Tree Ident
requires = form (word (codes "cond-expand") ∷ form (form (word (codes "library") ∷ form (word (codes "a") ∷ []) ∷ []) ∷ word (codes "x") ∷ []) ∷ form (word (codes "else") ∷ form (word (codes "x") ∷ []) ∷ []) ∷ [])

library_there : said (around empty) requires ≡ codes "list" ∷ []
library_there = refl

library_here : said (record { state = empty; known = λ n. true; notes = [] }) requires ≡ codes "name" ∷ []
library_here = refl

-- (m k), where the macro of another unit has the literal k: there neither unit gives k a meaning, and here this one imports it
abbrev word_there : List ℕ → Tree Ident
word_there s = name (Written 1 s) None

abbrev macro_there : Tree Ident
macro_there = form (word_there (codes "define-syntax") ∷ word_there (codes "m") ∷ form (word_there (codes "syntax-rules") ∷ form (word_there (codes "k") ∷ []) ∷ form (form (word_there (codes "_") ∷ word_there (codes "k") ∷ []) ∷ word_there (codes "x") ∷ []) ∷ []) ∷ [])

-- what this unit imports
abbrev entries : Bool → ℕ → List ℕ → Option Meaning
entries given (suc u) s = None
entries given zero s = if bytes_eq s (codes "m") then Some (Global 1 (Written 1 (codes "m"))) else if given && bytes_eq s (codes "k") then Some (Standard (codes "k")) else None

abbrev beside : Bool → Around
beside given = let q = set_aside (around (record empty { unit = 1 })) 20 macro_there in around (record q.1 { unit = 0; entry = entries given })

abbrev compares : Tree Ident
compares = form (word (codes "m") ∷ word (codes "k") ∷ [])

compared_there : said (beside false) compares ≡ codes "name" ∷ []
compared_there = refl

compared_here : said (beside true) compares ≡ codes "fault" ∷ []
compared_here = refl
