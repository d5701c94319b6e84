-- Rules of macros, and which rule a use matches and what its template gives, from outside.
-- Written by tests/definitions/rows; each row is checked by computing it.
use Rattle.std.specs.Prelude.{◌≡◌, ℕ, Bool, true, false, ◌&&◌, ◌||◌, List, [], ◌∷◌, Option, Some, None, Result, Ok, Err, codes, refl}
use Rattle.scheme_model.specs.declared.Occ.{Occ}
use Rattle.scheme_model.specs.Identifiers.{Number}
use Rattle.scheme_model.specs.Ident as x
use Rattle.scheme_model.specs.Ident.{same_ident, symbol_of}
use Rattle.scheme_model.specs.Trees as t
use Rattle.scheme_model.specs.ExpansionFaults as f
use Rattle.scheme_model.specs.ExpansionFaults.{Named, named, Fault}
use Rattle.scheme_model.specs.RulesShape.{Names, Rule, Rules, rules_of, role_of, dots_of}
use Rattle.scheme_model.specs.Matching as v
use Rattle.scheme_model.specs.Matching.{Binding, Chosen, match_of, matcher, first_match, compared}
use Rattle.scheme_model.specs.Building.{Built, built, build}

abbrev o : ℕ → ℕ → ℕ → Occ
o unit form token = record { unit = unit; form = form; token = token }

abbrev n : ℕ → ℕ → ℕ → Number
n unit form count = record { unit = unit; form = form; count = count }

abbrev u : t.Trees x.Ident → t.Tail x.Ident → t.Tree x.Ident → Rule x.Ident
u parts tail template = record { parts = parts; tail = tail; template = template }

abbrev rs : Option x.Ident → List (Named x.Ident) → List (Rule x.Ident) → Rules x.Ident
rs ellipsis literals rules = record { ellipsis = ellipsis; literals = literals; rules = rules }

abbrev b : x.Ident → v.Value x.Ident → Binding x.Ident x.Ident
b variable value = record { variable = variable; value = value }

abbrev c : Rule x.Ident → List (Binding x.Ident x.Ident) → List (Named x.Ident) → Chosen x.Ident x.Ident
c rule bindings met = record { rule = rule; match = match_of bindings met }

abbrev names : Names x.Ident
names = record { same = same_ident; strip = symbol_of }

-- the first part of a list isn't looked at
abbrev behind_head : {X : Type 0} → t.Tree x.Ident → X → (t.Trees x.Ident → t.Tail x.Ident → X) → X
behind_head (t.name i p) otherwise g = otherwise
behind_head (t.atom a p) otherwise g = otherwise
behind_head (t.vector ts p) otherwise g = otherwise
behind_head (t.list t.no_trees tail p) otherwise g = otherwise
behind_head (t.list (t.tree d ts) tail p) otherwise g = g ts tail

abbrev rules_row : t.Tree x.Ident → Result (Rules x.Ident) (Fault x.Ident)
rules_row d = behind_head d (Err f.BadRules) (λ ts tail. rules_of names ts tail)

abbrev of_rules : {X : Type 0} → Result (Rules x.Ident) (Fault x.Ident) → X → (Rules x.Ident → X) → X
of_rules (Err e) otherwise g = otherwise
of_rules (Ok r) otherwise g = g r

abbrev same : List (x.Ident × x.Ident) → x.Ident → x.Ident → Bool
same [] i j = false
same (p ∷ ps) i j = (same_ident p.0 i && same_ident p.1 j) || same ps i j

abbrev matched : Rules x.Ident → t.Tree x.Ident → List (x.Ident × x.Ident) → Option (Chosen x.Ident x.Ident)
matched r d ps = behind_head d None (λ ts tail. first_match (matcher names r (same ps)) r.rules ts tail)

abbrev match_row : t.Tree x.Ident → t.Tree x.Ident → List (x.Ident × x.Ident) → Option (Chosen x.Ident x.Ident)
match_row d e ps = of_rules (rules_row d) None (λ r. matched r e ps)

abbrev pairs_row : t.Tree x.Ident → t.Tree x.Ident → List (x.Ident × x.Ident)
pairs_row d e = of_rules (rules_row d) [] (λ r. behind_head e [] (λ ts tail. compared (role_of names r) (dots_of names r) r.rules ts tail))

abbrev instance_of : Rules x.Ident → ℕ → Option (Chosen x.Ident x.Ident) → Option (Result (Built (t.Tree x.Ident)) (Fault x.Ident))
instance_of r left None = None
instance_of r left (Some m) = Some (build names r (λ i. x.Inserted i (n 0 1 0)) m.rule.template m.match.bindings left)

abbrev build_row : t.Tree x.Ident → t.Tree x.Ident → List (x.Ident × x.Ident) → ℕ → Option (Result (Built (t.Tree x.Ident)) (Fault x.Ident))
build_row d e ps left = of_rules (rules_row d) None (λ r. instance_of r left (matched r e ps))

pub rules-4 : rules_row (t.list (t.tree (t.name (x.Written 0 (codes "syntax-rules")) (Some (o 0 0 1))) (t.tree (t.list t.no_trees t.proper (Some (o 0 0 2))) t.no_trees)) t.proper (Some (o 0 0 0))) ≡ Ok (rs None ([]) ([]))
rules-4 = refl

pub rules-9 : rules_row (t.list (t.tree (t.name (x.Written 0 (codes "syntax-rules")) (Some (o 0 0 1))) (t.tree (t.list t.no_trees t.proper (Some (o 0 0 2))) (t.tree (t.list (t.tree (t.list (t.tree (t.name (x.Written 0 (codes "_")) (Some (o 0 0 6))) (t.tree (t.vector (t.tree (t.name (x.Written 0 (codes "a")) (Some (o 0 0 8))) (t.tree (t.name (x.Written 0 (codes "...")) (Some (o 0 0 9))) (t.tree (t.atom (t.Quoted (codes "s")) (Some (o 0 0 10))) t.no_trees))) (Some (o 0 0 7))) (t.tree (t.atom (t.Character 120) (Some (o 0 0 12))) t.no_trees))) t.proper (Some (o 0 0 5))) (t.tree (t.vector (t.tree (t.name (x.Written 0 (codes "a")) (Some (o 0 0 15))) (t.tree (t.name (x.Written 0 (codes "...")) (Some (o 0 0 16))) t.no_trees)) (Some (o 0 0 14))) t.no_trees)) t.proper (Some (o 0 0 4))) t.no_trees))) t.proper (Some (o 0 0 0))) ≡ Ok (rs None ([]) ((u (t.tree (t.vector (t.tree (t.name (x.Written 0 (codes "a")) (Some (o 0 0 8))) (t.tree (t.name (x.Written 0 (codes "...")) (Some (o 0 0 9))) (t.tree (t.atom (t.Quoted (codes "s")) (Some (o 0 0 10))) t.no_trees))) (Some (o 0 0 7))) (t.tree (t.atom (t.Character 120) (Some (o 0 0 12))) t.no_trees)) t.proper (t.vector (t.tree (t.name (x.Written 0 (codes "a")) (Some (o 0 0 15))) (t.tree (t.name (x.Written 0 (codes "...")) (Some (o 0 0 16))) t.no_trees)) (Some (o 0 0 14)))) ∷ []))
rules-9 = refl

pub rules-16 : rules_row (t.list t.no_trees t.proper (Some (o 0 0 0))) ≡ Err (f.BadRules)
rules-16 = refl

pub rules-21 : rules_row (t.list (t.tree (t.name (x.Written 0 (codes "syntax-rules")) (Some (o 0 0 1))) (t.tree (t.list (t.tree (t.name (x.Written 0 (codes "a")) (Some (o 0 0 3))) t.no_trees) (t.dotted (t.name (x.Written 0 (codes "b")) (Some (o 0 0 5)))) (Some (o 0 0 2))) t.no_trees)) t.proper (Some (o 0 0 0))) ≡ Err (f.BadRules)
rules-21 = refl

pub rules-26 : rules_row (t.list (t.tree (t.name (x.Written 0 (codes "syntax-rules")) (Some (o 0 0 1))) (t.tree (t.list t.no_trees t.proper (Some (o 0 0 2))) (t.tree (t.list (t.tree (t.list (t.tree (t.atom (t.Numeral (codes "1")) (Some (o 0 0 6))) (t.tree (t.name (x.Written 0 (codes "a")) (Some (o 0 0 7))) t.no_trees)) t.proper (Some (o 0 0 5))) (t.tree (t.atom (t.Numeral (codes "1")) (Some (o 0 0 9))) t.no_trees)) t.proper (Some (o 0 0 4))) t.no_trees))) t.proper (Some (o 0 0 0))) ≡ Err (f.BadRules)
rules-26 = refl

pub rules-31 : rules_row (t.list (t.tree (t.name (x.Written 0 (codes "syntax-rules")) (Some (o 0 0 1))) (t.tree (t.list t.no_trees t.proper (Some (o 0 0 2))) (t.tree (t.list (t.tree (t.list (t.tree (t.name (x.Written 0 (codes "_")) (Some (o 0 0 6))) (t.tree (t.name (x.Written 0 (codes "a")) (Some (o 0 0 7))) t.no_trees)) (t.dotted (t.name (x.Written 0 (codes "...")) (Some (o 0 0 9)))) (Some (o 0 0 5))) (t.tree (t.atom (t.Numeral (codes "1")) (Some (o 0 0 11))) t.no_trees)) t.proper (Some (o 0 0 4))) t.no_trees))) t.proper (Some (o 0 0 0))) ≡ Err (f.BadRules)
rules-31 = refl

pub rules-38 : rules_row (t.list (t.tree (t.name (x.Written 0 (codes "syntax-rules")) (Some (o 0 0 1))) (t.tree (t.list t.no_trees t.proper (Some (o 0 0 2))) (t.tree (t.list (t.tree (t.list (t.tree (t.name (x.Written 0 (codes "_")) (Some (o 0 0 6))) (t.tree (t.vector (t.tree (t.name (x.Written 0 (codes "a")) (Some (o 0 0 8))) (t.tree (t.name (x.Written 0 (codes "...")) (Some (o 0 0 9))) (t.tree (t.name (x.Written 0 (codes "b")) (Some (o 0 0 10))) (t.tree (t.name (x.Written 0 (codes "...")) (Some (o 0 0 11))) t.no_trees)))) (Some (o 0 0 7))) t.no_trees)) t.proper (Some (o 0 0 5))) (t.tree (t.name (x.Written 0 (codes "a")) (Some (o 0 0 14))) t.no_trees)) t.proper (Some (o 0 0 4))) t.no_trees))) t.proper (Some (o 0 0 0))) ≡ Err (f.TwoEllipses)
rules-38 = refl

pub rules-45 : rules_row (t.list (t.tree (t.name (x.Written 0 (codes "syntax-rules")) (Some (o 0 0 1))) (t.tree (t.list t.no_trees t.proper (Some (o 0 0 2))) (t.tree (t.list (t.tree (t.list (t.tree (t.name (x.Written 0 (codes "_")) (Some (o 0 0 6))) (t.tree (t.name (x.Written 0 (codes "a")) (Some (o 0 0 7))) t.no_trees)) (t.dotted (t.name (x.Written 0 (codes "a")) (Some (o 0 0 9)))) (Some (o 0 0 5))) (t.tree (t.atom (t.Numeral (codes "1")) (Some (o 0 0 11))) t.no_trees)) t.proper (Some (o 0 0 4))) t.no_trees))) t.proper (Some (o 0 0 0))) ≡ Err (f.DuplicateVariable (named (x.Written 0 (codes "a")) (Some (o 0 0 9))))
rules-45 = refl

pub rules-54 : rules_row (t.list (t.tree (t.name (x.Written 0 (codes "syntax-rules")) (Some (o 0 0 1))) (t.tree (t.list t.no_trees t.proper (Some (o 0 0 2))) (t.tree (t.list (t.tree (t.list (t.tree (t.name (x.Written 0 (codes "_")) (Some (o 0 0 6))) (t.tree (t.name (x.Written 0 (codes "a")) (Some (o 0 0 7))) t.no_trees)) t.proper (Some (o 0 0 5))) (t.tree (t.list (t.tree (t.name (x.Written 0 (codes "a")) (Some (o 0 0 10))) (t.tree (t.name (x.Written 0 (codes "...")) (Some (o 0 0 11))) t.no_trees)) t.proper (Some (o 0 0 9))) t.no_trees)) t.proper (Some (o 0 0 4))) t.no_trees))) t.proper (Some (o 0 0 0))) ≡ Err (f.IdleEllipsis)
rules-54 = refl

pub rules-61 : rules_row (t.list (t.tree (t.name (x.Written 0 (codes "syntax-rules")) (Some (o 0 0 1))) (t.tree (t.list t.no_trees t.proper (Some (o 0 0 2))) (t.tree (t.list (t.tree (t.list (t.tree (t.name (x.Written 0 (codes "_")) (Some (o 0 0 6))) (t.tree (t.name (x.Written 0 (codes "a")) (Some (o 0 0 7))) (t.tree (t.name (x.Written 0 (codes "a")) (Some (o 0 0 8))) (t.tree (t.name (x.Written 0 (codes "b")) (Some (o 0 0 9))) (t.tree (t.name (x.Written 0 (codes "...")) (Some (o 0 0 10))) (t.tree (t.name (x.Written 0 (codes "c")) (Some (o 0 0 11))) (t.tree (t.name (x.Written 0 (codes "...")) (Some (o 0 0 12))) t.no_trees))))))) t.proper (Some (o 0 0 5))) (t.tree (t.name (x.Written 0 (codes "b")) (Some (o 0 0 14))) t.no_trees)) t.proper (Some (o 0 0 4))) t.no_trees))) t.proper (Some (o 0 0 0))) ≡ Err (f.TwoEllipses)
rules-61 = refl

pub rules-68 : match_row (t.list (t.tree (t.name (x.Written 0 (codes "syntax-rules")) (Some (o 0 0 1))) (t.tree (t.list t.no_trees t.proper (Some (o 0 0 2))) (t.tree (t.list (t.tree (t.list (t.tree (t.name (x.Written 0 (codes "_")) (Some (o 0 0 6))) (t.tree (t.name (x.Written 0 (codes "a")) (Some (o 0 0 7))) t.no_trees)) t.proper (Some (o 0 0 5))) (t.tree (t.atom (t.Numeral (codes "1")) (Some (o 0 0 9))) t.no_trees)) t.proper (Some (o 0 0 4))) t.no_trees))) t.proper (Some (o 0 0 0))) (t.list (t.tree (t.name (x.Written 0 (codes "m")) (Some (o 0 1 1))) (t.tree (t.name (x.Written 0 (codes "x")) (Some (o 0 1 2))) t.no_trees)) (t.dotted (t.name (x.Written 0 (codes "y")) (Some (o 0 1 4)))) (Some (o 0 1 0))) ([]) ≡ None
rules-68 = refl

pub rules-73 : match_row (t.list (t.tree (t.name (x.Written 0 (codes "syntax-rules")) (Some (o 0 0 1))) (t.tree (t.list t.no_trees t.proper (Some (o 0 0 2))) (t.tree (t.list (t.tree (t.list (t.tree (t.name (x.Written 0 (codes "_")) (Some (o 0 0 6))) (t.tree (t.list (t.tree (t.name (x.Written 0 (codes "a")) (Some (o 0 0 8))) (t.tree (t.name (x.Written 0 (codes "b")) (Some (o 0 0 9))) (t.tree (t.name (x.Written 0 (codes "...")) (Some (o 0 0 10))) t.no_trees))) t.proper (Some (o 0 0 7))) (t.tree (t.name (x.Written 0 (codes "...")) (Some (o 0 0 12))) t.no_trees))) t.proper (Some (o 0 0 5))) (t.tree (t.atom (t.Numeral (codes "1")) (Some (o 0 0 14))) t.no_trees)) t.proper (Some (o 0 0 4))) t.no_trees))) t.proper (Some (o 0 0 0))) (t.list (t.tree (t.name (x.Written 0 (codes "m")) (Some (o 0 1 1))) (t.tree (t.list (t.tree (t.atom (t.Numeral (codes "1")) (Some (o 0 1 3))) (t.tree (t.atom (t.Numeral (codes "2")) (Some (o 0 1 4))) (t.tree (t.atom (t.Numeral (codes "3")) (Some (o 0 1 5))) t.no_trees))) t.proper (Some (o 0 1 2))) (t.tree (t.list (t.tree (t.atom (t.Numeral (codes "4")) (Some (o 0 1 8))) t.no_trees) t.proper (Some (o 0 1 7))) t.no_trees))) t.proper (Some (o 0 1 0))) ([]) ≡ Some (c (u (t.tree (t.list (t.tree (t.name (x.Written 0 (codes "a")) (Some (o 0 0 8))) (t.tree (t.name (x.Written 0 (codes "b")) (Some (o 0 0 9))) (t.tree (t.name (x.Written 0 (codes "...")) (Some (o 0 0 10))) t.no_trees))) t.proper (Some (o 0 0 7))) (t.tree (t.name (x.Written 0 (codes "...")) (Some (o 0 0 12))) t.no_trees)) t.proper (t.atom (t.Numeral (codes "1")) (Some (o 0 0 14)))) ((b (x.Written 0 (codes "a")) (v.Many (v.value (v.One (t.atom (t.Numeral (codes "1")) (Some (o 0 1 3)))) (v.value (v.One (t.atom (t.Numeral (codes "4")) (Some (o 0 1 8)))) v.no_values)))) ∷ (b (x.Written 0 (codes "b")) (v.Many (v.value (v.Many (v.value (v.One (t.atom (t.Numeral (codes "2")) (Some (o 0 1 4)))) (v.value (v.One (t.atom (t.Numeral (codes "3")) (Some (o 0 1 5)))) v.no_values))) (v.value (v.Many v.no_values) v.no_values)))) ∷ []) ([]))
rules-73 = refl

pub rules-78 : match_row (t.list (t.tree (t.name (x.Written 0 (codes "syntax-rules")) (Some (o 0 0 1))) (t.tree (t.list t.no_trees t.proper (Some (o 0 0 2))) (t.tree (t.list (t.tree (t.list (t.tree (t.name (x.Written 0 (codes "_")) (Some (o 0 0 6))) (t.tree (t.name (x.Written 0 (codes "a")) (Some (o 0 0 7))) t.no_trees)) (t.dotted (t.name (x.Written 0 (codes "r")) (Some (o 0 0 9)))) (Some (o 0 0 5))) (t.tree (t.atom (t.Numeral (codes "1")) (Some (o 0 0 11))) t.no_trees)) t.proper (Some (o 0 0 4))) t.no_trees))) t.proper (Some (o 0 0 0))) (t.list (t.tree (t.name (x.Written 0 (codes "m")) (Some (o 0 1 1))) (t.tree (t.atom (t.Numeral (codes "1")) (Some (o 0 1 2))) (t.tree (t.atom (t.Numeral (codes "2")) (Some (o 0 1 3))) (t.tree (t.atom (t.Numeral (codes "3")) (Some (o 0 1 4))) t.no_trees)))) t.proper (Some (o 0 1 0))) ([]) ≡ Some (c (u (t.tree (t.name (x.Written 0 (codes "a")) (Some (o 0 0 7))) t.no_trees) (t.dotted (t.name (x.Written 0 (codes "r")) (Some (o 0 0 9)))) (t.atom (t.Numeral (codes "1")) (Some (o 0 0 11)))) ((b (x.Written 0 (codes "a")) (v.One (t.atom (t.Numeral (codes "1")) (Some (o 0 1 2))))) ∷ (b (x.Written 0 (codes "r")) (v.One (t.list (t.tree (t.atom (t.Numeral (codes "2")) (Some (o 0 1 3))) (t.tree (t.atom (t.Numeral (codes "3")) (Some (o 0 1 4))) t.no_trees)) t.proper None))) ∷ []) ([]))
rules-78 = refl

pub rules-83 : match_row (t.list (t.tree (t.name (x.Written 0 (codes "syntax-rules")) (Some (o 0 0 1))) (t.tree (t.list t.no_trees t.proper (Some (o 0 0 2))) (t.tree (t.list (t.tree (t.list (t.tree (t.name (x.Written 0 (codes "_")) (Some (o 0 0 6))) (t.tree (t.name (x.Written 0 (codes "a")) (Some (o 0 0 7))) t.no_trees)) (t.dotted (t.atom (t.Numeral (codes "5")) (Some (o 0 0 9)))) (Some (o 0 0 5))) (t.tree (t.atom (t.Numeral (codes "1")) (Some (o 0 0 11))) t.no_trees)) t.proper (Some (o 0 0 4))) t.no_trees))) t.proper (Some (o 0 0 0))) (t.list (t.tree (t.name (x.Written 0 (codes "m")) (Some (o 0 1 1))) (t.tree (t.atom (t.Numeral (codes "1")) (Some (o 0 1 2))) t.no_trees)) (t.dotted (t.atom (t.Numeral (codes "5")) (Some (o 0 1 4)))) (Some (o 0 1 0))) ([]) ≡ Some (c (u (t.tree (t.name (x.Written 0 (codes "a")) (Some (o 0 0 7))) t.no_trees) (t.dotted (t.atom (t.Numeral (codes "5")) (Some (o 0 0 9)))) (t.atom (t.Numeral (codes "1")) (Some (o 0 0 11)))) ((b (x.Written 0 (codes "a")) (v.One (t.atom (t.Numeral (codes "1")) (Some (o 0 1 2))))) ∷ []) ([]))
rules-83 = refl

pub rules-88 : match_row (t.list (t.tree (t.name (x.Written 0 (codes "syntax-rules")) (Some (o 0 0 1))) (t.tree (t.list t.no_trees t.proper (Some (o 0 0 2))) (t.tree (t.list (t.tree (t.list (t.tree (t.name (x.Written 0 (codes "_")) (Some (o 0 0 6))) (t.tree (t.atom (t.Numeral (codes "5")) (Some (o 0 0 7))) t.no_trees)) t.proper (Some (o 0 0 5))) (t.tree (t.atom (t.Numeral (codes "1")) (Some (o 0 0 9))) t.no_trees)) t.proper (Some (o 0 0 4))) t.no_trees))) t.proper (Some (o 0 0 0))) (t.list (t.tree (t.name (x.Written 0 (codes "m")) (Some (o 0 1 1))) (t.tree (t.atom (t.Quoted (codes "5")) (Some (o 0 1 2))) t.no_trees)) t.proper (Some (o 0 1 0))) ([]) ≡ None
rules-88 = refl

pub rules-93 : match_row (t.list (t.tree (t.name (x.Written 0 (codes "syntax-rules")) (Some (o 0 0 1))) (t.tree (t.list (t.tree (t.name (x.Written 0 (codes "a")) (Some (o 0 0 3))) t.no_trees) t.proper (Some (o 0 0 2))) (t.tree (t.list (t.tree (t.list (t.tree (t.name (x.Written 0 (codes "_")) (Some (o 0 0 7))) (t.tree (t.list (t.tree (t.name (x.Written 0 (codes "a")) (Some (o 0 0 9))) (t.tree (t.name (x.Written 0 (codes "x")) (Some (o 0 0 10))) t.no_trees)) t.proper (Some (o 0 0 8))) (t.tree (t.name (x.Written 0 (codes "...")) (Some (o 0 0 12))) t.no_trees))) t.proper (Some (o 0 0 6))) (t.tree (t.atom (t.Numeral (codes "1")) (Some (o 0 0 14))) t.no_trees)) t.proper (Some (o 0 0 5))) t.no_trees))) t.proper (Some (o 0 0 0))) (t.list (t.tree (t.name (x.Written 0 (codes "m")) (Some (o 0 1 1))) (t.tree (t.list (t.tree (t.name (x.Written 0 (codes "a")) (Some (o 0 1 3))) (t.tree (t.atom (t.Numeral (codes "1")) (Some (o 0 1 4))) t.no_trees)) t.proper (Some (o 0 1 2))) (t.tree (t.list (t.tree (t.name (x.Written 0 (codes "a")) (Some (o 0 1 7))) (t.tree (t.atom (t.Numeral (codes "2")) (Some (o 0 1 8))) t.no_trees)) t.proper (Some (o 0 1 6))) t.no_trees))) t.proper (Some (o 0 1 0))) (((x.Written 0 (codes "a")), (x.Written 0 (codes "a"))) ∷ []) ≡ Some (c (u (t.tree (t.list (t.tree (t.name (x.Written 0 (codes "a")) (Some (o 0 0 9))) (t.tree (t.name (x.Written 0 (codes "x")) (Some (o 0 0 10))) t.no_trees)) t.proper (Some (o 0 0 8))) (t.tree (t.name (x.Written 0 (codes "...")) (Some (o 0 0 12))) t.no_trees)) t.proper (t.atom (t.Numeral (codes "1")) (Some (o 0 0 14)))) ((b (x.Written 0 (codes "x")) (v.Many (v.value (v.One (t.atom (t.Numeral (codes "1")) (Some (o 0 1 4)))) (v.value (v.One (t.atom (t.Numeral (codes "2")) (Some (o 0 1 8)))) v.no_values)))) ∷ []) ((named (x.Written 0 (codes "a")) (Some (o 0 1 3))) ∷ (named (x.Written 0 (codes "a")) (Some (o 0 1 7))) ∷ []))
rules-93 = refl

pub rules-98 : pairs_row (t.list (t.tree (t.name (x.Written 0 (codes "syntax-rules")) (Some (o 0 0 1))) (t.tree (t.list (t.tree (t.name (x.Written 0 (codes "else")) (Some (o 0 0 3))) t.no_trees) t.proper (Some (o 0 0 2))) (t.tree (t.list (t.tree (t.list (t.tree (t.name (x.Written 0 (codes "_")) (Some (o 0 0 7))) (t.tree (t.list (t.tree (t.name (x.Written 0 (codes "else")) (Some (o 0 0 9))) (t.tree (t.name (x.Written 0 (codes "e")) (Some (o 0 0 10))) t.no_trees)) t.proper (Some (o 0 0 8))) t.no_trees)) t.proper (Some (o 0 0 6))) (t.tree (t.atom (t.Numeral (codes "1")) (Some (o 0 0 13))) t.no_trees)) t.proper (Some (o 0 0 5))) (t.tree (t.list (t.tree (t.list (t.tree (t.name (x.Written 0 (codes "_")) (Some (o 0 0 17))) (t.tree (t.atom (t.Numeral (codes "5")) (Some (o 0 0 18))) (t.tree (t.name (x.Written 0 (codes "else")) (Some (o 0 0 19))) t.no_trees))) t.proper (Some (o 0 0 16))) (t.tree (t.atom (t.Numeral (codes "1")) (Some (o 0 0 21))) t.no_trees)) t.proper (Some (o 0 0 15))) (t.tree (t.list (t.tree (t.list (t.tree (t.name (x.Written 0 (codes "_")) (Some (o 0 0 25))) (t.tree (t.list (t.tree (t.name (x.Written 0 (codes "e")) (Some (o 0 0 27))) (t.tree (t.name (x.Written 0 (codes "else")) (Some (o 0 0 28))) t.no_trees)) t.proper (Some (o 0 0 26))) t.no_trees)) t.proper (Some (o 0 0 24))) (t.tree (t.atom (t.Numeral (codes "1")) (Some (o 0 0 31))) t.no_trees)) t.proper (Some (o 0 0 23))) t.no_trees))))) t.proper (Some (o 0 0 0))) (t.list (t.tree (t.name (x.Written 0 (codes "m")) (Some (o 0 1 1))) (t.tree (t.list (t.tree (t.name (x.Written 0 (codes "x")) (Some (o 0 1 3))) (t.tree (t.name (x.Written 0 (codes "y")) (Some (o 0 1 4))) t.no_trees)) t.proper (Some (o 0 1 2))) t.no_trees)) t.proper (Some (o 0 1 0))) ≡ (((x.Written 0 (codes "else")), (x.Written 0 (codes "x"))) ∷ ((x.Written 0 (codes "else")), (x.Written 0 (codes "y"))) ∷ [])
rules-98 = refl

pub rules-103 : pairs_row (t.list (t.tree (t.name (x.Written 0 (codes "syntax-rules")) (Some (o 0 0 1))) (t.tree (t.list (t.tree (t.name (x.Written 0 (codes "else")) (Some (o 0 0 3))) t.no_trees) t.proper (Some (o 0 0 2))) (t.tree (t.list (t.tree (t.list (t.tree (t.name (x.Written 0 (codes "_")) (Some (o 0 0 7))) (t.tree (t.name (x.Written 0 (codes "a")) (Some (o 0 0 8))) t.no_trees)) (t.dotted (t.name (x.Written 0 (codes "else")) (Some (o 0 0 10)))) (Some (o 0 0 6))) (t.tree (t.atom (t.Numeral (codes "1")) (Some (o 0 0 12))) t.no_trees)) t.proper (Some (o 0 0 5))) t.no_trees))) t.proper (Some (o 0 0 0))) (t.list (t.tree (t.name (x.Written 0 (codes "m")) (Some (o 0 1 1))) (t.tree (t.atom (t.Numeral (codes "1")) (Some (o 0 1 2))) t.no_trees)) (t.dotted (t.name (x.Written 0 (codes "x")) (Some (o 0 1 4)))) (Some (o 0 1 0))) ≡ (((x.Written 0 (codes "else")), (x.Written 0 (codes "x"))) ∷ [])
rules-103 = refl

pub rules-110 : match_row (t.list (t.tree (t.name (x.Written 0 (codes "syntax-rules")) (Some (o 0 0 1))) (t.tree (t.list t.no_trees t.proper (Some (o 0 0 2))) (t.tree (t.list (t.tree (t.list (t.tree (t.name (x.Written 0 (codes "_")) (Some (o 0 0 6))) (t.tree (t.name (x.Written 0 (codes "a")) (Some (o 0 0 7))) t.no_trees)) (t.dotted (t.name (x.Written 0 (codes "r")) (Some (o 0 0 9)))) (Some (o 0 0 5))) (t.tree (t.atom (t.Numeral (codes "1")) (Some (o 0 0 11))) t.no_trees)) t.proper (Some (o 0 0 4))) t.no_trees))) t.proper (Some (o 0 0 0))) (t.list (t.tree (t.name (x.Written 0 (codes "m")) (Some (o 0 1 1))) (t.tree (t.atom (t.Numeral (codes "1")) (Some (o 0 1 2))) (t.tree (t.atom (t.Numeral (codes "2")) (Some (o 0 1 3))) (t.tree (t.atom (t.Numeral (codes "3")) (Some (o 0 1 4))) t.no_trees)))) (t.dotted (t.atom (t.Numeral (codes "4")) (Some (o 0 1 6)))) (Some (o 0 1 0))) ([]) ≡ Some (c (u (t.tree (t.name (x.Written 0 (codes "a")) (Some (o 0 0 7))) t.no_trees) (t.dotted (t.name (x.Written 0 (codes "r")) (Some (o 0 0 9)))) (t.atom (t.Numeral (codes "1")) (Some (o 0 0 11)))) ((b (x.Written 0 (codes "a")) (v.One (t.atom (t.Numeral (codes "1")) (Some (o 0 1 2))))) ∷ (b (x.Written 0 (codes "r")) (v.One (t.list (t.tree (t.atom (t.Numeral (codes "2")) (Some (o 0 1 3))) (t.tree (t.atom (t.Numeral (codes "3")) (Some (o 0 1 4))) t.no_trees)) (t.dotted (t.atom (t.Numeral (codes "4")) (Some (o 0 1 6)))) None))) ∷ []) ([]))
rules-110 = refl

pub rules-117 : match_row (t.list (t.tree (t.name (x.Written 0 (codes "syntax-rules")) (Some (o 0 0 1))) (t.tree (t.list (t.tree (t.name (x.Written 0 (codes "else")) (Some (o 0 0 3))) t.no_trees) t.proper (Some (o 0 0 2))) (t.tree (t.list (t.tree (t.list (t.tree (t.name (x.Written 0 (codes "_")) (Some (o 0 0 7))) (t.tree (t.list (t.tree (t.name (x.Written 0 (codes "else")) (Some (o 0 0 9))) (t.tree (t.name (x.Written 0 (codes "e")) (Some (o 0 0 10))) t.no_trees)) t.proper (Some (o 0 0 8))) t.no_trees)) t.proper (Some (o 0 0 6))) (t.tree (t.atom (t.Numeral (codes "1")) (Some (o 0 0 13))) t.no_trees)) t.proper (Some (o 0 0 5))) (t.tree (t.list (t.tree (t.list (t.tree (t.name (x.Written 0 (codes "_")) (Some (o 0 0 17))) (t.tree (t.name (x.Written 0 (codes "x")) (Some (o 0 0 18))) t.no_trees)) t.proper (Some (o 0 0 16))) (t.tree (t.atom (t.Numeral (codes "2")) (Some (o 0 0 20))) t.no_trees)) t.proper (Some (o 0 0 15))) t.no_trees)))) t.proper (Some (o 0 0 0))) (t.list (t.tree (t.name (x.Written 0 (codes "m")) (Some (o 0 1 1))) (t.tree (t.list (t.tree (t.name (x.Written 0 (codes "else")) (Some (o 0 1 3))) (t.tree (t.atom (t.Numeral (codes "1")) (Some (o 0 1 4))) t.no_trees)) t.proper (Some (o 0 1 2))) t.no_trees)) t.proper (Some (o 0 1 0))) ([]) ≡ Some (c (u (t.tree (t.name (x.Written 0 (codes "x")) (Some (o 0 0 18))) t.no_trees) t.proper (t.atom (t.Numeral (codes "2")) (Some (o 0 0 20)))) ((b (x.Written 0 (codes "x")) (v.One (t.list (t.tree (t.name (x.Written 0 (codes "else")) (Some (o 0 1 3))) (t.tree (t.atom (t.Numeral (codes "1")) (Some (o 0 1 4))) t.no_trees)) t.proper (Some (o 0 1 2))))) ∷ []) ([]))
rules-117 = refl

pub rules-124 : build_row (t.list (t.tree (t.name (x.Written 0 (codes "syntax-rules")) (Some (o 0 0 1))) (t.tree (t.list t.no_trees t.proper (Some (o 0 0 2))) (t.tree (t.list (t.tree (t.list (t.tree (t.name (x.Written 0 (codes "_")) (Some (o 0 0 6))) (t.tree (t.list (t.tree (t.name (x.Written 0 (codes "a")) (Some (o 0 0 8))) (t.tree (t.name (x.Written 0 (codes "...")) (Some (o 0 0 9))) t.no_trees)) t.proper (Some (o 0 0 7))) (t.tree (t.list (t.tree (t.name (x.Written 0 (codes "b")) (Some (o 0 0 12))) (t.tree (t.name (x.Written 0 (codes "...")) (Some (o 0 0 13))) t.no_trees)) t.proper (Some (o 0 0 11))) t.no_trees))) t.proper (Some (o 0 0 5))) (t.tree (t.list (t.tree (t.list (t.tree (t.name (x.Written 0 (codes "a")) (Some (o 0 0 18))) (t.tree (t.name (x.Written 0 (codes "b")) (Some (o 0 0 19))) t.no_trees)) t.proper (Some (o 0 0 17))) (t.tree (t.name (x.Written 0 (codes "...")) (Some (o 0 0 21))) t.no_trees)) t.proper (Some (o 0 0 16))) t.no_trees)) t.proper (Some (o 0 0 4))) t.no_trees))) t.proper (Some (o 0 0 0))) (t.list (t.tree (t.name (x.Written 0 (codes "m")) (Some (o 0 1 1))) (t.tree (t.list (t.tree (t.atom (t.Numeral (codes "1")) (Some (o 0 1 3))) (t.tree (t.atom (t.Numeral (codes "2")) (Some (o 0 1 4))) t.no_trees)) t.proper (Some (o 0 1 2))) (t.tree (t.list (t.tree (t.atom (t.Numeral (codes "3")) (Some (o 0 1 7))) (t.tree (t.atom (t.Numeral (codes "4")) (Some (o 0 1 8))) (t.tree (t.atom (t.Numeral (codes "5")) (Some (o 0 1 9))) t.no_trees))) t.proper (Some (o 0 1 6))) t.no_trees))) t.proper (Some (o 0 1 0))) ([]) 200000 ≡ Some (Err f.EllipsisLength)
rules-124 = refl

pub rules-129 : build_row (t.list (t.tree (t.name (x.Written 0 (codes "syntax-rules")) (Some (o 0 0 1))) (t.tree (t.list t.no_trees t.proper (Some (o 0 0 2))) (t.tree (t.list (t.tree (t.list (t.tree (t.name (x.Written 0 (codes "_")) (Some (o 0 0 6))) (t.tree (t.name (x.Written 0 (codes "a")) (Some (o 0 0 7))) (t.tree (t.name (x.Written 0 (codes "b")) (Some (o 0 0 8))) t.no_trees))) t.proper (Some (o 0 0 5))) (t.tree (t.list (t.tree (t.name (x.Written 0 (codes "let")) (Some (o 0 0 11))) (t.tree (t.list (t.tree (t.list (t.tree (t.name (x.Written 0 (codes "t")) (Some (o 0 0 14))) (t.tree (t.name (x.Written 0 (codes "a")) (Some (o 0 0 15))) t.no_trees)) t.proper (Some (o 0 0 13))) t.no_trees) t.proper (Some (o 0 0 12))) (t.tree (t.list (t.tree (t.name (x.Written 0 (codes "if")) (Some (o 0 0 19))) (t.tree (t.name (x.Written 0 (codes "t")) (Some (o 0 0 20))) (t.tree (t.name (x.Written 0 (codes "t")) (Some (o 0 0 21))) (t.tree (t.name (x.Written 0 (codes "b")) (Some (o 0 0 22))) t.no_trees)))) t.proper (Some (o 0 0 18))) t.no_trees))) t.proper (Some (o 0 0 10))) t.no_trees)) t.proper (Some (o 0 0 4))) t.no_trees))) t.proper (Some (o 0 0 0))) (t.list (t.tree (t.name (x.Written 0 (codes "m")) (Some (o 0 1 1))) (t.tree (t.atom (t.Boolean false) (Some (o 0 1 2))) (t.tree (t.name (x.Written 0 (codes "t")) (Some (o 0 1 3))) t.no_trees))) t.proper (Some (o 0 1 0))) ([]) 100 ≡ Some (Ok (built (t.list (t.tree (t.name (x.Inserted (x.Written 0 (codes "let")) (n 0 1 0)) (Some (o 0 0 11))) (t.tree (t.list (t.tree (t.list (t.tree (t.name (x.Inserted (x.Written 0 (codes "t")) (n 0 1 0)) (Some (o 0 0 14))) (t.tree (t.atom (t.Boolean false) (Some (o 0 1 2))) t.no_trees)) t.proper None) t.no_trees) t.proper None) (t.tree (t.list (t.tree (t.name (x.Inserted (x.Written 0 (codes "if")) (n 0 1 0)) (Some (o 0 0 19))) (t.tree (t.name (x.Inserted (x.Written 0 (codes "t")) (n 0 1 0)) (Some (o 0 0 20))) (t.tree (t.name (x.Inserted (x.Written 0 (codes "t")) (n 0 1 0)) (Some (o 0 0 21))) (t.tree (t.name (x.Written 0 (codes "t")) (Some (o 0 1 3))) t.no_trees)))) t.proper None) t.no_trees))) t.proper None) 11))
rules-129 = refl

pub rules-134 : build_row (t.list (t.tree (t.name (x.Written 0 (codes "syntax-rules")) (Some (o 0 0 1))) (t.tree (t.list t.no_trees t.proper (Some (o 0 0 2))) (t.tree (t.list (t.tree (t.list (t.tree (t.name (x.Written 0 (codes "_")) (Some (o 0 0 6))) (t.tree (t.name (x.Written 0 (codes "a")) (Some (o 0 0 7))) (t.tree (t.name (x.Written 0 (codes "...")) (Some (o 0 0 8))) t.no_trees))) t.proper (Some (o 0 0 5))) (t.tree (t.vector (t.tree (t.name (x.Written 0 (codes "f")) (Some (o 0 0 11))) (t.tree (t.name (x.Written 0 (codes "a")) (Some (o 0 0 12))) (t.tree (t.name (x.Written 0 (codes "...")) (Some (o 0 0 13))) (t.tree (t.atom (t.Quoted (codes "s")) (Some (o 0 0 14))) (t.tree (t.atom (t.Character 120) (Some (o 0 0 15))) (t.tree (t.atom (t.Boolean true) (Some (o 0 0 16))) (t.tree (t.atom (t.Bytes (codes "1 2")) (Some (o 0 0 17))) t.no_trees))))))) (Some (o 0 0 10))) t.no_trees)) t.proper (Some (o 0 0 4))) t.no_trees))) t.proper (Some (o 0 0 0))) (t.list (t.tree (t.name (x.Written 0 (codes "m")) (Some (o 0 1 1))) (t.tree (t.atom (t.Numeral (codes "1")) (Some (o 0 1 2))) (t.tree (t.atom (t.Numeral (codes "2")) (Some (o 0 1 3))) t.no_trees))) t.proper (Some (o 0 1 0))) ([]) 100 ≡ Some (Ok (built (t.vector (t.tree (t.name (x.Inserted (x.Written 0 (codes "f")) (n 0 1 0)) (Some (o 0 0 11))) (t.tree (t.atom (t.Numeral (codes "1")) (Some (o 0 1 2))) (t.tree (t.atom (t.Numeral (codes "2")) (Some (o 0 1 3))) (t.tree (t.atom (t.Quoted (codes "s")) None) (t.tree (t.atom (t.Character 120) None) (t.tree (t.atom (t.Boolean true) None) (t.tree (t.atom (t.Bytes (codes "1 2")) None) t.no_trees))))))) None) 8))
rules-134 = refl

pub rules-139 : build_row (t.list (t.tree (t.name (x.Written 0 (codes "syntax-rules")) (Some (o 0 0 1))) (t.tree (t.list t.no_trees t.proper (Some (o 0 0 2))) (t.tree (t.list (t.tree (t.list (t.tree (t.name (x.Written 0 (codes "_")) (Some (o 0 0 6))) (t.tree (t.name (x.Written 0 (codes "a")) (Some (o 0 0 7))) (t.tree (t.name (x.Written 0 (codes "b")) (Some (o 0 0 8))) t.no_trees))) t.proper (Some (o 0 0 5))) (t.tree (t.atom (t.Numeral (codes "1")) (Some (o 0 0 10))) t.no_trees)) t.proper (Some (o 0 0 4))) t.no_trees))) t.proper (Some (o 0 0 0))) (t.list (t.tree (t.name (x.Written 0 (codes "m")) (Some (o 0 1 1))) (t.tree (t.name (x.Written 0 (codes "x")) (Some (o 0 1 2))) t.no_trees)) t.proper (Some (o 0 1 0))) ([]) 100 ≡ None
rules-139 = refl

pub macros-6 : rules_row (t.list (t.tree (t.name (x.Written 0 (codes "syntax-rules")) (Some (o 0 0 1))) (t.tree (t.list (t.tree (t.name (x.Written 0 (codes "b")) (Some (o 0 0 3))) t.no_trees) t.proper (Some (o 0 0 2))) (t.tree (t.list (t.tree (t.list (t.tree (t.name (x.Written 0 (codes "_")) (Some (o 0 0 7))) (t.tree (t.list (t.tree (t.name (x.Written 0 (codes "f")) (Some (o 0 0 9))) (t.tree (t.name (x.Written 0 (codes "x")) (Some (o 0 0 10))) t.no_trees)) t.proper (Some (o 0 0 8))) (t.tree (t.name (x.Written 0 (codes "b")) (Some (o 0 0 12))) (t.tree (t.list (t.tree (t.name (x.Written 0 (codes "g")) (Some (o 0 0 14))) (t.tree (t.name (x.Written 0 (codes "m")) (Some (o 0 0 15))) t.no_trees)) t.proper (Some (o 0 0 13))) t.no_trees)))) t.proper (Some (o 0 0 6))) (t.tree (t.list (t.tree (t.name (x.Written 0 (codes "begin")) (Some (o 0 0 19))) (t.tree (t.list (t.tree (t.name (x.Written 0 (codes "define")) (Some (o 0 0 21))) (t.tree (t.name (x.Written 0 (codes "m")) (Some (o 0 0 22))) (t.tree (t.list (t.tree (t.name (x.Written 0 (codes "quote")) None) (t.tree (t.list (t.tree (t.name (x.Written 0 (codes "f")) (Some (o 0 0 25))) (t.tree (t.name (x.Written 0 (codes "m")) (Some (o 0 0 26))) t.no_trees)) t.proper (Some (o 0 0 24))) t.no_trees)) t.proper (Some (o 0 0 23))) t.no_trees))) t.proper (Some (o 0 0 20))) t.no_trees)) t.proper (Some (o 0 0 18))) t.no_trees)) t.proper (Some (o 0 0 5))) (t.tree (t.list (t.tree (t.list (t.tree (t.name (x.Written 0 (codes "_")) (Some (o 0 0 33))) t.no_trees) (t.dotted (t.name (x.Written 0 (codes "rest")) (Some (o 0 0 35)))) (Some (o 0 0 32))) (t.tree (t.list (t.tree (t.name (x.Written 0 (codes "if")) (Some (o 0 0 38))) (t.tree (t.name (x.Written 0 (codes "n")) (Some (o 0 0 39))) (t.tree (t.name (x.Written 0 (codes "m")) (Some (o 0 0 40))) (t.tree (t.name (x.Written 0 (codes "k")) (Some (o 0 0 41))) t.no_trees)))) t.proper (Some (o 0 0 37))) t.no_trees)) t.proper (Some (o 0 0 31))) t.no_trees)))) t.proper (Some (o 0 0 0))) ≡ Ok (rs None ((named (x.Written 0 (codes "b")) (Some (o 0 0 3))) ∷ []) ((u (t.tree (t.list (t.tree (t.name (x.Written 0 (codes "f")) (Some (o 0 0 9))) (t.tree (t.name (x.Written 0 (codes "x")) (Some (o 0 0 10))) t.no_trees)) t.proper (Some (o 0 0 8))) (t.tree (t.name (x.Written 0 (codes "b")) (Some (o 0 0 12))) (t.tree (t.list (t.tree (t.name (x.Written 0 (codes "g")) (Some (o 0 0 14))) (t.tree (t.name (x.Written 0 (codes "m")) (Some (o 0 0 15))) t.no_trees)) t.proper (Some (o 0 0 13))) t.no_trees))) t.proper (t.list (t.tree (t.name (x.Written 0 (codes "begin")) (Some (o 0 0 19))) (t.tree (t.list (t.tree (t.name (x.Written 0 (codes "define")) (Some (o 0 0 21))) (t.tree (t.name (x.Written 0 (codes "m")) (Some (o 0 0 22))) (t.tree (t.list (t.tree (t.name (x.Written 0 (codes "quote")) None) (t.tree (t.list (t.tree (t.name (x.Written 0 (codes "f")) (Some (o 0 0 25))) (t.tree (t.name (x.Written 0 (codes "m")) (Some (o 0 0 26))) t.no_trees)) t.proper (Some (o 0 0 24))) t.no_trees)) t.proper (Some (o 0 0 23))) t.no_trees))) t.proper (Some (o 0 0 20))) t.no_trees)) t.proper (Some (o 0 0 18)))) ∷ (u t.no_trees (t.dotted (t.name (x.Written 0 (codes "rest")) (Some (o 0 0 35)))) (t.list (t.tree (t.name (x.Written 0 (codes "if")) (Some (o 0 0 38))) (t.tree (t.name (x.Written 0 (codes "n")) (Some (o 0 0 39))) (t.tree (t.name (x.Written 0 (codes "m")) (Some (o 0 0 40))) (t.tree (t.name (x.Written 0 (codes "k")) (Some (o 0 0 41))) t.no_trees)))) t.proper (Some (o 0 0 37)))) ∷ []))
macros-6 = refl

pub macros-11 : build_row (t.list (t.tree (t.name (x.Written 0 (codes "syntax-rules")) (Some (o 0 0 1))) (t.tree (t.list t.no_trees t.proper (Some (o 0 0 2))) (t.tree (t.list (t.tree (t.list (t.tree (t.name (x.Written 0 (codes "_")) (Some (o 0 0 6))) t.no_trees) t.proper (Some (o 0 0 5))) (t.tree (t.list (t.tree (t.name (x.Written 0 (codes "quote")) None) (t.tree (t.list (t.tree (t.name (x.Written 0 (codes "q")) (Some (o 0 0 10))) (t.tree (t.name (x.Written 0 (codes "q")) (Some (o 0 0 11))) t.no_trees)) t.proper (Some (o 0 0 9))) t.no_trees)) t.proper (Some (o 0 0 8))) t.no_trees)) t.proper (Some (o 0 0 4))) t.no_trees))) t.proper (Some (o 0 0 0))) (t.list (t.tree (t.name (x.Written 0 (codes "k")) (Some (o 0 1 1))) t.no_trees) t.proper (Some (o 0 1 0))) ([]) 200000 ≡ Some (Ok (built (t.list (t.tree (t.name (x.Inserted (x.Written 0 (codes "quote")) (n 0 1 0)) None) (t.tree (t.list (t.tree (t.name (x.Inserted (x.Written 0 (codes "q")) (n 0 1 0)) (Some (o 0 0 10))) (t.tree (t.name (x.Inserted (x.Written 0 (codes "q")) (n 0 1 0)) (Some (o 0 0 11))) t.no_trees)) t.proper None) t.no_trees)) t.proper None) 5))
macros-11 = refl

pub macros-16 : rules_row (t.list (t.tree (t.name (x.Written 0 (codes "syntax-rules")) (Some (o 0 0 1))) (t.tree (t.list t.no_trees t.proper (Some (o 0 0 2))) (t.tree (t.list (t.tree (t.list (t.tree (t.name (x.Written 0 (codes "_")) (Some (o 0 0 6))) t.no_trees) t.proper (Some (o 0 0 5))) (t.tree (t.list (t.tree (t.name (x.Written 0 (codes "begin")) (Some (o 0 0 9))) (t.tree (t.list (t.tree (t.name (x.Written 0 (codes "define")) (Some (o 0 0 11))) (t.tree (t.name (x.Written 0 (codes "x")) (Some (o 0 0 12))) (t.tree (t.name (x.Written 0 (codes "g")) (Some (o 0 0 13))) t.no_trees))) t.proper (Some (o 0 0 10))) (t.tree (t.list (t.tree (t.name (x.Written 0 (codes "define")) (Some (o 0 0 16))) (t.tree (t.name (x.Written 0 (codes "f")) (Some (o 0 0 17))) (t.tree (t.name (x.Written 0 (codes "f")) (Some (o 0 0 18))) t.no_trees))) t.proper (Some (o 0 0 15))) t.no_trees))) t.proper (Some (o 0 0 8))) t.no_trees)) t.proper (Some (o 0 0 4))) (t.tree (t.list (t.tree (t.list (t.tree (t.name (x.Written 0 (codes "_")) (Some (o 0 0 24))) (t.tree (t.name (x.Written 0 (codes "k")) (Some (o 0 0 25))) (t.tree (t.name (x.Written 0 (codes "k")) (Some (o 0 0 26))) t.no_trees))) t.proper (Some (o 0 0 23))) (t.tree (t.name (x.Written 0 (codes "b")) (Some (o 0 0 28))) t.no_trees)) t.proper (Some (o 0 0 22))) t.no_trees)))) t.proper (Some (o 0 0 0))) ≡ Err (f.DuplicateVariable (named (x.Written 0 (codes "k")) (Some (o 0 0 26))))
macros-16 = refl

pub macros-21 : build_row (t.list (t.tree (t.name (x.Written 0 (codes "syntax-rules")) (Some (o 0 0 1))) (t.tree (t.list t.no_trees t.proper (Some (o 0 0 2))) (t.tree (t.list (t.tree (t.list (t.tree (t.name (x.Written 0 (codes "_")) (Some (o 0 0 6))) t.no_trees) t.proper (Some (o 0 0 5))) (t.tree (t.list (t.tree (t.name (x.Written 0 (codes "list")) (Some (o 0 0 9))) (t.tree (t.name (x.Written 0 (codes "n")) (Some (o 0 0 10))) (t.tree (t.name (x.Written 0 (codes "f")) (Some (o 0 0 11))) t.no_trees))) t.proper (Some (o 0 0 8))) t.no_trees)) t.proper (Some (o 0 0 4))) t.no_trees))) t.proper (Some (o 0 0 0))) (t.list (t.tree (t.name (x.Written 0 (codes "k")) (Some (o 0 1 1))) t.no_trees) t.proper (Some (o 0 1 0))) ([]) 200000 ≡ Some (Ok (built (t.list (t.tree (t.name (x.Inserted (x.Written 0 (codes "list")) (n 0 1 0)) (Some (o 0 0 9))) (t.tree (t.name (x.Inserted (x.Written 0 (codes "n")) (n 0 1 0)) (Some (o 0 0 10))) (t.tree (t.name (x.Inserted (x.Written 0 (codes "f")) (n 0 1 0)) (Some (o 0 0 11))) t.no_trees))) t.proper None) 4))
macros-21 = refl

pub macros-26 : match_row (t.list (t.tree (t.name (x.Written 0 (codes "syntax-rules")) (Some (o 0 0 1))) (t.tree (t.list t.no_trees t.proper (Some (o 0 0 2))) (t.tree (t.list (t.tree (t.list (t.tree (t.name (x.Written 0 (codes "_")) (Some (o 0 0 6))) (t.tree (t.list (t.tree (t.name (x.Written 0 (codes "k")) (Some (o 0 0 8))) (t.tree (t.name (x.Written 0 (codes "a")) (Some (o 0 0 9))) t.no_trees)) t.proper (Some (o 0 0 7))) (t.tree (t.name (x.Written 0 (codes "...")) (Some (o 0 0 11))) t.no_trees))) t.proper (Some (o 0 0 5))) (t.tree (t.name (x.Written 0 (codes "x")) (Some (o 0 0 13))) t.no_trees)) t.proper (Some (o 0 0 4))) (t.tree (t.list (t.tree (t.list (t.tree (t.name (x.Written 0 (codes "_")) (Some (o 0 0 17))) t.no_trees) (t.dotted (t.name (x.Written 0 (codes "rest")) (Some (o 0 0 19)))) (Some (o 0 0 16))) (t.tree (t.list (t.tree (t.name (x.Written 0 (codes "lambda")) (Some (o 0 0 22))) (t.tree (t.list (t.tree (t.name (x.Written 0 (codes "b")) (Some (o 0 0 24))) t.no_trees) t.proper (Some (o 0 0 23))) (t.tree (t.list (t.tree (t.name (x.Written 0 (codes "define")) (Some (o 0 0 27))) (t.tree (t.name (x.Written 0 (codes "a")) (Some (o 0 0 28))) (t.tree (t.name (x.Written 0 (codes "car")) (Some (o 0 0 29))) t.no_trees))) t.proper (Some (o 0 0 26))) (t.tree (t.name (x.Written 0 (codes "x")) (Some (o 0 0 31))) t.no_trees)))) t.proper (Some (o 0 0 21))) t.no_trees)) t.proper (Some (o 0 0 15))) t.no_trees)))) t.proper (Some (o 0 0 0))) (t.list (t.tree (t.name (x.Written 0 (codes "a")) (Some (o 0 1 1))) (t.tree (t.list (t.tree (t.name (x.Written 0 (codes "y")) (Some (o 0 1 3))) (t.tree (t.list (t.tree (t.list (t.tree (t.name (x.Written 0 (codes "begin")) (Some (o 0 1 6))) (t.tree (t.name (x.Written 0 (codes "b")) (Some (o 0 1 7))) (t.tree (t.name (x.Written 0 (codes "x")) (Some (o 0 1 8))) t.no_trees))) t.proper (Some (o 0 1 5))) (t.tree (t.name (x.Written 0 (codes "y")) (Some (o 0 1 10))) t.no_trees)) t.proper (Some (o 0 1 4))) t.no_trees)) t.proper (Some (o 0 1 2))) t.no_trees)) t.proper (Some (o 0 1 0))) ([]) ≡ Some (c (u (t.tree (t.list (t.tree (t.name (x.Written 0 (codes "k")) (Some (o 0 0 8))) (t.tree (t.name (x.Written 0 (codes "a")) (Some (o 0 0 9))) t.no_trees)) t.proper (Some (o 0 0 7))) (t.tree (t.name (x.Written 0 (codes "...")) (Some (o 0 0 11))) t.no_trees)) t.proper (t.name (x.Written 0 (codes "x")) (Some (o 0 0 13)))) ((b (x.Written 0 (codes "k")) (v.Many (v.value (v.One (t.name (x.Written 0 (codes "y")) (Some (o 0 1 3)))) v.no_values))) ∷ (b (x.Written 0 (codes "a")) (v.Many (v.value (v.One (t.list (t.tree (t.list (t.tree (t.name (x.Written 0 (codes "begin")) (Some (o 0 1 6))) (t.tree (t.name (x.Written 0 (codes "b")) (Some (o 0 1 7))) (t.tree (t.name (x.Written 0 (codes "x")) (Some (o 0 1 8))) t.no_trees))) t.proper (Some (o 0 1 5))) (t.tree (t.name (x.Written 0 (codes "y")) (Some (o 0 1 10))) t.no_trees)) t.proper (Some (o 0 1 4)))) v.no_values))) ∷ []) ([]))
macros-26 = refl

pub macros-31 : rules_row (t.list (t.tree (t.name (x.Written 0 (codes "syntax-rules")) (Some (o 0 0 1))) (t.tree (t.list (t.tree (t.name (x.Written 0 (codes "b")) (Some (o 0 0 3))) t.no_trees) t.proper (Some (o 0 0 2))) (t.tree (t.list (t.tree (t.list (t.tree (t.name (x.Written 0 (codes "_")) (Some (o 0 0 7))) (t.tree (t.name (x.Written 0 (codes "b")) (Some (o 0 0 8))) (t.tree (t.name (x.Written 0 (codes "a")) (Some (o 0 0 9))) t.no_trees))) t.proper (Some (o 0 0 6))) (t.tree (t.list (t.tree (t.name (x.Written 0 (codes "begin")) (Some (o 0 0 12))) (t.tree (t.list (t.tree (t.name (x.Written 0 (codes "define")) (Some (o 0 0 14))) (t.tree (t.name (x.Written 0 (codes "a")) (Some (o 0 0 15))) (t.tree (t.list (t.tree (t.name (x.Written 0 (codes "quote")) None) (t.tree (t.list (t.tree (t.name (x.Written 0 (codes "b")) (Some (o 0 0 18))) (t.tree (t.name (x.Written 0 (codes "q")) (Some (o 0 0 19))) t.no_trees)) t.proper (Some (o 0 0 17))) t.no_trees)) t.proper (Some (o 0 0 16))) t.no_trees))) t.proper (Some (o 0 0 13))) (t.tree (t.list (t.tree (t.name (x.Written 0 (codes "define")) (Some (o 0 0 23))) (t.tree (t.name (x.Written 0 (codes "a")) (Some (o 0 0 24))) (t.tree (t.list (t.tree (t.name (x.Written 0 (codes "lambda")) (Some (o 0 0 26))) (t.tree (t.list (t.tree (t.name (x.Written 0 (codes "g")) (Some (o 0 0 28))) t.no_trees) t.proper (Some (o 0 0 27))) (t.tree (t.list (t.tree (t.name (x.Written 0 (codes "define")) (Some (o 0 0 31))) (t.tree (t.name (x.Written 0 (codes "a")) (Some (o 0 0 32))) (t.tree (t.name (x.Written 0 (codes "a")) (Some (o 0 0 33))) t.no_trees))) t.proper (Some (o 0 0 30))) (t.tree (t.name (x.Written 0 (codes "a")) (Some (o 0 0 35))) t.no_trees)))) t.proper (Some (o 0 0 25))) t.no_trees))) t.proper (Some (o 0 0 22))) t.no_trees))) t.proper (Some (o 0 0 11))) t.no_trees)) t.proper (Some (o 0 0 5))) t.no_trees))) t.proper (Some (o 0 0 0))) ≡ Ok (rs None ((named (x.Written 0 (codes "b")) (Some (o 0 0 3))) ∷ []) ((u (t.tree (t.name (x.Written 0 (codes "b")) (Some (o 0 0 8))) (t.tree (t.name (x.Written 0 (codes "a")) (Some (o 0 0 9))) t.no_trees)) t.proper (t.list (t.tree (t.name (x.Written 0 (codes "begin")) (Some (o 0 0 12))) (t.tree (t.list (t.tree (t.name (x.Written 0 (codes "define")) (Some (o 0 0 14))) (t.tree (t.name (x.Written 0 (codes "a")) (Some (o 0 0 15))) (t.tree (t.list (t.tree (t.name (x.Written 0 (codes "quote")) None) (t.tree (t.list (t.tree (t.name (x.Written 0 (codes "b")) (Some (o 0 0 18))) (t.tree (t.name (x.Written 0 (codes "q")) (Some (o 0 0 19))) t.no_trees)) t.proper (Some (o 0 0 17))) t.no_trees)) t.proper (Some (o 0 0 16))) t.no_trees))) t.proper (Some (o 0 0 13))) (t.tree (t.list (t.tree (t.name (x.Written 0 (codes "define")) (Some (o 0 0 23))) (t.tree (t.name (x.Written 0 (codes "a")) (Some (o 0 0 24))) (t.tree (t.list (t.tree (t.name (x.Written 0 (codes "lambda")) (Some (o 0 0 26))) (t.tree (t.list (t.tree (t.name (x.Written 0 (codes "g")) (Some (o 0 0 28))) t.no_trees) t.proper (Some (o 0 0 27))) (t.tree (t.list (t.tree (t.name (x.Written 0 (codes "define")) (Some (o 0 0 31))) (t.tree (t.name (x.Written 0 (codes "a")) (Some (o 0 0 32))) (t.tree (t.name (x.Written 0 (codes "a")) (Some (o 0 0 33))) t.no_trees))) t.proper (Some (o 0 0 30))) (t.tree (t.name (x.Written 0 (codes "a")) (Some (o 0 0 35))) t.no_trees)))) t.proper (Some (o 0 0 25))) t.no_trees))) t.proper (Some (o 0 0 22))) t.no_trees))) t.proper (Some (o 0 0 11)))) ∷ []))
macros-31 = refl

pub macros-36 : rules_row (t.list (t.tree (t.name (x.Written 0 (codes "syntax-rules")) (Some (o 0 0 1))) (t.tree (t.list (t.tree (t.name (x.Written 0 (codes "else")) (Some (o 0 0 3))) t.no_trees) t.proper (Some (o 0 0 2))) (t.tree (t.list (t.tree (t.list (t.tree (t.name (x.Written 0 (codes "_")) (Some (o 0 0 7))) (t.tree (t.name (x.Written 0 (codes "else")) (Some (o 0 0 8))) t.no_trees)) t.proper (Some (o 0 0 6))) (t.tree (t.list (t.tree (t.name (x.Written 0 (codes "define-syntax")) (Some (o 0 0 11))) (t.tree (t.name (x.Written 0 (codes "x")) (Some (o 0 0 12))) (t.tree (t.list (t.tree (t.name (x.Written 0 (codes "syntax-rules")) (Some (o 0 0 14))) (t.tree (t.list t.no_trees t.proper (Some (o 0 0 15))) (t.tree (t.list (t.tree (t.list (t.tree (t.name (x.Written 0 (codes "_")) (Some (o 0 0 19))) (t.tree (t.name (x.Written 0 (codes "t")) (Some (o 0 0 20))) (t.tree (t.list (t.tree (t.name (x.Written 0 (codes "...")) (Some (o 0 0 22))) (t.tree (t.name (x.Written 0 (codes "...")) (Some (o 0 0 23))) t.no_trees)) t.proper (Some (o 0 0 21))) t.no_trees))) t.proper (Some (o 0 0 18))) (t.tree (t.list (t.tree (t.name (x.Written 0 (codes "list")) (Some (o 0 0 27))) (t.tree (t.name (x.Written 0 (codes "t")) (Some (o 0 0 28))) (t.tree (t.list (t.tree (t.name (x.Written 0 (codes "...")) (Some (o 0 0 30))) (t.tree (t.name (x.Written 0 (codes "...")) (Some (o 0 0 31))) t.no_trees)) t.proper (Some (o 0 0 29))) (t.tree (t.name (x.Written 0 (codes "y")) (Some (o 0 0 33))) (t.tree (t.name (x.Written 0 (codes "t")) (Some (o 0 0 34))) t.no_trees))))) t.proper (Some (o 0 0 26))) t.no_trees)) t.proper (Some (o 0 0 17))) t.no_trees))) t.proper (Some (o 0 0 13))) t.no_trees))) t.proper (Some (o 0 0 10))) t.no_trees)) t.proper (Some (o 0 0 5))) (t.tree (t.list (t.tree (t.list (t.tree (t.name (x.Written 0 (codes "_")) (Some (o 0 0 42))) t.no_trees) (t.dotted (t.name (x.Written 0 (codes "rest")) (Some (o 0 0 44)))) (Some (o 0 0 41))) (t.tree (t.name (x.Written 0 (codes "b")) (Some (o 0 0 46))) t.no_trees)) t.proper (Some (o 0 0 40))) t.no_trees)))) t.proper (Some (o 0 0 0))) ≡ Ok (rs None ((named (x.Written 0 (codes "else")) (Some (o 0 0 3))) ∷ []) ((u (t.tree (t.name (x.Written 0 (codes "else")) (Some (o 0 0 8))) t.no_trees) t.proper (t.list (t.tree (t.name (x.Written 0 (codes "define-syntax")) (Some (o 0 0 11))) (t.tree (t.name (x.Written 0 (codes "x")) (Some (o 0 0 12))) (t.tree (t.list (t.tree (t.name (x.Written 0 (codes "syntax-rules")) (Some (o 0 0 14))) (t.tree (t.list t.no_trees t.proper (Some (o 0 0 15))) (t.tree (t.list (t.tree (t.list (t.tree (t.name (x.Written 0 (codes "_")) (Some (o 0 0 19))) (t.tree (t.name (x.Written 0 (codes "t")) (Some (o 0 0 20))) (t.tree (t.list (t.tree (t.name (x.Written 0 (codes "...")) (Some (o 0 0 22))) (t.tree (t.name (x.Written 0 (codes "...")) (Some (o 0 0 23))) t.no_trees)) t.proper (Some (o 0 0 21))) t.no_trees))) t.proper (Some (o 0 0 18))) (t.tree (t.list (t.tree (t.name (x.Written 0 (codes "list")) (Some (o 0 0 27))) (t.tree (t.name (x.Written 0 (codes "t")) (Some (o 0 0 28))) (t.tree (t.list (t.tree (t.name (x.Written 0 (codes "...")) (Some (o 0 0 30))) (t.tree (t.name (x.Written 0 (codes "...")) (Some (o 0 0 31))) t.no_trees)) t.proper (Some (o 0 0 29))) (t.tree (t.name (x.Written 0 (codes "y")) (Some (o 0 0 33))) (t.tree (t.name (x.Written 0 (codes "t")) (Some (o 0 0 34))) t.no_trees))))) t.proper (Some (o 0 0 26))) t.no_trees)) t.proper (Some (o 0 0 17))) t.no_trees))) t.proper (Some (o 0 0 13))) t.no_trees))) t.proper (Some (o 0 0 10)))) ∷ (u t.no_trees (t.dotted (t.name (x.Written 0 (codes "rest")) (Some (o 0 0 44)))) (t.name (x.Written 0 (codes "b")) (Some (o 0 0 46)))) ∷ []))
macros-36 = refl

pub macros-41 : rules_row (t.list (t.tree (t.name (x.Written 0 (codes "syntax-rules")) (Some (o 0 0 1))) (t.tree (t.list (t.tree (t.name (x.Written 0 (codes "=>")) (Some (o 0 0 3))) (t.tree (t.name (x.Written 0 (codes "in")) (Some (o 0 0 4))) t.no_trees)) t.proper (Some (o 0 0 2))) (t.tree (t.list (t.tree (t.list (t.tree (t.name (x.Written 0 (codes "_")) (Some (o 0 0 8))) (t.tree (t.name (x.Written 0 (codes "=>")) (Some (o 0 0 9))) (t.tree (t.name (x.Written 0 (codes "in")) (Some (o 0 0 10))) (t.tree (t.name (x.Written 0 (codes "t")) (Some (o 0 0 11))) (t.tree (t.name (x.Written 0 (codes "...")) (Some (o 0 0 12))) t.no_trees))))) t.proper (Some (o 0 0 7))) (t.tree (t.list (t.tree (t.name (x.Written 0 (codes "define-syntax")) (Some (o 0 0 15))) (t.tree (t.name (x.Written 0 (codes "if")) (Some (o 0 0 16))) (t.tree (t.list (t.tree (t.name (x.Written 0 (codes "syntax-rules")) (Some (o 0 0 18))) (t.tree (t.list t.no_trees t.proper (Some (o 0 0 19))) (t.tree (t.list (t.tree (t.list (t.tree (t.name (x.Written 0 (codes "_")) (Some (o 0 0 23))) (t.tree (t.name (x.Written 0 (codes "a")) (Some (o 0 0 24))) (t.tree (t.list (t.tree (t.name (x.Written 0 (codes "...")) (Some (o 0 0 26))) (t.tree (t.name (x.Written 0 (codes "...")) (Some (o 0 0 27))) t.no_trees)) t.proper (Some (o 0 0 25))) t.no_trees))) t.proper (Some (o 0 0 22))) (t.tree (t.list (t.tree (t.name (x.Written 0 (codes "list")) (Some (o 0 0 31))) (t.tree (t.name (x.Written 0 (codes "a")) (Some (o 0 0 32))) (t.tree (t.list (t.tree (t.name (x.Written 0 (codes "...")) (Some (o 0 0 34))) (t.tree (t.name (x.Written 0 (codes "...")) (Some (o 0 0 35))) t.no_trees)) t.proper (Some (o 0 0 33))) (t.tree (t.name (x.Written 0 (codes "a")) (Some (o 0 0 37))) (t.tree (t.name (x.Written 0 (codes "y")) (Some (o 0 0 38))) t.no_trees))))) t.proper (Some (o 0 0 30))) t.no_trees)) t.proper (Some (o 0 0 21))) t.no_trees))) t.proper (Some (o 0 0 17))) t.no_trees))) t.proper (Some (o 0 0 14))) t.no_trees)) t.proper (Some (o 0 0 6))) t.no_trees))) t.proper (Some (o 0 0 0))) ≡ Ok (rs None ((named (x.Written 0 (codes "=>")) (Some (o 0 0 3))) ∷ (named (x.Written 0 (codes "in")) (Some (o 0 0 4))) ∷ []) ((u (t.tree (t.name (x.Written 0 (codes "=>")) (Some (o 0 0 9))) (t.tree (t.name (x.Written 0 (codes "in")) (Some (o 0 0 10))) (t.tree (t.name (x.Written 0 (codes "t")) (Some (o 0 0 11))) (t.tree (t.name (x.Written 0 (codes "...")) (Some (o 0 0 12))) t.no_trees)))) t.proper (t.list (t.tree (t.name (x.Written 0 (codes "define-syntax")) (Some (o 0 0 15))) (t.tree (t.name (x.Written 0 (codes "if")) (Some (o 0 0 16))) (t.tree (t.list (t.tree (t.name (x.Written 0 (codes "syntax-rules")) (Some (o 0 0 18))) (t.tree (t.list t.no_trees t.proper (Some (o 0 0 19))) (t.tree (t.list (t.tree (t.list (t.tree (t.name (x.Written 0 (codes "_")) (Some (o 0 0 23))) (t.tree (t.name (x.Written 0 (codes "a")) (Some (o 0 0 24))) (t.tree (t.list (t.tree (t.name (x.Written 0 (codes "...")) (Some (o 0 0 26))) (t.tree (t.name (x.Written 0 (codes "...")) (Some (o 0 0 27))) t.no_trees)) t.proper (Some (o 0 0 25))) t.no_trees))) t.proper (Some (o 0 0 22))) (t.tree (t.list (t.tree (t.name (x.Written 0 (codes "list")) (Some (o 0 0 31))) (t.tree (t.name (x.Written 0 (codes "a")) (Some (o 0 0 32))) (t.tree (t.list (t.tree (t.name (x.Written 0 (codes "...")) (Some (o 0 0 34))) (t.tree (t.name (x.Written 0 (codes "...")) (Some (o 0 0 35))) t.no_trees)) t.proper (Some (o 0 0 33))) (t.tree (t.name (x.Written 0 (codes "a")) (Some (o 0 0 37))) (t.tree (t.name (x.Written 0 (codes "y")) (Some (o 0 0 38))) t.no_trees))))) t.proper (Some (o 0 0 30))) t.no_trees)) t.proper (Some (o 0 0 21))) t.no_trees))) t.proper (Some (o 0 0 17))) t.no_trees))) t.proper (Some (o 0 0 14)))) ∷ []))
macros-41 = refl

pub macros-46 : rules_row (t.list (t.tree (t.name (x.Written 0 (codes "syntax-rules")) (Some (o 0 0 1))) (t.tree (t.list t.no_trees t.proper (Some (o 0 0 2))) (t.tree (t.list (t.tree (t.list (t.tree (t.name (x.Written 0 (codes "_")) (Some (o 0 0 6))) (t.tree (t.list (t.tree (t.name (x.Written 0 (codes "b")) (Some (o 0 0 8))) (t.tree (t.name (x.Written 0 (codes "n")) (Some (o 0 0 9))) (t.tree (t.name (x.Written 0 (codes "...")) (Some (o 0 0 10))) t.no_trees))) t.proper (Some (o 0 0 7))) (t.tree (t.name (x.Written 0 (codes "...")) (Some (o 0 0 12))) t.no_trees))) t.proper (Some (o 0 0 5))) (t.tree (t.list (t.tree (t.name (x.Written 0 (codes "define-syntax")) (Some (o 0 0 15))) (t.tree (t.name (x.Written 0 (codes "k")) (Some (o 0 0 16))) (t.tree (t.list (t.tree (t.name (x.Written 0 (codes "syntax-rules")) (Some (o 0 0 18))) (t.tree (t.list t.no_trees t.proper (Some (o 0 0 19))) (t.tree (t.list (t.tree (t.list (t.tree (t.name (x.Written 0 (codes "_")) (Some (o 0 0 23))) (t.tree (t.name (x.Written 0 (codes "b")) (Some (o 0 0 24))) t.no_trees)) t.proper (Some (o 0 0 22))) (t.tree (t.list (t.tree (t.name (x.Written 0 (codes "list")) (Some (o 0 0 27))) (t.tree (t.name (x.Written 0 (codes "b")) (Some (o 0 0 28))) (t.tree (t.name (x.Written 0 (codes "q")) (Some (o 0 0 29))) (t.tree (t.name (x.Written 0 (codes "b")) (Some (o 0 0 30))) t.no_trees)))) t.proper (Some (o 0 0 26))) t.no_trees)) t.proper (Some (o 0 0 21))) t.no_trees))) t.proper (Some (o 0 0 17))) t.no_trees))) t.proper (Some (o 0 0 14))) t.no_trees)) t.proper (Some (o 0 0 4))) (t.tree (t.list (t.tree (t.list (t.tree (t.name (x.Written 0 (codes "_")) (Some (o 0 0 38))) t.no_trees) (t.dotted (t.name (x.Written 0 (codes "rest")) (Some (o 0 0 40)))) (Some (o 0 0 37))) (t.tree (t.list (t.tree (t.list (t.tree (t.name (x.Written 0 (codes "lambda")) (Some (o 0 0 44))) (t.tree (t.list (t.tree (t.name (x.Written 0 (codes "tmp")) (Some (o 0 0 46))) t.no_trees) t.proper (Some (o 0 0 45))) (t.tree (t.name (x.Written 0 (codes "g")) (Some (o 0 0 48))) t.no_trees))) t.proper (Some (o 0 0 43))) (t.tree (t.name (x.Written 0 (codes "tmp")) (Some (o 0 0 50))) t.no_trees)) t.proper (Some (o 0 0 42))) t.no_trees)) t.proper (Some (o 0 0 36))) t.no_trees)))) t.proper (Some (o 0 0 0))) ≡ Err (f.EllipsisDepth (named (x.Written 0 (codes "b")) (Some (o 0 0 24))))
macros-46 = refl

pub macros-51 : rules_row (t.list (t.tree (t.name (x.Written 0 (codes "syntax-rules")) (Some (o 0 0 1))) (t.tree (t.list (t.tree (t.name (x.Written 0 (codes "if")) (Some (o 0 0 3))) t.no_trees) t.proper (Some (o 0 0 2))) (t.tree (t.list (t.tree (t.list (t.tree (t.name (x.Written 0 (codes "_")) (Some (o 0 0 7))) (t.tree (t.name (x.Written 0 (codes "if")) (Some (o 0 0 8))) (t.tree (t.list (t.tree (t.name (x.Written 0 (codes "a")) (Some (o 0 0 10))) (t.tree (t.name (x.Written 0 (codes "y")) (Some (o 0 0 11))) t.no_trees)) t.proper (Some (o 0 0 9))) t.no_trees))) t.proper (Some (o 0 0 6))) (t.tree (t.list (t.tree (t.name (x.Written 0 (codes "define-syntax")) (Some (o 0 0 15))) (t.tree (t.name (x.Written 0 (codes "y")) (Some (o 0 0 16))) (t.tree (t.list (t.tree (t.name (x.Written 0 (codes "syntax-rules")) (Some (o 0 0 18))) (t.tree (t.list t.no_trees t.proper (Some (o 0 0 19))) (t.tree (t.list (t.tree (t.list (t.tree (t.name (x.Written 0 (codes "_")) (Some (o 0 0 23))) (t.tree (t.name (x.Written 0 (codes "n")) (Some (o 0 0 24))) (t.tree (t.list (t.tree (t.name (x.Written 0 (codes "...")) (Some (o 0 0 26))) (t.tree (t.name (x.Written 0 (codes "...")) (Some (o 0 0 27))) t.no_trees)) t.proper (Some (o 0 0 25))) t.no_trees))) t.proper (Some (o 0 0 22))) (t.tree (t.list (t.tree (t.name (x.Written 0 (codes "list")) (Some (o 0 0 31))) (t.tree (t.name (x.Written 0 (codes "n")) (Some (o 0 0 32))) (t.tree (t.list (t.tree (t.name (x.Written 0 (codes "...")) (Some (o 0 0 34))) (t.tree (t.name (x.Written 0 (codes "...")) (Some (o 0 0 35))) t.no_trees)) t.proper (Some (o 0 0 33))) (t.tree (t.name (x.Written 0 (codes "k")) (Some (o 0 0 37))) (t.tree (t.name (x.Written 0 (codes "y")) (Some (o 0 0 38))) t.no_trees))))) t.proper (Some (o 0 0 30))) t.no_trees)) t.proper (Some (o 0 0 21))) t.no_trees))) t.proper (Some (o 0 0 17))) t.no_trees))) t.proper (Some (o 0 0 14))) t.no_trees)) t.proper (Some (o 0 0 5))) t.no_trees))) t.proper (Some (o 0 0 0))) ≡ Ok (rs None ((named (x.Written 0 (codes "if")) (Some (o 0 0 3))) ∷ []) ((u (t.tree (t.name (x.Written 0 (codes "if")) (Some (o 0 0 8))) (t.tree (t.list (t.tree (t.name (x.Written 0 (codes "a")) (Some (o 0 0 10))) (t.tree (t.name (x.Written 0 (codes "y")) (Some (o 0 0 11))) t.no_trees)) t.proper (Some (o 0 0 9))) t.no_trees)) t.proper (t.list (t.tree (t.name (x.Written 0 (codes "define-syntax")) (Some (o 0 0 15))) (t.tree (t.name (x.Written 0 (codes "y")) (Some (o 0 0 16))) (t.tree (t.list (t.tree (t.name (x.Written 0 (codes "syntax-rules")) (Some (o 0 0 18))) (t.tree (t.list t.no_trees t.proper (Some (o 0 0 19))) (t.tree (t.list (t.tree (t.list (t.tree (t.name (x.Written 0 (codes "_")) (Some (o 0 0 23))) (t.tree (t.name (x.Written 0 (codes "n")) (Some (o 0 0 24))) (t.tree (t.list (t.tree (t.name (x.Written 0 (codes "...")) (Some (o 0 0 26))) (t.tree (t.name (x.Written 0 (codes "...")) (Some (o 0 0 27))) t.no_trees)) t.proper (Some (o 0 0 25))) t.no_trees))) t.proper (Some (o 0 0 22))) (t.tree (t.list (t.tree (t.name (x.Written 0 (codes "list")) (Some (o 0 0 31))) (t.tree (t.name (x.Written 0 (codes "n")) (Some (o 0 0 32))) (t.tree (t.list (t.tree (t.name (x.Written 0 (codes "...")) (Some (o 0 0 34))) (t.tree (t.name (x.Written 0 (codes "...")) (Some (o 0 0 35))) t.no_trees)) t.proper (Some (o 0 0 33))) (t.tree (t.name (x.Written 0 (codes "k")) (Some (o 0 0 37))) (t.tree (t.name (x.Written 0 (codes "y")) (Some (o 0 0 38))) t.no_trees))))) t.proper (Some (o 0 0 30))) t.no_trees)) t.proper (Some (o 0 0 21))) t.no_trees))) t.proper (Some (o 0 0 17))) t.no_trees))) t.proper (Some (o 0 0 14)))) ∷ []))
macros-51 = refl

pub macros-56 : build_row (t.list (t.tree (t.name (x.Written 0 (codes "syntax-rules")) (Some (o 0 0 1))) (t.tree (t.list t.no_trees t.proper (Some (o 0 0 2))) (t.tree (t.list (t.tree (t.list (t.tree (t.name (x.Written 0 (codes "_")) (Some (o 0 0 6))) (t.tree (t.list (t.tree (t.name (x.Written 0 (codes "x")) (Some (o 0 0 8))) (t.tree (t.name (x.Written 0 (codes "else")) (Some (o 0 0 9))) (t.tree (t.name (x.Written 0 (codes "...")) (Some (o 0 0 10))) t.no_trees))) t.proper (Some (o 0 0 7))) (t.tree (t.name (x.Written 0 (codes "...")) (Some (o 0 0 12))) (t.tree (t.name (x.Written 0 (codes "t")) (Some (o 0 0 13))) t.no_trees)))) t.proper (Some (o 0 0 5))) (t.tree (t.list (t.tree (t.name (x.Written 0 (codes "quote")) None) (t.tree (t.list (t.tree (t.name (x.Written 0 (codes "t")) (Some (o 0 0 17))) (t.tree (t.name (x.Written 0 (codes "x")) (Some (o 0 0 18))) (t.tree (t.name (x.Written 0 (codes "...")) (Some (o 0 0 19))) t.no_trees))) t.proper (Some (o 0 0 16))) t.no_trees)) t.proper (Some (o 0 0 15))) t.no_trees)) t.proper (Some (o 0 0 4))) (t.tree (t.list (t.tree (t.list (t.tree (t.name (x.Written 0 (codes "_")) (Some (o 0 0 24))) (t.tree (t.name (x.Written 0 (codes "a")) (Some (o 0 0 25))) (t.tree (t.name (x.Written 0 (codes "t")) (Some (o 0 0 26))) t.no_trees))) t.proper (Some (o 0 0 23))) (t.tree (t.name (x.Written 0 (codes "a")) (Some (o 0 0 28))) t.no_trees)) t.proper (Some (o 0 0 22))) t.no_trees)))) t.proper (Some (o 0 0 0))) (t.list (t.tree (t.name (x.Written 0 (codes "a")) (Some (o 0 1 1))) (t.tree (t.list (t.tree (t.name (x.Written 0 (codes "y")) (Some (o 0 1 3))) (t.tree (t.name (x.Written 0 (codes "x")) (Some (o 0 1 4))) t.no_trees)) t.proper (Some (o 0 1 2))) (t.tree (t.list (t.tree (t.name (x.Written 0 (codes "a")) (Some (o 0 1 7))) t.no_trees) t.proper (Some (o 0 1 6))) (t.tree (t.list (t.tree (t.name (x.Written 0 (codes "lambda")) (Some (o 0 1 10))) (t.tree (t.list (t.tree (t.name (x.Written 0 (codes "x")) (Some (o 0 1 12))) (t.tree (t.name (x.Written 0 (codes "y")) (Some (o 0 1 13))) t.no_trees)) t.proper (Some (o 0 1 11))) (t.tree (t.list (t.tree (t.name (x.Written 0 (codes "define")) (Some (o 0 1 16))) (t.tree (t.list (t.tree (t.name (x.Written 0 (codes "a")) (Some (o 0 1 18))) (t.tree (t.name (x.Written 0 (codes "a")) (Some (o 0 1 19))) t.no_trees)) t.proper (Some (o 0 1 17))) (t.tree (t.list (t.tree (t.name (x.Written 0 (codes "define-record-type")) (Some (o 0 1 22))) (t.tree (t.name (x.Written 0 (codes "x")) (Some (o 0 1 23))) (t.tree (t.list (t.tree (t.name (x.Written 0 (codes "x")) (Some (o 0 1 25))) (t.tree (t.name (x.Written 0 (codes "t")) (Some (o 0 1 26))) t.no_trees)) t.proper (Some (o 0 1 24))) (t.tree (t.name (x.Written 0 (codes "x?")) (Some (o 0 1 28))) (t.tree (t.list (t.tree (t.name (x.Written 0 (codes "t")) (Some (o 0 1 30))) (t.tree (t.name (x.Written 0 (codes "t-x")) (Some (o 0 1 31))) t.no_trees)) t.proper (Some (o 0 1 29))) (t.tree (t.list (t.tree (t.name (x.Written 0 (codes "y")) (Some (o 0 1 34))) (t.tree (t.name (x.Written 0 (codes "y-y")) (Some (o 0 1 35))) (t.tree (t.name (x.Written 0 (codes "set-y!")) (Some (o 0 1 36))) t.no_trees))) t.proper (Some (o 0 1 33))) t.no_trees)))))) t.proper (Some (o 0 1 21))) (t.tree (t.name (x.Written 0 (codes "y")) (Some (o 0 1 39))) (t.tree (t.name (x.Written 0 (codes "x")) (Some (o 0 1 40))) t.no_trees))))) t.proper (Some (o 0 1 15))) (t.tree (t.name (x.Written 0 (codes "y")) (Some (o 0 1 42))) (t.tree (t.name (x.Written 0 (codes "y")) (Some (o 0 1 43))) t.no_trees))))) t.proper (Some (o 0 1 9))) t.no_trees)))) t.proper (Some (o 0 1 0))) ([]) 200000 ≡ Some (Ok (built (t.list (t.tree (t.name (x.Inserted (x.Written 0 (codes "quote")) (n 0 1 0)) None) (t.tree (t.list (t.tree (t.list (t.tree (t.name (x.Written 0 (codes "lambda")) (Some (o 0 1 10))) (t.tree (t.list (t.tree (t.name (x.Written 0 (codes "x")) (Some (o 0 1 12))) (t.tree (t.name (x.Written 0 (codes "y")) (Some (o 0 1 13))) t.no_trees)) t.proper (Some (o 0 1 11))) (t.tree (t.list (t.tree (t.name (x.Written 0 (codes "define")) (Some (o 0 1 16))) (t.tree (t.list (t.tree (t.name (x.Written 0 (codes "a")) (Some (o 0 1 18))) (t.tree (t.name (x.Written 0 (codes "a")) (Some (o 0 1 19))) t.no_trees)) t.proper (Some (o 0 1 17))) (t.tree (t.list (t.tree (t.name (x.Written 0 (codes "define-record-type")) (Some (o 0 1 22))) (t.tree (t.name (x.Written 0 (codes "x")) (Some (o 0 1 23))) (t.tree (t.list (t.tree (t.name (x.Written 0 (codes "x")) (Some (o 0 1 25))) (t.tree (t.name (x.Written 0 (codes "t")) (Some (o 0 1 26))) t.no_trees)) t.proper (Some (o 0 1 24))) (t.tree (t.name (x.Written 0 (codes "x?")) (Some (o 0 1 28))) (t.tree (t.list (t.tree (t.name (x.Written 0 (codes "t")) (Some (o 0 1 30))) (t.tree (t.name (x.Written 0 (codes "t-x")) (Some (o 0 1 31))) t.no_trees)) t.proper (Some (o 0 1 29))) (t.tree (t.list (t.tree (t.name (x.Written 0 (codes "y")) (Some (o 0 1 34))) (t.tree (t.name (x.Written 0 (codes "y-y")) (Some (o 0 1 35))) (t.tree (t.name (x.Written 0 (codes "set-y!")) (Some (o 0 1 36))) t.no_trees))) t.proper (Some (o 0 1 33))) t.no_trees)))))) t.proper (Some (o 0 1 21))) (t.tree (t.name (x.Written 0 (codes "y")) (Some (o 0 1 39))) (t.tree (t.name (x.Written 0 (codes "x")) (Some (o 0 1 40))) t.no_trees))))) t.proper (Some (o 0 1 15))) (t.tree (t.name (x.Written 0 (codes "y")) (Some (o 0 1 42))) (t.tree (t.name (x.Written 0 (codes "y")) (Some (o 0 1 43))) t.no_trees))))) t.proper (Some (o 0 1 9))) (t.tree (t.name (x.Written 0 (codes "y")) (Some (o 0 1 3))) (t.tree (t.name (x.Written 0 (codes "a")) (Some (o 0 1 7))) t.no_trees))) t.proper None) t.no_trees)) t.proper None) 6))
macros-56 = refl

pub macros-61 : match_row (t.list (t.tree (t.name (x.Written 0 (codes "syntax-rules")) (Some (o 0 0 1))) (t.tree (t.list (t.tree (t.name (x.Written 0 (codes "else")) (Some (o 0 0 3))) t.no_trees) t.proper (Some (o 0 0 2))) (t.tree (t.list (t.tree (t.list (t.tree (t.name (x.Written 0 (codes "_")) (Some (o 0 0 7))) (t.tree (t.name (x.Written 0 (codes "else")) (Some (o 0 0 8))) t.no_trees)) t.proper (Some (o 0 0 6))) (t.tree (t.list (t.tree (t.name (x.Written 0 (codes "set!")) (Some (o 0 0 11))) (t.tree (t.name (x.Written 0 (codes "x")) (Some (o 0 0 12))) (t.tree (t.name (x.Written 0 (codes "x")) (Some (o 0 0 13))) t.no_trees))) t.proper (Some (o 0 0 10))) t.no_trees)) t.proper (Some (o 0 0 5))) t.no_trees))) t.proper (Some (o 0 0 0))) (t.list (t.tree (t.name (x.Written 0 (codes "y")) (Some (o 0 1 1))) (t.tree (t.name (x.Written 0 (codes "else")) (Some (o 0 1 2))) t.no_trees)) t.proper (Some (o 0 1 0))) (((x.Written 0 (codes "else")), (x.Written 0 (codes "else"))) ∷ []) ≡ Some (c (u (t.tree (t.name (x.Written 0 (codes "else")) (Some (o 0 0 8))) t.no_trees) t.proper (t.list (t.tree (t.name (x.Written 0 (codes "set!")) (Some (o 0 0 11))) (t.tree (t.name (x.Written 0 (codes "x")) (Some (o 0 0 12))) (t.tree (t.name (x.Written 0 (codes "x")) (Some (o 0 0 13))) t.no_trees))) t.proper (Some (o 0 0 10)))) ([]) ((named (x.Written 0 (codes "else")) (Some (o 0 1 2))) ∷ []))
macros-61 = refl

pub macros-66 : build_row (t.list (t.tree (t.name (x.Written 0 (codes "syntax-rules")) (Some (o 0 0 1))) (t.tree (t.list t.no_trees t.proper (Some (o 0 0 2))) (t.tree (t.list (t.tree (t.list (t.tree (t.name (x.Written 0 (codes "_")) (Some (o 0 0 6))) t.no_trees) t.proper (Some (o 0 0 5))) (t.tree (t.list (t.tree (t.name (x.Written 0 (codes "begin")) (Some (o 0 0 9))) (t.tree (t.list (t.tree (t.name (x.Written 0 (codes "define")) (Some (o 0 0 11))) (t.tree (t.name (x.Written 0 (codes "x")) (Some (o 0 0 12))) (t.tree (t.list (t.tree (t.name (x.Written 0 (codes "list")) (Some (o 0 0 14))) (t.tree (t.name (x.Written 0 (codes "x")) (Some (o 0 0 15))) (t.tree (t.name (x.Written 0 (codes "y")) (Some (o 0 0 16))) t.no_trees))) t.proper (Some (o 0 0 13))) t.no_trees))) t.proper (Some (o 0 0 10))) (t.tree (t.list (t.tree (t.name (x.Written 0 (codes "define")) (Some (o 0 0 20))) (t.tree (t.name (x.Written 0 (codes "y")) (Some (o 0 0 21))) (t.tree (t.list (t.tree (t.name (x.Written 0 (codes "quote")) None) (t.tree (t.list (t.tree (t.name (x.Written 0 (codes "y")) (Some (o 0 0 24))) (t.tree (t.name (x.Written 0 (codes "y")) (Some (o 0 0 25))) t.no_trees)) t.proper (Some (o 0 0 23))) t.no_trees)) t.proper (Some (o 0 0 22))) t.no_trees))) t.proper (Some (o 0 0 19))) t.no_trees))) t.proper (Some (o 0 0 8))) t.no_trees)) t.proper (Some (o 0 0 4))) t.no_trees))) t.proper (Some (o 0 0 0))) (t.list (t.tree (t.name (x.Written 0 (codes "y")) (Some (o 0 1 1))) t.no_trees) t.proper (Some (o 0 1 0))) ([]) 200000 ≡ Some (Ok (built (t.list (t.tree (t.name (x.Inserted (x.Written 0 (codes "begin")) (n 0 1 0)) (Some (o 0 0 9))) (t.tree (t.list (t.tree (t.name (x.Inserted (x.Written 0 (codes "define")) (n 0 1 0)) (Some (o 0 0 11))) (t.tree (t.name (x.Inserted (x.Written 0 (codes "x")) (n 0 1 0)) (Some (o 0 0 12))) (t.tree (t.list (t.tree (t.name (x.Inserted (x.Written 0 (codes "list")) (n 0 1 0)) (Some (o 0 0 14))) (t.tree (t.name (x.Inserted (x.Written 0 (codes "x")) (n 0 1 0)) (Some (o 0 0 15))) (t.tree (t.name (x.Inserted (x.Written 0 (codes "y")) (n 0 1 0)) (Some (o 0 0 16))) t.no_trees))) t.proper None) t.no_trees))) t.proper None) (t.tree (t.list (t.tree (t.name (x.Inserted (x.Written 0 (codes "define")) (n 0 1 0)) (Some (o 0 0 20))) (t.tree (t.name (x.Inserted (x.Written 0 (codes "y")) (n 0 1 0)) (Some (o 0 0 21))) (t.tree (t.list (t.tree (t.name (x.Inserted (x.Written 0 (codes "quote")) (n 0 1 0)) None) (t.tree (t.list (t.tree (t.name (x.Inserted (x.Written 0 (codes "y")) (n 0 1 0)) (Some (o 0 0 24))) (t.tree (t.name (x.Inserted (x.Written 0 (codes "y")) (n 0 1 0)) (Some (o 0 0 25))) t.no_trees)) t.proper None) t.no_trees)) t.proper None) t.no_trees))) t.proper None) t.no_trees))) t.proper None) 17))
macros-66 = refl

pub macros-71 : build_row (t.list (t.tree (t.name (x.Written 0 (codes "syntax-rules")) (Some (o 0 0 1))) (t.tree (t.list t.no_trees t.proper (Some (o 0 0 2))) (t.tree (t.list (t.tree (t.list (t.tree (t.name (x.Written 0 (codes "_")) (Some (o 0 0 6))) (t.tree (t.list (t.tree (t.name (x.Written 0 (codes "m")) (Some (o 0 0 8))) (t.tree (t.name (x.Written 0 (codes "t")) (Some (o 0 0 9))) t.no_trees)) t.proper (Some (o 0 0 7))) (t.tree (t.name (x.Written 0 (codes "...")) (Some (o 0 0 11))) t.no_trees))) t.proper (Some (o 0 0 5))) (t.tree (t.list (t.tree (t.name (x.Written 0 (codes "begin")) (Some (o 0 0 14))) (t.tree (t.list (t.tree (t.name (x.Written 0 (codes "define")) (Some (o 0 0 16))) (t.tree (t.name (x.Written 0 (codes "f")) (Some (o 0 0 17))) (t.tree (t.list (t.tree (t.list (t.tree (t.name (x.Written 0 (codes "lambda")) (Some (o 0 0 20))) (t.tree (t.list (t.tree (t.name (x.Written 0 (codes "k")) (Some (o 0 0 22))) t.no_trees) t.proper (Some (o 0 0 21))) (t.tree (t.name (x.Written 0 (codes "g")) (Some (o 0 0 24))) t.no_trees))) t.proper (Some (o 0 0 19))) (t.tree (t.name (x.Written 0 (codes "g")) (Some (o 0 0 26))) t.no_trees)) t.proper (Some (o 0 0 18))) t.no_trees))) t.proper (Some (o 0 0 15))) (t.tree (t.list (t.tree (t.name (x.Written 0 (codes "define")) (Some (o 0 0 30))) (t.tree (t.name (x.Written 0 (codes "k")) (Some (o 0 0 31))) (t.tree (t.name (x.Written 0 (codes "x")) (Some (o 0 0 32))) t.no_trees))) t.proper (Some (o 0 0 29))) t.no_trees))) t.proper (Some (o 0 0 13))) t.no_trees)) t.proper (Some (o 0 0 4))) t.no_trees))) t.proper (Some (o 0 0 0))) (t.list (t.tree (t.name (x.Written 0 (codes "k")) (Some (o 0 1 1))) (t.tree (t.list (t.tree (t.name (x.Written 0 (codes "q")) (Some (o 0 1 3))) (t.tree (t.name (x.Written 0 (codes "y")) (Some (o 0 1 4))) t.no_trees)) t.proper (Some (o 0 1 2))) t.no_trees)) t.proper (Some (o 0 1 0))) ([]) 200000 ≡ Some (Ok (built (t.list (t.tree (t.name (x.Inserted (x.Written 0 (codes "begin")) (n 0 1 0)) (Some (o 0 0 14))) (t.tree (t.list (t.tree (t.name (x.Inserted (x.Written 0 (codes "define")) (n 0 1 0)) (Some (o 0 0 16))) (t.tree (t.name (x.Inserted (x.Written 0 (codes "f")) (n 0 1 0)) (Some (o 0 0 17))) (t.tree (t.list (t.tree (t.list (t.tree (t.name (x.Inserted (x.Written 0 (codes "lambda")) (n 0 1 0)) (Some (o 0 0 20))) (t.tree (t.list (t.tree (t.name (x.Inserted (x.Written 0 (codes "k")) (n 0 1 0)) (Some (o 0 0 22))) t.no_trees) t.proper None) (t.tree (t.name (x.Inserted (x.Written 0 (codes "g")) (n 0 1 0)) (Some (o 0 0 24))) t.no_trees))) t.proper None) (t.tree (t.name (x.Inserted (x.Written 0 (codes "g")) (n 0 1 0)) (Some (o 0 0 26))) t.no_trees)) t.proper None) t.no_trees))) t.proper None) (t.tree (t.list (t.tree (t.name (x.Inserted (x.Written 0 (codes "define")) (n 0 1 0)) (Some (o 0 0 30))) (t.tree (t.name (x.Inserted (x.Written 0 (codes "k")) (n 0 1 0)) (Some (o 0 0 31))) (t.tree (t.name (x.Inserted (x.Written 0 (codes "x")) (n 0 1 0)) (Some (o 0 0 32))) t.no_trees))) t.proper None) t.no_trees))) t.proper None) 16))
macros-71 = refl

pub macros-76 : build_row (t.list (t.tree (t.name (x.Written 0 (codes "syntax-rules")) (Some (o 0 0 1))) (t.tree (t.list (t.tree (t.name (x.Written 0 (codes "in")) (Some (o 0 0 3))) t.no_trees) t.proper (Some (o 0 0 2))) (t.tree (t.list (t.tree (t.list (t.tree (t.name (x.Written 0 (codes "_")) (Some (o 0 0 7))) (t.tree (t.name (x.Written 0 (codes "in")) (Some (o 0 0 8))) t.no_trees)) t.proper (Some (o 0 0 6))) (t.tree (t.list (t.tree (t.name (x.Written 0 (codes "quote")) None) (t.tree (t.list (t.tree (t.name (x.Written 0 (codes "list")) (Some (o 0 0 12))) (t.tree (t.name (x.Written 0 (codes "q")) (Some (o 0 0 13))) t.no_trees)) t.proper (Some (o 0 0 11))) t.no_trees)) t.proper (Some (o 0 0 10))) t.no_trees)) t.proper (Some (o 0 0 5))) (t.tree (t.list (t.tree (t.list (t.tree (t.name (x.Written 0 (codes "_")) (Some (o 0 0 18))) t.no_trees) (t.dotted (t.name (x.Written 0 (codes "rest")) (Some (o 0 0 20)))) (Some (o 0 0 17))) (t.tree (t.list (t.tree (t.name (x.Written 0 (codes "lambda")) (Some (o 0 0 23))) (t.tree (t.list (t.tree (t.name (x.Written 0 (codes "n")) (Some (o 0 0 25))) t.no_trees) t.proper (Some (o 0 0 24))) (t.tree (t.name (x.Written 0 (codes "=>")) (Some (o 0 0 27))) t.no_trees))) t.proper (Some (o 0 0 22))) t.no_trees)) t.proper (Some (o 0 0 16))) t.no_trees)))) t.proper (Some (o 0 0 0))) (t.list (t.tree (t.name (x.Written 0 (codes "q")) (Some (o 0 1 1))) (t.tree (t.name (x.Written 0 (codes "in")) (Some (o 0 1 2))) t.no_trees)) t.proper (Some (o 0 1 0))) (((x.Written 0 (codes "in")), (x.Written 0 (codes "in"))) ∷ []) 200000 ≡ Some (Ok (built (t.list (t.tree (t.name (x.Inserted (x.Written 0 (codes "quote")) (n 0 1 0)) None) (t.tree (t.list (t.tree (t.name (x.Inserted (x.Written 0 (codes "list")) (n 0 1 0)) (Some (o 0 0 12))) (t.tree (t.name (x.Inserted (x.Written 0 (codes "q")) (n 0 1 0)) (Some (o 0 0 13))) t.no_trees)) t.proper None) t.no_trees)) t.proper None) 5))
macros-76 = refl

pub macros-81 : rules_row (t.list (t.tree (t.name (x.Written 0 (codes "syntax-rules")) (Some (o 0 0 1))) (t.tree (t.list t.no_trees t.proper (Some (o 0 0 2))) (t.tree (t.list (t.tree (t.list (t.tree (t.name (x.Written 0 (codes "_")) (Some (o 0 0 6))) (t.tree (t.list (t.tree (t.name (x.Written 0 (codes "x")) (Some (o 0 0 8))) (t.tree (t.name (x.Written 0 (codes "g")) (Some (o 0 0 9))) t.no_trees)) t.proper (Some (o 0 0 7))) (t.tree (t.list (t.tree (t.name (x.Written 0 (codes "g")) (Some (o 0 0 12))) (t.tree (t.name (x.Written 0 (codes "f")) (Some (o 0 0 13))) (t.tree (t.name (x.Written 0 (codes "...")) (Some (o 0 0 14))) t.no_trees))) t.proper (Some (o 0 0 11))) (t.tree (t.name (x.Written 0 (codes "...")) (Some (o 0 0 16))) (t.tree (t.list (t.tree (t.name (x.Written 0 (codes "t")) (Some (o 0 0 18))) (t.tree (t.name (x.Written 0 (codes "n")) (Some (o 0 0 19))) t.no_trees)) t.proper (Some (o 0 0 17))) t.no_trees))))) t.proper (Some (o 0 0 5))) (t.tree (t.list (t.tree (t.name (x.Written 0 (codes "list")) (Some (o 0 0 23))) (t.tree (t.list (t.tree (t.name (x.Written 0 (codes "f")) (Some (o 0 0 25))) (t.tree (t.name (x.Written 0 (codes "...")) (Some (o 0 0 26))) t.no_trees)) t.proper (Some (o 0 0 24))) (t.tree (t.name (x.Written 0 (codes "...")) (Some (o 0 0 28))) (t.tree (t.name (x.Written 0 (codes "b")) (Some (o 0 0 29))) t.no_trees)))) t.proper (Some (o 0 0 22))) t.no_trees)) t.proper (Some (o 0 0 4))) (t.tree (t.list (t.tree (t.list (t.tree (t.name (x.Written 0 (codes "_")) (Some (o 0 0 34))) t.no_trees) (t.dotted (t.name (x.Written 0 (codes "rest")) (Some (o 0 0 36)))) (Some (o 0 0 33))) (t.tree (t.list (t.tree (t.name (x.Written 0 (codes "list")) (Some (o 0 0 39))) (t.tree (t.name (x.Written 0 (codes "g")) (Some (o 0 0 40))) (t.tree (t.name (x.Written 0 (codes "y")) (Some (o 0 0 41))) t.no_trees))) t.proper (Some (o 0 0 38))) t.no_trees)) t.proper (Some (o 0 0 32))) t.no_trees)))) t.proper (Some (o 0 0 0))) ≡ Err (f.DuplicateVariable (named (x.Written 0 (codes "g")) (Some (o 0 0 12))))
macros-81 = refl

pub macros-86 : build_row (t.list (t.tree (t.name (x.Written 0 (codes "syntax-rules")) (Some (o 0 0 1))) (t.tree (t.list t.no_trees t.proper (Some (o 0 0 2))) (t.tree (t.list (t.tree (t.list (t.tree (t.name (x.Written 0 (codes "_")) (Some (o 0 0 6))) t.no_trees) t.proper (Some (o 0 0 5))) (t.tree (t.list (t.tree (t.name (x.Written 0 (codes "quote")) None) (t.tree (t.list (t.tree (t.name (x.Written 0 (codes "y")) (Some (o 0 0 10))) (t.tree (t.name (x.Written 0 (codes "m")) (Some (o 0 0 11))) t.no_trees)) t.proper (Some (o 0 0 9))) t.no_trees)) t.proper (Some (o 0 0 8))) t.no_trees)) t.proper (Some (o 0 0 4))) t.no_trees))) t.proper (Some (o 0 0 0))) (t.list (t.tree (t.name (x.Written 0 (codes "t")) (Some (o 0 1 1))) t.no_trees) t.proper (Some (o 0 1 0))) ([]) 200000 ≡ Some (Ok (built (t.list (t.tree (t.name (x.Inserted (x.Written 0 (codes "quote")) (n 0 1 0)) None) (t.tree (t.list (t.tree (t.name (x.Inserted (x.Written 0 (codes "y")) (n 0 1 0)) (Some (o 0 0 10))) (t.tree (t.name (x.Inserted (x.Written 0 (codes "m")) (n 0 1 0)) (Some (o 0 0 11))) t.no_trees)) t.proper None) t.no_trees)) t.proper None) 5))
macros-86 = refl

pub macros-91 : build_row (t.list (t.tree (t.name (x.Written 0 (codes "syntax-rules")) (Some (o 0 0 1))) (t.tree (t.list t.no_trees t.proper (Some (o 0 0 2))) (t.tree (t.list (t.tree (t.list (t.tree (t.name (x.Written 0 (codes "_")) (Some (o 0 0 6))) (t.tree (t.list (t.tree (t.name (x.Written 0 (codes "quote")) (Some (o 0 0 8))) (t.tree (t.name (x.Written 0 (codes "m")) (Some (o 0 0 9))) t.no_trees)) t.proper (Some (o 0 0 7))) t.no_trees)) t.proper (Some (o 0 0 5))) (t.tree (t.list (t.tree (t.name (x.Written 0 (codes "begin")) (Some (o 0 0 13))) (t.tree (t.list (t.tree (t.name (x.Written 0 (codes "define")) (Some (o 0 0 15))) (t.tree (t.name (x.Written 0 (codes "quote")) (Some (o 0 0 16))) (t.tree (t.list (t.tree (t.list (t.tree (t.name (x.Written 0 (codes "lambda")) (Some (o 0 0 19))) (t.tree (t.list (t.tree (t.name (x.Written 0 (codes "quote")) (Some (o 0 0 21))) t.no_trees) t.proper (Some (o 0 0 20))) (t.tree (t.name (x.Written 0 (codes "m")) (Some (o 0 0 23))) t.no_trees))) t.proper (Some (o 0 0 18))) (t.tree (t.name (x.Written 0 (codes "quote")) (Some (o 0 0 25))) t.no_trees)) t.proper (Some (o 0 0 17))) t.no_trees))) t.proper (Some (o 0 0 14))) t.no_trees)) t.proper (Some (o 0 0 12))) t.no_trees)) t.proper (Some (o 0 0 4))) t.no_trees))) t.proper (Some (o 0 0 0))) (t.list (t.tree (t.name (x.Written 0 (codes "unquote")) (Some (o 0 1 1))) (t.tree (t.list (t.tree (t.name (x.Written 0 (codes "n")) (Some (o 0 1 3))) (t.tree (t.list (t.tree (t.name (x.Written 0 (codes "lambda")) (Some (o 0 1 5))) (t.tree (t.name (x.Written 0 (codes "m")) (Some (o 0 1 6))) (t.tree (t.name (x.Written 0 (codes "q")) (Some (o 0 1 7))) t.no_trees))) t.proper (Some (o 0 1 4))) t.no_trees)) t.proper (Some (o 0 1 2))) t.no_trees)) t.proper (Some (o 0 1 0))) ([]) 200000 ≡ Some (Ok (built (t.list (t.tree (t.name (x.Inserted (x.Written 0 (codes "begin")) (n 0 1 0)) (Some (o 0 0 13))) (t.tree (t.list (t.tree (t.name (x.Inserted (x.Written 0 (codes "define")) (n 0 1 0)) (Some (o 0 0 15))) (t.tree (t.name (x.Written 0 (codes "n")) (Some (o 0 1 3))) (t.tree (t.list (t.tree (t.list (t.tree (t.name (x.Inserted (x.Written 0 (codes "lambda")) (n 0 1 0)) (Some (o 0 0 19))) (t.tree (t.list (t.tree (t.name (x.Written 0 (codes "n")) (Some (o 0 1 3))) t.no_trees) t.proper None) (t.tree (t.list (t.tree (t.name (x.Written 0 (codes "lambda")) (Some (o 0 1 5))) (t.tree (t.name (x.Written 0 (codes "m")) (Some (o 0 1 6))) (t.tree (t.name (x.Written 0 (codes "q")) (Some (o 0 1 7))) t.no_trees))) t.proper (Some (o 0 1 4))) t.no_trees))) t.proper None) (t.tree (t.name (x.Written 0 (codes "n")) (Some (o 0 1 3))) t.no_trees)) t.proper None) t.no_trees))) t.proper None) t.no_trees)) t.proper None) 12))
macros-91 = refl

pub macros-96 : match_row (t.list (t.tree (t.name (x.Written 0 (codes "syntax-rules")) (Some (o 0 0 1))) (t.tree (t.list t.no_trees t.proper (Some (o 0 0 2))) (t.tree (t.list (t.tree (t.list (t.tree (t.name (x.Written 0 (codes "_")) (Some (o 0 0 6))) (t.tree (t.name (x.Written 0 (codes "x")) (Some (o 0 0 7))) t.no_trees)) t.proper (Some (o 0 0 5))) (t.tree (t.list (t.tree (t.name (x.Written 0 (codes "if")) (Some (o 0 0 10))) (t.tree (t.list (t.tree (t.name (x.Written 0 (codes "lambda")) (Some (o 0 0 12))) (t.tree (t.list (t.tree (t.name (x.Written 0 (codes "f")) (Some (o 0 0 14))) t.no_trees) t.proper (Some (o 0 0 13))) (t.tree (t.list (t.tree (t.name (x.Written 0 (codes "if")) (Some (o 0 0 17))) (t.tree (t.name (x.Written 0 (codes "x")) (Some (o 0 0 18))) (t.tree (t.name (x.Written 0 (codes "q")) (Some (o 0 0 19))) (t.tree (t.name (x.Written 0 (codes "a")) (Some (o 0 0 20))) t.no_trees)))) t.proper (Some (o 0 0 16))) t.no_trees))) t.proper (Some (o 0 0 11))) (t.tree (t.list (t.tree (t.name (x.Written 0 (codes "set!")) (Some (o 0 0 24))) (t.tree (t.name (x.Written 0 (codes "a")) (Some (o 0 0 25))) (t.tree (t.name (x.Written 0 (codes "x")) (Some (o 0 0 26))) t.no_trees))) t.proper (Some (o 0 0 23))) (t.tree (t.name (x.Written 0 (codes "x")) (Some (o 0 0 28))) t.no_trees)))) t.proper (Some (o 0 0 9))) t.no_trees)) t.proper (Some (o 0 0 4))) t.no_trees))) t.proper (Some (o 0 0 0))) (t.list (t.tree (t.name (x.Written 0 (codes "x")) (Some (o 0 1 1))) (t.tree (t.name (x.Written 0 (codes "f")) (Some (o 0 1 2))) t.no_trees)) t.proper (Some (o 0 1 0))) ([]) ≡ Some (c (u (t.tree (t.name (x.Written 0 (codes "x")) (Some (o 0 0 7))) t.no_trees) t.proper (t.list (t.tree (t.name (x.Written 0 (codes "if")) (Some (o 0 0 10))) (t.tree (t.list (t.tree (t.name (x.Written 0 (codes "lambda")) (Some (o 0 0 12))) (t.tree (t.list (t.tree (t.name (x.Written 0 (codes "f")) (Some (o 0 0 14))) t.no_trees) t.proper (Some (o 0 0 13))) (t.tree (t.list (t.tree (t.name (x.Written 0 (codes "if")) (Some (o 0 0 17))) (t.tree (t.name (x.Written 0 (codes "x")) (Some (o 0 0 18))) (t.tree (t.name (x.Written 0 (codes "q")) (Some (o 0 0 19))) (t.tree (t.name (x.Written 0 (codes "a")) (Some (o 0 0 20))) t.no_trees)))) t.proper (Some (o 0 0 16))) t.no_trees))) t.proper (Some (o 0 0 11))) (t.tree (t.list (t.tree (t.name (x.Written 0 (codes "set!")) (Some (o 0 0 24))) (t.tree (t.name (x.Written 0 (codes "a")) (Some (o 0 0 25))) (t.tree (t.name (x.Written 0 (codes "x")) (Some (o 0 0 26))) t.no_trees))) t.proper (Some (o 0 0 23))) (t.tree (t.name (x.Written 0 (codes "x")) (Some (o 0 0 28))) t.no_trees)))) t.proper (Some (o 0 0 9)))) ((b (x.Written 0 (codes "x")) (v.One (t.name (x.Written 0 (codes "f")) (Some (o 0 1 2))))) ∷ []) ([]))
macros-96 = refl

pub macros-101 : build_row (t.list (t.tree (t.name (x.Written 0 (codes "syntax-rules")) (Some (o 0 0 1))) (t.tree (t.list t.no_trees t.proper (Some (o 0 0 2))) (t.tree (t.list (t.tree (t.list (t.tree (t.name (x.Written 0 (codes "_")) (Some (o 0 0 6))) t.no_trees) t.proper (Some (o 0 0 5))) (t.tree (t.name (x.Written 0 (codes "a")) (Some (o 0 0 8))) t.no_trees)) t.proper (Some (o 0 0 4))) t.no_trees))) t.proper (Some (o 0 0 0))) (t.list (t.tree (t.name (x.Written 0 (codes "k")) (Some (o 0 1 1))) t.no_trees) t.proper (Some (o 0 1 0))) ([]) 200000 ≡ Some (Ok (built (t.name (x.Inserted (x.Written 0 (codes "a")) (n 0 1 0)) (Some (o 0 0 8))) 1))
macros-101 = refl

pub macros-106 : rules_row (t.list (t.tree (t.name (x.Written 0 (codes "syntax-rules")) (Some (o 0 0 1))) (t.tree (t.list t.no_trees t.proper (Some (o 0 0 2))) (t.tree (t.list (t.tree (t.list (t.tree (t.name (x.Written 0 (codes "_")) (Some (o 0 0 6))) (t.tree (t.list (t.tree (t.name (x.Written 0 (codes "q")) (Some (o 0 0 8))) (t.tree (t.name (x.Written 0 (codes "b")) (Some (o 0 0 9))) (t.tree (t.name (x.Written 0 (codes "...")) (Some (o 0 0 10))) t.no_trees))) t.proper (Some (o 0 0 7))) (t.tree (t.name (x.Written 0 (codes "...")) (Some (o 0 0 12))) t.no_trees))) t.proper (Some (o 0 0 5))) (t.tree (t.list (t.tree (t.name (x.Written 0 (codes "begin")) (Some (o 0 0 15))) (t.tree (t.list (t.tree (t.name (x.Written 0 (codes "define")) (Some (o 0 0 17))) (t.tree (t.name (x.Written 0 (codes "b")) (Some (o 0 0 18))) (t.tree (t.list (t.tree (t.name (x.Written 0 (codes "quote")) None) (t.tree (t.list (t.tree (t.name (x.Written 0 (codes "a")) (Some (o 0 0 21))) (t.tree (t.name (x.Written 0 (codes "b")) (Some (o 0 0 22))) (t.tree (t.name (x.Written 0 (codes "...")) (Some (o 0 0 23))) (t.tree (t.name (x.Written 0 (codes "...")) (Some (o 0 0 24))) t.no_trees)))) t.proper (Some (o 0 0 20))) t.no_trees)) t.proper (Some (o 0 0 19))) t.no_trees))) t.proper (Some (o 0 0 16))) t.no_trees)) t.proper (Some (o 0 0 14))) t.no_trees)) t.proper (Some (o 0 0 4))) t.no_trees))) t.proper (Some (o 0 0 0))) ≡ Err (f.EllipsisDepth (named (x.Written 0 (codes "b")) (Some (o 0 0 18))))
macros-106 = refl

pub macros-111 : build_row (t.list (t.tree (t.name (x.Written 0 (codes "syntax-rules")) (Some (o 0 0 1))) (t.tree (t.list t.no_trees t.proper (Some (o 0 0 2))) (t.tree (t.list (t.tree (t.list (t.tree (t.name (x.Written 0 (codes "_")) (Some (o 0 0 6))) t.no_trees) t.proper (Some (o 0 0 5))) (t.tree (t.list (t.tree (t.name (x.Written 0 (codes "begin")) (Some (o 0 0 9))) (t.tree (t.list (t.tree (t.name (x.Written 0 (codes "define")) (Some (o 0 0 11))) (t.tree (t.name (x.Written 0 (codes "f")) (Some (o 0 0 12))) (t.tree (t.list (t.tree (t.name (x.Written 0 (codes "lambda")) (Some (o 0 0 14))) (t.tree (t.list (t.tree (t.name (x.Written 0 (codes "y")) (Some (o 0 0 16))) t.no_trees) t.proper (Some (o 0 0 15))) (t.tree (t.name (x.Written 0 (codes "y")) (Some (o 0 0 18))) t.no_trees))) t.proper (Some (o 0 0 13))) t.no_trees))) t.proper (Some (o 0 0 10))) (t.tree (t.list (t.tree (t.name (x.Written 0 (codes "define")) (Some (o 0 0 22))) (t.tree (t.name (x.Written 0 (codes "x")) (Some (o 0 0 23))) (t.tree (t.list (t.tree (t.name (x.Written 0 (codes "list")) (Some (o 0 0 25))) (t.tree (t.name (x.Written 0 (codes "g")) (Some (o 0 0 26))) (t.tree (t.name (x.Written 0 (codes "q")) (Some (o 0 0 27))) t.no_trees))) t.proper (Some (o 0 0 24))) t.no_trees))) t.proper (Some (o 0 0 21))) t.no_trees))) t.proper (Some (o 0 0 8))) t.no_trees)) t.proper (Some (o 0 0 4))) t.no_trees))) t.proper (Some (o 0 0 0))) (t.list (t.tree (t.name (x.Written 0 (codes "n")) (Some (o 0 1 1))) t.no_trees) t.proper (Some (o 0 1 0))) ([]) 200000 ≡ Some (Ok (built (t.list (t.tree (t.name (x.Inserted (x.Written 0 (codes "begin")) (n 0 1 0)) (Some (o 0 0 9))) (t.tree (t.list (t.tree (t.name (x.Inserted (x.Written 0 (codes "define")) (n 0 1 0)) (Some (o 0 0 11))) (t.tree (t.name (x.Inserted (x.Written 0 (codes "f")) (n 0 1 0)) (Some (o 0 0 12))) (t.tree (t.list (t.tree (t.name (x.Inserted (x.Written 0 (codes "lambda")) (n 0 1 0)) (Some (o 0 0 14))) (t.tree (t.list (t.tree (t.name (x.Inserted (x.Written 0 (codes "y")) (n 0 1 0)) (Some (o 0 0 16))) t.no_trees) t.proper None) (t.tree (t.name (x.Inserted (x.Written 0 (codes "y")) (n 0 1 0)) (Some (o 0 0 18))) t.no_trees))) t.proper None) t.no_trees))) t.proper None) (t.tree (t.list (t.tree (t.name (x.Inserted (x.Written 0 (codes "define")) (n 0 1 0)) (Some (o 0 0 22))) (t.tree (t.name (x.Inserted (x.Written 0 (codes "x")) (n 0 1 0)) (Some (o 0 0 23))) (t.tree (t.list (t.tree (t.name (x.Inserted (x.Written 0 (codes "list")) (n 0 1 0)) (Some (o 0 0 25))) (t.tree (t.name (x.Inserted (x.Written 0 (codes "g")) (n 0 1 0)) (Some (o 0 0 26))) (t.tree (t.name (x.Inserted (x.Written 0 (codes "q")) (n 0 1 0)) (Some (o 0 0 27))) t.no_trees))) t.proper None) t.no_trees))) t.proper None) t.no_trees))) t.proper None) 17))
macros-111 = refl

pub macros-116 : build_row (t.list (t.tree (t.name (x.Written 0 (codes "syntax-rules")) (Some (o 0 0 1))) (t.tree (t.list t.no_trees t.proper (Some (o 0 0 2))) (t.tree (t.list (t.tree (t.list (t.tree (t.name (x.Written 0 (codes "_")) (Some (o 0 0 6))) (t.tree (t.name (x.Written 0 (codes "q")) (Some (o 0 0 7))) (t.tree (t.name (x.Written 0 (codes "...")) (Some (o 0 0 8))) t.no_trees))) t.proper (Some (o 0 0 5))) (t.tree (t.list (t.tree (t.name (x.Written 0 (codes "begin")) (Some (o 0 0 11))) (t.tree (t.list (t.tree (t.name (x.Written 0 (codes "define")) (Some (o 0 0 13))) (t.tree (t.name (x.Written 0 (codes "a")) (Some (o 0 0 14))) (t.tree (t.list (t.tree (t.name (x.Written 0 (codes "lambda")) (Some (o 0 0 16))) (t.tree (t.list (t.tree (t.name (x.Written 0 (codes "x")) (Some (o 0 0 18))) t.no_trees) t.proper (Some (o 0 0 17))) (t.tree (t.name (x.Written 0 (codes "a")) (Some (o 0 0 20))) t.no_trees))) t.proper (Some (o 0 0 15))) t.no_trees))) t.proper (Some (o 0 0 12))) t.no_trees)) t.proper (Some (o 0 0 10))) t.no_trees)) t.proper (Some (o 0 0 4))) t.no_trees))) t.proper (Some (o 0 0 0))) (t.list (t.tree (t.name (x.Written 0 (codes "b")) (Some (o 0 1 1))) t.no_trees) t.proper (Some (o 0 1 0))) ([]) 200000 ≡ Some (Ok (built (t.list (t.tree (t.name (x.Inserted (x.Written 0 (codes "begin")) (n 0 1 0)) (Some (o 0 0 11))) (t.tree (t.list (t.tree (t.name (x.Inserted (x.Written 0 (codes "define")) (n 0 1 0)) (Some (o 0 0 13))) (t.tree (t.name (x.Inserted (x.Written 0 (codes "a")) (n 0 1 0)) (Some (o 0 0 14))) (t.tree (t.list (t.tree (t.name (x.Inserted (x.Written 0 (codes "lambda")) (n 0 1 0)) (Some (o 0 0 16))) (t.tree (t.list (t.tree (t.name (x.Inserted (x.Written 0 (codes "x")) (n 0 1 0)) (Some (o 0 0 18))) t.no_trees) t.proper None) (t.tree (t.name (x.Inserted (x.Written 0 (codes "a")) (n 0 1 0)) (Some (o 0 0 20))) t.no_trees))) t.proper None) t.no_trees))) t.proper None) t.no_trees)) t.proper None) 10))
macros-116 = refl

pub macros-121 : build_row (t.list (t.tree (t.name (x.Written 0 (codes "syntax-rules")) (Some (o 0 0 1))) (t.tree (t.list (t.tree (t.name (x.Written 0 (codes "else")) (Some (o 0 0 3))) t.no_trees) t.proper (Some (o 0 0 2))) (t.tree (t.list (t.tree (t.list (t.tree (t.name (x.Written 0 (codes "_")) (Some (o 0 0 7))) (t.tree (t.name (x.Written 0 (codes "else")) (Some (o 0 0 8))) t.no_trees)) t.proper (Some (o 0 0 6))) (t.tree (t.list (t.tree (t.name (x.Written 0 (codes "begin")) (Some (o 0 0 11))) (t.tree (t.list (t.tree (t.name (x.Written 0 (codes "define")) (Some (o 0 0 13))) (t.tree (t.name (x.Written 0 (codes "x")) (Some (o 0 0 14))) (t.tree (t.list (t.tree (t.list (t.tree (t.name (x.Written 0 (codes "lambda")) (Some (o 0 0 17))) (t.tree (t.list (t.tree (t.name (x.Written 0 (codes "a")) (Some (o 0 0 19))) t.no_trees) t.proper (Some (o 0 0 18))) (t.tree (t.list (t.tree (t.name (x.Written 0 (codes "define")) (Some (o 0 0 22))) (t.tree (t.name (x.Written 0 (codes "m")) (Some (o 0 0 23))) (t.tree (t.name (x.Written 0 (codes "g")) (Some (o 0 0 24))) t.no_trees))) t.proper (Some (o 0 0 21))) (t.tree (t.name (x.Written 0 (codes "a")) (Some (o 0 0 26))) t.no_trees)))) t.proper (Some (o 0 0 16))) (t.tree (t.name (x.Written 0 (codes "t")) (Some (o 0 0 28))) t.no_trees)) t.proper (Some (o 0 0 15))) t.no_trees))) t.proper (Some (o 0 0 12))) (t.tree (t.list (t.tree (t.name (x.Written 0 (codes "define")) (Some (o 0 0 32))) (t.tree (t.name (x.Written 0 (codes "x")) (Some (o 0 0 33))) (t.tree (t.list (t.tree (t.name (x.Written 0 (codes "set!")) (Some (o 0 0 35))) (t.tree (t.name (x.Written 0 (codes "a")) (Some (o 0 0 36))) (t.tree (t.name (x.Written 0 (codes "q")) (Some (o 0 0 37))) t.no_trees))) t.proper (Some (o 0 0 34))) t.no_trees))) t.proper (Some (o 0 0 31))) t.no_trees))) t.proper (Some (o 0 0 10))) t.no_trees)) t.proper (Some (o 0 0 5))) (t.tree (t.list (t.tree (t.list (t.tree (t.name (x.Written 0 (codes "_")) (Some (o 0 0 44))) t.no_trees) (t.dotted (t.name (x.Written 0 (codes "rest")) (Some (o 0 0 46)))) (Some (o 0 0 43))) (t.tree (t.name (x.Written 0 (codes "tmp")) (Some (o 0 0 48))) t.no_trees)) t.proper (Some (o 0 0 42))) t.no_trees)))) t.proper (Some (o 0 0 0))) (t.list (t.tree (t.name (x.Written 0 (codes "n")) (Some (o 0 1 1))) (t.tree (t.name (x.Written 0 (codes "else")) (Some (o 0 1 2))) t.no_trees)) t.proper (Some (o 0 1 0))) (((x.Written 0 (codes "else")), (x.Written 0 (codes "else"))) ∷ []) 200000 ≡ Some (Ok (built (t.list (t.tree (t.name (x.Inserted (x.Written 0 (codes "begin")) (n 0 1 0)) (Some (o 0 0 11))) (t.tree (t.list (t.tree (t.name (x.Inserted (x.Written 0 (codes "define")) (n 0 1 0)) (Some (o 0 0 13))) (t.tree (t.name (x.Inserted (x.Written 0 (codes "x")) (n 0 1 0)) (Some (o 0 0 14))) (t.tree (t.list (t.tree (t.list (t.tree (t.name (x.Inserted (x.Written 0 (codes "lambda")) (n 0 1 0)) (Some (o 0 0 17))) (t.tree (t.list (t.tree (t.name (x.Inserted (x.Written 0 (codes "a")) (n 0 1 0)) (Some (o 0 0 19))) t.no_trees) t.proper None) (t.tree (t.list (t.tree (t.name (x.Inserted (x.Written 0 (codes "define")) (n 0 1 0)) (Some (o 0 0 22))) (t.tree (t.name (x.Inserted (x.Written 0 (codes "m")) (n 0 1 0)) (Some (o 0 0 23))) (t.tree (t.name (x.Inserted (x.Written 0 (codes "g")) (n 0 1 0)) (Some (o 0 0 24))) t.no_trees))) t.proper None) (t.tree (t.name (x.Inserted (x.Written 0 (codes "a")) (n 0 1 0)) (Some (o 0 0 26))) t.no_trees)))) t.proper None) (t.tree (t.name (x.Inserted (x.Written 0 (codes "t")) (n 0 1 0)) (Some (o 0 0 28))) t.no_trees)) t.proper None) t.no_trees))) t.proper None) (t.tree (t.list (t.tree (t.name (x.Inserted (x.Written 0 (codes "define")) (n 0 1 0)) (Some (o 0 0 32))) (t.tree (t.name (x.Inserted (x.Written 0 (codes "x")) (n 0 1 0)) (Some (o 0 0 33))) (t.tree (t.list (t.tree (t.name (x.Inserted (x.Written 0 (codes "set!")) (n 0 1 0)) (Some (o 0 0 35))) (t.tree (t.name (x.Inserted (x.Written 0 (codes "a")) (n 0 1 0)) (Some (o 0 0 36))) (t.tree (t.name (x.Inserted (x.Written 0 (codes "q")) (n 0 1 0)) (Some (o 0 0 37))) t.no_trees))) t.proper None) t.no_trees))) t.proper None) t.no_trees))) t.proper None) 23))
macros-121 = refl

pub macros-126 : build_row (t.list (t.tree (t.name (x.Written 0 (codes "syntax-rules")) (Some (o 0 0 1))) (t.tree (t.name (x.Written 0 (codes ":::")) (Some (o 0 0 2))) (t.tree (t.list t.no_trees t.proper (Some (o 0 0 3))) (t.tree (t.list (t.tree (t.list (t.tree (t.name (x.Written 0 (codes "_")) (Some (o 0 0 7))) (t.tree (t.list (t.tree (t.name (x.Written 0 (codes "f")) (Some (o 0 0 9))) (t.tree (t.name (x.Written 0 (codes "a")) (Some (o 0 0 10))) t.no_trees)) t.proper (Some (o 0 0 8))) t.no_trees)) t.proper (Some (o 0 0 6))) (t.tree (t.list (t.tree (t.name (x.Written 0 (codes "define-syntax")) (Some (o 0 0 14))) (t.tree (t.name (x.Written 0 (codes "a")) (Some (o 0 0 15))) (t.tree (t.list (t.tree (t.name (x.Written 0 (codes "syntax-rules")) (Some (o 0 0 17))) (t.tree (t.list t.no_trees t.proper (Some (o 0 0 18))) (t.tree (t.list (t.tree (t.list (t.tree (t.name (x.Written 0 (codes "_")) (Some (o 0 0 22))) (t.tree (t.name (x.Written 0 (codes "k")) (Some (o 0 0 23))) (t.tree (t.name (x.Written 0 (codes "...")) (Some (o 0 0 24))) t.no_trees))) t.proper (Some (o 0 0 21))) (t.tree (t.list (t.tree (t.name (x.Written 0 (codes "list")) (Some (o 0 0 27))) (t.tree (t.name (x.Written 0 (codes "k")) (Some (o 0 0 28))) (t.tree (t.name (x.Written 0 (codes "...")) (Some (o 0 0 29))) (t.tree (t.name (x.Written 0 (codes "f")) (Some (o 0 0 30))) (t.tree (t.name (x.Written 0 (codes "g")) (Some (o 0 0 31))) t.no_trees))))) t.proper (Some (o 0 0 26))) t.no_trees)) t.proper (Some (o 0 0 20))) t.no_trees))) t.proper (Some (o 0 0 16))) t.no_trees))) t.proper (Some (o 0 0 13))) t.no_trees)) t.proper (Some (o 0 0 5))) (t.tree (t.list (t.tree (t.list (t.tree (t.name (x.Written 0 (codes "_")) (Some (o 0 0 39))) t.no_trees) (t.dotted (t.name (x.Written 0 (codes "rest")) (Some (o 0 0 41)))) (Some (o 0 0 38))) (t.tree (t.list (t.tree (t.name (x.Written 0 (codes "set!")) (Some (o 0 0 44))) (t.tree (t.name (x.Written 0 (codes "f")) (Some (o 0 0 45))) (t.tree (t.name (x.Written 0 (codes "b")) (Some (o 0 0 46))) t.no_trees))) t.proper (Some (o 0 0 43))) t.no_trees)) t.proper (Some (o 0 0 37))) t.no_trees))))) t.proper (Some (o 0 0 0))) (t.list (t.tree (t.name (x.Written 0 (codes "m")) (Some (o 0 1 1))) (t.tree (t.list (t.tree (t.name (x.Written 0 (codes "g")) (Some (o 0 1 3))) (t.tree (t.list (t.tree (t.name (x.Written 0 (codes "if")) (Some (o 0 1 5))) (t.tree (t.list (t.tree (t.name (x.Written 0 (codes "m")) (Some (o 0 1 7))) (t.tree (t.list (t.tree (t.name (x.Written 0 (codes "tmp")) (Some (o 0 1 9))) (t.tree (t.name (x.Written 0 (codes "g")) (Some (o 0 1 10))) t.no_trees)) t.proper (Some (o 0 1 8))) (t.tree (t.name (x.Written 0 (codes "z")) (Some (o 0 1 12))) t.no_trees))) t.proper (Some (o 0 1 6))) (t.tree (t.list (t.tree (t.name (x.Written 0 (codes "x")) (Some (o 0 1 15))) t.no_trees) t.proper (Some (o 0 1 14))) (t.tree (t.list (t.tree (t.name (x.Written 0 (codes "quasiquote")) None) (t.tree (t.list (t.tree (t.atom (t.Character 99) (Some (o 0 1 19))) (t.tree (t.list (t.tree (t.name (x.Written 0 (codes "unquote")) None) (t.tree (t.atom (t.Numeral (codes "2")) (Some (o 0 1 21))) t.no_trees)) t.proper (Some (o 0 1 20))) (t.tree (t.list (t.tree (t.name (x.Written 0 (codes "unquote-splicing")) None) (t.tree (t.name (x.Written 0 (codes "m")) (Some (o 0 1 23))) t.no_trees)) t.proper (Some (o 0 1 22))) t.no_trees))) (t.dotted (t.name (x.Written 0 (codes "t")) (Some (o 0 1 25)))) (Some (o 0 1 18))) t.no_trees)) t.proper (Some (o 0 1 17))) (t.tree (t.list (t.tree (t.name (x.Written 0 (codes "if")) (Some (o 0 1 28))) (t.tree (t.atom (t.Boolean true) (Some (o 0 1 29))) (t.tree (t.name (x.Written 0 (codes "m")) (Some (o 0 1 30))) (t.tree (t.name (x.Written 0 (codes "a")) (Some (o 0 1 31))) t.no_trees)))) t.proper (Some (o 0 1 27))) t.no_trees))))) t.proper (Some (o 0 1 4))) t.no_trees)) t.proper (Some (o 0 1 2))) (t.tree (t.name (x.Written 0 (codes "z")) (Some (o 0 1 35))) t.no_trees))) t.proper (Some (o 0 1 0))) ([]) 200000 ≡ Some (Ok (built (t.list (t.tree (t.name (x.Inserted (x.Written 0 (codes "set!")) (n 0 1 0)) (Some (o 0 0 44))) (t.tree (t.name (x.Inserted (x.Written 0 (codes "f")) (n 0 1 0)) (Some (o 0 0 45))) (t.tree (t.name (x.Inserted (x.Written 0 (codes "b")) (n 0 1 0)) (Some (o 0 0 46))) t.no_trees))) t.proper None) 4))
macros-126 = refl

pub macros-131 : build_row (t.list (t.tree (t.name (x.Written 0 (codes "syntax-rules")) (Some (o 0 0 1))) (t.tree (t.name (x.Written 0 (codes ":::")) (Some (o 0 0 2))) (t.tree (t.list t.no_trees t.proper (Some (o 0 0 3))) (t.tree (t.list (t.tree (t.list (t.tree (t.name (x.Written 0 (codes "_")) (Some (o 0 0 7))) (t.tree (t.name (x.Written 0 (codes "m")) (Some (o 0 0 8))) (t.tree (t.list (t.tree (t.name (x.Written 0 (codes "k")) (Some (o 0 0 10))) (t.tree (t.name (x.Written 0 (codes "b")) (Some (o 0 0 11))) t.no_trees)) t.proper (Some (o 0 0 9))) (t.tree (t.name (x.Written 0 (codes ":::")) (Some (o 0 0 13))) t.no_trees)))) t.proper (Some (o 0 0 6))) (t.tree (t.list (t.tree (t.name (x.Written 0 (codes "begin")) (Some (o 0 0 16))) (t.tree (t.list (t.tree (t.name (x.Written 0 (codes "define")) (Some (o 0 0 18))) (t.tree (t.name (x.Written 0 (codes "if")) (Some (o 0 0 19))) (t.tree (t.list (t.tree (t.name (x.Written 0 (codes "quote")) None) (t.tree (t.list (t.tree (t.name (x.Written 0 (codes "a")) (Some (o 0 0 22))) (t.tree (t.name (x.Written 0 (codes "b")) (Some (o 0 0 23))) (t.tree (t.name (x.Written 0 (codes ":::")) (Some (o 0 0 24))) t.no_trees))) t.proper (Some (o 0 0 21))) t.no_trees)) t.proper (Some (o 0 0 20))) t.no_trees))) t.proper (Some (o 0 0 17))) (t.tree (t.list (t.tree (t.name (x.Written 0 (codes "define")) (Some (o 0 0 28))) (t.tree (t.name (x.Written 0 (codes "m")) (Some (o 0 0 29))) (t.tree (t.name (x.Written 0 (codes "m")) (Some (o 0 0 30))) t.no_trees))) t.proper (Some (o 0 0 27))) t.no_trees))) t.proper (Some (o 0 0 15))) t.no_trees)) t.proper (Some (o 0 0 5))) t.no_trees)))) t.proper (Some (o 0 0 0))) (t.list (t.tree (t.name (x.Written 0 (codes "q")) (Some (o 0 1 1))) (t.tree (t.name (x.Written 0 (codes "m")) (Some (o 0 1 2))) t.no_trees)) t.proper (Some (o 0 1 0))) ([]) 200000 ≡ Some (Ok (built (t.list (t.tree (t.name (x.Inserted (x.Written 0 (codes "begin")) (n 0 1 0)) (Some (o 0 0 16))) (t.tree (t.list (t.tree (t.name (x.Inserted (x.Written 0 (codes "define")) (n 0 1 0)) (Some (o 0 0 18))) (t.tree (t.name (x.Inserted (x.Written 0 (codes "if")) (n 0 1 0)) (Some (o 0 0 19))) (t.tree (t.list (t.tree (t.name (x.Inserted (x.Written 0 (codes "quote")) (n 0 1 0)) None) (t.tree (t.list (t.tree (t.name (x.Inserted (x.Written 0 (codes "a")) (n 0 1 0)) (Some (o 0 0 22))) t.no_trees) t.proper None) t.no_trees)) t.proper None) t.no_trees))) t.proper None) (t.tree (t.list (t.tree (t.name (x.Inserted (x.Written 0 (codes "define")) (n 0 1 0)) (Some (o 0 0 28))) (t.tree (t.name (x.Written 0 (codes "m")) (Some (o 0 1 2))) (t.tree (t.name (x.Written 0 (codes "m")) (Some (o 0 1 2))) t.no_trees))) t.proper None) t.no_trees))) t.proper None) 13))
macros-131 = refl

pub macros-136 : rules_row (t.list (t.tree (t.name (x.Written 0 (codes "syntax-rules")) (Some (o 0 0 1))) (t.tree (t.list t.no_trees t.proper (Some (o 0 0 2))) (t.tree (t.list (t.tree (t.list (t.tree (t.name (x.Written 0 (codes "_")) (Some (o 0 0 6))) (t.tree (t.list (t.tree (t.name (x.Written 0 (codes "t")) (Some (o 0 0 8))) (t.tree (t.name (x.Written 0 (codes "f")) (Some (o 0 0 9))) (t.tree (t.name (x.Written 0 (codes "...")) (Some (o 0 0 10))) t.no_trees))) t.proper (Some (o 0 0 7))) (t.tree (t.name (x.Written 0 (codes "...")) (Some (o 0 0 12))) (t.tree (t.name (x.Written 0 (codes "g")) (Some (o 0 0 13))) t.no_trees)))) t.proper (Some (o 0 0 5))) (t.tree (t.list (t.tree (t.name (x.Written 0 (codes "define-syntax")) (Some (o 0 0 16))) (t.tree (t.name (x.Written 0 (codes "g")) (Some (o 0 0 17))) (t.tree (t.list (t.tree (t.name (x.Written 0 (codes "syntax-rules")) (Some (o 0 0 19))) (t.tree (t.list t.no_trees t.proper (Some (o 0 0 20))) (t.tree (t.list (t.tree (t.list (t.tree (t.name (x.Written 0 (codes "_")) (Some (o 0 0 24))) (t.tree (t.name (x.Written 0 (codes "x")) (Some (o 0 0 25))) (t.tree (t.list (t.tree (t.name (x.Written 0 (codes "...")) (Some (o 0 0 27))) (t.tree (t.name (x.Written 0 (codes "...")) (Some (o 0 0 28))) t.no_trees)) t.proper (Some (o 0 0 26))) t.no_trees))) t.proper (Some (o 0 0 23))) (t.tree (t.list (t.tree (t.name (x.Written 0 (codes "list")) (Some (o 0 0 32))) (t.tree (t.name (x.Written 0 (codes "x")) (Some (o 0 0 33))) (t.tree (t.list (t.tree (t.name (x.Written 0 (codes "...")) (Some (o 0 0 35))) (t.tree (t.name (x.Written 0 (codes "...")) (Some (o 0 0 36))) t.no_trees)) t.proper (Some (o 0 0 34))) (t.tree (t.name (x.Written 0 (codes "x")) (Some (o 0 0 38))) (t.tree (t.name (x.Written 0 (codes "y")) (Some (o 0 0 39))) t.no_trees))))) t.proper (Some (o 0 0 31))) t.no_trees)) t.proper (Some (o 0 0 22))) t.no_trees))) t.proper (Some (o 0 0 18))) t.no_trees))) t.proper (Some (o 0 0 15))) t.no_trees)) t.proper (Some (o 0 0 4))) t.no_trees))) t.proper (Some (o 0 0 0))) ≡ Ok (rs None ([]) ((u (t.tree (t.list (t.tree (t.name (x.Written 0 (codes "t")) (Some (o 0 0 8))) (t.tree (t.name (x.Written 0 (codes "f")) (Some (o 0 0 9))) (t.tree (t.name (x.Written 0 (codes "...")) (Some (o 0 0 10))) t.no_trees))) t.proper (Some (o 0 0 7))) (t.tree (t.name (x.Written 0 (codes "...")) (Some (o 0 0 12))) (t.tree (t.name (x.Written 0 (codes "g")) (Some (o 0 0 13))) t.no_trees))) t.proper (t.list (t.tree (t.name (x.Written 0 (codes "define-syntax")) (Some (o 0 0 16))) (t.tree (t.name (x.Written 0 (codes "g")) (Some (o 0 0 17))) (t.tree (t.list (t.tree (t.name (x.Written 0 (codes "syntax-rules")) (Some (o 0 0 19))) (t.tree (t.list t.no_trees t.proper (Some (o 0 0 20))) (t.tree (t.list (t.tree (t.list (t.tree (t.name (x.Written 0 (codes "_")) (Some (o 0 0 24))) (t.tree (t.name (x.Written 0 (codes "x")) (Some (o 0 0 25))) (t.tree (t.list (t.tree (t.name (x.Written 0 (codes "...")) (Some (o 0 0 27))) (t.tree (t.name (x.Written 0 (codes "...")) (Some (o 0 0 28))) t.no_trees)) t.proper (Some (o 0 0 26))) t.no_trees))) t.proper (Some (o 0 0 23))) (t.tree (t.list (t.tree (t.name (x.Written 0 (codes "list")) (Some (o 0 0 32))) (t.tree (t.name (x.Written 0 (codes "x")) (Some (o 0 0 33))) (t.tree (t.list (t.tree (t.name (x.Written 0 (codes "...")) (Some (o 0 0 35))) (t.tree (t.name (x.Written 0 (codes "...")) (Some (o 0 0 36))) t.no_trees)) t.proper (Some (o 0 0 34))) (t.tree (t.name (x.Written 0 (codes "x")) (Some (o 0 0 38))) (t.tree (t.name (x.Written 0 (codes "y")) (Some (o 0 0 39))) t.no_trees))))) t.proper (Some (o 0 0 31))) t.no_trees)) t.proper (Some (o 0 0 22))) t.no_trees))) t.proper (Some (o 0 0 18))) t.no_trees))) t.proper (Some (o 0 0 15)))) ∷ []))
macros-136 = refl

pub macros-141 : match_row (t.list (t.tree (t.name (x.Written 0 (codes "syntax-rules")) (Some (o 0 0 1))) (t.tree (t.list t.no_trees t.proper (Some (o 0 0 2))) (t.tree (t.list (t.tree (t.list (t.tree (t.name (x.Written 0 (codes "_")) (Some (o 0 0 6))) t.no_trees) t.proper (Some (o 0 0 5))) (t.tree (t.list (t.tree (t.name (x.Written 0 (codes "define-syntax")) (Some (o 0 0 9))) (t.tree (t.name (x.Written 0 (codes "a")) (Some (o 0 0 10))) (t.tree (t.list (t.tree (t.name (x.Written 0 (codes "syntax-rules")) (Some (o 0 0 12))) (t.tree (t.list t.no_trees t.proper (Some (o 0 0 13))) (t.tree (t.list (t.tree (t.list (t.tree (t.name (x.Written 0 (codes "_")) (Some (o 0 0 17))) (t.tree (t.name (x.Written 0 (codes "x")) (Some (o 0 0 18))) t.no_trees)) t.proper (Some (o 0 0 16))) (t.tree (t.list (t.tree (t.name (x.Written 0 (codes "list")) (Some (o 0 0 21))) (t.tree (t.name (x.Written 0 (codes "x")) (Some (o 0 0 22))) (t.tree (t.name (x.Written 0 (codes "t")) (Some (o 0 0 23))) (t.tree (t.name (x.Written 0 (codes "x")) (Some (o 0 0 24))) t.no_trees)))) t.proper (Some (o 0 0 20))) t.no_trees)) t.proper (Some (o 0 0 15))) t.no_trees))) t.proper (Some (o 0 0 11))) t.no_trees))) t.proper (Some (o 0 0 8))) t.no_trees)) t.proper (Some (o 0 0 4))) t.no_trees))) t.proper (Some (o 0 0 0))) (t.list (t.tree (t.name (x.Written 0 (codes "a")) (Some (o 0 1 1))) t.no_trees) t.proper (Some (o 0 1 0))) ([]) ≡ Some (c (u t.no_trees t.proper (t.list (t.tree (t.name (x.Written 0 (codes "define-syntax")) (Some (o 0 0 9))) (t.tree (t.name (x.Written 0 (codes "a")) (Some (o 0 0 10))) (t.tree (t.list (t.tree (t.name (x.Written 0 (codes "syntax-rules")) (Some (o 0 0 12))) (t.tree (t.list t.no_trees t.proper (Some (o 0 0 13))) (t.tree (t.list (t.tree (t.list (t.tree (t.name (x.Written 0 (codes "_")) (Some (o 0 0 17))) (t.tree (t.name (x.Written 0 (codes "x")) (Some (o 0 0 18))) t.no_trees)) t.proper (Some (o 0 0 16))) (t.tree (t.list (t.tree (t.name (x.Written 0 (codes "list")) (Some (o 0 0 21))) (t.tree (t.name (x.Written 0 (codes "x")) (Some (o 0 0 22))) (t.tree (t.name (x.Written 0 (codes "t")) (Some (o 0 0 23))) (t.tree (t.name (x.Written 0 (codes "x")) (Some (o 0 0 24))) t.no_trees)))) t.proper (Some (o 0 0 20))) t.no_trees)) t.proper (Some (o 0 0 15))) t.no_trees))) t.proper (Some (o 0 0 11))) t.no_trees))) t.proper (Some (o 0 0 8)))) ([]) ([]))
macros-141 = refl

pub macros-146 : match_row (t.list (t.tree (t.name (x.Written 0 (codes "syntax-rules")) (Some (o 0 0 1))) (t.tree (t.list t.no_trees t.proper (Some (o 0 0 2))) (t.tree (t.list (t.tree (t.list (t.tree (t.name (x.Written 0 (codes "_")) (Some (o 0 0 6))) (t.tree (t.name (x.Written 0 (codes "q")) (Some (o 0 0 7))) (t.tree (t.name (x.Written 0 (codes "...")) (Some (o 0 0 8))) t.no_trees))) t.proper (Some (o 0 0 5))) (t.tree (t.name (x.Written 0 (codes "tmp")) (Some (o 0 0 10))) t.no_trees)) t.proper (Some (o 0 0 4))) t.no_trees))) t.proper (Some (o 0 0 0))) (t.list (t.tree (t.name (x.Written 0 (codes "a b")) (Some (o 0 1 1))) t.no_trees) t.proper (Some (o 0 1 0))) ([]) ≡ Some (c (u (t.tree (t.name (x.Written 0 (codes "q")) (Some (o 0 0 7))) (t.tree (t.name (x.Written 0 (codes "...")) (Some (o 0 0 8))) t.no_trees)) t.proper (t.name (x.Written 0 (codes "tmp")) (Some (o 0 0 10)))) ((b (x.Written 0 (codes "q")) (v.Many v.no_values)) ∷ []) ([]))
macros-146 = refl

pub macros-151 : build_row (t.list (t.tree (t.name (x.Written 0 (codes "syntax-rules")) (Some (o 0 0 1))) (t.tree (t.list t.no_trees t.proper (Some (o 0 0 2))) (t.tree (t.list (t.tree (t.list (t.tree (t.name (x.Written 0 (codes "_")) (Some (o 0 0 6))) (t.tree (t.name (x.Written 0 (codes "q")) (Some (o 0 0 7))) (t.tree (t.list (t.tree (t.name (x.Written 0 (codes "tmp")) (Some (o 0 0 9))) (t.tree (t.name (x.Written 0 (codes "x")) (Some (o 0 0 10))) t.no_trees)) t.proper (Some (o 0 0 8))) (t.tree (t.list (t.tree (t.name (x.Written 0 (codes "k")) (Some (o 0 0 13))) (t.tree (t.name (x.Written 0 (codes "g")) (Some (o 0 0 14))) t.no_trees)) t.proper (Some (o 0 0 12))) t.no_trees)))) t.proper (Some (o 0 0 5))) (t.tree (t.name (x.Written 0 (codes "x")) (Some (o 0 0 17))) t.no_trees)) t.proper (Some (o 0 0 4))) (t.tree (t.list (t.tree (t.list (t.tree (t.name (x.Written 0 (codes "_")) (Some (o 0 0 21))) t.no_trees) (t.dotted (t.name (x.Written 0 (codes "rest")) (Some (o 0 0 23)))) (Some (o 0 0 20))) (t.tree (t.list (t.tree (t.name (x.Written 0 (codes "list")) (Some (o 0 0 26))) (t.tree (t.name (x.Written 0 (codes "y")) (Some (o 0 0 27))) (t.tree (t.name (x.Written 0 (codes "y")) (Some (o 0 0 28))) t.no_trees))) t.proper (Some (o 0 0 25))) t.no_trees)) t.proper (Some (o 0 0 19))) t.no_trees)))) t.proper (Some (o 0 0 0))) (t.list (t.tree (t.name (x.Written 0 (codes "m")) (Some (o 0 1 1))) (t.tree (t.list (t.tree (t.name (x.Written 0 (codes "m")) (Some (o 0 1 3))) (t.tree (t.name (x.Written 0 (codes "tmp")) (Some (o 0 1 4))) (t.tree (t.list (t.tree (t.name (x.Written 0 (codes "t")) (Some (o 0 1 6))) (t.tree (t.name (x.Written 0 (codes "m")) (Some (o 0 1 7))) t.no_trees)) t.proper (Some (o 0 1 5))) (t.tree (t.list (t.tree (t.name (x.Written 0 (codes "tmp")) (Some (o 0 1 10))) (t.tree (t.list (t.tree (t.name (x.Written 0 (codes "m")) (Some (o 0 1 12))) (t.tree (t.name (x.Written 0 (codes "g")) (Some (o 0 1 13))) (t.tree (t.list (t.tree (t.name (x.Written 0 (codes "b")) (Some (o 0 1 15))) (t.tree (t.name (x.Written 0 (codes "t")) (Some (o 0 1 16))) t.no_trees)) t.proper (Some (o 0 1 14))) (t.tree (t.list (t.tree (t.name (x.Written 0 (codes "f")) (Some (o 0 1 19))) (t.tree (t.name (x.Written 0 (codes "t")) (Some (o 0 1 20))) t.no_trees)) t.proper (Some (o 0 1 18))) t.no_trees)))) t.proper (Some (o 0 1 11))) t.no_trees)) t.proper (Some (o 0 1 9))) t.no_trees)))) t.proper (Some (o 0 1 2))) (t.tree (t.list (t.tree (t.name (x.Written 0 (codes "a")) (Some (o 0 1 26))) (t.tree (t.atom (t.Numeral (codes "1")) (Some (o 0 1 27))) t.no_trees)) t.proper (Some (o 0 1 25))) (t.tree (t.list (t.tree (t.name (x.Written 0 (codes "f")) (Some (o 0 1 30))) (t.tree (t.list (t.tree (t.name (x.Written 0 (codes "x")) (Some (o 0 1 32))) (t.tree (t.name (x.Written 0 (codes "k")) (Some (o 0 1 33))) (t.tree (t.list (t.tree (t.name (x.Written 0 (codes "x")) (Some (o 0 1 35))) (t.tree (t.name (x.Written 0 (codes "f")) (Some (o 0 1 36))) (t.tree (t.name (x.Written 0 (codes "n")) (Some (o 0 1 37))) (t.tree (t.name (x.Written 0 (codes "f")) (Some (o 0 1 38))) t.no_trees)))) t.proper (Some (o 0 1 34))) (t.tree (t.name (x.Written 0 (codes "tmp")) (Some (o 0 1 40))) t.no_trees)))) t.proper (Some (o 0 1 31))) t.no_trees)) t.proper (Some (o 0 1 29))) t.no_trees)))) t.proper (Some (o 0 1 0))) ([]) 200000 ≡ Some (Ok (built (t.atom (t.Numeral (codes "1")) (Some (o 0 1 27))) 1))
macros-151 = refl

pub macros-156 : build_row (t.list (t.tree (t.name (x.Written 0 (codes "syntax-rules")) (Some (o 0 0 1))) (t.tree (t.list t.no_trees t.proper (Some (o 0 0 2))) (t.tree (t.list (t.tree (t.list (t.tree (t.name (x.Written 0 (codes "_")) (Some (o 0 0 6))) t.no_trees) t.proper (Some (o 0 0 5))) (t.tree (t.name (x.Written 0 (codes "a")) (Some (o 0 0 8))) t.no_trees)) t.proper (Some (o 0 0 4))) t.no_trees))) t.proper (Some (o 0 0 0))) (t.list (t.tree (t.name (x.Written 0 (codes "y")) (Some (o 0 1 1))) t.no_trees) t.proper (Some (o 0 1 0))) ([]) 200000 ≡ Some (Ok (built (t.name (x.Inserted (x.Written 0 (codes "a")) (n 0 1 0)) (Some (o 0 0 8))) 1))
macros-156 = refl

pub macros-161 : build_row (t.list (t.tree (t.name (x.Written 0 (codes "syntax-rules")) (Some (o 0 0 1))) (t.tree (t.list (t.tree (t.name (x.Written 0 (codes "in")) (Some (o 0 0 3))) t.no_trees) t.proper (Some (o 0 0 2))) (t.tree (t.list (t.tree (t.list (t.tree (t.name (x.Written 0 (codes "_")) (Some (o 0 0 7))) (t.tree (t.name (x.Written 0 (codes "in")) (Some (o 0 0 8))) t.no_trees)) t.proper (Some (o 0 0 6))) (t.tree (t.list (t.tree (t.name (x.Written 0 (codes "begin")) (Some (o 0 0 11))) (t.tree (t.list (t.tree (t.name (x.Written 0 (codes "define")) (Some (o 0 0 13))) (t.tree (t.name (x.Written 0 (codes "=>")) (Some (o 0 0 14))) (t.tree (t.list (t.tree (t.name (x.Written 0 (codes "quote")) None) (t.tree (t.list (t.tree (t.name (x.Written 0 (codes "x")) (Some (o 0 0 17))) (t.tree (t.name (x.Written 0 (codes "t")) (Some (o 0 0 18))) t.no_trees)) t.proper (Some (o 0 0 16))) t.no_trees)) t.proper (Some (o 0 0 15))) t.no_trees))) t.proper (Some (o 0 0 12))) (t.tree (t.list (t.tree (t.name (x.Written 0 (codes "define")) (Some (o 0 0 22))) (t.tree (t.name (x.Written 0 (codes "y")) (Some (o 0 0 23))) (t.tree (t.list (t.tree (t.name (x.Written 0 (codes "set!")) (Some (o 0 0 25))) (t.tree (t.name (x.Written 0 (codes "t")) (Some (o 0 0 26))) (t.tree (t.name (x.Written 0 (codes "y")) (Some (o 0 0 27))) t.no_trees))) t.proper (Some (o 0 0 24))) t.no_trees))) t.proper (Some (o 0 0 21))) t.no_trees))) t.proper (Some (o 0 0 10))) t.no_trees)) t.proper (Some (o 0 0 5))) t.no_trees))) t.proper (Some (o 0 0 0))) (t.list (t.tree (t.name (x.Written 0 (codes "y")) (Some (o 0 1 1))) (t.tree (t.name (x.Written 0 (codes "in")) (Some (o 0 1 2))) t.no_trees)) t.proper (Some (o 0 1 0))) (((x.Written 0 (codes "in")), (x.Written 0 (codes "in"))) ∷ []) 200000 ≡ Some (Ok (built (t.list (t.tree (t.name (x.Inserted (x.Written 0 (codes "begin")) (n 0 1 0)) (Some (o 0 0 11))) (t.tree (t.list (t.tree (t.name (x.Inserted (x.Written 0 (codes "define")) (n 0 1 0)) (Some (o 0 0 13))) (t.tree (t.name (x.Inserted (x.Written 0 (codes "=>")) (n 0 1 0)) (Some (o 0 0 14))) (t.tree (t.list (t.tree (t.name (x.Inserted (x.Written 0 (codes "quote")) (n 0 1 0)) None) (t.tree (t.list (t.tree (t.name (x.Inserted (x.Written 0 (codes "x")) (n 0 1 0)) (Some (o 0 0 17))) (t.tree (t.name (x.Inserted (x.Written 0 (codes "t")) (n 0 1 0)) (Some (o 0 0 18))) t.no_trees)) t.proper None) t.no_trees)) t.proper None) t.no_trees))) t.proper None) (t.tree (t.list (t.tree (t.name (x.Inserted (x.Written 0 (codes "define")) (n 0 1 0)) (Some (o 0 0 22))) (t.tree (t.name (x.Inserted (x.Written 0 (codes "y")) (n 0 1 0)) (Some (o 0 0 23))) (t.tree (t.list (t.tree (t.name (x.Inserted (x.Written 0 (codes "set!")) (n 0 1 0)) (Some (o 0 0 25))) (t.tree (t.name (x.Inserted (x.Written 0 (codes "t")) (n 0 1 0)) (Some (o 0 0 26))) (t.tree (t.name (x.Inserted (x.Written 0 (codes "y")) (n 0 1 0)) (Some (o 0 0 27))) t.no_trees))) t.proper None) t.no_trees))) t.proper None) t.no_trees))) t.proper None) 17))
macros-161 = refl

pub macros-166 : build_row (t.list (t.tree (t.name (x.Written 0 (codes "syntax-rules")) (Some (o 0 0 1))) (t.tree (t.list t.no_trees t.proper (Some (o 0 0 2))) (t.tree (t.list (t.tree (t.list (t.tree (t.name (x.Written 0 (codes "_")) (Some (o 0 0 6))) t.no_trees) t.proper (Some (o 0 0 5))) (t.tree (t.list (t.tree (t.name (x.Written 0 (codes "set!")) (Some (o 0 0 9))) (t.tree (t.name (x.Written 0 (codes "g")) (Some (o 0 0 10))) (t.tree (t.name (x.Written 0 (codes "k")) (Some (o 0 0 11))) t.no_trees))) t.proper (Some (o 0 0 8))) t.no_trees)) t.proper (Some (o 0 0 4))) t.no_trees))) t.proper (Some (o 0 0 0))) (t.list (t.tree (t.name (x.Written 0 (codes "n")) (Some (o 0 1 1))) t.no_trees) t.proper (Some (o 0 1 0))) ([]) 200000 ≡ Some (Ok (built (t.list (t.tree (t.name (x.Inserted (x.Written 0 (codes "set!")) (n 0 1 0)) (Some (o 0 0 9))) (t.tree (t.name (x.Inserted (x.Written 0 (codes "g")) (n 0 1 0)) (Some (o 0 0 10))) (t.tree (t.name (x.Inserted (x.Written 0 (codes "k")) (n 0 1 0)) (Some (o 0 0 11))) t.no_trees))) t.proper None) 4))
macros-166 = refl
