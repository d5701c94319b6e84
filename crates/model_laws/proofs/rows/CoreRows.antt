-- Programs, and what their forms expand to, from outside.
-- Written by tests/definitions/rows; each row is checked by computing it.
use Rattle.std.specs.Prelude.{◌≡◌, ℕ, Bool, true, false, List, [], ◌∷◌, Option, Some, None, codes, refl}
use Rattle.scheme_model.specs.declared.Occ.{Occ}
use Rattle.scheme_model.specs.StandardNames.{base_names}
use Rattle.scheme_model.specs.Identifiers as i
use Rattle.scheme_model.specs.Identifiers.{Number}
use Rattle.scheme_model.specs.Ident as x
use Rattle.scheme_model.specs.Trees as t
use Rattle.scheme_model.specs.Meaning as m
use Rattle.scheme_model.specs.Cores as c
use Rattle.scheme_model.specs.Expression.{no_rules}
use Rattle.scheme_model.proofs.Shown.{hole, FaultRow, FormRow, program_rows}

abbrev o : ℕ → ℕ → ℕ → Occ
o unit form token = record { unit = unit; form = form; token = token }

abbrev n : ℕ → ℕ → ℕ → Number
n unit form count = record { unit = unit; form = form; count = count }

abbrev u : m.Meaning → x.Ident → Option Occ → c.Target
u meaning ident occ = record { meaning = meaning; ident = ident; occ = occ }

abbrev b : c.Bound → x.Ident → Option Occ → c.Binder
b bound ident occ = record { bound = bound; ident = ident; occ = occ }

abbrev bs : List c.Binder → Bool → c.Binders
bs names rest = record { names = names; rest = rest }

abbrev l : c.Target → Bool → c.RuleLeaf
l target literal = record { target = target; literal = literal }

abbrev d : c.Binder → List c.RuleLeaf → c.MacroDef
d binder leaves = record { binder = binder; rules = no_rules; leaves = leaves }

abbrev f : ℕ → Option Occ → c.FieldUse
f field occ = record { field = field; occ = occ }

abbrev r : List c.Binder → List c.Binder → List ℕ → List c.FieldUse → c.RecordType
r binders fields modified used = record { binders = binders; fields = fields; modified = modified; used = used }

abbrev w : c.Parts → ℕ → ℕ → Option FaultRow → List c.Target → FormRow
w items uses nodes fault keywords = record { items = items; uses = uses; nodes = nodes; fault = fault; keywords = keywords }

abbrev e : ℕ → Option Occ → List ℕ → Option FaultRow
e code at symbol = Some (record { code = code; at = at; symbol = symbol })

pub macros-14 : program_rows true 1 (((t.list (t.tree (t.name (i.Written 0 (codes "letrec-syntax")) (Some (o 0 1 1))) (t.tree (t.list (t.tree (t.list (t.tree (t.name (i.Written 0 (codes "k")) (Some (o 0 1 4))) (t.tree (t.list (t.tree (t.name (i.Written 0 (codes "syntax-rules")) (Some (o 0 1 6))) (t.tree (t.name (i.Written 0 (codes ":::")) (Some (o 0 1 7))) (t.tree (t.list t.no_trees t.proper (Some (o 0 1 8))) (t.tree (t.list (t.tree (t.list (t.tree (t.name (i.Written 0 (codes "_")) (Some (o 0 1 12))) t.no_trees) t.proper (Some (o 0 1 11))) (t.tree (t.list (t.tree (t.name (i.Written 0 (codes "quote")) None) (t.tree (t.list (t.tree (t.name (i.Written 0 (codes "t")) (Some (o 0 1 16))) (t.tree (t.name (i.Written 0 (codes "f")) (Some (o 0 1 17))) t.no_trees)) t.proper (Some (o 0 1 15))) t.no_trees)) t.proper (Some (o 0 1 14))) t.no_trees)) t.proper (Some (o 0 1 10))) t.no_trees)))) t.proper (Some (o 0 1 5))) t.no_trees)) t.proper (Some (o 0 1 3))) t.no_trees) t.proper (Some (o 0 1 2))) (t.tree (t.list (t.tree (t.name (i.Written 0 (codes "q")) (Some (o 0 1 24))) t.no_trees) t.proper (Some (o 0 1 23))) (t.tree (t.list (t.tree (t.name (i.Written 0 (codes "lambda")) (Some (o 0 1 27))) (t.tree (t.list (t.tree (t.name (i.Written 0 (codes "g")) (Some (o 0 1 29))) (t.tree (t.name (i.Written 0 (codes "t")) (Some (o 0 1 30))) t.no_trees)) t.proper (Some (o 0 1 28))) (t.tree (t.list (t.tree (t.name (i.Written 0 (codes "set!")) (Some (o 0 1 33))) (t.tree (t.name (i.Written 0 (codes "n")) (Some (o 0 1 34))) (t.tree (t.name (i.Written 0 (codes "m")) (Some (o 0 1 35))) t.no_trees))) t.proper (Some (o 0 1 32))) t.no_trees))) t.proper (Some (o 0 1 26))) t.no_trees)))) t.proper (Some (o 0 1 0)))) ∷ ((t.list (t.tree (t.name (i.Written 0 (codes "define")) (Some (o 0 2 1))) (t.tree (t.name (i.Written 0 (codes "m")) (Some (o 0 2 2))) (t.tree (t.list (t.tree (t.name (i.Written 0 (codes "quote")) None) (t.tree (t.name (i.Written 0 (codes "car")) (Some (o 0 2 4))) t.no_trees)) t.proper (Some (o 0 2 3))) t.no_trees))) t.proper (Some (o 0 2 0)))) ∷ []) ≡ ((w (c.part (c.Expression (c.LetSyntax (((d (b (c.LocalNumber (n 0 1 0)) (x.Written 0 (codes "k")) (Some (o 0 1 4))) ((l (u (m.Standard (codes "quote")) (x.Written 0 (codes "quote")) None) false) ∷ (l (u (m.Free (codes "t")) (x.Written 0 (codes "t")) (Some (o 0 1 16))) false) ∷ (l (u (m.Free (codes "f")) (x.Written 0 (codes "f")) (Some (o 0 1 17))) false) ∷ []))) ∷ []) (c.Body (c.part (c.Expression (c.Call (c.core (c.Ref (u (m.Free (codes "q")) (x.Written 0 (codes "q")) (Some (o 0 1 24)))) c.no_cores))) (c.part (c.Expression (c.Lambda (bs (((b (c.LocalNumber (n 0 1 1)) (x.Written 0 (codes "g")) (Some (o 0 1 29)))) ∷ ((b (c.LocalNumber (n 0 1 2)) (x.Written 0 (codes "t")) (Some (o 0 1 30)))) ∷ []) false) (c.Body (c.part (c.Expression (c.Set (u (m.Free (codes "n")) (x.Written 0 (codes "n")) (Some (o 0 1 34))) (c.Ref (u (m.Global 0 (x.Written 0 (codes "m"))) (x.Written 0 (codes "m")) (Some (o 0 1 35)))))) c.no_parts)))) c.no_parts))))) c.no_parts) 0 20 None (((u (m.Standard (codes "letrec-syntax")) (x.Written 0 (codes "letrec-syntax")) (Some (o 0 1 1)))) ∷ ((u (m.Standard (codes "lambda")) (x.Written 0 (codes "lambda")) (Some (o 0 1 27)))) ∷ ((u (m.Standard (codes "set!")) (x.Written 0 (codes "set!")) (Some (o 0 1 33)))) ∷ [])) ∷ (w (c.part (c.Define (b (c.Definition 0 0) (x.Written 0 (codes "m")) (Some (o 0 2 2))) (c.Quote (t.name (codes "car") (Some (o 0 2 4))))) c.no_parts) 0 2 None (((u (m.Standard (codes "define")) (x.Written 0 (codes "define")) (Some (o 0 2 1)))) ∷ ((u (m.Standard (codes "quote")) (x.Written 0 (codes "quote")) None)) ∷ [])) ∷ [])
unfolding base_names
macros-14 = refl

pub macros-24 : program_rows false 0 (((t.list (t.tree (t.name (i.Written 0 (codes "define")) (Some (o 0 0 1))) (t.tree (t.name (i.Written 0 (codes "t")) (Some (o 0 0 2))) (t.tree (t.list (t.tree (t.name (i.Written 0 (codes "quote")) None) (t.tree (t.name (i.Written 0 (codes "x")) (Some (o 0 0 4))) t.no_trees)) t.proper (Some (o 0 0 3))) t.no_trees))) t.proper (Some (o 0 0 0)))) ∷ ((t.list (t.tree (t.name (i.Written 0 (codes "define")) (Some (o 0 1 1))) (t.tree (t.name (i.Written 0 (codes "t")) (Some (o 0 1 2))) (t.tree (t.name (i.Written 0 (codes "t")) (Some (o 0 1 3))) t.no_trees))) t.proper (Some (o 0 1 0)))) ∷ ((t.list (t.tree (t.name (i.Written 0 (codes "define-record-type")) (Some (o 0 2 1))) (t.tree (t.name (i.Written 0 (codes "x")) (Some (o 0 2 2))) (t.tree (t.list (t.tree (t.name (i.Written 0 (codes "make")) (Some (o 0 2 4))) (t.tree (t.name (i.Written 0 (codes "y")) (Some (o 0 2 5))) t.no_trees)) t.proper (Some (o 0 2 3))) (t.tree (t.name (i.Written 0 (codes "x?")) (Some (o 0 2 7))) (t.tree (t.list (t.tree (t.name (i.Written 0 (codes "y")) (Some (o 0 2 9))) (t.tree (t.name (i.Written 0 (codes "y-x")) (Some (o 0 2 10))) t.no_trees)) t.proper (Some (o 0 2 8))) (t.tree (t.list (t.tree (t.name (i.Written 0 (codes "t")) (Some (o 0 2 13))) (t.tree (t.name (i.Written 0 (codes "t-y")) (Some (o 0 2 14))) (t.tree (t.name (i.Written 0 (codes "set-t!")) (Some (o 0 2 15))) t.no_trees))) t.proper (Some (o 0 2 12))) t.no_trees)))))) t.proper (Some (o 0 2 0)))) ∷ ((t.list (t.tree (t.name (i.Written 0 (codes "define-syntax")) (Some (o 0 3 1))) (t.tree (t.name (i.Written 0 (codes "x")) (Some (o 0 3 2))) (t.tree (t.list (t.tree (t.name (i.Written 0 (codes "syntax-rules")) (Some (o 0 3 4))) (t.tree (t.list t.no_trees t.proper (Some (o 0 3 5))) (t.tree (t.list (t.tree (t.list (t.tree (t.name (i.Written 0 (codes "_")) (Some (o 0 3 9))) (t.tree (t.list (t.tree (t.name (i.Written 0 (codes "b")) (Some (o 0 3 11))) (t.tree (t.name (i.Written 0 (codes "tmp")) (Some (o 0 3 12))) t.no_trees)) t.proper (Some (o 0 3 10))) (t.tree (t.name (i.Written 0 (codes "...")) (Some (o 0 3 14))) (t.tree (t.name (i.Written 0 (codes "a")) (Some (o 0 3 15))) (t.tree (t.name (i.Written 0 (codes "g")) (Some (o 0 3 16))) t.no_trees))))) t.proper (Some (o 0 3 8))) (t.tree (t.list (t.tree (t.name (i.Written 0 (codes "begin")) (Some (o 0 3 19))) (t.tree (t.list (t.tree (t.name (i.Written 0 (codes "define")) (Some (o 0 3 21))) (t.tree (t.name (i.Written 0 (codes "a")) (Some (o 0 3 22))) (t.tree (t.list (t.tree (t.name (i.Written 0 (codes "if")) (Some (o 0 3 24))) (t.tree (t.name (i.Written 0 (codes "a")) (Some (o 0 3 25))) (t.tree (t.name (i.Written 0 (codes "a")) (Some (o 0 3 26))) (t.tree (t.name (i.Written 0 (codes "a")) (Some (o 0 3 27))) t.no_trees)))) t.proper (Some (o 0 3 23))) t.no_trees))) t.proper (Some (o 0 3 20))) (t.tree (t.list (t.tree (t.name (i.Written 0 (codes "define")) (Some (o 0 3 31))) (t.tree (t.name (i.Written 0 (codes "...")) (Some (o 0 3 32))) (t.tree (t.list (t.tree (t.name (i.Written 0 (codes "quote")) None) (t.tree (t.list (t.tree (t.name (i.Written 0 (codes "a")) (Some (o 0 3 35))) (t.tree (t.list (t.tree (t.name (i.Written 0 (codes "tmp")) (Some (o 0 3 37))) (t.tree (t.name (i.Written 0 (codes "b")) (Some (o 0 3 38))) t.no_trees)) t.proper (Some (o 0 3 36))) (t.tree (t.name (i.Written 0 (codes "...")) (Some (o 0 3 40))) t.no_trees))) t.proper (Some (o 0 3 34))) t.no_trees)) t.proper (Some (o 0 3 33))) t.no_trees))) t.proper (Some (o 0 3 30))) t.no_trees))) t.proper (Some (o 0 3 18))) t.no_trees)) t.proper (Some (o 0 3 7))) (t.tree (t.list (t.tree (t.list (t.tree (t.name (i.Written 0 (codes "_")) (Some (o 0 3 47))) t.no_trees) (t.dotted (t.name (i.Written 0 (codes "rest")) (Some (o 0 3 49)))) (Some (o 0 3 46))) (t.tree (t.list (t.tree (t.name (i.Written 0 (codes "set!")) (Some (o 0 3 52))) (t.tree (t.name (i.Written 0 (codes "t")) (Some (o 0 3 53))) (t.tree (t.name (i.Written 0 (codes "x")) (Some (o 0 3 54))) t.no_trees))) t.proper (Some (o 0 3 51))) t.no_trees)) t.proper (Some (o 0 3 45))) (t.tree (t.list (t.tree (t.list (t.tree (t.name (i.Written 0 (codes "_")) (Some (o 0 3 59))) (t.tree (t.name (i.Written 0 (codes "x")) (Some (o 0 3 60))) (t.tree (t.name (i.Written 0 (codes "x")) (Some (o 0 3 61))) t.no_trees))) t.proper (Some (o 0 3 58))) (t.tree (t.name (i.Written 0 (codes "y")) (Some (o 0 3 63))) t.no_trees)) t.proper (Some (o 0 3 57))) t.no_trees))))) t.proper (Some (o 0 3 3))) t.no_trees))) t.proper (Some (o 0 3 0)))) ∷ ((t.list (t.tree (t.name (i.Written 0 (codes "cond-expand")) (Some (o 0 4 1))) (t.tree (t.list (t.tree (t.list (t.tree (t.name (i.Written 0 (codes "not")) (Some (o 0 4 4))) (t.tree (t.name (i.Written 0 (codes "r7rs")) (Some (o 0 4 5))) t.no_trees)) t.proper (Some (o 0 4 3))) (t.tree (t.list (t.tree (t.name (i.Written 0 (codes "x")) (Some (o 0 4 8))) (t.tree (t.list (t.tree (t.name (i.Written 0 (codes "x")) (Some (o 0 4 10))) (t.tree (t.atom (t.Numeral (codes "2")) (Some (o 0 4 11))) (t.tree (t.atom (t.Numeral (codes "1")) (Some (o 0 4 12))) t.no_trees))) t.proper (Some (o 0 4 9))) (t.tree (t.list (t.tree (t.name (i.Written 0 (codes "y")) (Some (o 0 4 15))) t.no_trees) t.proper (Some (o 0 4 14))) t.no_trees))) t.proper (Some (o 0 4 7))) t.no_trees)) t.proper (Some (o 0 4 2))) (t.tree (t.list (t.tree (t.name (i.Written 0 (codes "else")) (Some (o 0 4 20))) (t.tree (t.name (i.Written 0 (codes "t")) (Some (o 0 4 21))) (t.tree (t.list (t.tree (t.name (i.Written 0 (codes "x")) (Some (o 0 4 23))) (t.tree (t.list (t.tree (t.name (i.Written 0 (codes "t")) (Some (o 0 4 25))) (t.tree (t.name (i.Written 0 (codes "t")) (Some (o 0 4 26))) t.no_trees)) t.proper (Some (o 0 4 24))) (t.tree (t.list (t.tree (t.name (i.Written 0 (codes "x")) (Some (o 0 4 29))) (t.tree (t.list (t.tree (t.name (i.Written 0 (codes "x")) (Some (o 0 4 31))) (t.tree (t.atom (t.Numeral (codes "2")) (Some (o 0 4 32))) t.no_trees)) t.proper (Some (o 0 4 30))) (t.tree (t.list (t.tree (t.name (i.Written 0 (codes "y")) (Some (o 0 4 35))) (t.tree (t.name (i.Written 0 (codes "x")) (Some (o 0 4 36))) t.no_trees)) t.proper (Some (o 0 4 34))) (t.tree (t.name (i.Written 0 (codes "x")) (Some (o 0 4 38))) (t.tree (t.atom (t.Boolean true) (Some (o 0 4 39))) t.no_trees))))) t.proper (Some (o 0 4 28))) (t.tree (t.list (t.tree (t.name (i.Written 0 (codes "quasiquote")) None) (t.tree (t.list (t.tree (t.name (i.Written 0 (codes "t")) (Some (o 0 4 43))) (t.tree (t.list (t.tree (t.name (i.Written 0 (codes "unquote")) None) (t.tree (t.name (i.Written 0 (codes "y")) (Some (o 0 4 45))) t.no_trees)) t.proper (Some (o 0 4 44))) (t.tree (t.list (t.tree (t.name (i.Written 0 (codes "unquote-splicing")) None) (t.tree (t.name (i.Written 0 (codes "y")) (Some (o 0 4 47))) t.no_trees)) t.proper (Some (o 0 4 46))) t.no_trees))) (t.dotted (t.name (i.Written 0 (codes "y")) (Some (o 0 4 49)))) (Some (o 0 4 42))) t.no_trees)) t.proper (Some (o 0 4 41))) t.no_trees)))) t.proper (Some (o 0 4 22))) t.no_trees))) t.proper (Some (o 0 4 19))) t.no_trees))) t.proper (Some (o 0 4 0)))) ∷ []) ≡ ((w (c.part (c.Define (b (c.Definition 0 0) (x.Written 0 (codes "t")) (Some (o 0 0 2))) (c.Quote (t.name (codes "x") (Some (o 0 0 4))))) c.no_parts) 0 2 None (((u (m.Standard (codes "define")) (x.Written 0 (codes "define")) (Some (o 0 0 1)))) ∷ ((u (m.Standard (codes "quote")) (x.Written 0 (codes "quote")) None)) ∷ [])) ∷ (w (c.part (c.Expression (c.Set (u (m.Global 0 (x.Written 0 (codes "t"))) (x.Written 0 (codes "t")) (Some (o 0 1 2))) (c.Ref (u (m.Global 0 (x.Written 0 (codes "t"))) (x.Written 0 (codes "t")) (Some (o 0 1 3)))))) c.no_parts) 0 2 None (((u (m.Standard (codes "define")) (x.Written 0 (codes "define")) (Some (o 0 1 1)))) ∷ [])) ∷ (w (c.part (c.Fields (r (((b (c.Definition 0 1) (x.Written 0 (codes "x")) (Some (o 0 2 2)))) ∷ ((b (c.Definition 0 2) (x.Written 0 (codes "make")) (Some (o 0 2 4)))) ∷ ((b (c.Definition 0 3) (x.Written 0 (codes "x?")) (Some (o 0 2 7)))) ∷ ((b (c.Definition 0 4) (x.Written 0 (codes "y-x")) (Some (o 0 2 10)))) ∷ ((b (c.Definition 0 5) (x.Written 0 (codes "t-y")) (Some (o 0 2 14)))) ∷ ((b (c.Definition 0 6) (x.Written 0 (codes "set-t!")) (Some (o 0 2 15)))) ∷ []) (((b (c.LocalNumber (n 0 2 0)) (x.Written 0 (codes "y")) (Some (o 0 2 9)))) ∷ ((b (c.LocalNumber (n 0 2 1)) (x.Written 0 (codes "t")) (Some (o 0 2 13)))) ∷ []) ((1) ∷ []) ((f 0 (Some (o 0 2 5))) ∷ []))) c.no_parts) 0 0 None (((u (m.Standard (codes "define-record-type")) (x.Written 0 (codes "define-record-type")) (Some (o 0 2 1)))) ∷ [])) ∷ (w c.no_parts 0 47 (e 25 (Some (o 0 3 0)) []) ([])) ∷ (w (c.part (c.Expression (c.Ref (u (m.Global 0 (x.Written 0 (codes "t"))) (x.Written 0 (codes "t")) (Some (o 0 4 21))))) (c.part (c.Expression (c.Call (c.core (c.Ref (u (m.Global 0 (x.Written 0 (codes "x"))) (x.Written 0 (codes "x")) (Some (o 0 4 23)))) (c.core (c.Call (c.core (c.Ref (u (m.Global 0 (x.Written 0 (codes "t"))) (x.Written 0 (codes "t")) (Some (o 0 4 25)))) (c.core (c.Ref (u (m.Global 0 (x.Written 0 (codes "t"))) (x.Written 0 (codes "t")) (Some (o 0 4 26)))) c.no_cores))) (c.core (c.Call (c.core (c.Ref (u (m.Global 0 (x.Written 0 (codes "x"))) (x.Written 0 (codes "x")) (Some (o 0 4 29)))) (c.core (c.Call (c.core (c.Ref (u (m.Global 0 (x.Written 0 (codes "x"))) (x.Written 0 (codes "x")) (Some (o 0 4 31)))) (c.core (c.Const (t.Numeral (codes "2"))) c.no_cores))) (c.core (c.Call (c.core (c.Ref (u (m.Free (codes "y")) (x.Written 0 (codes "y")) (Some (o 0 4 35)))) (c.core (c.Ref (u (m.Global 0 (x.Written 0 (codes "x"))) (x.Written 0 (codes "x")) (Some (o 0 4 36)))) c.no_cores))) (c.core (c.Ref (u (m.Global 0 (x.Written 0 (codes "x"))) (x.Written 0 (codes "x")) (Some (o 0 4 38)))) (c.core (c.Const (t.Boolean true)) c.no_cores)))))) (c.core (c.Quasi hole (c.core (c.Ref (u (m.Free (codes "y")) (x.Written 0 (codes "y")) (Some (o 0 4 45)))) (c.core (c.Ref (u (m.Free (codes "y")) (x.Written 0 (codes "y")) (Some (o 0 4 47)))) c.no_cores))) c.no_cores)))))) c.no_parts)) 0 29 None (((u (m.Standard (codes "cond-expand")) (x.Written 0 (codes "cond-expand")) (Some (o 0 4 1)))) ∷ ((u (m.Standard (codes "quasiquote")) (x.Written 0 (codes "quasiquote")) None)) ∷ [])) ∷ [])
unfolding base_names
macros-24 = refl

pub core-74 : program_rows false 0 (((t.list (t.tree (t.name (i.Written 0 (codes "define")) (Some (o 0 0 1))) (t.tree (t.name (i.Written 0 (codes "g")) (Some (o 0 0 2))) (t.tree (t.name (i.Written 0 (codes "m")) (Some (o 0 0 3))) t.no_trees))) t.proper (Some (o 0 0 0)))) ∷ ((t.list (t.tree (t.name (i.Written 0 (codes "define")) (Some (o 0 1 1))) (t.tree (t.name (i.Written 0 (codes "k")) (Some (o 0 1 2))) (t.tree (t.name (i.Written 0 (codes "t")) (Some (o 0 1 3))) t.no_trees))) t.proper (Some (o 0 1 0)))) ∷ []) ≡ ((w (c.part (c.Define (b (c.Definition 0 0) (x.Written 0 (codes "g")) (Some (o 0 0 2))) (c.Ref (u (m.Free (codes "m")) (x.Written 0 (codes "m")) (Some (o 0 0 3))))) c.no_parts) 0 1 None (((u (m.Standard (codes "define")) (x.Written 0 (codes "define")) (Some (o 0 0 1)))) ∷ [])) ∷ (w (c.part (c.Define (b (c.Definition 0 1) (x.Written 0 (codes "k")) (Some (o 0 1 2))) (c.Ref (u (m.Free (codes "t")) (x.Written 0 (codes "t")) (Some (o 0 1 3))))) c.no_parts) 0 1 None (((u (m.Standard (codes "define")) (x.Written 0 (codes "define")) (Some (o 0 1 1)))) ∷ [])) ∷ [])
unfolding base_names
core-74 = refl

pub macros-78 : program_rows true 1 (((t.name (i.Written 0 (codes "t")) (Some (o 0 1 0)))) ∷ ((t.list (t.tree (t.name (i.Written 0 (codes "define-syntax")) (Some (o 0 2 1))) (t.tree (t.name (i.Written 0 (codes "x")) (Some (o 0 2 2))) (t.tree (t.list (t.tree (t.name (i.Written 0 (codes "syntax-rules")) (Some (o 0 2 4))) (t.tree (t.list t.no_trees t.proper (Some (o 0 2 5))) (t.tree (t.list (t.tree (t.list (t.tree (t.name (i.Written 0 (codes "_")) (Some (o 0 2 9))) (t.tree (t.list (t.tree (t.name (i.Written 0 (codes "a")) (Some (o 0 2 11))) (t.tree (t.name (i.Written 0 (codes "b")) (Some (o 0 2 12))) t.no_trees)) t.proper (Some (o 0 2 10))) (t.tree (t.list (t.tree (t.name (i.Written 0 (codes "q")) (Some (o 0 2 15))) (t.tree (t.name (i.Written 0 (codes "...")) (Some (o 0 2 16))) (t.tree (t.name (i.Written 0 (codes "...")) (Some (o 0 2 17))) t.no_trees))) t.proper (Some (o 0 2 14))) (t.tree (t.name (i.Written 0 (codes "...")) (Some (o 0 2 19))) t.no_trees)))) t.proper (Some (o 0 2 8))) (t.tree (t.list (t.tree (t.name (i.Written 0 (codes "define-syntax")) (Some (o 0 2 22))) (t.tree (t.name (i.Written 0 (codes "b")) (Some (o 0 2 23))) (t.tree (t.list (t.tree (t.name (i.Written 0 (codes "syntax-rules")) (Some (o 0 2 25))) (t.tree (t.list t.no_trees t.proper (Some (o 0 2 26))) (t.tree (t.list (t.tree (t.list (t.tree (t.name (i.Written 0 (codes "_")) (Some (o 0 2 30))) (t.tree (t.name (i.Written 0 (codes "car")) (Some (o 0 2 31))) (t.tree (t.list (t.tree (t.name (i.Written 0 (codes "...")) (Some (o 0 2 33))) (t.tree (t.name (i.Written 0 (codes "...")) (Some (o 0 2 34))) t.no_trees)) t.proper (Some (o 0 2 32))) t.no_trees))) t.proper (Some (o 0 2 29))) (t.tree (t.list (t.tree (t.name (i.Written 0 (codes "list")) (Some (o 0 2 38))) (t.tree (t.name (i.Written 0 (codes "car")) (Some (o 0 2 39))) (t.tree (t.list (t.tree (t.name (i.Written 0 (codes "...")) (Some (o 0 2 41))) (t.tree (t.name (i.Written 0 (codes "...")) (Some (o 0 2 42))) t.no_trees)) t.proper (Some (o 0 2 40))) (t.tree (t.name (i.Written 0 (codes "y")) (Some (o 0 2 44))) (t.tree (t.name (i.Written 0 (codes "y")) (Some (o 0 2 45))) t.no_trees))))) t.proper (Some (o 0 2 37))) t.no_trees)) t.proper (Some (o 0 2 28))) t.no_trees))) t.proper (Some (o 0 2 24))) t.no_trees))) t.proper (Some (o 0 2 21))) t.no_trees)) t.proper (Some (o 0 2 7))) (t.tree (t.list (t.tree (t.list (t.tree (t.name (i.Written 0 (codes "_")) (Some (o 0 2 53))) (t.tree (t.name (i.Written 0 (codes "y")) (Some (o 0 2 54))) (t.tree (t.name (i.Written 0 (codes "t")) (Some (o 0 2 55))) t.no_trees))) t.proper (Some (o 0 2 52))) (t.tree (t.name (i.Written 0 (codes "lambda")) (Some (o 0 2 57))) t.no_trees)) t.proper (Some (o 0 2 51))) t.no_trees)))) t.proper (Some (o 0 2 3))) t.no_trees))) t.proper (Some (o 0 2 0)))) ∷ ((t.list (t.tree (t.name (i.Written 0 (codes "begin")) (Some (o 0 3 1))) (t.tree (t.list (t.tree (t.list (t.tree (t.name (i.Written 0 (codes "begin")) (Some (o 0 3 4))) (t.tree (t.name (i.Written 0 (codes "y")) (Some (o 0 3 5))) (t.tree (t.name (i.Written 0 (codes "x")) (Some (o 0 3 6))) t.no_trees))) t.proper (Some (o 0 3 3))) (t.tree (t.list (t.tree (t.atom (t.Quoted (codes "s")) (Some (o 0 3 9))) (t.tree (t.name (i.Written 0 (codes "y")) (Some (o 0 3 10))) (t.tree (t.atom (t.Quoted (codes "s")) (Some (o 0 3 11))) t.no_trees))) t.proper (Some (o 0 3 8))) (t.tree (t.list (t.tree (t.name (i.Written 0 (codes "y")) (Some (o 0 3 14))) (t.tree (t.name (i.Written 0 (codes "y")) (Some (o 0 3 15))) (t.tree (t.name (i.Written 0 (codes "y")) (Some (o 0 3 16))) t.no_trees))) t.proper (Some (o 0 3 13))) t.no_trees))) t.proper (Some (o 0 3 2))) (t.tree (t.list (t.tree (t.name (i.Written 0 (codes "x")) (Some (o 0 3 20))) (t.tree (t.list (t.tree (t.name (i.Written 0 (codes "t")) (Some (o 0 3 22))) (t.tree (t.atom (t.Numeral (codes "1")) (Some (o 0 3 23))) t.no_trees)) t.proper (Some (o 0 3 21))) t.no_trees)) t.proper (Some (o 0 3 19))) t.no_trees))) t.proper (Some (o 0 3 0)))) ∷ []) ≡ ((w (c.part (c.Expression (c.Ref (u (m.Free (codes "t")) (x.Written 0 (codes "t")) (Some (o 0 1 0))))) c.no_parts) 0 1 None ([])) ∷ (w c.no_parts 0 41 (e 22 (Some (o 0 2 0)) []) ([])) ∷ (w (c.part (c.Expression (c.Call (c.core (c.Body (c.part (c.Expression (c.Ref (u (m.Free (codes "y")) (x.Written 0 (codes "y")) (Some (o 0 3 5))))) (c.part (c.Expression (c.Ref (u (m.Free (codes "x")) (x.Written 0 (codes "x")) (Some (o 0 3 6))))) c.no_parts))) (c.core (c.Call (c.core (c.Const (t.Quoted (codes "s"))) (c.core (c.Ref (u (m.Free (codes "y")) (x.Written 0 (codes "y")) (Some (o 0 3 10)))) (c.core (c.Const (t.Quoted (codes "s"))) c.no_cores)))) (c.core (c.Call (c.core (c.Ref (u (m.Free (codes "y")) (x.Written 0 (codes "y")) (Some (o 0 3 14)))) (c.core (c.Ref (u (m.Free (codes "y")) (x.Written 0 (codes "y")) (Some (o 0 3 15)))) (c.core (c.Ref (u (m.Free (codes "y")) (x.Written 0 (codes "y")) (Some (o 0 3 16)))) c.no_cores)))) c.no_cores))))) (c.part (c.Expression (c.Call (c.core (c.Ref (u (m.Free (codes "x")) (x.Written 0 (codes "x")) (Some (o 0 3 20)))) (c.core (c.Call (c.core (c.Ref (u (m.Free (codes "t")) (x.Written 0 (codes "t")) (Some (o 0 3 22)))) (c.core (c.Const (t.Numeral (codes "1"))) c.no_cores))) c.no_cores)))) c.no_parts)) 0 21 None (((u (m.Standard (codes "begin")) (x.Written 0 (codes "begin")) (Some (o 0 3 1)))) ∷ ((u (m.Standard (codes "begin")) (x.Written 0 (codes "begin")) (Some (o 0 3 4)))) ∷ [])) ∷ [])
unfolding base_names
macros-78 = refl

pub core-80 : program_rows true 1 (((t.atom (t.Numeral (codes "1")) (Some (o 0 1 0)))) ∷ ((t.list (t.tree (t.name (i.Written 0 (codes "define")) (Some (o 0 2 1))) (t.tree (t.list (t.tree (t.name (i.Written 0 (codes "x")) (Some (o 0 2 3))) (t.tree (t.name (i.Written 0 (codes "y")) (Some (o 0 2 4))) t.no_trees)) t.proper (Some (o 0 2 2))) (t.tree (t.list (t.tree (t.name (i.Written 0 (codes "quote")) None) (t.tree (t.atom (t.Character 99) (Some (o 0 2 7))) t.no_trees)) t.proper (Some (o 0 2 6))) t.no_trees))) t.proper (Some (o 0 2 0)))) ∷ []) ≡ ((w (c.part (c.Expression (c.Const (t.Numeral (codes "1")))) c.no_parts) 0 2 None ([])) ∷ (w (c.part (c.Define (b (c.Definition 0 0) (x.Written 0 (codes "x")) (Some (o 0 2 3))) (c.Lambda (bs (((b (c.LocalNumber (n 0 2 0)) (x.Written 0 (codes "y")) (Some (o 0 2 4)))) ∷ []) false) (c.Body (c.part (c.Expression (c.Quote (t.atom (t.Character 99) None))) c.no_parts)))) c.no_parts) 0 4 None (((u (m.Standard (codes "define")) (x.Written 0 (codes "define")) (Some (o 0 2 1)))) ∷ ((u (m.Standard (codes "quote")) (x.Written 0 (codes "quote")) None)) ∷ [])) ∷ [])
unfolding base_names
core-80 = refl

pub macros-81 : program_rows true 1 (((t.list (t.tree (t.name (i.Written 0 (codes "define")) (Some (o 0 1 1))) (t.tree (t.name (i.Written 0 (codes "y")) (Some (o 0 1 2))) (t.tree (t.atom (t.Numeral (codes "2")) (Some (o 0 1 3))) t.no_trees))) t.proper (Some (o 0 1 0)))) ∷ ((t.list (t.tree (t.name (i.Written 0 (codes "define-syntax")) (Some (o 0 2 1))) (t.tree (t.name (i.Written 0 (codes "b")) (Some (o 0 2 2))) (t.tree (t.list (t.tree (t.name (i.Written 0 (codes "syntax-rules")) (Some (o 0 2 4))) (t.tree (t.list t.no_trees t.proper (Some (o 0 2 5))) (t.tree (t.list (t.tree (t.list (t.tree (t.name (i.Written 0 (codes "_")) (Some (o 0 2 9))) t.no_trees) t.proper (Some (o 0 2 8))) (t.tree (t.list (t.tree (t.name (i.Written 0 (codes "begin")) (Some (o 0 2 12))) (t.tree (t.list (t.tree (t.name (i.Written 0 (codes "define")) (Some (o 0 2 14))) (t.tree (t.name (i.Written 0 (codes "a")) (Some (o 0 2 15))) (t.tree (t.list (t.tree (t.name (i.Written 0 (codes "quote")) None) (t.tree (t.list (t.tree (t.name (i.Written 0 (codes "x")) (Some (o 0 2 18))) (t.tree (t.name (i.Written 0 (codes "a")) (Some (o 0 2 19))) t.no_trees)) t.proper (Some (o 0 2 17))) t.no_trees)) t.proper (Some (o 0 2 16))) t.no_trees))) t.proper (Some (o 0 2 13))) t.no_trees)) t.proper (Some (o 0 2 11))) t.no_trees)) t.proper (Some (o 0 2 7))) t.no_trees))) t.proper (Some (o 0 2 3))) t.no_trees))) t.proper (Some (o 0 2 0)))) ∷ ((t.list (t.tree (t.list (t.tree (t.name (i.Written 0 (codes "begin")) (Some (o 0 3 2))) (t.tree (t.list (t.tree (t.name (i.Written 0 (codes "quote")) None) (t.tree (t.name (i.Written 0 (codes "a")) (Some (o 0 3 4))) t.no_trees)) t.proper (Some (o 0 3 3))) (t.tree (t.list (t.tree (t.name (i.Written 0 (codes "b")) (Some (o 0 3 6))) t.no_trees) t.proper (Some (o 0 3 5))) t.no_trees))) t.proper (Some (o 0 3 1))) (t.tree (t.list (t.tree (t.list (t.tree (t.name (i.Written 0 (codes "a")) (Some (o 0 3 11))) (t.tree (t.atom (t.Boolean true) (Some (o 0 3 12))) t.no_trees)) t.proper (Some (o 0 3 10))) t.no_trees) t.proper (Some (o 0 3 9))) (t.tree (t.list (t.tree (t.name (i.Written 0 (codes "b")) (Some (o 0 3 16))) t.no_trees) t.proper (Some (o 0 3 15))) t.no_trees))) t.proper (Some (o 0 3 0)))) ∷ ((t.list (t.tree (t.name (i.Written 0 (codes "define-values")) (Some (o 0 4 1))) (t.tree (t.list (t.tree (t.name (i.Written 0 (codes "t")) (Some (o 0 4 3))) (t.tree (t.name (i.Written 0 (codes "a")) (Some (o 0 4 4))) t.no_trees)) t.proper (Some (o 0 4 2))) (t.tree (t.name (i.Written 0 (codes "a")) (Some (o 0 4 6))) t.no_trees))) t.proper (Some (o 0 4 0)))) ∷ ((t.list (t.tree (t.name (i.Written 0 (codes "define")) (Some (o 0 5 1))) (t.tree (t.name (i.Written 0 (codes "b")) (Some (o 0 5 2))) (t.tree (t.name (i.Written 0 (codes "t")) (Some (o 0 5 3))) t.no_trees))) t.proper (Some (o 0 5 0)))) ∷ ((t.list (t.tree (t.name (i.Written 0 (codes "define")) (Some (o 0 6 1))) (t.tree (t.name (i.Written 0 (codes "t")) (Some (o 0 6 2))) (t.tree (t.list (t.tree (t.list (t.tree (t.name (i.Written 0 (codes "lambda")) (Some (o 0 6 5))) (t.tree (t.name (i.Written 0 (codes "y")) (Some (o 0 6 6))) (t.tree (t.list (t.tree (t.name (i.Written 0 (codes "lambda")) (Some (o 0 6 8))) (t.tree (t.list t.no_trees t.proper (Some (o 0 6 9))) (t.tree (t.list (t.tree (t.name (i.Written 0 (codes "begin")) (Some (o 0 6 12))) (t.tree (t.list (t.tree (t.name (i.Written 0 (codes "b")) (Some (o 0 6 14))) t.no_trees) t.proper (Some (o 0 6 13))) (t.tree (t.list (t.tree (t.name (i.Written 0 (codes "define-values")) (Some (o 0 6 17))) (t.tree (t.list (t.tree (t.name (i.Written 0 (codes "y")) (Some (o 0 6 19))) (t.tree (t.name (i.Written 0 (codes "a")) (Some (o 0 6 20))) t.no_trees)) t.proper (Some (o 0 6 18))) (t.tree (t.name (i.Written 0 (codes "t")) (Some (o 0 6 22))) t.no_trees))) t.proper (Some (o 0 6 16))) t.no_trees))) t.proper (Some (o 0 6 11))) (t.tree (t.list (t.tree (t.name (i.Written 0 (codes "define")) (Some (o 0 6 26))) (t.tree (t.name (i.Written 0 (codes "t")) (Some (o 0 6 27))) (t.tree (t.atom (t.Numeral (codes "2")) (Some (o 0 6 28))) t.no_trees))) t.proper (Some (o 0 6 25))) (t.tree (t.atom (t.Character 99) (Some (o 0 6 30))) (t.tree (t.atom (t.Numeral (codes "1")) (Some (o 0 6 31))) t.no_trees)))))) t.proper (Some (o 0 6 7))) (t.tree (t.list (t.tree (t.name (i.Written 0 (codes "lambda")) (Some (o 0 6 34))) (t.tree (t.list (t.tree (t.name (i.Written 0 (codes "x")) (Some (o 0 6 36))) (t.tree (t.name (i.Written 0 (codes "b")) (Some (o 0 6 37))) t.no_trees)) t.proper (Some (o 0 6 35))) (t.tree (t.name (i.Written 0 (codes "b")) (Some (o 0 6 39))) t.no_trees))) t.proper (Some (o 0 6 33))) t.no_trees)))) t.proper (Some (o 0 6 4))) (t.tree (t.name (i.Written 0 (codes "y")) (Some (o 0 6 42))) (t.tree (t.name (i.Written 0 (codes "b")) (Some (o 0 6 43))) t.no_trees))) t.proper (Some (o 0 6 3))) t.no_trees))) t.proper (Some (o 0 6 0)))) ∷ []) ≡ ((w (c.part (c.Define (b (c.Definition 0 0) (x.Written 0 (codes "y")) (Some (o 0 1 2))) (c.Const (t.Numeral (codes "2")))) c.no_parts) 0 2 None (((u (m.Standard (codes "define")) (x.Written 0 (codes "define")) (Some (o 0 1 1)))) ∷ [])) ∷ (w (c.part (c.Syntax (d (b (c.Definition 0 1) (x.Written 0 (codes "b")) (Some (o 0 2 2))) ((l (u (m.Standard (codes "begin")) (x.Written 0 (codes "begin")) (Some (o 0 2 12))) false) ∷ (l (u (m.Standard (codes "define")) (x.Written 0 (codes "define")) (Some (o 0 2 14))) false) ∷ (l (u (m.Global 0 (x.Written 0 (codes "a"))) (x.Written 0 (codes "a")) (Some (o 0 2 15))) false) ∷ (l (u (m.Standard (codes "quote")) (x.Written 0 (codes "quote")) None) false) ∷ (l (u (m.Free (codes "x")) (x.Written 0 (codes "x")) (Some (o 0 2 18))) false) ∷ (l (u (m.Global 0 (x.Written 0 (codes "a"))) (x.Written 0 (codes "a")) (Some (o 0 2 19))) false) ∷ []))) c.no_parts) 0 16 None (((u (m.Standard (codes "define-syntax")) (x.Written 0 (codes "define-syntax")) (Some (o 0 2 1)))) ∷ [])) ∷ (w c.no_parts 1 15 (e 33 (Some (o 0 3 5)) []) ([])) ∷ (w (c.part (c.Values (bs (((b (c.Definition 0 2) (x.Written 0 (codes "t")) (Some (o 0 4 3)))) ∷ ((b (c.Definition 0 3) (x.Written 0 (codes "a")) (Some (o 0 4 4)))) ∷ []) false) (c.Ref (u (m.Global 0 (x.Written 0 (codes "a"))) (x.Written 0 (codes "a")) (Some (o 0 4 6))))) c.no_parts) 0 1 None (((u (m.Standard (codes "define-values")) (x.Written 0 (codes "define-values")) (Some (o 0 4 1)))) ∷ [])) ∷ (w c.no_parts 0 0 (e 42 (Some (o 0 5 2)) (codes "b")) ([])) ∷ (w c.no_parts 1 33 (e 43 (Some (o 0 6 43)) (codes "b")) ([])) ∷ [])
unfolding base_names
macros-81 = refl

pub macros-98 : program_rows true 1 (((t.list (t.tree (t.name (i.Written 0 (codes "define-syntax")) (Some (o 0 1 1))) (t.tree (t.name (i.Written 0 (codes "y")) (Some (o 0 1 2))) (t.tree (t.list (t.tree (t.name (i.Written 0 (codes "syntax-rules")) (Some (o 0 1 4))) (t.tree (t.list (t.tree (t.name (i.Written 0 (codes "else")) (Some (o 0 1 6))) t.no_trees) t.proper (Some (o 0 1 5))) (t.tree (t.list (t.tree (t.list (t.tree (t.name (i.Written 0 (codes "_")) (Some (o 0 1 10))) (t.tree (t.name (i.Written 0 (codes "else")) (Some (o 0 1 11))) t.no_trees)) t.proper (Some (o 0 1 9))) (t.tree (t.list (t.tree (t.name (i.Written 0 (codes "set!")) (Some (o 0 1 14))) (t.tree (t.name (i.Written 0 (codes "x")) (Some (o 0 1 15))) (t.tree (t.name (i.Written 0 (codes "x")) (Some (o 0 1 16))) t.no_trees))) t.proper (Some (o 0 1 13))) t.no_trees)) t.proper (Some (o 0 1 8))) t.no_trees))) t.proper (Some (o 0 1 3))) t.no_trees))) t.proper (Some (o 0 1 0)))) ∷ ((t.list (t.tree (t.name (i.Written 0 (codes "define")) (Some (o 0 2 1))) (t.tree (t.name (i.Written 0 (codes "x")) (Some (o 0 2 2))) (t.tree (t.list (t.tree (t.name (i.Written 0 (codes "y")) (Some (o 0 2 4))) (t.tree (t.name (i.Written 0 (codes "else")) (Some (o 0 2 5))) t.no_trees)) t.proper (Some (o 0 2 3))) t.no_trees))) t.proper (Some (o 0 2 0)))) ∷ ((t.list (t.tree (t.name (i.Written 0 (codes "define")) (Some (o 0 3 1))) (t.tree (t.name (i.Written 0 (codes "x")) (Some (o 0 3 2))) (t.tree (t.list (t.tree (t.list (t.tree (t.name (i.Written 0 (codes "lambda")) (Some (o 0 3 5))) (t.tree (t.list t.no_trees t.proper (Some (o 0 3 6))) (t.tree (t.list (t.tree (t.name (i.Written 0 (codes "begin")) (Some (o 0 3 9))) (t.tree (t.list (t.tree (t.name (i.Written 0 (codes "define")) (Some (o 0 3 11))) (t.tree (t.list (t.tree (t.name (i.Written 0 (codes "t")) (Some (o 0 3 13))) (t.tree (t.name (i.Written 0 (codes "y")) (Some (o 0 3 14))) t.no_trees)) t.proper (Some (o 0 3 12))) (t.tree (t.list (t.tree (t.name (i.Written 0 (codes "y")) (Some (o 0 3 17))) (t.tree (t.name (i.Written 0 (codes "else")) (Some (o 0 3 18))) t.no_trees)) t.proper (Some (o 0 3 16))) (t.tree (t.list (t.tree (t.name (i.Written 0 (codes "define-syntax")) (Some (o 0 3 21))) (t.tree (t.name (i.Written 0 (codes "y")) (Some (o 0 3 22))) (t.tree (t.list (t.tree (t.name (i.Written 0 (codes "syntax-rules")) (Some (o 0 3 24))) (t.tree (t.name (i.Written 0 (codes ":::")) (Some (o 0 3 25))) (t.tree (t.list t.no_trees t.proper (Some (o 0 3 26))) (t.tree (t.list (t.tree (t.list (t.tree (t.name (i.Written 0 (codes "_")) (Some (o 0 3 30))) t.no_trees) t.proper (Some (o 0 3 29))) (t.tree (t.list (t.tree (t.list (t.tree (t.name (i.Written 0 (codes "lambda")) (Some (o 0 3 34))) (t.tree (t.list (t.tree (t.name (i.Written 0 (codes "y")) (Some (o 0 3 36))) t.no_trees) t.proper (Some (o 0 3 35))) (t.tree (t.name (i.Written 0 (codes "t")) (Some (o 0 3 38))) t.no_trees))) t.proper (Some (o 0 3 33))) (t.tree (t.name (i.Written 0 (codes "y")) (Some (o 0 3 40))) t.no_trees)) t.proper (Some (o 0 3 32))) t.no_trees)) t.proper (Some (o 0 3 28))) (t.tree (t.list (t.tree (t.list (t.tree (t.name (i.Written 0 (codes "_")) (Some (o 0 3 45))) t.no_trees) (t.dotted (t.name (i.Written 0 (codes "rest")) (Some (o 0 3 47)))) (Some (o 0 3 44))) (t.tree (t.list (t.tree (t.name (i.Written 0 (codes "let-syntax")) (Some (o 0 3 50))) (t.tree (t.list (t.tree (t.list (t.tree (t.name (i.Written 0 (codes "t")) (Some (o 0 3 53))) (t.tree (t.list (t.tree (t.name (i.Written 0 (codes "syntax-rules")) (Some (o 0 3 55))) (t.tree (t.list t.no_trees t.proper (Some (o 0 3 56))) (t.tree (t.list (t.tree (t.list (t.tree (t.name (i.Written 0 (codes "_")) (Some (o 0 3 60))) (t.tree (t.name (i.Written 0 (codes "y")) (Some (o 0 3 61))) t.no_trees)) t.proper (Some (o 0 3 59))) (t.tree (t.list (t.tree (t.name (i.Written 0 (codes "list")) (Some (o 0 3 64))) (t.tree (t.name (i.Written 0 (codes "x")) (Some (o 0 3 65))) (t.tree (t.name (i.Written 0 (codes "else")) (Some (o 0 3 66))) t.no_trees))) t.proper (Some (o 0 3 63))) t.no_trees)) t.proper (Some (o 0 3 58))) t.no_trees))) t.proper (Some (o 0 3 54))) t.no_trees)) t.proper (Some (o 0 3 52))) t.no_trees) t.proper (Some (o 0 3 51))) (t.tree (t.list (t.tree (t.name (i.Written 0 (codes "t")) (Some (o 0 3 73))) (t.tree (t.name (i.Written 0 (codes "y")) (Some (o 0 3 74))) t.no_trees)) t.proper (Some (o 0 3 72))) t.no_trees))) t.proper (Some (o 0 3 49))) t.no_trees)) t.proper (Some (o 0 3 43))) t.no_trees))))) t.proper (Some (o 0 3 23))) t.no_trees))) t.proper (Some (o 0 3 20))) (t.tree (t.name (i.Written 0 (codes "=>")) (Some (o 0 3 80))) (t.tree (t.name (i.Written 0 (codes "list")) (Some (o 0 3 81))) t.no_trees)))))) t.proper (Some (o 0 3 10))) (t.tree (t.list (t.tree (t.name (i.Written 0 (codes "define-values")) (Some (o 0 3 84))) (t.tree (t.list (t.tree (t.name (i.Written 0 (codes "y")) (Some (o 0 3 86))) (t.tree (t.name (i.Written 0 (codes "x")) (Some (o 0 3 87))) t.no_trees)) t.proper (Some (o 0 3 85))) (t.tree (t.name (i.Written 0 (codes "t")) (Some (o 0 3 89))) t.no_trees))) t.proper (Some (o 0 3 83))) t.no_trees))) t.proper (Some (o 0 3 8))) (t.tree (t.list (t.tree (t.name (i.Written 0 (codes "y")) (Some (o 0 3 93))) (t.tree (t.name (i.Written 0 (codes "else")) (Some (o 0 3 94))) t.no_trees)) t.proper (Some (o 0 3 92))) (t.tree (t.list (t.tree (t.name (i.Written 0 (codes "y")) (Some (o 0 3 97))) (t.tree (t.name (i.Written 0 (codes "else")) (Some (o 0 3 98))) t.no_trees)) t.proper (Some (o 0 3 96))) t.no_trees))))) t.proper (Some (o 0 3 4))) (t.tree (t.list (t.tree (t.name (i.Written 0 (codes "y")) (Some (o 0 3 102))) (t.tree (t.name (i.Written 0 (codes "else")) (Some (o 0 3 103))) (t.tree (t.name (i.Written 0 (codes "z")) (Some (o 0 3 104))) t.no_trees))) t.proper (Some (o 0 3 101))) (t.tree (t.atom (t.Numeral (codes "1")) (Some (o 0 3 106))) t.no_trees))) t.proper (Some (o 0 3 3))) t.no_trees))) t.proper (Some (o 0 3 0)))) ∷ ((t.list (t.tree (t.name (i.Written 0 (codes "define")) (Some (o 0 4 1))) (t.tree (t.name (i.Written 0 (codes "t")) (Some (o 0 4 2))) (t.tree (t.list (t.tree (t.name (i.Written 0 (codes "y")) (Some (o 0 4 4))) (t.tree (t.name (i.Written 0 (codes "else")) (Some (o 0 4 5))) t.no_trees)) t.proper (Some (o 0 4 3))) t.no_trees))) t.proper (Some (o 0 4 0)))) ∷ ((t.list (t.tree (t.name (i.Written 0 (codes "define")) (Some (o 0 5 1))) (t.tree (t.list (t.tree (t.name (i.Written 0 (codes "x")) (Some (o 0 5 3))) (t.tree (t.name (i.Written 0 (codes "x")) (Some (o 0 5 4))) t.no_trees)) t.proper (Some (o 0 5 2))) (t.tree (t.atom (t.Boolean true) (Some (o 0 5 6))) (t.tree (t.list (t.tree (t.name (i.Written 0 (codes "define")) (Some (o 0 5 8))) (t.tree (t.list (t.tree (t.name (i.Written 0 (codes "a b")) (Some (o 0 5 10))) (t.tree (t.name (i.Written 0 (codes "t")) (Some (o 0 5 11))) t.no_trees)) t.proper (Some (o 0 5 9))) (t.tree (t.list (t.tree (t.name (i.Written 0 (codes "x")) (Some (o 0 5 14))) t.no_trees) t.proper (Some (o 0 5 13))) (t.tree (t.list (t.tree (t.name (i.Written 0 (codes "quasiquote")) None) (t.tree (t.list (t.tree (t.name (i.Written 0 (codes "t")) (Some (o 0 5 18))) (t.tree (t.list (t.tree (t.name (i.Written 0 (codes "unquote")) None) (t.tree (t.name (i.Written 0 (codes "x")) (Some (o 0 5 20))) t.no_trees)) t.proper (Some (o 0 5 19))) (t.tree (t.list (t.tree (t.name (i.Written 0 (codes "unquote-splicing")) None) (t.tree (t.name (i.Written 0 (codes "t")) (Some (o 0 5 22))) t.no_trees)) t.proper (Some (o 0 5 21))) t.no_trees))) (t.dotted (t.name (i.Written 0 (codes "x")) (Some (o 0 5 24)))) (Some (o 0 5 17))) t.no_trees)) t.proper (Some (o 0 5 16))) t.no_trees)))) t.proper (Some (o 0 5 7))) (t.tree (t.list (t.tree (t.name (i.Written 0 (codes "define")) (Some (o 0 5 28))) (t.tree (t.name (i.Written 0 (codes "x")) (Some (o 0 5 29))) (t.tree (t.list (t.tree (t.list (t.tree (t.name (i.Written 0 (codes "quasiquote")) None) (t.tree (t.list (t.tree (t.atom (t.Boolean true) (Some (o 0 5 33))) (t.tree (t.list (t.tree (t.name (i.Written 0 (codes "unquote")) None) (t.tree (t.atom (t.Character 99) (Some (o 0 5 35))) t.no_trees)) t.proper (Some (o 0 5 34))) (t.tree (t.list (t.tree (t.name (i.Written 0 (codes "unquote-splicing")) None) (t.tree (t.name (i.Written 0 (codes "y")) (Some (o 0 5 37))) t.no_trees)) t.proper (Some (o 0 5 36))) t.no_trees))) (t.dotted (t.name (i.Written 0 (codes "x")) (Some (o 0 5 39)))) (Some (o 0 5 32))) t.no_trees)) t.proper (Some (o 0 5 31))) (t.tree (t.name (i.Written 0 (codes "y")) (Some (o 0 5 41))) t.no_trees)) t.proper (Some (o 0 5 30))) t.no_trees))) t.proper (Some (o 0 5 27))) (t.tree (t.list (t.tree (t.name (i.Written 0 (codes "y")) (Some (o 0 5 45))) (t.tree (t.name (i.Written 0 (codes "else")) (Some (o 0 5 46))) t.no_trees)) t.proper (Some (o 0 5 44))) t.no_trees)))))) t.proper (Some (o 0 5 0)))) ∷ ((t.list (t.tree (t.name (i.Written 0 (codes "define-syntax")) (Some (o 0 6 1))) (t.tree (t.name (i.Written 0 (codes "t")) (Some (o 0 6 2))) (t.tree (t.list (t.tree (t.name (i.Written 0 (codes "syntax-rules")) (Some (o 0 6 4))) (t.tree (t.list t.no_trees t.proper (Some (o 0 6 5))) (t.tree (t.list (t.tree (t.list (t.tree (t.name (i.Written 0 (codes "_")) (Some (o 0 6 9))) (t.tree (t.name (i.Written 0 (codes "q")) (Some (o 0 6 10))) t.no_trees)) t.proper (Some (o 0 6 8))) (t.tree (t.list (t.tree (t.name (i.Written 0 (codes "begin")) (Some (o 0 6 13))) (t.tree (t.list (t.tree (t.name (i.Written 0 (codes "define")) (Some (o 0 6 15))) (t.tree (t.name (i.Written 0 (codes "q")) (Some (o 0 6 16))) (t.tree (t.list (t.tree (t.name (i.Written 0 (codes "set!")) (Some (o 0 6 18))) (t.tree (t.name (i.Written 0 (codes "q")) (Some (o 0 6 19))) (t.tree (t.name (i.Written 0 (codes "y")) (Some (o 0 6 20))) t.no_trees))) t.proper (Some (o 0 6 17))) t.no_trees))) t.proper (Some (o 0 6 14))) t.no_trees)) t.proper (Some (o 0 6 12))) t.no_trees)) t.proper (Some (o 0 6 7))) t.no_trees))) t.proper (Some (o 0 6 3))) t.no_trees))) t.proper (Some (o 0 6 0)))) ∷ []) ≡ ((w (c.part (c.Syntax (d (b (c.Definition 0 0) (x.Written 0 (codes "y")) (Some (o 0 1 2))) ((l (u (m.Standard (codes "else")) (x.Written 0 (codes "else")) (Some (o 0 1 6))) true) ∷ (l (u (m.Standard (codes "else")) (x.Written 0 (codes "else")) (Some (o 0 1 11))) true) ∷ (l (u (m.Standard (codes "set!")) (x.Written 0 (codes "set!")) (Some (o 0 1 14))) false) ∷ (l (u (m.Global 0 (x.Written 0 (codes "x"))) (x.Written 0 (codes "x")) (Some (o 0 1 15))) false) ∷ (l (u (m.Global 0 (x.Written 0 (codes "x"))) (x.Written 0 (codes "x")) (Some (o 0 1 16))) false) ∷ []))) c.no_parts) 0 12 None (((u (m.Standard (codes "define-syntax")) (x.Written 0 (codes "define-syntax")) (Some (o 0 1 1)))) ∷ [])) ∷ (w (c.part (c.Define (b (c.Definition 0 1) (x.Written 0 (codes "x")) (Some (o 0 2 2))) (c.Set (u (m.Global 0 (x.Written 0 (codes "x"))) (x.Written 0 (codes "x")) (Some (o 0 1 15))) (c.Ref (u (m.Global 0 (x.Written 0 (codes "x"))) (x.Written 0 (codes "x")) (Some (o 0 1 16)))))) c.no_parts) 1 6 None (((u (m.Standard (codes "define")) (x.Written 0 (codes "define")) (Some (o 0 2 1)))) ∷ ((u (m.Standard (codes "set!")) (x.Written 0 (codes "set!")) (Some (o 0 1 14)))) ∷ [])) ∷ (w c.no_parts 0 44 (e 41 (Some (o 0 3 22)) (codes "y")) ([])) ∷ (w (c.part (c.Define (b (c.Definition 0 2) (x.Written 0 (codes "t")) (Some (o 0 4 2))) (c.Set (u (m.Global 0 (x.Written 0 (codes "x"))) (x.Written 0 (codes "x")) (Some (o 0 1 15))) (c.Ref (u (m.Global 0 (x.Written 0 (codes "x"))) (x.Written 0 (codes "x")) (Some (o 0 1 16)))))) c.no_parts) 1 6 None (((u (m.Standard (codes "define")) (x.Written 0 (codes "define")) (Some (o 0 4 1)))) ∷ ((u (m.Standard (codes "set!")) (x.Written 0 (codes "set!")) (Some (o 0 1 14)))) ∷ [])) ∷ (w c.no_parts 1 34 (e 43 (Some (o 0 5 37)) (codes "y")) ([])) ∷ (w c.no_parts 0 16 (e 42 (Some (o 0 6 2)) (codes "t")) ([])) ∷ [])
unfolding base_names
macros-98 = refl

pub core-151 : program_rows false 0 (((t.name (i.Written 0 (codes "q")) (Some (o 0 0 0)))) ∷ ((t.name (i.Written 0 (codes "b")) (Some (o 0 1 0)))) ∷ []) ≡ ((w (c.part (c.Expression (c.Ref (u (m.Free (codes "q")) (x.Written 0 (codes "q")) (Some (o 0 0 0))))) c.no_parts) 0 1 None ([])) ∷ (w (c.part (c.Expression (c.Ref (u (m.Free (codes "b")) (x.Written 0 (codes "b")) (Some (o 0 1 0))))) c.no_parts) 0 1 None ([])) ∷ [])
unfolding base_names
core-151 = refl

pub core-159 : program_rows false 0 (((t.list (t.tree (t.name (i.Written 0 (codes "define")) (Some (o 0 0 1))) (t.tree (t.list (t.tree (t.name (i.Written 0 (codes "x")) (Some (o 0 0 3))) (t.tree (t.name (i.Written 0 (codes "n")) (Some (o 0 0 4))) t.no_trees)) t.proper (Some (o 0 0 2))) (t.tree (t.list (t.tree (t.name (i.Written 0 (codes "define-values")) (Some (o 0 0 7))) (t.tree (t.list (t.tree (t.name (i.Written 0 (codes "n")) (Some (o 0 0 9))) (t.tree (t.name (i.Written 0 (codes "tmp")) (Some (o 0 0 10))) t.no_trees)) t.proper (Some (o 0 0 8))) (t.tree (t.list (t.tree (t.name (i.Written 0 (codes "lambda")) (Some (o 0 0 13))) (t.tree (t.name (i.Written 0 (codes "t")) (Some (o 0 0 14))) (t.tree (t.list (t.tree (t.name (i.Written 0 (codes "define")) (Some (o 0 0 16))) (t.tree (t.list (t.tree (t.name (i.Written 0 (codes "a")) (Some (o 0 0 18))) (t.tree (t.name (i.Written 0 (codes "n")) (Some (o 0 0 19))) t.no_trees)) t.proper (Some (o 0 0 17))) (t.tree (t.list (t.tree (t.name (i.Written 0 (codes "define")) (Some (o 0 0 22))) (t.tree (t.name (i.Written 0 (codes "n")) (Some (o 0 0 23))) (t.tree (t.name (i.Written 0 (codes "g")) (Some (o 0 0 24))) t.no_trees))) t.proper (Some (o 0 0 21))) (t.tree (t.name (i.Written 0 (codes "k")) (Some (o 0 0 26))) t.no_trees)))) t.proper (Some (o 0 0 15))) (t.tree (t.list (t.tree (t.name (i.Written 0 (codes "g")) (Some (o 0 0 29))) (t.tree (t.atom (t.Numeral (codes "1")) (Some (o 0 0 30))) t.no_trees)) t.proper (Some (o 0 0 28))) (t.tree (t.list (t.tree (t.name (i.Written 0 (codes "begin")) (Some (o 0 0 33))) (t.tree (t.atom (t.Numeral (codes "2")) (Some (o 0 0 34))) (t.tree (t.name (i.Written 0 (codes "m")) (Some (o 0 0 35))) t.no_trees))) t.proper (Some (o 0 0 32))) t.no_trees))))) t.proper (Some (o 0 0 12))) t.no_trees))) t.proper (Some (o 0 0 6))) (t.tree (t.list (t.tree (t.name (i.Written 0 (codes "quote")) None) (t.tree (t.name (i.Written 0 (codes "b")) (Some (o 0 0 40))) t.no_trees)) t.proper (Some (o 0 0 39))) t.no_trees)))) t.proper (Some (o 0 0 0)))) ∷ ((t.list (t.tree (t.name (i.Written 0 (codes "define")) (Some (o 0 1 1))) (t.tree (t.name (i.Written 0 (codes "a")) (Some (o 0 1 2))) (t.tree (t.list (t.tree (t.name (i.Written 0 (codes "lambda")) (Some (o 0 1 4))) (t.tree (t.list (t.tree (t.name (i.Written 0 (codes "y")) (Some (o 0 1 6))) t.no_trees) t.proper (Some (o 0 1 5))) (t.tree (t.list (t.tree (t.name (i.Written 0 (codes "define-record-type")) (Some (o 0 1 9))) (t.tree (t.name (i.Written 0 (codes "t")) (Some (o 0 1 10))) (t.tree (t.list (t.tree (t.name (i.Written 0 (codes "make")) (Some (o 0 1 12))) (t.tree (t.name (i.Written 0 (codes "unquote")) (Some (o 0 1 13))) t.no_trees)) t.proper (Some (o 0 1 11))) (t.tree (t.name (i.Written 0 (codes "t?")) (Some (o 0 1 15))) (t.tree (t.list (t.tree (t.name (i.Written 0 (codes "unquote")) (Some (o 0 1 17))) (t.tree (t.name (i.Written 0 (codes "unquote-x")) (Some (o 0 1 18))) t.no_trees)) t.proper (Some (o 0 1 16))) (t.tree (t.list (t.tree (t.name (i.Written 0 (codes "q")) (Some (o 0 1 21))) (t.tree (t.name (i.Written 0 (codes "q-y")) (Some (o 0 1 22))) (t.tree (t.name (i.Written 0 (codes "set-q!")) (Some (o 0 1 23))) t.no_trees))) t.proper (Some (o 0 1 20))) t.no_trees)))))) t.proper (Some (o 0 1 8))) (t.tree (t.list (t.tree (t.name (i.Written 0 (codes "set!")) (Some (o 0 1 27))) (t.tree (t.name (i.Written 0 (codes "m")) (Some (o 0 1 28))) (t.tree (t.list (t.tree (t.name (i.Written 0 (codes "begin")) (Some (o 0 1 30))) (t.tree (t.name (i.Written 0 (codes "tmp")) (Some (o 0 1 31))) (t.tree (t.name (i.Written 0 (codes "tmp")) (Some (o 0 1 32))) t.no_trees))) t.proper (Some (o 0 1 29))) t.no_trees))) t.proper (Some (o 0 1 26))) t.no_trees)))) t.proper (Some (o 0 1 3))) t.no_trees))) t.proper (Some (o 0 1 0)))) ∷ []) ≡ ((w (c.part (c.Define (b (c.Definition 0 0) (x.Written 0 (codes "x")) (Some (o 0 0 3))) (c.Lambda (bs (((b (c.LocalNumber (n 0 0 0)) (x.Written 0 (codes "n")) (Some (o 0 0 4)))) ∷ []) false) (c.Body (c.part (c.Values (bs (((b (c.LocalNumber (n 0 0 1)) (x.Written 0 (codes "n")) (Some (o 0 0 9)))) ∷ ((b (c.LocalNumber (n 0 0 2)) (x.Written 0 (codes "tmp")) (Some (o 0 0 10)))) ∷ []) false) (c.Lambda (bs (((b (c.LocalNumber (n 0 0 3)) (x.Written 0 (codes "t")) (Some (o 0 0 14)))) ∷ []) true) (c.Body (c.part (c.Define (b (c.LocalNumber (n 0 0 4)) (x.Written 0 (codes "a")) (Some (o 0 0 18))) (c.Lambda (bs (((b (c.LocalNumber (n 0 0 5)) (x.Written 0 (codes "n")) (Some (o 0 0 19)))) ∷ []) false) (c.Body (c.part (c.Define (b (c.LocalNumber (n 0 0 6)) (x.Written 0 (codes "n")) (Some (o 0 0 23))) (c.Ref (u (m.Free (codes "g")) (x.Written 0 (codes "g")) (Some (o 0 0 24))))) (c.part (c.Expression (c.Ref (u (m.Free (codes "k")) (x.Written 0 (codes "k")) (Some (o 0 0 26))))) c.no_parts))))) (c.part (c.Expression (c.Call (c.core (c.Ref (u (m.Free (codes "g")) (x.Written 0 (codes "g")) (Some (o 0 0 29)))) (c.core (c.Const (t.Numeral (codes "1"))) c.no_cores)))) (c.part (c.Expression (c.Const (t.Numeral (codes "2")))) (c.part (c.Expression (c.Ref (u (m.Free (codes "m")) (x.Written 0 (codes "m")) (Some (o 0 0 35))))) c.no_parts))))))) (c.part (c.Expression (c.Quote (t.name (codes "b") (Some (o 0 0 40))))) c.no_parts))))) c.no_parts) 0 18 None (((u (m.Standard (codes "define")) (x.Written 0 (codes "define")) (Some (o 0 0 1)))) ∷ ((u (m.Standard (codes "define-values")) (x.Written 0 (codes "define-values")) (Some (o 0 0 7)))) ∷ ((u (m.Standard (codes "lambda")) (x.Written 0 (codes "lambda")) (Some (o 0 0 13)))) ∷ ((u (m.Standard (codes "define")) (x.Written 0 (codes "define")) (Some (o 0 0 16)))) ∷ ((u (m.Standard (codes "begin")) (x.Written 0 (codes "begin")) (Some (o 0 0 33)))) ∷ ((u (m.Standard (codes "define")) (x.Written 0 (codes "define")) (Some (o 0 0 22)))) ∷ ((u (m.Standard (codes "quote")) (x.Written 0 (codes "quote")) None)) ∷ [])) ∷ (w (c.part (c.Define (b (c.Definition 0 1) (x.Written 0 (codes "a")) (Some (o 0 1 2))) (c.Lambda (bs (((b (c.LocalNumber (n 0 1 0)) (x.Written 0 (codes "y")) (Some (o 0 1 6)))) ∷ []) false) (c.Body (c.part (c.Fields (r (((b (c.LocalNumber (n 0 1 3)) (x.Written 0 (codes "t")) (Some (o 0 1 10)))) ∷ ((b (c.LocalNumber (n 0 1 4)) (x.Written 0 (codes "make")) (Some (o 0 1 12)))) ∷ ((b (c.LocalNumber (n 0 1 5)) (x.Written 0 (codes "t?")) (Some (o 0 1 15)))) ∷ ((b (c.LocalNumber (n 0 1 6)) (x.Written 0 (codes "unquote-x")) (Some (o 0 1 18)))) ∷ ((b (c.LocalNumber (n 0 1 7)) (x.Written 0 (codes "q-y")) (Some (o 0 1 22)))) ∷ ((b (c.LocalNumber (n 0 1 8)) (x.Written 0 (codes "set-q!")) (Some (o 0 1 23)))) ∷ []) (((b (c.LocalNumber (n 0 1 1)) (x.Written 0 (codes "unquote")) (Some (o 0 1 17)))) ∷ ((b (c.LocalNumber (n 0 1 2)) (x.Written 0 (codes "q")) (Some (o 0 1 21)))) ∷ []) ((1) ∷ []) ((f 0 (Some (o 0 1 13))) ∷ []))) (c.part (c.Expression (c.Set (u (m.Free (codes "m")) (x.Written 0 (codes "m")) (Some (o 0 1 28))) (c.Body (c.part (c.Expression (c.Ref (u (m.Free (codes "tmp")) (x.Written 0 (codes "tmp")) (Some (o 0 1 31))))) (c.part (c.Expression (c.Ref (u (m.Free (codes "tmp")) (x.Written 0 (codes "tmp")) (Some (o 0 1 32))))) c.no_parts))))) c.no_parts))))) c.no_parts) 0 6 None (((u (m.Standard (codes "define")) (x.Written 0 (codes "define")) (Some (o 0 1 1)))) ∷ ((u (m.Standard (codes "lambda")) (x.Written 0 (codes "lambda")) (Some (o 0 1 4)))) ∷ ((u (m.Standard (codes "define-record-type")) (x.Written 0 (codes "define-record-type")) (Some (o 0 1 9)))) ∷ ((u (m.Standard (codes "set!")) (x.Written 0 (codes "set!")) (Some (o 0 1 27)))) ∷ ((u (m.Standard (codes "begin")) (x.Written 0 (codes "begin")) (Some (o 0 1 30)))) ∷ [])) ∷ [])
unfolding base_names
core-159 = refl

pub macros-210 : program_rows false 0 (((t.list (t.tree (t.name (i.Written 0 (codes "set!")) (Some (o 0 0 1))) (t.tree (t.name (i.Written 0 (codes "f")) (Some (o 0 0 2))) (t.tree (t.name (i.Written 0 (codes "k")) (Some (o 0 0 3))) t.no_trees))) t.proper (Some (o 0 0 0)))) ∷ ((t.list (t.tree (t.name (i.Written 0 (codes "quote")) None) (t.tree (t.vector (t.tree (t.name (i.Written 0 (codes "g")) (Some (o 0 1 2))) t.no_trees) (Some (o 0 1 1))) t.no_trees)) t.proper (Some (o 0 1 0)))) ∷ ((t.name (i.Written 0 (codes "n")) (Some (o 0 2 0)))) ∷ ((t.list (t.tree (t.name (i.Written 0 (codes "define-syntax")) (Some (o 0 3 1))) (t.tree (t.name (i.Written 0 (codes "x")) (Some (o 0 3 2))) (t.tree (t.list (t.tree (t.name (i.Written 0 (codes "syntax-rules")) (Some (o 0 3 4))) (t.tree (t.list t.no_trees t.proper (Some (o 0 3 5))) (t.tree (t.list (t.tree (t.list (t.tree (t.name (i.Written 0 (codes "_")) (Some (o 0 3 9))) (t.tree (t.list (t.tree (t.name (i.Written 0 (codes "b")) (Some (o 0 3 11))) (t.tree (t.name (i.Written 0 (codes "n")) (Some (o 0 3 12))) t.no_trees)) t.proper (Some (o 0 3 10))) t.no_trees)) t.proper (Some (o 0 3 8))) (t.tree (t.list (t.tree (t.name (i.Written 0 (codes "begin")) (Some (o 0 3 16))) (t.tree (t.list (t.tree (t.name (i.Written 0 (codes "define")) (Some (o 0 3 18))) (t.tree (t.name (i.Written 0 (codes "b")) (Some (o 0 3 19))) (t.tree (t.list (t.tree (t.name (i.Written 0 (codes "set!")) (Some (o 0 3 21))) (t.tree (t.name (i.Written 0 (codes "n")) (Some (o 0 3 22))) (t.tree (t.name (i.Written 0 (codes "b")) (Some (o 0 3 23))) t.no_trees))) t.proper (Some (o 0 3 20))) t.no_trees))) t.proper (Some (o 0 3 17))) t.no_trees)) t.proper (Some (o 0 3 15))) t.no_trees)) t.proper (Some (o 0 3 7))) (t.tree (t.list (t.tree (t.list (t.tree (t.name (i.Written 0 (codes "_")) (Some (o 0 3 30))) t.no_trees) (t.dotted (t.name (i.Written 0 (codes "rest")) (Some (o 0 3 32)))) (Some (o 0 3 29))) (t.tree (t.list (t.tree (t.list (t.tree (t.name (i.Written 0 (codes "lambda")) (Some (o 0 3 36))) (t.tree (t.list (t.tree (t.name (i.Written 0 (codes "...")) (Some (o 0 3 38))) t.no_trees) t.proper (Some (o 0 3 37))) (t.tree (t.name (i.Written 0 (codes "y")) (Some (o 0 3 40))) t.no_trees))) t.proper (Some (o 0 3 35))) (t.tree (t.name (i.Written 0 (codes "tmp")) (Some (o 0 3 42))) t.no_trees)) t.proper (Some (o 0 3 34))) t.no_trees)) t.proper (Some (o 0 3 28))) (t.tree (t.list (t.tree (t.list (t.tree (t.name (i.Written 0 (codes "_")) (Some (o 0 3 47))) (t.tree (t.name (i.Written 0 (codes "y")) (Some (o 0 3 48))) (t.tree (t.name (i.Written 0 (codes "q")) (Some (o 0 3 49))) t.no_trees))) t.proper (Some (o 0 3 46))) (t.tree (t.name (i.Written 0 (codes "a")) (Some (o 0 3 51))) t.no_trees)) t.proper (Some (o 0 3 45))) t.no_trees))))) t.proper (Some (o 0 3 3))) t.no_trees))) t.proper (Some (o 0 3 0)))) ∷ ((t.list (t.tree (t.name (i.Written 0 (codes "define-syntax")) (Some (o 0 4 1))) (t.tree (t.name (i.Written 0 (codes "a")) (Some (o 0 4 2))) (t.tree (t.list (t.tree (t.name (i.Written 0 (codes "syntax-rules")) (Some (o 0 4 4))) (t.tree (t.list t.no_trees t.proper (Some (o 0 4 5))) (t.tree (t.list (t.tree (t.list (t.tree (t.name (i.Written 0 (codes "_")) (Some (o 0 4 9))) (t.tree (t.list (t.tree (t.name (i.Written 0 (codes "g")) (Some (o 0 4 11))) (t.tree (t.name (i.Written 0 (codes "k")) (Some (o 0 4 12))) t.no_trees)) t.proper (Some (o 0 4 10))) (t.tree (t.name (i.Written 0 (codes "q")) (Some (o 0 4 14))) t.no_trees))) t.proper (Some (o 0 4 8))) (t.tree (t.list (t.tree (t.name (i.Written 0 (codes "define-syntax")) (Some (o 0 4 17))) (t.tree (t.name (i.Written 0 (codes "a")) (Some (o 0 4 18))) (t.tree (t.list (t.tree (t.name (i.Written 0 (codes "syntax-rules")) (Some (o 0 4 20))) (t.tree (t.list t.no_trees t.proper (Some (o 0 4 21))) (t.tree (t.list (t.tree (t.list (t.tree (t.name (i.Written 0 (codes "_")) (Some (o 0 4 25))) (t.tree (t.name (i.Written 0 (codes "k")) (Some (o 0 4 26))) (t.tree (t.list (t.tree (t.name (i.Written 0 (codes "...")) (Some (o 0 4 28))) (t.tree (t.name (i.Written 0 (codes "...")) (Some (o 0 4 29))) t.no_trees)) t.proper (Some (o 0 4 27))) t.no_trees))) t.proper (Some (o 0 4 24))) (t.tree (t.list (t.tree (t.name (i.Written 0 (codes "list")) (Some (o 0 4 33))) (t.tree (t.name (i.Written 0 (codes "k")) (Some (o 0 4 34))) (t.tree (t.list (t.tree (t.name (i.Written 0 (codes "...")) (Some (o 0 4 36))) (t.tree (t.name (i.Written 0 (codes "...")) (Some (o 0 4 37))) t.no_trees)) t.proper (Some (o 0 4 35))) (t.tree (t.name (i.Written 0 (codes "x")) (Some (o 0 4 39))) (t.tree (t.name (i.Written 0 (codes "q")) (Some (o 0 4 40))) t.no_trees))))) t.proper (Some (o 0 4 32))) t.no_trees)) t.proper (Some (o 0 4 23))) t.no_trees))) t.proper (Some (o 0 4 19))) t.no_trees))) t.proper (Some (o 0 4 16))) t.no_trees)) t.proper (Some (o 0 4 7))) (t.tree (t.list (t.tree (t.list (t.tree (t.name (i.Written 0 (codes "_")) (Some (o 0 4 48))) t.no_trees) (t.dotted (t.name (i.Written 0 (codes "rest")) (Some (o 0 4 50)))) (Some (o 0 4 47))) (t.tree (t.list (t.tree (t.name (i.Written 0 (codes "if")) (Some (o 0 4 53))) (t.tree (t.name (i.Written 0 (codes "m")) (Some (o 0 4 54))) (t.tree (t.name (i.Written 0 (codes "m")) (Some (o 0 4 55))) (t.tree (t.name (i.Written 0 (codes "n")) (Some (o 0 4 56))) t.no_trees)))) t.proper (Some (o 0 4 52))) t.no_trees)) t.proper (Some (o 0 4 46))) (t.tree (t.list (t.tree (t.list (t.tree (t.name (i.Written 0 (codes "_")) (Some (o 0 4 61))) (t.tree (t.name (i.Written 0 (codes "y")) (Some (o 0 4 62))) (t.tree (t.name (i.Written 0 (codes "t")) (Some (o 0 4 63))) t.no_trees))) t.proper (Some (o 0 4 60))) (t.tree (t.name (i.Written 0 (codes "y")) (Some (o 0 4 65))) t.no_trees)) t.proper (Some (o 0 4 59))) t.no_trees))))) t.proper (Some (o 0 4 3))) t.no_trees))) t.proper (Some (o 0 4 0)))) ∷ ((t.name (i.Written 0 (codes "m")) (Some (o 0 5 0)))) ∷ []) ≡ ((w (c.part (c.Expression (c.Set (u (m.Free (codes "f")) (x.Written 0 (codes "f")) (Some (o 0 0 2))) (c.Ref (u (m.Free (codes "k")) (x.Written 0 (codes "k")) (Some (o 0 0 3)))))) c.no_parts) 0 2 None (((u (m.Standard (codes "set!")) (x.Written 0 (codes "set!")) (Some (o 0 0 1)))) ∷ [])) ∷ (w (c.part (c.Expression (c.Quote (t.vector (t.tree (t.name (codes "g") (Some (o 0 1 2))) t.no_trees) None))) c.no_parts) 0 3 None (((u (m.Standard (codes "quote")) (x.Written 0 (codes "quote")) None)) ∷ [])) ∷ (w (c.part (c.Expression (c.Ref (u (m.Free (codes "n")) (x.Written 0 (codes "n")) (Some (o 0 2 0))))) c.no_parts) 0 1 None ([])) ∷ (w c.no_parts 0 35 (e 21 (Some (o 0 3 0)) []) ([])) ∷ (w (c.part (c.Syntax (d (b (c.Definition 0 0) (x.Written 0 (codes "a")) (Some (o 0 4 2))) ((l (u (m.Standard (codes "define-syntax")) (x.Written 0 (codes "define-syntax")) (Some (o 0 4 17))) false) ∷ (l (u (m.Global 0 (x.Written 0 (codes "a"))) (x.Written 0 (codes "a")) (Some (o 0 4 18))) false) ∷ (l (u (m.Standard (codes "syntax-rules")) (x.Written 0 (codes "syntax-rules")) (Some (o 0 4 20))) false) ∷ (l (u (m.Standard (codes "_")) (x.Written 0 (codes "_")) (Some (o 0 4 25))) false) ∷ (l (u (m.Standard (codes "...")) (x.Written 0 (codes "...")) (Some (o 0 4 29))) false) ∷ (l (u (m.Standard (codes "list")) (x.Written 0 (codes "list")) (Some (o 0 4 33))) false) ∷ (l (u (m.Standard (codes "...")) (x.Written 0 (codes "...")) (Some (o 0 4 37))) false) ∷ (l (u (m.Free (codes "x")) (x.Written 0 (codes "x")) (Some (o 0 4 39))) false) ∷ (l (u (m.Standard (codes "if")) (x.Written 0 (codes "if")) (Some (o 0 4 53))) false) ∷ (l (u (m.Free (codes "m")) (x.Written 0 (codes "m")) (Some (o 0 4 54))) false) ∷ (l (u (m.Free (codes "m")) (x.Written 0 (codes "m")) (Some (o 0 4 55))) false) ∷ (l (u (m.Free (codes "n")) (x.Written 0 (codes "n")) (Some (o 0 4 56))) false) ∷ []))) c.no_parts) 0 46 None (((u (m.Standard (codes "define-syntax")) (x.Written 0 (codes "define-syntax")) (Some (o 0 4 1)))) ∷ [])) ∷ (w (c.part (c.Expression (c.Ref (u (m.Free (codes "m")) (x.Written 0 (codes "m")) (Some (o 0 5 0))))) c.no_parts) 0 1 None ([])) ∷ [])
unfolding base_names
macros-210 = refl

pub core-216 : program_rows false 0 (((t.list (t.tree (t.name (i.Written 0 (codes "quote")) None) (t.tree (t.list (t.tree (t.atom (t.Numeral (codes "1")) (Some (o 0 0 2))) t.no_trees) t.proper (Some (o 0 0 1))) t.no_trees)) t.proper (Some (o 0 0 0)))) ∷ ((t.list (t.tree (t.name (i.Written 0 (codes "define")) (Some (o 0 1 1))) (t.tree (t.name (i.Written 0 (codes "list")) (Some (o 0 1 2))) (t.tree (t.name (i.Written 0 (codes "n")) (Some (o 0 1 3))) t.no_trees))) t.proper (Some (o 0 1 0)))) ∷ []) ≡ ((w (c.part (c.Expression (c.Quote (t.list (t.tree (t.atom (t.Numeral (codes "1")) None) t.no_trees) t.proper None))) c.no_parts) 0 3 None (((u (m.Standard (codes "quote")) (x.Written 0 (codes "quote")) None)) ∷ [])) ∷ (w (c.part (c.Define (b (c.Definition 0 0) (x.Written 0 (codes "list")) (Some (o 0 1 2))) (c.Ref (u (m.Free (codes "n")) (x.Written 0 (codes "n")) (Some (o 0 1 3))))) c.no_parts) 0 1 None (((u (m.Standard (codes "define")) (x.Written 0 (codes "define")) (Some (o 0 1 1)))) ∷ [])) ∷ [])
unfolding base_names
core-216 = refl

pub macros-230 : program_rows true 1 (((t.list (t.tree (t.name (i.Written 0 (codes "define-syntax")) (Some (o 0 1 1))) (t.tree (t.name (i.Written 0 (codes "t")) (Some (o 0 1 2))) (t.tree (t.list (t.tree (t.name (i.Written 0 (codes "syntax-rules")) (Some (o 0 1 4))) (t.tree (t.list t.no_trees t.proper (Some (o 0 1 5))) (t.tree (t.list (t.tree (t.list (t.tree (t.name (i.Written 0 (codes "_")) (Some (o 0 1 9))) t.no_trees) t.proper (Some (o 0 1 8))) (t.tree (t.list (t.tree (t.name (i.Written 0 (codes "let-syntax")) (Some (o 0 1 12))) (t.tree (t.list (t.tree (t.list (t.tree (t.name (i.Written 0 (codes "y")) (Some (o 0 1 15))) (t.tree (t.list (t.tree (t.name (i.Written 0 (codes "syntax-rules")) (Some (o 0 1 17))) (t.tree (t.list t.no_trees t.proper (Some (o 0 1 18))) (t.tree (t.list (t.tree (t.list (t.tree (t.name (i.Written 0 (codes "_")) (Some (o 0 1 22))) (t.tree (t.name (i.Written 0 (codes "y")) (Some (o 0 1 23))) t.no_trees)) t.proper (Some (o 0 1 21))) (t.tree (t.list (t.tree (t.name (i.Written 0 (codes "list")) (Some (o 0 1 26))) (t.tree (t.name (i.Written 0 (codes "y")) (Some (o 0 1 27))) (t.tree (t.name (i.Written 0 (codes "lambda")) (Some (o 0 1 28))) t.no_trees))) t.proper (Some (o 0 1 25))) t.no_trees)) t.proper (Some (o 0 1 20))) t.no_trees))) t.proper (Some (o 0 1 16))) t.no_trees)) t.proper (Some (o 0 1 14))) t.no_trees) t.proper (Some (o 0 1 13))) (t.tree (t.list (t.tree (t.name (i.Written 0 (codes "y")) (Some (o 0 1 35))) (t.tree (t.name (i.Written 0 (codes "x")) (Some (o 0 1 36))) t.no_trees)) t.proper (Some (o 0 1 34))) t.no_trees))) t.proper (Some (o 0 1 11))) t.no_trees)) t.proper (Some (o 0 1 7))) (t.tree (t.list (t.tree (t.list (t.tree (t.name (i.Written 0 (codes "_")) (Some (o 0 1 42))) (t.tree (t.name (i.Written 0 (codes "t")) (Some (o 0 1 43))) (t.tree (t.name (i.Written 0 (codes "y")) (Some (o 0 1 44))) t.no_trees))) t.proper (Some (o 0 1 41))) (t.tree (t.name (i.Written 0 (codes "y")) (Some (o 0 1 46))) t.no_trees)) t.proper (Some (o 0 1 40))) t.no_trees)))) t.proper (Some (o 0 1 3))) t.no_trees))) t.proper (Some (o 0 1 0)))) ∷ ((t.list (t.tree (t.name (i.Written 0 (codes "quote")) None) (t.tree (t.atom (t.Numeral (codes "1")) (Some (o 0 2 1))) t.no_trees)) t.proper (Some (o 0 2 0)))) ∷ ((t.list (t.tree (t.name (i.Written 0 (codes "define")) (Some (o 0 3 1))) (t.tree (t.list (t.tree (t.name (i.Written 0 (codes "x")) (Some (o 0 3 3))) (t.tree (t.name (i.Written 0 (codes "b")) (Some (o 0 3 4))) t.no_trees)) t.proper (Some (o 0 3 2))) (t.tree (t.list (t.tree (t.name (i.Written 0 (codes "t")) (Some (o 0 3 7))) t.no_trees) t.proper (Some (o 0 3 6))) (t.tree (t.list (t.tree (t.name (i.Written 0 (codes "t")) (Some (o 0 3 10))) t.no_trees) t.proper (Some (o 0 3 9))) t.no_trees)))) t.proper (Some (o 0 3 0)))) ∷ ((t.list (t.tree (t.name (i.Written 0 (codes "define")) (Some (o 0 4 1))) (t.tree (t.name (i.Written 0 (codes "a")) (Some (o 0 4 2))) (t.tree (t.list (t.tree (t.name (i.Written 0 (codes "t")) (Some (o 0 4 4))) t.no_trees) t.proper (Some (o 0 4 3))) t.no_trees))) t.proper (Some (o 0 4 0)))) ∷ ((t.list (t.tree (t.name (i.Written 0 (codes "begin")) (Some (o 0 5 1))) (t.tree (t.list (t.tree (t.name (i.Written 0 (codes "define")) (Some (o 0 5 3))) (t.tree (t.name (i.Written 0 (codes "b")) (Some (o 0 5 4))) (t.tree (t.list (t.tree (t.name (i.Written 0 (codes "let-syntax")) (Some (o 0 5 6))) (t.tree (t.list (t.tree (t.list (t.tree (t.name (i.Written 0 (codes "a")) (Some (o 0 5 9))) (t.tree (t.list (t.tree (t.name (i.Written 0 (codes "syntax-rules")) (Some (o 0 5 11))) (t.tree (t.list t.no_trees t.proper (Some (o 0 5 12))) (t.tree (t.list (t.tree (t.list (t.tree (t.name (i.Written 0 (codes "_")) (Some (o 0 5 16))) (t.tree (t.name (i.Written 0 (codes "n")) (Some (o 0 5 17))) (t.tree (t.name (i.Written 0 (codes "b")) (Some (o 0 5 18))) (t.tree (t.list (t.tree (t.name (i.Written 0 (codes "x")) (Some (o 0 5 20))) (t.tree (t.name (i.Written 0 (codes "y")) (Some (o 0 5 21))) (t.tree (t.name (i.Written 0 (codes "...")) (Some (o 0 5 22))) t.no_trees))) t.proper (Some (o 0 5 19))) (t.tree (t.name (i.Written 0 (codes "...")) (Some (o 0 5 24))) t.no_trees))))) t.proper (Some (o 0 5 15))) (t.tree (t.list (t.tree (t.name (i.Written 0 (codes "begin")) (Some (o 0 5 27))) (t.tree (t.list (t.tree (t.name (i.Written 0 (codes "define")) (Some (o 0 5 29))) (t.tree (t.name (i.Written 0 (codes "b")) (Some (o 0 5 30))) (t.tree (t.name (i.Written 0 (codes "x")) (Some (o 0 5 31))) t.no_trees))) t.proper (Some (o 0 5 28))) t.no_trees)) t.proper (Some (o 0 5 26))) t.no_trees)) t.proper (Some (o 0 5 14))) t.no_trees))) t.proper (Some (o 0 5 10))) t.no_trees)) t.proper (Some (o 0 5 8))) (t.tree (t.list (t.tree (t.name (i.Written 0 (codes "a")) (Some (o 0 5 38))) (t.tree (t.list (t.tree (t.name (i.Written 0 (codes "syntax-rules")) (Some (o 0 5 40))) (t.tree (t.list t.no_trees t.proper (Some (o 0 5 41))) (t.tree (t.list (t.tree (t.list (t.tree (t.name (i.Written 0 (codes "_")) (Some (o 0 5 45))) t.no_trees) t.proper (Some (o 0 5 44))) (t.tree (t.list (t.tree (t.name (i.Written 0 (codes "begin")) (Some (o 0 5 48))) (t.tree (t.list (t.tree (t.name (i.Written 0 (codes "define")) (Some (o 0 5 50))) (t.tree (t.name (i.Written 0 (codes "a")) (Some (o 0 5 51))) (t.tree (t.list (t.tree (t.name (i.Written 0 (codes "lambda")) (Some (o 0 5 53))) (t.tree (t.list (t.tree (t.name (i.Written 0 (codes "y")) (Some (o 0 5 55))) t.no_trees) t.proper (Some (o 0 5 54))) (t.tree (t.list (t.tree (t.name (i.Written 0 (codes "define")) (Some (o 0 5 58))) (t.tree (t.name (i.Written 0 (codes "b")) (Some (o 0 5 59))) (t.tree (t.name (i.Written 0 (codes "y")) (Some (o 0 5 60))) t.no_trees))) t.proper (Some (o 0 5 57))) (t.tree (t.name (i.Written 0 (codes "t")) (Some (o 0 5 62))) t.no_trees)))) t.proper (Some (o 0 5 52))) t.no_trees))) t.proper (Some (o 0 5 49))) t.no_trees)) t.proper (Some (o 0 5 47))) t.no_trees)) t.proper (Some (o 0 5 43))) t.no_trees))) t.proper (Some (o 0 5 39))) t.no_trees)) t.proper (Some (o 0 5 37))) t.no_trees)) t.proper (Some (o 0 5 7))) (t.tree (t.list (t.tree (t.name (i.Written 0 (codes "define")) (Some (o 0 5 71))) (t.tree (t.name (i.Written 0 (codes "b")) (Some (o 0 5 72))) (t.tree (t.name (i.Written 0 (codes "x")) (Some (o 0 5 73))) t.no_trees))) t.proper (Some (o 0 5 70))) (t.tree (t.list (t.tree (t.name (i.Written 0 (codes "t")) (Some (o 0 5 76))) t.no_trees) t.proper (Some (o 0 5 75))) (t.tree (t.list (t.tree (t.name (i.Written 0 (codes "quote")) (Some (o 0 5 79))) (t.tree (t.name (i.Written 0 (codes "t")) (Some (o 0 5 80))) (t.tree (t.name (i.Written 0 (codes "b")) (Some (o 0 5 81))) t.no_trees))) t.proper (Some (o 0 5 78))) t.no_trees))))) t.proper (Some (o 0 5 5))) t.no_trees))) t.proper (Some (o 0 5 2))) (t.tree (t.list (t.tree (t.name (i.Written 0 (codes "define")) (Some (o 0 5 86))) (t.tree (t.name (i.Written 0 (codes "a")) (Some (o 0 5 87))) (t.tree (t.list (t.tree (t.name (i.Written 0 (codes "t")) (Some (o 0 5 89))) t.no_trees) t.proper (Some (o 0 5 88))) t.no_trees))) t.proper (Some (o 0 5 85))) t.no_trees))) t.proper (Some (o 0 5 0)))) ∷ []) ≡ ((w (c.part (c.Syntax (d (b (c.Definition 0 0) (x.Written 0 (codes "t")) (Some (o 0 1 2))) ((l (u (m.Standard (codes "let-syntax")) (x.Written 0 (codes "let-syntax")) (Some (o 0 1 12))) false) ∷ (l (u (m.Free (codes "y")) (x.Written 0 (codes "y")) (Some (o 0 1 15))) false) ∷ (l (u (m.Standard (codes "syntax-rules")) (x.Written 0 (codes "syntax-rules")) (Some (o 0 1 17))) false) ∷ (l (u (m.Standard (codes "_")) (x.Written 0 (codes "_")) (Some (o 0 1 22))) false) ∷ (l (u (m.Free (codes "y")) (x.Written 0 (codes "y")) (Some (o 0 1 23))) false) ∷ (l (u (m.Standard (codes "list")) (x.Written 0 (codes "list")) (Some (o 0 1 26))) false) ∷ (l (u (m.Free (codes "y")) (x.Written 0 (codes "y")) (Some (o 0 1 27))) false) ∷ (l (u (m.Standard (codes "lambda")) (x.Written 0 (codes "lambda")) (Some (o 0 1 28))) false) ∷ (l (u (m.Free (codes "y")) (x.Written 0 (codes "y")) (Some (o 0 1 35))) false) ∷ (l (u (m.Global 0 (x.Written 0 (codes "x"))) (x.Written 0 (codes "x")) (Some (o 0 1 36))) false) ∷ []))) c.no_parts) 0 31 None (((u (m.Standard (codes "define-syntax")) (x.Written 0 (codes "define-syntax")) (Some (o 0 1 1)))) ∷ [])) ∷ (w (c.part (c.Expression (c.Quote (t.atom (t.Numeral (codes "1")) None))) c.no_parts) 0 2 None (((u (m.Standard (codes "quote")) (x.Written 0 (codes "quote")) None)) ∷ [])) ∷ (w c.no_parts 3 60 (e 43 (Some (o 0 3 6)) (codes "lambda")) ([])) ∷ (w c.no_parts 2 39 (e 43 (Some (o 0 4 3)) (codes "lambda")) ([])) ∷ (w c.no_parts 0 1 (e 32 (Some (o 0 5 38)) (codes "a")) ([])) ∷ [])
unfolding base_names
macros-230 = refl

pub core-255 : program_rows false 0 (((t.list (t.tree (t.name (i.Written 0 (codes "define")) (Some (o 0 0 1))) (t.tree (t.name (i.Written 0 (codes "f")) (Some (o 0 0 2))) (t.tree (t.name (i.Written 0 (codes "t")) (Some (o 0 0 3))) t.no_trees))) t.proper (Some (o 0 0 0)))) ∷ ((t.name (i.Written 0 (codes "m")) (Some (o 0 1 0)))) ∷ []) ≡ ((w (c.part (c.Define (b (c.Definition 0 0) (x.Written 0 (codes "f")) (Some (o 0 0 2))) (c.Ref (u (m.Free (codes "t")) (x.Written 0 (codes "t")) (Some (o 0 0 3))))) c.no_parts) 0 1 None (((u (m.Standard (codes "define")) (x.Written 0 (codes "define")) (Some (o 0 0 1)))) ∷ [])) ∷ (w (c.part (c.Expression (c.Ref (u (m.Free (codes "m")) (x.Written 0 (codes "m")) (Some (o 0 1 0))))) c.no_parts) 0 1 None ([])) ∷ [])
unfolding base_names
core-255 = refl

pub core-261 : program_rows false 0 (((t.list (t.tree (t.name (i.Written 0 (codes "quote")) None) (t.tree (t.vector (t.tree (t.vector t.no_trees (Some (o 0 0 2))) (t.tree (t.list t.no_trees t.proper (Some (o 0 0 4))) t.no_trees)) (Some (o 0 0 1))) t.no_trees)) t.proper (Some (o 0 0 0)))) ∷ ((t.list (t.tree (t.name (i.Written 0 (codes "begin")) (Some (o 0 1 1))) (t.tree (t.atom (t.Numeral (codes "2")) (Some (o 0 1 2))) (t.tree (t.list (t.tree (t.name (i.Written 0 (codes "set!")) (Some (o 0 1 4))) (t.tree (t.name (i.Written 0 (codes "f")) (Some (o 0 1 5))) (t.tree (t.list (t.tree (t.name (i.Written 0 (codes "quote")) None) (t.tree (t.name (i.Written 0 (codes "tmp")) (Some (o 0 1 7))) t.no_trees)) t.proper (Some (o 0 1 6))) t.no_trees))) t.proper (Some (o 0 1 3))) t.no_trees))) t.proper (Some (o 0 1 0)))) ∷ []) ≡ ((w (c.part (c.Expression (c.Quote (t.vector (t.tree (t.vector t.no_trees None) (t.tree (t.list t.no_trees t.proper None) t.no_trees)) None))) c.no_parts) 0 4 None (((u (m.Standard (codes "quote")) (x.Written 0 (codes "quote")) None)) ∷ [])) ∷ (w (c.part (c.Expression (c.Const (t.Numeral (codes "2")))) (c.part (c.Expression (c.Set (u (m.Free (codes "f")) (x.Written 0 (codes "f")) (Some (o 0 1 5))) (c.Quote (t.name (codes "tmp") (Some (o 0 1 7)))))) c.no_parts)) 0 6 None (((u (m.Standard (codes "begin")) (x.Written 0 (codes "begin")) (Some (o 0 1 1)))) ∷ ((u (m.Standard (codes "set!")) (x.Written 0 (codes "set!")) (Some (o 0 1 4)))) ∷ ((u (m.Standard (codes "quote")) (x.Written 0 (codes "quote")) None)) ∷ [])) ∷ [])
unfolding base_names
core-261 = refl

pub macros-291 : program_rows false 0 (((t.list (t.tree (t.name (i.Written 0 (codes "define-syntax")) (Some (o 0 0 1))) (t.tree (t.name (i.Written 0 (codes "x")) (Some (o 0 0 2))) (t.tree (t.list (t.tree (t.name (i.Written 0 (codes "syntax-rules")) (Some (o 0 0 4))) (t.tree (t.list t.no_trees t.proper (Some (o 0 0 5))) (t.tree (t.list (t.tree (t.list (t.tree (t.name (i.Written 0 (codes "_")) (Some (o 0 0 9))) (t.tree (t.list (t.tree (t.name (i.Written 0 (codes "b")) (Some (o 0 0 11))) (t.tree (t.name (i.Written 0 (codes "f")) (Some (o 0 0 12))) t.no_trees)) t.proper (Some (o 0 0 10))) (t.tree (t.name (i.Written 0 (codes "...")) (Some (o 0 0 14))) t.no_trees))) t.proper (Some (o 0 0 8))) (t.tree (t.list (t.tree (t.name (i.Written 0 (codes "begin")) (Some (o 0 0 17))) (t.tree (t.list (t.tree (t.name (i.Written 0 (codes "define")) (Some (o 0 0 19))) (t.tree (t.name (i.Written 0 (codes "t")) (Some (o 0 0 20))) (t.tree (t.list (t.tree (t.name (i.Written 0 (codes "set!")) (Some (o 0 0 22))) (t.tree (t.name (i.Written 0 (codes "y")) (Some (o 0 0 23))) (t.tree (t.name (i.Written 0 (codes "t")) (Some (o 0 0 24))) t.no_trees))) t.proper (Some (o 0 0 21))) t.no_trees))) t.proper (Some (o 0 0 18))) t.no_trees)) t.proper (Some (o 0 0 16))) t.no_trees)) t.proper (Some (o 0 0 7))) t.no_trees))) t.proper (Some (o 0 0 3))) t.no_trees))) t.proper (Some (o 0 0 0)))) ∷ ((t.list (t.tree (t.name (i.Written 0 (codes "x")) (Some (o 0 1 1))) t.no_trees) t.proper (Some (o 0 1 0)))) ∷ ((t.list (t.tree (t.name (i.Written 0 (codes "define")) (Some (o 0 2 1))) (t.tree (t.name (i.Written 0 (codes "lambda")) (Some (o 0 2 2))) (t.tree (t.list (t.tree (t.name (i.Written 0 (codes "begin")) (Some (o 0 2 4))) (t.tree (t.atom (t.Boolean true) (Some (o 0 2 5))) (t.tree (t.name (i.Written 0 (codes "t")) (Some (o 0 2 6))) t.no_trees))) t.proper (Some (o 0 2 3))) t.no_trees))) t.proper (Some (o 0 2 0)))) ∷ []) ≡ ((w (c.part (c.Syntax (d (b (c.Definition 0 0) (x.Written 0 (codes "x")) (Some (o 0 0 2))) ((l (u (m.Standard (codes "begin")) (x.Written 0 (codes "begin")) (Some (o 0 0 17))) false) ∷ (l (u (m.Standard (codes "define")) (x.Written 0 (codes "define")) (Some (o 0 0 19))) false) ∷ (l (u (m.Free (codes "t")) (x.Written 0 (codes "t")) (Some (o 0 0 20))) false) ∷ (l (u (m.Standard (codes "set!")) (x.Written 0 (codes "set!")) (Some (o 0 0 22))) false) ∷ (l (u (m.Free (codes "y")) (x.Written 0 (codes "y")) (Some (o 0 0 23))) false) ∷ (l (u (m.Free (codes "t")) (x.Written 0 (codes "t")) (Some (o 0 0 24))) false) ∷ []))) c.no_parts) 0 19 None (((u (m.Standard (codes "define-syntax")) (x.Written 0 (codes "define-syntax")) (Some (o 0 0 1)))) ∷ [])) ∷ (w (c.part (c.Define (b (c.Definition 0 1) (x.Written 0 (codes "t")) (Some (o 0 0 20))) (c.Set (u (m.Free (codes "y")) (x.Written 0 (codes "y")) (Some (o 0 0 23))) (c.Ref (u (m.Global 0 (x.Inserted (x.Written 0 (codes "t")) (n 0 1 0))) (x.Written 0 (codes "t")) (Some (o 0 0 24)))))) c.no_parts) 1 12 None (((u (m.Standard (codes "begin")) (x.Written 0 (codes "begin")) (Some (o 0 0 17)))) ∷ ((u (m.Standard (codes "define")) (x.Written 0 (codes "define")) (Some (o 0 0 19)))) ∷ ((u (m.Standard (codes "set!")) (x.Written 0 (codes "set!")) (Some (o 0 0 22)))) ∷ [])) ∷ (w (c.part (c.Define (b (c.Definition 0 2) (x.Written 0 (codes "lambda")) (Some (o 0 2 2))) (c.Body (c.part (c.Expression (c.Const (t.Boolean true))) (c.part (c.Expression (c.Ref (u (m.Free (codes "t")) (x.Written 0 (codes "t")) (Some (o 0 2 6))))) c.no_parts)))) c.no_parts) 0 4 None (((u (m.Standard (codes "define")) (x.Written 0 (codes "define")) (Some (o 0 2 1)))) ∷ ((u (m.Standard (codes "begin")) (x.Written 0 (codes "begin")) (Some (o 0 2 4)))) ∷ [])) ∷ [])
unfolding base_names
macros-291 = refl

pub macros-302 : program_rows true 1 (((t.list (t.tree (t.name (i.Written 0 (codes "begin")) (Some (o 0 1 1))) (t.tree (t.list (t.tree (t.name (i.Written 0 (codes "lambda")) (Some (o 0 1 3))) (t.tree (t.list (t.tree (t.name (i.Written 0 (codes "y")) (Some (o 0 1 5))) (t.tree (t.name (i.Written 0 (codes "k")) (Some (o 0 1 6))) t.no_trees)) t.proper (Some (o 0 1 4))) (t.tree (t.list (t.tree (t.name (i.Written 0 (codes "define-values")) (Some (o 0 1 9))) (t.tree (t.list (t.tree (t.name (i.Written 0 (codes "k")) (Some (o 0 1 11))) (t.tree (t.name (i.Written 0 (codes "a")) (Some (o 0 1 12))) t.no_trees)) t.proper (Some (o 0 1 10))) (t.tree (t.list (t.tree (t.name (i.Written 0 (codes "if")) (Some (o 0 1 15))) (t.tree (t.name (i.Written 0 (codes "y")) (Some (o 0 1 16))) (t.tree (t.name (i.Written 0 (codes "b")) (Some (o 0 1 17))) t.no_trees))) t.proper (Some (o 0 1 14))) t.no_trees))) t.proper (Some (o 0 1 8))) (t.tree (t.list (t.tree (t.name (i.Written 0 (codes "set!")) (Some (o 0 1 21))) (t.tree (t.name (i.Written 0 (codes "tmp")) (Some (o 0 1 22))) (t.tree (t.name (i.Written 0 (codes "n")) (Some (o 0 1 23))) t.no_trees))) t.proper (Some (o 0 1 20))) (t.tree (t.list (t.tree (t.name (i.Written 0 (codes "begin")) (Some (o 0 1 26))) (t.tree (t.atom (t.Numeral (codes "1")) (Some (o 0 1 27))) (t.tree (t.name (i.Written 0 (codes "t")) (Some (o 0 1 28))) t.no_trees))) t.proper (Some (o 0 1 25))) t.no_trees))))) t.proper (Some (o 0 1 2))) (t.tree (t.atom (t.Boolean true) (Some (o 0 1 31))) t.no_trees))) t.proper (Some (o 0 1 0)))) ∷ ((t.list (t.tree (t.name (i.Written 0 (codes "define-syntax")) (Some (o 0 2 1))) (t.tree (t.name (i.Written 0 (codes "m")) (Some (o 0 2 2))) (t.tree (t.list (t.tree (t.name (i.Written 0 (codes "syntax-rules")) (Some (o 0 2 4))) (t.tree (t.list t.no_trees t.proper (Some (o 0 2 5))) (t.tree (t.list (t.tree (t.list (t.tree (t.name (i.Written 0 (codes "_")) (Some (o 0 2 9))) (t.tree (t.list (t.tree (t.name (i.Written 0 (codes "y")) (Some (o 0 2 11))) (t.tree (t.name (i.Written 0 (codes "y")) (Some (o 0 2 12))) (t.tree (t.name (i.Written 0 (codes "...")) (Some (o 0 2 13))) t.no_trees))) t.proper (Some (o 0 2 10))) (t.tree (t.name (i.Written 0 (codes "...")) (Some (o 0 2 15))) (t.tree (t.list (t.tree (t.name (i.Written 0 (codes "y")) (Some (o 0 2 17))) (t.tree (t.name (i.Written 0 (codes "k")) (Some (o 0 2 18))) t.no_trees)) t.proper (Some (o 0 2 16))) t.no_trees)))) t.proper (Some (o 0 2 8))) (t.tree (t.list (t.tree (t.name (i.Written 0 (codes "begin")) (Some (o 0 2 22))) (t.tree (t.list (t.tree (t.name (i.Written 0 (codes "define")) (Some (o 0 2 24))) (t.tree (t.name (i.Written 0 (codes "y")) (Some (o 0 2 25))) (t.tree (t.list (t.tree (t.name (i.Written 0 (codes "if")) (Some (o 0 2 27))) (t.tree (t.name (i.Written 0 (codes "tmp")) (Some (o 0 2 28))) (t.tree (t.name (i.Written 0 (codes "k")) (Some (o 0 2 29))) (t.tree (t.name (i.Written 0 (codes "k")) (Some (o 0 2 30))) t.no_trees)))) t.proper (Some (o 0 2 26))) t.no_trees))) t.proper (Some (o 0 2 23))) t.no_trees)) t.proper (Some (o 0 2 21))) t.no_trees)) t.proper (Some (o 0 2 7))) (t.tree (t.list (t.tree (t.list (t.tree (t.name (i.Written 0 (codes "_")) (Some (o 0 2 37))) t.no_trees) (t.dotted (t.name (i.Written 0 (codes "rest")) (Some (o 0 2 39)))) (Some (o 0 2 36))) (t.tree (t.name (i.Written 0 (codes "k")) (Some (o 0 2 41))) t.no_trees)) t.proper (Some (o 0 2 35))) t.no_trees)))) t.proper (Some (o 0 2 3))) t.no_trees))) t.proper (Some (o 0 2 0)))) ∷ []) ≡ ((w (c.part (c.Expression (c.Lambda (bs (((b (c.LocalNumber (n 0 1 0)) (x.Written 0 (codes "y")) (Some (o 0 1 5)))) ∷ ((b (c.LocalNumber (n 0 1 1)) (x.Written 0 (codes "k")) (Some (o 0 1 6)))) ∷ []) false) (c.Body (c.part (c.Values (bs (((b (c.LocalNumber (n 0 1 2)) (x.Written 0 (codes "k")) (Some (o 0 1 11)))) ∷ ((b (c.LocalNumber (n 0 1 3)) (x.Written 0 (codes "a")) (Some (o 0 1 12)))) ∷ []) false) (c.If (c.core (c.Ref (u (m.Local (n 0 1 0)) (x.Written 0 (codes "y")) (Some (o 0 1 16)))) (c.core (c.Ref (u (m.Free (codes "b")) (x.Written 0 (codes "b")) (Some (o 0 1 17)))) c.no_cores)))) (c.part (c.Expression (c.Set (u (m.Free (codes "tmp")) (x.Written 0 (codes "tmp")) (Some (o 0 1 22))) (c.Ref (u (m.Free (codes "n")) (x.Written 0 (codes "n")) (Some (o 0 1 23)))))) (c.part (c.Expression (c.Const (t.Numeral (codes "1")))) (c.part (c.Expression (c.Ref (u (m.Free (codes "t")) (x.Written 0 (codes "t")) (Some (o 0 1 28))))) c.no_parts))))))) (c.part (c.Expression (c.Const (t.Boolean true))) c.no_parts)) 0 14 None (((u (m.Standard (codes "begin")) (x.Written 0 (codes "begin")) (Some (o 0 1 1)))) ∷ ((u (m.Standard (codes "lambda")) (x.Written 0 (codes "lambda")) (Some (o 0 1 3)))) ∷ ((u (m.Standard (codes "define-values")) (x.Written 0 (codes "define-values")) (Some (o 0 1 9)))) ∷ ((u (m.Standard (codes "begin")) (x.Written 0 (codes "begin")) (Some (o 0 1 26)))) ∷ ((u (m.Standard (codes "if")) (x.Written 0 (codes "if")) (Some (o 0 1 15)))) ∷ ((u (m.Standard (codes "set!")) (x.Written 0 (codes "set!")) (Some (o 0 1 21)))) ∷ [])) ∷ (w c.no_parts 0 29 (e 23 (Some (o 0 2 12)) (codes "y")) ([])) ∷ [])
unfolding base_names
macros-302 = refl

pub macros-305 : program_rows true 1 (((t.list (t.tree (t.name (i.Written 0 (codes "define-syntax")) (Some (o 0 1 1))) (t.tree (t.name (i.Written 0 (codes "t")) (Some (o 0 1 2))) (t.tree (t.list (t.tree (t.name (i.Written 0 (codes "syntax-rules")) (Some (o 0 1 4))) (t.tree (t.list t.no_trees t.proper (Some (o 0 1 5))) (t.tree (t.list (t.tree (t.list (t.tree (t.name (i.Written 0 (codes "_")) (Some (o 0 1 9))) (t.tree (t.name (i.Written 0 (codes "x")) (Some (o 0 1 10))) (t.tree (t.name (i.Written 0 (codes "...")) (Some (o 0 1 11))) t.no_trees))) t.proper (Some (o 0 1 8))) (t.tree (t.list (t.tree (t.name (i.Written 0 (codes "begin")) (Some (o 0 1 14))) (t.tree (t.list (t.tree (t.name (i.Written 0 (codes "define")) (Some (o 0 1 16))) (t.tree (t.name (i.Written 0 (codes "y")) (Some (o 0 1 17))) (t.tree (t.list (t.tree (t.name (i.Written 0 (codes "quote")) None) (t.tree (t.list (t.tree (t.name (i.Written 0 (codes "x")) (Some (o 0 1 20))) (t.tree (t.list (t.tree (t.name (i.Written 0 (codes "y")) (Some (o 0 1 22))) (t.tree (t.name (i.Written 0 (codes "x")) (Some (o 0 1 23))) t.no_trees)) t.proper (Some (o 0 1 21))) (t.tree (t.name (i.Written 0 (codes "...")) (Some (o 0 1 25))) t.no_trees))) t.proper (Some (o 0 1 19))) t.no_trees)) t.proper (Some (o 0 1 18))) t.no_trees))) t.proper (Some (o 0 1 15))) t.no_trees)) t.proper (Some (o 0 1 13))) t.no_trees)) t.proper (Some (o 0 1 7))) (t.tree (t.list (t.tree (t.list (t.tree (t.name (i.Written 0 (codes "_")) (Some (o 0 1 32))) t.no_trees) (t.dotted (t.name (i.Written 0 (codes "rest")) (Some (o 0 1 34)))) (Some (o 0 1 31))) (t.tree (t.list (t.tree (t.name (i.Written 0 (codes "let-syntax")) (Some (o 0 1 37))) (t.tree (t.list (t.tree (t.list (t.tree (t.name (i.Written 0 (codes "t")) (Some (o 0 1 40))) (t.tree (t.list (t.tree (t.name (i.Written 0 (codes "syntax-rules")) (Some (o 0 1 42))) (t.tree (t.list t.no_trees t.proper (Some (o 0 1 43))) (t.tree (t.list (t.tree (t.list (t.tree (t.name (i.Written 0 (codes "_")) (Some (o 0 1 47))) (t.tree (t.name (i.Written 0 (codes "t")) (Some (o 0 1 48))) t.no_trees)) t.proper (Some (o 0 1 46))) (t.tree (t.list (t.tree (t.name (i.Written 0 (codes "list")) (Some (o 0 1 51))) (t.tree (t.name (i.Written 0 (codes "y")) (Some (o 0 1 52))) (t.tree (t.name (i.Written 0 (codes "t")) (Some (o 0 1 53))) t.no_trees))) t.proper (Some (o 0 1 50))) t.no_trees)) t.proper (Some (o 0 1 45))) t.no_trees))) t.proper (Some (o 0 1 41))) t.no_trees)) t.proper (Some (o 0 1 39))) t.no_trees) t.proper (Some (o 0 1 38))) (t.tree (t.list (t.tree (t.name (i.Written 0 (codes "t")) (Some (o 0 1 60))) (t.tree (t.name (i.Written 0 (codes "t")) (Some (o 0 1 61))) t.no_trees)) t.proper (Some (o 0 1 59))) t.no_trees))) t.proper (Some (o 0 1 36))) t.no_trees)) t.proper (Some (o 0 1 30))) t.no_trees)))) t.proper (Some (o 0 1 3))) t.no_trees))) t.proper (Some (o 0 1 0)))) ∷ []) ≡ ((w c.no_parts 0 44 (e 24 (Some (o 0 1 20)) (codes "x")) ([])) ∷ [])
unfolding base_names
macros-305 = refl

pub macros-313 : program_rows false 0 (((t.list (t.tree (t.name (i.Written 0 (codes "define-syntax")) (Some (o 0 0 1))) (t.tree (t.name (i.Written 0 (codes "t")) (Some (o 0 0 2))) (t.tree (t.list (t.tree (t.name (i.Written 0 (codes "syntax-rules")) (Some (o 0 0 4))) (t.tree (t.name (i.Written 0 (codes ":::")) (Some (o 0 0 5))) (t.tree (t.list t.no_trees t.proper (Some (o 0 0 6))) (t.tree (t.list (t.tree (t.list (t.tree (t.name (i.Written 0 (codes "_")) (Some (o 0 0 10))) (t.tree (t.list (t.tree (t.name (i.Written 0 (codes "f")) (Some (o 0 0 12))) (t.tree (t.name (i.Written 0 (codes "tmp")) (Some (o 0 0 13))) (t.tree (t.name (i.Written 0 (codes ":::")) (Some (o 0 0 14))) t.no_trees))) t.proper (Some (o 0 0 11))) (t.tree (t.name (i.Written 0 (codes ":::")) (Some (o 0 0 16))) (t.tree (t.name (i.Written 0 (codes "y")) (Some (o 0 0 17))) t.no_trees)))) t.proper (Some (o 0 0 9))) (t.tree (t.list (t.tree (t.name (i.Written 0 (codes "begin")) (Some (o 0 0 20))) (t.tree (t.list (t.tree (t.name (i.Written 0 (codes "define")) (Some (o 0 0 22))) (t.tree (t.name (i.Written 0 (codes "y")) (Some (o 0 0 23))) (t.tree (t.list (t.tree (t.name (i.Written 0 (codes "quote")) None) (t.tree (t.list (t.tree (t.name (i.Written 0 (codes "y")) (Some (o 0 0 26))) (t.tree (t.name (i.Written 0 (codes "tmp")) (Some (o 0 0 27))) (t.tree (t.name (i.Written 0 (codes ":::")) (Some (o 0 0 28))) (t.tree (t.name (i.Written 0 (codes ":::")) (Some (o 0 0 29))) t.no_trees)))) t.proper (Some (o 0 0 25))) t.no_trees)) t.proper (Some (o 0 0 24))) t.no_trees))) t.proper (Some (o 0 0 21))) (t.tree (t.list (t.tree (t.name (i.Written 0 (codes "define")) (Some (o 0 0 33))) (t.tree (t.name (i.Written 0 (codes "y")) (Some (o 0 0 34))) (t.tree (t.list (t.tree (t.name (i.Written 0 (codes "let-syntax")) (Some (o 0 0 36))) (t.tree (t.list (t.tree (t.list (t.tree (t.name (i.Written 0 (codes "k")) (Some (o 0 0 39))) (t.tree (t.list (t.tree (t.name (i.Written 0 (codes "syntax-rules")) (Some (o 0 0 41))) (t.tree (t.list t.no_trees t.proper (Some (o 0 0 42))) (t.tree (t.list (t.tree (t.list (t.tree (t.name (i.Written 0 (codes "_")) (Some (o 0 0 46))) (t.tree (t.name (i.Written 0 (codes "a")) (Some (o 0 0 47))) t.no_trees)) t.proper (Some (o 0 0 45))) (t.tree (t.list (t.tree (t.name (i.Written 0 (codes "list")) (Some (o 0 0 50))) (t.tree (t.name (i.Written 0 (codes "b")) (Some (o 0 0 51))) (t.tree (t.name (i.Written 0 (codes "y")) (Some (o 0 0 52))) t.no_trees))) t.proper (Some (o 0 0 49))) t.no_trees)) t.proper (Some (o 0 0 44))) t.no_trees))) t.proper (Some (o 0 0 40))) t.no_trees)) t.proper (Some (o 0 0 38))) t.no_trees) t.proper (Some (o 0 0 37))) (t.tree (t.list (t.tree (t.name (i.Written 0 (codes "k")) (Some (o 0 0 59))) (t.tree (t.name (i.Written 0 (codes "y")) (Some (o 0 0 60))) t.no_trees)) t.proper (Some (o 0 0 58))) t.no_trees))) t.proper (Some (o 0 0 35))) t.no_trees))) t.proper (Some (o 0 0 32))) t.no_trees))) t.proper (Some (o 0 0 19))) t.no_trees)) t.proper (Some (o 0 0 8))) t.no_trees)))) t.proper (Some (o 0 0 3))) t.no_trees))) t.proper (Some (o 0 0 0)))) ∷ ((t.list (t.tree (t.name (i.Written 0 (codes "t")) (Some (o 0 1 1))) t.no_trees) t.proper (Some (o 0 1 0)))) ∷ []) ≡ ((w (c.part (c.Syntax (d (b (c.Definition 0 0) (x.Written 0 (codes "t")) (Some (o 0 0 2))) ((l (u (m.Standard (codes "begin")) (x.Written 0 (codes "begin")) (Some (o 0 0 20))) false) ∷ (l (u (m.Standard (codes "define")) (x.Written 0 (codes "define")) (Some (o 0 0 22))) false) ∷ (l (u (m.Standard (codes "quote")) (x.Written 0 (codes "quote")) None) false) ∷ (l (u (m.Standard (codes "define")) (x.Written 0 (codes "define")) (Some (o 0 0 33))) false) ∷ (l (u (m.Standard (codes "let-syntax")) (x.Written 0 (codes "let-syntax")) (Some (o 0 0 36))) false) ∷ (l (u (m.Free (codes "k")) (x.Written 0 (codes "k")) (Some (o 0 0 39))) false) ∷ (l (u (m.Standard (codes "syntax-rules")) (x.Written 0 (codes "syntax-rules")) (Some (o 0 0 41))) false) ∷ (l (u (m.Standard (codes "_")) (x.Written 0 (codes "_")) (Some (o 0 0 46))) false) ∷ (l (u (m.Free (codes "a")) (x.Written 0 (codes "a")) (Some (o 0 0 47))) false) ∷ (l (u (m.Standard (codes "list")) (x.Written 0 (codes "list")) (Some (o 0 0 50))) false) ∷ (l (u (m.Free (codes "b")) (x.Written 0 (codes "b")) (Some (o 0 0 51))) false) ∷ (l (u (m.Free (codes "k")) (x.Written 0 (codes "k")) (Some (o 0 0 59))) false) ∷ []))) c.no_parts) 0 47 None (((u (m.Standard (codes "define-syntax")) (x.Written 0 (codes "define-syntax")) (Some (o 0 0 1)))) ∷ [])) ∷ (w c.no_parts 1 0 (e 26 (Some (o 0 1 1)) (codes "t")) ([])) ∷ [])
unfolding base_names
macros-313 = refl

pub core-322 : program_rows true 1 (((t.list (t.tree (t.name (i.Written 0 (codes "define")) (Some (o 0 1 1))) (t.tree (t.name (i.Written 0 (codes "q")) (Some (o 0 1 2))) (t.tree (t.name (i.Written 0 (codes "a")) (Some (o 0 1 3))) t.no_trees))) t.proper (Some (o 0 1 0)))) ∷ ((t.name (i.Written 0 (codes "n")) (Some (o 0 2 0)))) ∷ ((t.list (t.tree (t.name (i.Written 0 (codes "q")) (Some (o 0 3 1))) t.no_trees) t.proper (Some (o 0 3 0)))) ∷ []) ≡ ((w (c.part (c.Define (b (c.Definition 0 0) (x.Written 0 (codes "q")) (Some (o 0 1 2))) (c.Ref (u (m.Free (codes "a")) (x.Written 0 (codes "a")) (Some (o 0 1 3))))) c.no_parts) 0 1 None (((u (m.Standard (codes "define")) (x.Written 0 (codes "define")) (Some (o 0 1 1)))) ∷ [])) ∷ (w (c.part (c.Expression (c.Ref (u (m.Free (codes "n")) (x.Written 0 (codes "n")) (Some (o 0 2 0))))) c.no_parts) 0 1 None ([])) ∷ (w (c.part (c.Expression (c.Call (c.core (c.Ref (u (m.Global 0 (x.Written 0 (codes "q"))) (x.Written 0 (codes "q")) (Some (o 0 3 1)))) c.no_cores))) c.no_parts) 0 2 None ([])) ∷ [])
unfolding base_names
core-322 = refl

pub macros-329 : program_rows true 1 (((t.list (t.tree (t.name (i.Written 0 (codes "define-syntax")) (Some (o 0 1 1))) (t.tree (t.name (i.Written 0 (codes "y")) (Some (o 0 1 2))) (t.tree (t.list (t.tree (t.name (i.Written 0 (codes "syntax-rules")) (Some (o 0 1 4))) (t.tree (t.list t.no_trees t.proper (Some (o 0 1 5))) (t.tree (t.list (t.tree (t.list (t.tree (t.name (i.Written 0 (codes "_")) (Some (o 0 1 9))) t.no_trees) t.proper (Some (o 0 1 8))) (t.tree (t.list (t.tree (t.name (i.Written 0 (codes "set!")) (Some (o 0 1 12))) (t.tree (t.name (i.Written 0 (codes "t")) (Some (o 0 1 13))) (t.tree (t.name (i.Written 0 (codes "y")) (Some (o 0 1 14))) t.no_trees))) t.proper (Some (o 0 1 11))) t.no_trees)) t.proper (Some (o 0 1 7))) t.no_trees))) t.proper (Some (o 0 1 3))) t.no_trees))) t.proper (Some (o 0 1 0)))) ∷ ((t.name (i.Written 0 (codes "t")) (Some (o 0 2 0)))) ∷ ((t.name (i.Written 0 (codes "x")) (Some (o 0 3 0)))) ∷ ((t.atom (t.Boolean true) (Some (o 0 4 0)))) ∷ []) ≡ ((w (c.part (c.Syntax (d (b (c.Definition 0 0) (x.Written 0 (codes "y")) (Some (o 0 1 2))) ((l (u (m.Standard (codes "set!")) (x.Written 0 (codes "set!")) (Some (o 0 1 12))) false) ∷ (l (u (m.Free (codes "t")) (x.Written 0 (codes "t")) (Some (o 0 1 13))) false) ∷ (l (u (m.Global 0 (x.Written 0 (codes "y"))) (x.Written 0 (codes "y")) (Some (o 0 1 14))) false) ∷ []))) c.no_parts) 0 10 None (((u (m.Standard (codes "define-syntax")) (x.Written 0 (codes "define-syntax")) (Some (o 0 1 1)))) ∷ [])) ∷ (w (c.part (c.Expression (c.Ref (u (m.Free (codes "t")) (x.Written 0 (codes "t")) (Some (o 0 2 0))))) c.no_parts) 0 1 None ([])) ∷ (w (c.part (c.Expression (c.Ref (u (m.Free (codes "x")) (x.Written 0 (codes "x")) (Some (o 0 3 0))))) c.no_parts) 0 1 None ([])) ∷ (w (c.part (c.Expression (c.Const (t.Boolean true))) c.no_parts) 0 2 None ([])) ∷ [])
unfolding base_names
macros-329 = refl

pub core-370 : program_rows false 0 (((t.list (t.tree (t.name (i.Written 0 (codes "quote")) None) (t.tree (t.name (i.Written 0 (codes "tmp")) (Some (o 0 0 1))) t.no_trees)) t.proper (Some (o 0 0 0)))) ∷ ((t.list (t.tree (t.name (i.Written 0 (codes "if")) (Some (o 0 1 1))) (t.tree (t.list (t.tree (t.name (i.Written 0 (codes "lambda")) (Some (o 0 1 3))) (t.tree (t.list (t.tree (t.name (i.Written 0 (codes "y")) (Some (o 0 1 5))) (t.tree (t.name (i.Written 0 (codes "f")) (Some (o 0 1 6))) t.no_trees)) t.proper (Some (o 0 1 4))) (t.tree (t.list (t.tree (t.name (i.Written 0 (codes "quote")) None) (t.tree (t.atom (t.Boolean true) (Some (o 0 1 9))) t.no_trees)) t.proper (Some (o 0 1 8))) t.no_trees))) t.proper (Some (o 0 1 2))) (t.tree (t.list (t.tree (t.list (t.tree (t.name (i.Written 0 (codes "quote")) None) (t.tree (t.name (i.Written 0 (codes "a")) (Some (o 0 1 13))) t.no_trees)) t.proper (Some (o 0 1 12))) t.no_trees) t.proper (Some (o 0 1 11))) t.no_trees))) t.proper (Some (o 0 1 0)))) ∷ []) ≡ ((w (c.part (c.Expression (c.Quote (t.name (codes "tmp") (Some (o 0 0 1))))) c.no_parts) 0 2 None (((u (m.Standard (codes "quote")) (x.Written 0 (codes "quote")) None)) ∷ [])) ∷ (w (c.part (c.Expression (c.If (c.core (c.Lambda (bs (((b (c.LocalNumber (n 0 1 0)) (x.Written 0 (codes "y")) (Some (o 0 1 5)))) ∷ ((b (c.LocalNumber (n 0 1 1)) (x.Written 0 (codes "f")) (Some (o 0 1 6)))) ∷ []) false) (c.Body (c.part (c.Expression (c.Quote (t.atom (t.Boolean true) None))) c.no_parts))) (c.core (c.Call (c.core (c.Quote (t.name (codes "a") (Some (o 0 1 13)))) c.no_cores)) c.no_cores)))) c.no_parts) 0 8 None (((u (m.Standard (codes "if")) (x.Written 0 (codes "if")) (Some (o 0 1 1)))) ∷ ((u (m.Standard (codes "lambda")) (x.Written 0 (codes "lambda")) (Some (o 0 1 3)))) ∷ ((u (m.Standard (codes "quote")) (x.Written 0 (codes "quote")) None)) ∷ ((u (m.Standard (codes "quote")) (x.Written 0 (codes "quote")) None)) ∷ [])) ∷ [])
unfolding base_names
core-370 = refl

pub core-393 : program_rows true 1 (((t.list (t.tree (t.name (i.Written 0 (codes "define")) (Some (o 0 1 1))) (t.tree (t.name (i.Written 0 (codes "y")) (Some (o 0 1 2))) (t.tree (t.atom (t.Numeral (codes "1")) (Some (o 0 1 3))) t.no_trees))) t.proper (Some (o 0 1 0)))) ∷ ((t.list (t.tree (t.name (i.Written 0 (codes "define")) (Some (o 0 2 1))) (t.tree (t.name (i.Written 0 (codes "t")) (Some (o 0 2 2))) (t.tree (t.list (t.tree (t.name (i.Written 0 (codes "quote")) None) (t.tree (t.atom (t.Boolean true) (Some (o 0 2 4))) t.no_trees)) t.proper (Some (o 0 2 3))) t.no_trees))) t.proper (Some (o 0 2 0)))) ∷ ((t.list (t.tree (t.list (t.tree (t.name (i.Written 0 (codes "quasiquote")) None) (t.tree (t.list (t.tree (t.name (i.Written 0 (codes "t")) (Some (o 0 3 3))) (t.tree (t.list (t.tree (t.name (i.Written 0 (codes "unquote")) None) (t.tree (t.list (t.tree (t.name (i.Written 0 (codes "y")) (Some (o 0 3 6))) (t.tree (t.name (i.Written 0 (codes "y")) (Some (o 0 3 7))) t.no_trees)) t.proper (Some (o 0 3 5))) t.no_trees)) t.proper (Some (o 0 3 4))) (t.tree (t.list (t.tree (t.name (i.Written 0 (codes "unquote-splicing")) None) (t.tree (t.list (t.tree (t.name (i.Written 0 (codes "case-lambda")) (Some (o 0 3 11))) (t.tree (t.list (t.tree (t.list (t.tree (t.name (i.Written 0 (codes "t")) (Some (o 0 3 14))) t.no_trees) t.proper (Some (o 0 3 13))) (t.tree (t.name (i.Written 0 (codes "x")) (Some (o 0 3 16))) t.no_trees)) t.proper (Some (o 0 3 12))) (t.tree (t.list (t.tree (t.list (t.tree (t.name (i.Written 0 (codes "t")) (Some (o 0 3 20))) t.no_trees) (t.dotted (t.name (i.Written 0 (codes "y")) (Some (o 0 3 22)))) (Some (o 0 3 19))) (t.tree (t.name (i.Written 0 (codes "y")) (Some (o 0 3 24))) t.no_trees)) t.proper (Some (o 0 3 18))) t.no_trees))) t.proper (Some (o 0 3 10))) t.no_trees)) t.proper (Some (o 0 3 9))) t.no_trees))) (t.dotted (t.name (i.Written 0 (codes "t")) (Some (o 0 3 28)))) (Some (o 0 3 2))) t.no_trees)) t.proper (Some (o 0 3 1))) t.no_trees) t.proper (Some (o 0 3 0)))) ∷ []) ≡ ((w (c.part (c.Define (b (c.Definition 0 0) (x.Written 0 (codes "y")) (Some (o 0 1 2))) (c.Const (t.Numeral (codes "1")))) c.no_parts) 0 2 None (((u (m.Standard (codes "define")) (x.Written 0 (codes "define")) (Some (o 0 1 1)))) ∷ [])) ∷ (w (c.part (c.Define (b (c.Definition 0 1) (x.Written 0 (codes "t")) (Some (o 0 2 2))) (c.Quote (t.atom (t.Boolean true) None))) c.no_parts) 0 2 None (((u (m.Standard (codes "define")) (x.Written 0 (codes "define")) (Some (o 0 2 1)))) ∷ ((u (m.Standard (codes "quote")) (x.Written 0 (codes "quote")) None)) ∷ [])) ∷ (w (c.part (c.Expression (c.Call (c.core (c.Quasi hole (c.core (c.Call (c.core (c.Ref (u (m.Global 0 (x.Written 0 (codes "y"))) (x.Written 0 (codes "y")) (Some (o 0 3 6)))) (c.core (c.Ref (u (m.Global 0 (x.Written 0 (codes "y"))) (x.Written 0 (codes "y")) (Some (o 0 3 7)))) c.no_cores))) (c.core (c.CaseLambda (c.clause (bs (((b (c.LocalNumber (n 0 3 0)) (x.Written 0 (codes "t")) (Some (o 0 3 14)))) ∷ []) false) (c.Body (c.part (c.Expression (c.Ref (u (m.Free (codes "x")) (x.Written 0 (codes "x")) (Some (o 0 3 16))))) c.no_parts)) (c.clause (bs (((b (c.LocalNumber (n 0 3 1)) (x.Written 0 (codes "t")) (Some (o 0 3 20)))) ∷ ((b (c.LocalNumber (n 0 3 2)) (x.Written 0 (codes "y")) (Some (o 0 3 22)))) ∷ []) true) (c.Body (c.part (c.Expression (c.Ref (u (m.Local (n 0 3 2)) (x.Written 0 (codes "y")) (Some (o 0 3 24))))) c.no_parts)) c.no_clauses))) c.no_cores))) c.no_cores))) c.no_parts) 0 17 None (((u (m.Standard (codes "quasiquote")) (x.Written 0 (codes "quasiquote")) None)) ∷ ((u (m.Standard (codes "case-lambda")) (x.Written 0 (codes "case-lambda")) (Some (o 0 3 11)))) ∷ [])) ∷ [])
unfolding base_names
core-393 = refl

pub core-447 : program_rows false 0 (((t.list (t.tree (t.name (i.Written 0 (codes "cond-expand")) (Some (o 0 0 1))) (t.tree (t.list (t.tree (t.list (t.tree (t.name (i.Written 0 (codes "not")) (Some (o 0 0 4))) (t.tree (t.name (i.Written 0 (codes "r7rs")) (Some (o 0 0 5))) t.no_trees)) t.proper (Some (o 0 0 3))) (t.tree (t.atom (t.Character 99) (Some (o 0 0 7))) t.no_trees)) t.proper (Some (o 0 0 2))) (t.tree (t.list (t.tree (t.name (i.Written 0 (codes "else")) (Some (o 0 0 10))) (t.tree (t.list (t.tree (t.name (i.Written 0 (codes "lambda")) (Some (o 0 0 12))) (t.tree (t.list (t.tree (t.name (i.Written 0 (codes "t")) (Some (o 0 0 14))) t.no_trees) t.proper (Some (o 0 0 13))) (t.tree (t.list (t.tree (t.name (i.Written 0 (codes "case-lambda")) (Some (o 0 0 17))) (t.tree (t.list (t.tree (t.list (t.tree (t.name (i.Written 0 (codes "t")) (Some (o 0 0 20))) t.no_trees) t.proper (Some (o 0 0 19))) (t.tree (t.name (i.Written 0 (codes "t")) (Some (o 0 0 22))) t.no_trees)) t.proper (Some (o 0 0 18))) (t.tree (t.list (t.tree (t.list (t.tree (t.name (i.Written 0 (codes "y")) (Some (o 0 0 26))) t.no_trees) (t.dotted (t.name (i.Written 0 (codes "t")) (Some (o 0 0 28)))) (Some (o 0 0 25))) (t.tree (t.list (t.tree (t.name (i.Written 0 (codes "define-values")) (Some (o 0 0 31))) (t.tree (t.list (t.tree (t.name (i.Written 0 (codes "x")) (Some (o 0 0 33))) (t.tree (t.name (i.Written 0 (codes "t")) (Some (o 0 0 34))) t.no_trees)) t.proper (Some (o 0 0 32))) (t.tree (t.name (i.Written 0 (codes "y")) (Some (o 0 0 36))) t.no_trees))) t.proper (Some (o 0 0 30))) (t.tree (t.name (i.Written 0 (codes "x")) (Some (o 0 0 38))) (t.tree (t.name (i.Written 0 (codes "t")) (Some (o 0 0 39))) t.no_trees)))) t.proper (Some (o 0 0 24))) t.no_trees))) t.proper (Some (o 0 0 16))) t.no_trees))) t.proper (Some (o 0 0 11))) (t.tree (t.list (t.tree (t.name (i.Written 0 (codes "set!")) (Some (o 0 0 44))) (t.tree (t.name (i.Written 0 (codes "t")) (Some (o 0 0 45))) (t.tree (t.list (t.tree (t.name (i.Written 0 (codes "lambda")) (Some (o 0 0 47))) (t.tree (t.list (t.tree (t.name (i.Written 0 (codes "t")) (Some (o 0 0 49))) (t.tree (t.name (i.Written 0 (codes "x")) (Some (o 0 0 50))) t.no_trees)) t.proper (Some (o 0 0 48))) (t.tree (t.list (t.tree (t.name (i.Written 0 (codes "define-values")) (Some (o 0 0 53))) (t.tree (t.list (t.tree (t.name (i.Written 0 (codes "x")) (Some (o 0 0 55))) (t.tree (t.name (i.Written 0 (codes "x")) (Some (o 0 0 56))) t.no_trees)) t.proper (Some (o 0 0 54))) (t.tree (t.atom (t.Numeral (codes "1")) (Some (o 0 0 58))) t.no_trees))) t.proper (Some (o 0 0 52))) (t.tree (t.list (t.tree (t.name (i.Written 0 (codes "define-values")) (Some (o 0 0 61))) (t.tree (t.list (t.tree (t.name (i.Written 0 (codes "t")) (Some (o 0 0 63))) (t.tree (t.name (i.Written 0 (codes "y")) (Some (o 0 0 64))) t.no_trees)) t.proper (Some (o 0 0 62))) (t.tree (t.name (i.Written 0 (codes "t")) (Some (o 0 0 66))) t.no_trees))) t.proper (Some (o 0 0 60))) (t.tree (t.name (i.Written 0 (codes "t")) (Some (o 0 0 68))) t.no_trees))))) t.proper (Some (o 0 0 46))) t.no_trees))) t.proper (Some (o 0 0 43))) t.no_trees))) t.proper (Some (o 0 0 9))) t.no_trees))) t.proper (Some (o 0 0 0)))) ∷ ((t.list (t.tree (t.name (i.Written 0 (codes "define-record-type")) (Some (o 0 1 1))) (t.tree (t.name (i.Written 0 (codes "y")) (Some (o 0 1 2))) (t.tree (t.list (t.tree (t.name (i.Written 0 (codes "y")) (Some (o 0 1 4))) (t.tree (t.name (i.Written 0 (codes "t")) (Some (o 0 1 5))) t.no_trees)) t.proper (Some (o 0 1 3))) (t.tree (t.name (i.Written 0 (codes "y?")) (Some (o 0 1 7))) (t.tree (t.list (t.tree (t.name (i.Written 0 (codes "t")) (Some (o 0 1 9))) (t.tree (t.name (i.Written 0 (codes "t-x")) (Some (o 0 1 10))) t.no_trees)) t.proper (Some (o 0 1 8))) (t.tree (t.list (t.tree (t.name (i.Written 0 (codes "t")) (Some (o 0 1 13))) (t.tree (t.name (i.Written 0 (codes "t-y")) (Some (o 0 1 14))) (t.tree (t.name (i.Written 0 (codes "set-t!")) (Some (o 0 1 15))) t.no_trees))) t.proper (Some (o 0 1 12))) t.no_trees)))))) t.proper (Some (o 0 1 0)))) ∷ ((t.list (t.tree (t.name (i.Written 0 (codes "define-record-type")) (Some (o 0 2 1))) (t.tree (t.name (i.Written 0 (codes "y")) (Some (o 0 2 2))) (t.tree (t.list (t.tree (t.name (i.Written 0 (codes "make")) (Some (o 0 2 4))) (t.tree (t.name (i.Written 0 (codes "x")) (Some (o 0 2 5))) t.no_trees)) t.proper (Some (o 0 2 3))) (t.tree (t.name (i.Written 0 (codes "y?")) (Some (o 0 2 7))) (t.tree (t.list (t.tree (t.name (i.Written 0 (codes "x")) (Some (o 0 2 9))) (t.tree (t.name (i.Written 0 (codes "x-x")) (Some (o 0 2 10))) t.no_trees)) t.proper (Some (o 0 2 8))) (t.tree (t.list (t.tree (t.name (i.Written 0 (codes "x")) (Some (o 0 2 13))) (t.tree (t.name (i.Written 0 (codes "x")) (Some (o 0 2 14))) (t.tree (t.name (i.Written 0 (codes "-y")) (Some (o 0 2 15))) (t.tree (t.name (i.Written 0 (codes "set-")) (Some (o 0 2 16))) (t.tree (t.name (i.Written 0 (codes "x")) (Some (o 0 2 17))) (t.tree (t.name (i.Written 0 (codes "!")) (Some (o 0 2 18))) t.no_trees)))))) t.proper (Some (o 0 2 12))) t.no_trees)))))) t.proper (Some (o 0 2 0)))) ∷ ((t.list (t.tree (t.name (i.Written 0 (codes "define")) (Some (o 0 3 1))) (t.tree (t.list (t.tree (t.name (i.Written 0 (codes "x")) (Some (o 0 3 3))) (t.tree (t.name (i.Written 0 (codes "t")) (Some (o 0 3 4))) t.no_trees)) t.proper (Some (o 0 3 2))) (t.tree (t.list (t.tree (t.name (i.Written 0 (codes "quote")) None) (t.tree (t.atom (t.Numeral (codes "1")) (Some (o 0 3 7))) t.no_trees)) t.proper (Some (o 0 3 6))) (t.tree (t.list (t.tree (t.name (i.Written 0 (codes "define")) (Some (o 0 3 9))) (t.tree (t.name (i.Written 0 (codes "t")) (Some (o 0 3 10))) (t.tree (t.list (t.tree (t.name (i.Written 0 (codes "cond-expand")) (Some (o 0 3 12))) (t.tree (t.list (t.tree (t.list (t.tree (t.name (i.Written 0 (codes "not")) (Some (o 0 3 15))) (t.tree (t.name (i.Written 0 (codes "r7rs")) (Some (o 0 3 16))) t.no_trees)) t.proper (Some (o 0 3 14))) (t.tree (t.list (t.tree (t.name (i.Written 0 (codes "set!")) (Some (o 0 3 19))) (t.tree (t.name (i.Written 0 (codes "y")) (Some (o 0 3 20))) (t.tree (t.name (i.Written 0 (codes "y")) (Some (o 0 3 21))) t.no_trees))) t.proper (Some (o 0 3 18))) t.no_trees)) t.proper (Some (o 0 3 13))) (t.tree (t.list (t.tree (t.name (i.Written 0 (codes "else")) (Some (o 0 3 25))) (t.tree (t.list (t.tree (t.name (i.Written 0 (codes "t")) (Some (o 0 3 27))) (t.tree (t.name (i.Written 0 (codes "y")) (Some (o 0 3 28))) t.no_trees)) t.proper (Some (o 0 3 26))) (t.tree (t.list (t.tree (t.name (i.Written 0 (codes "quote")) None) (t.tree (t.name (i.Written 0 (codes "x")) (Some (o 0 3 31))) t.no_trees)) t.proper (Some (o 0 3 30))) t.no_trees))) t.proper (Some (o 0 3 24))) t.no_trees))) t.proper (Some (o 0 3 11))) t.no_trees))) t.proper (Some (o 0 3 8))) (t.tree (t.list (t.tree (t.name (i.Written 0 (codes "case-lambda")) (Some (o 0 3 36))) (t.tree (t.list (t.tree (t.list (t.tree (t.name (i.Written 0 (codes "if")) (Some (o 0 3 39))) t.no_trees) t.proper (Some (o 0 3 38))) (t.tree (t.list (t.tree (t.name (i.Written 0 (codes "case-lambda")) (Some (o 0 3 42))) (t.tree (t.list (t.tree (t.list (t.tree (t.name (i.Written 0 (codes "y")) (Some (o 0 3 45))) t.no_trees) t.proper (Some (o 0 3 44))) (t.tree (t.name (i.Written 0 (codes "x")) (Some (o 0 3 47))) t.no_trees)) t.proper (Some (o 0 3 43))) (t.tree (t.list (t.tree (t.list (t.tree (t.name (i.Written 0 (codes "y")) (Some (o 0 3 51))) t.no_trees) (t.dotted (t.name (i.Written 0 (codes "t")) (Some (o 0 3 53)))) (Some (o 0 3 50))) (t.tree (t.name (i.Written 0 (codes "t")) (Some (o 0 3 55))) t.no_trees)) t.proper (Some (o 0 3 49))) t.no_trees))) t.proper (Some (o 0 3 41))) t.no_trees)) t.proper (Some (o 0 3 37))) (t.tree (t.list (t.tree (t.list (t.tree (t.name (i.Written 0 (codes "y")) (Some (o 0 3 61))) t.no_trees) (t.dotted (t.name (i.Written 0 (codes "x")) (Some (o 0 3 63)))) (Some (o 0 3 60))) (t.tree (t.list (t.tree (t.name (i.Written 0 (codes "define")) (Some (o 0 3 66))) (t.tree (t.list (t.tree (t.name (i.Written 0 (codes "y")) (Some (o 0 3 68))) (t.tree (t.name (i.Written 0 (codes "y")) (Some (o 0 3 69))) t.no_trees)) t.proper (Some (o 0 3 67))) (t.tree (t.list (t.tree (t.name (i.Written 0 (codes "define")) (Some (o 0 3 72))) (t.tree (t.name (i.Written 0 (codes "x")) (Some (o 0 3 73))) (t.tree (t.atom (t.Quoted (codes "s")) (Some (o 0 3 74))) t.no_trees))) t.proper (Some (o 0 3 71))) (t.tree (t.list (t.tree (t.name (i.Written 0 (codes "define")) (Some (o 0 3 77))) (t.tree (t.list (t.tree (t.name (i.Written 0 (codes "x")) (Some (o 0 3 79))) (t.tree (t.name (i.Written 0 (codes "y")) (Some (o 0 3 80))) t.no_trees)) t.proper (Some (o 0 3 78))) (t.tree (t.name (i.Written 0 (codes "y")) (Some (o 0 3 82))) t.no_trees))) t.proper (Some (o 0 3 76))) (t.tree (t.name (i.Written 0 (codes "x")) (Some (o 0 3 84))) (t.tree (t.name (i.Written 0 (codes "t")) (Some (o 0 3 85))) t.no_trees)))))) t.proper (Some (o 0 3 65))) (t.tree (t.list (t.tree (t.name (i.Written 0 (codes "define-record-type")) (Some (o 0 3 88))) (t.tree (t.name (i.Written 0 (codes "x")) (Some (o 0 3 89))) (t.tree (t.list (t.tree (t.name (i.Written 0 (codes "make")) (Some (o 0 3 91))) (t.tree (t.name (i.Written 0 (codes "y")) (Some (o 0 3 92))) t.no_trees)) t.proper (Some (o 0 3 90))) (t.tree (t.name (i.Written 0 (codes "x?")) (Some (o 0 3 94))) (t.tree (t.list (t.tree (t.name (i.Written 0 (codes "y")) (Some (o 0 3 96))) (t.tree (t.name (i.Written 0 (codes "y-x")) (Some (o 0 3 97))) t.no_trees)) t.proper (Some (o 0 3 95))) (t.tree (t.list (t.tree (t.name (i.Written 0 (codes "t")) (Some (o 0 3 100))) (t.tree (t.name (i.Written 0 (codes "t-y")) (Some (o 0 3 101))) (t.tree (t.name (i.Written 0 (codes "set-t!")) (Some (o 0 3 102))) t.no_trees))) t.proper (Some (o 0 3 99))) t.no_trees)))))) t.proper (Some (o 0 3 87))) (t.tree (t.list (t.tree (t.name (i.Written 0 (codes "lambda")) (Some (o 0 3 106))) (t.tree (t.name (i.Written 0 (codes "if")) (Some (o 0 3 107))) (t.tree (t.list (t.tree (t.name (i.Written 0 (codes "define")) (Some (o 0 3 109))) (t.tree (t.name (i.Written 0 (codes "x")) (Some (o 0 3 110))) (t.tree (t.name (i.Written 0 (codes "x")) (Some (o 0 3 111))) t.no_trees))) t.proper (Some (o 0 3 108))) (t.tree (t.atom (t.Quoted (codes "s")) (Some (o 0 3 113))) t.no_trees)))) t.proper (Some (o 0 3 105))) (t.tree (t.list (t.tree (t.atom (t.Quoted (codes "s")) (Some (o 0 3 116))) (t.tree (t.name (i.Written 0 (codes "y")) (Some (o 0 3 117))) (t.tree (t.name (i.Written 0 (codes "x")) (Some (o 0 3 118))) t.no_trees))) t.proper (Some (o 0 3 115))) t.no_trees))))) t.proper (Some (o 0 3 59))) t.no_trees))) t.proper (Some (o 0 3 35))) (t.tree (t.list (t.tree (t.name (i.Written 0 (codes "define")) (Some (o 0 3 123))) (t.tree (t.name (i.Written 0 (codes "x")) (Some (o 0 3 124))) (t.tree (t.list (t.tree (t.name (i.Written 0 (codes "lambda")) (Some (o 0 3 126))) (t.tree (t.list (t.tree (t.name (i.Written 0 (codes "y")) (Some (o 0 3 128))) (t.tree (t.name (i.Written 0 (codes "quote")) (Some (o 0 3 129))) t.no_trees)) t.proper (Some (o 0 3 127))) (t.tree (t.list (t.tree (t.name (i.Written 0 (codes "define")) (Some (o 0 3 132))) (t.tree (t.list (t.tree (t.name (i.Written 0 (codes "y")) (Some (o 0 3 134))) (t.tree (t.name (i.Written 0 (codes "x")) (Some (o 0 3 135))) t.no_trees)) t.proper (Some (o 0 3 133))) (t.tree (t.list (t.tree (t.name (i.Written 0 (codes "define")) (Some (o 0 3 138))) (t.tree (t.name (i.Written 0 (codes "x")) (Some (o 0 3 139))) (t.tree (t.name (i.Written 0 (codes "x")) (Some (o 0 3 140))) t.no_trees))) t.proper (Some (o 0 3 137))) (t.tree (t.list (t.tree (t.name (i.Written 0 (codes "begin")) (Some (o 0 3 143))) (t.tree (t.list (t.tree (t.name (i.Written 0 (codes "define")) (Some (o 0 3 145))) (t.tree (t.name (i.Written 0 (codes "t")) (Some (o 0 3 146))) (t.tree (t.name (i.Written 0 (codes "x")) (Some (o 0 3 147))) t.no_trees))) t.proper (Some (o 0 3 144))) (t.tree (t.list (t.tree (t.name (i.Written 0 (codes "define-values")) (Some (o 0 3 150))) (t.tree (t.list (t.tree (t.name (i.Written 0 (codes "y")) (Some (o 0 3 152))) (t.tree (t.name (i.Written 0 (codes "t")) (Some (o 0 3 153))) t.no_trees)) t.proper (Some (o 0 3 151))) (t.tree (t.name (i.Written 0 (codes "t")) (Some (o 0 3 155))) t.no_trees))) t.proper (Some (o 0 3 149))) t.no_trees))) t.proper (Some (o 0 3 142))) (t.tree (t.atom (t.Boolean true) (Some (o 0 3 158))) (t.tree (t.atom (t.Character 99) (Some (o 0 3 159))) t.no_trees)))))) t.proper (Some (o 0 3 131))) (t.tree (t.list (t.tree (t.name (i.Written 0 (codes "quote")) None) (t.tree (t.name (i.Written 0 (codes "t")) (Some (o 0 3 162))) t.no_trees)) t.proper (Some (o 0 3 161))) t.no_trees)))) t.proper (Some (o 0 3 125))) t.no_trees))) t.proper (Some (o 0 3 122))) t.no_trees)))))) t.proper (Some (o 0 3 0)))) ∷ ((t.list (t.tree (t.name (i.Written 0 (codes "define-values")) (Some (o 0 4 1))) (t.tree (t.list (t.tree (t.name (i.Written 0 (codes "y")) (Some (o 0 4 3))) (t.tree (t.name (i.Written 0 (codes "t")) (Some (o 0 4 4))) t.no_trees)) t.proper (Some (o 0 4 2))) (t.tree (t.list (t.tree (t.name (i.Written 0 (codes "cond-expand")) (Some (o 0 4 7))) (t.tree (t.list (t.tree (t.name (i.Written 0 (codes "full")) (Some (o 0 4 9))) (t.tree (t.list (t.tree (t.list (t.tree (t.atom (t.Quoted (codes "s")) (Some (o 0 4 12))) (t.tree (t.name (i.Written 0 (codes "y")) (Some (o 0 4 13))) (t.tree (t.name (i.Written 0 (codes "y")) (Some (o 0 4 14))) t.no_trees))) t.proper (Some (o 0 4 11))) (t.tree (t.list (t.tree (t.name (i.Written 0 (codes "case-lambda")) (Some (o 0 4 17))) (t.tree (t.list (t.tree (t.list (t.tree (t.name (i.Written 0 (codes "x")) (Some (o 0 4 20))) t.no_trees) t.proper (Some (o 0 4 19))) (t.tree (t.atom (t.Numeral (codes "1")) (Some (o 0 4 22))) t.no_trees)) t.proper (Some (o 0 4 18))) (t.tree (t.list (t.tree (t.list (t.tree (t.name (i.Written 0 (codes "y")) (Some (o 0 4 26))) t.no_trees) (t.dotted (t.name (i.Written 0 (codes "x")) (Some (o 0 4 28)))) (Some (o 0 4 25))) (t.tree (t.list (t.tree (t.name (i.Written 0 (codes "define")) (Some (o 0 4 31))) (t.tree (t.name (i.Written 0 (codes "x")) (Some (o 0 4 32))) (t.tree (t.name (i.Written 0 (codes "t")) (Some (o 0 4 33))) t.no_trees))) t.proper (Some (o 0 4 30))) (t.tree (t.name (i.Written 0 (codes "t")) (Some (o 0 4 35))) (t.tree (t.name (i.Written 0 (codes "t")) (Some (o 0 4 36))) t.no_trees)))) t.proper (Some (o 0 4 24))) t.no_trees))) t.proper (Some (o 0 4 16))) t.no_trees)) t.proper (Some (o 0 4 10))) t.no_trees)) t.proper (Some (o 0 4 8))) (t.tree (t.list (t.tree (t.name (i.Written 0 (codes "else")) (Some (o 0 4 42))) (t.tree (t.list (t.tree (t.name (i.Written 0 (codes "case-lambda")) (Some (o 0 4 44))) (t.tree (t.list (t.tree (t.list (t.tree (t.name (i.Written 0 (codes "a b")) (Some (o 0 4 47))) t.no_trees) t.proper (Some (o 0 4 46))) (t.tree (t.list (t.tree (t.name (i.Written 0 (codes "set!")) (Some (o 0 4 50))) (t.tree (t.name (i.Written 0 (codes "t")) (Some (o 0 4 51))) (t.tree (t.name (i.Written 0 (codes "y")) (Some (o 0 4 52))) t.no_trees))) t.proper (Some (o 0 4 49))) t.no_trees)) t.proper (Some (o 0 4 45))) (t.tree (t.list (t.tree (t.list (t.tree (t.name (i.Written 0 (codes "x")) (Some (o 0 4 57))) t.no_trees) (t.dotted (t.name (i.Written 0 (codes "t")) (Some (o 0 4 59)))) (Some (o 0 4 56))) (t.tree (t.list (t.tree (t.name (i.Written 0 (codes "x")) (Some (o 0 4 62))) t.no_trees) t.proper (Some (o 0 4 61))) t.no_trees)) t.proper (Some (o 0 4 55))) t.no_trees))) t.proper (Some (o 0 4 43))) (t.tree (t.name (i.Written 0 (codes "x")) (Some (o 0 4 66))) t.no_trees))) t.proper (Some (o 0 4 41))) t.no_trees))) t.proper (Some (o 0 4 6))) t.no_trees))) t.proper (Some (o 0 4 0)))) ∷ []) ≡ ((w c.no_parts 0 10 (e 31 (Some (o 0 0 25)) []) ([])) ∷ (w c.no_parts 0 0 (e 34 (Some (o 0 1 0)) []) ([])) ∷ (w c.no_parts 0 0 (e 34 (Some (o 0 2 0)) []) ([])) ∷ (w c.no_parts 0 13 (e 31 (Some (o 0 3 38)) []) ([])) ∷ (w c.no_parts 0 9 (e 31 (Some (o 0 4 56)) []) ([])) ∷ [])
unfolding base_names
core-447 = refl

pub core-455 : program_rows true 1 (((t.list (t.tree (t.list (t.tree (t.name (i.Written 0 (codes "lambda")) (Some (o 0 1 2))) (t.tree (t.name (i.Written 0 (codes "x")) (Some (o 0 1 3))) (t.tree (t.list (t.tree (t.name (i.Written 0 (codes "define-record-type")) (Some (o 0 1 5))) (t.tree (t.name (i.Written 0 (codes "x")) (Some (o 0 1 6))) (t.tree (t.list (t.tree (t.name (i.Written 0 (codes "make")) (Some (o 0 1 8))) (t.tree (t.name (i.Written 0 (codes "t")) (Some (o 0 1 9))) t.no_trees)) t.proper (Some (o 0 1 7))) (t.tree (t.name (i.Written 0 (codes "x?")) (Some (o 0 1 11))) (t.tree (t.list (t.tree (t.name (i.Written 0 (codes "t")) (Some (o 0 1 13))) (t.tree (t.name (i.Written 0 (codes "t-x")) (Some (o 0 1 14))) t.no_trees)) t.proper (Some (o 0 1 12))) (t.tree (t.list (t.tree (t.name (i.Written 0 (codes "begin")) (Some (o 0 1 17))) (t.tree (t.name (i.Written 0 (codes "begin-y")) (Some (o 0 1 18))) (t.tree (t.name (i.Written 0 (codes "set-begin!")) (Some (o 0 1 19))) t.no_trees))) t.proper (Some (o 0 1 16))) t.no_trees)))))) t.proper (Some (o 0 1 4))) (t.tree (t.list (t.tree (t.name (i.Written 0 (codes "define")) (Some (o 0 1 23))) (t.tree (t.list (t.tree (t.name (i.Written 0 (codes "a")) (Some (o 0 1 25))) (t.tree (t.name (i.Written 0 (codes "t")) (Some (o 0 1 26))) t.no_trees)) t.proper (Some (o 0 1 24))) (t.tree (t.name (i.Written 0 (codes "t")) (Some (o 0 1 28))) (t.tree (t.name (i.Written 0 (codes "a")) (Some (o 0 1 29))) t.no_trees)))) t.proper (Some (o 0 1 22))) (t.tree (t.list (t.tree (t.name (i.Written 0 (codes "lambda")) (Some (o 0 1 32))) (t.tree (t.name (i.Written 0 (codes "t")) (Some (o 0 1 33))) (t.tree (t.atom (t.Numeral (codes "1")) (Some (o 0 1 34))) t.no_trees))) t.proper (Some (o 0 1 31))) (t.tree (t.list (t.tree (t.name (i.Written 0 (codes "b")) (Some (o 0 1 37))) (t.tree (t.name (i.Written 0 (codes "b")) (Some (o 0 1 38))) t.no_trees)) t.proper (Some (o 0 1 36))) t.no_trees)))))) t.proper (Some (o 0 1 1))) t.no_trees) t.proper (Some (o 0 1 0)))) ∷ ((t.list (t.tree (t.name (i.Written 0 (codes "define")) (Some (o 0 2 1))) (t.tree (t.list (t.tree (t.name (i.Written 0 (codes "y")) (Some (o 0 2 3))) (t.tree (t.name (i.Written 0 (codes "b")) (Some (o 0 2 4))) t.no_trees)) t.proper (Some (o 0 2 2))) (t.tree (t.list (t.tree (t.name (i.Written 0 (codes "begin")) (Some (o 0 2 7))) (t.tree (t.list (t.tree (t.name (i.Written 0 (codes "define")) (Some (o 0 2 9))) (t.tree (t.name (i.Written 0 (codes "t")) (Some (o 0 2 10))) (t.tree (t.list (t.tree (t.name (i.Written 0 (codes "cond-expand")) (Some (o 0 2 12))) (t.tree (t.list (t.tree (t.name (i.Written 0 (codes "r7rs")) (Some (o 0 2 14))) (t.tree (t.name (i.Written 0 (codes "y")) (Some (o 0 2 15))) t.no_trees)) t.proper (Some (o 0 2 13))) (t.tree (t.list (t.tree (t.name (i.Written 0 (codes "else")) (Some (o 0 2 18))) (t.tree (t.atom (t.Numeral (codes "2")) (Some (o 0 2 19))) (t.tree (t.name (i.Written 0 (codes "t")) (Some (o 0 2 20))) t.no_trees))) t.proper (Some (o 0 2 17))) t.no_trees))) t.proper (Some (o 0 2 11))) t.no_trees))) t.proper (Some (o 0 2 8))) (t.tree (t.list (t.tree (t.name (i.Written 0 (codes "define")) (Some (o 0 2 25))) (t.tree (t.list (t.tree (t.name (i.Written 0 (codes "y")) (Some (o 0 2 27))) (t.tree (t.name (i.Written 0 (codes "a")) (Some (o 0 2 28))) t.no_trees)) t.proper (Some (o 0 2 26))) (t.tree (t.list (t.tree (t.name (i.Written 0 (codes "define")) (Some (o 0 2 31))) (t.tree (t.name (i.Written 0 (codes "b")) (Some (o 0 2 32))) (t.tree (t.name (i.Written 0 (codes "y")) (Some (o 0 2 33))) t.no_trees))) t.proper (Some (o 0 2 30))) (t.tree (t.name (i.Written 0 (codes "a")) (Some (o 0 2 35))) t.no_trees)))) t.proper (Some (o 0 2 24))) t.no_trees))) t.proper (Some (o 0 2 6))) (t.tree (t.list (t.tree (t.name (i.Written 0 (codes "cond-expand")) (Some (o 0 2 39))) (t.tree (t.list (t.tree (t.list (t.tree (t.name (i.Written 0 (codes "not")) (Some (o 0 2 42))) (t.tree (t.name (i.Written 0 (codes "r7rs")) (Some (o 0 2 43))) t.no_trees)) t.proper (Some (o 0 2 41))) (t.tree (t.list (t.tree (t.name (i.Written 0 (codes "quote")) None) (t.tree (t.name (i.Written 0 (codes "y")) (Some (o 0 2 46))) t.no_trees)) t.proper (Some (o 0 2 45))) t.no_trees)) t.proper (Some (o 0 2 40))) (t.tree (t.list (t.tree (t.name (i.Written 0 (codes "else")) (Some (o 0 2 49))) (t.tree (t.list (t.tree (t.name (i.Written 0 (codes "set!")) (Some (o 0 2 51))) (t.tree (t.name (i.Written 0 (codes "a")) (Some (o 0 2 52))) (t.tree (t.name (i.Written 0 (codes "y")) (Some (o 0 2 53))) t.no_trees))) t.proper (Some (o 0 2 50))) (t.tree (t.list (t.tree (t.name (i.Written 0 (codes "a")) (Some (o 0 2 56))) t.no_trees) t.proper (Some (o 0 2 55))) t.no_trees))) t.proper (Some (o 0 2 48))) t.no_trees))) t.proper (Some (o 0 2 38))) (t.tree (t.list (t.tree (t.list (t.tree (t.name (i.Written 0 (codes "set!")) (Some (o 0 2 62))) (t.tree (t.name (i.Written 0 (codes "b")) (Some (o 0 2 63))) (t.tree (t.name (i.Written 0 (codes "b")) (Some (o 0 2 64))) t.no_trees))) t.proper (Some (o 0 2 61))) t.no_trees) t.proper (Some (o 0 2 60))) t.no_trees))))) t.proper (Some (o 0 2 0)))) ∷ ((t.list (t.tree (t.name (i.Written 0 (codes "define-record-type")) (Some (o 0 3 1))) (t.tree (t.name (i.Written 0 (codes "a")) (Some (o 0 3 2))) (t.tree (t.list (t.tree (t.name (i.Written 0 (codes "make")) (Some (o 0 3 4))) (t.tree (t.name (i.Written 0 (codes "y")) (Some (o 0 3 5))) t.no_trees)) t.proper (Some (o 0 3 3))) (t.tree (t.name (i.Written 0 (codes "a?")) (Some (o 0 3 7))) (t.tree (t.list (t.tree (t.name (i.Written 0 (codes "y")) (Some (o 0 3 9))) (t.tree (t.name (i.Written 0 (codes "y-x")) (Some (o 0 3 10))) t.no_trees)) t.proper (Some (o 0 3 8))) (t.tree (t.list (t.tree (t.name (i.Written 0 (codes "x")) (Some (o 0 3 13))) (t.tree (t.name (i.Written 0 (codes "x-y")) (Some (o 0 3 14))) (t.tree (t.name (i.Written 0 (codes "set-x!")) (Some (o 0 3 15))) t.no_trees))) t.proper (Some (o 0 3 12))) t.no_trees)))))) t.proper (Some (o 0 3 0)))) ∷ ((t.list (t.tree (t.name (i.Written 0 (codes "define")) (Some (o 0 4 1))) (t.tree (t.name (i.Written 0 (codes "y")) (Some (o 0 4 2))) (t.tree (t.name (i.Written 0 (codes "a")) (Some (o 0 4 3))) t.no_trees))) t.proper (Some (o 0 4 0)))) ∷ []) ≡ ((w (c.part (c.Expression (c.Call (c.core (c.Lambda (bs (((b (c.LocalNumber (n 0 1 0)) (x.Written 0 (codes "x")) (Some (o 0 1 3)))) ∷ []) true) (c.Body (c.part (c.Fields (r (((b (c.LocalNumber (n 0 1 3)) (x.Written 0 (codes "x")) (Some (o 0 1 6)))) ∷ ((b (c.LocalNumber (n 0 1 4)) (x.Written 0 (codes "make")) (Some (o 0 1 8)))) ∷ ((b (c.LocalNumber (n 0 1 5)) (x.Written 0 (codes "x?")) (Some (o 0 1 11)))) ∷ ((b (c.LocalNumber (n 0 1 6)) (x.Written 0 (codes "t-x")) (Some (o 0 1 14)))) ∷ ((b (c.LocalNumber (n 0 1 7)) (x.Written 0 (codes "begin-y")) (Some (o 0 1 18)))) ∷ ((b (c.LocalNumber (n 0 1 8)) (x.Written 0 (codes "set-begin!")) (Some (o 0 1 19)))) ∷ []) (((b (c.LocalNumber (n 0 1 1)) (x.Written 0 (codes "t")) (Some (o 0 1 13)))) ∷ ((b (c.LocalNumber (n 0 1 2)) (x.Written 0 (codes "begin")) (Some (o 0 1 17)))) ∷ []) ((1) ∷ []) ((f 0 (Some (o 0 1 9))) ∷ []))) (c.part (c.Define (b (c.LocalNumber (n 0 1 9)) (x.Written 0 (codes "a")) (Some (o 0 1 25))) (c.Lambda (bs (((b (c.LocalNumber (n 0 1 10)) (x.Written 0 (codes "t")) (Some (o 0 1 26)))) ∷ []) false) (c.Body (c.part (c.Expression (c.Ref (u (m.Local (n 0 1 10)) (x.Written 0 (codes "t")) (Some (o 0 1 28))))) (c.part (c.Expression (c.Ref (u (m.Local (n 0 1 9)) (x.Written 0 (codes "a")) (Some (o 0 1 29))))) c.no_parts))))) (c.part (c.Expression (c.Lambda (bs (((b (c.LocalNumber (n 0 1 11)) (x.Written 0 (codes "t")) (Some (o 0 1 33)))) ∷ []) true) (c.Body (c.part (c.Expression (c.Const (t.Numeral (codes "1")))) c.no_parts)))) (c.part (c.Expression (c.Call (c.core (c.Ref (u (m.Free (codes "b")) (x.Written 0 (codes "b")) (Some (o 0 1 37)))) (c.core (c.Ref (u (m.Free (codes "b")) (x.Written 0 (codes "b")) (Some (o 0 1 38)))) c.no_cores)))) c.no_parts)))))) c.no_cores))) c.no_parts) 0 14 None (((u (m.Standard (codes "lambda")) (x.Written 0 (codes "lambda")) (Some (o 0 1 2)))) ∷ ((u (m.Standard (codes "define-record-type")) (x.Written 0 (codes "define-record-type")) (Some (o 0 1 5)))) ∷ ((u (m.Standard (codes "define")) (x.Written 0 (codes "define")) (Some (o 0 1 23)))) ∷ ((u (m.Standard (codes "lambda")) (x.Written 0 (codes "lambda")) (Some (o 0 1 32)))) ∷ [])) ∷ (w (c.part (c.Define (b (c.Definition 0 0) (x.Written 0 (codes "y")) (Some (o 0 2 3))) (c.Lambda (bs (((b (c.LocalNumber (n 0 2 0)) (x.Written 0 (codes "b")) (Some (o 0 2 4)))) ∷ []) false) (c.Body (c.part (c.Define (b (c.LocalNumber (n 0 2 1)) (x.Written 0 (codes "t")) (Some (o 0 2 10))) (c.Body (c.part (c.Expression (c.Ref (u (m.Local (n 0 2 2)) (x.Written 0 (codes "y")) (Some (o 0 2 15))))) c.no_parts))) (c.part (c.Define (b (c.LocalNumber (n 0 2 2)) (x.Written 0 (codes "y")) (Some (o 0 2 27))) (c.Lambda (bs (((b (c.LocalNumber (n 0 2 3)) (x.Written 0 (codes "a")) (Some (o 0 2 28)))) ∷ []) false) (c.Body (c.part (c.Define (b (c.LocalNumber (n 0 2 4)) (x.Written 0 (codes "b")) (Some (o 0 2 32))) (c.Ref (u (m.Local (n 0 2 2)) (x.Written 0 (codes "y")) (Some (o 0 2 33))))) (c.part (c.Expression (c.Ref (u (m.Local (n 0 2 3)) (x.Written 0 (codes "a")) (Some (o 0 2 35))))) c.no_parts))))) (c.part (c.Expression (c.Set (u (m.Global 0 (x.Written 0 (codes "a"))) (x.Written 0 (codes "a")) (Some (o 0 2 52))) (c.Ref (u (m.Local (n 0 2 2)) (x.Written 0 (codes "y")) (Some (o 0 2 53)))))) (c.part (c.Expression (c.Call (c.core (c.Ref (u (m.Global 0 (x.Written 0 (codes "a"))) (x.Written 0 (codes "a")) (Some (o 0 2 56)))) c.no_cores))) (c.part (c.Expression (c.Call (c.core (c.Set (u (m.Local (n 0 2 0)) (x.Written 0 (codes "b")) (Some (o 0 2 63))) (c.Ref (u (m.Local (n 0 2 0)) (x.Written 0 (codes "b")) (Some (o 0 2 64))))) c.no_cores))) c.no_parts)))))))) c.no_parts) 0 17 None (((u (m.Standard (codes "define")) (x.Written 0 (codes "define")) (Some (o 0 2 1)))) ∷ ((u (m.Standard (codes "begin")) (x.Written 0 (codes "begin")) (Some (o 0 2 7)))) ∷ ((u (m.Standard (codes "define")) (x.Written 0 (codes "define")) (Some (o 0 2 9)))) ∷ ((u (m.Standard (codes "define")) (x.Written 0 (codes "define")) (Some (o 0 2 25)))) ∷ ((u (m.Standard (codes "cond-expand")) (x.Written 0 (codes "cond-expand")) (Some (o 0 2 39)))) ∷ ((u (m.Standard (codes "cond-expand")) (x.Written 0 (codes "cond-expand")) (Some (o 0 2 12)))) ∷ ((u (m.Standard (codes "define")) (x.Written 0 (codes "define")) (Some (o 0 2 31)))) ∷ ((u (m.Standard (codes "set!")) (x.Written 0 (codes "set!")) (Some (o 0 2 51)))) ∷ ((u (m.Standard (codes "set!")) (x.Written 0 (codes "set!")) (Some (o 0 2 62)))) ∷ [])) ∷ (w (c.part (c.Fields (r (((b (c.Definition 0 1) (x.Written 0 (codes "a")) (Some (o 0 3 2)))) ∷ ((b (c.Definition 0 2) (x.Written 0 (codes "make")) (Some (o 0 3 4)))) ∷ ((b (c.Definition 0 3) (x.Written 0 (codes "a?")) (Some (o 0 3 7)))) ∷ ((b (c.Definition 0 4) (x.Written 0 (codes "y-x")) (Some (o 0 3 10)))) ∷ ((b (c.Definition 0 5) (x.Written 0 (codes "x-y")) (Some (o 0 3 14)))) ∷ ((b (c.Definition 0 6) (x.Written 0 (codes "set-x!")) (Some (o 0 3 15)))) ∷ []) (((b (c.LocalNumber (n 0 3 0)) (x.Written 0 (codes "y")) (Some (o 0 3 9)))) ∷ ((b (c.LocalNumber (n 0 3 1)) (x.Written 0 (codes "x")) (Some (o 0 3 13)))) ∷ []) ((1) ∷ []) ((f 0 (Some (o 0 3 5))) ∷ []))) c.no_parts) 0 0 None (((u (m.Standard (codes "define-record-type")) (x.Written 0 (codes "define-record-type")) (Some (o 0 3 1)))) ∷ [])) ∷ (w (c.part (c.Expression (c.Set (u (m.Global 0 (x.Written 0 (codes "y"))) (x.Written 0 (codes "y")) (Some (o 0 4 2))) (c.Ref (u (m.Global 0 (x.Written 0 (codes "a"))) (x.Written 0 (codes "a")) (Some (o 0 4 3)))))) c.no_parts) 0 2 None (((u (m.Standard (codes "define")) (x.Written 0 (codes "define")) (Some (o 0 4 1)))) ∷ [])) ∷ [])
unfolding base_names
core-455 = refl

pub core-537 : program_rows false 0 (((t.list (t.tree (t.name (i.Written 0 (codes "define-record-type")) (Some (o 0 0 1))) (t.tree (t.name (i.Written 0 (codes "f")) (Some (o 0 0 2))) (t.tree (t.list (t.tree (t.name (i.Written 0 (codes "make")) (Some (o 0 0 4))) (t.tree (t.name (i.Written 0 (codes "x")) (Some (o 0 0 5))) t.no_trees)) t.proper (Some (o 0 0 3))) (t.tree (t.name (i.Written 0 (codes "f?")) (Some (o 0 0 7))) (t.tree (t.list (t.tree (t.name (i.Written 0 (codes "x")) (Some (o 0 0 9))) (t.tree (t.name (i.Written 0 (codes "x-x")) (Some (o 0 0 10))) t.no_trees)) t.proper (Some (o 0 0 8))) (t.tree (t.list (t.tree (t.name (i.Written 0 (codes "g")) (Some (o 0 0 13))) (t.tree (t.name (i.Written 0 (codes "g-y")) (Some (o 0 0 14))) (t.tree (t.name (i.Written 0 (codes "set-g!")) (Some (o 0 0 15))) t.no_trees))) t.proper (Some (o 0 0 12))) t.no_trees)))))) t.proper (Some (o 0 0 0)))) ∷ ((t.name (i.Written 0 (codes "a")) (Some (o 0 1 0)))) ∷ []) ≡ ((w (c.part (c.Fields (r (((b (c.Definition 0 0) (x.Written 0 (codes "f")) (Some (o 0 0 2)))) ∷ ((b (c.Definition 0 1) (x.Written 0 (codes "make")) (Some (o 0 0 4)))) ∷ ((b (c.Definition 0 2) (x.Written 0 (codes "f?")) (Some (o 0 0 7)))) ∷ ((b (c.Definition 0 3) (x.Written 0 (codes "x-x")) (Some (o 0 0 10)))) ∷ ((b (c.Definition 0 4) (x.Written 0 (codes "g-y")) (Some (o 0 0 14)))) ∷ ((b (c.Definition 0 5) (x.Written 0 (codes "set-g!")) (Some (o 0 0 15)))) ∷ []) (((b (c.LocalNumber (n 0 0 0)) (x.Written 0 (codes "x")) (Some (o 0 0 9)))) ∷ ((b (c.LocalNumber (n 0 0 1)) (x.Written 0 (codes "g")) (Some (o 0 0 13)))) ∷ []) ((1) ∷ []) ((f 0 (Some (o 0 0 5))) ∷ []))) c.no_parts) 0 0 None (((u (m.Standard (codes "define-record-type")) (x.Written 0 (codes "define-record-type")) (Some (o 0 0 1)))) ∷ [])) ∷ (w (c.part (c.Expression (c.Ref (u (m.Free (codes "a")) (x.Written 0 (codes "a")) (Some (o 0 1 0))))) c.no_parts) 0 1 None ([])) ∷ [])
unfolding base_names
core-537 = refl

pub core-550 : program_rows false 0 (((t.list (t.tree (t.name (i.Written 0 (codes "quote")) None) (t.tree (t.name (i.Written 0 (codes "quote")) (Some (o 0 0 1))) t.no_trees)) t.proper (Some (o 0 0 0)))) ∷ ((t.name (i.Written 0 (codes "y")) (Some (o 0 1 0)))) ∷ []) ≡ ((w (c.part (c.Expression (c.Quote (t.name (codes "quote") (Some (o 0 0 1))))) c.no_parts) 0 2 None (((u (m.Standard (codes "quote")) (x.Written 0 (codes "quote")) None)) ∷ [])) ∷ (w (c.part (c.Expression (c.Ref (u (m.Free (codes "y")) (x.Written 0 (codes "y")) (Some (o 0 1 0))))) c.no_parts) 0 1 None ([])) ∷ [])
unfolding base_names
core-550 = refl

pub core-552 : program_rows false 0 (((t.list (t.tree (t.name (i.Written 0 (codes "define")) (Some (o 0 0 1))) (t.tree (t.name (i.Written 0 (codes "x")) (Some (o 0 0 2))) (t.tree (t.list (t.tree (t.name (i.Written 0 (codes "begin")) (Some (o 0 0 4))) (t.tree (t.list (t.tree (t.name (i.Written 0 (codes "cond-expand")) (Some (o 0 0 6))) (t.tree (t.list (t.tree (t.list (t.tree (t.name (i.Written 0 (codes "not")) (Some (o 0 0 9))) (t.tree (t.name (i.Written 0 (codes "r7rs")) (Some (o 0 0 10))) t.no_trees)) t.proper (Some (o 0 0 8))) (t.tree (t.name (i.Written 0 (codes "m")) (Some (o 0 0 12))) t.no_trees)) t.proper (Some (o 0 0 7))) (t.tree (t.list (t.tree (t.name (i.Written 0 (codes "else")) (Some (o 0 0 15))) (t.tree (t.list (t.tree (t.name (i.Written 0 (codes "case-lambda")) (Some (o 0 0 17))) (t.tree (t.list (t.tree (t.list (t.tree (t.name (i.Written 0 (codes "q")) (Some (o 0 0 20))) t.no_trees) t.proper (Some (o 0 0 19))) (t.tree (t.atom (t.Boolean true) (Some (o 0 0 22))) t.no_trees)) t.proper (Some (o 0 0 18))) (t.tree (t.list (t.tree (t.list (t.tree (t.name (i.Written 0 (codes "tmp")) (Some (o 0 0 26))) t.no_trees) (t.dotted (t.name (i.Written 0 (codes "q")) (Some (o 0 0 28)))) (Some (o 0 0 25))) (t.tree (t.list (t.tree (t.name (i.Written 0 (codes "define")) (Some (o 0 0 31))) (t.tree (t.list (t.tree (t.name (i.Written 0 (codes "m")) (Some (o 0 0 33))) (t.tree (t.name (i.Written 0 (codes "b")) (Some (o 0 0 34))) t.no_trees)) t.proper (Some (o 0 0 32))) (t.tree (t.atom (t.Character 99) (Some (o 0 0 36))) t.no_trees))) t.proper (Some (o 0 0 30))) (t.tree (t.list (t.tree (t.name (i.Written 0 (codes "define")) (Some (o 0 0 39))) (t.tree (t.name (i.Written 0 (codes "t")) (Some (o 0 0 40))) (t.tree (t.name (i.Written 0 (codes "f")) (Some (o 0 0 41))) t.no_trees))) t.proper (Some (o 0 0 38))) (t.tree (t.atom (t.Boolean true) (Some (o 0 0 43))) t.no_trees)))) t.proper (Some (o 0 0 24))) t.no_trees))) t.proper (Some (o 0 0 16))) (t.tree (t.list (t.tree (t.name (i.Written 0 (codes "a")) (Some (o 0 0 47))) (t.tree (t.atom (t.Quoted (codes "s")) (Some (o 0 0 48))) (t.tree (t.name (i.Written 0 (codes "y")) (Some (o 0 0 49))) t.no_trees))) t.proper (Some (o 0 0 46))) t.no_trees))) t.proper (Some (o 0 0 14))) t.no_trees))) t.proper (Some (o 0 0 5))) (t.tree (t.list (t.tree (t.name (i.Written 0 (codes "set!")) (Some (o 0 0 54))) (t.tree (t.name (i.Written 0 (codes "g")) (Some (o 0 0 55))) (t.tree (t.list (t.tree (t.atom (t.Character 99) (Some (o 0 0 57))) t.no_trees) t.proper (Some (o 0 0 56))) t.no_trees))) t.proper (Some (o 0 0 53))) t.no_trees))) t.proper (Some (o 0 0 3))) t.no_trees))) t.proper (Some (o 0 0 0)))) ∷ ((t.list (t.tree (t.name (i.Written 0 (codes "define-values")) (Some (o 0 1 1))) (t.tree (t.list (t.tree (t.name (i.Written 0 (codes "f")) (Some (o 0 1 3))) (t.tree (t.name (i.Written 0 (codes "g")) (Some (o 0 1 4))) t.no_trees)) t.proper (Some (o 0 1 2))) (t.tree (t.list (t.tree (t.name (i.Written 0 (codes "set!")) (Some (o 0 1 7))) (t.tree (t.name (i.Written 0 (codes "a")) (Some (o 0 1 8))) (t.tree (t.atom (t.Numeral (codes "1")) (Some (o 0 1 9))) t.no_trees))) t.proper (Some (o 0 1 6))) t.no_trees))) t.proper (Some (o 0 1 0)))) ∷ []) ≡ ((w c.no_parts 0 10 (e 31 (Some (o 0 0 25)) []) ([])) ∷ (w (c.part (c.Values (bs (((b (c.Definition 0 1) (x.Written 0 (codes "f")) (Some (o 0 1 3)))) ∷ ((b (c.Definition 0 2) (x.Written 0 (codes "g")) (Some (o 0 1 4)))) ∷ []) false) (c.Set (u (m.Free (codes "a")) (x.Written 0 (codes "a")) (Some (o 0 1 8))) (c.Const (t.Numeral (codes "1"))))) c.no_parts) 0 3 None (((u (m.Standard (codes "define-values")) (x.Written 0 (codes "define-values")) (Some (o 0 1 1)))) ∷ ((u (m.Standard (codes "set!")) (x.Written 0 (codes "set!")) (Some (o 0 1 7)))) ∷ [])) ∷ [])
unfolding base_names
core-552 = refl

pub core-605 : program_rows false 0 (((t.list (t.tree (t.name (i.Written 0 (codes "define")) (Some (o 0 0 1))) (t.tree (t.list (t.tree (t.name (i.Written 0 (codes "t")) (Some (o 0 0 3))) (t.tree (t.name (i.Written 0 (codes "tmp")) (Some (o 0 0 4))) t.no_trees)) t.proper (Some (o 0 0 2))) (t.tree (t.atom (t.Boolean true) (Some (o 0 0 6))) t.no_trees))) t.proper (Some (o 0 0 0)))) ∷ ((t.list (t.tree (t.name (i.Written 0 (codes "define")) (Some (o 0 1 1))) (t.tree (t.name (i.Written 0 (codes "tmp")) (Some (o 0 1 2))) (t.tree (t.list (t.tree (t.name (i.Written 0 (codes "quote")) None) (t.tree (t.atom (t.Quoted (codes "s")) (Some (o 0 1 4))) t.no_trees)) t.proper (Some (o 0 1 3))) t.no_trees))) t.proper (Some (o 0 1 0)))) ∷ []) ≡ ((w (c.part (c.Define (b (c.Definition 0 0) (x.Written 0 (codes "t")) (Some (o 0 0 3))) (c.Lambda (bs (((b (c.LocalNumber (n 0 0 0)) (x.Written 0 (codes "tmp")) (Some (o 0 0 4)))) ∷ []) false) (c.Body (c.part (c.Expression (c.Const (t.Boolean true))) c.no_parts)))) c.no_parts) 0 4 None (((u (m.Standard (codes "define")) (x.Written 0 (codes "define")) (Some (o 0 0 1)))) ∷ [])) ∷ (w (c.part (c.Define (b (c.Definition 0 1) (x.Written 0 (codes "tmp")) (Some (o 0 1 2))) (c.Quote (t.atom (t.Quoted (codes "s")) None))) c.no_parts) 0 2 None (((u (m.Standard (codes "define")) (x.Written 0 (codes "define")) (Some (o 0 1 1)))) ∷ ((u (m.Standard (codes "quote")) (x.Written 0 (codes "quote")) None)) ∷ [])) ∷ [])
unfolding base_names
core-605 = refl

pub core-621 : program_rows false 0 (((t.list (t.tree (t.name (i.Written 0 (codes "f")) (Some (o 0 0 1))) (t.tree (t.name (i.Written 0 (codes "m")) (Some (o 0 0 2))) t.no_trees)) t.proper (Some (o 0 0 0)))) ∷ ((t.list (t.tree (t.name (i.Written 0 (codes "a b")) (Some (o 0 1 1))) (t.tree (t.name (i.Written 0 (codes "y")) (Some (o 0 1 2))) t.no_trees)) t.proper (Some (o 0 1 0)))) ∷ []) ≡ ((w (c.part (c.Expression (c.Call (c.core (c.Ref (u (m.Free (codes "f")) (x.Written 0 (codes "f")) (Some (o 0 0 1)))) (c.core (c.Ref (u (m.Free (codes "m")) (x.Written 0 (codes "m")) (Some (o 0 0 2)))) c.no_cores)))) c.no_parts) 0 3 None ([])) ∷ (w (c.part (c.Expression (c.Call (c.core (c.Ref (u (m.Free (codes "a b")) (x.Written 0 (codes "a b")) (Some (o 0 1 1)))) (c.core (c.Ref (u (m.Free (codes "y")) (x.Written 0 (codes "y")) (Some (o 0 1 2)))) c.no_cores)))) c.no_parts) 0 3 None ([])) ∷ [])
unfolding base_names
core-621 = refl

pub core-658 : program_rows true 1 (((t.list (t.tree (t.name (i.Written 0 (codes "define-record-type")) (Some (o 0 1 1))) (t.tree (t.name (i.Written 0 (codes "y")) (Some (o 0 1 2))) (t.tree (t.list (t.tree (t.name (i.Written 0 (codes "make")) (Some (o 0 1 4))) (t.tree (t.name (i.Written 0 (codes "x")) (Some (o 0 1 5))) t.no_trees)) t.proper (Some (o 0 1 3))) (t.tree (t.name (i.Written 0 (codes "y?")) (Some (o 0 1 7))) (t.tree (t.list (t.tree (t.name (i.Written 0 (codes "x")) (Some (o 0 1 9))) (t.tree (t.name (i.Written 0 (codes "x-x")) (Some (o 0 1 10))) t.no_trees)) t.proper (Some (o 0 1 8))) (t.tree (t.list (t.tree (t.name (i.Written 0 (codes "unquote")) (Some (o 0 1 13))) (t.tree (t.name (i.Written 0 (codes "unquote-y")) (Some (o 0 1 14))) (t.tree (t.name (i.Written 0 (codes "set-unquote!")) (Some (o 0 1 15))) t.no_trees))) t.proper (Some (o 0 1 12))) t.no_trees)))))) t.proper (Some (o 0 1 0)))) ∷ ((t.list (t.tree (t.name (i.Written 0 (codes "quote")) None) (t.tree (t.name (i.Written 0 (codes "y")) (Some (o 0 2 1))) t.no_trees)) t.proper (Some (o 0 2 0)))) ∷ ((t.list (t.tree (t.list (t.tree (t.name (i.Written 0 (codes "case-lambda")) (Some (o 0 3 2))) (t.tree (t.list (t.tree (t.list (t.tree (t.name (i.Written 0 (codes "y")) (Some (o 0 3 5))) t.no_trees) t.proper (Some (o 0 3 4))) (t.tree (t.list (t.tree (t.name (i.Written 0 (codes "lambda")) (Some (o 0 3 8))) (t.tree (t.list (t.tree (t.name (i.Written 0 (codes "x")) (Some (o 0 3 10))) t.no_trees) (t.dotted (t.name (i.Written 0 (codes "y")) (Some (o 0 3 12)))) (Some (o 0 3 9))) (t.tree (t.name (i.Written 0 (codes "x")) (Some (o 0 3 14))) (t.tree (t.name (i.Written 0 (codes "y")) (Some (o 0 3 15))) t.no_trees)))) t.proper (Some (o 0 3 7))) t.no_trees)) t.proper (Some (o 0 3 3))) (t.tree (t.list (t.tree (t.list (t.tree (t.name (i.Written 0 (codes "y")) (Some (o 0 3 20))) t.no_trees) (t.dotted (t.name (i.Written 0 (codes "t")) (Some (o 0 3 22)))) (Some (o 0 3 19))) (t.tree (t.list (t.tree (t.name (i.Written 0 (codes "lambda")) (Some (o 0 3 25))) (t.tree (t.list (t.tree (t.name (i.Written 0 (codes "y")) (Some (o 0 3 27))) t.no_trees) t.proper (Some (o 0 3 26))) (t.tree (t.list (t.tree (t.name (i.Written 0 (codes "define")) (Some (o 0 3 30))) (t.tree (t.name (i.Written 0 (codes "y")) (Some (o 0 3 31))) (t.tree (t.name (i.Written 0 (codes "x")) (Some (o 0 3 32))) t.no_trees))) t.proper (Some (o 0 3 29))) (t.tree (t.name (i.Written 0 (codes "t")) (Some (o 0 3 34))) (t.tree (t.atom (t.Boolean true) (Some (o 0 3 35))) t.no_trees))))) t.proper (Some (o 0 3 24))) t.no_trees)) t.proper (Some (o 0 3 18))) t.no_trees))) t.proper (Some (o 0 3 1))) t.no_trees) t.proper (Some (o 0 3 0)))) ∷ ((t.list (t.tree (t.name (i.Written 0 (codes "define")) (Some (o 0 4 1))) (t.tree (t.name (i.Written 0 (codes "y")) (Some (o 0 4 2))) (t.tree (t.name (i.Written 0 (codes "x")) (Some (o 0 4 3))) t.no_trees))) t.proper (Some (o 0 4 0)))) ∷ ((t.list (t.tree (t.name (i.Written 0 (codes "define")) (Some (o 0 5 1))) (t.tree (t.name (i.Written 0 (codes "x")) (Some (o 0 5 2))) (t.tree (t.list (t.tree (t.name (i.Written 0 (codes "quote")) None) (t.tree (t.vector (t.tree (t.list t.no_trees t.proper (Some (o 0 5 5))) t.no_trees) (Some (o 0 5 4))) t.no_trees)) t.proper (Some (o 0 5 3))) t.no_trees))) t.proper (Some (o 0 5 0)))) ∷ ((t.list (t.tree (t.name (i.Written 0 (codes "quasiquote")) None) (t.tree (t.list (t.tree (t.list t.no_trees t.proper (Some (o 0 6 2))) (t.tree (t.list (t.tree (t.name (i.Written 0 (codes "unquote")) None) (t.tree (t.list (t.tree (t.name (i.Written 0 (codes "case-lambda")) (Some (o 0 6 6))) (t.tree (t.list (t.tree (t.list (t.tree (t.name (i.Written 0 (codes "x")) (Some (o 0 6 9))) t.no_trees) t.proper (Some (o 0 6 8))) (t.tree (t.list (t.tree (t.name (i.Written 0 (codes "if")) (Some (o 0 6 12))) (t.tree (t.atom (t.Character 99) (Some (o 0 6 13))) (t.tree (t.name (i.Written 0 (codes "x")) (Some (o 0 6 14))) (t.tree (t.name (i.Written 0 (codes "x")) (Some (o 0 6 15))) t.no_trees)))) t.proper (Some (o 0 6 11))) t.no_trees)) t.proper (Some (o 0 6 7))) (t.tree (t.list (t.tree (t.list (t.tree (t.name (i.Written 0 (codes "t")) (Some (o 0 6 20))) t.no_trees) (t.dotted (t.name (i.Written 0 (codes "a b")) (Some (o 0 6 22)))) (Some (o 0 6 19))) (t.tree (t.list (t.tree (t.name (i.Written 0 (codes "case-lambda")) (Some (o 0 6 25))) (t.tree (t.list (t.tree (t.list (t.tree (t.name (i.Written 0 (codes "x")) (Some (o 0 6 28))) t.no_trees) t.proper (Some (o 0 6 27))) (t.tree (t.name (i.Written 0 (codes "t")) (Some (o 0 6 30))) t.no_trees)) t.proper (Some (o 0 6 26))) (t.tree (t.list (t.tree (t.list (t.tree (t.name (i.Written 0 (codes "x")) (Some (o 0 6 34))) t.no_trees) (t.dotted (t.name (i.Written 0 (codes "t")) (Some (o 0 6 36)))) (Some (o 0 6 33))) (t.tree (t.name (i.Written 0 (codes "y")) (Some (o 0 6 38))) t.no_trees)) t.proper (Some (o 0 6 32))) t.no_trees))) t.proper (Some (o 0 6 24))) (t.tree (t.list (t.tree (t.name (i.Written 0 (codes "y")) (Some (o 0 6 42))) (t.tree (t.atom (t.Boolean true) (Some (o 0 6 43))) (t.tree (t.name (i.Written 0 (codes "lambda")) (Some (o 0 6 44))) t.no_trees))) t.proper (Some (o 0 6 41))) t.no_trees))) t.proper (Some (o 0 6 18))) t.no_trees))) t.proper (Some (o 0 6 5))) t.no_trees)) t.proper (Some (o 0 6 4))) (t.tree (t.list (t.tree (t.name (i.Written 0 (codes "unquote-splicing")) None) (t.tree (t.list (t.tree (t.list (t.tree (t.name (i.Written 0 (codes "lambda")) (Some (o 0 6 51))) (t.tree (t.list (t.tree (t.name (i.Written 0 (codes "t")) (Some (o 0 6 53))) (t.tree (t.name (i.Written 0 (codes "x")) (Some (o 0 6 54))) t.no_trees)) t.proper (Some (o 0 6 52))) (t.tree (t.atom (t.Quoted (codes "s")) (Some (o 0 6 56))) t.no_trees))) t.proper (Some (o 0 6 50))) (t.tree (t.list (t.tree (t.name (i.Written 0 (codes "case-lambda")) (Some (o 0 6 59))) (t.tree (t.list (t.tree (t.list (t.tree (t.name (i.Written 0 (codes "x")) (Some (o 0 6 62))) t.no_trees) t.proper (Some (o 0 6 61))) (t.tree (t.atom (t.Character 99) (Some (o 0 6 64))) t.no_trees)) t.proper (Some (o 0 6 60))) (t.tree (t.list (t.tree (t.list (t.tree (t.name (i.Written 0 (codes "unquote")) (Some (o 0 6 68))) t.no_trees) (t.dotted (t.name (i.Written 0 (codes "x")) (Some (o 0 6 70)))) (Some (o 0 6 67))) (t.tree (t.name (i.Written 0 (codes "y")) (Some (o 0 6 72))) t.no_trees)) t.proper (Some (o 0 6 66))) t.no_trees))) t.proper (Some (o 0 6 58))) (t.tree (t.name (i.Written 0 (codes "y")) (Some (o 0 6 75))) t.no_trees))) t.proper (Some (o 0 6 49))) t.no_trees)) t.proper (Some (o 0 6 48))) t.no_trees))) (t.dotted (t.name (i.Written 0 (codes "y")) (Some (o 0 6 78)))) (Some (o 0 6 1))) t.no_trees)) t.proper (Some (o 0 6 0)))) ∷ []) ≡ ((w (c.part (c.Fields (r (((b (c.Definition 0 0) (x.Written 0 (codes "y")) (Some (o 0 1 2)))) ∷ ((b (c.Definition 0 1) (x.Written 0 (codes "make")) (Some (o 0 1 4)))) ∷ ((b (c.Definition 0 2) (x.Written 0 (codes "y?")) (Some (o 0 1 7)))) ∷ ((b (c.Definition 0 3) (x.Written 0 (codes "x-x")) (Some (o 0 1 10)))) ∷ ((b (c.Definition 0 4) (x.Written 0 (codes "unquote-y")) (Some (o 0 1 14)))) ∷ ((b (c.Definition 0 5) (x.Written 0 (codes "set-unquote!")) (Some (o 0 1 15)))) ∷ []) (((b (c.LocalNumber (n 0 1 0)) (x.Written 0 (codes "x")) (Some (o 0 1 9)))) ∷ ((b (c.LocalNumber (n 0 1 1)) (x.Written 0 (codes "unquote")) (Some (o 0 1 13)))) ∷ []) ((1) ∷ []) ((f 0 (Some (o 0 1 5))) ∷ []))) c.no_parts) 0 0 None (((u (m.Standard (codes "define-record-type")) (x.Written 0 (codes "define-record-type")) (Some (o 0 1 1)))) ∷ [])) ∷ (w (c.part (c.Expression (c.Quote (t.name (codes "y") (Some (o 0 2 1))))) c.no_parts) 0 2 None (((u (m.Standard (codes "quote")) (x.Written 0 (codes "quote")) None)) ∷ [])) ∷ (w (c.part (c.Expression (c.Call (c.core (c.CaseLambda (c.clause (bs (((b (c.LocalNumber (n 0 3 0)) (x.Written 0 (codes "y")) (Some (o 0 3 5)))) ∷ []) false) (c.Body (c.part (c.Expression (c.Lambda (bs (((b (c.LocalNumber (n 0 3 1)) (x.Written 0 (codes "x")) (Some (o 0 3 10)))) ∷ ((b (c.LocalNumber (n 0 3 2)) (x.Written 0 (codes "y")) (Some (o 0 3 12)))) ∷ []) true) (c.Body (c.part (c.Expression (c.Ref (u (m.Local (n 0 3 1)) (x.Written 0 (codes "x")) (Some (o 0 3 14))))) (c.part (c.Expression (c.Ref (u (m.Local (n 0 3 2)) (x.Written 0 (codes "y")) (Some (o 0 3 15))))) c.no_parts))))) c.no_parts)) (c.clause (bs (((b (c.LocalNumber (n 0 3 3)) (x.Written 0 (codes "y")) (Some (o 0 3 20)))) ∷ ((b (c.LocalNumber (n 0 3 4)) (x.Written 0 (codes "t")) (Some (o 0 3 22)))) ∷ []) true) (c.Body (c.part (c.Expression (c.Lambda (bs (((b (c.LocalNumber (n 0 3 5)) (x.Written 0 (codes "y")) (Some (o 0 3 27)))) ∷ []) false) (c.Body (c.part (c.Define (b (c.LocalNumber (n 0 3 6)) (x.Written 0 (codes "y")) (Some (o 0 3 31))) (c.Ref (u (m.Global 0 (x.Written 0 (codes "x"))) (x.Written 0 (codes "x")) (Some (o 0 3 32))))) (c.part (c.Expression (c.Ref (u (m.Local (n 0 3 4)) (x.Written 0 (codes "t")) (Some (o 0 3 34))))) (c.part (c.Expression (c.Const (t.Boolean true))) c.no_parts)))))) c.no_parts)) c.no_clauses))) c.no_cores))) c.no_parts) 0 14 None (((u (m.Standard (codes "case-lambda")) (x.Written 0 (codes "case-lambda")) (Some (o 0 3 2)))) ∷ ((u (m.Standard (codes "lambda")) (x.Written 0 (codes "lambda")) (Some (o 0 3 8)))) ∷ ((u (m.Standard (codes "lambda")) (x.Written 0 (codes "lambda")) (Some (o 0 3 25)))) ∷ ((u (m.Standard (codes "define")) (x.Written 0 (codes "define")) (Some (o 0 3 30)))) ∷ [])) ∷ (w (c.part (c.Expression (c.Set (u (m.Global 0 (x.Written 0 (codes "y"))) (x.Written 0 (codes "y")) (Some (o 0 4 2))) (c.Ref (u (m.Global 0 (x.Written 0 (codes "x"))) (x.Written 0 (codes "x")) (Some (o 0 4 3)))))) c.no_parts) 0 2 None (((u (m.Standard (codes "define")) (x.Written 0 (codes "define")) (Some (o 0 4 1)))) ∷ [])) ∷ (w (c.part (c.Define (b (c.Definition 0 6) (x.Written 0 (codes "x")) (Some (o 0 5 2))) (c.Quote (t.vector (t.tree (t.list t.no_trees t.proper None) t.no_trees) None))) c.no_parts) 0 3 None (((u (m.Standard (codes "define")) (x.Written 0 (codes "define")) (Some (o 0 5 1)))) ∷ ((u (m.Standard (codes "quote")) (x.Written 0 (codes "quote")) None)) ∷ [])) ∷ (w c.no_parts 0 25 (e 43 (Some (o 0 6 44)) (codes "lambda")) ([])) ∷ [])
unfolding base_names
core-658 = refl
