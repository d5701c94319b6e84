-- Open documents, and what their units come to, from outside.
-- Written by tests/definitions/rows; each row is checked by computing it.
use Rattle.std.specs.Prelude.{◌≡◌, ℕ, Bool, false, List, [], ◌∷◌, Option, Some, None, codes, refl}
use Rattle.scheme_model.specs.declared.Occ.{Occ}
use Rattle.scheme_model.specs.StandardNames.{base_names}
use Rattle.scheme_model.specs.Identifiers.{Number}
use Rattle.scheme_model.specs.Ident as x
use Rattle.scheme_model.specs.Trees as t
use Rattle.scheme_model.specs.Meaning as m
use Rattle.scheme_model.specs.Cores as c
use Rattle.scheme_model.specs.Expression.{no_rules}
use Rattle.scheme_model.proofs.Shown.{FaultRow, FormRow, UnitRow, unit_rows}
use Rattle.std.specs.Char.{encode_utf8}
use Rattle.scheme_model.specs.StandardLibraries.{standard_libraries}
use Rattle.scheme_model.specs.Prelude.{prelude}
use Rattle.scheme_model.specs.Kinds as k
use Rattle.scheme_model.specs.Data as g
use Rattle.scheme_model.specs.Diagnostics.{Span}

abbrev s : ℕ → ℕ → Span
s start end = record { start = start; end = end }

abbrev p : ℕ → ℕ → ℕ → ℕ → g.Place
p first last start end = record { first = first; last = last; start = start; end = end }

abbrev v : Option ℕ → List FormRow → UnitRow
v broken forms = record { broken = broken; forms = forms }

abbrev o : ℕ → ℕ → ℕ → Occ
o unit form token = record { unit = unit; form = form; token = token }

abbrev n : ℕ → ℕ → ℕ → Number
n unit form count = record { unit = unit; form = form; count = count }

abbrev u : m.Meaning → x.Ident → Option Occ → c.Target
u meaning ident occ = record { meaning = meaning; ident = ident; occ = occ }

abbrev b : c.Bound → x.Ident → Option Occ → c.Binder
b bound ident occ = record { bound = bound; ident = ident; occ = occ }

abbrev bs : List c.Binder → Bool → c.Binders
bs names rest = record { names = names; rest = rest }

abbrev l : c.Target → Bool → c.RuleLeaf
l target literal = record { target = target; literal = literal }

abbrev d : c.Binder → List c.RuleLeaf → c.MacroDef
d binder leaves = record { binder = binder; rules = no_rules; leaves = leaves }

abbrev f : ℕ → Option Occ → c.FieldUse
f field occ = record { field = field; occ = occ }

abbrev r : List c.Binder → List c.Binder → List ℕ → List c.FieldUse → c.RecordType
r binders fields modified used = record { binders = binders; fields = fields; modified = modified; used = used }

abbrev w : c.Parts → ℕ → ℕ → Option FaultRow → List c.Target → FormRow
w items uses nodes fault keywords = record { items = items; uses = uses; nodes = nodes; fault = fault; keywords = keywords }

abbrev e : ℕ → Option Occ → List ℕ → Option FaultRow
e code at symbol = Some (record { code = code; at = at; symbol = symbol })

pub include-is-a-form : unit_rows ((Some (((g.list (p 0 20 0 70) (g.part (g.atom (p 1 1 1 15) (g.spelled (k.Name (codes "define-library") false))) (g.part (g.list (p 2 4 16 19) (g.part (g.atom (p 3 3 17 18) (g.spelled (k.Name (codes "l") false))) g.none)) (g.part (g.list (p 5 8 20 36) (g.part (g.atom (p 6 6 21 31) (g.spelled (k.Name (codes "include-ci") false))) (g.part (g.atom (p 7 7 32 35) (g.spelled (k.Quoted (codes "a")))) g.none))) (g.part (g.list (p 9 15 37 59) (g.part (g.atom (p 10 10 38 44) (g.spelled (k.Name (codes "import") false))) (g.part (g.list (p 11 14 45 58) (g.part (g.atom (p 12 12 46 52) (g.spelled (k.Name (codes "scheme") false))) (g.part (g.atom (p 13 13 53 57) (g.spelled (k.Name (codes "base") false))) g.none))) g.none))) (g.part (g.list (p 16 19 60 69) (g.part (g.atom (p 17 17 61 66) (g.spelled (k.Name (codes "begin") false))) (g.part (g.atom (p 18 18 67 68) (g.spelled (k.Numeral (codes "1")))) g.none))) g.none))))))) ∷ [])) ∷ []) ≡ ((v None ((w c.no_parts 0 0 (e 48 (Some (o 0 0 0)) []) ([])) ∷ (w c.no_parts 0 0 None ([])) ∷ (w (c.part (c.Expression (c.Const (t.Numeral (codes "1")))) c.no_parts) 0 2 None ([])) ∷ [])) ∷ [])
unfolding base_names standard_libraries prelude encode_utf8
include-is-a-form = refl
