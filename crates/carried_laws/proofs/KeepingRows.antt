-- Small programs of which exactly the carried forms are kept, computed; and a part whose forms have other numbers where they are included
-- than in the part.
use Rattle.std.specs.Prelude.{◌≡◌, ℕ, suc, List, [], ◌∷◌, map, length, false, Option, Some, None, Result, Ok, Err, codes, refl, if◌then◌else◌}
use Rattle.std.specs.List.{flat_map}
use Rattle.std.specs.Str.{bytes_eq}
use Rattle.std.specs.Char.{encode_utf8}
use Rattle.scheme_model.specs.StandardNames.{base_names}
use Rattle.scheme_model.specs.StandardLibraries.{standard_libraries}
use Rattle.scheme_model.specs.Prelude.{prelude}
use Rattle.scheme_model.specs.Kinds.{Name, Numeral, Quoted}
use Rattle.scheme_model.specs.Data.{Place, spelled, Datum, atom, list, Data, none, part}
use Rattle.scheme_model.specs.declared.Occ.{Occ}
use Rattle.scheme_model.specs.Cores.{Ref, Parts, no_parts, part as part_of, Expression}
use Rattle.scheme_model.specs.Steps.{Broken}
use Rattle.scheme_model.specs.UnitExpansion.{Formed}
use Rattle.scheme_model.specs.Program.{UnitResult, known_in, units_of, prepare}
use Rattle.scheme_model.specs.ScopedProgram.{scoped_work, scoped_before}
use Rattle.kept_forms.specs.KeptPrograms.{kept_work, program_worked}
use Rattle.carried_forms.specs.Worked.{OpenDocument, read_documents}
use Rattle.carried_forms.specs.Carried.{carried, work}
use Rattle.carried_laws.specs.CarriedOver.{numbers_between}
use Rattle.carried_laws.specs.CarriedKeeping.{carried_keeping}

-- ---- texts

-- what stands from a token's number on, and the number behind it
abbrev Text : Type 0
Text = ℕ → Datum × ℕ

abbrev placed : ℕ → ℕ → Place
placed first last = record { first = first; last = last; start = 0; end = 0 }

abbrev word : List ℕ → Text
word s = λ n. (atom (placed n n) (spelled (Name s false)), suc n)

abbrev numeral : List ℕ → Text
numeral s = λ n. (atom (placed n n) (spelled (Numeral s)), suc n)

abbrev quoted : List ℕ → Text
quoted s = λ n. (atom (placed n n) (spelled (Quoted s)), suc n)

abbrev data_of : List Text → ℕ → Data × ℕ
data_of [] n = (none, n)
data_of (t ∷ ts) n = let q = t n in let rest = data_of ts q.1 in (part q.0 rest.0, rest.1)

abbrev form : List Text → Text
form ts = λ n. let q = data_of ts (suc n) in (list (placed n q.1) q.0, suc q.1)

abbrev all_data : List Text → ℕ → List Datum
all_data [] n = []
all_data (t ∷ ts) n = let q = t n in q.0 ∷ all_data ts q.1

-- a document that names no other
abbrev alone : List ℕ → List Text → OpenDocument
alone uri ts = record { uri = uri; data_in = record { read = Some (all_data ts 0); meant = λ s. None } }

-- ---- what is worked

-- the carried forms, the uses that are worked where they are kept, and the work of the event
abbrev worked_between : (before after : List OpenDocument) → List (ℕ × ℕ) × ℕ × ℕ
worked_between b a =
    let ds = read_documents a in let all = units_of ds in let ps = prepare all 0 all in
    (carried b a, program_worked all ps (known_in ds) (carried_keeping b a) (length ps) scoped_before, work b a)

-- what the forms of all units come to
abbrev kept_between : (before after : List OpenDocument) → List (List Formed)
kept_between b a =
    let ds = read_documents a in let all = units_of ds in let ps = prepare all 0 all in
    map (λ (r : UnitResult). r.forms) (kept_work all ps (known_in ds) (carried_keeping b a) (length ps) scoped_before).results

abbrev anew : List OpenDocument → List (List Formed)
anew a =
    let ds = read_documents a in let all = units_of ds in let ps = prepare all 0 all in
    map (λ (r : UnitResult). r.forms) (scoped_work all ps (known_in ds) (length ps) scoped_before).results

-- (define-syntax m (syntax-rules () ((_ a) body)))
abbrev macro : Text → Text
macro body = form (word (codes "define-syntax") ∷ word (codes "m") ∷ form (word (codes "syntax-rules") ∷ form [] ∷ form (form (word (codes "_") ∷ word (codes "a") ∷ []) ∷ body ∷ []) ∷ []) ∷ [])

-- (m k)
abbrev use_of : List ℕ → Text
use_of k = form (word (codes "m") ∷ numeral k ∷ [])

-- (define x (m k))
abbrev defining : List ℕ → List ℕ → Text
defining x k = form (word (codes "define") ∷ word x ∷ use_of k ∷ [])

abbrev program : List Text → List OpenDocument
program ts = alone (codes "file:///a.scm") ts ∷ []

abbrev three : List Text
three = macro (word (codes "a")) ∷ defining (codes "x") (codes "1") ∷ use_of (codes "2") ∷ []

abbrev first : List OpenDocument
first = program three

-- (define y (m 3)) in front of all
abbrev in_front : List OpenDocument
in_front = program (defining (codes "y") (codes "3") ∷ three)

pub form_in_front : worked_between first in_front ≡ ((0, 1) ∷ (0, 2) ∷ (0, 3) ∷ [], 1, 1)
unfolding base_names standard_libraries prelude encode_utf8
form_in_front = refl

pub form_in_front_kept : kept_between first in_front ≡ anew in_front
unfolding base_names standard_libraries prelude encode_utf8
form_in_front_kept = refl

-- the macro gives a list instead
abbrev other_macro : List OpenDocument
other_macro = program (macro (form (word (codes "list") ∷ word (codes "a") ∷ [])) ∷ defining (codes "x") (codes "1") ∷ use_of (codes "2") ∷ [])

pub macro_changed : worked_between first other_macro ≡ ([], 2, 2)
unfolding base_names standard_libraries prelude encode_utf8
macro_changed = refl

pub macro_changed_kept : kept_between first other_macro ≡ anew other_macro
unfolding base_names standard_libraries prelude encode_utf8
macro_changed_kept = refl

-- a library, and the same with a declaration that is none
abbrev library : List Text → List OpenDocument
library more =
    alone (codes "file:///l.sld") (form (word (codes "define-library") ∷ form (word (codes "l") ∷ []) ∷ form (word (codes "import") ∷ form (word (codes "scheme") ∷ word (codes "base") ∷ []) ∷ []) ∷ form (word (codes "begin") ∷ macro (word (codes "a")) ∷ use_of (codes "2") ∷ []) ∷ more) ∷ []) ∷ []

abbrev sound : List OpenDocument
sound = library []

abbrev broken : List OpenDocument
broken = library (numeral (codes "5") ∷ [])

pub unit_broken : worked_between sound broken ≡ ([], 0, 0)
unfolding base_names standard_libraries prelude encode_utf8
unit_broken = refl

pub unit_mended : worked_between broken sound ≡ ([], 1, 1)
unfolding base_names standard_libraries prelude encode_utf8
unit_mended = refl

-- ---- homes that don't go on

abbrev included : List ℕ → Text
included s = form (word (codes "include") ∷ quoted s ∷ [])

abbrev meaning : List ℕ → Option ℕ
meaning s = if bytes_eq s (codes "p.scm") then Some 1 else if bytes_eq s (codes "a.scm") then Some 2 else if bytes_eq s (codes "b.scm") then Some 3 else None

abbrev naming : List ℕ → List Text → OpenDocument
naming uri ts = record { uri = uri; data_in = record { read = Some (all_data ts 0); meant = meaning } }

-- u.scm includes p.scm, in which y stands between two lists that include a text without forms
abbrev around_y : List ℕ → List OpenDocument
around_y s =
    naming (codes "/u.scm") (included (codes "p.scm") ∷ []) ∷ naming (codes "/p.scm") (included s ∷ word (codes "y") ∷ included s ∷ []) ∷ naming (codes "/a.scm") [] ∷ naming (codes "/b.scm") [] ∷ []

abbrev of_a : List OpenDocument
of_a = around_y (codes "a.scm")

abbrev of_b : List OpenDocument
of_b = around_y (codes "b.scm")

-- y goes on in u.scm, and is carried; but no form of p.scm goes on in p.scm, so y gets a number there that no form has
pub part_of_other_lists : ◌≡◌ {A = List (ℕ × ℕ) × ℕ} (carried of_a of_b, (numbers_between of_a of_b).form 1 1) ((0, 0) ∷ [], 4)
unfolding base_names standard_libraries prelude encode_utf8
part_of_other_lists = refl

-- the form in the part that a name is at
abbrev form_at : Parts → List ℕ
form_at no_parts = []
form_at (part_of (Expression (Ref t)) ps) = of_place t.occ
  where
    of_place : Option Occ → List ℕ
    of_place None = []
    of_place (Some o) = o.form ∷ []
form_at (part_of p ps) = []

-- the results are latest first: nothing of p.scm, and y in u.scm
abbrev name_at : List (List Formed) → List (List ℕ)
name_at rs = map (λ fs. flat_map (λ (f : Formed). of_result f.result) fs) rs
  where
    of_result : Result Parts Broken → List ℕ
    of_result (Ok ps) = form_at ps
    of_result (Err e) = []

pub place_kept : name_at (kept_between of_a of_b) ≡ [] ∷ (4 ∷ []) ∷ []
unfolding base_names standard_libraries prelude encode_utf8
place_kept = refl

pub place_anew : name_at (anew of_b) ≡ [] ∷ (1 ∷ []) ∷ []
unfolding base_names standard_libraries prelude encode_utf8
place_anew = refl
