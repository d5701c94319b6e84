-- What is found of strings that mean no text tells the definition's diagnostics.
use Rattle.std.proofs.Common.{◌≡◌, ℕ, ◌+◌, ◌<◌, ◌≤◌, List, [], ◌∷◌, ◌++◌, append_assoc, length, get_or, take, map, Option, Some, None, slice_get, refl, sym, ap, ◌∙◌, arith}
use Rattle.std.specs.Option.{option_map}
use Rattle.std.proofs.lemmas.List.{take_more, map-append, length-map, take_all}
use Rattle.std.proofs.lemmas.Option.{same_Some, slice_get-map, slice_get_read, slice_get_within, get_or_from_slice_get}
use Rattle.scheme_model.specs.Diagnostics.{Diagnostic, lost_diagnostics}
use Rattle.scheme_model.specs.Included.{LostString}
use Rattle.unit_sources.specs.UnitsRead.{lost_as}
use Rattle.unit_sources.specs.declared.units.LostString as code
use Rattle.scheme_model.specs.DiagnosticTexts.{worded}
use Rattle.read_documents.specs.declared.findings.At.{At}
use Rattle.read_documents.specs.declared.findings.Finding.{Finding}
use Rattle.read_documents.specs.Findings.{all_told, errors_in, Adds}
use Rattle.read_documents.proofs.DiagnosedLaws.{adds_more}
use Rattle.program_findings.specs.LostFound.{lost_found}

lost_told : (ls : List LostString) → all_told (map lost_found ls) ≡ lost_diagnostics ls
lost_told [] = refl
lost_told (l ∷ ls) = ap (λ (ds : List Diagnostic). all_told (lost_found l ∷ []) ++ ds) (lost_told ls)

no_errors : (ls : List LostString) → errors_in (map lost_found ls) ≡ []
no_errors [] = refl
no_errors (l ∷ ls) = no_errors ls

pub lost_adds : (old new : List Finding) (ls : List LostString) → new ≡ old ++ map lost_found ls → Adds old new (lost_diagnostics ls) []
lost_adds old new ls e = adds_more old new (map lost_found ls) (lost_diagnostics ls) [] e (lost_told ls) (no_errors ls)

-- ---- strings one by one

-- the string at a place
pub record StringAt (ls : List LostString) (i : ℕ) (c : code.LostString) : Type 0 where
  pub it : LostString
  pub there : slice_get ls i ≡ Some it
  pub is : c ≡ lost_as it

pub string_at : (cs : List code.LostString) (ls : List LostString) (i : ℕ) (c : code.LostString) → i < length cs → c ≡ get_or cs i c → cs ≡ map lost_as ls → StringAt ls i c
string_at cs ls i c low is e = by (slice_get ls i) refl (sym (slice_get-map lost_as ls i) ∙ sym (ap (λ (xs : List code.LostString). slice_get xs i) e) ∙ slice_get_read cs (length cs) i c refl low is)
  where
    by : (o : Option LostString) → slice_get ls i ≡ o → option_map lost_as (slice_get ls i) ≡ Some c → StringAt ls i c
    by None at h = let none : None ≡ Some c = sym (ap (option_map lost_as) at) ∙ h in absurd cc
    by (Some l) at h = record { it = l; there = at; is = sym (same_Some (lost_as l) c (sym (ap (option_map lost_as) at) ∙ h)) }

-- one string more
pub lost_more : (ls : List LostString) (i : ℕ) (l : LostString) (old now new : List Finding) → slice_get ls i ≡ Some l → now ≡ old ++ map lost_found (take i ls) → new ≡ now ++ lost_found l ∷ [] → new ≡ old ++ map lost_found (take (i + 1) ls)
lost_more ls i l old now new at so more =
    more ∙ ap (λ (fs : List Finding). fs ++ lost_found l ∷ []) so ∙ append_assoc old (map lost_found (take i ls)) (lost_found l ∷ [])
    ∙ ap (λ (fs : List Finding). old ++ fs) (sym (map-append lost_found (take i ls) (l ∷ [])))
    ∙ ap (λ (x : LostString). old ++ map lost_found (take i ls ++ x ∷ [])) (sym (get_or_from_slice_get ls i l l at))
    ∙ ap (λ (ks : List LostString). old ++ map lost_found ks) (sym (take_more ls i l (slice_get_within ls i l at)))

-- all strings
pub lost_all : (cs : List code.LostString) (ls : List LostString) (i : ℕ) (old new : List Finding) → cs ≡ map lost_as ls → length cs ≤ i → new ≡ old ++ map lost_found (take i ls) → Adds old new (lost_diagnostics ls) []
lost_all cs ls i old new e over h =
    let many : length cs ≡ length ls = ap (λ (xs : List code.LostString). length xs) e ∙ length-map ls lost_as in
    lost_adds old new ls (h ∙ ap (λ (ks : List LostString). old ++ map lost_found ks) (take_all i ls (omega arith)))

-- the finding of a string is that of the definition's
pub string_found : (c : code.LostString) (l : LostString) (at : At) (f : Finding) → c ≡ lost_as l → at ≡ record { document = c.document; span = c.span } → f ≡ record { at = Some at; form = 0; code = 105; message = worded 105 c.characters } → f ≡ lost_found l
string_found c l at f is place e =
    e ∙ ap (λ (a : At). record { at = Some a; form = 0; code = 105; message = worded 105 c.characters }) place
    ∙ ap (λ (s : code.LostString). record { at = Some (record { document = s.document; span = s.span }); form = 0; code = 105; message = worded 105 s.characters }) is
