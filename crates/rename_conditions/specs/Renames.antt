-- What a rename of an identifier edits, or why it is refused: nine conditions in their order.
use Rattle.std.specs.Prelude.{ℕ, suc, nat_lt, List, [], ◌∷◌, map, filter, length, Bool, ◌||◌, Option, Some, None, Result, Ok, Err, codes, if◌then◌else◌}
use Rattle.std.specs.List.{flat_map}
use Rattle.std.specs.Option.{ok_or}
use Rattle.std.specs.Str.{bytes_eq}
use Rattle.ls_base.specs.Limits.{max_text}
use Rattle.scheme_model.specs.declared.Occ.{Occ}
use Rattle.scheme_model.specs.Answers.{ordered_by, bytes_before}
use Rattle.scheme_model.specs.Diagnostics.{Span, Bytes, Diagnostic, sorted, unit_diagnostics}
use Rattle.scheme_model.specs.Entries.{is_below}
use Rattle.scheme_model.specs.Program.{Program, UnitResult, result_at}
use Rattle.scheme_model.specs.Sites.{name_at}
use Rattle.scheme_model.specs.Spelling.{Link, is_joined, prefixes_of, standard_origins}
use Rattle.rename_model.specs.Difference.{Difference, first_difference}
use Rattle.text_edits.specs.Members.{prefix_of, stem_of}
use Rattle.rename_conditions.specs.Readers.{Reading, Reader, spans_in}
use Rattle.rename_conditions.specs.Opened.{Opened, DocEdits, opened, program_read, place_of, class_in, reach_in, edits_in, edited_in, told_edits, plan_in}

-- why it is refused: no identifier with a link stands there; a standard name spells it; the new name isn't one; a document doesn't
-- read; the new name loses the prefix; an occurrence would have two names; a unit in reach has an Error; a text would be too long; or
-- the programs differ
pub data Refusal : Type 0 where
  NotBound : Refusal
  IsStandard : (name : List ℕ) → Refusal
  BadName : Refusal
  Unreadable : (document : ℕ) → Refusal
  PrefixLost : (prefix : List ℕ) → Refusal
  PrefixClash : Bytes → Refusal
  BrokenUnit : Bytes → (code : ℕ) → Refusal
  TooLong : (document : ℕ) → Refusal
  Differs : Difference → Refusal

abbrev pub first_of : {A : Type 0} → List A → Option A
first_of [] = None
first_of (x ∷ xs) = Some x

-- ---- the conditions

-- the occurrence, where a link joins it to others or to a standard name
abbrev pub joined_at : List Link → Option Occ → Option Occ
joined_at ls None = None
joined_at ls (Some o) = if is_joined ls o then Some o else None

-- the standard names that spell the class, in byte order
abbrev pub standard_names : Opened → Occ → List (List ℕ)
standard_names w o = ordered_by is_below (standard_origins w.links (class_in w o))

-- names that no identifier can get
abbrev pub is_reserved : List ℕ → Bool
is_reserved s = bytes_eq s [] || bytes_eq s (codes "...") || bytes_eq s (codes "_")

abbrev pub new_symbol : Option (List ℕ) → Option (List ℕ)
new_symbol None = None
new_symbol (Some s) = if is_reserved s then None else Some s

-- the first document from a number on that doesn't read
abbrev pub first_unread : ℕ → List (Option Reading) → Option ℕ
first_unread n [] = None
first_unread n (None ∷ rs) = Some n
first_unread n (Some r ∷ rs) = first_unread (suc n) rs

-- the members of the class with two prefixes, by document and start
abbrev pub clashes : Opened → Occ → List Bytes
clashes w o = ordered_by bytes_before (map (place_of w) (filter (λ p. nat_lt 1 (length (prefixes_of w.links p []))) (class_in w o)))

-- the Errors of a unit by document, start and code
abbrev pub errors_of : List (List Span) → Program → Option UnitResult → List Diagnostic
errors_of spans p None = []
errors_of spans p (Some r) = filter (λ (d : Diagnostic). nat_lt d.code 100) (sorted (unit_diagnostics spans p r r.fault))

-- those of the units in reach, in the order of the units
abbrev pub errors_in_reach : Opened → Occ → List Diagnostic
errors_in_reach w o = flat_map (λ unit. errors_of (map spans_in w.readings) w.program (result_at w.program.units unit)) (reach_in w o)

-- the first text from a number on that is too long
abbrev pub first_too_long : ℕ → List (List ℕ) → Option ℕ
first_too_long n [] = None
first_too_long n (text ∷ texts) = if nat_lt max_text (length text) then Some n else first_too_long (suc n) texts

-- the first difference of the program that the edited texts are
abbrev pub difference_by : Reader → Opened → Occ → (stem : List ℕ) → Option Difference
difference_by r w o stem = first_difference w.units w.program (program_read r w.uris (edited_in w o stem)) (plan_in w o stem)

-- ---- in their order

infixl 10 ◌>>=◌
abbrev pub ◌>>=◌ : {A B : Type 0} → Result A Refusal → (A → Result B Refusal) → Result B Refusal
(Ok a) >>= f = f a
(Err e) >>= f = Err e

-- refused where there is one
abbrev pub unless : {A : Type 0} → Option A → (A → Refusal) → Result (Unit {0}) Refusal
unless None why = Ok tt
unless (Some a) why = Err (why a)

abbrev pub broken : Diagnostic → Refusal
broken d = BrokenUnit (record { document = d.document; span = record { start = d.start; end = d.end } }) d.code

-- what a rename of the identifier at a place to a new name edits
abbrev pub rename_in : Reader → Opened → Option Occ → (new : List ℕ) → Result (List DocEdits) Refusal
rename_in r w at new =
    ok_or (joined_at w.links at) NotBound >>= λ o.
    unless (first_of (standard_names w o)) IsStandard >>= λ done.
    ok_or (new_symbol (r.symbol new)) BadName >>= λ name.
    unless (first_unread 0 w.readings) Unreadable >>= λ done.
    ok_or (stem_of (prefix_of w.links o) name) (PrefixLost (prefix_of w.links o)) >>= λ stem.
    unless (first_of (clashes w o)) PrefixClash >>= λ done.
    unless (first_of (errors_in_reach w o)) broken >>= λ done.
    unless (first_too_long 0 (edited_in w o stem)) TooLong >>= λ done.
    unless (difference_by r w o stem) Differs >>= λ done.
    Ok (told_edits (edits_in w o stem))

-- a rename of the identifier at an offset of a document
abbrev pub rename : Reader → (uris : List (List ℕ)) → List (List ℕ) → (document offset : ℕ) → (new : List ℕ) → Result (List DocEdits) Refusal
rename r uris texts document offset new =
    let w = opened r uris texts in rename_in r w (name_at (map spans_in w.readings) w.program.units document offset) new
